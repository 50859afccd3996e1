use Rattle.std.proofs.Common.{◌≡◌, ℕ, List, Err, Some, IfSome, arith, subst}
use Rattle.type_rules.specs.Known.{shape_of}
use Rattle.input_parts.specs.Parts.{script_of, service_of}
use Rattle.due_parts.specs.Scripts.{IsDueScript, two_parts}
use Rattle.due_parts.proofs.DueLemmas.{typed_served}
use Rattle.due_parts.specs.Served.{IsServed}
use Rattle.due_replay.specs.Replayed.{IsDueJournal, IsDueReplay}
use Rattle.due_replay.proofs.DueLemmas.{both_there, found_refused, found_typed}
use Rattle.due_parts.proofs.PartLemmas.{parts_short}
use Rattle.due_replay.proofs.TreeLemmas.{has_names, tree_of, well_formed}
use Rattle.due_replay.proofs.replayed.judge_replay.Goals as goal

pub judge_script-requires-clause-shape : goal.judge_script-requires-clause-shape
judge_script-requires-clause-shape c = well_formed c.in-Ok.typed c.in-Ok.program (tree_of c.three_parts.result.0.now c.in-Ok.typed c.in-Ok.program c.in-Ok.ensures)

pub judge_script-requires-clause-names : goal.judge_script-requires-clause-names
judge_script-requires-clause-names c = has_names c.in-Ok.typed c.in-Ok.program (tree_of c.three_parts.result.0.now c.in-Ok.typed c.in-Ok.program c.in-Ok.ensures)

pub judge_script-requires-clause-tree : goal.judge_script-requires-clause-tree
judge_script-requires-clause-tree c = tree_of c.three_parts.result.0.now c.in-Ok.typed c.in-Ok.program c.in-Ok.ensures

pub judge_script-requires-clause-short : goal.judge_script-requires-clause-short
judge_script-requires-clause-short c =
    let input = c.args.input.now in
    let found : two_parts (script_of input) ≡ Some (c.in-Some.script.now, c.in-Some.journal.now) = subst (λ o. IfSome o (λ parts. two_parts (script_of input) ≡ Some (parts.0.now, parts.1.now))) c.in-Some.is c.three_parts.ensures.parts in
    let short = parts_short input c.in-Some.script.now c.in-Some.journal.now found in
    omega (arith, short.1)

pub returns-in-Ok : goal.returns-in-Ok
returns-in-Ok c =
    let input = c.args.input.now in
    let script = c.in-Some.script.now in
    let journal = c.in-Some.journal.now in
    let P = λ (s j : List ℕ). IsDueScript (λ tree x. IsDueJournal (IsDueReplay c.args.show c.args.crew tree x) (shape_of tree) j) s in
    let found : two_parts (script_of input) ≡ Some (script, journal) = subst (λ o. IfSome o (λ parts. two_parts (script_of input) ≡ Some (parts.0.now, parts.1.now))) c.in-Some.is c.three_parts.ensures.parts in
    let read = typed_served (service_of input) c.three_parts.result.0.now c.in-Ok.typed c.in-Ok.program c.three_parts.ensures.service c.in-Ok.ensures in
    both_there P input script journal c.judge_script.result found (found_typed (P script journal) (service_of input) c.in-Ok.typed c.in-Ok.program c.judge_script.result read c.judge_script.ensures)

pub returns-in-Err : goal.returns-in-Err
returns-in-Err c =
    let input = c.args.input.now in
    let script = c.in-Some.script.now in
    let journal = c.in-Some.journal.now in
    let P = λ (s j : List ℕ). IsDueScript (λ tree x. IsDueJournal (IsDueReplay c.args.show c.args.crew tree x) (shape_of tree) j) s in
    let found : two_parts (script_of input) ≡ Some (script, journal) = subst (λ o. IfSome o (λ parts. two_parts (script_of input) ≡ Some (parts.0.now, parts.1.now))) c.in-Some.is c.three_parts.ensures.parts in
    both_there P input script journal (Err c.in-Err.refusal) found (found_refused (P script journal) (service_of input) c.in-Err.refusal (subst (λ t. IsServed t (Err c.in-Err.refusal)) c.three_parts.ensures.service c.in-Err.ensures))
