use Rattle.std.proofs.Common.{◌≡◌, ℕ, List, Err, Some, IfSome, arith, subst, sym}
use Rattle.type_rules.specs.Known.{shape_of}
use Rattle.mace_ast.specs.Decls.{ServiceTree}
use Rattle.input_parts.specs.Parts.{script_of, service_of}
use Rattle.due_parts.specs.declared.telling.Telling.{Telling}
use Rattle.due_parts.specs.Accepted.{IsAcceptedBy}
use Rattle.due_parts.specs.Scripts.{IsDueBehindBoth, two_parts}
use Rattle.due_parts.proofs.AcceptLemmas.{refused_accepted, typed_accepted}
use Rattle.due_parts.proofs.DueLemmas.{typed_served}
use Rattle.due_points.specs.Resumed.{IsDueFrom, IsDuePoint}
use Rattle.due_points.proofs.AcceptLemmas.{named_typed, shaped_typed}
use Rattle.due_parts.proofs.PartLemmas.{parts_short}
use Rattle.due_points.proofs.resumed.accept_resumed.Goals as goal

pub accept_point-requires-clause-shape : goal.accept_point-requires-clause-shape
accept_point-requires-clause-shape c = shaped_typed c.three_parts.result.0.now c.in-Ok.typed c.in-Ok.program c.in-Ok.ensures

pub accept_point-requires-clause-names : goal.accept_point-requires-clause-names
accept_point-requires-clause-names c = named_typed c.three_parts.result.0.now c.in-Ok.typed c.in-Ok.program c.in-Ok.ensures

pub accept_point-requires-clause-short : goal.accept_point-requires-clause-short
accept_point-requires-clause-short c =
    let input = c.args.input.now in
    let found : two_parts (script_of input) ≡ Some (c.in-Some.point.now, c.in-Some.script.now) = subst (λ o. IfSome o (λ parts. two_parts (script_of input) ≡ Some (parts.0.now, parts.1.now))) c.in-Some.is c.three_parts.ensures.parts in
    let short = parts_short input c.in-Some.point.now c.in-Some.script.now found in
    omega (arith, short.0)

pub returns-in-Ok : goal.returns-in-Ok
returns-in-Ok c =
    let input = c.args.input.now in
    let point = c.in-Some.point.now in
    let script = c.in-Some.script.now in
    let P = λ (telling : Telling) (p s : List ℕ) (tree : ServiceTree). IsDuePoint (IsDueFrom telling tree s) (shape_of tree) p in
    let found : two_parts (script_of input) ≡ Some (point, script) = subst (λ o. IfSome o (λ parts. two_parts (script_of input) ≡ Some (parts.0.now, parts.1.now))) c.in-Some.is c.three_parts.ensures.parts in
    let read = typed_served (service_of input) c.three_parts.result.0.now c.in-Ok.typed c.in-Ok.program c.three_parts.ensures.service c.in-Ok.ensures in
    subst (λ o. IsAcceptedBy (λ telling. IsDueBehindBoth (P telling) (service_of input) o) c.accept_point.result) (sym found)
    (typed_accepted (λ telling. P telling point script) (service_of input) c.in-Ok.typed c.in-Ok.program c.accept_point.result read
    (λ tree t coded. subst (λ sh. IsAcceptedBy (λ telling. IsDuePoint (IsDueFrom telling tree script) sh point) c.accept_point.result) t.shape_is (c.accept_point.ensures tree t coded)))

pub returns-in-Err : goal.returns-in-Err
returns-in-Err c =
    let input = c.args.input.now in
    let point = c.in-Some.point.now in
    let script = c.in-Some.script.now in
    let P = λ (telling : Telling) (p s : List ℕ) (tree : ServiceTree). IsDuePoint (IsDueFrom telling tree s) (shape_of tree) p in
    let found : two_parts (script_of input) ≡ Some (point, script) = subst (λ o. IfSome o (λ parts. two_parts (script_of input) ≡ Some (parts.0.now, parts.1.now))) c.in-Some.is c.three_parts.ensures.parts in
    subst (λ o. IsAcceptedBy (λ telling. IsDueBehindBoth (P telling) (service_of input) o) (Err c.in-Err.refusal)) (sym found)
    (refused_accepted (λ telling. P telling point script) (service_of input) c.three_parts.result.0.now c.in-Err.refusal c.three_parts.ensures.service c.in-Err.ensures)
