use Rattle.std.proofs.Common.{◌≡◌, Err, Some, IfSome, subst, sym}
use Rattle.input_parts.specs.Parts.{service_of, script_of}
use Rattle.due_parts.specs.Accepted.{IsAcceptedBy}
use Rattle.due_parts.specs.Scripts.{IsDueBehind, IsDueScript}
use Rattle.due_parts.specs.Told.{IsDueFirst}
use Rattle.due_parts.proofs.AcceptLemmas.{refused_accepted, typed_accepted}
use Rattle.due_parts.proofs.DueLemmas.{typed_coded, typed_served}
use Rattle.due_parts.proofs.accepted.accept.Goals as goal

pub returns-in-Ok-clause-due : goal.returns-in-Ok-clause-due
returns-in-Ok-clause-due c =
    let input = c.args.input.now in
    let script = c.in-Some.script.now in
    let found : script_of input ≡ Some script = subst (λ o. IfSome o (λ s. script_of input ≡ Some s.now)) c.in-Some.is c.parts_of.ensures.script in
    let read = typed_served (service_of input) c.parts_of.result.0.now c.in-Ok.typed c.in-Ok.program c.parts_of.ensures.service c.in-Ok.ensures in
    subst (λ s. IsAcceptedBy (λ telling. IsDueBehind (IsDueScript (IsDueFirst telling)) (service_of input) s) c.accept_script.result) (sym found)
    (typed_accepted (λ telling. IsDueScript (IsDueFirst telling) script) (service_of input) c.in-Ok.typed c.in-Ok.program c.accept_script.result read c.accept_script.ensures.due)

pub returns-in-Ok-clause-first : goal.returns-in-Ok-clause-first
returns-in-Ok-clause-first c =
    c.accept_script.ensures.first (typed_coded c.parts_of.result.0.now c.in-Ok.typed c.in-Ok.program c.in-Ok.ensures)

pub returns-in-Err-clause-due : goal.returns-in-Err-clause-due
returns-in-Err-clause-due c =
    let input = c.args.input.now in
    let script = c.in-Some.script.now in
    let found : script_of input ≡ Some script = subst (λ o. IfSome o (λ s. script_of input ≡ Some s.now)) c.in-Some.is c.parts_of.ensures.script in
    subst (λ s. IsAcceptedBy (λ telling. IsDueBehind (IsDueScript (IsDueFirst telling)) (service_of input) s) (Err c.in-Err.refusal)) (sym found)
    (refused_accepted (λ telling. IsDueScript (IsDueFirst telling) script) (service_of input) c.parts_of.result.0.now c.in-Err.refusal c.parts_of.ensures.service c.in-Err.ensures)
