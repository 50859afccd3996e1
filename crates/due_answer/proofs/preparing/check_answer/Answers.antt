use Rattle.std.proofs.Common.{◌≡◌, Ok}
use Rattle.input_parts.specs.Parts.{service_of}
use Rattle.due_parts.proofs.DueLemmas.{only_same, typed_as, typed_served}
use Rattle.due_answer.specs.Due.{approval}
use Rattle.due_answer.proofs.FoundLemmas.{refused_due}
use Rattle.due_answer.proofs.preparing.check_answer.Goals as goal

pub returns-in-Ok : goal.returns-in-Ok
returns-in-Ok c =
    let text = service_of c.args.input.now in
    let read = typed_served text c.parts_of.result.0.now c.in-Ok.field-0.0 c.in-Ok.field-0.1 c.parts_of.ensures.service c.in-Ok.ensures in
    typed_as {E = Unit {0}} (λ tree due. due ≡ approval) text c.in-Ok.field-0.0 c.in-Ok.field-0.1 approval (Ok c.in_ok-approval-in-Ok.field-0) read c.in_ok-approval-in-Ok.ensures (λ tree t k. only_same approval)

pub returns : goal.returns
returns c = refused_due (λ tree due. due ≡ approval) (service_of c.args.input.now) c.parts_of.result.0.now c.in-Err.refusal c.parts_of.ensures.service c.in-Err.ensures
