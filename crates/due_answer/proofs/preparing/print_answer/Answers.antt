use Rattle.std.proofs.Common.{Ok, subst}
use Rattle.input_parts.specs.Parts.{service_of}
use Rattle.due_parts.specs.Answers.{Only}
use Rattle.due_parts.proofs.DueLemmas.{typed_served, typed_text}
use Rattle.due_answer.specs.Due.{IsPrinted}
use Rattle.due_answer.proofs.FoundLemmas.{refused_due}
use Rattle.due_answer.proofs.preparing.print_answer.Goals as goal

pub returns-in-Ok : goal.returns-in-Ok
returns-in-Ok c =
    let text = service_of c.args.input.now in
    let answer = c.in_ok-layout-in-Ok.field-0 in
    let read = typed_served text c.parts_of.result.0.now c.in-Ok.typed c.in-Ok.field-0-1 c.parts_of.ensures.service c.in-Ok.ensures in
    typed_text {E = Unit {0}} IsPrinted text c.in-Ok.typed c.in-Ok.field-0-1 (Ok answer) read (λ tree t k. subst (λ s. Only (IsPrinted s) answer) t.tree_is c.in_ok-layout-in-Ok.ensures)

pub returns : goal.returns
returns c = refused_due IsPrinted (service_of c.args.input.now) c.parts_of.result.0.now c.in-Err.refusal c.parts_of.ensures.service c.in-Err.ensures
