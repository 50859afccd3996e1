use Rattle.std.proofs.Common.{◌≡◌, Ok, subst}
use Rattle.input_parts.specs.Parts.{service_of}
use Rattle.service_code.specs.Listing.{program_text}
use Rattle.due_parts.specs.Answers.{text_answer}
use Rattle.due_parts.proofs.DueLemmas.{typed_as, typed_served}
use Rattle.due_answer.specs.Due.{IsListedCode}
use Rattle.due_answer.proofs.DueLemmas.{only_listed}
use Rattle.due_answer.proofs.FoundLemmas.{refused_due}
use Rattle.due_answer.proofs.preparing.listed_code.Goals as goal

pub returns-in-Ok : goal.returns-in-Ok
returns-in-Ok c =
    let text = service_of c.args.input.now in
    let typed = c.in-Ok.field-0-0 in
    let program = c.in-Ok.code in
    let answer = c.in_ok-listing_of-in-Ok.field-0 in
    let read = typed_served text c.parts_of.result.0.now typed program c.parts_of.ensures.service c.in-Ok.ensures in
    typed_as {E = Unit {0}} IsListedCode text typed program (text_answer (program_text program)) (Ok answer) read
    (subst (λ p. answer ≡ text_answer (program_text p)) c.program.ensures.program c.in_ok-listing_of-in-Ok.ensures) (λ tree t k. only_listed tree typed program t k)

pub returns : goal.returns
returns c = refused_due IsListedCode (service_of c.args.input.now) c.parts_of.result.0.now c.in-Err.refusal c.parts_of.ensures.service c.in-Err.ensures
