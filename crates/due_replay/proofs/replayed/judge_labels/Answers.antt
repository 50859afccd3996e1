use Rattle.std.proofs.Common.{◌≡◌, ◌≤◌, ◌∙◌, Err, IfOk, Ok, ap, arith, length, subst}
use Rattle.service_code.specs.declared.program.Program.{Program}
use Rattle.wave_effects.specs.Plans.{plan_of}
use Rattle.due_parts.specs.Answers.{text_answer}
use Rattle.journal_replay.specs.declared.error.ReplayError.TheVariants.{Refused}
use Rattle.journal_replay.specs.Replays.{IsOnlyOutcome}
use Rattle.journal_replay.specs.Reports.{replayed_text}
use Rattle.due_replay.specs.Replayed.{refused_label}
use Rattle.due_replay.proofs.ReplayLemmas.{only_told, refused_told}
use Rattle.due_replay.proofs.replayed.judge_labels.Goals as goal

pub returns-in_ok-replayed_text-in-Ok : goal.returns-in_ok-replayed_text-in-Ok
returns-in_ok-replayed_text-in-Ok c =
    let plan = plan_of c.args.plan.now in
    let journal = c.args.journal.now in
    let replayed = c.in-Ok.replayed in
    let few : length journal ≤ c.from.result = omega (arith, c.requires.few, c.from.ensures) in
    only_told plan journal c.args.show c.from.result few (Ok replayed) c.text_answer.result (subst (λ n. IsOnlyOutcome plan journal n (Ok replayed)) c.min.ensures c.in-Ok.ensures)
    (c.text_answer.ensures ∙ ap text_answer (c.in_ok-replayed_text-in-Ok.ensures ∙ ap (λ (p : Program). replayed_text p.shape replayed) c.program.ensures.program))

pub returns-in-Err-Refused : goal.returns-in-Err-Refused
returns-in-Err-Refused c =
    let plan = plan_of c.args.plan.now in
    let journal = c.args.journal.now in
    let e = c.in-Err-Refused in
    let few : length journal ≤ c.from.result = omega (arith, c.requires.few, c.from.ensures) in
    let found = subst (λ x. IsOnlyOutcome plan journal c.min.result (Err x)) e.field-0-is e.ensures in
    refused_told plan journal c.args.show c.from.result few e.step e.field-0-1 e.enabled c.refused_label.result (subst (λ n. IsOnlyOutcome plan journal n (Err (Refused e.step e.field-0-1 e.enabled))) c.min.ensures found)
    (subst (λ (p : Program). IfOk c.refused_label.result (λ a. a ≡ refused_label p.shape e.step e.enabled)) c.program.ensures.program c.refused_label.ensures)
