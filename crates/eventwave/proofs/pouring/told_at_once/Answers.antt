use Rattle.std.proofs.Common.{◌≡◌, IfOk, sym, subst}
use Rattle.due_parts.specs.Told.{report_answer}
use Rattle.eventwave.proofs.pouring.told_at_once.Goals as goal

pub returns-in-Summary : goal.returns-in-Summary
returns-in-Summary c =
    let plan = c.args.plan.now in
    subst (λ r. IfOk c.summary_answer.result (λ a. a ≡ report_answer plan.program.shape c.args.start.now plan.script r c.args.done)) (sym c.in-Summary.is) (c.summary_answer.ensures plan.program.shape c.args.start.now plan.script)
