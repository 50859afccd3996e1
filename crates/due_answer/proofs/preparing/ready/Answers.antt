use Rattle.std.proofs.Common.{refl}
use Rattle.due_answer.proofs.FoundLemmas.{refused_ready}
use Rattle.due_answer.proofs.preparing.ready.Goals as goal

pub returns-in-Ok : goal.returns-in-Ok
returns-in-Ok c = record { task_is = refl; ready = c.in-Ok.ensures.due; saved = c.in-Ok.ensures.due.can_run.saved c.in-Ok.ensures.first }

pub returns-in-Err : goal.returns-in-Err
returns-in-Err c = refused_ready c.args.telling c.args.engine c.args.input.now c.in-Err.refusal c.in-Err.ensures.due
