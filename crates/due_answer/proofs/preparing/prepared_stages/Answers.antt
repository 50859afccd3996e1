use Rattle.due_answer.proofs.FoundLemmas.{staged_found, staged_refused}
use Rattle.due_answer.proofs.preparing.prepared_stages.Goals as goal

pub returns-in-Ok : goal.returns-in-Ok
returns-in-Ok c = λ k asked lift. staged_found k c.args.input.now c.args.places c.args.engine c.in-Ok.work asked lift c.in-Ok.ensures

pub returns-in-Err : goal.returns-in-Err
returns-in-Err c = λ k asked lift. staged_refused k c.args.input.now c.args.places c.in-Err.refusal lift c.in-Err.ensures
