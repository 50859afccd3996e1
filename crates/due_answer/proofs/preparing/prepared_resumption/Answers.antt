use Rattle.due_answer.proofs.FoundLemmas.{resumed_found, resumed_refused}
use Rattle.due_answer.proofs.preparing.prepared_resumption.Goals as goal

pub returns-in-Ok : goal.returns-in-Ok
returns-in-Ok c = resumed_found c.args.places c.args.crew c.args.input.now c.of_crew.result c.in-Ok.work c.requires c.of_crew.ensures c.in-Ok.ensures

pub returns-in-Err : goal.returns-in-Err
returns-in-Err c = resumed_refused c.args.places c.args.crew c.args.input.now c.in-Err.refusal c.requires c.in-Err.ensures
