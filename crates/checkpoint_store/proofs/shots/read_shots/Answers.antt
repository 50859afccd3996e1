use Rattle.std.proofs.Common.{length, ap, arith}
use Rattle.checkpoint_store.proofs.PartLemmas.{snapshot_few, error_low}
use Rattle.checkpoint_store.proofs.shots.read_shots.Goals as goal

pub refusal_behind-requires : goal.refusal_behind-requires
refusal_behind-requires c = omega (arith, error_low c.args.shape.now c.args.text.now c.in-Err.error c.in-Err.ensures, c.requires.short, c.requires.few)

pub returns-in-Err-clause-err : goal.returns-in-Err-clause-err
returns-in-Err-clause-err c = (c.in-Err.error, c.in-Err.ensures, c.refusal_behind.ensures)

pub returns-in-Ok-clause-shorter : goal.returns-in-Ok-clause-shorter
returns-in-Ok-clause-shorter c = omega (arith, ap length c.in-Ok.ensures.0.spelled, snapshot_few c.args.shape.now c.in-Ok.shots)
