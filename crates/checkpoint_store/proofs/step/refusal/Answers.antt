use Rattle.std.proofs.Common.{refl}
use Rattle.checkpoint_store.proofs.StepLemmas.{refused_by, wanting_by}
use Rattle.checkpoint_store.specs.declared.error.CheckError.TheVariants as error
use Rattle.checkpoint_store.proofs.step.refusal.Goals as goal

pub returns-in-Ok : goal.returns-in-Ok
returns-in-Ok c = refused_by c.args.form c.args.text.now c.args.number c.in-Ok.fault c.error_at.result c.in-Ok.ensures c.error_at.ensures

pub returns-in-Err : goal.returns-in-Err
returns-in-Err c = wanting_by c.args.form c.args.text.now c.args.number (error.OutOfMemory c.in-Err.wanting) refl
