use Rattle.quiet_laws.proofs.Meant.{exactly}
use Rattle.quiet_laws.proofs.laws.quiet_ones_are_harmless.Goals as goal

pub returns : goal.returns
returns c = exactly
