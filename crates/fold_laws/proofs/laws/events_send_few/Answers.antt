use Rattle.fold_laws.proofs.Numbered.{events_few}
use Rattle.fold_laws.proofs.laws.events_send_few.Goals as goal

pub returns : goal.returns
returns c = λ plan start fits begins labels s run. events_few plan fits start begins labels s run
