use Rattle.fold_laws.proofs.Numbered.{jobs_few}
use Rattle.fold_laws.proofs.laws.jobs_send_few.Goals as goal

pub returns : goal.returns
returns c = λ plan start index job fits begins is. jobs_few plan fits start begins index job is
