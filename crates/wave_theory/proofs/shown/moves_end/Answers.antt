use Rattle.wave_theory.proofs.shown.moves_end.Goals as goal
use Rattle.wave_theory.proofs.Ending
use Rattle.wave_states.proofs.Moving
use Rattle.wave_theory.specs.Ends.{worth_of}
use Rattle.wave_theory.specs.Movers.{Fits, movers_in}

pub returns : goal.returns
returns c = λ d b batches begins jobs. Ending.ends (movers_in d) (Moving.movers_owe d.initial d.hosts Fits (λ p. tt)) (λ j. 1) (λ j t tree h f o. Ending.upto 1) b batches begins jobs (worth_of (λ j. 1) batches) (Ending.upto (worth_of (λ j. 1) batches))
