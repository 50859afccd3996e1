use Rattle.std.proofs.Common.{◌∙◌, List, length, ap, replicate}
use Rattle.wave_base.specs.declared.finished.Place.{Place}
use Rattle.script_fold.proofs.LiveLemmas.{none_loaded}
use Rattle.script_fold.proofs.live.LiveStart.begin.Goals as goal

pub returns-clause-loads : goal.returns-clause-loads
returns-clause-loads c = none_loaded c.in_ok-visits.visits c.in_ok-visits.ensures.loads ∙ ap (λ (xs : List Place). replicate (length xs) 0) c.in_ok-visits.ensures.places
