use Rattle.std.proofs.Common.{◌∙◌, length, map, ap, replicate}
use Rattle.script_fold.specs.Lives.{Live}
use Rattle.script_fold.specs.inner.Visiting.{place_in}
use Rattle.script_fold.proofs.LiveLemmas.{none_loaded}
use Rattle.script_fold.proofs.live.LiveStart.forget_loads.Goals as goal

pub returns-clause-loads : goal.returns-clause-loads
returns-clause-loads c =
    none_loaded c.clear.new.self c.clear.ensures.loads
    ∙ ap (λ n. replicate n 0) ((λ i. length (map place_in (c.clear.ensures.hosts i).entries)) ∙ ap (λ (l : Live). length l.start.places) c.self.view_is)
