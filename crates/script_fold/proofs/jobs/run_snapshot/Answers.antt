use Rattle.std.proofs.Common.{List, map, ap, sym, ◌∙◌}
use Rattle.wave_base.specs.declared.outcome.Outcome.TheVariants.{Shots}
use Rattle.wave_base.specs.declared.shot.Shot.{Shot}
use Rattle.resolved_service.specs.Jobs.{shot_of, only}
use Rattle.script_fold.proofs.StepLemmas.{shots_again}
use Rattle.script_fold.proofs.jobs.run_snapshot.Goals as goal

pub returns-clause-outcome : goal.returns-clause-outcome
returns-clause-outcome c =
    λ shape. c.only.ensures ∙ ap (λ (s : List Shot). only (Shots s)) (sym (shots_again c.in_ok-shots.shots) ∙ ap (map shot_of) (c.in_ok-shots.ensures.tree shape))

pub returns-clause-entered : goal.returns-clause-entered
returns-clause-entered c =
    λ shape. c.in_ok-entered.ensures ∙ ap (map (λ (s : Shot). s.path)) (c.as_slice.ensures ∙ c.in_ok-shots.ensures.shots)
