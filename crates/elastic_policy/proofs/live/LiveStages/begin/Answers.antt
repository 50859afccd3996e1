use Rattle.std.proofs.Common.{◌∙◌, length, ap, subst, sym}
use Rattle.elastic_policy.specs.Stages.{no_loads, IsStaged}
use Rattle.elastic_policy.proofs.StageLemmas.{fits_unloaded}
use Rattle.elastic_policy.proofs.live.LiveStages.begin.Goals as goal

pub returns-clause-staged : goal.returns-clause-staged
returns-clause-staged c =
    let parts = c.into_parts-hosts.ensures in
    subst IsStaged
    (sym
    (λ i. record {
      hosts = parts.hosts i;
      start = (c.in_ok-begin.ensures.start ∙ parts.start) i;
      loads = (c.in_ok-begin.ensures.loads ∙ ap (λ x. no_loads (length x.places)) parts.start) i;
      left = parts.left i;
    }))
    (fits_unloaded c.args.stages c.requires.staged)
