use Rattle.std.proofs.Common.{◌∙◌}
use Rattle.elastic_policy.proofs.StageLemmas.{first_is}
use Rattle.elastic_policy.proofs.stages.Stages.first.Goals as goal

pub returns-clause-staged : goal.returns-clause-staged
returns-clause-staged c = first_is c.args.shape.now c.args.elastic _ _ _ c.len.result c.in_ok-start.ensures c.len.ensures c.in_ok-loads.ensures (c.from_vec.ensures.items ∙ c.into_vec.ensures) c.requires.elastic
