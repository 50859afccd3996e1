use Rattle.std.proofs.Common.{ap, rules}
use Rattle.std.proofs.lemmas.Fn.{filter_same}
use Rattle.wave_base.specs.Paths.{is_above}
use Rattle.service_eval.specs.inner.Traces.{world_of}
use Rattle.service_eval.proofs.trace.Trace.release.Goals as goal

pub returns : goal.returns
returns c = λ tree. ap (λ held. record (world_of tree c.args.self.now) { held = held }) (filter_same _ (is_above c.args.path.now) _ (λ x b f' k. search rules) _ _ c.retain.ensures.filtered)
