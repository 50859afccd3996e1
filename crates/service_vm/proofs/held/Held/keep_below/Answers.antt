use Rattle.std.proofs.Common.{ap, ◌∙◌, rules}
use Rattle.std.specs.List.{filter}
use Rattle.std.proofs.lemmas.Fn.{filter_same}
use Rattle.wave_base.specs.Paths.{is_above}
use Rattle.service_vm.proofs.held.Held.keep_below.Goals as goal

pub returns : goal.returns
returns c = filter_same _ (is_above c.args.path.now) _ (λ x b f' k. search rules) _ _ c.retain.ensures.filtered ∙ ap (filter (is_above c.args.path.now)) c.self.view_is
