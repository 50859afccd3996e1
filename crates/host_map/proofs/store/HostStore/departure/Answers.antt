use Rattle.std.proofs.Common.{sym, ap, ◌∙◌}
use Rattle.std.specs.FinMap as table
use Rattle.host_map.proofs.StoreMaps.{get_is_lookup}
use Rattle.host_map.proofs.store.HostStore.departure.Goals as goal

pub returns-in-Some : goal.returns-in-Some
returns-in-Some c = c.in-Some.ensures.value ∙ sym (get_is_lookup c.args.path.now c.self.inside.gone.entries) ∙ ap (λ v. table.get v.gone c.args.path.now) c.self.view_is

pub returns-in-None : goal.returns-in-None
returns-in-None c = c.in-None.ensures.value ∙ sym (get_is_lookup c.args.path.now c.self.inside.gone.entries) ∙ ap (λ v. table.get v.gone c.args.path.now) c.self.view_is
