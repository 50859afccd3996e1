use Rattle.std.proofs.Common.{sym, ap, ◌∙◌}
use Rattle.std.specs.FinMap as table
use Rattle.host_map.proofs.StoreMaps.{removed, get_is_lookup}
use Rattle.host_map.proofs.store.HostStore.take.Goals as goal

pub returns-clause-entry : goal.returns-clause-entry
returns-clause-entry c = c.swap_remove.ensures.value ∙ sym (get_is_lookup c.args.path.now c.self.inside.store.entries) ∙ ap (λ v. table.get v.store c.args.path.now) c.self.view_is

pub returns-clause-store : goal.returns-clause-store
returns-clause-store c = removed c.self.inside.store.entries c.swap_remove.new.self.entries c.args.path.now c.swap_remove.ensures.updates.0 ∙ ap (λ v. table.remove v.store c.args.path.now) c.self.view_is
