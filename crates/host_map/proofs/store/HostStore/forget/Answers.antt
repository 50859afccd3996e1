use Rattle.std.proofs.Common.{ap, ◌∙◌}
use Rattle.std.specs.FinMap as table
use Rattle.host_map.proofs.StoreMaps.{removed}
use Rattle.host_map.proofs.store.HostStore.forget.Goals as goal

pub returns-clause-gone : goal.returns-clause-gone
returns-clause-gone c = removed c.self.inside.gone.entries c.swap_remove.new.self.entries c.args.path.now c.swap_remove.ensures.updates.0 ∙ ap (λ v. table.remove v.gone c.args.path.now) c.self.view_is
