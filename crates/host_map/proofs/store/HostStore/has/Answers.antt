use Rattle.std.proofs.Common.{refl, sym, ap, ◌∙◌, is_some}
use Rattle.std.specs.FinMap as table
use Rattle.host_map.proofs.StoreMaps.{get_is_lookup}
use Rattle.host_map.proofs.store.HostStore.has.Goals as goal

pub returns-then-stands_at : goal.returns-then-stands_at
returns-then-stands_at c =
    c.if-stands_at.true
    ∙ sym (c.if-stands_at.ensures.found refl)
    ∙ ap is_some (sym (get_is_lookup c.args.path.now c.self.inside.store.entries) ∙ ap (λ v. table.get v.store c.args.path.now) c.self.view_is)

pub returns-else-stands_at : goal.returns-else-stands_at
returns-else-stands_at c =
    c.is_some.ensures
    ∙ c.search.ensures.found
    ∙ ap is_some (sym (get_is_lookup c.args.path.now c.self.inside.store.entries) ∙ ap (λ v. table.get v.store c.args.path.now) c.self.view_is)
