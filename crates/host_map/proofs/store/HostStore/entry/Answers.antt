use Rattle.std.proofs.Common.{◌≡◌, Option, Some, None, is_some, false, true≢false, sym, ap, ◌∙◌}
use Rattle.std.specs.FinMap as table
use Rattle.host_map.proofs.StoreMaps.{get_is_lookup, is_none_of}
use Rattle.host_map.proofs.store.HostStore.entry.Goals as goal

pub returns-in-Some : goal.returns-in-Some
returns-in-Some c =
    sym c.index.ensures ∙ c.in-Some.ensures.value ∙ sym (get_is_lookup c.args.path.now c.self.inside.store.entries) ∙ ap (λ v. table.get v.store c.args.path.now) c.self.view_is

pub returns-in-None : goal.returns-in-None
returns-in-None c =
    is_none_of _ c.in-None.ensures.found ∙ sym (get_is_lookup c.args.path.now c.self.inside.store.entries) ∙ ap (λ v. table.get v.store c.args.path.now) c.self.view_is
