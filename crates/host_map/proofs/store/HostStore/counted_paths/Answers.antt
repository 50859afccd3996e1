use Rattle.std.proofs.Common.{◌≡◌, ◌∙◌, map, filter, ap, rules}
use Rattle.std.proofs.lemmas.Map.Iter.{iter_end}
use Rattle.std.specs.FinMap as table
use Rattle.std.specs.List.{list_any}
use Rattle.std.specs.Map.{keys_of}
use Rattle.std.specs.Map.Iter.{deref_pair}
use Rattle.wave_base.specs.Paths.{path_eq}
use Rattle.host_map.specs.Stores.{is_counted}
use Rattle.host_map.proofs.StoreMaps.{among_counted, says}
use Rattle.host_map.proofs.store.HostStore.counted_paths.Goals as goal

pub returns : goal.returns
returns c = λ p.
    let es = c.self.inside.store.entries in
    let all : map deref_pair c.loop-path.yielded ≡ es = search (rules, iter_end) in
    ap (list_any (path_eq p)) (c.loop-path.invariant ∙ ap (λ xs. keys_of (filter says xs)) all)
    ∙ among_counted p es c.iter-path-items.ensures.unique
    ∙ ap (λ v. is_counted (table.get v.store p)) c.self.view_is
