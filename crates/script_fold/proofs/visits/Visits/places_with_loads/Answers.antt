use Rattle.std.proofs.Common.{◌≡◌, ◌∙◌, List, map, ap, rules}
use Rattle.std.proofs.lemmas.Map.Iter.{iter_end}
use Rattle.std.specs.List.{zip}
use Rattle.std.specs.Map.Iter.{deref_pair}
use Rattle.wave_base.specs.declared.path.Path.{Path}
use Rattle.script_fold.specs.declared.visits.Load.{Load}
use Rattle.script_fold.specs.inner.Visiting.{host_at}
use Rattle.script_fold.proofs.LiveLemmas.{loaded_found}
use Rattle.script_fold.proofs.visits.Visits.places_with_loads.Goals as goal

pub returns-clause-found : goal.returns-clause-found
returns-clause-found c =
    let v = c.args.self.now in
    let all : map deref_pair c.loop-path.yielded ≡ v.loads.entries = search (rules, iter_end) in
    let places = c.from_vec.ensures ∙ c.loop-path.invariant.places ∙ ap (map (λ (e : Path × Load). record { path = e.0; host = host_at v.hosts.entries e.0 })) all in
    let loads = c.from_vec-2.ensures ∙ c.loop-path.invariant.loads ∙ ap (map (λ (e : Path × Load). e.1.count)) all in
    (λ i. zip (places i) (loads i)) ∙ loaded_found v c.requires c.iter-path-items.ensures.ordered
