use Rattle.std.proofs.Common.{◌≡◌, ◌∙◌, List, map, filter, ap, rules}
use Rattle.std.proofs.lemmas.Map.Iter.{iter_end}
use Rattle.std.specs.List.{zip}
use Rattle.std.specs.Map.Iter.{deref_pair}
use Rattle.wave_base.specs.declared.numbers.Host.{Host}
use Rattle.wave_base.specs.declared.path.Path.{Path}
use Rattle.script_fold.specs.inner.Visiting.{load_at, place_in}
use Rattle.script_fold.proofs.LiveLemmas.{host_found, stands_at}
use Rattle.script_fold.proofs.visits.Visits.on_host.Goals as goal

pub returns-clause-found : goal.returns-clause-found
returns-clause-found c =
    let v = c.args.self.now in
    let all : map deref_pair c.loop-path.yielded ≡ v.hosts.entries = search (rules, iter_end) in
    let places = c.from_vec.ensures ∙ c.loop-path.invariant.places ∙ ap (λ es. map place_in (filter (stands_at c.args.host.0) es)) all in
    let loads = c.from_vec-2.ensures ∙ c.loop-path.invariant.loads ∙ ap (λ es. map (λ (e : Path × Host). (load_at v.loads.entries e.0).count) (filter (stands_at c.args.host.0) es)) all in
    (λ i. zip (places i) (loads i)) ∙ host_found v c.args.host.0
