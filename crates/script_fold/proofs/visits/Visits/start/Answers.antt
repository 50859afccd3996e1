use Rattle.std.proofs.Common.{◌≡◌, List, map, ap, sym, subst, ◌∙◌, take_all}
use Rattle.std.specs.List.Sorted.{IsStrictlySortedBy}
use Rattle.wave_base.specs.declared.finished.Place.{Place}
use Rattle.wave_base.specs.Paths.{path_cmp}
use Rattle.script_fold.specs.inner.Visiting.{place_in}
use Rattle.script_fold.proofs.PlaceLemmas.{kept_at, places_again, places_more}
use Rattle.script_fold.proofs.visits.Visits.start.Goals as goal

pub loop-place-preserved : goal.loop-place-preserved
loop-place-preserved c =
    let ordered = subst (λ (xs : List Place). IsStrictlySortedBy path_cmp (map (λ x. x.path) xs)) (sym c.as_slice-places.ensures) c.requires in
    c.in_ok-insert.ensures.entries
    ∙ places_more c.as_slice-places.result.now c.loop-place.place-index c.place-item.result c.loop-place.hosts.entries c.loop-place-test.true c.place-item.is ordered c.loop-place.invariant

pub returns-clause-places : goal.returns-clause-places
returns-clause-places c =
    let all : c.loop-place.hosts.entries ≡ map kept_at c.args.start.now.places =
    c.loop-place.invariant ∙ ap (map kept_at) (take_all c.loop-place.place-index c.as_slice-places.result.now c.loop-place-test.false) ∙ ap (map kept_at) c.as_slice-places.ensures in
    ap (map place_in) all ∙ places_again c.args.start.now.places
