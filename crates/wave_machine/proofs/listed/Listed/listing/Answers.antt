use Rattle.std.proofs.Common.{◌∙◌, ◌-◌, ◌++◌, List, map, None, sym, ap, subst, append_assoc}
use Rattle.std.specs.Prelude.{option_map}
use Rattle.wave_base.specs.Fold.{tickets_from}
use Rattle.wave_labels.specs.declared.label.Label.{Label}
use Rattle.wave_labels.specs.Labels.{label_of}
use Rattle.wave_effects.specs.Keeping.{kept_of}
use Rattle.wave_machine.specs.inner.Asking.{asked_in}
use Rattle.wave_machine.specs.inner.Index.{IsIndex}
use Rattle.wave_machine.proofs.ListingParts.{about_stops, all, listing_is, taken}
use Rattle.wave_machine.proofs.Ordering.{lower, upper}
use Rattle.wave_machine.proofs.listed.Listed.listing.Goals as goal

pub returns : goal.returns
returns c =
    let m = kept_of c.args.self.now.engine in
    let idle = option_map (λ w. w.0) c.args.takers.idle in
    let ws = tickets_from c.args.takers.from (c.args.takers.to - c.args.takers.from) in
    let index = c.as_slice-index.result.now in
    let front = c.split_at.result.0.now in
    let back = c.split_at.result.1.now in
    let stops = asked_in m None ws in
    let listed : IsIndex m index = subst (IsIndex m) (sym c.as_slice-index.ensures.value) c.requires.listed.index in
    let at = c.place.ensures.place (lower 5 (all m)) (upper 5 (all m)) (about_stops m index listed) in
    ap (map label_of) c.from_vec.ensures
    ∙ c.in_ok-add_all-2.ensures
    ∙ ap (λ r. r ++ taken idle back) (c.in_ok-ask_all_stops.ensures ∙ ap (λ r. r ++ stops) (c.in_ok-add_all.ensures ∙ ap (λ (xs : List Label). map label_of xs ++ taken idle front) c.new-labels.ensures.items))
    ∙ append_assoc (taken idle front) stops (taken idle back)
    ∙ (λ i. taken idle (c.split_at.ensures.front i) ++ (stops ++ taken idle (c.split_at.ensures.back i)))
    ∙ listing_is m idle ws index listed c.place.result at
