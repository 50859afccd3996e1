use Rattle.std.proofs.Common.{◌≡◌, ◌++◌, ◌∷◌, [], Some, take, refl, sym, subst}
use Rattle.std.specs.Prelude.{slice_get}
use Rattle.std.proofs.lemmas.Option.{slice_get_read}
use Rattle.wave_base.proofs.Lists.{all_at}
use Rattle.wave_effects.specs.inner.Endings.{IsShotOf, IsPlace, Paired}
use Rattle.wave_effects.proofs.Collecting.{pair_more}
use Rattle.wave_effects.proofs.Placing.{take_next}
use Rattle.wave_effects.proofs.places.shots.Goals as goal

pub shot_at-requires-clause-there : goal.shot_at-requires-clause-there
shot_at-requires-clause-there c =
    let places = c.args.places.now in
    let i = c.loop-place.place-index in
    let at : slice_get places i ≡ Some c.place-item.result = slice_get_read places _ i c.place-item.result refl c.loop-place-test.true c.place-item.is in
    all_at (IsPlace c.args.stores.now) places i c.place-item.result at c.requires.there

pub loop-place-preserved : goal.loop-place-preserved
loop-place-preserved c =
    let places = c.args.places.now in
    let i = c.loop-place.place-index in
    let x = c.place-item.result in
    let at : slice_get places i ≡ Some x = slice_get_read places _ i x refl c.loop-place-test.true c.place-item.is in
    subst (λ xs. Paired (IsShotOf c.args.stores.now) xs c.push.new.self.items) (sym (take_next places i x at))
    (subst (Paired (IsShotOf c.args.stores.now) (take i places ++ x ∷ [])) (sym c.in_ok-push.ensures.items)
    (pair_more (IsShotOf c.args.stores.now) (take i places) c.loop-place.shots.items x c.in_ok-shot.shot c.loop-place.invariant c.in_ok-shot.ensures))
