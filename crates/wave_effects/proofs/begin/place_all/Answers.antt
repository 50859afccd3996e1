use Rattle.std.proofs.Common.{◌≡◌, ◌∙◌, Some, length, take, ap, refl, sym, subst, arith}
use Rattle.std.specs.Prelude.{slice_get}
use Rattle.std.proofs.lemmas.Option.{slice_get_read}
use Rattle.std.proofs.Math.Seq.{take-length}
use Rattle.wave_base.specs.Paths.{path_eq}
use Rattle.host_map.specs.Stores.{IsAt}
use Rattle.wave_states.specs.Begins.{begin_of, entry_at_start}
use Rattle.wave_states.specs.States.{Column, set}
use Rattle.code_actor.specs.CodeActors.{Fields}
use Rattle.wave_effects.specs.inner.Beginnings.{placed_column}
use Rattle.wave_effects.proofs.Begun.{all_placed, column_is, not_yet, one_more}
use Rattle.wave_effects.proofs.begin.place_all.Goals as goal

pub loop-i-preserved : goal.loop-i-preserved
loop-i-preserved c = record {
  count = c.in_ok-place_one.ensures.count ∙ c.loop-i.invariant.count;
  placed = λ shape hosts begins h y e p.
      let start = c.args.start.now in
      let b = begin_of shape start in
      let i = c.loop-i.i in
      let x = c.place-item.result in
      let xs = c.as_slice-place-items.result.now in
      let at : slice_get start.places i ≡ Some x = ap (λ ys. slice_get ys i) (sym c.as_slice-place-items.ensures) ∙ slice_get_read xs _ i x refl c.loop-i-test.true c.place-item.is in
      let f = placed_column b (take i start.places) in
      let now = c.in_ok-place_one.ensures.placed f (entry_at_start b x.path) (c.loop-i.invariant.placed shape hosts begins) (not_yet shape hosts start begins i x at) (c.in_ok-entry.ensures shape hosts x begins at) h y e p in
      subst (λ col. IsAt y p col h) (ap (λ (col : Column Fields). set path_eq f x.path col p) (sym (column_is shape hosts start begins i x at)) ∙ one_more shape hosts start begins i x at p) now;
}

pub returns-clause-placed : goal.returns-clause-placed
returns-clause-placed c = λ shape hosts begins n h y e p.
    let start = c.args.start.now in
    let b = begin_of shape start in
    let i = c.loop-i.i in
    let end : i ≡ length start.places = omega (arith, c.loop-i-test.false, c.loop-i.auto.i-end, ap length c.as_slice-place-items.ensures) in
    let all = ap (λ k. placed_column b (take k start.places) p) end ∙ ap (λ ys. placed_column b ys p) (take-length start.places) ∙ all_placed shape hosts start begins p in
    subst (λ col. IsAt y p col h) all (c.loop-i.invariant.placed shape hosts begins h y e p)
