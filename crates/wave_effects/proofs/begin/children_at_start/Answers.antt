use Rattle.std.proofs.Common.{◌≡◌, ◌∙◌, Some, ap, refl, sym}
use Rattle.std.specs.Prelude.{slice_get}
use Rattle.std.specs.declared.cmp.Ordering.TheVariants.{Less}
use Rattle.std.proofs.lemmas.List.Elements.{recursion_from_All}
use Rattle.std.proofs.lemmas.Option.{slice_get_read}
use Rattle.wave_base.specs.declared.finished.Place.{Place}
use Rattle.wave_base.specs.Kids.{with_child}
use Rattle.wave_base.specs.Paths.{path_cmp}
use Rattle.wave_effects.proofs.Placing.{cut, kid_none, kid_some}
use Rattle.wave_effects.proofs.begin.children_at_start.Goals as goal
use Rattle.wave_effects.proofs.begin.children_at_start.Goals.{in-Some+in_ok-put, in_default}

pub returns-then-not-is_above : goal.returns-then-not-is_above
returns-then-not-is_above c =
    let there : slice_get c.args.later.now c.loop-place.place-index ≡ Some c.place-item.result = slice_get_read c.args.later.now _ c.loop-place.place-index c.place-item.result refl c.loop-place-test.true c.place-item.is in
    c.loop-place.invariant ∙ cut c.args.path.now c.args.later.now c.loop-place.place-index c.place-item.result (recursion_from_All (λ (x : Place). path_cmp c.args.path.now x.path ≡ Less) c.args.later.now c.requires.above) c.requires.ordered there (sym c.is_above.ensures ∙ c.if-not-is_above.true)

pub loop-place-preserved : goal.loop-place-preserved
loop-place-preserved c =
    let there : slice_get c.args.later.now c.loop-place.place-index ≡ Some c.place-item.result = slice_get_read c.args.later.now _ c.loop-place.place-index c.place-item.result refl c.loop-place-test.true c.place-item.is in
    elim c.match-child_step.branch [
      | in-Some+in_ok-put w ↦
          w.children-is ∙ w.in_ok-put.ensures.ok ∙ ap (λ k. with_child k w.in-Some.step (record { given = 0; birth = c.place-item.result.host })) c.loop-place.invariant
          ∙ kid_some c.args.path.now c.args.later.now c.loop-place.place-index c.place-item.result w.in-Some.step c.requires.ordered there (sym c.child_step.ensures ∙ w.in-Some.is)
      | in_default w ↦ w.children-is ∙ c.loop-place.invariant ∙ kid_none c.args.path.now c.args.later.now c.loop-place.place-index c.place-item.result there (sym c.child_step.ensures ∙ w.in_default.is)
    ]
