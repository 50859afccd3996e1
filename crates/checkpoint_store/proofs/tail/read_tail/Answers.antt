use Rattle.std.proofs.Common.{◌+◌, ◌≤◌, [], List, IfSome, IfNone, length, inl, refl, sym, ap, subst, arith}
use Rattle.std.proofs.lemmas.Result.{err_from_is_err_and}
use Rattle.wave_base.specs.declared.finished.Place.{Place}
use Rattle.snapshot_text.specs.Shots.{IsShot}
use Rattle.checkpoint_store.specs.Dues.{PlaceOf}
use Rattle.checkpoint_store.specs.inner.Steps.{IsPlaceLineOf, HasNoPlace, HasPlaces}
use Rattle.checkpoint_store.proofs.StepLemmas.{open_other, place_refused}
use Rattle.checkpoint_store.proofs.WalkLemmas.{none_placed, place_placed, place_passed, place_stops, last_stops, tail_read}
use Rattle.checkpoint_store.proofs.tail.read_tail.Goals as goal

pub loop-shot-init : goal.loop-shot-init
loop-shot-init c = record {
  places = subst (λ (xs : List Place). HasPlaces c.args.shape.now c.args.hosts [] xs c.args.text.now c.args.text.now) (sym c.new-places.ensures) (none_placed c.args.shape.now c.args.hosts c.args.text.now);
  passed = refl;
  number = omega arith;
}

pub returns-in_default-clause-err : goal.returns-in_default-clause-err
returns-in_default-clause-err c =
    place_stops c.args.shape.now c.args.hosts c.args.shots.now c.loop-shot.shot-index c.shot-item.result c.args.text.now c.loop-shot.rest.now c.args.before (c.loop-shot.number + 1) c.refusal.result c.loop-shot-test.true c.shot-item.is c.loop-shot.invariant.passed (ap (λ n. n + 1) c.loop-shot.invariant.number)
    (c.refusal.ensures c.args.shape.now c.args.hosts (PlaceOf c.shot-item.result.path) refl (open_other c.args.shape.now c.args.hosts (PlaceOf c.shot-item.result.path) c.loop-shot.rest.now c.in_default.ensures.none))

pub place_of-requires-clause-path : goal.place_of-requires-clause-path
place_of-requires-clause-path c =
    let shot : IsShot c.args.shape.now c.shot-item.result = subst (IsShot c.args.shape.now) (sym c.shot-item.is) (c.requires.shots c.loop-shot.shot-index c.shot-item.result c.loop-shot-test.true) in
    shot.path

pub returns-in_err-place-clause-err : goal.returns-in_err-place-clause-err
returns-in_err-place-clause-err c =
    let p = err_from_is_err_and c.from_residual.result c.from_residual.ensures.1 in
    rw (p.1, p.2) (inl refl)

pub returns-in_err-add-in-Some-2-clause-err : goal.returns-in_err-add-in-Some-2-clause-err
returns-in_err-add-in-Some-2-clause-err c =
    let p = err_from_is_err_and c.from_residual-in_err-add-in-Some-2.result c.from_residual-in_err-add-in-Some-2.ensures.1 in
    rw (p.1, p.2) (inl refl)

pub returns-in-None-clause-err : goal.returns-in-None-clause-err
returns-in-None-clause-err c =
    place_stops c.args.shape.now c.args.hosts c.args.shots.now c.loop-shot.shot-index c.shot-item.result c.args.text.now c.loop-shot.rest.now c.args.before (c.loop-shot.number + 1) c.refusal-in-None.result c.loop-shot-test.true c.shot-item.is c.loop-shot.invariant.passed (ap (λ n. n + 1) c.loop-shot.invariant.number)
    (place_refused c.args.shape.now c.args.hosts c.shot-item.result.path c.loop-shot.rest.now c.in-Some.line.now c.in-Some.after.now (c.loop-shot.number + 1) c.refusal-in-None.result c.in-Some.ensures.some
    (subst (λ o. IfNone o (HasNoPlace c.args.shape.now c.args.hosts c.shot-item.result.path c.in-Some.line.now)) c.in-None.is c.in_ok-place.ensures.none) c.refusal-in-None.ensures)

pub loop-shot-preserved : goal.loop-shot-preserved
loop-shot-preserved c =
    let place = subst (λ o. IfSome o (IsPlaceLineOf c.args.shape.now c.args.hosts c.shot-item.result.path c.in-Some.line.now)) c.in-Some-2.is c.in_ok-place.ensures.some in
    record {
      places = place_placed c.args.shape.now c.args.hosts c.args.shots.now c.loop-shot.shot-index c.shot-item.result c.loop-shot.places c.add.new.self c.in-Some-2.place c.args.text.now c.loop-shot.rest.now c.in-Some.line.now c.in-Some.after.now c.loop-shot-test.true c.shot-item.is c.in_ok-add-in-Some-2.ensures.ok c.loop-shot.invariant.places c.in-Some.ensures.some place;
      passed = place_passed c.args.shape.now c.args.hosts c.args.shots.now c.loop-shot.shot-index c.shot-item.result c.in-Some-2.place c.args.text.now c.loop-shot.rest.now c.in-Some.line.now c.in-Some.after.now c.loop-shot-test.true c.shot-item.is c.loop-shot.invariant.passed c.in-Some.ensures.some place;
      number = omega (arith, c.loop-shot.invariant.number);
    }

pub returns-in-Ok-clause-ok : goal.returns-in-Ok-clause-ok
returns-in-Ok-clause-ok c = tail_read c.args.shape.now c.args.hosts c.args.shots.now c.loop-shot.shot-index c.loop-shot.places c.args.text.now c.loop-shot.rest.now c.loop-shot-test.false c.loop-shot.invariant.places c.in-Ok.ensures.ok

pub returns-in-Err-clause-err : goal.returns-in-Err-clause-err
returns-in-Err-clause-err c =
    let low : c.loop-shot.shot-index ≤ length c.args.shots.now = omega arith in
    last_stops c.args.shape.now c.args.hosts c.args.shots.now c.loop-shot.shot-index c.loop-shot.places c.args.text.now c.loop-shot.rest.now c.args.before c.loop-shot.number c.in-Err.error c.loop-shot-test.false low c.loop-shot.invariant.places c.loop-shot.invariant.passed c.loop-shot.invariant.number
    c.in-Err.ensures.err
