use Rattle.std.proofs.Common.{arith, ◌≡◌, ℕ, List, take, sym, ap, ◌∙◌}
use Rattle.std.specs.List.{zip}
use Rattle.std.proofs.lemmas.Slice.Zip.{length-zip}
use Rattle.std.proofs.lemmas.List.{take_all}
use Rattle.std.proofs.Math.ListN.{length-set}
use Rattle.wave_base.specs.declared.finished.Place.{Place}
use Rattle.elastic_policy.specs.Moves.{load_on}
use Rattle.elastic_policy.proofs.Loads.{load_fits, sums_more}
use Rattle.elastic_policy.proofs.sums.sums_of.Goals as goal

pub overflow_add-sums : goal.overflow_add-sums
overflow_add-sums c =
    let place = c.index-places-i.result in
    let here = ap (λ (p : Place). p.host.0) (sym c.index-places-i.is) in
    let fits = load_fits c.args.places.now c.args.loads.now c.loop-i.i place.host.0 place c.requires.paired (omega arith) here in
    let below = c.requires.below c.loop-i.i place (omega arith) in
    let old = c.loop-i.invariant.so_far place.host.0 (omega (arith, here, below)) in
    omega (arith, fits, old)

pub loop-i-preserved : goal.loop-i-preserved
loop-i-preserved c =
    let place = c.index-places-i.result in
    let here = ap (λ (p : Place). p.host.0) (sym c.index-places-i.is) in
    let below = c.requires.below c.loop-i.i place (omega arith) in
    record {
      long = length-set c.loop-i.sums place.host.0 _ ∙ c.loop-i.invariant.long;
      so_far = sums_more c.loop-i.sums c.args.places.now c.args.loads.now c.loop-i.i place.host.0 place c.requires.paired (omega arith) here (omega (arith, here, below)) c.loop-i.invariant.so_far;
    }

pub returns : goal.returns
returns c =
    let whole = length-zip c.args.places.now c.args.loads.now in
    let all : take c.loop-i.i (zip c.args.places.now c.args.loads.now) ≡ zip c.args.places.now c.args.loads.now = take_all c.loop-i.i (zip c.args.places.now c.args.loads.now) (omega arith) in
    record {
      loads = λ h b. c.loop-i.invariant.so_far h b ∙ ap (λ (xs : List (Place × ℕ)). load_on xs h) all;
      long = c.loop-i.invariant.long;
    }
