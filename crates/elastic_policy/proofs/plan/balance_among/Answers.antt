use Rattle.std.proofs.Common.{ℕ, List, length, get_or, ap, sym, ◌∙◌, arith}
use Rattle.std.proofs.Math.ListN.{length-set}
use Rattle.std.proofs.lemmas.List.{length-map}
use Rattle.std.specs.List.{zip}
use Rattle.wave_base.specs.declared.finished.Place.{Place}
use Rattle.wave_base.specs.declared.numbers.Host.{Host}
use Rattle.elastic_policy.specs.Moves.{load_on}
use Rattle.elastic_policy.specs.inner.Turns.{next_index}
use Rattle.elastic_policy.proofs.Balances.{is_under_way, start_is, start_rest, turn_leaves, turn_fits, turn_sums, turn_written, turn_over}
use Rattle.elastic_policy.proofs.plan.balance_among.Goals as goal

pub loop-turn-init : goal.loop-turn-init
loop-turn-init c =
    let e = start_is c.args.places.now c.in_ok-at.at.items c.args.loads.now c.in_ok-at.ensures in
    record {
      long = ap length c.in_ok-at.ensures ∙ length-map c.args.places.now (λ (x : Place). x.host);
      eight = c.sums_of-sums.ensures.long;
      sums = λ h b. c.sums_of-sums.ensures.loads h b ∙ ap (λ (xs : List (Place × ℕ)). load_on xs h) (sym e);
      rest = start_rest c.args.hosts c.args.most c.args.places.now c.in_ok-at.at.items c.args.loads.now c.new-moves.result c.in_ok-at.ensures c.new-moves.ensures;
    }

pub returns-in_default : goal.returns-in_default
returns-in_default c =
    let i = c.loop-turn.invariant in
    let w = is_under_way c.args.hosts c.args.places.now c.loop-turn.at.items c.args.loads.now c.loop-turn.sums c.requires.paired c.requires.ordered c.requires.some_host c.requires.few_hosts i.long i.eight i.sums in
    let e = ap (λ (hs : List Host). next_index c.args.hosts c.loop-turn.sums (zip hs c.args.loads.now)) (sym c.deref.ensures.value) ∙ c.in_default.ensures.turn in
    turn_over w c.loop-turn.moves _ c.args.most c.loop-turn._turn e i.rest

pub shift-requires-clause-some : goal.shift-requires-clause-some
shift-requires-clause-some c =
    let i = c.loop-turn.invariant in
    let w = is_under_way c.args.hosts c.args.places.now c.loop-turn.at.items c.args.loads.now c.loop-turn.sums c.requires.paired c.requires.ordered c.requires.some_host c.requires.few_hosts i.long i.eight i.sums in
    let turn = c.in-Some.ensures.turn in
    let e = ap (λ (hs : List Host). next_index c.args.hosts c.loop-turn.sums (zip hs c.args.loads.now)) (sym c.deref.ensures.value) ∙ turn.0 in
    let leaves = turn_leaves w c.in-Some.turn.index c.index-places-i.result c.in-Some.turn.to e in
    let from = ap (λ (n : ℕ). get_or c.loop-turn.sums n 0) turn.1 in
    omega (arith, leaves, from)

pub shift-requires-clause-room : goal.shift-requires-clause-room
shift-requires-clause-room c =
    let i = c.loop-turn.invariant in
    let w = is_under_way c.args.hosts c.args.places.now c.loop-turn.at.items c.args.loads.now c.loop-turn.sums c.requires.paired c.requires.ordered c.requires.some_host c.requires.few_hosts i.long i.eight i.sums in
    let turn = c.in-Some.ensures.turn in
    let e = ap (λ (hs : List Host). next_index c.args.hosts c.loop-turn.sums (zip hs c.args.loads.now)) (sym c.deref.ensures.value) ∙ turn.0 in
    let room = turn_fits w c.in-Some.turn.index c.index-places-i.result c.in-Some.turn.to e in
    let to = ap (λ (n : ℕ). get_or c.loop-turn.sums n 0) turn.2 in
    omega (arith, room, to, c.requires.small)

pub loop-turn-preserved : goal.loop-turn-preserved
loop-turn-preserved c =
    let i = c.loop-turn.invariant in
    let w = is_under_way c.args.hosts c.args.places.now c.loop-turn.at.items c.args.loads.now c.loop-turn.sums c.requires.paired c.requires.ordered c.requires.some_host c.requires.few_hosts i.long i.eight i.sums in
    let turn = c.in-Some.ensures.turn in
    let e = ap (λ (hs : List Host). next_index c.args.hosts c.loop-turn.sums (zip hs c.args.loads.now)) (sym c.deref.ensures.value) ∙ turn.0 in
    record {
      long = length-set c.loop-turn.at.items c.in-Some.turn.index _ ∙ i.long;
      eight = c.shift.ensures.long ∙ i.eight;
      sums = turn_sums w c.shift.new.sums c.in-Some.turn.index c.in-Some.turn.from.0 c.index-places-i.result c.in-Some.turn.to c.in-Some.turn.to e turn.1 turn.2 c.shift.ensures.loads;
      rest = turn_written w c.loop-turn.moves _ c.add.new.self c.args.most c.loop-turn._turn c.in-Some.turn.index c.index-places-i.result c.in-Some.turn.to e turn.2 c.loop-turn-test.true i.rest c.in_ok-add.ensures.ok;
    }
