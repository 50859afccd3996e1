use Rattle.std.proofs.Common.{◌≡◌, ◌-◌, ◌<◌, ℕ, true, length, refl, sym, arith}
use Rattle.std.specs.Prelude.{nat_lt}
use Rattle.std.proofs.lemmas.Bool.Decides.{nat_tests}
use Rattle.std.proofs.lemmas.Option.{slice_get_read}
use Rattle.wave_machine.proofs.Bridged.{in_place}
use Rattle.wave_machine.proofs.choosing.one_of_last.Goals as goal

less : (a b : ℕ) → true ≡ nat_lt a b → a < b
less a b e = grind (arith, nat_tests)

pub returns-then-is_late : goal.returns-then-is_late
returns-then-is_late c = in_place c.args.index.now (length c.args.index.now - 1) c.in-Some.last.now (sym c.in-Some.ensures.value)

pub returns-in-Some-get : goal.returns-in-Some-get
returns-in-Some-get c =
    let index = c.args.index.now in
    let i = c.place.result in
    let x = c.in-Some-get.first.now in
    let found = c.in-Some-get.ensures.lookup in
    in_place index i x (slice_get_read index _ i x refl (less i (length index) found.0) found.1)

pub returns-in-None-get : goal.returns-in-None-get
returns-in-None-get c = in_place c.args.index.now (length c.args.index.now - 1) c.in-Some.last.now (sym c.in-Some.ensures.value)
