-- The value of digits is above a limit once that of their front is.
use Rattle.std.proofs.Common.{◌≡◌, ℕ, zero, suc, ◌+◌, ◌-◌, ◌*◌, ◌<◌, ◌≤◌, List, [], ◌∷◌, length, take, drop, get_or, fold, refl, arith}
use Rattle.mace_lexer.specs.Words.{with_digit, value_of}

grows : (v : ℕ) (ds : List ℕ) → v ≤ fold with_digit v ds
grows v [] = omega arith
grows v (d ∷ ds) = omega (arith, grows (with_digit v d) ds)

split : (v : ℕ) (ds : List ℕ) (i : ℕ) → i < length ds → fold with_digit v ds ≡ fold with_digit (with_digit (fold with_digit v (take i ds)) (get_or ds i 0)) (drop (suc i) ds)
split v [] i h = absurd (omega arith)
split v (d ∷ ds) zero h = refl
split v (d ∷ ds) (suc i) h = split (with_digit v d) ds i (omega arith)

pub value_over : (ds : List ℕ) (i limit : ℕ) → i < length ds → limit < 10 * value_of (take i ds) + (get_or ds i 0 - 48) → limit < value_of ds
value_over ds i limit h k = omega (arith, split 0 ds i h, grows (with_digit (value_of (take i ds)) (get_or ds i 0)) (drop (suc i) ds), k)
