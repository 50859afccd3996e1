-- What operators raise.
use Rattle.std.proofs.Common.{◌≡◌, ℕ, zero, suc, ℤ, pos, Bool, true, false, if◌then◌else◌, List, [], ◌∷◌, ◌++◌, length, get_or, Option, Some, None, Ok, Err, refl}
use Rattle.std.specs.Prelude.{◌+ℤ◌, ◌-ℤ◌, ◌*ℤ◌, nat_le, neg_ℤ, unsigned_abs}
use Rattle.std.specs.Int.RustNames.{int_div, int_rem}
use Rattle.wave_base.specs.declared.limits.TheConstants.{TEXT_BYTES}
use Rattle.wave_base.specs.declared.trap.TrapKind.{TrapKind}
use Rattle.wave_base.specs.declared.trap.TrapKind.TheVariants as trap
use Rattle.wave_base.specs.declared.value.Kind.{Kind}
use Rattle.wave_base.specs.declared.value.Kind.TheVariants as k
use Rattle.wave_base.specs.declared.value.Value.{Value}
use Rattle.wave_base.specs.declared.value.Value.TheVariants.{Int, Bool as Flag, Str, Map}
use Rattle.wave_base.specs.Tables.{is_full, value_at, with_pair}
use Rattle.value_ops.specs.Kinds.{Answer, Of, From, answer_of, at_values}
use Rattle.value_ops.specs.Meanings.{or_trap, is_int, in_int, is_zero, part, key_at, total}
use Rattle.value_ops.specs.Numbers.{is_number, number_in}
use Rattle.value_ops.specs.Operators.{Operator, operators, no_operator, apply_row}

abbrev pub is_operators : TrapKind → Bool
is_operators trap.Overflow = true
is_operators trap.DivZero = true
is_operators trap.Absent = true
is_operators trap.Full = true
is_operators trap.TooLong = true
is_operators _ = false

-- a value, or one of the traps that operators raise
abbrev pub IsOperators : {A : Type 0} → Answer A → Type 0
IsOperators (Ok x) = Unit {0}
IsOperators (Err kind) = is_operators kind ≡ true

either : {A : Type 0} (b : Bool) (x y : Answer A) → IsOperators x → IsOperators y → IsOperators (if b then x else y)
either true x y h g = h
either false x y h g = g

absent : {A : Type 0} (o : Option A) → IsOperators (or_trap trap.Absent o)
absent None = refl
absent (Some x) = tt

int : (z : ℤ) → IsOperators (in_int z)
int z = either (is_int z) (Ok z) (Err trap.Overflow) tt refl

-- of all values of these kinds
abbrev AllGive : (A : Type 0) (kinds : List Kind) → From kinds (Answer A) → Type 0
AllGive A [] f = IsOperators f
AllGive A (kind ∷ kinds) f = (x : Of kind) → AllGive A kinds (f x)

at_all : (A : Type 0) (kinds : List Kind) (f : From kinds (Answer A)) → AllGive A kinds f → (values : List Value) → IsOperators (at_values {A = A} kinds f values)
at_all A [] f h [] = h
at_all A [] f h (v ∷ vs) = refl
at_all A (k.Int ∷ kinds) f h (Int n ∷ vs) = at_all A kinds (f n) (h n) vs
at_all A (k.Bool ∷ kinds) f h (Flag b ∷ vs) = at_all A kinds (f b) (h b) vs
at_all A (k.Text ∷ kinds) f h (Str t ∷ vs) = at_all A kinds (f t) (h t) vs
at_all A (k.Map ∷ kinds) f h (Map m ∷ vs) = at_all A kinds (f m) (h m) vs
at_all A (k.Int ∷ kinds) f h _ = refl
at_all A (k.Bool ∷ kinds) f h _ = refl
at_all A (k.Text ∷ kinds) f h _ = refl
at_all A (k.Map ∷ kinds) f h _ = refl

abbrev Raises : Operator → Type 0
Raises o = AllGive (Of o.gives) o.takes o.does

abbrev EachRaises : List Operator → Type 0
EachRaises [] = Unit {0}
EachRaises (o ∷ os) = Raises o × EachRaises os

row_of : (os : List Operator) → EachRaises os → (row : ℕ) → Raises (get_or os row no_operator)
row_of [] e row = refl
row_of (o ∷ os) e zero = e.0
row_of (o ∷ os) e (suc row) = row_of os e.1 row

all_rows : EachRaises operators
unfolding operators
all_rows = (
  λ a b. int (a +ℤ b),
  (
    λ a b. int (a -ℤ b),
    (
      λ a b. int (a *ℤ b),
      (
        λ a b. either (is_zero b) (Err trap.DivZero) (in_int (int_div a b)) refl (int (int_div a b)),
        (
          λ a b. either (is_zero b) (Err trap.DivZero) (if is_int (int_div a b) then Ok (int_rem a b) else Err trap.Overflow) refl (either (is_int (int_div a b)) (Ok (int_rem a b)) (Err trap.Overflow) tt refl),
          (
            λ a. int (neg_ℤ a),
            (
              λ b. tt,
              (
                λ a b. tt,
                (
                  λ a b. tt,
                  (
                    λ a b. tt,
                    (
                      λ a b. tt,
                      (
                        λ a b. tt,
                        (
                          λ a b. tt,
                          (
                            λ b c. tt,
                            (
                              λ b c. tt,
                              (
                                λ s t. tt,
                                (
                                  λ s t. tt,
                                  (
                                    λ s t. tt,
                                    (
                                      λ s t. either (nat_le (length (s ++ t)) TEXT_BYTES) (Ok (s ++ t)) (Err trap.TooLong) tt refl,
                                      (
                                        λ m i. absent (value_at m i),
                                        (
                                          λ m i x. either (is_full m i) (Err trap.Full) (Ok (with_pair m i x)) refl tt,
                                          (
                                            λ m i. tt,
                                            (
                                              λ m i. tt,
                                              (
                                                λ m. tt,
                                                (
                                                  λ m i. absent (key_at m i),
                                                  (
                                                    λ t. tt,
                                                    (
                                                      λ a. tt,
                                                      (
                                                        λ t a b. absent (part t a b),
                                                        (
                                                          λ a b. tt,
                                                          (
                                                            λ a b. tt,
                                                            (
                                                              λ a. int (pos (unsigned_abs a)),
                                                              (
                                                                λ m. int (total m),
                                                                (
                                                                  λ s t. tt,
                                                                  (
                                                                    λ t. either (is_number t) (in_int (number_in t)) (Err trap.Absent) (int (number_in t)) refl,
                                                                    tt,
                                                                  ),
                                                                ),
                                                              ),
                                                            ),
                                                          ),
                                                        ),
                                                      ),
                                                    ),
                                                  ),
                                                ),
                                              ),
                                            ),
                                          ),
                                        ),
                                      ),
                                    ),
                                  ),
                                ),
                              ),
                            ),
                          ),
                        ),
                      ),
                    ),
                  ),
                ),
              ),
            ),
          ),
        ),
      ),
    ),
  ),
)

pub row_raises : (row : ℕ) (values : List Value) → IsOperators (apply_row row values)
unfolding apply_row
row_raises row values = let o = get_or operators row no_operator in given o.gives (at_values o.takes o.does values) (at_all (Of o.gives) o.takes o.does (row_of operators all_rows row) values)
  where
    given : (kind : Kind) (a : Answer (Of kind)) → IsOperators a → IsOperators (answer_of kind a)
    given kind (Ok x) h = tt
    given kind (Err trap) h = h
