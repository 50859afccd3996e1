-- What operators give of values is a value.
use Rattle.std.proofs.Common.{◌≡◌, ◌<◌, ◌≤◌, ◌+◌, ◌-◌, ◌^◌, ℕ, zero, suc, ℤ, pos, negsuc, Bool, true, false, not, if◌then◌else◌, cond, sum_by, unwrap_or, List, [], ◌∷◌, ◌++◌, length, get_or, take, drop, Option, Some, None, IfSome, is_some, Ok, Err, refl, sym, ap, ◌∙◌, arith, w64, slice_get, FitsSigned, All, leb-true}
use Rattle.std.specs.Prelude.{◌+ℤ◌, ◌-ℤ◌, ◌*ℤ◌, nat_le, nat_lt, neg_ℤ, unsigned_abs, slice_range, option_map, ◌&&◌}
use Rattle.std.specs.Fmt.{signed_decimal}
use Rattle.std.specs.Int.RustNames.{int_div, int_rem, int_lt}
use Rattle.std.specs.List.{AllByRecursion}
use Rattle.std.specs.Map.{keys_of, values_of, remove_entry}
use Rattle.std.specs.BTreeMap.{is_at}
use Rattle.std.specs.List.Sorted.{IsStrictlySortedBy}
use Rattle.std.specs.Ordering.{int_cmp, match_ordering}
use Rattle.std.specs.declared.cmp.Ordering.TheVariants.{Less, Equal, Greater}
use Rattle.std.proofs.lemmas.Bool.Decides.{nat_tests}
use Rattle.std.proofs.lemmas.Fmt.{length_signed_le}
use Rattle.std.proofs.lemmas.Int.{fits_signed_from_abs, rem_below}
use Rattle.std.proofs.lemmas.List.Elements.{All-append, All-drop, All-map, All-take, All-weaker, All-from_recursion, recursion_from_All}
use Rattle.std.proofs.lemmas.List.{length-map}
use Rattle.std.proofs.lemmas.List.Sums.{sum_by-cons}
use Rattle.std.proofs.lemmas.Cmp.{int_cmp_total}
use Rattle.std.proofs.lemmas.Map.Entries.{sum_by-insert_entry}
use Rattle.std.proofs.lemmas.Map.Views.{IfSome-lookup_from_All}
use Rattle.wave_base.proofs.Lists.{all_at}
use Rattle.wave_base.proofs.Places.{sorted_put}
use Rattle.wave_base.specs.declared.limits.TheConstants.{TABLE_PAIRS, TEXT_BYTES}
use Rattle.wave_base.specs.declared.trap.TrapKind.{TrapKind}
use Rattle.wave_base.specs.declared.trap.TrapKind.TheVariants as trap
use Rattle.wave_base.specs.declared.value.Kind.{Kind}
use Rattle.wave_base.specs.declared.value.Kind.TheVariants as k
use Rattle.wave_base.specs.declared.value.Value.{Value}
use Rattle.wave_base.specs.declared.value.Value.TheVariants.{Int, Bool as Flag, Str, Map}
use Rattle.wave_base.specs.Tables.{IsTable, is_full, value_at, with_pair}
use Rattle.wave_base.specs.Text.{IsPrintable, IsText}
use Rattle.value_ops.proofs.IntLemmas.{is_int_fits}
use Rattle.value_ops.proofs.TextLemmas.{printable_number}
use Rattle.value_ops.specs.Kinds.{Answer, Of, From, answer_of, at_values, value_of}
use Rattle.value_ops.specs.Meanings.{or_trap, is_int, in_int, is_zero, joined_text, part, put, key_at, total}
use Rattle.value_ops.specs.Numbers.{is_number, number_in}
use Rattle.value_ops.specs.Operators.{Operator, operators, no_operator, apply_row}
use Rattle.snapshot_text.specs.Shots.{IsValue}

-- a value, or a trap
abbrev pub IsGiven : Answer Value → Type 0
IsGiven (Ok value) = IsValue value
IsGiven (Err kind) = Unit {0}

abbrev IsAnswer : (kind : Kind) → Answer (Of kind) → Type 0
IsAnswer kind (Ok x) = IsValue (value_of kind x)
IsAnswer kind (Err trap) = Unit {0}

either : (kind : Kind) (b : Bool) (x y : Answer (Of kind)) → IsAnswer kind x → IsAnswer kind y → IsAnswer kind (if b then x else y)
either kind true x y h g = h
either kind false x y h g = g

-- where the test holds, or traps
tested : (kind : Kind) (b : Bool) (x : Of kind) (t : TrapKind) → (b ≡ true → IsValue (value_of kind x)) → IsAnswer kind (if b then Ok x else Err t)
tested kind true x t h = h refl
tested kind false x t h = tt

or_absent : (kind : Kind) (o : Option (Of kind)) → IfSome o (λ x. IsValue (value_of kind x)) → IsAnswer kind (or_trap trap.Absent o)
or_absent kind None h = tt
or_absent kind (Some x) h = h

-- ---- numbers

int : (z : ℤ) → IsAnswer k.Int (in_int z)
int z = tested k.Int (is_int z) z trap.Overflow (λ e. is_int_fits z e)

not_zero : (b : ℤ) → is_zero b ≡ false → 0 < unsigned_abs b
not_zero (pos zero) e = cc
not_zero (pos (suc n)) e = omega arith
not_zero (negsuc n) e = omega arith

fits_abs : (b : ℤ) → FitsSigned w64 b → unsigned_abs b ≤ 2 ^ 63
fits_abs (pos n) f = omega (arith, f.sfits)
fits_abs (negsuc n) f = omega (arith, f.sfits)

rem_fits : (a b : ℤ) → is_zero b ≡ false → FitsSigned w64 b → FitsSigned w64 (int_rem a b)
rem_fits a b e f = fits_signed_from_abs w64 (int_rem a b) (omega (arith, rem_below a b (not_zero b e), fits_abs b f))

rem : (a b : ℤ) → FitsSigned w64 b → IsAnswer k.Int (if is_zero b then Err trap.DivZero else (if is_int (int_div a b) then Ok (int_rem a b) else Err trap.Overflow))
rem a b f = by (is_zero b) refl
  where
    by : (t : Bool) → is_zero b ≡ t → IsAnswer k.Int (if t then Err trap.DivZero else (if is_int (int_div a b) then Ok (int_rem a b) else Err trap.Overflow))
    by true e = tt
    by false e = tested k.Int (is_int (int_div a b)) (int_rem a b) trap.Overflow (λ _. rem_fits a b e f)

one_fits : (t : Bool) (x y : ℤ) → FitsSigned w64 x → FitsSigned w64 y → FitsSigned w64 (if t then x else y)
one_fits true x y f g = f
one_fits false x y f g = g

count_fits : (n : ℕ) → n ≤ 1000 → FitsSigned w64 (pos n)
count_fits n h = record { sfits = omega (arith, h) }

-- ---- texts

both_texts : (s t : List ℕ) → IsText s → IsText t → IsAnswer k.Text (joined_text s t)
both_texts s t f g =
    tested k.Text (nat_le (length (s ++ t)) TEXT_BYTES) (s ++ t) trap.TooLong (λ e. record { printable = All-append IsPrintable s t f.printable g.printable; short = leb-true (length (s ++ t)) TEXT_BYTES e })

written : (z : ℤ) → FitsSigned w64 z → IsText (signed_decimal z)
written z f = record { printable = printable_number z f; short = omega (arith, length_signed_le 20 z (omega (arith, f.sfits)) f.sfits) }

take_short : {A : Type 0} (n : ℕ) (xs : List A) → length (take n xs) ≤ length xs
take_short zero xs = omega arith
take_short (suc n) [] = omega arith
take_short (suc n) (x ∷ xs) = omega (arith, take_short n xs)

drop_short : {A : Type 0} (n : ℕ) (xs : List A) → length (drop n xs) ≤ length xs
drop_short zero xs = omega arith
drop_short (suc n) [] = omega arith
drop_short (suc n) (x ∷ xs) = omega (arith, drop_short n xs)

ranged : (t : List ℕ) (a b : ℕ) → IsText t → IsText (slice_range t a b)
ranged t a b f = record {
  printable = All-take IsPrintable _ (drop a t) (All-drop IsPrintable a t f.printable);
  short = omega (arith, f.short, drop_short a t, take_short (b - a) (drop a t));
}

parted : (t : List ℕ) (a b : ℤ) → IsText t → IfSome (part t a b) IsText
parted t (pos a) (pos b) f = by (nat_le a b && nat_le b (length t))
  where
    by : (c : Bool) → IfSome (if c then Some (slice_range t a b) else None) IsText
    by true = ranged t a b f
    by false = tt
parted t (pos a) (negsuc b) f = tt
parted t (negsuc a) (pos b) f = tt
parted t (negsuc a) (negsuc b) f = tt

-- ---- maps

abbrev Fits : ℤ × ℤ → Type 0
Fits p = FitsSigned w64 p.0 × FitsSigned w64 p.1

abbrev IsMap : List (ℤ × ℤ) → Type 0
IsMap m = IsTable m × All Fits m

found : (m : List (ℤ × ℤ)) (i : ℤ) → IsMap m → IfSome (value_at m i) (FitsSigned w64)
found m i h =
    IfSome-lookup_from_All (FitsSigned w64) (is_at (int_cmp i)) m
    (All-map (FitsSigned w64) (λ (p : ℤ × ℤ). p.1) m (All-weaker Fits (λ (p : ℤ × ℤ). FitsSigned w64 p.1) (λ p f. f.1) m h.1))

key_there : (m : List (ℤ × ℤ)) (i : ℤ) → IsMap m → IfSome (key_at m i) (FitsSigned w64)
key_there m (negsuc i) h = tt
key_there m (pos i) h = by (slice_get m i) refl
  where
    by : (o : Option (ℤ × ℤ)) → slice_get m i ≡ o → IfSome (option_map (λ (p : ℤ × ℤ). p.0) o) (FitsSigned w64)
    by None e = tt
    by (Some p) e = (all_at Fits m i p e h.1).0

module _ (test : ℤ → Bool) where
  removed : (es : List (ℤ × ℤ)) → AllByRecursion Fits es → AllByRecursion Fits (remove_entry test es)
  removed [] a = tt
  removed (e ∷ es) a = elim (test e.0) as (λ b. AllByRecursion Fits (cond b es (e ∷ remove_entry test es))) [ true ↦ a.1 | false ↦ (a.0, removed es a.1) ]

  removed_keys : (P : ℤ → Type 0) (es : List (ℤ × ℤ)) → AllByRecursion P (keys_of es) → AllByRecursion P (keys_of (remove_entry test es))
  removed_keys P [] a = tt
  removed_keys P (e ∷ es) a = elim (test e.0) as (λ b. AllByRecursion P (keys_of (cond b es (e ∷ remove_entry test es)))) [ true ↦ a.1 | false ↦ (a.0, removed_keys P es a.1) ]

  removed_rises : (es : List (ℤ × ℤ)) → IsStrictlySortedBy int_cmp (keys_of es) → IsStrictlySortedBy int_cmp (keys_of (remove_entry test es))
  unfolding IsStrictlySortedBy
  removed_rises [] s = tt
  removed_rises (e ∷ es) s =
      elim (test e.0) as (λ b. IsStrictlySortedBy int_cmp (keys_of (cond b es (e ∷ remove_entry test es)))) [
        | true ↦ s.1
        | false ↦ (removed_keys (λ y. int_cmp e.0 y ≡ Less) es s.0, removed_rises es s.1)
      ]

  removed_short : (es : List (ℤ × ℤ)) → length (remove_entry test es) ≤ length es
  removed_short [] = omega arith
  removed_short (e ∷ es) = elim (test e.0) as (λ b. length (cond b es (e ∷ remove_entry test es)) ≤ suc (length es)) [ true ↦ omega arith | false ↦ omega (arith, removed_short es) ]

  cut : (m : List (ℤ × ℤ)) → IsMap m → IsMap (remove_entry test m)
  cut m h = (record { rises = removed_rises m h.0.rises; short = omega (arith, removed_short m, h.0.short) }, All-from_recursion Fits (remove_entry test m) (removed m (recursion_from_All Fits m h.1)))

module _ (i x : ℤ) (fi : FitsSigned w64 i) (fx : FitsSigned w64 x) where
  with_fits : (es : List (ℤ × ℤ)) → AllByRecursion Fits es → AllByRecursion Fits (with_pair es i x)
  with_fits [] a = ((fi, fx), tt)
  with_fits (e ∷ es) a =
      elim (int_cmp i e.0) as (λ r. AllByRecursion Fits (match_ordering r ((i, x) ∷ e ∷ es) ((e.0, x) ∷ es) (e ∷ with_pair es i x))) [
        | Less ↦ ((fi, fx), a)
        | Equal ↦ (((a.0).0, fx), a.1)
        | Greater ↦ (a.0, with_fits es a.1)
      ]

  count : (xs : List ℤ) → sum_by (λ (v : ℤ). 1) xs ≡ length xs
  count [] = refl
  count (v ∷ vs) = omega (arith, count vs, sum_by-cons (λ (v : ℤ). 1) v vs)

  counted : (es : List (ℤ × ℤ)) → sum_by (λ (v : ℤ). 1) (values_of es) ≡ length es
  counted es = count (values_of es) ∙ length-map es (λ p. p.1)

  -- one more, unless the key is there
  longer : (m : List (ℤ × ℤ)) → IsTable m → length (with_pair m i x) + unwrap_or (option_map (λ (v : ℤ). 1) (value_at m i)) 0 ≡ length m + 1
  longer m t =
      ap (λ n. n + unwrap_or (option_map (λ (v : ℤ). 1) (value_at m i)) 0) (sym (counted (with_pair m i x)))
      ∙ sum_by-insert_entry (λ (v : ℤ). 1) int_cmp_total m i x t.rises
      ∙ ap (λ n. n + 1) (counted m)

  short : (m : List (ℤ × ℤ)) → IsTable m → is_full m i ≡ false → length (with_pair m i x) ≤ 1000
  short m t e = by (value_at m i) (longer m t) e
    where
      by : (o : Option ℤ) → length (with_pair m i x) + unwrap_or (option_map (λ (v : ℤ). 1) o) 0 ≡ length m + 1 → (not (nat_lt (length m) TABLE_PAIRS) && not (is_some o)) ≡ false → length (with_pair m i x) ≤ 1000
      by (Some v) l e = omega (arith, l, t.short)
      by None l e = let room : length m < 1000 = grind (arith, nat_tests) in omega (arith, l, room)

  with_map : (m : List (ℤ × ℤ)) → IsMap m → is_full m i ≡ false → IsMap (with_pair m i x)
  with_map m h e = (record { rises = sorted_put i x m h.0.rises; short = short m h.0 e }, All-from_recursion Fits (with_pair m i x) (with_fits m (recursion_from_All Fits m h.1)))

  put_map : (m : List (ℤ × ℤ)) → IsMap m → IsAnswer k.Map (put m i x)
  put_map m h = by (is_full m i) refl
    where
      by : (b : Bool) → is_full m i ≡ b → IsAnswer k.Map (if b then Err trap.Full else Ok (with_pair m i x))
      by true e = tt
      by false e = with_map m h e

-- ---- rows

-- of all values of these kinds
abbrev AllGive : (gives : Kind) (kinds : List Kind) → From kinds (Answer (Of gives)) → Type 0
AllGive gives [] f = IsAnswer gives f
AllGive gives (kind ∷ kinds) f = (x : Of kind) → IsValue (value_of kind x) → AllGive gives kinds (f x)

at_all : (gives : Kind) (kinds : List Kind) (f : From kinds (Answer (Of gives))) → AllGive gives kinds f → (values : List Value) → AllByRecursion IsValue values → IsAnswer gives (at_values {A = Of gives} kinds f values)
at_all gives [] f h [] a = h
at_all gives [] f h (v ∷ vs) a = tt
at_all gives (k.Int ∷ kinds) f h (Int n ∷ vs) a = at_all gives kinds (f n) (h n a.0) vs a.1
at_all gives (k.Bool ∷ kinds) f h (Flag b ∷ vs) a = at_all gives kinds (f b) (h b a.0) vs a.1
at_all gives (k.Text ∷ kinds) f h (Str t ∷ vs) a = at_all gives kinds (f t) (h t a.0) vs a.1
at_all gives (k.Map ∷ kinds) f h (Map m ∷ vs) a = at_all gives kinds (f m) (h m a.0) vs a.1
at_all gives (k.Int ∷ kinds) f h _ a = tt
at_all gives (k.Bool ∷ kinds) f h _ a = tt
at_all gives (k.Text ∷ kinds) f h _ a = tt
at_all gives (k.Map ∷ kinds) f h _ a = tt

abbrev Gives : Operator → Type 0
Gives o = AllGive o.gives o.takes o.does

abbrev EachGives : List Operator → Type 0
EachGives [] = Unit {0}
EachGives (o ∷ os) = Gives o × EachGives os

row_of : (os : List Operator) → EachGives os → (row : ℕ) → Gives (get_or os row no_operator)
row_of [] e row = tt
row_of (o ∷ os) e zero = e.0
row_of (o ∷ os) e (suc row) = row_of os e.1 row

all_rows : EachGives operators
unfolding operators
all_rows = (
  λ a f b g. int (a +ℤ b),
  (
    λ a f b g. int (a -ℤ b),
    (
      λ a f b g. int (a *ℤ b),
      (
        λ a f b g. either k.Int (is_zero b) (Err trap.DivZero) (in_int (int_div a b)) tt (int (int_div a b)),
        (
          λ a f b g. rem a b g,
          (
            λ a f. int (neg_ℤ a),
            (
              λ b f. tt,
              (
                λ a f b g. tt,
                (
                  λ a f b g. tt,
                  (
                    λ a f b g. tt,
                    (
                      λ a f b g. tt,
                      (
                        λ a f b g. tt,
                        (
                          λ a f b g. tt,
                          (
                            λ b f c g. tt,
                            (
                              λ b f c g. tt,
                              (
                                λ s f t g. tt,
                                (
                                  λ s f t g. tt,
                                  (
                                    λ s f t g. tt,
                                    (
                                      λ s f t g. both_texts s t f g,
                                      (
                                        λ m f i g. or_absent k.Int (value_at m i) (found m i f),
                                        (
                                          λ m f i g x h. put_map i x g h m f,
                                          (
                                            λ m f i g. cut (is_at (int_cmp i)) m f,
                                            (
                                              λ m f i g. tt,
                                              (
                                                λ m f. count_fits (length m) f.0.short,
                                                (
                                                  λ m f i g. or_absent k.Int (key_at m i) (key_there m i f),
                                                  (
                                                    λ t f. count_fits (length t) f.short,
                                                    (
                                                      λ a f. written a f,
                                                      (
                                                        λ t f a g b h. or_absent k.Text (part t a b) (parted t a b f),
                                                        (
                                                          λ a f b g. one_fits (int_lt b a) b a g f,
                                                          (
                                                            λ a f b g. one_fits (int_lt b a) a b f g,
                                                            (
                                                              λ a f. int (pos (unsigned_abs a)),
                                                              (
                                                                λ m f. int (total m),
                                                                (
                                                                  λ s f t g. tt,
                                                                  (
                                                                    λ t f. either k.Int (is_number t) (in_int (number_in t)) (Err trap.Absent) (int (number_in t)) tt,
                                                                    tt,
                                                                  ),
                                                                ),
                                                              ),
                                                            ),
                                                          ),
                                                        ),
                                                      ),
                                                    ),
                                                  ),
                                                ),
                                              ),
                                            ),
                                          ),
                                        ),
                                      ),
                                    ),
                                  ),
                                ),
                              ),
                            ),
                          ),
                        ),
                      ),
                    ),
                  ),
                ),
              ),
            ),
          ),
        ),
      ),
    ),
  ),
)

pub row_given : (row : ℕ) (values : List Value) → All IsValue values → IsGiven (apply_row row values)
unfolding apply_row
row_given row values h = (let o = get_or operators row no_operator in given o.gives (at_values o.takes o.does values) (at_all o.gives o.takes o.does (row_of operators all_rows row) values (recursion_from_All IsValue values h)))
  where
    given : (kind : Kind) (a : Answer (Of kind)) → IsAnswer kind a → IsGiven (answer_of kind a)
    given kind (Ok x) h = h
    given kind (Err trap) h = tt
