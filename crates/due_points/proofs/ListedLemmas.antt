-- The listing of two runs, one behind the other.
use Rattle.std.proofs.Common.{◌≡◌, ◌∙◌, ◌<◌, ◌+◌, ℕ, zero, suc, Bool, true, false, Some, List, [], ◌∷◌, ◌++◌, length, slice_get, refl, sym, ap, arith, append_assoc, length-append, add-zero, zero-add}
use Rattle.std.specs.List.{concat}
use Rattle.std.specs.Option.{option_and_then, option_map_or}
use Rattle.std.proofs.lemmas.List.Folds.{concat-append}
use Rattle.wave_base.specs.declared.finished.Finished.{Finished}
use Rattle.wave_base.specs.declared.outcome.EventResult.{EventResult}
use Rattle.wave_base.specs.declared.shape.Shape.{Shape}
use Rattle.wave_base.specs.declared.shown.Shown.{Shown}
use Rattle.fold_laws.specs.Cuts.{AreJoined}
use Rattle.listing_out.specs.Listing.{end_lines, last_ticket, lines_from, listing, made_at, name_at, places_of, result_lines, shown_from, shown_of}

-- ---- places in two lists

get_first : {X : Type 0} (xs ys : List X) (i : ℕ) → i < length xs → slice_get (xs ++ ys) i ≡ slice_get xs i
get_first [] ys i h = absurd (omega arith)
get_first (x ∷ xs) ys zero h = refl
get_first (x ∷ xs) ys (suc i) h = get_first xs ys i (omega arith)

get_behind : {X : Type 0} (xs ys : List X) (i : ℕ) → slice_get (xs ++ ys) (length xs + i) ≡ slice_get ys i
get_behind [] ys i = ap (slice_get ys) (zero-add i)
get_behind (x ∷ xs) ys i = ap (slice_get (x ∷ (xs ++ ys))) same ∙ get_behind xs ys i
  where
    same : length (x ∷ xs) + i ≡ suc (length xs + i)
    same = omega arith

-- ---- results as they are shown

-- from the n-th on in one run as from the i-th on in the other
shown_as : (one other : Finished) (k n i : ℕ) (rs : List EventResult) → n ≡ k + i → ((j : ℕ) → j < i + length rs → name_at one (k + j) ≡ name_at other j) → ((j : ℕ) → j < i + length rs → made_at one (k + j) ≡ made_at other j)
    → shown_from one n rs ≡ shown_from other i rs
shown_as one other k n i [] e names made = refl
shown_as one other k n i (r ∷ rs) e names made =
    let name : name_at one n ≡ name_at other i = ap (name_at one) e ∙ names i (omega arith) in
    let tickets : made_at one n ≡ made_at other i = ap (made_at one) e ∙ made i (omega arith) in
    let rest = shown_as one other k (n + 1) (i + 1) rs (omega (arith, e)) (λ j h. names j (omega arith)) (λ j h. made j (omega arith)) in
    λ t. record { name = name t; result = r; made = tickets t } ∷ rest t

shown_more : (done : Finished) (i : ℕ) (rs qs : List EventResult) → shown_from done i (rs ++ qs) ≡ shown_from done i rs ++ shown_from done (i + length rs) qs
shown_more done i [] qs = ap (λ n. shown_from done n qs) (sym (add-zero i))
shown_more done i (r ∷ rs) qs =
    ap (λ xs. record { name = name_at done i; result = r; made = made_at done i } ∷ xs) (shown_more done (i + 1) rs qs ∙ ap (λ n. shown_from done (i + 1) rs ++ shown_from done n qs) same)
  where
    same : i + 1 + length rs ≡ i + length (r ∷ rs)
    same = omega arith

shown_many : (done : Finished) (i : ℕ) (rs : List EventResult) → length (shown_from done i rs) ≡ length rs
shown_many done i [] = refl
shown_many done i (r ∷ rs) = ap suc (shown_many done (i + 1) rs)

lines_more : (shape : Shape) (n : ℕ) (xs ys : List Shown) → lines_from shape n (xs ++ ys) ≡ lines_from shape n xs ++ lines_from shape (n + length xs) ys
lines_more shape n [] ys = ap (λ k. lines_from shape k ys) (sym (add-zero n))
lines_more shape n (x ∷ xs) ys =
    ap (λ ls. result_lines shape n x.name x.result x.made ++ ls) (lines_more shape (n + 1) xs ys ∙ ap (λ k. lines_from shape (n + 1) xs ++ lines_from shape k ys) same)
    ∙ sym (append_assoc (result_lines shape n x.name x.result x.made) (lines_from shape (n + 1) xs) (lines_from shape (n + length (x ∷ xs)) ys))
  where
    same : n + 1 + length xs ≡ n + length (x ∷ xs)
    same = omega arith

-- ---- both

module _ (shape : Shape) (first : ℕ) (one other whole : Finished) (joined : AreJoined one other whole) (named : length one.names ≡ length one.results) (made : length one.made ≡ length one.results) where
  first_shown : shown_from whole 0 one.results ≡ shown_of one
  first_shown =
      shown_as whole one 0 0 0 one.results refl
      (λ j h. ap (λ k. option_and_then (λ name. name) (slice_get whole.names k)) (zero-add j) ∙ ap (λ xs. option_and_then (λ name. name) (slice_get xs j)) joined.names ∙ ap (option_and_then (λ name. name)) (get_first one.names other.names j (omega (arith, named, h))))
      (λ j h. ap (λ k. option_map_or (λ made. made) (slice_get whole.made k) []) (zero-add j) ∙ ap (λ xs. option_map_or (λ made. made) (slice_get xs j) []) joined.made ∙ ap (λ o. option_map_or (λ made. made) o []) (get_first one.made other.made j (omega (arith, made, h))))

  other_shown : shown_from whole (length one.results) other.results ≡ shown_of other
  other_shown =
      shown_as whole other (length one.results) (length one.results) 0 other.results (sym (add-zero (length one.results)))
      (λ j h. ap (λ xs. option_and_then (λ name. name) (slice_get xs (length one.results + j))) joined.names ∙ ap (λ k. option_and_then (λ name. name) (slice_get (one.names ++ other.names) (k + j))) (sym named)
      ∙ ap (option_and_then (λ name. name)) (get_behind one.names other.names j))
      (λ j h. ap (λ xs. option_map_or (λ made. made) (slice_get xs (length one.results + j)) []) joined.made ∙ ap (λ k. option_map_or (λ made. made) (slice_get (one.made ++ other.made) (k + j)) []) (sym made)
      ∙ ap (λ o. option_map_or (λ made. made) o []) (get_behind one.made other.made j))

  whole_shown : shown_of whole ≡ shown_of one ++ shown_of other
  whole_shown =
      ap (shown_from whole 0) joined.results
      ∙ shown_more whole 0 one.results other.results
      ∙ ap (λ n. shown_from whole 0 one.results ++ shown_from whole n other.results) (zero-add (length one.results))
      ∙ (λ i. first_shown i ++ other_shown i)

  whole_lines : lines_from shape first (shown_of whole) ≡ lines_from shape first (shown_of one) ++ lines_from shape (first + length one.results) (shown_of other)
  whole_lines =
      ap (lines_from shape first) whole_shown
      ∙ lines_more shape first (shown_of one) (shown_of other)
      ∙ ap (λ n. lines_from shape first (shown_of one) ++ lines_from shape (first + n) (shown_of other)) (shown_many one 0 one.results)

  last_same : last_ticket first whole ≡ last_ticket (first + length one.results) other
  last_same = omega (arith, ap length joined.results, length-append one.results other.results)

  places_same : (mapped : Bool) → places_of whole mapped ≡ places_of other mapped
  places_same false = refl
  places_same true = ap Some joined.places

  end_same : (mapped : Bool) → end_lines shape (places_of whole mapped) (last_ticket first whole) ≡ end_lines shape (places_of other mapped) (last_ticket (first + length one.results) other)
  end_same mapped = λ i. end_lines shape (places_same mapped i) (last_same i)

  -- the events of the one, and behind them the listing of the other
  pub listing_joined : (mapped : Bool) → listing shape first whole mapped ≡ concat (lines_from shape first (shown_of one)) ++ listing shape (first + length one.results) other mapped
  listing_joined mapped =
      (λ i. concat (whole_lines i ++ end_same mapped i))
      ∙ ap concat (append_assoc (lines_from shape first (shown_of one)) (lines_from shape (first + length one.results) (shown_of other)) (end_lines shape (places_of other mapped) (last_ticket (first + length one.results) other)))
      ∙ concat-append (lines_from shape first (shown_of one)) (lines_from shape (first + length one.results) (shown_of other) ++ end_lines shape (places_of other mapped) (last_ticket (first + length one.results) other))
