-- A listing written part by part.
use Rattle.std.proofs.Common.{◌≡◌, ◌+◌, ◌<◌, ◌≤◌, ℕ, suc, Bool, List, [], ◌∷◌, ◌++◌, length, take, drop, get_or, refl, sym, ap, subst, ◌∙◌, append_assoc, append-nil, arith}
use Rattle.std.specs.List.{concat}
use Rattle.std.proofs.Math.Seq.{take-suc}
use Rattle.std.proofs.lemmas.List.{length-take-le, take_all, take-append-drop}
use Rattle.std.proofs.lemmas.List.Folds.{concat-append}
use Rattle.std.proofs.lemmas.Option.{get_or_from_slice_get, slice_get_within}
use Rattle.wave_base.specs.declared.finished.Finished.{Finished}
use Rattle.wave_base.specs.declared.shape.Shape.{Shape}
use Rattle.wave_base.specs.declared.shown.Shown.{Shown}
use Rattle.listing_out.specs.Listing.{name_at, made_at, shown_of, result_lines, lines_from, end_lines, places_of, last_ticket, listing}
use Rattle.listing_out.specs.Parts.{IsShownAt, AreShownFrom, first_lines}
use Rattle.listing_out.proofs.ListingLemmas.{shown_get, shown_length, whole_listing}

-- the lines of two parts, one behind the other
lines_append : (shape : Shape) (n : ℕ) (xs ys : List Shown) → lines_from shape n (xs ++ ys) ≡ lines_from shape n xs ++ lines_from shape (n + length xs) ys
lines_append shape n [] ys = (let same : n ≡ n + 0 = omega arith in ap (λ k. lines_from shape k ys) same)
lines_append shape n (x ∷ xs) ys =
    let next : n + 1 + length xs ≡ n + suc (length xs) = omega arith in
    let first : List (List ℕ) = result_lines shape n x.name x.result x.made in
    ap (λ z. first ++ z) (lines_append shape (n + 1) xs ys ∙ ap (λ k. lines_from shape (n + 1) xs ++ lines_from shape k ys) next)
    ∙ sym (append_assoc first (lines_from shape (n + 1) xs) (lines_from shape (n + suc (length xs)) ys))

-- a ticket of the run stands at its place
stands_at : (done : Finished) (i : ℕ) (x : Shown) → IsShownAt done i x → (i < length (shown_of done)) × (get_or (shown_of done) i x ≡ x)
stands_at done i x h =
    let within : i < length done.results = slice_get_within done.results i x.result h.result in
    let at : ℕ → Shown = λ k. record { name = name_at done k; result = x.result; made = made_at done k } in
    let zero_on : 0 + i ≡ i = omega arith in
    let same : at i ≡ x = (λ k. record { name = h.name k; result = x.result; made = h.made k }) in (
      omega (arith, shown_length done 0 done.results),
      shown_get done 0 done.results i x.result x within (sym (get_or_from_slice_get done.results i x.result x.result h.result)) ∙ ap at zero_on ∙ same,
    )

-- one ticket more
one_more : (shape : Shape) (first : ℕ) (done : Finished) (i : ℕ) (x : Shown) → IsShownAt done i x
    → first_lines shape first done i ++ concat (result_lines shape (first + i) x.name x.result x.made) ≡ first_lines shape first done (i + 1)
one_more shape first done i x h =
    let all : List Shown = shown_of done in
    let at = stands_at done i x h in
    let within : i < length all = at.0 in
    let next : suc i ≡ i + 1 = omega arith in
    let some : i ≤ length all = omega (arith, at.0) in
    let as_many : length (take i all) ≡ i = length-take-le i all some in
    let lines : List (List ℕ) = result_lines shape (first + i) x.name x.result x.made in
    let one : lines_from shape (first + length (take i all)) (x ∷ []) ≡ lines = ap (λ k. lines_from shape (first + k) (x ∷ [])) as_many ∙ append-nil lines in
    let longer : take (i + 1) all ≡ take i all ++ x ∷ [] = ap (λ k. take k all) (sym next) ∙ take-suc all i x within ∙ ap (λ y. take i all ++ y ∷ []) at.1 in
    sym (ap (λ z. concat (lines_from shape first z)) longer
    ∙ ap concat (lines_append shape first (take i all) (x ∷ []) ∙ ap (λ z. lines_from shape first (take i all) ++ z) one)
    ∙ concat-append (lines_from shape first (take i all)) lines)

rest_shown : (done : Finished) (i : ℕ) (x : Shown) (xs : List Shown) → AreShownFrom done i (x ∷ xs) → AreShownFrom done (i + 1) xs
rest_shown done i x xs h = λ k y e. (let next : i + suc k ≡ i + 1 + k = omega arith in subst (λ n. IsShownAt done n y) next (h (suc k) y e))

pub part_on : (shape : Shape) (first : ℕ) (done : Finished) (i : ℕ) (part : List Shown) → AreShownFrom done i part
    → first_lines shape first done i ++ concat (lines_from shape (first + i) part) ≡ first_lines shape first done (i + length part)
part_on shape first done i [] h = (let same : i ≡ i + 0 = omega arith in append-nil (first_lines shape first done i) ∙ ap (first_lines shape first done) same)
part_on shape first done i (x ∷ xs) h =
    let same : i + 0 ≡ i = omega arith in
    let at : IsShownAt done i x = subst (λ n. IsShownAt done n x) same (h 0 x refl) in
    let next : first + i + 1 ≡ first + (i + 1) = omega arith in
    let end : i + 1 + length xs ≡ i + suc (length xs) = omega arith in
    let lines : List (List ℕ) = result_lines shape (first + i) x.name x.result x.made in
    ap (λ z. first_lines shape first done i ++ z) (concat-append lines (lines_from shape (first + i + 1) xs))
    ∙ sym (append_assoc (first_lines shape first done i) (concat lines) (concat (lines_from shape (first + i + 1) xs)))
    ∙ ap (λ k. (first_lines shape first done i ++ concat lines) ++ concat (lines_from shape k xs)) next
    ∙ ap (λ z. z ++ concat (lines_from shape (first + (i + 1)) xs)) (one_more shape first done i x at)
    ∙ part_on shape first done (i + 1) xs (rest_shown done i x xs h)
    ∙ ap (first_lines shape first done) end

-- the lines of all tickets
pub all_lines : (shape : Shape) (first : ℕ) (done : Finished) → first_lines shape first done (length done.results) ≡ concat (lines_from shape first (shown_of done))
all_lines shape first done =
    let few : length (shown_of done) ≤ length done.results = omega (arith, shown_length done 0 done.results) in
    ap (λ z. concat (lines_from shape first z)) (take_all (length done.results) (shown_of done) few)

pub whole_on : (shape : Shape) (first : ℕ) (done : Finished) (with_map : Bool)
    → first_lines shape first done (length done.results) ++ concat (end_lines shape (places_of done with_map) (last_ticket first done)) ≡ listing shape first done with_map
whole_on shape first done with_map =
    ap (λ z. z ++ concat (end_lines shape (places_of done with_map) (last_ticket first done))) (all_lines shape first done) ∙ whole_listing shape first done with_map

-- what comes behind the lines of the first i tickets
pub rest_of : (shape : Shape) (first : ℕ) (done : Finished) (i : ℕ) → (rest : List ℕ) × (first_lines shape first done i ++ rest ≡ concat (lines_from shape first (shown_of done)))
rest_of shape first done i =
    let all : List Shown = shown_of done in
    let here : List (List ℕ) = lines_from shape first (take i all) in
    let later : List (List ℕ) = lines_from shape (first + length (take i all)) (drop i all) in (
      concat later,
      sym (concat-append here later) ∙ ap concat (sym (lines_append shape first (take i all) (drop i all))) ∙ ap (λ z. concat (lines_from shape first z)) (take-append-drop i all),
    )
