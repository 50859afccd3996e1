-- The lines of a listing, one ticket after the other.
use Rattle.std.proofs.Common.{◌≡◌, ◌+◌, ◌<◌, ◌≤◌, ℕ, suc, zero, Bool, List, [], ◌∷◌, ◌++◌, length, drop, get_or, refl, sym, ap, ◌∙◌, append_assoc, append-nil, drop-cons, arith}
use Rattle.std.specs.List.{concat}
use Rattle.std.proofs.lemmas.List.Folds.{concat-append}
use Rattle.std.proofs.lemmas.List.{drop_all}
use Rattle.wave_base.specs.declared.finished.Finished.{Finished}
use Rattle.wave_base.specs.declared.outcome.EventResult.{EventResult}
use Rattle.wave_base.specs.declared.shape.Shape.{Shape}
use Rattle.wave_base.specs.declared.shown.Shown.{Shown}
use Rattle.listing_out.specs.Listing.{name_at, made_at, shown_from, shown_of, result_lines, lines_from, end_lines, places_of, last_ticket, listing}

-- the next line
pub next_line : (lines : List (List ℕ)) (i : ℕ) (d : List ℕ) → i < length lines → concat (drop i lines) ≡ get_or lines i d ++ concat (drop (i + 1) lines)
next_line lines i d h =
    let next : i + 1 ≡ suc i = omega arith in
    ap concat (drop-cons lines i d h) ∙ ap (λ k. get_or lines i d ++ concat (drop k lines)) (sym next)

-- the lines of the next ticket
pub next_ticket : (shape : Shape) (n : ℕ) (part : List Shown) (i : ℕ) (x : Shown) (lines : List (List ℕ)) → i < length part → x ≡ get_or part i x → result_lines shape (n + i) x.name x.result x.made ≡ lines
    → concat (lines_from shape (n + i) (drop i part)) ≡ concat lines ++ concat (lines_from shape (n + (i + 1)) (drop (i + 1) part))
next_ticket shape n part i x lines h e same =
    let next : i + 1 ≡ suc i = omega arith in
    let step : n + i + 1 ≡ n + (i + 1) = omega arith in
    ap (λ z. concat (lines_from shape (n + i) z)) (drop-cons part i x h)
    ∙ ap (λ (y : Shown). concat (result_lines shape (n + i) y.name y.result y.made ++ lines_from shape (n + i + 1) (drop (suc i) part))) (sym e)
    ∙ (λ j. concat (same j ++ lines_from shape (step j) (drop (sym next j) part)))
    ∙ concat-append lines (lines_from shape (n + (i + 1)) (drop (i + 1) part))

-- the ticket of a result as it is shown
pub shown_get : (done : Finished) (j : ℕ) (rs : List EventResult) (i : ℕ) (r : EventResult) (d : Shown) → i < length rs → r ≡ get_or rs i r → get_or (shown_from done j rs) i d ≡ record { name = name_at done (j + i); result = r; made = made_at done (j + i) }
shown_get done j [] i r d h e = absurd (omega arith)
shown_get done j (r' ∷ rs) zero r d h e =
    let same : j + 0 ≡ j = omega arith in
    let at : ℕ → EventResult → Shown = λ k y. record { name = name_at done k; result = y; made = made_at done k } in
    λ k. at (sym same k) (sym e k)
shown_get done j (r' ∷ rs) (suc i) r d h e =
    let same : j + 1 + i ≡ j + suc i = omega arith in
    let at : ℕ → Shown = λ k. record { name = name_at done k; result = r; made = made_at done k } in
    shown_get done (j + 1) rs i r d (omega arith) e ∙ ap at same

pub shown_length : (done : Finished) (j : ℕ) (rs : List EventResult) → length (shown_from done j rs) ≡ length rs
shown_length done j [] = refl
shown_length done j (r ∷ rs) = ap suc (shown_length done (j + 1) rs)

-- the lines of the next result
pub next_result : (shape : Shape) (first : ℕ) (done : Finished) (i : ℕ) (r : EventResult) (lines : List (List ℕ)) → i < length done.results → r ≡ get_or done.results i r → result_lines shape (first + i) (name_at done i) r (made_at done i) ≡ lines
    → concat (lines_from shape (first + i) (drop i (shown_of done))) ≡ concat lines ++ concat (lines_from shape (first + (i + 1)) (drop (i + 1) (shown_of done)))
next_result shape first done i r lines h e same =
    let x : Shown = record { name = name_at done i; result = r; made = made_at done i } in
    let zero_on : 0 + i ≡ i = omega arith in
    let at : ℕ → Shown = λ k. record { name = name_at done k; result = r; made = made_at done k } in
    let within : i < length (shown_of done) = omega (arith, shown_length done 0 done.results) in
    next_ticket shape first (shown_of done) i x lines within (sym (shown_get done 0 done.results i r x h e ∙ ap at zero_on)) same

-- no ticket is left
pub no_ticket : (shape : Shape) (n : ℕ) (part : List Shown) (i : ℕ) → length part ≤ i → concat (lines_from shape n (drop i part)) ≡ []
no_ticket shape n part i h = ap (λ z. concat (lines_from shape n z)) (drop_all i part h)

pub no_result : (shape : Shape) (n : ℕ) (done : Finished) (i : ℕ) → length done.results ≤ i → concat (lines_from shape n (drop i (shown_of done))) ≡ []
no_result shape n done i h = no_ticket shape n (shown_of done) i (omega (arith, shown_length done 0 done.results))

-- all lines of the results, and then the last ones
pub whole_listing : (shape : Shape) (first : ℕ) (done : Finished) (with_map : Bool) → concat (lines_from shape first (shown_of done)) ++ concat (end_lines shape (places_of done with_map) (last_ticket first done)) ≡ listing shape first done with_map
whole_listing shape first done with_map = sym (concat-append (lines_from shape first (shown_of done)) (end_lines shape (places_of done with_map) (last_ticket first done)))

-- the lines of a result are put behind those before it
pub result_put : (out out' lines left left' all : List ℕ) → out' ≡ out ++ lines → left ≡ lines ++ left' → out ++ left ≡ all → out' ++ left' ≡ all
result_put out out' lines left left' all e f h = ap (λ z. z ++ left') e ∙ append_assoc out lines left' ∙ ap (λ z. out ++ z) (sym f) ∙ h

pub end_put : (out out' lines left all whole : List ℕ) → out' ≡ out ++ lines → left ≡ [] → out ++ left ≡ all → all ++ lines ≡ whole → out' ≡ whole
end_put out out' lines left all whole e f h w = e ∙ ap (λ z. z ++ lines) (sym (append-nil out) ∙ ap (λ z. out ++ z) (sym f) ∙ h) ∙ w

-- the lines of a result, put one part behind the other
pub parts_put : (out o1 o2 o3 o4 line : List ℕ) (shots messages made : List (List ℕ)) → o1 ≡ out ++ line → o2 ≡ o1 ++ concat shots → o3 ≡ o2 ++ concat messages → o4 ≡ o3 ++ concat made → o4 ≡ out ++ concat (line ∷ (shots ++ messages ++ made))
parts_put out o1 o2 o3 o4 line shots messages made a b d e =
    e ∙ ap (λ z. z ++ concat made) (d ∙ ap (λ z. z ++ concat messages) (b ∙ ap (λ z. z ++ concat shots) a))
    ∙ append_assoc (out ++ line ++ concat shots) (concat messages) (concat made)
    ∙ append_assoc (out ++ line) (concat shots) (concat messages ++ concat made)
    ∙ append_assoc out line (concat shots ++ (concat messages ++ concat made))
    ∙ ap (λ z. out ++ (line ++ z)) (sym (append_assoc (concat shots) (concat messages) (concat made)) ∙ ap (λ z. z ++ concat made) (sym (concat-append shots messages)) ∙ sym (concat-append (shots ++ messages) made))
