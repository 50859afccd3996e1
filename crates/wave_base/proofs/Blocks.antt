-- What an edit on either side of a place makes of the items behind the free places.
use Rattle.std.proofs.Common.{◌≡◌, ◌∙◌, ℕ, ◌+◌, ◌<◌, ◌≤◌, suc, List, [], ◌∷◌, ◌++◌, length, take, drop, slice_set, get_or, sym, ap, arith, length-drop}
use Rattle.std.specs.List.{insert, remove}
use Rattle.std.proofs.lemmas.List.{append_assoc, length-append, length-take-le, set_at, drop_at, drop-drop, drop-append-le, drop-take, take-take, drop_more}

module _ {X : Type 0} (xs : List X) where
  -- an edit of all places is one of the items behind the first f
  pub insert_behind : (f i : ℕ) (y : X) → f + i ≤ length xs → drop f (insert xs (f + i) y) ≡ insert (drop f xs) i y
  insert_behind f i y l =
      drop-append-le f (take (f + i) xs) _ (omega (arith, length-take-le (f + i) xs l))
      ∙ ap (λ t. t ++ y ∷ drop (f + i) xs) (drop-take f i xs)
      ∙ ap (λ t. take i (drop f xs) ++ y ∷ t) (sym (drop-drop i f xs))

  pub remove_behind : (f i : ℕ) → f + i ≤ length xs → drop f (remove xs (f + i)) ≡ remove (drop f xs) i
  remove_behind f i l =
      let next : suc (f + i) ≡ f + suc i = omega arith in
      drop-append-le f (take (f + i) xs) _ (omega (arith, length-take-le (f + i) xs l))
      ∙ ap (λ t. t ++ drop (suc (f + i)) xs) (drop-take f i xs)
      ∙ ap (λ n. take i (drop f xs) ++ drop n xs) next
      ∙ ap (λ t. take i (drop f xs) ++ t) (sym (drop-drop (suc i) f xs))

  -- the place before the first i items behind f places, and these, turned left by one, and y over what came last
  pub put_before : (f g i k m : ℕ) (y : X) (turned : List X) → f ≡ suc g → k ≡ suc i → m ≡ g + i → f + i ≤ length xs → turned ≡ drop 1 (take k (drop g xs)) ++ take 1 (take k (drop g xs)) → drop g (slice_set (take g xs ++ (turned ++ drop k (drop g xs))) m y) ≡ insert (drop f xs) i y
  put_before f g i k m y turned next one last l e =
      let head = take g xs in
      let some = drop (g + 1) xs in
      let moved = take i some in
      let x = get_or xs g y in
      let parts : drop g xs ≡ x ∷ some = drop_more xs g y (omega arith) in
      let front : length head ≡ g = length-take-le g xs (omega arith) in
      let within : i ≤ length some = omega (arith, length-drop (g + 1) xs) in
      let long : length (head ++ moved) ≡ g + i = omega (arith, length-append head moved, front, length-take-le i some within) in
      let same : f ≡ g + 1 = omega arith in
      let turn : turned ≡ moved ++ x ∷ [] =
      e
      ∙ ap (λ n. drop 1 (take n (drop g xs)) ++ take 1 (take n (drop g xs))) one
      ∙ ap (λ t. drop 1 (take (suc i) t) ++ take 1 (take (suc i) t)) parts in
      let whole : head ++ (turned ++ drop k (drop g xs)) ≡ head ++ moved ++ x ∷ drop i some =
      ap (λ t. head ++ (t ++ drop k (drop g xs))) turn
      ∙ ap (λ n. head ++ ((moved ++ x ∷ []) ++ drop n (drop g xs))) one
      ∙ ap (λ t. head ++ ((moved ++ x ∷ []) ++ drop (suc i) t)) parts
      ∙ ap (λ t. head ++ t) (append_assoc moved (x ∷ []) (drop i some))
      ∙ sym (append_assoc head moved (x ∷ drop i some)) in
      ap (λ t. drop g (slice_set t m y)) whole
      ∙ ap (λ n. drop g (slice_set (head ++ moved ++ x ∷ drop i some) n y)) last
      ∙ ap (drop g) (set_at (head ++ moved) x (drop i some) y (g + i) long)
      ∙ ap (drop g) (append_assoc head moved (y ∷ drop i some))
      ∙ drop_at head _ g front
      ∙ ap (λ n. insert (drop n xs) i y) (sym same)

  -- the first i items behind f places, and the one behind them, turned right by one
  pub cut_before : (f i k n : ℕ) (d : X) (turned : List X) → k ≡ i + 1 → n ≡ i → f + i < length xs → turned ≡ drop n (take k (drop f xs)) ++ take n (take k (drop f xs)) → drop (f + 1) (take f xs ++ (turned ++ drop k (drop f xs))) ≡ remove (drop f xs) i
  cut_before f i k n d turned one many l e =
      let some = drop f xs in
      let moved = take i some in
      let x = get_or some i d in
      let next : i + 1 ≡ suc i = omega arith in
      let within : i < length some = omega (arith, length-drop f xs) in
      let last : drop i (take (i + 1) some) ≡ x ∷ [] = drop-take i 1 some ∙ ap (take 1) (drop_more some i d within) in
      let first : take i (take (i + 1) some) ≡ moved = take-take i (i + 1) some (omega arith) in
      let turn : turned ≡ x ∷ moved =
      e
      ∙ ap (λ k. drop n (take k some) ++ take n (take k some)) one
      ∙ ap (λ n. drop n (take (i + 1) some) ++ take n (take (i + 1) some)) many
      ∙ ap (λ t. t ++ take i (take (i + 1) some)) last
      ∙ ap (λ t. x ∷ t) first in
      let whole : take f xs ++ (turned ++ drop k some) ≡ take f xs ++ (x ∷ (moved ++ drop (suc i) some)) =
      ap (λ t. take f xs ++ (t ++ drop k some)) turn
      ∙ ap (λ k. take f xs ++ (x ∷ (moved ++ drop k some))) (one ∙ next) in
      ap (drop (f + 1)) whole
      ∙ sym (drop-drop 1 f (take f xs ++ (x ∷ (moved ++ drop (suc i) some))))
      ∙ ap (drop 1) (drop_at (take f xs) _ f (length-take-le f xs (omega arith)))
