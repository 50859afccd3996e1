-- Going through a list from its front: what a search finds from an index on.
use Rattle.std.proofs.Common.{◌≡◌, ◌≢◌, ◌==◌, ◌⊎◌, inl, inr, ◌<◌, ◌≤◌, ◌+◌, ℕ, Bool, true, false, cond, List, length, get_or, drop, map, find, position, Some, None, sym, ap, ◌∙◌}
use Rattle.std.specs.List.{position_from}
use Rattle.std.proofs.lemmas.Bool.Decides.{eqb_tells}
use Rattle.std.proofs.lemmas.Iterator.Adapters.{position_from-zero}
use Rattle.std.proofs.lemmas.List.{at_drop_more, at_drop_all, get_or-map}

module _ {X : Type 0} (p : X → Bool) where
  find_here : (xs : List X) (i : ℕ) (d : X) → i < length xs → p (get_or xs i d) ≡ true → find p (drop i xs) ≡ Some (get_or xs i d)
  find_here xs i d l h = at_drop_more (find p) xs i d l ∙ ap (λ b. cond b (Some (get_or xs i d)) (find p (drop (i + 1) xs))) h

  find_past : (xs : List X) (i : ℕ) (d : X) → i < length xs → p (get_or xs i d) ≡ false → find p (drop i xs) ≡ find p (drop (i + 1) xs)
  find_past xs i d l h = at_drop_more (find p) xs i d l ∙ ap (λ b. cond b (Some (get_or xs i d)) (find p (drop (i + 1) xs))) h

  -- the element at an index is the first, where none before it is
  pub found : (items xs : List X) (i : ℕ) (x : X) → items ≡ xs → find p items ≡ find p (drop i items) → i < length items → x ≡ get_or items i x → p x ≡ true → Some x ≡ find p xs
  found items xs i x e before l at h = ap Some at ∙ sym (ap (find p) (sym e) ∙ before ∙ find_here items i x l (ap p (sym at) ∙ h))

  pub on : (items : List X) (i : ℕ) (x : X) → find p items ≡ find p (drop i items) → i < length items → x ≡ get_or items i x → p x ≡ false → find p items ≡ find p (drop (i + 1) items)
  on items i x before l at h = before ∙ find_past items i x l (ap p (sym at) ∙ h)

  pub not_found : (items xs : List X) (i : ℕ) → items ≡ xs → find p items ≡ find p (drop i items) → length items ≤ i → None ≡ find p xs
  not_found items xs i e before l = sym (ap (find p) (sym e) ∙ before ∙ at_drop_all (find p) items i l)

  -- the same for a place
  pub found_at : (items xs : List X) (i : ℕ) (x : X) → items ≡ xs → position_from p 0 items ≡ position_from p i (drop i items) → i < length items → x ≡ get_or items i x → p x ≡ true → Some i ≡ position p xs
  found_at items xs i x e before l at h =
      sym (position_from-zero p xs ∙ ap (position_from p 0) (sym e) ∙ before ∙ at_drop_more (position_from p i) items i x l ∙ ap (λ b. cond b (Some i) (position_from p (i + 1) (drop (i + 1) items))) (ap p (sym at) ∙ h))

  pub on_at : (items : List X) (i : ℕ) (x : X) → position_from p 0 items ≡ position_from p i (drop i items) → i < length items → x ≡ get_or items i x → p x ≡ false → position_from p 0 items ≡ position_from p (i + 1) (drop (i + 1) items)
  on_at items i x before l at h =
      before ∙ at_drop_more (position_from p i) items i x l ∙ ap (λ b. cond b (Some i) (position_from p (i + 1) (drop (i + 1) items))) (ap p (sym at) ∙ h)

  pub not_found_at : (items xs : List X) (i : ℕ) → items ≡ xs → position_from p 0 items ≡ position_from p i (drop i items) → length items ≤ i → None ≡ position p xs
  not_found_at items xs i e before l = sym (position_from-zero p xs ∙ ap (position_from p 0) (sym e) ∙ before ∙ at_drop_all (position_from p i) items i l)

-- a value of an element at an index, among those of all
pub value_at : {X Y : Type 0} (f : X → Y) (xs : List X) (i : ℕ) (x : X) (d : Y) → i < length xs → x ≡ get_or xs i x → get_or (map f xs) i d ≡ f x
value_at f xs i x d l at = get_or-map f xs i x d l ∙ ap f (sym at)

pub differ : (a b : ℕ) → (a ≡ b → ⊥) → (a == b) ≡ false
differ a b h = by (eqb_tells a b)
  where
    by : (((a == b) ≡ true) × (a ≡ b)) ⊎ (((a == b) ≡ false) × (a ≢ b)) → (a == b) ≡ false
    by (inl e) = absurd (h e.1)
    by (inr e) = e.0
