-- A fact of lists that the crates above share.
use Rattle.std.proofs.Common.{◌≡◌, ℕ, zero, suc, List, [], ◌∷◌, Some, slice_get, All, subst}
use Rattle.std.proofs.lemmas.List.Elements.{All-head, All-tail}

-- what holds of all items holds of the one at a place
pub all_at : {A : Type 0} (P : A → Type 0) (xs : List A) (n : ℕ) (x : A) → slice_get xs n ≡ Some x → All P xs → P x
all_at P [] n x e h = cc
all_at P (y ∷ ys) zero x e h = let same : y ≡ x = cc in subst P same (All-head P y ys h)
all_at P (y ∷ ys) (suc n) x e h = all_at P ys n x e (All-tail P y ys h)
