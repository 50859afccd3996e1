-- Lines as they are written, one after the other.
use Rattle.std.proofs.Common.{◌≡◌, ◌∙◌, ◌+◌, ◌≤◌, ℕ, zero, suc, List, [], ◌∷◌, ◌++◌, length, drop, Some, refl, sym, ap, subst, append_assoc, append-nil, arith}
use Rattle.std.specs.Prelude.{slice_get}
use Rattle.std.proofs.lemmas.List.{drop_all}
use Rattle.journal_replay.specs.Reports.{lines_of}

drop_here : {X : Type 0} (xs : List X) (i : ℕ) (x : X) → slice_get xs i ≡ Some x → drop i xs ≡ x ∷ drop (suc i) xs
drop_here [] i x e = cc
drop_here (y ∷ xs) zero x e = let same : y ≡ x = cc in ap (λ z. z ∷ xs) same
drop_here (y ∷ xs) (suc i) x e = drop_here xs i x e

module _ {X : Type 0} (line : X → List ℕ) (xs : List X) where
  pub line_put : (i : ℕ) (x : X) (out mid new all : List ℕ) → slice_get xs i ≡ Some x → out ++ lines_of line (drop i xs) ≡ all → mid ≡ out ++ line x → new ≡ mid ++ 10 ∷ [] → new ++ lines_of line (drop (i + 1) xs) ≡ all
  line_put i x out mid new all at text put end =
      let next : suc i ≡ i + 1 = omega arith in
      ap (λ n. new ++ lines_of line (drop n xs)) (sym next)
      ∙ ap (λ z. z ++ lines_of line (drop (suc i) xs)) (end ∙ ap (λ z. z ++ 10 ∷ []) put)
      ∙ append_assoc (out ++ line x) (10 ∷ []) (lines_of line (drop (suc i) xs))
      ∙ append_assoc out (line x) (10 ∷ lines_of line (drop (suc i) xs))
      ∙ ap (λ ys. out ++ lines_of line ys) (sym (drop_here xs i x at))
      ∙ text

  pub all_put : (i : ℕ) (out all : List ℕ) → length xs ≤ i → out ++ lines_of line (drop i xs) ≡ all → out ≡ all
  all_put i out all past text = sym (append-nil out) ∙ ap (λ ys. out ++ lines_of line ys) (sym (drop_all i xs past)) ∙ text
