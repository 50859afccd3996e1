-- Results that are handed on, and lists one item after the other.
use Rattle.std.proofs.Common.{◌≡◌, ℕ, ◌+◌, ◌<◌, List, [], ◌∷◌, ◌++◌, length, take, get_or, Result, Ok, Err, sym, ap, subst, ◌∙◌, append_assoc}
use Rattle.std.specs.Prelude.{OnOk, IfErr}
use Rattle.std.specs.Result.{IsErrAnd}
use Rattle.std.proofs.lemmas.List.{take_more, append-nil}
use Rattle.code_scheme.specs.Texts.{Text}

pub on_ok : {A E : Type 0} (P Q : Type 0) (r : Result A E) → (P → Q) → OnOk r P → OnOk r Q
on_ok P Q (Ok x) f h = f h
on_ok P Q (Err e) f h = tt

-- an error that is handed on
pub err_same : {A E : Type 0} (P : E → Type 0) (r : Result A E) (e : E) → IsErrAnd r (λ y. y ≡ e) → P e → IfErr r P
err_same P (Ok x) e h p = tt
err_same P (Err y) e h p = subst P (sym h) p

-- one item more of a list
pub item_more : {A : Type 0} (xs : List A) (i : ℕ) (x : A) → i < length xs → x ≡ get_or xs i x → take (i + 1) xs ≡ take i xs ++ x ∷ []
item_more xs i x lt at = take_more xs i x lt ∙ ap (λ y. take i xs ++ y ∷ []) (sym at)

-- what is used by the items of a list, one after the other
module _ {A : Type 0} (f : A → List Text) (all : List A → List Text) (none : all [] ≡ []) (more : (x : A) (xs : List A) → all (x ∷ xs) ≡ f x ++ all xs) where
  uses_push : (xs : List A) (x : A) → all (xs ++ x ∷ []) ≡ all xs ++ f x
  uses_push [] x = more x [] ∙ ap (λ l. f x ++ l) none ∙ append-nil (f x) ∙ ap (λ l. l ++ f x) (sym none)
  uses_push (y ∷ xs) x = more y (xs ++ x ∷ []) ∙ ap (λ l. f y ++ l) (uses_push xs x) ∙ sym (append_assoc (f y) (all xs) (f x)) ∙ ap (λ l. l ++ f x) (sym (more y xs))

  pub uses_next : (xs : List A) (i : ℕ) (x : A) → i < length xs → x ≡ get_or xs i x → all (take i xs) ++ f x ≡ all (take (i + 1) xs)
  uses_next xs i x lt at = sym (uses_push (take i xs) x) ∙ ap all (sym (item_more xs i x lt at))
