-- Lines one after the other: how far they are as they are to be, and that the first that is not is one alone.
use Rattle.std.proofs.Common.{◌≡◌, ◌≤◌, ◌+◌, inl, inr, ℕ, suc, List, [], ◌∷◌, ◌++◌, length, refl, sym, ap, subst, ◌∙◌, arith}
use Rattle.std.specs.List.{AllByRecursion}
use Rattle.wave_base.specs.declared.shape.Shape.{Shape}
use Rattle.wave_base.specs.Names.{HasNames}
use Rattle.wave_base.specs.Shapes.{IsShape}
use Rattle.wave_text.specs.Splits.{HasNone, IsSplit}
use Rattle.wave_text.proofs.SplitLemmas.{one_split, nowhere}
use Rattle.checkpoint_store.specs.declared.error.Fault.{Fault}
use Rattle.checkpoint_store.specs.Dues.{Due, IsDue, IsFault}
use Rattle.checkpoint_store.specs.Verdicts.{Begins, BeginsWrong, StopsAt}
use Rattle.checkpoint_store.proofs.FormLemmas.{Fits, due_form}

pub one_line : (text l r m s : List ℕ) → IsSplit 10 text l r → IsSplit 10 text m s → (l ≡ m) × (r ≡ s)
one_line text l r m s p q = one_split 10 l r m s p.first q.first (sym p.spelled ∙ q.spelled)

-- these lines stand one after the other, and this behind them
abbrev pub Passes : Shape → ℕ → List Due → List ℕ → List ℕ → Type 0
Passes shape hosts [] text rest = text ≡ rest
Passes shape hosts (due ∷ dues) text rest = (more : List ℕ) × Begins shape hosts due text more × Passes shape hosts dues more rest

module _ (shape : Shape) (hosts : ℕ) where
  -- ---- what was passed

  pub passes_one : (dues : List Due) (text r s : List ℕ) → Passes shape hosts dues text r → Passes shape hosts dues text s → r ≡ s
  passes_one [] text r s p q = sym p ∙ q
  passes_one (due ∷ dues) text r s p q =
      let same = (one_line text p.1.0 p.0 q.1.0 q.0 p.1.1 q.1.1).1 in
      passes_one dues q.0 r s (subst (λ t. Passes shape hosts dues t r) same p.2) q.2

  pub passes_append : (xs ys : List Due) (text mid rest : List ℕ) → Passes shape hosts xs text mid → Passes shape hosts ys mid rest → Passes shape hosts (xs ++ ys) text rest
  passes_append [] ys text mid rest p q = subst (λ t. Passes shape hosts ys t rest) (sym p) q
  passes_append (x ∷ xs) ys text mid rest p q = (p.0, p.1, passes_append xs ys p.0 mid rest p.2 q)

  -- ---- where it stops

  pub stops_here : (due : Due) (dues : List Due) (text : List ℕ) (f : Fault) → BeginsWrong shape hosts due text f → StopsAt shape hosts (due ∷ dues) text f 1
  stops_here due dues text f w = inl (w, refl)

  pub stops_in : (xs ys : List Due) (text : List ℕ) (f : Fault) (n : ℕ) → StopsAt shape hosts xs text f n → StopsAt shape hosts (xs ++ ys) text f n
  stops_in [] ys text f n s = absurd s
  stops_in (x ∷ xs) ys text f n (inl s) = inl s
  stops_in (x ∷ xs) ys text f n (inr s) = inr (s.0, s.1, s.2, stops_in xs ys s.0 f s.1 s.3, s.4)

  pub stops_behind : (xs ys : List Due) (text mid : List ℕ) (f : Fault) (n : ℕ) → Passes shape hosts xs text mid → StopsAt shape hosts ys mid f n → StopsAt shape hosts (xs ++ ys) text f (length xs + n)
  stops_behind [] ys text mid f n p s =
      let same : 0 + n ≡ n = omega arith in
      subst (λ t. StopsAt shape hosts ys t f (0 + n)) (sym p) (subst (λ m. StopsAt shape hosts ys mid f m) (sym same) s)
  stops_behind (x ∷ xs) ys text mid f n p s =
      let same : length (x ∷ xs) + n ≡ suc (length xs + n) = omega arith in
      inr (p.0, length xs + n, p.1, stops_behind xs ys p.0 mid f n p.2 s, same)

  -- ---- it stops in one way alone

  module _ (is : IsShape shape) (names : HasNames shape) (few : hosts ≤ 256) where
    one_fault_of : (due : Due) (line : List ℕ) (f g : Fault) → IsFault shape hosts due line f → IsFault shape hosts due line g → f ≡ g
    one_fault_of due line f g (inl a) (inl b) = a.1 ∙ sym b.1
    one_fault_of due line f g (inl a) (inr b) = absurd (a.0 b.0)
    one_fault_of due line f g (inr a) (inl b) = absurd (b.0 a.0)
    one_fault_of due line f g (inr a) (inr b) = a.2 ∙ sym b.2

    one_wrong : (due : Due) (text : List ℕ) (f g : Fault) → BeginsWrong shape hosts due text f → BeginsWrong shape hosts due text g → f ≡ g
    one_wrong due text f g (inl a) (inl b) = a.1 ∙ sym b.1
    one_wrong due text f g (inl a) (inr b) = absurd (nowhere 10 b.0 b.1 (subst (HasNone 10) b.2.spelled a.0))
    one_wrong due text f g (inr a) (inl b) = absurd (nowhere 10 a.0 a.1 (subst (HasNone 10) a.2.spelled b.0))
    one_wrong due text f g (inr a) (inr b) = one_fault_of due a.0 f g a.3 (subst (λ l. IsFault shape hosts due l g) (sym (one_line text a.0 a.1 b.0 b.1 a.2 b.2).0) b.3)

    no_fault : (due : Due) → Fits shape due → (line : List ℕ) (f : Fault) → IsDue shape hosts due line → IsFault shape hosts due line f → ⊥
    no_fault due fit line f h (inl a) = a.0 (due_form shape is names hosts few due fit line h)
    no_fault due fit line f h (inr a) = a.1 h

    not_both : (due : Due) → Fits shape due → (text rest : List ℕ) (f : Fault) → Begins shape hosts due text rest → BeginsWrong shape hosts due text f → ⊥
    not_both due fit text rest f b (inl a) = nowhere 10 b.0 rest (subst (HasNone 10) b.1.spelled a.0)
    not_both due fit text rest f b (inr a) = no_fault due fit a.0 f (subst (IsDue shape hosts due) (one_line text b.0 rest a.0 a.1 b.1 a.2).0 b.2) a.3

    pub not_passed : (dues : List Due) → AllByRecursion (Fits shape) dues → (text rest : List ℕ) (f : Fault) (n : ℕ) → Passes shape hosts dues text rest → StopsAt shape hosts dues text f n → ⊥
    not_passed [] fit text rest f n p s = s
    not_passed (due ∷ dues) fit text rest f n p (inl s) = not_both due fit.0 text p.0 f p.1 s.0
    not_passed (due ∷ dues) fit text rest f n p (inr s) =
        let same = (one_line text p.1.0 p.0 s.2.0 s.0 p.1.1 s.2.1).1 in
        not_passed dues fit.1 s.0 rest f s.1 (subst (λ t. Passes shape hosts dues t rest) same p.2) s.3

    pub one_stop : (dues : List Due) → AllByRecursion (Fits shape) dues → (text : List ℕ) (f g : Fault) (n m : ℕ) → StopsAt shape hosts dues text f n → StopsAt shape hosts dues text g m → (f ≡ g) × (n ≡ m)
    one_stop [] fit text f g n m a b = absurd a
    one_stop (due ∷ dues) fit text f g n m (inl a) (inl b) = (one_wrong due text f g a.0 b.0, a.1 ∙ sym b.1)
    one_stop (due ∷ dues) fit text f g n m (inl a) (inr b) = absurd (not_both due fit.0 text b.0 f b.2 a.0)
    one_stop (due ∷ dues) fit text f g n m (inr a) (inl b) = absurd (not_both due fit.0 text a.0 g a.2 b.0)
    one_stop (due ∷ dues) fit text f g n m (inr a) (inr b) =
        let same = (one_line text a.2.0 a.0 b.2.0 b.0 a.2.1 b.2.1).1 in
        let rest = one_stop dues fit.1 b.0 f g a.1 b.1 (subst (λ t. StopsAt shape hosts dues t f a.1) same a.3) b.3 in
        (rest.0, a.4 ∙ ap suc rest.1 ∙ sym b.4)
