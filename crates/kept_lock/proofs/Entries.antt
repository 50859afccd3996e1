-- Entries of an owner, beginnings of a history, and where an element of a list stands.
use Rattle.std.proofs.Common.{◌≡◌, ◌≢◌, ◌⊎◌, ℕ, zero, suc, ◌<◌, ◌≤◌, Bool, true, false, eqb, ltb, cond, List, [], ◌∷◌, ◌++◌, length, get_or, sym, refl, ap, ◌∙◌, subst, inl, inr, ⊎_elim, arith, append_assoc, eq-eqb, ne_eqb}
use Rattle.std.specs.Prelude.{All}
use Rattle.std.proofs.lemmas.List.{append-nil}
use Rattle.std.proofs.lemmas.List.Elements.{filter-append, All-head, All-tail}
use mathlib.Core.Option.{some, some-injective, some-ne-none}
use lib.ListN.{get_elem?}
use borrow.Author.Tests.{ltb-true, ltb-false}
use Rattle.kept_lock.specs.declared.view.Account.{Account}
use Rattle.kept_lock.specs.History.{StartsWith, entries_of, later_than, longer_history}

module _ {E : Type 0} (owner : E → ℕ) where
  pub own_all : (n : ℕ) (xs : List E) → All (λ e. owner e ≡ n) xs → entries_of owner n xs ≡ xs
  own_all n [] h = refl
  own_all n (x ∷ xs) h =
      subst (λ b. cond b (x ∷ entries_of owner n xs) (entries_of owner n xs) ≡ x ∷ xs) (sym (eq-eqb (owner x) n (All-head (λ e. owner e ≡ n) x xs h)))
      (ap (λ l. x ∷ l) (own_all n xs (All-tail (λ e. owner e ≡ n) x xs h)))

  pub own_none : (n m : ℕ) (xs : List E) → n ≢ m → All (λ e. owner e ≡ n) xs → entries_of owner m xs ≡ []
  own_none n m [] ne h = refl
  own_none n m (x ∷ xs) ne h =
      subst (λ b. cond b (x ∷ entries_of owner m xs) (entries_of owner m xs) ≡ []) (sym (ne_eqb (owner x) m (λ e. ne (sym (All-head (λ e. owner e ≡ n) x xs h) ∙ e))))
      (own_none n m xs ne (All-tail (λ e. owner e ≡ n) x xs h))

  -- a history that grows by entries of n has no more entries of m
  pub grown_none : (n m : ℕ) (log more : List E) → n ≢ m → All (λ e. owner e ≡ n) more → entries_of owner m (log ++ more) ≡ entries_of owner m log
  grown_none n m log more ne h = filter-append (λ e. eqb (owner e) m) log more ∙ ap (λ l. entries_of owner m log ++ l) (own_none n m more ne h) ∙ append-nil (entries_of owner m log)

  pub grown_own : (n : ℕ) (log more : List E) → All (λ e. owner e ≡ n) more → entries_of owner n (log ++ more) ≡ entries_of owner n log ++ more
  grown_own n log more h = filter-append (λ e. eqb (owner e) n) log more ∙ ap (λ l. entries_of owner n log ++ l) (own_all n more h)

  -- it has just the entries that it had of passes with other numbers than n
  pub grown_accounts : (n : ℕ) (log more : List E) (accounts : List (Account E)) → All (λ e. owner e ≡ n) more → All (λ (a : Account E). a.number ≢ n) accounts
      → All (λ (a : Account E). entries_of owner a.number log ≡ a.made) accounts → All (λ (a : Account E). entries_of owner a.number (log ++ more) ≡ a.made) accounts
  grown_accounts n log more accounts own apart h = λ k d l. grown_none n (get_or accounts k d).number log more (λ same. apart k d l (sym same)) own ∙ h k d l

module _ {E : Type 0} where
  pub starts_longer : (log more seen : List E) → StartsWith log seen → StartsWith (log ++ more) seen
  starts_longer log more seen h = (h.0 ++ more, ap (λ l. l ++ more) h.1 ∙ append_assoc seen h.0 more)

  pub starts_whole : (log : List E) → StartsWith log log
  starts_whole log = ([], sym (append-nil log))

  pub starts_nil : (log : List E) → StartsWith log []
  starts_nil log = (log, refl)

  -- the place of the last element, or an earlier one
  pub at_end : (l : List E) (a b : E) (j : ℕ) → get_elem? (l ++ a ∷ []) j ≡ some b → (get_elem? l j ≡ some b) ⊎ ((j ≡ length l) × (a ≡ b))
  at_end [] a b zero e = inr (refl, some-injective a b e)
  at_end [] a b (suc j) e = absurd (some-ne-none b (sym e))
  at_end (x ∷ xs) a b zero e = inl e
  at_end (x ∷ xs) a b (suc j) e = ⊎_elim (λ t. inl t) (λ t. inr (ap suc t.0, t.1)) (at_end xs a b j e)

  pub at_one : (a b : E) (j : ℕ) → get_elem? (a ∷ []) j ≡ some b → (j ≡ 0) × (a ≡ b)
  at_one a b zero e = (refl, some-injective a b e)
  at_one a b (suc j) e = absurd (some-ne-none b (sym e))

  pub at_within : (l : List E) (i : ℕ) (a : E) → get_elem? l i ≡ some a → i < length l
  at_within [] i a e = absurd (some-ne-none a (sym e))
  at_within (x ∷ xs) zero a e = omega arith
  at_within (x ∷ xs) (suc i) a e = let h = at_within xs i a e in omega arith

pub word_at : (l : List ℕ) → length l ≡ 1 → get_elem? l 0 ≡ some (get_or l 0 0)
word_at [] e = absurd (omega arith)
word_at (x ∷ xs) e = refl

-- what came after a beginning
pub later_than-append : {E : Type 0} → (seen more : List E) → later_than seen (seen ++ more) ≡ more
later_than-append [] more = refl
later_than-append (x ∷ xs) more = later_than-append xs more

-- of two beginnings of one list, the shorter begins the longer
pub shorter_begins : {E : Type 0} → (xs ys r q : List E) → xs ++ r ≡ ys ++ q → length xs ≤ length ys → StartsWith ys xs
shorter_begins [] ys r q e l = (ys, refl)
shorter_begins (x ∷ xs) [] r q e l = absurd (omega arith)
shorter_begins (x ∷ xs) (y ∷ ys) r q e l =
    let heads : x ≡ y = cc in
    let tails : xs ++ r ≡ ys ++ q = cc in
    let t = shorter_begins xs ys r q tails (omega arith) in
    (t.0, λ i. sym heads i ∷ t.1 i)

module _ {E : Type 0} (xs ys : List E) where
  -- the longer of two beginnings of a list begins it, and each of the two begins the longer
  pub longer_begins : (log : List E) → StartsWith log xs → StartsWith log ys → StartsWith log (longer_history xs ys)
  longer_begins log a b = elim (ltb (length xs) (length ys)) as (λ t. StartsWith log (cond t ys xs)) [ true ↦ b | false ↦ a ]

  pub longer_first : (log : List E) → StartsWith log xs → StartsWith log ys → StartsWith (longer_history xs ys) xs
  longer_first log a b = by_test (ltb (length xs) (length ys)) refl
    where
      by_test : (t : Bool) → ltb (length xs) (length ys) ≡ t → StartsWith (cond t ys xs) xs
      by_test true e = shorter_begins xs ys a.0 b.0 (sym a.1 ∙ b.1) (let l : length xs < length ys = ltb-true _ _ e in omega arith)
      by_test false e = ([], sym (append-nil xs))

  pub longer_second : (log : List E) → StartsWith log xs → StartsWith log ys → StartsWith (longer_history xs ys) ys
  longer_second log a b = by_test (ltb (length xs) (length ys)) refl
    where
      by_test : (t : Bool) → ltb (length xs) (length ys) ≡ t → StartsWith (cond t ys xs) ys
      by_test true e = ([], sym (append-nil ys))
      by_test false e = shorter_begins ys xs b.0 a.0 (sym b.1 ∙ a.1) (let l : length ys ≤ length xs = ltb-false _ _ e in omega arith)
