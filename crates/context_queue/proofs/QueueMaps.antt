-- The lemmas of tables at numbers.
use Rattle.std.proofs.Common.{rules, ◌≡◌, ℕ, Bool, ◌||◌, List, [], ◌∷◌, Option, Some, None, Result, Ok, Err, IsOk, OnOk, true, false, cond, length, sym, ap, ◌∙◌, arith, refl}
use Rattle.std.specs.Prelude.{nat_eq}
use Rattle.std.specs.Ordering.{nat_cmp}
use Rattle.std.specs.Cmp.{unsigned_ties}
use Rattle.std.specs.Map.{lookup, keys_of}
use Rattle.std.specs.List.{list_any, IsDistinct}
use Rattle.std.specs.FinMap as table
use Rattle.std.specs.FinSet as set
use Rattle.std.proofs.lemmas.Bool.{eqb-true}
use Rattle.std.proofs.lemmas.Cmp.{nat_cmp_total, nat_eq_equiv}
use Rattle.context_queue.proofs.MapLemmas as m

module _ {X : Type 0} where
  pub get_is_lookup : (q : ℕ) (es : List (ℕ × X)) → table.get (table.from_entries {R = nat_cmp} es) q ≡ lookup (nat_eq q) es
  get_is_lookup = m.get_is_lookup nat_cmp nat_eq nat_cmp_total table.nat_cmp-IsAntisymmetric nat_eq_equiv.symm unsigned_ties

  pub same_entries : (es fs : List (ℕ × X)) → ((q : ℕ) → lookup (nat_eq q) fs ≡ lookup (nat_eq q) es) → table.from_entries {R = nat_cmp} fs ≡ table.from_entries es
  same_entries = m.same_entries nat_cmp nat_eq nat_cmp_total table.nat_cmp-IsAntisymmetric nat_eq_equiv.symm unsigned_ties

  pub inserted : (es fs : List (ℕ × X)) (k : ℕ) (v : X) → ((q : ℕ) → lookup (nat_eq q) fs ≡ cond (nat_eq k q) (Some v) (lookup (nat_eq q) es))
      → table.from_entries {R = nat_cmp} fs ≡ table.insert (table.from_entries es) k v
  inserted = m.inserted nat_cmp nat_eq nat_cmp_total table.nat_cmp-IsAntisymmetric nat_eq_equiv.symm unsigned_ties

  pub removed : (es fs : List (ℕ × X)) (k : ℕ) → ((q : ℕ) → lookup (nat_eq q) fs ≡ cond (nat_eq k q) None (lookup (nat_eq q) es))
      → table.from_entries {R = nat_cmp} fs ≡ table.remove (table.from_entries es) k
  removed = m.removed nat_cmp nat_eq nat_cmp_total table.nat_cmp-IsAntisymmetric nat_eq_equiv.symm unsigned_ties

  pub len_is_length : (es : List (ℕ × X)) → IsDistinct nat_eq (keys_of es) → table.len (table.from_entries {R = nat_cmp} es) ≡ length es
  len_is_length = m.len_is_length nat_cmp nat_eq nat_cmp_total table.nat_cmp-IsAntisymmetric nat_eq_equiv.symm unsigned_ties

pub contains_is_any : (q : ℕ) (ks : List ℕ) → set.contains (set.from_list {R = nat_cmp} ks) q ≡ list_any (nat_eq q) ks
contains_is_any = m.contains_is_any nat_cmp nat_eq nat_cmp_total table.nat_cmp-IsAntisymmetric nat_eq_equiv.symm unsigned_ties

pub same_keys : (ks ls : List ℕ) → ((q : ℕ) → list_any (nat_eq q) ls ≡ list_any (nat_eq q) ks) → set.from_list {R = nat_cmp} ls ≡ set.from_list ks
same_keys = m.same_keys nat_cmp nat_eq nat_cmp_total table.nat_cmp-IsAntisymmetric nat_eq_equiv.symm unsigned_ties

pub joined : (ks ls : List ℕ) (k : ℕ) → ((q : ℕ) → list_any (nat_eq q) ls ≡ cond (nat_eq k q) true (list_any (nat_eq q) ks)) → set.from_list {R = nat_cmp} ls ≡ set.insert (set.from_list ks) k
joined = m.joined nat_cmp nat_eq nat_cmp_total table.nat_cmp-IsAntisymmetric nat_eq_equiv.symm unsigned_ties

pub left : (ks ls : List ℕ) (k : ℕ) → ((q : ℕ) → list_any (nat_eq q) ls ≡ cond (nat_eq k q) false (list_any (nat_eq q) ks)) → set.from_list {R = nat_cmp} ls ≡ set.remove (set.from_list ks) k
left = m.left nat_cmp nat_eq nat_cmp_total table.nat_cmp-IsAntisymmetric nat_eq_equiv.symm unsigned_ties

pub set_len_is_length : (ks : List ℕ) → IsDistinct nat_eq ks → set.len (set.from_list {R = nat_cmp} ks) ≡ length ks
set_len_is_length = m.set_len_is_length nat_cmp nat_eq nat_cmp_total table.nat_cmp-IsAntisymmetric nat_eq_equiv.symm unsigned_ties

-- a table without entries has none
pub none_in : {X : Type 0} (q : ℕ) (es : List (ℕ × X)) → length es ≡ 0 → lookup (nat_eq q) es ≡ None
none_in q [] e = refl
none_in q (x ∷ es) e = absurd (omega arith)

pub none_at : {X : Type 0} (q : ℕ) (es : List (ℕ × X)) (o : Option X) → lookup (nat_eq q) es ≡ None → o ≡ table.get (table.from_entries {R = nat_cmp} es) q → None ≡ o
none_at q es o e h = sym (h ∙ get_is_lookup q es ∙ e)

pub none_distinct : IsDistinct nat_eq []
unfolding IsDistinct
none_distinct = search rules

-- whoever leaves nobody, nobody is left
neither : (b : Bool) → false ≡ cond b false false
neither true = refl
neither false = refl

pub nobody_leaves : (k : ℕ) → set.from_list {R = nat_cmp} [] ≡ set.remove (set.from_list []) k
nobody_leaves k = left [] [] k (λ q. neither (nat_eq k q))

pub none_removed : {X : Type 0} (k : ℕ) → table.from_entries {X = X} {R = nat_cmp} [] ≡ table.remove (table.from_entries []) k
none_removed k = removed [] [] k (λ q. no_more (nat_eq k q))
  where
    no_more : {X : Type 0} (b : Bool) → ◌≡◌ {A = Option X} None (cond b None None)
    no_more true = refl
    no_more false = refl

-- a table that counts none has none
pub none_got : {X : Type 0} (m : table.FinMap nat_cmp X) (q : ℕ) → table.len m ≡ 0 → None ≡ table.get m q
none_got m q e = sym (ap (λ n. table.get n q) (table.empty_of_len m e) ∙ table.get-empty nat_cmp q)

-- a call that succeeds keeps what is said of those that do
pub of_ok : {A E P : Type 0} (r : Result A E) → IsOk r → OnOk r P → P
of_ok (Ok x) h p = p
of_ok (Err e) h p = cc

-- whether a number is another one
pub is_own : (k n : ℕ) → k ≡ n → nat_eq k n ≡ true
is_own k n e = ap (nat_eq k) (sym e) ∙ nat_eq_equiv.refl k

pub is_other : (k n : ℕ) → (k ≡ n → ⊥) → nat_eq k n ≡ false
is_other k n h = by_test (nat_eq k n) refl
  where
    by_test : (b : Bool) → nat_eq k n ≡ b → nat_eq k n ≡ false
    by_test true e = absurd (h (eqb-true k n e))
    by_test false e = e

-- one entry alone: what it has, and what is left of it
pub one_distinct : (n : ℕ) → IsDistinct nat_eq (n ∷ [])
unfolding IsDistinct
one_distinct n = (tt, tt)

module _ {X : Type 0} (k n : ℕ) (v : X) where
  abbrev if_own : Bool → Option X
  if_own b = cond b (Some v) None

  pub one_got : nat_eq k n ≡ true → Some v ≡ table.get (table.from_entries {R = nat_cmp} ((n, v) ∷ [])) k
  one_got e = sym (get_is_lookup k ((n, v) ∷ []) ∙ ap if_own e)

  pub other_got : nat_eq k n ≡ false → None ≡ table.get (table.from_entries {R = nat_cmp} ((n, v) ∷ [])) k
  other_got e = sym (get_is_lookup k ((n, v) ∷ []) ∙ ap if_own e)

  pub one_removed : nat_eq k n ≡ true → table.from_entries {X = X} {R = nat_cmp} [] ≡ table.remove (table.from_entries ((n, v) ∷ [])) k
  one_removed e = removed ((n, v) ∷ []) [] k (λ q. by_key q (nat_eq k q) refl)
    where
      by_key : (q : ℕ) (b : Bool) → nat_eq k q ≡ b → None ≡ cond b None (if_own (nat_eq q n))
      by_key q true h = refl
      by_key q false h = sym (ap if_own (ap (nat_eq q) (sym (eqb-true k n e)) ∙ nat_eq_equiv.symm q k ∙ h))

  pub other_removed : nat_eq k n ≡ false → table.from_entries {R = nat_cmp} ((n, v) ∷ []) ≡ table.remove (table.from_entries ((n, v) ∷ [])) k
  other_removed e = removed ((n, v) ∷ []) ((n, v) ∷ []) k (λ q. by_key q (nat_eq k q) refl)
    where
      by_key : (q : ℕ) (b : Bool) → nat_eq k q ≡ b → if_own (nat_eq q n) ≡ cond b None (if_own (nat_eq q n))
      by_key q true h = ap if_own (ap (λ x. nat_eq x n) (sym (eqb-true k q h)) ∙ e)
      by_key q false h = refl

module _ (k n : ℕ) where
  pub one_has : nat_eq k n ≡ set.contains (set.from_list {R = nat_cmp} (n ∷ [])) k
  one_has = sym (contains_is_any k (n ∷ []) ∙ or_none (nat_eq k n))
    where
      or_none : (b : Bool) → (b || false) ≡ b
      or_none true = refl
      or_none false = refl

  pub one_leaves : nat_eq k n ≡ true → set.from_list {R = nat_cmp} [] ≡ set.remove (set.from_list (n ∷ [])) k
  one_leaves e = left (n ∷ []) [] k (λ q. by_key q (nat_eq k q) refl)
    where
      by_key : (q : ℕ) (b : Bool) → nat_eq k q ≡ b → false ≡ cond b false (nat_eq q n || false)
      by_key q true h = refl
      by_key q false h = sym (ap (λ c. c || false) (ap (nat_eq q) (sym (eqb-true k n e)) ∙ nat_eq_equiv.symm q k ∙ h))

  pub other_leaves : nat_eq k n ≡ false → set.from_list {R = nat_cmp} (n ∷ []) ≡ set.remove (set.from_list (n ∷ [])) k
  other_leaves e = left (n ∷ []) (n ∷ []) k (λ q. by_key q (nat_eq k q) refl)
    where
      by_key : (q : ℕ) (b : Bool) → nat_eq k q ≡ b → (nat_eq q n || false) ≡ cond b false (nat_eq q n || false)
      by_key q true h = ap (λ c. c || false) (ap (λ x. nat_eq x n) (sym (eqb-true k q h)) ∙ e)
      by_key q false h = refl
