-- The finite map of results through the calls of the table that keeps them.
use Rattle.std.proofs.Common.{◌≡◌, ◌<◌, ◌+◌, ℕ, List, [], ◌∷◌, Option, Some, None, Result, Ok, Err, IsOk, OnOk, Bool, true, false, cond, length, refl, sym, ap, ◌∙◌, arith}
use Rattle.std.specs.Prelude.{nat_eq, nat_lt}
use Rattle.std.specs.Ordering.{nat_cmp, eq_by_cmp}
use Rattle.std.specs.Cmp.{unsigned_ties}
use Rattle.std.specs.Map.{lookup}
use Rattle.std.specs.FinMap.{get, insert, remove, from_entries, find, same_map, get-from_entries, get-insert, get-remove, nat_cmp-IsAntisymmetric}
use Rattle.std.proofs.lemmas.Cmp.{nat_cmp_total, nat_eq_equiv}
use Rattle.std.proofs.lemmas.Bool.Decides.{nat_tests}

-- the test of one key, both ways round
turned : (k q : ℕ) → nat_eq k q ≡ eq_by_cmp nat_cmp q k
turned k q = nat_eq_equiv.symm k q ∙ unsigned_ties q k

module _ {X : Type 0} where
  -- what the table looks up, the map has
  find_is_lookup : (q : ℕ) (es : List (ℕ × X)) → find nat_cmp q es ≡ lookup (nat_eq q) es
  find_is_lookup q [] = refl
  find_is_lookup q (e ∷ es) =
      ap (λ b. cond b (Some e.1) (find nat_cmp q es)) (sym (unsigned_ties q e.0)) ∙ ap (cond (nat_eq q e.0) (Some e.1)) (find_is_lookup q es)

  pub get_is_lookup : (q : ℕ) (es : List (ℕ × X)) → get (from_entries {R = nat_cmp} es) q ≡ lookup (nat_eq q) es
  get_is_lookup q es = get-from_entries nat_cmp_total es q ∙ find_is_lookup q es

  -- in an empty table nothing is found
  pub none_in : (q : ℕ) (es : List (ℕ × X)) → length es ≡ 0 → None ≡ lookup (nat_eq q) es
  none_in q [] none = refl
  none_in q (e ∷ es) none = cc

  after : (k q : ℕ) (w : Option X) (es fs : List (ℕ × X)) → lookup (nat_eq q) fs ≡ cond (nat_eq k q) w (lookup (nat_eq q) es)
      → get (from_entries {R = nat_cmp} fs) q ≡ cond (eq_by_cmp nat_cmp q k) w (get (from_entries {R = nat_cmp} es) q)
  after k q w es fs h =
      get_is_lookup q fs ∙ h ∙ ap (λ b. cond b w (lookup (nat_eq q) es)) (turned k q) ∙ ap (cond (eq_by_cmp nat_cmp q k) w) (sym (get_is_lookup q es))

  pub same_results : (es fs : List (ℕ × X)) → ((q : ℕ) → lookup (nat_eq q) fs ≡ lookup (nat_eq q) es) → from_entries {R = nat_cmp} fs ≡ from_entries es
  same_results es fs h = same_map nat_cmp_total nat_cmp-IsAntisymmetric _ _ (λ q. get_is_lookup q fs ∙ h q ∙ sym (get_is_lookup q es))

  pub inserted : (es fs : List (ℕ × X)) (k : ℕ) (v : X) → ((q : ℕ) → lookup (nat_eq q) fs ≡ cond (nat_eq k q) (Some v) (lookup (nat_eq q) es))
      → from_entries {R = nat_cmp} fs ≡ insert (from_entries es) k v
  inserted es fs k v h =
      same_map nat_cmp_total nat_cmp-IsAntisymmetric _ _ (λ q. after k q (Some v) es fs (h q) ∙ sym (get-insert nat_cmp_total (from_entries es) k v q))

  pub removed : (es fs : List (ℕ × X)) (k : ℕ) → ((q : ℕ) → lookup (nat_eq q) fs ≡ cond (nat_eq k q) None (lookup (nat_eq q) es))
      → from_entries {R = nat_cmp} fs ≡ remove (from_entries es) k
  removed es fs k h =
      same_map nat_cmp_total nat_cmp-IsAntisymmetric _ _ (λ q. after k q None es fs (h q) ∙ sym (get-remove nat_cmp_total (from_entries es) k q))

  -- a key above the one that was written is absent as before
  pub absent_above : (k q : ℕ) (w : Option X) (es fs : List (ℕ × X)) → k < q → ((p : ℕ) → lookup (nat_eq p) fs ≡ cond (nat_eq k p) w (lookup (nat_eq p) es))
      → lookup (nat_eq q) es ≡ None → lookup (nat_eq q) fs ≡ None
  absent_above k q w es fs below h e =
      let other : nat_eq k q ≡ false = grind (arith, nat_tests) in
      h q ∙ ap (λ b. cond b w (lookup (nat_eq q) es)) other ∙ e

  -- a key that is absent stays so where another is taken away
  pub absent_still : (k q : ℕ) (es fs : List (ℕ × X)) → ((p : ℕ) → lookup (nat_eq p) fs ≡ cond (nat_eq k p) None (lookup (nat_eq p) es))
      → lookup (nat_eq q) es ≡ None → lookup (nat_eq q) fs ≡ None
  absent_still k q es fs h e =
      h q ∙ elim (nat_eq k q) as (λ b. cond b None (lookup (nat_eq q) es) ≡ None) [ true ↦ refl | false ↦ e ]

  -- a ticket that has a result is a ticket
  pub below_all : (n : ℕ) (es : List (ℕ × X)) (x : X) → n < 4294967296 → lookup (nat_eq 4294967296) es ≡ None → lookup (nat_eq (n + 1)) es ≡ Some x → n + 1 < 4294967296
  below_all n es x below none some = by_test (nat_lt (n + 1) 4294967296) refl
    where
      by_test : (b : Bool) → nat_lt (n + 1) 4294967296 ≡ b → n + 1 < 4294967296
      by_test true e = grind (arith, nat_tests)
      by_test false e =
          let last : n + 1 ≡ 4294967296 = grind (arith, nat_tests) in
          let both : ◌≡◌ {A = Option X} None (Some x) = sym none ∙ ap (λ k. lookup (nat_eq k) es) (sym last) ∙ some in
          absurd (cc)

pub of_ok : {A E P : Type 0} (r : Result A E) → IsOk r → OnOk r P → P
of_ok (Ok x) h p = p
of_ok (Err e) h p = cc
