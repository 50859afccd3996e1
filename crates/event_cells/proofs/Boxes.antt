-- What an outbox keeps through its calls.
use Rattle.std.proofs.Common.{◌≡◌, ◌∙◌, ℕ, ◌+◌, ◌≤◌, [], ◌∷◌, ◌++◌, List, true, cond, get_or, None, refl, sym, ap, subst, arith, slice_set}
use Rattle.std.specs.Prelude.{nat_eq, if◌then◌else◌}
use Rattle.std.specs.BTreeMap.{is_at, insert_entry}
use Rattle.std.specs.Cmp.{eq_by_cmp_equiv, nat_cmp_is, unsigned_ties}
use Rattle.std.specs.List.{AllByRecursion, remove}
use Rattle.std.specs.List.Sorted.{IsStrictlySortedBy}
use Rattle.std.specs.Map.{keys_of, lookup, remove_entry}
use Rattle.std.specs.Ordering.{nat_cmp, is_eq}
use Rattle.std.specs.declared.cmp.Ordering.{Ordering}
use Rattle.std.specs.declared.cmp.Ordering.TheVariants.{Less, Equal, Greater}
use Rattle.std.proofs.lemmas.Cmp.{nat_cmp_total}
use Rattle.std.proofs.lemmas.Map.{lookup-remove_entry}
use Rattle.std.proofs.lemmas.Map.Keys.{IsDistinct-from_sorted}
use Rattle.std.proofs.lemmas.Map.Lookups.{exact_unsigned}
use Rattle.std.proofs.lemmas.Option.{slice_get_read}
use Rattle.event_cells.specs.inner.Places.{IsThere}
use Rattle.event_cells.proofs.Sorted as s

is_equal : (r : Ordering) → is_eq r ≡ true → r ≡ Equal
is_equal Less e = cc
is_equal Equal e = refl
is_equal Greater e = cc

module _ {X : Type 0} where
  -- mails in order, of which so many were sent at most
  pub record InOrder (es : List (ℕ × X)) (n : ℕ) : Type 0 where
    pub rises : IsStrictlySortedBy nat_cmp (keys_of es)
    pub below : AllByRecursion (λ k. k ≤ n) (keys_of es)

  -- a new number goes to the end
  pub pushed_is : (es : List (ℕ × X)) (n : ℕ) (v : X) → InOrder es n → es ++ (n + 1, v) ∷ [] ≡ insert_entry nat_cmp es (n + 1) v
  pushed_is es n v h = s.put_last nat_cmp nat_cmp_total exact_unsigned (n + 1) v es (s.all_map (λ k. k ≤ n) (λ k. nat_cmp (n + 1) k ≡ Greater) (λ k le. sym (nat_cmp_is (n + 1) k Greater (omega arith))) (keys_of es) h.below)

  pub pushed : (es : List (ℕ × X)) (n : ℕ) (v : X) → InOrder es n → InOrder (es ++ (n + 1, v) ∷ []) (n + 1)
  pushed es n v h = record {
    rises = subst (λ (l : List (ℕ × X)). IsStrictlySortedBy nat_cmp (keys_of l)) (sym (pushed_is es n v h)) (s.sorted_put nat_cmp nat_cmp_total exact_unsigned (n + 1) v es h.rises);
    below = s.all_pushed (λ k. k ≤ n + 1) es (n + 1, v) (s.all_map (λ k. k ≤ n) (λ k. k ≤ n + 1) (λ k le. omega arith) (keys_of es) h.below) (omega arith);
  }

  pub removed : (es : List (ℕ × X)) (n i : ℕ) → InOrder es n → InOrder (remove es i) n
  removed es n i h = record { rises = s.sorted_removed nat_cmp nat_cmp_total exact_unsigned es i h.rises; below = s.all_removed (λ k. k ≤ n) es i h.below }

  -- another mail under a number that is there
  pub replaced : (es : List (ℕ × X)) (n k i : ℕ) (v : X) (x : ℕ × X) → IsThere nat_cmp es k i → x ≡ get_or es i x → InOrder es n → InOrder (slice_set es i (k, v)) n
  replaced es n k i v x at e h =
      let key : (get_or es i x).0 ≡ k = ap (λ (y : ℕ × X). y.0) (sym e) ∙ at.has_key x (slice_get_read es _ i x refl at.within e) in
      let le : k ≤ n = subst (λ j. j ≤ n) key (s.all_at (λ j. j ≤ n) es i x at.within h.below) in
      record {
        rises = subst (λ (l : List (ℕ × X)). IsStrictlySortedBy nat_cmp (keys_of l)) (sym (at.sets v)) (s.sorted_put nat_cmp nat_cmp_total exact_unsigned k v es h.rises);
        below = subst (λ (l : List (ℕ × X)). AllByRecursion (λ j. j ≤ n) (keys_of l)) (sym (at.sets v)) (s.all_put nat_cmp nat_cmp_total exact_unsigned k v (λ j. j ≤ n) es le h.below);
      }

  -- what is found without a number
  pub gone : (es : List (ℕ × X)) (n : ℕ) → IsStrictlySortedBy nat_cmp (keys_of es) → (k : ℕ) → lookup (is_at (nat_cmp k)) (remove_entry (is_at (nat_cmp n)) es) ≡ (if nat_eq n k then None else lookup (is_at (nat_cmp k)) es)
  gone es n h k =
      lookup-remove_entry (eq_by_cmp_equiv nat_cmp_total) (is_at (nat_cmp n)) (λ x y e. ap (λ j. is_eq (nat_cmp j y)) (exact_unsigned n x (is_equal (nat_cmp n x) e))) k es (IsDistinct-from_sorted nat_cmp (keys_of es) h)
      ∙ ap (λ b. cond b None (lookup (is_at (nat_cmp k)) es)) (sym (unsigned_ties n k))
