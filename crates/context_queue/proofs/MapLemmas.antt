-- The finite map and the finite set of what a hash table keeps, through the table's calls. `eq` is the equality by which the
-- table looks, and `cmp` the order of the map.
use Rattle.std.proofs.Common.{◌≡◌, ℕ, ◌+◌, List, [], ◌∷◌, length, Option, Some, None, is_some, Bool, true, false, cond, not, ◌||◌, ◌&&◌, refl, sym, ap, ◌∙◌, suc, add-one}
use Rattle.std.specs.declared.cmp.Ordering.{Ordering}
use Rattle.std.specs.Ordering.{eq_by_cmp}
use Rattle.std.specs.Cmp.{IsTotalOrder}
use Rattle.std.specs.Map.{lookup, keys_of}
use Rattle.std.specs.List.{list_any, IsDistinct, AllByRecursion}
use Rattle.std.specs.FinMap as table
use Rattle.std.specs.FinSet as set

-- a key that is new makes one more
one_more : (b : Bool) (n : ℕ) → b ≡ false → cond b n (n + 1) ≡ suc n
one_more b n e = ap (λ c. cond c n (n + 1)) e ∙ add-one n

module _ {K : Type 0} (cmp : K → K → Ordering) (eq : K → K → Bool) (o : IsTotalOrder cmp) (same : table.IsAntisymmetric cmp)
    (symm : (k q : K) → eq k q ≡ eq q k) (ties : (q k : K) → eq q k ≡ eq_by_cmp cmp q k) where
  turned : (k q : K) → eq k q ≡ eq_by_cmp cmp q k
  turned k q = symm k q ∙ ties q k

  module _ {X : Type 0} where
    find_is_lookup : (q : K) (es : List (K × X)) → table.find cmp q es ≡ lookup (eq q) es
    find_is_lookup q [] = refl
    find_is_lookup q (e ∷ es) = ap (λ b. cond b (Some e.1) (table.find cmp q es)) (sym (ties q e.0)) ∙ ap (cond (eq q e.0) (Some e.1)) (find_is_lookup q es)

    -- what the table looks up, the map has
    pub get_is_lookup : (q : K) (es : List (K × X)) → table.get (table.from_entries {R = cmp} es) q ≡ lookup (eq q) es
    get_is_lookup q es = table.get-from_entries o es q ∙ find_is_lookup q es

    pub same_entries : (es fs : List (K × X)) → ((q : K) → lookup (eq q) fs ≡ lookup (eq q) es) → table.from_entries {R = cmp} fs ≡ table.from_entries es
    same_entries es fs h = table.same_map o same _ _ (λ q. get_is_lookup q fs ∙ h q ∙ sym (get_is_lookup q es))

    after : (k q : K) (w : Option X) (es fs : List (K × X)) → lookup (eq q) fs ≡ cond (eq k q) w (lookup (eq q) es)
        → table.get (table.from_entries {R = cmp} fs) q ≡ cond (eq_by_cmp cmp q k) w (table.get (table.from_entries {R = cmp} es) q)
    after k q w es fs h =
        get_is_lookup q fs ∙ h ∙ ap (λ b. cond b w (lookup (eq q) es)) (turned k q) ∙ ap (cond (eq_by_cmp cmp q k) w) (sym (get_is_lookup q es))

    pub inserted : (es fs : List (K × X)) (k : K) (v : X) → ((q : K) → lookup (eq q) fs ≡ cond (eq k q) (Some v) (lookup (eq q) es))
        → table.from_entries {R = cmp} fs ≡ table.insert (table.from_entries es) k v
    inserted es fs k v h = table.same_map o same _ _ (λ q. after k q (Some v) es fs (h q) ∙ sym (table.get-insert o (table.from_entries es) k v q))

    pub removed : (es fs : List (K × X)) (k : K) → ((q : K) → lookup (eq q) fs ≡ cond (eq k q) None (lookup (eq q) es))
        → table.from_entries {R = cmp} fs ≡ table.remove (table.from_entries es) k
    removed es fs k h = table.same_map o same _ _ (λ q. after k q None es fs (h q) ∙ sym (table.get-remove o (table.from_entries es) k q))

    absent : (k : K) (es : List (K × X)) → AllByRecursion (λ y. eq k y ≡ false) (keys_of es) → lookup (eq k) es ≡ None
    absent k [] h = refl
    absent k (e ∷ es) h = ap (λ b. cond b (Some e.1) (lookup (eq k) es)) h.0 ∙ absent k es h.1

    -- as many as the table has entries
    pub len_is_length : (es : List (K × X)) → IsDistinct eq (keys_of es) → table.len (table.from_entries {R = cmp} es) ≡ length es
    unfolding IsDistinct
    len_is_length [] h = table.len-empty cmp X
    len_is_length (e ∷ es) h =
        table.len-insert o (table.from_entries es) e.0 e.1
        ∙ one_more (table.contains_key (table.from_entries es) e.0) (table.len (table.from_entries es)) (ap is_some (get_is_lookup e.0 es ∙ absent e.0 es h.0))
        ∙ ap suc (len_is_length es h.1)

  any_is_any : (q : K) (ks : List K) → list_any (eq_by_cmp cmp q) ks ≡ list_any (eq q) ks
  any_is_any q [] = refl
  any_is_any q (k ∷ ks) = λ i. sym (ties q k) i || any_is_any q ks i

  -- what the table has, the set has
  pub contains_is_any : (q : K) (ks : List K) → set.contains (set.from_list {R = cmp} ks) q ≡ list_any (eq q) ks
  contains_is_any q ks = set.contains-from_list o ks q ∙ any_is_any q ks

  pub same_keys : (ks ls : List K) → ((q : K) → list_any (eq q) ls ≡ list_any (eq q) ks) → set.from_list {R = cmp} ls ≡ set.from_list ks
  same_keys ks ls h = set.same_set o same _ _ (λ q. contains_is_any q ls ∙ h q ∙ sym (contains_is_any q ks))

  or_in : (b c : Bool) → cond b true c ≡ (b || c)
  or_in true c = refl
  or_in false c = refl

  and_out : (b c : Bool) → cond b false c ≡ (not b && c)
  and_out true c = refl
  and_out false c = refl

  pub joined : (ks ls : List K) (k : K) → ((q : K) → list_any (eq q) ls ≡ cond (eq k q) true (list_any (eq q) ks)) → set.from_list {R = cmp} ls ≡ set.insert (set.from_list ks) k
  joined ks ls k h =
      set.same_set o same _ _
      (λ q. contains_is_any q ls ∙ h q ∙ or_in (eq k q) (list_any (eq q) ks) ∙ (λ i. turned k q i || sym (contains_is_any q ks) i) ∙ sym (set.contains-insert o (set.from_list ks) k q))

  pub left : (ks ls : List K) (k : K) → ((q : K) → list_any (eq q) ls ≡ cond (eq k q) false (list_any (eq q) ks)) → set.from_list {R = cmp} ls ≡ set.remove (set.from_list ks) k
  left ks ls k h =
      set.same_set o same _ _
      (λ q. contains_is_any q ls ∙ h q ∙ and_out (eq k q) (list_any (eq q) ks) ∙ (λ i. not (turned k q i) && sym (contains_is_any q ks) i) ∙ sym (set.contains-remove o (set.from_list ks) k q))

  absent_key : (k : K) (ks : List K) → AllByRecursion (λ y. eq k y ≡ false) ks → list_any (eq k) ks ≡ false
  absent_key k [] h = refl
  absent_key k (y ∷ ks) h = (λ i. h.0 i || absent_key k ks h.1 i)

  pub set_len_is_length : (ks : List K) → IsDistinct eq ks → set.len (set.from_list {R = cmp} ks) ≡ length ks
  unfolding IsDistinct
  set_len_is_length [] h = set.len-empty cmp
  set_len_is_length (k ∷ ks) h =
      set.len-insert o (set.from_list ks) k
      ∙ one_more (set.contains (set.from_list {R = cmp} ks) k) (set.len (set.from_list {R = cmp} ks)) (contains_is_any k ks ∙ absent_key k ks h.0)
      ∙ ap suc (set_len_is_length ks h.1)
