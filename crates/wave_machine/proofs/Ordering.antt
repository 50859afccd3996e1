-- A list by kinds: it is in two parts about each kind, and what is added to a kind, or left out, is added at that place.
use Rattle.std.proofs.Common.{◌≡◌, ◌≢◌, ◌||◌, ◌&&◌, ◌∙◌, ◌⊎◌, inl, inr, ℕ, zero, suc, ◌+◌, ◌-◌, ◌<◌, ◌≤◌, ◌==◌, Bool, true, false, cond, List, [], ◌∷◌, ◌++◌, refl, sym, ap, arith, append_assoc, append-nil}
use Rattle.std.specs.Prelude.{flat_map, filter, nat_lt}
use Rattle.std.specs.List.{AllByRecursion}
use Rattle.std.proofs.lemmas.Bool.Decides.{nat_tests}
use Rattle.std.proofs.lemmas.List.Elements.{filter-append}
use Rattle.wave_base.specs.Fold.{tickets_from}
use Rattle.wave_states.specs.Labels.{Label, ticket_of}
use Rattle.wave_theory.specs.Listed.{kind_rank}
use Rattle.wave_theory.proofs.Basics.{number_cases, number_is, number_self, not_same, differ}
use Rattle.wave_machine.specs.inner.Asking.{in_order, of_kind}
use Rattle.wave_machine.specs.inner.Index.{High, IsBefore, IsUpTo, Low, Parted, is_before, act_number, under}

-- ---- what holds of all of a list
module _ {X : Type 0} (P : X → Type 0) where
  pub all_append : (xs ys : List X) → AllByRecursion P xs → AllByRecursion P ys → AllByRecursion P (xs ++ ys)
  all_append [] ys a b = b
  all_append (x ∷ xs) ys a b = (a.0, all_append xs ys a.1 b)

  pub all_filter : (Q : X → Type 0) (test : X → Bool) → ((x : X) → test x ≡ true → Q x → P x) → (xs : List X) → AllByRecursion Q xs → AllByRecursion P (filter test xs)
  all_filter Q test h [] a = tt
  all_filter Q test h (x ∷ xs) a = by_test (test x) refl (all_filter Q test h xs a.1)
    where
      by_test : (b : Bool) → test x ≡ b → AllByRecursion P (filter test xs) → AllByRecursion P (cond b (x ∷ filter test xs) (filter test xs))
      by_test true e r = (h x e a.0, r)
      by_test false e r = r

  pub all_map : (Q : X → Type 0) → ((x : X) → Q x → P x) → (xs : List X) → AllByRecursion Q xs → AllByRecursion P xs
  all_map Q h [] a = tt
  all_map Q h (x ∷ xs) a = (h x a.0, all_map Q h xs a.1)

  pub all_flat : {Y : Type 0} (f : Y → List X) → ((y : Y) → AllByRecursion P (f y)) → (ys : List Y) → AllByRecursion P (flat_map f ys)
  all_flat f h [] = tt
  all_flat f h (y ∷ ys) = all_append (f y) (flat_map f ys) (h y) (all_flat f h ys)

  -- by number, from one on
  pub all_numbered : (f : ℕ → List X) (a n : ℕ) → ((k : ℕ) → a ≤ k → k < a + n → AllByRecursion P (f k)) → AllByRecursion P (flat_map f (tickets_from a n))
  all_numbered f a zero h = tt
  all_numbered f a (suc n) h = all_append (f a) (flat_map f (tickets_from (suc a) n)) (h a (omega arith) (omega arith)) (all_numbered f (suc a) n (λ k l b. h k (omega (arith, l)) (omega (arith, b))))

pub always : {X : Type 0} (xs : List X) → AllByRecursion (λ x. Unit {0}) xs
always [] = tt
always (x ∷ xs) = (tt, always xs)

-- ---- numbers from one on, in two parts
pub flat_append : {X Y : Type 0} (f : Y → List X) (ys zs : List Y) → flat_map f (ys ++ zs) ≡ flat_map f ys ++ flat_map f zs
flat_append f [] zs = refl
flat_append f (y ∷ ys) zs = ap (λ r. f y ++ r) (flat_append f ys zs) ∙ sym (append_assoc (f y) (flat_map f ys) (flat_map f zs))

pub numbers_append : (a n k : ℕ) → tickets_from a (n + k) ≡ tickets_from a n ++ tickets_from (a + n) k
numbers_append a zero k =
    let none : 0 + k ≡ k = omega arith in
    let here : a ≡ a + 0 = omega arith in
    ap (tickets_from a) none ∙ ap (λ b. tickets_from b k) here
numbers_append a (suc n) k =
    let more : suc n + k ≡ suc (n + k) = omega arith in
    let here : suc a + n ≡ a + suc n = omega arith in
    ap (tickets_from a) more ∙ ap (λ r. a ∷ r) (numbers_append (suc a) n k) ∙ ap (λ b. a ∷ (tickets_from (suc a) n ++ tickets_from b k)) here

-- what a number gives stands between what the lower and the higher ones give
pub middle_of : {X : Type 0} (f : ℕ → List X) (a k n : ℕ) → k < n → flat_map f (tickets_from a n) ≡ flat_map f (tickets_from a k) ++ (f (a + k) ++ flat_map f (tickets_from (suc (a + k)) (n - suc k)))
middle_of f a k n l =
    let whole : n ≡ k + suc (n - suc k) = omega (arith, l) in
    ap (λ m. flat_map f (tickets_from a m)) whole
    ∙ ap (flat_map f) (numbers_append a k (suc (n - suc k)))
    ∙ flat_append f (tickets_from a k) (tickets_from (a + k) (suc (n - suc k)))

pub same_numbered : {X : Type 0} (f g : ℕ → List X) (a n : ℕ) → ((k : ℕ) → a ≤ k → k < a + n → f k ≡ g k) → flat_map f (tickets_from a n) ≡ flat_map g (tickets_from a n)
same_numbered f g a zero h = refl
same_numbered f g a (suc n) h =
    let here : f a ≡ g a = h a (omega arith) (omega arith) in
    let rest : flat_map f (tickets_from (suc a) n) ≡ flat_map g (tickets_from (suc a) n) = same_numbered f g (suc a) n (λ k l b. h k (omega (arith, l)) (omega (arith, b))) in
    λ i. here i ++ rest i

-- ---- the kinds below one, and those above
abbrev pub lower : ℕ → List Label → List Label
lower k ls = flat_map (λ j. of_kind j ls) (tickets_from 0 k)

abbrev pub upper : ℕ → List Label → List Label
upper k ls = flat_map (λ j. of_kind j ls) (tickets_from (suc k) (10 - suc k))

pub kinds_are : (k : ℕ) (ls : List Label) → k < 10 → in_order ls ≡ lower k ls ++ (of_kind k ls ++ upper k ls)
kinds_are k ls l =
    let here : 0 + k ≡ k = omega arith in
    middle_of (λ j. of_kind j ls) 0 k 10 l ∙ ap (λ n. lower k ls ++ (of_kind n ls ++ flat_map (λ j. of_kind j ls) (tickets_from (suc n) (10 - suc k)))) here

pub lower_same : (k : ℕ) (xs ys : List Label) → ((j : ℕ) → j ≢ k → of_kind j xs ≡ of_kind j ys) → lower k xs ≡ lower k ys
lower_same k xs ys h = same_numbered (λ j. of_kind j xs) (λ j. of_kind j ys) 0 k (λ j l b. h j (omega (arith, b)))

pub upper_same : (k : ℕ) (xs ys : List Label) → ((j : ℕ) → j ≢ k → of_kind j xs ≡ of_kind j ys) → upper k xs ≡ upper k ys
upper_same k xs ys h = same_numbered (λ j. of_kind j xs) (λ j. of_kind j ys) (suc k) (10 - suc k) (λ j l b. h j (omega (arith, l)))

pub kind_append : (k : ℕ) (xs ys : List Label) → of_kind k (xs ++ ys) ≡ of_kind k xs ++ of_kind k ys
kind_append k xs ys = filter-append (λ (l : Label). kind_rank l.act == k) xs ys

-- ---- the parts of the list about a kind and a slot
less : (a b : ℕ) → a < b → nat_lt a b ≡ true
less a b l = grind (arith, nat_tests)

not_less : (a b : ℕ) → b ≤ a → nat_lt a b ≡ false
not_less a b l = grind (arith, nat_tests)

same : (a b : ℕ) → a ≡ b → (a == b) ≡ true
same a b e = ap (λ n. n == b) e ∙ number_self b

pub before_true : (t k u j : ℕ) → IsBefore t k u j → is_before t k u j ≡ true
before_true t k u j b = by_ticket (number_cases t u)
  where
    by_ticket : (t ≡ u) ⊎ ((t == u) ≡ false) → (nat_lt t u || ((t == u) && nat_lt k j)) ≡ true
    by_ticket (inl e) = λ i. not_less t u (omega (arith, e)) i || (same t u e i && less k j (b.number e) i)
    by_ticket (inr d) =
        let apart : t ≢ u = not_same t u d in
        let up = b.ticket in
        ap (λ c. c || ((t == u) && nat_lt k j)) (less t u (omega (arith, apart, up)))

pub before_false : (t k u j : ℕ) → IsUpTo u j t k → is_before t k u j ≡ false
before_false t k u j b = by_ticket (number_cases t u)
  where
    by_ticket : (t ≡ u) ⊎ ((t == u) ≡ false) → (nat_lt t u || ((t == u) && nat_lt k j)) ≡ false
    by_ticket (inl e) = λ i. not_less t u b.ticket i || (same t u e i && not_less k j (b.number (sym e)) i)
    by_ticket (inr d) = λ i. not_less t u b.ticket i || (d i && nat_lt k j)

under_lower : (kind i : ℕ) (b : Bool) → i < kind → (nat_lt i kind || ((i == kind) && b)) ≡ true
under_lower kind i b l = ap (λ c. c || ((i == kind) && b)) (less i kind l)

under_upper : (kind i : ℕ) (b : Bool) → kind < i → (nat_lt i kind || ((i == kind) && b)) ≡ false
under_upper kind i b l = λ n. not_less i kind (omega (arith, l)) n || (differ i kind (λ e. omega (arith, e, l)) n && b)

under_own : (kind i : ℕ) (b : Bool) → i ≡ kind → b ≡ true → (nat_lt i kind || ((i == kind) && b)) ≡ true
under_own kind i b e y = λ n. not_less i kind (omega (arith, e)) n || (same i kind e n && y n)

past_own : (kind i : ℕ) (b : Bool) → i ≡ kind → b ≡ false → (nat_lt i kind || ((i == kind) && b)) ≡ false
past_own kind i b e y = λ n. not_less i kind (omega (arith, e)) n || (same i kind e n && y n)

module _ (kind t k : ℕ) where
  abbrev Passes : Label → Type 0
  Passes l = under kind t k l.act ≡ true

  abbrev Fails : Label → Type 0
  Fails l = under kind t k l.act ≡ false

  abbrev own_before : Label → Bool
  own_before l = is_before (ticket_of l.act) (act_number l.act) t k

  all_lower : (ls : List Label) → AllByRecursion Passes (lower kind ls)
  all_lower ls = all_numbered Passes (λ j. of_kind j ls) 0 kind (λ j low high.
      all_filter Passes (λ l. Unit {0}) (λ (l : Label). kind_rank l.act == j) (λ l e u. let is : kind_rank l.act ≡ j = number_is (kind_rank l.act) j e in under_lower kind (kind_rank l.act) (own_before l) (omega (arith, is, high))) ls (always ls))

  all_upper : (ls : List Label) → AllByRecursion Fails (upper kind ls)
  all_upper ls = all_numbered Fails (λ j. of_kind j ls) (suc kind) (10 - suc kind) (λ j low high.
      all_filter Fails (λ l. Unit {0}) (λ (l : Label). kind_rank l.act == j) (λ l e u. let is : kind_rank l.act ≡ j = number_is (kind_rank l.act) j e in under_upper kind (kind_rank l.act) (own_before l) (omega (arith, is, low))) ls (always ls))

  all_low : (ls : List Label) → AllByRecursion (Low kind t k) ls → AllByRecursion Passes (of_kind kind ls)
  all_low ls a = all_filter Passes (Low kind t k) (λ (l : Label). kind_rank l.act == kind) (λ l e u. let is : kind_rank l.act ≡ kind = number_is (kind_rank l.act) kind e in under_own kind (kind_rank l.act) (own_before l) is (before_true (ticket_of l.act) (act_number l.act) t k (u is))) ls a

  all_high : (ls : List Label) → AllByRecursion (High kind t k) ls → AllByRecursion Fails (of_kind kind ls)
  all_high ls a = all_filter Fails (High kind t k) (λ (l : Label). kind_rank l.act == kind) (λ l e u. let is : kind_rank l.act ≡ kind = number_is (kind_rank l.act) kind e in past_own kind (kind_rank l.act) (own_before l) is (before_false (ticket_of l.act) (act_number l.act) t k (u is))) ls a

  pub parted : (ls u v : List Label) → kind < 10 → of_kind kind ls ≡ of_kind kind u ++ of_kind kind v → AllByRecursion (Low kind t k) u → AllByRecursion (High kind t k) v → Parted (in_order ls) kind t k (lower kind ls ++ of_kind kind u) (of_kind kind v ++ upper kind ls)
  parted ls u v small are low high = record {
    all = kinds_are kind ls small ∙ ap (λ m. lower kind ls ++ (m ++ upper kind ls)) are ∙ ap (λ r. lower kind ls ++ r) (append_assoc (of_kind kind u) (of_kind kind v) (upper kind ls)) ∙ sym (append_assoc (lower kind ls) (of_kind kind u) (of_kind kind v ++ upper kind ls));
    lower = all_append Passes (lower kind ls) (of_kind kind u) (all_lower ls) (all_low u low);
    higher = all_append Fails (of_kind kind v) (upper kind ls) (all_high v high) (all_upper ls);
  }

-- ---- one more of a kind
not_kind : (j : ℕ) (x : Label) → j ≢ kind_rank x.act → of_kind j (x ∷ []) ≡ []
not_kind j x n = ap (λ b. cond b (x ∷ []) []) (differ (kind_rank x.act) j (λ e. n (sym e)))

pub own_kind : (x : Label) → of_kind (kind_rank x.act) (x ∷ []) ≡ x ∷ []
own_kind x = ap (λ b. cond b (x ∷ []) []) (number_self (kind_rank x.act))

module _ (u v : List Label) (x : Label) where
  all_kinds_but : (j : ℕ) → j ≢ kind_rank x.act → of_kind j ((u ++ x ∷ []) ++ v) ≡ of_kind j (u ++ v)
  all_kinds_but j n =
      kind_append j (u ++ x ∷ []) v
      ∙ ap (λ r. r ++ of_kind j v) (kind_append j u (x ∷ []) ∙ ap (λ r. of_kind j u ++ r) (not_kind j x n) ∙ append-nil (of_kind j u))
      ∙ sym (kind_append j u v)

  pub one_more : kind_rank x.act < 10 → in_order ((u ++ x ∷ []) ++ v) ≡ (lower (kind_rank x.act) (u ++ v) ++ of_kind (kind_rank x.act) u) ++ x ∷ (of_kind (kind_rank x.act) v ++ upper (kind_rank x.act) (u ++ v))
  one_more small =
      let k = kind_rank x.act in
      let ls = (u ++ x ∷ []) ++ v in
      let own : of_kind k ls ≡ (of_kind k u ++ x ∷ []) ++ of_kind k v = kind_append k (u ++ x ∷ []) v ∙ ap (λ r. r ++ of_kind k v) (kind_append k u (x ∷ []) ∙ ap (λ r. of_kind k u ++ r) (own_kind x)) in
      kinds_are k ls small
      ∙ (λ i. lower_same k ls (u ++ v) all_kinds_but i ++ (own i ++ upper_same k ls (u ++ v) all_kinds_but i))
      ∙ shuffled (lower k (u ++ v)) (of_kind k u) (of_kind k v) (upper k (u ++ v))
    where
      shuffled : (a b c d : List Label) → a ++ (((b ++ x ∷ []) ++ c) ++ d) ≡ (a ++ b) ++ x ∷ (c ++ d)
      shuffled a b c d =
          ap (λ r. a ++ r) (append_assoc (b ++ x ∷ []) c d ∙ append_assoc b (x ∷ []) (c ++ d)) ∙ sym (append_assoc a b (x ∷ (c ++ d)))

-- ---- what has none of a kind any more
pub one_kind_less : (k : ℕ) (ls ms u v : List Label) → k < 10 → ((j : ℕ) → j ≢ k → of_kind j ls ≡ of_kind j ms) → of_kind k ms ≡ of_kind k u ++ of_kind k v → in_order ms ≡ (lower k ls ++ of_kind k u) ++ (of_kind k v ++ upper k ls)
one_kind_less k ls ms u v small same are =
    kinds_are k ms small
    ∙ (λ i. lower_same k ms ls (λ j n. sym (same j n)) i ++ (are i ++ upper_same k ms ls (λ j n. sym (same j n)) i))
    ∙ ap (λ r. lower k ls ++ r) (append_assoc (of_kind k u) (of_kind k v) (upper k ls)) ∙ sym (append_assoc (lower k ls) (of_kind k u) (of_kind k v ++ upper k ls))
