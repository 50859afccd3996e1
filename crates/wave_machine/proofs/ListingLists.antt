-- Lists of labels: filters over joined lists, lists by ticket, and lists by number.
use Rattle.std.proofs.Common.{◌≡◌, ◌∙◌, ◌⊎◌, inl, inr, ℕ, zero, suc, ◌+◌, ◌-◌, ◌<◌, ◌≤◌, Bool, true, false, cond, not, List, [], ◌∷◌, ◌++◌, length, map, Option, Some, None, option_map, refl, sym, ap, subst, arith, append_assoc, get_or, drop}
use Rattle.std.specs.Prelude.{slice_get, flat_map, filter, nat_lt, nat_eq, position, if◌then◌else◌}
use Rattle.std.specs.BTreeMap.{is_at}
use Rattle.std.specs.Cmp.{unsigned_ties}
use Rattle.std.specs.List.{AllByRecursion, position_or_len}
use Rattle.std.specs.List.Sorted.{IsStrictlySortedBy}
use Rattle.std.specs.Map.{keys_of, lookup}
use Rattle.std.specs.Ordering.{nat_cmp}
use Rattle.std.specs.declared.cmp.Ordering.TheVariants.{Less, Equal, Greater}
use Rattle.std.proofs.lemmas.Bool.Decides.{nat_tests}
use Rattle.std.proofs.lemmas.List.{drop_more}
use Rattle.std.proofs.lemmas.List.Elements.{filter-append}
use Rattle.wave_base.specs.Fold.{tickets_from}
use Rattle.wave_theory.proofs.Basics.{differ, number_cases, number_self, some_not}
use Rattle.wave_machine.specs.inner.Asking.{by_ticket}

module _ {X Y : Type 0} where
  pub flat_same : (f g : Y → List X) → ((y : Y) → f y ≡ g y) → (ys : List Y) → flat_map f ys ≡ flat_map g ys
  flat_same f g h [] = refl
  flat_same f g h (y ∷ ys) = λ i. h y i ++ flat_same f g h ys i

  pub flat_none : (f : Y → List X) → ((y : Y) → f y ≡ []) → (ys : List Y) → flat_map f ys ≡ []
  flat_none f h [] = refl
  flat_none f h (y ∷ ys) = ap (λ r. r ++ flat_map f ys) (h y) ∙ flat_none f h ys

  pub filter_flat : (p : X → Bool) (f : Y → List X) (ys : List Y) → filter p (flat_map f ys) ≡ flat_map (λ y. filter p (f y)) ys
  filter_flat p f [] = refl
  filter_flat p f (y ∷ ys) = filter-append p (f y) (flat_map f ys) ∙ ap (λ r. filter p (f y) ++ r) (filter_flat p f ys)

  pub filter_of_map : (p : X → Bool) (g : Y → X) (ys : List Y) → filter p (map g ys) ≡ map g (filter (λ y. p (g y)) ys)
  filter_of_map p g [] = refl
  filter_of_map p g (y ∷ ys) = by_test (p (g y)) (filter_of_map p g ys)
    where
      by_test : (b : Bool) → filter p (map g ys) ≡ map g (filter (λ z. p (g z)) ys) → cond b (g y ∷ filter p (map g ys)) (filter p (map g ys)) ≡ map g (cond b (y ∷ filter (λ z. p (g z)) ys) (filter (λ z. p (g z)) ys))
      by_test true e = ap (λ r. g y ∷ r) e
      by_test false e = e

  pub map_flat : {Z : Type 0} (g : X → Z) (f : Y → List X) (ys : List Y) → map g (flat_map f ys) ≡ flat_map (λ y. map g (f y)) ys
  map_flat g f [] = refl
  map_flat g f (y ∷ ys) = joined (f y) (flat_map f ys) ∙ ap (λ r. map g (f y) ++ r) (map_flat g f ys)
    where
      joined : (xs zs : List X) → map g (xs ++ zs) ≡ map g xs ++ map g zs
      joined [] zs = refl
      joined (x ∷ xs) zs = ap (λ r. g x ∷ r) (joined xs zs)

-- where all pass that another test passes, and where none passes
pub filter_passed : {X Y : Type 0} (p : X → Bool) (g : Y → X) (q : Y → Bool) → ((y : Y) → q y ≡ true → p (g y) ≡ true) → (ys : List Y) → filter p (map g (filter q ys)) ≡ map g (filter q ys)
filter_passed p g q h [] = refl
filter_passed p g q h (y ∷ ys) = by_test (q y) refl (filter_passed p g q h ys)
  where
    by_test : (b : Bool) → q y ≡ b → filter p (map g (filter q ys)) ≡ map g (filter q ys) → filter p (map g (cond b (y ∷ filter q ys) (filter q ys))) ≡ map g (cond b (y ∷ filter q ys) (filter q ys))
    by_test false e rest = rest
    by_test true e rest = ap (λ b. cond b (g y ∷ filter p (map g (filter q ys))) (filter p (map g (filter q ys)))) (h y e) ∙ ap (λ r. g y ∷ r) rest

-- what is left of a list once a loop has added for one more
module _ {X Y : Type 0} (f : Y → List X) (ys : List Y) where
  pub one_more : (i : ℕ) (y : Y) → i < length ys → y ≡ get_or ys i y → (all base more : List X) → base ++ flat_map f (drop i ys) ≡ all → more ≡ base ++ f y → more ++ flat_map f (drop (i + 1) ys) ≡ all
  one_more i y l at all base more e add =
      let first : flat_map f (drop i ys) ≡ f y ++ flat_map f (drop (i + 1) ys) = ap (flat_map f) (drop_more ys i y l) ∙ ap (λ z. f z ++ flat_map f (drop (i + 1) ys)) (sym at) in
      ap (λ r. r ++ flat_map f (drop (i + 1) ys)) add ∙ append_assoc base (f y) (flat_map f (drop (i + 1) ys)) ∙ ap (λ r. base ++ r) (sym first) ∙ e

module _ {X C : Type 0} (f : ℕ → C → List X) where
  pub filter_by_ticket : (p : X → Bool) (t : ℕ) (cs : List C) → filter p (by_ticket f t cs) ≡ by_ticket (λ u c. filter p (f u c)) t cs
  filter_by_ticket p t [] = refl
  filter_by_ticket p t (c ∷ cs) = filter-append p (f t c) (by_ticket f (suc t) cs) ∙ ap (λ r. filter p (f t c) ++ r) (filter_by_ticket p (suc t) cs)

  -- what it is for each one, it is for all tickets
  pub by_ticket_is : (g : ℕ → List X) (cs : List C) (t : ℕ) → ((i : ℕ) (c : C) → slice_get cs i ≡ Some c → f (t + i) c ≡ g (t + i)) → by_ticket f t cs ≡ flat_map g (tickets_from t (length cs))
  by_ticket_is g [] t h = refl
  by_ticket_is g (c ∷ cs) t h =
      let here : t + 0 ≡ t = omega arith in
      let head : f t c ≡ g t = subst (λ n. f n c ≡ g n) here (h 0 c refl) in
      let rest : by_ticket f (suc t) cs ≡ flat_map g (tickets_from (suc t) (length cs)) = by_ticket_is g cs (suc t) (λ i d e. shift i d (h (suc i) d e)) in
      λ i. head i ++ rest i
    where
      shift : (i : ℕ) (d : C) → f (t + suc i) d ≡ g (t + suc i) → f (suc t + i) d ≡ g (suc t + i)
      shift i d k = let e : t + suc i ≡ suc t + i = omega arith in subst (λ n. f n d ≡ g n) e k

-- numbers from one to below another
pub from_more : (a b : ℕ) → a < b → tickets_from a (b - a) ≡ a ∷ tickets_from (a + 1) (b - (a + 1))
from_more a b l =
    let n : b - a ≡ suc (b - (a + 1)) = omega (arith, l) in
    let m : suc a ≡ a + 1 = omega arith in
    ap (tickets_from a) n ∙ ap (λ k. a ∷ tickets_from k (b - (a + 1))) m

pub same_from : {X : Type 0} (f g : ℕ → List X) (n a : ℕ) → ((k : ℕ) → a ≤ k → f k ≡ g k) → flat_map f (tickets_from a n) ≡ flat_map g (tickets_from a n)
same_from f g zero a h = refl
same_from f g (suc n) a h =
    let here : f a ≡ g a = h a (omega arith) in
    let rest : flat_map f (tickets_from (suc a) n) ≡ flat_map g (tickets_from (suc a) n) = same_from f g n (suc a) (λ k l. h k (omega (arith, l))) in
    λ i. here i ++ rest i

at_number : (k y : ℕ) → is_at (nat_cmp k) y ≡ nat_eq k y
at_number k y = sym (unsigned_ties k y)

at_apart : (k y : ℕ) → (k ≡ y → ⊥) → is_at (nat_cmp k) y ≡ false
at_apart k y n = at_number k y ∙ differ k y n

at_itself : (k : ℕ) → is_at (nat_cmp k) k ≡ true
at_itself k = at_number k k ∙ number_self k

pub less_is : (x y : ℕ) → nat_cmp x y ≡ Less → x < y
less_is x y e = by_test (nat_lt x y) refl (x_is (nat_eq x y)) e
  where
    x_is : (b : Bool) → cond b Equal Greater ≡ Less → ⊥
    x_is true h = cc
    x_is false h = cc

    by_test : (b : Bool) → nat_lt x y ≡ b → (cond (nat_eq x y) Equal Greater ≡ Less → ⊥) → cond b Less (cond (nat_eq x y) Equal Greater) ≡ Less → x < y
    by_test true h n k = grind (arith, nat_tests)
    by_test false h n k = absurd (n k)

module _ {E : Type 0} where
  abbrev Find : List (ℕ × E) → ℕ → Option E
  Find es k = lookup (is_at (nat_cmp k)) es

  pub find_first : (e : ℕ × E) (es : List (ℕ × E)) → Find (e ∷ es) e.0 ≡ Some e.1
  find_first e es = ap (λ b. cond b (Some e.1) (Find es e.0)) (at_itself e.0)

  pub find_apart : (e : ℕ × E) (es : List (ℕ × E)) (k : ℕ) → (k ≡ e.0 → ⊥) → Find (e ∷ es) k ≡ Find es k
  find_apart e es k n = ap (λ b. cond b (Some e.1) (Find es k)) (at_apart k e.0 n)

  -- what is in order has nothing below its first
  none_under : (es : List (ℕ × E)) (a k : ℕ) → AllByRecursion (λ y. nat_cmp a y ≡ Less) (keys_of es) → k ≤ a → Find es k ≡ None
  none_under [] a k all l = refl
  none_under (e ∷ es) a k all l =
      let above : a < e.0 = less_is a e.0 all.0 in
      find_apart e es k (λ h. omega (arith, above, l, h)) ∙ none_under es a k all.1 l

module _ {E X : Type 0} (f : ℕ → Option E → List X) (none : (k : ℕ) → f k None ≡ []) where
  -- by number is as they come, where they come in order and no number is past these
  pub by_number : (n a : ℕ) (es : List (ℕ × E)) → IsStrictlySortedBy nat_cmp (keys_of es) → ((k : ℕ) → k < a → Find es k ≡ None) → ((k : ℕ) → a + n ≤ k → Find es k ≡ None)
      → flat_map (λ k. f k (Find es k)) (tickets_from a n) ≡ flat_map (λ e. f e.0 (Some e.1)) es
  unfolding IsStrictlySortedBy
  by_number n a [] sorted low high = flat_none (λ k. f k None) none (tickets_from a n)
  by_number zero a (e ∷ es) sorted low high = absurd (elim (below_or a e.0) [ inl l ↦ some_not (sym (find_first e es) ∙ low e.0 l) | inr l ↦ some_not (sym (find_first e es) ∙ high e.0 l) ])
    where
      below_or : (a k : ℕ) → (k < a) ⊎ (a + 0 ≤ k)
      below_or a k = grind (arith, nat_tests)
  by_number (suc n) a (e ∷ es) sorted low high = elim (number_cases a e.0) [
    | inl is ↦
        let here : f a (Find (e ∷ es) a) ≡ f e.0 (Some e.1) = ap (λ k. f k (Find (e ∷ es) k)) is ∙ ap (f e.0) (find_first e es) in
        let past : flat_map (λ k. f k (Find (e ∷ es) k)) (tickets_from (suc a) n) ≡ flat_map (λ k. f k (Find es k)) (tickets_from (suc a) n) =
        same_from (λ k. f k (Find (e ∷ es) k)) (λ k. f k (Find es k)) n (suc a) (λ k l. ap (f k) (find_apart e es k (λ h. omega (arith, is, l, h)))) in
        let rest : flat_map (λ k. f k (Find es k)) (tickets_from (suc a) n) ≡ flat_map (λ x. f x.0 (Some x.1)) es =
        by_number n (suc a) es sorted.1 (λ k l. none_under es e.0 k sorted.0 (omega (arith, is, l))) (λ k l. sym (find_apart e es k (λ h. omega (arith, is, l, h))) ∙ high k (omega (arith, l))) in
        (λ i. here i ++ (past ∙ rest) i)
    | inr other ↦
        let above : a < e.0 = past_it a e.0 other (λ l. some_not (sym (find_first e es) ∙ low e.0 l)) in
        let gone : Find (e ∷ es) a ≡ None = find_apart e es a (λ h. omega (arith, above, h)) ∙ none_under es e.0 a sorted.0 (omega (arith, above)) in
        let here : f a (Find (e ∷ es) a) ≡ [] = ap (f a) gone ∙ none a in
        let rest : flat_map (λ k. f k (Find (e ∷ es) k)) (tickets_from (suc a) n) ≡ flat_map (λ x. f x.0 (Some x.1)) (e ∷ es) =
        by_number n (suc a) (e ∷ es) sorted (λ k l. elim (number_cases k a) [ inl is ↦ ap (Find (e ∷ es)) is ∙ gone | inr apart ↦ low k (under k a l apart) ]) (λ k l. high k (omega (arith, l))) in
        ap (λ r. r ++ flat_map (λ k. f k (Find (e ∷ es) k)) (tickets_from (suc a) n)) here ∙ rest
  ]
    where
      past_it : (a b : ℕ) → nat_eq a b ≡ false → (b < a → ⊥) → a < b
      past_it a b e n = grind (arith, nat_tests)

      under : (k a : ℕ) → k < suc a → nat_eq k a ≡ false → k < a
      under k a l e = grind (arith, nat_tests)

-- the first place of a list with one element more
position-more : {X : Type 0} (p : X → Bool) (x : X) (xs : List X) → position p (x ∷ xs) ≡ (if p x then Some 0 else option_map suc (position p xs))
position-more p x xs = by_test (p x)
  where
    moved : (n len : ℕ) (d : Bool) → nat_lt n len ≡ d → cond (nat_lt (1 + n) (suc len)) (Some (1 + n)) None ≡ option_map suc (cond d (Some n) None)
    moved n len true e =
        let l : nat_lt (1 + n) (suc len) ≡ true = grind (arith, nat_tests) in
        let s : 1 + n ≡ suc n = omega arith in
        ap (λ b. cond b (Some (1 + n)) None) l ∙ ap Some s
    moved n len false e = let l : nat_lt (1 + n) (suc len) ≡ false = grind (arith, nat_tests) in ap (λ b. cond b (Some (1 + n)) None) l

    some_first : (len : ℕ) → nat_lt 0 (suc len) ≡ true
    some_first len = grind (arith, nat_tests)

    by_test : (b : Bool) → cond (nat_lt (cond (not b) (1 + position_or_len p xs) 0) (suc (length xs))) (Some (cond (not b) (1 + position_or_len p xs) 0)) None ≡ (if b then Some 0 else option_map suc (position p xs))
    by_test true = ap (λ d. cond d (Some 0) None) (some_first (length xs))
    by_test false = moved (position_or_len p xs) (length xs) (nat_lt (position_or_len p xs) (length xs)) refl

-- the first that passes, among numbers as among the elements that they number
module _ {X : Type 0} (p : X → Bool) (test : ℕ → Bool) (first : List ℕ → Option ℕ) (of_none : first [] ≡ None) (of_some : (n : ℕ) (ns : List ℕ) → first (n ∷ ns) ≡ (if test n then Some n else first ns)) where
  first_is : (xs : List X) (a : ℕ) → ((i : ℕ) (x : X) → slice_get xs i ≡ Some x → test (a + i) ≡ p x) → first (tickets_from a (length xs)) ≡ option_map (λ i. a + i) (position p xs)
  first_is [] a h = of_none
  first_is (x ∷ xs) a h =
      let here : a + 0 ≡ a = omega arith in
      let t : test a ≡ p x = sym (ap test here) ∙ h 0 x refl in
      of_some a (tickets_from (suc a) (length xs))
      ∙ ap (λ b. if b then Some a else first (tickets_from (suc a) (length xs))) t
      ∙ by_test (p x) (first_is xs (suc a) (λ i y e. shift i y (h (suc i) y e)))
      ∙ ap (option_map (λ i. a + i)) (sym (position-more p x xs))
    where
      shift : (i : ℕ) (y : X) → test (a + suc i) ≡ p y → test (suc a + i) ≡ p y
      shift i y k = let e : a + suc i ≡ suc a + i = omega arith in subst (λ n. test n ≡ p y) e k

      later : (o : Option ℕ) → option_map (λ i. suc a + i) o ≡ option_map (λ i. a + i) (option_map suc o)
      later None = refl
      later (Some i) = let e : suc a + i ≡ a + suc i = omega arith in ap Some e

      by_test : (b : Bool) → first (tickets_from (suc a) (length xs)) ≡ option_map (λ i. suc a + i) (position p xs) → (if b then Some a else first (tickets_from (suc a) (length xs))) ≡ option_map (λ i. a + i) (if b then Some 0 else option_map suc (position p xs))
      by_test true rest = let e : a ≡ a + 0 = omega arith in ap Some e
      by_test false rest = rest ∙ later (position p xs)

  pub first_place : (xs : List X) → ((i : ℕ) (x : X) → slice_get xs i ≡ Some x → test i ≡ p x) → first (tickets_from 0 (length xs)) ≡ position p xs
  first_place xs h = first_is xs 0 (λ i x e. subst (λ n. test n ≡ p x) (sym (zero_plus i)) (h i x e)) ∙ same (position p xs)
    where
      zero_plus : (i : ℕ) → 0 + i ≡ i
      zero_plus i = omega arith

      same : (o : Option ℕ) → option_map (λ i. 0 + i) o ≡ o
      same None = refl
      same (Some i) = ap Some (zero_plus i)

-- one piece more of what is left
pub one_piece : {X : Type 0} (all base more piece now rest : List X) → base ++ now ≡ all → now ≡ piece ++ rest → more ≡ base ++ piece → more ++ rest ≡ all
one_piece all base more piece now rest e split add = ap (λ r. r ++ rest) add ∙ append_assoc base piece rest ∙ ap (λ r. base ++ r) (sym split) ∙ e
