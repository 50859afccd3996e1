-- What is put for a ticket, and taken out, in a list by kinds.
use Rattle.std.proofs.Common.{◌≡◌, ◌≢◌, ◌∙◌, ◌⊎◌, inl, inr, ℕ, zero, suc, ◌+◌, ◌-◌, ◌<◌, ◌≤◌, ◌==◌, ◌&&◌, Bool, true, false, cond, not, List, [], ◌∷◌, ◌++◌, length, map, get_or, Option, refl, sym, ap, subst, arith, append_assoc, append-nil, true≢false}
use Rattle.std.specs.List.{AllByRecursion}
use Rattle.wave_labels.specs.declared.label.Label as program
use Rattle.wave_states.specs.Labels.{Act, Label, Admit, Queue, Grant, Visit, Start, Stop, Free, Pass, Land, Commit, ticket_of}
use Rattle.wave_theory.specs.Listed.{IsIn, kind_rank}
use Rattle.wave_machine.specs.declared.ready.Ready.{Ready}
use Rattle.wave_machine.specs.inner.Asking.{in_order, of_kind, labels_in}
use Rattle.wave_machine.specs.inner.Index.{Below, Cuts, CutsKind, From, Goes, High, IsBelow, IsFrom, IsInner, IsOwn, IsUpTo, Lists, Low, Parted, by_none, kinds_at, act_number, without}
use Rattle.wave_theory.proofs.Basics.{and_both, differ, number_cases, number_is, number_self}
use Rattle.wave_machine.proofs.Ordering.{always, all_append, all_filter, all_map, all_numbered, kind_append, lower, one_kind_less, one_more, parted, upper}
use Rattle.wave_machine.proofs.Parting.{is_slot}

pub kind_small : (a : Act) → kind_rank a < 10
kind_small (Admit t) = omega arith
kind_small (Queue t k p) = omega arith
kind_small (Grant t p) = omega arith
kind_small (Visit t k p) = omega arith
kind_small (Start t p) = omega arith
kind_small (Stop t p) = omega arith
kind_small (Free t k p) = omega arith
kind_small (Pass t k p g) = omega arith
kind_small (Land t k p) = omega arith
kind_small (Commit t) = omega arith

-- ---- one more
pub one_put : (old new : List Ready) (r : Ready) (l : Label) (u v : List Label) → by_none r ≡ l → AllByRecursion (Low (kind_rank l.act) (ticket_of l.act) (act_number l.act)) u → AllByRecursion (High (kind_rank l.act) (ticket_of l.act) (act_number l.act)) v → map by_none old ≡ in_order (u ++ v)
    → ((low high : List Label) → Parted (map by_none old) (kind_rank l.act) (ticket_of l.act) (act_number l.act) low high → map by_none new ≡ low ++ by_none r ∷ high) → map by_none new ≡ in_order ((u ++ l ∷ []) ++ v)
one_put old new r l u v same low high was put =
    let kind = kind_rank l.act in
    let t = ticket_of l.act in
    let k = act_number l.act in
    let p : Parted (map by_none old) kind t k (lower kind (u ++ v) ++ of_kind kind u) (of_kind kind v ++ upper kind (u ++ v)) =
    subst (λ ls. Parted ls kind t k (lower kind (u ++ v) ++ of_kind kind u) (of_kind kind v ++ upper kind (u ++ v))) (sym was) (parted kind t k (u ++ v) u v (kind_small l.act) (kind_append kind u v) low high) in
    put (lower kind (u ++ v) ++ of_kind kind u) (of_kind kind v ++ upper kind (u ++ v)) p
    ∙ ap (λ x. (lower kind (u ++ v) ++ of_kind kind u) ++ x ∷ (of_kind kind v ++ upper kind (u ++ v))) same
    ∙ sym (one_more u v l (kind_small l.act))

pub none_put : (old : List Ready) (u v : List Label) → map by_none old ≡ in_order (u ++ v) → map by_none old ≡ in_order ((u ++ []) ++ v)
none_put old u v e = e ∙ ap (λ r. in_order (r ++ v)) (sym (append-nil u))

-- ---- what is a slot's own is none of the head's, and goes behind the slots before it, and before those behind it
pub own_inner : (t k : ℕ) (l : Label) → IsOwn t k l → IsInner l
own_inner t k l own = by_number k own.kind
  where
    at : (n : ℕ) → 1 ≤ n → n ≤ 8 → n ≡ kind_rank l.act → IsInner l
    at n low high e = (omega (arith, low, e), omega (arith, high, e))

    by_number : (j : ℕ) → IsIn (kinds_at j) (kind_rank l.act) → IsInner l
    by_number zero (inl e) = at 2 (omega arith) (omega arith) e
    by_number zero (inr (inl e)) = at 4 (omega arith) (omega arith) e
    by_number zero (inr (inr h)) = absurd h
    by_number (suc j) (inl e) = at 1 (omega arith) (omega arith) e
    by_number (suc j) (inr (inl e)) = at 3 (omega arith) (omega arith) e
    by_number (suc j) (inr (inr (inl e))) = at 6 (omega arith) (omega arith) e
    by_number (suc j) (inr (inr (inr (inl e)))) = at 7 (omega arith) (omega arith) e
    by_number (suc j) (inr (inr (inr (inr (inl e))))) = at 8 (omega arith) (omega arith) e
    by_number (suc j) (inr (inr (inr (inr (inr h))))) = absurd h

inner_as : (l x : Label) → IsInner l → kind_rank x.act ≡ kind_rank l.act → IsInner x
inner_as l x h e = let low = h.0 in let high = h.1 in (omega (arith, e, low), omega (arith, e, high))

pub own_goes : (t k : ℕ) (ls u v : List Label) → AllByRecursion (IsOwn t k) ls → Below t k u → From t (k + 1) v → Goes ls u v
own_goes t k [] u v own a b = tt
own_goes t k (l ∷ ls) u v own a b =
    let it = own.0.ticket in
    let is = own.0.number in
    let inner = own_inner t k l own.0 in (
      own.0.worker,
      (
        all_map (Low (kind_rank l.act) (ticket_of l.act) (act_number l.act)) (IsBelow t k) (λ x h e. record { ticket = let up = (h (inner_as l x inner e)).ticket in omega (arith, it, up); number = λ same. let up = (h (inner_as l x inner e)).number (same ∙ it) in omega (arith, is, up) }) u a,
        all_map (High (kind_rank l.act) (ticket_of l.act) (act_number l.act)) (IsFrom t (k + 1)) (λ x h e. record { ticket = let up = (h (inner_as l x inner e)).ticket in omega (arith, it, up); number = λ same. let up = (h (inner_as l x inner e)).number (sym it ∙ same) in omega (arith, is, up) }) v b,
      ),
    )

-- all of a later ticket is behind
pub later_from : (t k : ℕ) (v : List Label) → From (t + 1) 0 v → From t k v
later_from t k v a = all_map (IsFrom t k) (IsFrom (t + 1) 0) (λ x h i. record { ticket = let up = (h i).ticket in omega (arith, up); number = λ same. let up = (h i).ticket in absurd (omega (arith, up, same)) }) v a

pub below_more : (t j k : ℕ) (u : List Label) → j ≤ k → Below t j u → Below t k u
below_more t j k u l a = all_map (IsBelow t k) (IsBelow t j) (λ x h i. record { ticket = (h i).ticket; number = λ same. let up = (h i).number same in omega (arith, up, l) }) u a

pub own_below : (t k : ℕ) (x : List Label) → AllByRecursion (IsOwn t k) x → Below t (k + 1) x
own_below t k x a = all_map (IsBelow t (k + 1)) (IsOwn t k) (λ l h i. record { ticket = let it = h.ticket in omega (arith, it); number = λ same. let is = h.number in omega (arith, is) }) x a

-- ---- what is put for a ticket, one after the other
pub lists_none : (t k : ℕ) (xs : List Ready) → Lists t k xs xs []
lists_none t k xs = record { parts = λ u v a b e. none_put xs u v e }

pub lists_more : (t j k : ℕ) (a b c : List Ready) (x y : List Label) → j ≤ k → Below t k x → Lists t j a b x → Lists t k b c y → Lists t j a c (x ++ y)
lists_more t j k a b c x y l below first second = record {
  parts = λ u v up past e.
      second.parts (u ++ x) v (all_append (IsBelow t k) u x (below_more t j k u l up) below) past (first.parts u v up past e)
      ∙ ap (λ r. in_order (r ++ v)) (append_assoc u x y);
}

pub lists_put : (t k : ℕ) (old new : List Ready) (o : Option program.Label) (x : List Label) → labels_in o ≡ x → AllByRecursion (IsOwn t k) x → ((u v : List Label) → Goes (labels_in o) u v → map by_none old ≡ in_order (u ++ v) → map by_none new ≡ in_order ((u ++ labels_in o) ++ v)) → Lists t k old new x
lists_put t k old new o x same own put = record {
  parts = λ u v up past e.
      put u v (subst (λ ls. Goes ls u v) (sym same) (own_goes t k x u v own up (later_from t (k + 1) v past))) e ∙ ap (λ r. in_order ((u ++ r) ++ v)) same;
}

-- ---- what is taken out of a slot, kind by kind
but_kind : (kind : ℕ) (x : List Label) → of_kind kind (without kind x) ≡ []
but_kind kind [] = refl
but_kind kind (l ∷ x) = by_test (kind_rank l.act == kind) refl (but_kind kind x)
  where
    by_test : (b : Bool) → (kind_rank l.act == kind) ≡ b → of_kind kind (without kind x) ≡ [] → of_kind kind (cond (not b) (l ∷ without kind x) (without kind x)) ≡ []
    by_test true e r = r
    by_test false e r = ap (λ c. cond c (l ∷ of_kind kind (without kind x)) (of_kind kind (without kind x))) e ∙ r

other_kinds : (j kind : ℕ) (x : List Label) → j ≢ kind → of_kind j (without kind x) ≡ of_kind j x
other_kinds j kind [] d = refl
other_kinds j kind (l ∷ x) d = by_test (kind_rank l.act == kind) refl (other_kinds j kind x d)
  where
    by_test : (b : Bool) → (kind_rank l.act == kind) ≡ b → of_kind j (without kind x) ≡ of_kind j x → of_kind j (cond (not b) (l ∷ without kind x) (without kind x)) ≡ cond (kind_rank l.act == j) (l ∷ of_kind j x) (of_kind j x)
    by_test false e r = ap (λ y. cond (kind_rank l.act == j) (l ∷ y) y) r
    by_test true e r = r ∙ sym (ap (λ c. cond c (l ∷ of_kind j x) (of_kind j x)) (differ (kind_rank l.act) j (λ same. d (sym same ∙ number_is (kind_rank l.act) kind e))))

module _ (kind t k : ℕ) (above : 1 ≤ kind) (under : kind ≤ 8) where
  inner_at : (l : Label) → kind_rank l.act ≡ kind → IsInner l
  inner_at l e = (omega (arith, e, above), omega (arith, e, under))

  abbrev Here : Label → Type 0
  Here l = is_slot kind t k l.act ≡ true

  abbrev Elsewhere : Label → Type 0
  Elsewhere l = is_slot kind t k l.act ≡ false

  own_here : (x : List Label) → AllByRecursion (IsOwn t k) x → AllByRecursion Here (of_kind kind x)
  own_here x own = all_filter Here (IsOwn t k) (λ (l : Label). kind_rank l.act == kind) (λ l e h. and_both (kind_rank l.act == kind) ((ticket_of l.act == t) && (act_number l.act == k)) e
      (and_both (ticket_of l.act == t) (act_number l.act == k) (ap (λ n. n == t) h.ticket ∙ number_self t) (ap (λ n. n == k) h.number ∙ number_self k))) x own

  behind_elsewhere : (v : List Label) → From t (k + 1) v → AllByRecursion Elsewhere (of_kind kind v)
  behind_elsewhere v past = all_filter Elsewhere (IsFrom t (k + 1)) (λ (l : Label). kind_rank l.act == kind) (λ l e h. by_ticket l e (h (inner_at l (number_is (kind_rank l.act) kind e))) (number_cases (ticket_of l.act) t)) v past
    where
      by_ticket : (l : Label) → (kind_rank l.act == kind) ≡ true → IsUpTo t (k + 1) (ticket_of l.act) (act_number l.act) → (ticket_of l.act ≡ t) ⊎ ((ticket_of l.act == t) ≡ false) → Elsewhere l
      by_ticket l e h (inl it) = λ i. e i && (same_number (ticket_of l.act) t it i && differ (act_number l.act) k (λ is. let up = h.number (sym it) in omega (arith, up, is)) i)
        where
          same_number : (a b : ℕ) → a ≡ b → (a == b) ≡ true
          same_number a b q = ap (λ n. n == b) q ∙ number_self b
      by_ticket l e h (inr d) = λ i. e i && (d i && (act_number l.act == k))

  above_elsewhere : (ls : List Label) → AllByRecursion Elsewhere (upper kind ls)
  above_elsewhere ls = all_numbered Elsewhere (λ j. of_kind j ls) (suc kind) (10 - suc kind) (λ j low high.
      all_filter Elsewhere (λ l. Unit {0}) (λ (l : Label). kind_rank l.act == j) (λ l e w. ap (λ b. b && ((ticket_of l.act == t) && (act_number l.act == k))) (differ (kind_rank l.act) kind (λ is. let it : kind_rank l.act ≡ j = number_is (kind_rank l.act) j e in omega (arith, is, it, low)))) ls (always ls))

  few_kinds : (x : List Label) → length x ≤ 1 → length (of_kind kind x) ≤ 1
  few_kinds [] few = omega arith
  few_kinds (l ∷ []) few = by_test (kind_rank l.act == kind)
    where
      by_test : (b : Bool) → length (cond b (l ∷ []) []) ≤ 1
      by_test true = omega arith
      by_test false = omega arith
  few_kinds (l ∷ (m ∷ x)) few = absurd (omega (arith, few))

  -- the list in two parts, at the place of what a slot has of the kind
  module _ (ms : List Label) (u x v : List Label) (a : Below t k u) (own : AllByRecursion (IsOwn t k) x) (b : From t (k + 1) v) (e : ms ≡ in_order (u ++ (x ++ v))) where
    abbrev low_kind : List Label
    low_kind = lower kind (u ++ (x ++ v)) ++ of_kind kind u

    abbrev high_kind : List Label
    high_kind = of_kind kind v ++ upper kind (u ++ (x ++ v))

    parted_kind : Parted ms kind t k low_kind (of_kind kind x ++ high_kind)
    parted_kind =
        let ls = u ++ (x ++ v) in
        let small : kind < 10 = omega (arith, under) in
        let kinds_xv : of_kind kind (x ++ v) ++ upper kind ls ≡ of_kind kind x ++ high_kind = ap (λ r. r ++ upper kind ls) (kind_append kind x v) ∙ append_assoc (of_kind kind x) (of_kind kind v) (upper kind ls) in
        let lows : AllByRecursion (Low kind t k) u = all_map (Low kind t k) (IsBelow t k) (λ l h same. h (inner_at l same)) u a in
        let highs : AllByRecursion (High kind t k) (x ++ v) = all_append (High kind t k) x v
        (all_map (High kind t k) (IsOwn t k) (λ l h same. record { ticket = let it = h.ticket in omega (arith, it); number = λ q. let is = h.number in omega (arith, is) }) x own)
        (all_map (High kind t k) (IsFrom t (k + 1)) (λ l h same. record { ticket = (h (inner_at l same)).ticket; number = λ q. let up = (h (inner_at l same)).number q in omega (arith, up) }) v b) in
        subst (λ r. Parted ms kind t k low_kind r) kinds_xv (subst (λ r. Parted r kind t k low_kind (of_kind kind (x ++ v) ++ upper kind ls)) (sym e)
        (parted kind t k ls u (x ++ v) small (kind_append kind u (x ++ v)) lows highs))

    none_high : AllByRecursion Elsewhere high_kind
    none_high = all_append Elsewhere (of_kind kind v) (upper kind (u ++ (x ++ v))) (behind_elsewhere v b) (above_elsewhere (u ++ (x ++ v)))

  pub cuts_kind : (old new : List Ready)
      → ((low own high : List Label) → Parted (map by_none old) kind t k low (own ++ high) → length own ≤ 1 → AllByRecursion (λ (l : Label). is_slot kind t k l.act ≡ true) own → AllByRecursion (λ (l : Label). is_slot kind t k l.act ≡ false) high → map by_none new ≡ low ++ high)
      → CutsKind kind t k old new
  cuts_kind old new cut = record {
    parts = λ u x v a own few b e.
        let small : kind < 10 = omega (arith, under) in
        let z = without kind x in
        let ls = u ++ (x ++ v) in
        let ms = u ++ (z ++ v) in
        let others : (j : ℕ) → j ≢ kind → of_kind j ls ≡ of_kind j ms = λ j d. kind_append j u (x ++ v) ∙ ap (λ r. of_kind j u ++ r) (kind_append j x v ∙ ap (λ r. r ++ of_kind j v) (sym (other_kinds j kind x d)) ∙ sym (kind_append j z v)) ∙ sym (kind_append j u (z ++ v)) in
        let mine : of_kind kind ms ≡ of_kind kind u ++ of_kind kind v = kind_append kind u (z ++ v) ∙ ap (λ r. of_kind kind u ++ r) (kind_append kind z v ∙ ap (λ r. r ++ of_kind kind v) (but_kind kind x)) in
        cut (low_kind (map by_none old) u x v a own b e) (of_kind kind x) (high_kind (map by_none old) u x v a own b e) (parted_kind (map by_none old) u x v a own b e) (few_kinds x few) (own_here x own) (none_high (map by_none old) u x v a own b e)
        ∙ sym (one_kind_less kind ls ms u v small others mine);
  }

  -- where what the slot has is of the kind, nothing else is left of it
  one_kind : (x : List Label) → length x ≤ 1 → of_kind kind x ≢ [] → without kind x ≡ []
  one_kind [] few some = refl
  one_kind (l ∷ []) few some = by_test (kind_rank l.act == kind) refl
    where
      by_test : (b : Bool) → (kind_rank l.act == kind) ≡ b → cond (not (kind_rank l.act == kind)) (l ∷ []) [] ≡ []
      by_test true e = ap (λ c. cond (not c) (l ∷ []) []) e
      by_test false e = absurd (some (ap (λ c. cond c (l ∷ []) []) e))
  one_kind (l ∷ (m ∷ x)) few some = absurd (omega (arith, few))

  pub cuts_slot : (old new : List Ready) → CutsKind kind t k old new
      → ((low own high : List Label) → Parted (map by_none old) kind t k low (own ++ high) → AllByRecursion (λ (l : Label). is_slot kind t k l.act ≡ false) high → own ≢ [])
      → Cuts t k old new
  cuts_slot old new c there = record {
    parts = λ u x v a own few b e.
        let some : of_kind kind x ≢ [] = there (low_kind (map by_none old) u x v a own b e) (of_kind kind x) (high_kind (map by_none old) u x v a own b e) (parted_kind (map by_none old) u x v a own b e) (none_high (map by_none old) u x v a own b e) in
        c.parts u x v a own few b e ∙ ap (λ r. in_order (u ++ (r ++ v))) (one_kind x few some);
  }

-- so many kinds are out
abbrev pub without_all : List ℕ → List Label → List Label
without_all [] x = x
without_all (kind ∷ kinds) x = without_all kinds (without kind x)

pub record Outs (kinds : List ℕ) (t k : ℕ) (old new : List Ready) : Type 0 where
  pub parts : (u x v : List Label) → Below t k u → AllByRecursion (IsOwn t k) x → length x ≤ 1 → From t (k + 1) v → map by_none old ≡ in_order (u ++ (x ++ v)) → map by_none new ≡ in_order (u ++ (without_all kinds x ++ v))

pub outs_first : (t k : ℕ) (xs : List Ready) → Outs [] t k xs xs
outs_first t k xs = record { parts = λ u x v a own few b e. e }

fewer : (kind : ℕ) (x : List Label) → length (without kind x) ≤ length x
fewer kind [] = omega arith
fewer kind (l ∷ x) = by_test (not (kind_rank l.act == kind)) (fewer kind x)
  where
    by_test : (b : Bool) → length (without kind x) ≤ length x → length (cond b (l ∷ without kind x) (without kind x)) ≤ suc (length x)
    by_test true r = omega (arith, r)
    by_test false r = omega (arith, r)

module _ (P : Label → Type 0) where
  all_without : (kind : ℕ) (x : List Label) → AllByRecursion P x → AllByRecursion P (without kind x)
  all_without kind x a = all_filter P P (λ (l : Label). not (kind_rank l.act == kind)) (λ l e h. h) x a

  all_without_all : (kinds : List ℕ) (x : List Label) → AllByRecursion P x → AllByRecursion P (without_all kinds x)
  all_without_all [] x a = a
  all_without_all (kind ∷ kinds) x a = all_without_all kinds (without kind x) (all_without kind x a)

few_without_all : (kinds : List ℕ) (x : List Label) → length (without_all kinds x) ≤ length x
few_without_all [] x = omega arith
few_without_all (kind ∷ kinds) x = let one = fewer kind x in let more = few_without_all kinds (without kind x) in omega (arith, one, more)

without_more : (kinds : List ℕ) (kind : ℕ) (x : List Label) → without_all (kinds ++ kind ∷ []) x ≡ without kind (without_all kinds x)
without_more [] kind x = refl
without_more (k ∷ kinds) kind x = without_more kinds kind (without k x)

pub outs_more : (kinds : List ℕ) (kind t k : ℕ) (old mid new : List Ready) → Outs kinds t k old mid → CutsKind kind t k mid new → Outs (kinds ++ kind ∷ []) t k old new
outs_more kinds kind t k old mid new was cut = record {
  parts = λ u x v a own few b e.
      let less = few_without_all kinds x in
      cut.parts u (without_all kinds x) v a (all_without_all (IsOwn t k) kinds x own) (omega (arith, few, less)) b (was.parts u x v a own few b e)
      ∙ ap (λ y. in_order (u ++ (y ++ v))) (sym (without_more kinds kind x));
}

-- when all kinds that are asked for are out, nothing is left
none_left : (kinds : List ℕ) (x : List Label) → AllByRecursion (λ (l : Label). IsIn kinds (kind_rank l.act)) x → without_all kinds x ≡ []
none_left [] [] a = refl
none_left [] (l ∷ x) a = absurd a.0
none_left (kind ∷ kinds) x a = none_left kinds (without kind x) (all_filter (λ (l : Label). IsIn kinds (kind_rank l.act)) (λ (l : Label). IsIn (kind ∷ kinds) (kind_rank l.act)) (λ (l : Label). not (kind_rank l.act == kind)) (λ l e h. elim h [
  | inl is ↦ absurd (true≢false (sym e ∙ ap (λ b. not b) (ap (λ n. n == kind) (sym is) ∙ number_self kind)))
  | inr more ↦ more
]) x a)

pub outs_last : (t k : ℕ) (old new : List Ready) → Outs (kinds_at k) t k old new → Cuts t k old new
outs_last t k old new o = record {
  parts = λ u x v a own few b e. o.parts u x v a own few b e
      ∙ ap (λ r. in_order (u ++ (r ++ v))) (none_left (kinds_at k) x (all_map (λ (l : Label). IsIn (kinds_at k) (kind_rank l.act)) (IsOwn t k) (λ l h. h.kind) x own));
}

kinds_few : (k : ℕ) → AllByRecursion (λ kind. (1 ≤ kind) × (kind ≤ 8)) (kinds_at k)
kinds_few zero = ((omega arith, omega arith), ((omega arith, omega arith), tt))
kinds_few (suc k) = ((omega arith, omega arith), ((omega arith, omega arith), ((omega arith, omega arith), ((omega arith, omega arith), ((omega arith, omega arith), tt)))))

all_read : (P : ℕ → Type 0) (xs : List ℕ) (i : ℕ) → i < length xs → AllByRecursion P xs → P (get_or xs i 0)
all_read P [] i l a = absurd (omega (arith, l))
all_read P (x ∷ xs) zero l a = a.0
all_read P (x ∷ xs) (suc i) l a = all_read P xs i (omega (arith, l)) a.1

pub kind_few : (k i : ℕ) → i < length (kinds_at k) → (1 ≤ get_or (kinds_at k) i 0) × (get_or (kinds_at k) i 0 ≤ 8)
kind_few k i l = all_read (λ kind. (1 ≤ kind) × (kind ≤ 8)) (kinds_at k) i l (kinds_few k)

-- ---- the head's, which are the first kind and the last
abbrev pub IsFirst : Label → Type 0
IsFirst l = kind_rank l.act ≡ 0

abbrev pub IsLast : Label → Type 0
IsLast l = kind_rank l.act ≡ 9

from_first : (l : Label) → IsUpTo 0 0 (ticket_of l.act) (act_number l.act)
from_first l = record { ticket = omega arith; number = λ e. omega arith }

none_of_kind : (P : Label → Type 0) (k : ℕ) → ((l : Label) → P l → kind_rank l.act ≡ k → ⊥) → (ls : List Label) → AllByRecursion P ls → of_kind k ls ≡ []
none_of_kind P k h [] a = refl
none_of_kind P k h (l ∷ ls) a = ap (λ b. cond b (l ∷ of_kind k ls) (of_kind k ls)) (differ (kind_rank l.act) k (h l a.0)) ∙ none_of_kind P k h ls a.1

module _ (a c b : List Label) (firsts : AllByRecursion IsFirst a) (lasts : AllByRecursion IsLast c) (inner : AllByRecursion IsInner b) where
  -- the Commit is what is past all else
  abbrev pub low_last : List Label
  low_last = lower 9 ((a ++ c) ++ b) ++ of_kind 9 []

  abbrev pub own_last : List Label
  own_last = of_kind 9 ((a ++ c) ++ b) ++ upper 9 ((a ++ c) ++ b)

  pub last_parted : (ls : List Label) → ls ≡ in_order ((a ++ c) ++ b) → Parted ls 9 0 0 low_last own_last
  last_parted ls e = subst (λ xs. Parted xs 9 0 0 low_last own_last) (sym e) (parted 9 0 0 ((a ++ c) ++ b) [] ((a ++ c) ++ b) (omega arith) refl tt (all_map (High 9 0 0) (λ l. Unit {0}) (λ l h k. from_first l) ((a ++ c) ++ b) (always ((a ++ c) ++ b))))

  no_last : of_kind 9 (a ++ b) ≡ []
  no_last = kind_append 9 a b ∙ ap (λ r. r ++ of_kind 9 b) (none_of_kind IsFirst 9 (λ l h e. omega (arith, h, e)) a firsts) ∙ none_of_kind IsInner 9 (λ l h e. omega (arith, h.1, e)) b inner

  but_last : (j : ℕ) → j ≢ 9 → of_kind j ((a ++ c) ++ b) ≡ of_kind j (a ++ b)
  but_last j d =
      kind_append j (a ++ c) b
      ∙ ap (λ r. r ++ of_kind j b) (kind_append j a c ∙ ap (λ r. of_kind j a ++ r) (none_of_kind IsLast j (λ l h e. d (sym e ∙ h)) c lasts) ∙ append-nil (of_kind j a))
      ∙ sym (kind_append j a b)

  pub last_out : (new : List Label) → new ≡ low_last ++ [] → new ≡ in_order (a ++ b)
  last_out new e = e ∙ append-nil low_last ∙ sym (append-nil low_last) ∙ sym (one_kind_less 9 ((a ++ c) ++ b) (a ++ b) [] [] (omega arith) but_last no_last)

  -- and the Admit is what is before
  abbrev pub low_first : List Label
  low_first = lower 1 (a ++ b) ++ of_kind 1 []

  abbrev pub high_first : List Label
  high_first = of_kind 1 (a ++ b) ++ upper 1 (a ++ b)

  pub first_parted : (ls : List Label) → ls ≡ in_order (a ++ b) → Parted ls 1 0 0 low_first high_first
  first_parted ls e = subst (λ xs. Parted xs 1 0 0 low_first high_first) (sym e) (parted 1 0 0 (a ++ b) [] (a ++ b) (omega arith) refl tt (all_map (High 1 0 0) (λ l. Unit {0}) (λ l h k. from_first l) (a ++ b) (always (a ++ b))))

  no_first : of_kind 0 b ≡ []
  no_first = none_of_kind IsInner 0 (λ l h e. omega (arith, h.0, e)) b inner

  but_first : (j : ℕ) → j ≢ 0 → of_kind j (a ++ b) ≡ of_kind j b
  but_first j d = kind_append j a b ∙ ap (λ r. r ++ of_kind j b) (none_of_kind IsFirst j (λ l h e. d (sym e ∙ h)) a firsts)

  pub first_out : (new : List Label) → new ≡ high_first → new ≡ in_order b
  first_out new e = e ∙ sym (one_kind_less 0 (a ++ b) b [] [] (omega arith) but_first no_first)
