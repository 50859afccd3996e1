-- What is alike is the same: children, held paths, and what a trail tells of a column.
use Rattle.std.proofs.Common.{◌≡◌, ℕ, suc, ◌<◌, ◌≤◌, ◌⊎◌, inl, inr, true, false, Option, Some, None, is_some, List, [], ◌∷◌, length, refl, sym, ◌∙◌, ap, ap₂, subst, arith}
use Rattle.std.specs.Prelude.{cond}
use Rattle.std.specs.Ordering.{is_eq}
use Rattle.std.specs.List.{AllByRecursion}
use Rattle.std.specs.List.Sorted.{IsStrictlySortedBy}
use Rattle.std.specs.BTreeMap.{is_at}
use Rattle.std.specs.declared.cmp.Ordering.{Ordering}
use Rattle.std.specs.declared.cmp.Ordering.TheVariants.{Less, Equal, Greater}
use Rattle.wave_base.specs.declared.path.Step.{Step}
use Rattle.wave_base.specs.declared.path.Path.{Path}
use Rattle.wave_base.specs.declared.children.Child.{Child}
use Rattle.wave_base.specs.Paths.{step_cmp}
use Rattle.wave_base.specs.PathLaws.{step_cmp_total, same_step}
use Rattle.wave_base.specs.Kids.{child_at}
use Rattle.wave_states.specs.States.{Column, Hold, Mark, hold_at, steps_of}
use Rattle.wave_theory.proofs.Basics.{bool_cases, clash, options, none_not}
use Rattle.wave_theory.proofs.Mailed.{none_held}
use Rattle.wave_theory.proofs.Maps.{at_self}
use Rattle.wave_theory.proofs.Tracks.{Trail, Track}

-- lists
cons_head : {X : Type 0} (x y : X) (xs ys : List X) → x ∷ xs ≡ y ∷ ys → x ≡ y
cons_head {X} x y xs ys e = ap (λ (zs : List X). head_or x zs) e
  where
    head_or : X → List X → X
    head_or z [] = z
    head_or z (u ∷ us) = u

cons_tail : {X : Type 0} (x y : X) (xs ys : List X) → x ∷ xs ≡ y ∷ ys → xs ≡ ys
cons_tail {X} x y xs ys e = ap (λ (zs : List X). tail_of zs) e
  where
    tail_of : List X → List X
    tail_of [] = []
    tail_of (u ∷ us) = us

not_nil : {X : Type 0} (x : X) (xs : List X) → [] ≡ x ∷ xs → ⊥
not_nil {X} x xs e = none_not (ap first e)
  where
    first : List X → Option X
    first [] = None
    first (u ∷ us) = Some u

-- nothing is held
pub no_holds : (held : List (Path × Hold)) → ((p : Path) → is_some (hold_at held p) ≡ false) → held ≡ []
no_holds [] h = refl
no_holds (x ∷ held) h = absurd (never (length held) (none_held (x ∷ held) h))
  where
    never : (n : ℕ) → suc n ≡ 0 → ⊥
    never n e = omega (arith, e)

-- children with the same steps in order, each the same child
step_head : (c : Step × Child) (cs : List (Step × Child)) → child_at (c ∷ cs) c.0 ≡ Some c.1
step_head c cs = ap (λ i. cond i (Some c.1) (child_at cs c.0)) (ap is_eq (at_self step_cmp_total same_step c.0))

less_not : Less ≡ Equal → ⊥
less_not e = grind arith

is_equal : (o : Ordering) → is_eq o ≡ true → o ≡ Equal
is_equal Less e = absurd (clash false e refl)
is_equal Equal e = refl
is_equal Greater e = absurd (clash false e refl)

-- a child of those behind a step is behind it
behind : (s : Step) (cs : List (Step × Child)) → AllByRecursion (λ u. step_cmp s u ≡ Less) (steps_of cs) → (st : Step) (d : Child) → child_at cs st ≡ Some d → step_cmp s st ≡ Less
behind s [] h st d e = absurd (none_not e)
behind s (c ∷ cs) h st d e = elim (bool_cases (is_eq (step_cmp st c.0))) [
  | inl z ↦ subst (λ u. step_cmp s u ≡ Less) (sym (same_step st c.0 (is_equal _ z))) h.0
  | inr z ↦ behind s cs h.1 st d (sym (ap (λ i. cond i (Some c.1) (child_at cs st)) z) ∙ e)
]

pub same_children : (cs ds : List (Step × Child)) → steps_of cs ≡ steps_of ds → IsStrictlySortedBy step_cmp (steps_of cs) → ((st : Step) (c d : Child) → child_at cs st ≡ Some c → child_at ds st ≡ Some d → c ≡ d) → cs ≡ ds
unfolding IsStrictlySortedBy
same_children [] [] e o h = refl
same_children [] (d ∷ ds) e o h = absurd (not_nil d.0 (steps_of ds) e)
same_children (c ∷ cs) [] e o h = absurd (not_nil c.0 (steps_of cs) (sym e))
same_children (c ∷ cs) (d ∷ ds) e o h =
    let first : c.0 ≡ d.0 = cons_head c.0 d.0 (steps_of cs) (steps_of ds) e in
    let rest : steps_of cs ≡ steps_of ds = cons_tail c.0 d.0 (steps_of cs) (steps_of ds) e in
    let kid : c.1 ≡ d.1 = h c.0 c.1 d.1 (step_head c cs) (ap (child_at (d ∷ ds)) first ∙ step_head d ds) in
    let off : (ks : List (Step × Child)) (k : Step × Child) (st : Step) (x : Child) → k.0 ≡ c.0 → steps_of ks ≡ steps_of cs → child_at ks st ≡ Some x → child_at (k ∷ ks) st ≡ Some x =
    λ ks k st x ke kse f. ap (λ i. cond i (Some k.1) (child_at ks st)) (apart k.0 ks (subst (λ us. AllByRecursion (λ u. step_cmp k.0 u ≡ Less) us) (sym kse) (subst (λ v. AllByRecursion (λ u. step_cmp v u ≡ Less) (steps_of cs)) (sym ke) o.0)) st x f) ∙ f in
    ap₂ (λ x xs. x ∷ xs) (λ i. (first i, kid i)) (same_children cs ds rest o.1 (λ st x y f k. h st x y (off cs c st x refl refl f) (off ds d st y (sym first) (sym rest) k)))
  where
    apart : (s : Step) (ks : List (Step × Child)) → AllByRecursion (λ u. step_cmp s u ≡ Less) (steps_of ks) → (st : Step) (x : Child) → child_at ks st ≡ Some x → is_at (step_cmp st) s ≡ false
    apart s ks a st x f = elim (bool_cases (is_eq (step_cmp st s))) [
      | inr z ↦ z
      | inl z ↦ absurd (less_not (sym (behind s ks a st x f) ∙ ap (step_cmp s) (same_step st s (is_equal _ z)) ∙ at_self step_cmp_total same_step s))
    ]

-- two trails with the same hosts
pub record SameTrail (t u : Trail) : Type 0 where
  pub last : t.last ≡ u.last
  pub at : (i : ℕ) → i ≤ t.last → t.at i ≡ u.at i

same_mark : (m n : Mark) → m.to ≡ n.to → m.number ≡ n.number → m ≡ n
same_mark m n e f = λ i. record { to = e i; number = f i }

-- both have the entry at the last host: so they have the same marks
module _ {F : Type 0} (c d : Column F) (t u : Trail) (k : Track c t) (l : Track d u) (same : SameTrail t u) (cs : t.stored ≡ true) (ds : u.stored ≡ true) where
  here : t.at t.last ≡ u.at u.last
  here = same.at t.last (upto t.last) ∙ ap u.at same.last
    where
      upto : (n : ℕ) → n ≤ n
      upto n = omega arith

  one_side : (h : ℕ) (m : Mark) → c.gone h ≡ Some m → d.gone h ≡ None → ⊥
  one_side h m e f = (let x = k.mark_is h m e in elim (l.no_mark h f) [
    | inl y ↦ none_not (sym (k.here_no_mark cs) ∙ ap c.gone (here ∙ sym y.1) ∙ e)
    | inr y ↦ y x.0 (subst (λ n. x.0 < n) same.last x.1) (sym (same.at x.0 (less _ _ x.1)) ∙ x.2)
  ])
    where
      less : (a n : ℕ) → a < n → a ≤ n
      less a n q = omega (arith, q)

  both_sides : (h : ℕ) (m n : Mark) → c.gone h ≡ Some m → d.gone h ≡ Some n → m ≡ n
  both_sides h m n e f = (let x = k.mark_is h m e in let y = l.mark_is h n f in
      let z : x.0 ≡ y.0 = elim (compare x.0 y.0) [
        | inl q ↦ q
        | inr q ↦ absurd (elim q [
          | inl r ↦ x.5 y.0 r (subst (λ n. y.0 < n) (sym same.last) y.1) (same.at y.0 (less _ _ (subst (λ n. y.0 < n) (sym same.last) y.1)) ∙ y.2)
          | inr r ↦ y.5 x.0 r (subst (λ n. x.0 < n) same.last x.1) (sym (same.at x.0 (less _ _ x.1)) ∙ x.2)
        ])
      ] in
      same_mark m n (x.4 ∙ same.at (suc x.0) (up _ _ x.1) ∙ ap (λ i. u.at (suc i)) z ∙ sym y.4) (x.3 ∙ ap suc z ∙ sym y.3))
    where
      compare : (a b : ℕ) → (a ≡ b) ⊎ ((a < b) ⊎ (b < a))
      compare a b = grind arith

      less : (a n : ℕ) → a < n → a ≤ n
      less a n q = omega (arith, q)

      up : (a n : ℕ) → a < n → suc a ≤ n
      up a n q = omega (arith, q)

module _ {F : Type 0} (c d : Column F) (t u : Trail) (k : Track c t) (l : Track d u) (same : SameTrail t u) (cs : t.stored ≡ true) (ds : u.stored ≡ true) where
  back : SameTrail u t
  back = record { last = sym same.last; at = λ i q. sym (same.at i (subst (λ n. i ≤ n) (sym same.last) q)) }

  pub same_marks : (h : ℕ) → c.gone h ≡ d.gone h
  same_marks h = elim (options (c.gone h)) [
    | inl e ↦ elim (options (d.gone h)) [
      | inl f ↦ e ∙ sym f
      | inr f ↦ absurd (one_side d c u t l k back ds cs h f.0 f.1 e)
    ]
    | inr e ↦ elim (options (d.gone h)) [
      | inl f ↦ absurd (one_side c d t u k l same cs ds h e.0 e.1 f)
      | inr f ↦ e.1 ∙ ap Some (both_sides c d t u k l same cs ds h e.0 f.0 e.1 f.1) ∙ sym f.1
    ]
  ]

  -- and where each has its entry there, and the entries are the same, the same stores
  pub same_stores : c.store (t.at t.last) ≡ d.store (u.at u.last) → (h : ℕ) → c.store h ≡ d.store h
  same_stores e h = elim (bool_cases (is_some (c.store h))) [
    | inl z ↦ (let x = (k.store_is h z).1 in ap c.store x ∙ e ∙ ap d.store (sym (here c d t u k l same cs ds) ∙ sym x))
    | inr z ↦ elim (bool_cases (is_some (d.store h))) [
      | inl y ↦ absurd (clash _ (subst (λ i. is_some (c.store i) ≡ true) (here c d t u k l same cs ds ∙ sym (l.store_is h y).1) (k.stored_is cs)) z)
      | inr y ↦ empty _ z ∙ sym (empty _ y)
    ]
  ]
    where
      empty : {X : Type 0} (o : Option X) → is_some o ≡ false → o ≡ None
      empty None e = refl
      empty (Some x) e = absurd (clash true refl e)
