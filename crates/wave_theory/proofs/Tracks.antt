-- The trail of one context: the hosts on which it was, its marks, and where an Enter that has followed so many lies.
use Rattle.wave_base.specs.Paths.{path_eq}
use Rattle.wave_base.specs.declared.path.Path.{Path}
use Rattle.std.proofs.Common.{◌≡◌, ◌≢◌, ℕ, suc, ◌<◌, ◌≤◌, ◌⊎◌, inl, inr, nat_eq, nat_lt, Bool, true, false, Option, Some, None, is_some, refl, sym, ◌∙◌, ap, subst, arith}
use Rattle.std.specs.Prelude.{if◌then◌else◌}
use Rattle.std.proofs.lemmas.Bool.Decides.{nat_tests}
use Rattle.wave_states.specs.States.{set, Mark, Column, Entry}
use Rattle.wave_states.specs.Steps.{Route, Deliver, Born, Wait, Forward, route, route_by, with_entry, column_left, column_joined}
use Rattle.wave_theory.proofs.Basics.{bool_cases, clash, some_same, none_not, options, number_cases, not_same, set_at, set_there, path_cases, set_at_path}
use Rattle.wave_theory.proofs.Ranks.{le_cases}

-- host number i of the trail, the number of the last, and whether the entry is in the last one's store or on its way there
pub record Trail : Type 0 where
  pub at : ℕ → ℕ
  pub last : ℕ
  pub stored : Bool

abbrev pub owner : Trail → ℕ
owner t = t.at t.last

pub record Track {F : Type 0} (c : Column F) (t : Trail) : Type 0 where
  pub store_is : (h : ℕ) → is_some (c.store h) ≡ true → (t.stored ≡ true) × (h ≡ t.at t.last)
  pub stored_is : t.stored ≡ true → is_some (c.store (t.at t.last)) ≡ true
  pub neighbours : (i : ℕ) → i < t.last → t.at i ≢ t.at (suc i)
  pub mark_is : (h : ℕ) (m : Mark) → c.gone h ≡ Some m → (n : ℕ) × (n < t.last) × (t.at n ≡ h) × (m.number ≡ suc n) × (m.to ≡ t.at (suc n)) × ((i : ℕ) → n < i → i < t.last → t.at i ≢ h)
  pub no_mark : (h : ℕ) → c.gone h ≡ None → ((t.stored ≡ true) × (h ≡ t.at t.last)) ⊎ ((i : ℕ) → i < t.last → t.at i ≢ h)
  pub here_no_mark : t.stored ≡ true → c.gone (t.at t.last) ≡ None
  pub has_moved : t.stored ≡ false → 0 < t.last

off : {X : Type 0} (f : ℕ → X) (t : ℕ) (x : X) (a : ℕ) → nat_eq t a ≡ false → set nat_eq f t x a ≡ f a
off f t x a e = set_there nat_eq f t x a e

below_ne : (a b : ℕ) → a < b → nat_eq b a ≡ false
below_ne a b l = grind (arith, nat_tests)

-- where an Enter has followed f, its route
pub record Routed (t : Trail) (f : ℕ) (r : Route) : Type 0 where
  pub here : t.stored ≡ true → f ≡ t.last → r ≡ Deliver
  pub wait : t.stored ≡ false → f ≡ t.last → r ≡ Wait
  pub on : f < t.last → (r ≡ Deliver) ⊎ ((n : ℕ) × (f < n) × (n ≤ t.last) × (r ≡ Forward (t.at n)))

by_some : (o : Option Mark) (m : Mark) (f : ℕ) → o ≡ Some m → route_by o f ≡ (if nat_lt f m.number then Forward m.to else Wait)
by_some o m f e = rw e refl

by_none : (o : Option Mark) (f : ℕ) → o ≡ None → route_by o f ≡ (if nat_eq f 0 then Born else Wait)
by_none o f e = rw e refl

-- the entry leaves for another host
abbrev pub sent_on : Trail → ℕ → Trail
sent_on t g = record { at = set nat_eq t.at (suc t.last) g; last = suc t.last; stored = false }

abbrev pub arrived : Trail → Trail
arrived t = record { at = t.at; last = t.last; stored = true }

abbrev pub unborn : ℕ → Trail
unborn h = record { at = λ i. h; last = 0; stored = false }

abbrev pub born : Trail → Trail
born t = record { at = t.at; last = 0; stored = true }

module _ {F : Type 0} where
  route_stored : (c : Column F) (h f : ℕ) → is_some (c.store h) ≡ true → route c h f ≡ Deliver
  route_stored c h f e = rw e refl

  route_else : (c : Column F) (h f : ℕ) → is_some (c.store h) ≡ false → route c h f ≡ route_by (c.gone h) f
  route_else c h f e = rw e refl

  -- of an entry that is there: an Enter that lies at place f of the trail
  pub routed : (c : Column F) (t : Trail) (f : ℕ) → Track c t → f ≤ t.last → Routed t f (route c (t.at f) f)
  routed c t f k l = record {
    here = λ s e. route_stored c (t.at f) f (subst (λ i. is_some (c.store (t.at i)) ≡ true) (sym e) (k.stored_is s));
    wait = λ s e. route_else c (t.at f) f (not_stored s) ∙ (elim (options (c.gone (t.at f))) [
      | inl z ↦ by_none (c.gone (t.at f)) f z ∙ not_born f (subst (λ i. 0 < i) (sym e) (k.has_moved s))
      | inr z ↦ (let m = k.mark_is (t.at f) z.0 z.1 in by_some (c.gone (t.at f)) z.0 f z.1 ∙ not_on f z.0 (omega (arith, m.1, m.3)))
    ]);
    on = λ less. elim (bool_cases (is_some (c.store (t.at f)))) [
      | inl s ↦ inl (route_stored c (t.at f) f s)
      | inr s ↦ elim (options (c.gone (t.at f))) [
        | inl z ↦ absurd (elim (k.no_mark (t.at f) z) [
          | inl v ↦ clash _ (subst (λ h. is_some (c.store h) ≡ true) (sym v.1) (k.stored_is v.0)) s
          | inr v ↦ v f less refl
        ])
        | inr z ↦ (let m = k.mark_is (t.at f) z.0 z.1 in
            let far : f ≤ m.0 = latest f m.0 (λ x. m.5 f x less refl) in
            inr (suc m.0, omega arith, omega (arith, m.1), route_else c (t.at f) f s ∙ by_some (c.gone (t.at f)) z.0 f z.1 ∙ goes_on f z.0 (omega (arith, m.3)) ∙ ap Forward m.4))
      ]
    ];
  }
    where
      not_stored : t.stored ≡ false → is_some (c.store (t.at f)) ≡ false
      not_stored s = elim (bool_cases (is_some (c.store (t.at f)))) [ inr z ↦ z | inl z ↦ absurd (clash _ (k.store_is (t.at f) z).0 s) ]

      not_born : (f : ℕ) → 0 < f → (if nat_eq f 0 then Born else Wait) ≡ Wait
      not_born f l = grind (arith, nat_tests)

      not_on : (f : ℕ) (m : Mark) → m.number ≤ f → (if nat_lt f m.number then Forward m.to else Wait) ≡ Wait
      not_on f m l = grind (arith, nat_tests)

      goes_on : (f : ℕ) (m : Mark) → f < m.number → (if nat_lt f m.number then Forward m.to else Wait) ≡ Forward m.to
      goes_on f m l = grind (arith, nat_tests)

      latest : (f n : ℕ) → (n < f → ⊥) → f ≤ n
      latest f n h = grind arith

  pub depart_track : (c : Column F) (t : Trail) (g : ℕ) → Track c t → t.stored ≡ true → g ≢ t.at t.last → Track (column_left c (t.at t.last) g (suc t.last)) (sent_on t g)
  depart_track c t g k s other = record {
    has_moved = λ e. omega arith;
    store_is = λ h e. absurd (elim (number_cases (t.at t.last) h) [
      | inl z ↦ clash _ e (subst (λ i. is_some (set nat_eq c.store (t.at t.last) None i) ≡ false) z (ap is_some (set_at c.store (t.at t.last) None)))
      | inr z ↦ not_same (t.at t.last) h z (sym (k.store_is h (subst (λ o. is_some o ≡ true) (off c.store (t.at t.last) None h z) e)).1)
    ]);
    stored_is = λ e. absurd (clash false e refl);
    neighbours = λ i l. elim (le_cases i t.last (omega arith)) [
      | inl z ↦ elim (number_cases i t.last) [
        | inl v ↦ λ e. other (sym (set_at t.at (suc t.last) g) ∙ ap (λ j. set nat_eq t.at (suc t.last) g (suc j)) (sym v) ∙ sym e ∙ old i z ∙ ap t.at v)
        | inr v ↦ λ e. k.neighbours i (less i t.last z v) (sym (old i z) ∙ e ∙ old (suc i) (less i t.last z v))
      ]
      | inr z ↦ absurd (omega arith)
    ];
    mark_is = λ h m e. elim (number_cases (t.at t.last) h) [
      | inl z ↦ (let y : record { to = g; number = suc t.last } ≡ m = some_same _ m (sym (set_at c.gone (t.at t.last) (Some (record { to = g; number = suc t.last }))) ∙ subst (λ i. set nat_eq c.gone (t.at t.last) (Some (record { to = g; number = suc t.last })) i ≡ Some m) (sym z) e) in
          (t.last, omega arith, old t.last (omega arith) ∙ z, ap (λ v. v.number) (sym y), ap (λ v. v.to) (sym y) ∙ sym (set_at t.at (suc t.last) g), λ i l l'. absurd (omega arith)))
      | inr z ↦ (let m' = k.mark_is h m (sym (off c.gone (t.at t.last) _ h z) ∙ e) in
          (m'.0, omega (arith, m'.1), old m'.0 (omega (arith, m'.1)) ∙ m'.2, m'.3, m'.4 ∙ sym (old (suc m'.0) (omega (arith, m'.1))), λ i l l'. later h z m'.0 m'.5 i l l'))
    ];
    no_mark = λ h e. inr (λ i l q. elim (number_cases (t.at t.last) h) [
      | inl z ↦ none_not (sym e ∙ subst (λ j. set nat_eq c.gone (t.at t.last) (Some (record { to = g; number = suc t.last })) j ≡ Some (record { to = g; number = suc t.last })) z (set_at c.gone (t.at t.last) _))
      | inr z ↦ elim (k.no_mark h (sym (off c.gone (t.at t.last) _ h z) ∙ e)) [
        | inl v ↦ not_same _ _ z (sym v.1)
        | inr v ↦ later' h z v i l q
      ]
    ]);
    here_no_mark = λ e. absurd (clash false e refl);
  }
    where
      old : (i : ℕ) → i ≤ t.last → set nat_eq t.at (suc t.last) g i ≡ t.at i
      old i l = off t.at (suc t.last) g i (below_ne i (suc t.last) (omega arith))

      less : (i n : ℕ) → i ≤ n → nat_eq i n ≡ false → i < n
      less i n l e = grind (arith, nat_tests)

      later' : (h : ℕ) → nat_eq (t.at t.last) h ≡ false → ((i : ℕ) → i < t.last → t.at i ≢ h) → (i : ℕ) → i < suc t.last → set nat_eq t.at (suc t.last) g i ≡ h → ⊥
      later' h z v i l q = elim (number_cases i t.last) [
        | inl x ↦ not_same _ _ z (ap t.at (sym x) ∙ sym (old i (omega arith)) ∙ q)
        | inr x ↦ v i (less i t.last (omega arith) x) (sym (old i (omega arith)) ∙ q)
      ]

      later : (h : ℕ) → nat_eq (t.at t.last) h ≡ false → (n : ℕ) → ((i : ℕ) → n < i → i < t.last → t.at i ≢ h) → (i : ℕ) → n < i → i < suc t.last → set nat_eq t.at (suc t.last) g i ≡ h → ⊥
      later h z n v i l l' q = elim (number_cases i t.last) [
        | inl x ↦ not_same _ _ z (ap t.at (sym x) ∙ sym (old i (omega arith)) ∙ q)
        | inr x ↦ v i l (less i t.last (omega arith) x) (sym (old i (omega arith)) ∙ q)
      ]

  pub land_track : (c : Column F) (t : Trail) (e : Entry F) → Track c t → t.stored ≡ false → Track (column_joined c (t.at t.last) e) (arrived t)
  land_track c t e k s = record {
    has_moved = λ x. absurd (clash true refl x);
    store_is = λ h x. (
      refl,
      elim (number_cases (t.at t.last) h) [
        | inl z ↦ sym z
        | inr z ↦ absurd (clash _ (k.store_is h (subst (λ o. is_some o ≡ true) (off c.store (t.at t.last) (Some e) h z) x)).0 s)
      ],
    );
    stored_is = λ x. ap is_some (set_at c.store (t.at t.last) (Some e));
    neighbours = k.neighbours;
    mark_is = λ h m x. elim (number_cases (t.at t.last) h) [
      | inl z ↦ absurd (none_not (sym (set_at c.gone (t.at t.last) None) ∙ subst (λ i. set nat_eq c.gone (t.at t.last) None i ≡ Some m) (sym z) x))
      | inr z ↦ k.mark_is h m (sym (off c.gone (t.at t.last) None h z) ∙ x)
    ];
    no_mark = λ h x. elim (number_cases (t.at t.last) h) [
      | inl z ↦ inl (refl, sym z)
      | inr z ↦ elim (k.no_mark h (sym (off c.gone (t.at t.last) None h z) ∙ x)) [
        | inl v ↦ absurd (clash _ v.0 s)
        | inr v ↦ inr v
      ]
    ];
    here_no_mark = λ x. set_at c.gone (t.at t.last) None;
  }

  -- the entry changes where it is
  pub change_track : (c : Column F) (t : Trail) (e : Entry F) → Track c t → t.stored ≡ true → Track (with_entry c (t.at t.last) (Some e)) t
  change_track c t e k s = record {
    has_moved = k.has_moved;
    store_is = λ h x. (
      s,
      elim (number_cases (t.at t.last) h) [
        | inl z ↦ sym z
        | inr z ↦ (k.store_is h (subst (λ o. is_some o ≡ true) (off c.store (t.at t.last) (Some e) h z) x)).1
      ],
    );
    stored_is = λ x. ap is_some (set_at c.store (t.at t.last) (Some e));
    neighbours = k.neighbours;
    mark_is = k.mark_is;
    no_mark = k.no_mark;
    here_no_mark = k.here_no_mark;
  }

  -- an empty column, and what is born in one
  pub record Empty (c : Column F) : Type 0 where
    pub no_entry : (h : ℕ) → c.store h ≡ None
    pub no_marks : (h : ℕ) → c.gone h ≡ None

  pub born_track : (c : Column F) (t : Trail) (e : Entry F) → Empty c → Track (with_entry c (t.at 0) (Some e)) (born t)
  born_track c t e k = record {
    has_moved = λ x. absurd (clash true refl x);
    store_is = λ h x. (
      refl,
      elim (number_cases (t.at 0) h) [
        | inl z ↦ sym z
        | inr z ↦ absurd (clash false (subst (λ o. is_some o ≡ true) (off c.store (t.at 0) (Some e) h z ∙ k.no_entry h) x) refl)
      ],
    );
    stored_is = λ x. ap is_some (set_at c.store (t.at 0) (Some e));
    neighbours = λ i l. absurd (omega arith);
    mark_is = λ h m x. absurd (none_not (sym (k.no_marks h) ∙ x));
    no_mark = λ h x. inr (λ i l. absurd (omega arith));
    here_no_mark = λ x. k.no_marks (t.at 0);
  }

  -- An Enter at place f of the trail whose route is Born: nothing is there yet, as a context that is there has a mark wherever it was.
  pub not_born_again : (c : Column F) (t : Trail) (f : ℕ) → Track c t → f ≤ t.last → route c (t.at f) f ≡ Born → ⊥
  not_born_again c t f k l e = elim (bool_cases (nat_lt f t.last)) [
    | inl z ↦ elim ((routed c t f k l).on (less f t.last z)) [
      | inl v ↦ deliver_not (sym v ∙ e)
      | inr v ↦ forward_not _ (sym v.3 ∙ e)
    ]
    | inr z ↦ elim (bool_cases t.stored) [
      | inl s ↦ deliver_not (sym ((routed c t f k l).here s (same f t.last l z)) ∙ e)
      | inr s ↦ wait_not (sym ((routed c t f k l).wait s (same f t.last l z)) ∙ e)
    ]
  ]
    where
      less : (a b : ℕ) → nat_lt a b ≡ true → a < b
      less a b e = grind (arith, nat_tests)

      same : (a b : ℕ) → a ≤ b → nat_lt a b ≡ false → a ≡ b
      same a b l e = grind (arith, nat_tests)

      deliver_not : Deliver ≡ Born → ⊥
      deliver_not e = grind arith

      wait_not : Wait ≡ Born → ⊥
      wait_not e = grind arith

      forward_not : (g : ℕ) → Forward g ≡ Born → ⊥
      forward_not g e = grind arith

  -- the store that has an entry is the last one's
  pub store_at : (c : Column F) (t : Trail) (h : ℕ) (e : Entry F) → Track c t → c.store h ≡ Some e → (t.stored ≡ true) × (h ≡ t.at t.last)
  store_at c t h e k s = k.store_is h (ap is_some s)

-- hosts of trails
pub housed_set : (n : ℕ) (f : Path → Trail) (p : Path) (r : Trail) → ((q : Path) (i : ℕ) → i ≤ (f q).last → (f q).at i < n) → ((i : ℕ) → i ≤ r.last → r.at i < n) → (q : Path) (i : ℕ) → i ≤ (set path_eq f p r q).last → (set path_eq f p r q).at i < n
housed_set n f p r h k q i l = elim (path_cases p q) [
  | inl d ↦ subst (λ (u : Trail). u.at i < n) (sym (subst (λ a. set path_eq f p r a ≡ r) d (set_at_path f p r))) (k i (subst (λ (u : Trail). i ≤ u.last) (subst (λ a. set path_eq f p r a ≡ r) d (set_at_path f p r)) l))
  | inr d ↦ subst (λ (u : Trail). u.at i < n) (sym (set_there path_eq f p r q d)) (h q i (subst (λ (u : Trail). i ≤ u.last) (set_there path_eq f p r q d) l))
]

pub housed_grown : (n : ℕ) (r : Trail) → ((i : ℕ) → i ≤ r.last → r.at i < n) → (i : ℕ) → i ≤ 0 → r.at i < n
housed_grown n r h i l = h i (omega (arith, l))

pub housed_sent : (n : ℕ) (r : Trail) (to : ℕ) → to < n → ((i : ℕ) → i ≤ r.last → r.at i < n) → (i : ℕ) → i ≤ (sent_on r to).last → (sent_on r to).at i < n
housed_sent n r to m h i l = elim (number_cases (suc r.last) i) [
  | inl e ↦ subst (λ a. a < n) (sym (subst (λ j. set nat_eq r.at (suc r.last) to j ≡ to) e (set_at r.at (suc r.last) to))) m
  | inr e ↦ subst (λ a. a < n) (sym (set_there nat_eq r.at (suc r.last) to i e)) (h i (less_one i r.last l e))
]
  where
    less_one : (i n : ℕ) → i ≤ suc n → nat_eq (suc n) i ≡ false → i ≤ n
    less_one i n l e = grind (arith, nat_tests)
