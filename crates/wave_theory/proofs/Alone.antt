-- An event alone keeps to the tree protocol.
use Rattle.std.proofs.Common.{◌≡◌, ◌≢◌, ℕ, zero, suc, ◌+◌, ◌⊎◌, ◌&&◌, inl, inr, Bool, true, false, Some, None, List, [], ◌∷◌, ◌++◌, length, filter, append_assoc, append-nil, length-append, refl, sym, ◌∙◌, ap, subst, arith}
use Rattle.wave_base.specs.declared.path.Step.{Step}
use Rattle.wave_base.specs.declared.path.Path.{Path}
use Rattle.wave_base.specs.Paths.{path_eq, is_above, parent_of}
use Rattle.wave_base.specs.Tree.{Tree, children_of}
use Rattle.wave_states.specs.Actors.{Left, Pause, Go, Down, Back, Over}
use Rattle.wave_states.specs.Alone.{Alone, has, tree_with, into, back, goes_on, segment_alone, segment_if, next_alone, first_alone}
use Rattle.wave_states.specs.Kinds.{Kind}
use Rattle.wave_states.specs.Owes.{Owes, Keeps, Looks}
use Rattle.wave_theory.proofs.Basics.{bool_cases, clash, none_not, path_is, path_self, and_first, and_second, and_both}
use Rattle.wave_theory.proofs.Paths.{or_is, or_false, or_left, or_right, and_false, above_self, above_more, above_through, above_both, parent_child, above_child, child_not_root, has_append, has_filter, snoc}

root_is : (p : Path) → has ([] ∷ []) p ≡ true → [] ≡ p
root_is [] u = refl
root_is (x ∷ p) u = absurd (clash false u refl)

longer : (d : Path) (s : Step) → length (d ++ s ∷ []) ≡ suc (length d)
longer d s = omega (arith, length-append d (s ∷ []))

module _ {A F R J : Type 0} (kind : Kind A F R J) (owes : Owes kind) where
  -- what holds of an event under way; `base` is the context of its last downgrade
  pub record Stands (x : Alone A F R) (base : Path) : Type 0 where
    pub below : Path
    pub at_is : x.at ≡ base ++ below
    pub ready : kind.may_run x.actor x.at (length below)
    pub held_entered : (p : Path) → has x.held p ≡ true → has x.entered p ≡ true
    pub held_below : (p : Path) → has x.held p ≡ true → is_above base p ≡ true
    pub given_up : (p : Path) → has x.entered p ≡ true → has x.held p ≡ false → is_above base p ≡ false
    pub way_up : (p : Path) → is_above base p ≡ true → is_above p x.at ≡ true → has x.held p ≡ true
    pub closed : (p : Path) → has x.entered p ≡ true → p ≢ [] → has x.entered (parent_of p) ≡ true

  base_above : (x : Alone A F R) (base : Path) → Stands x base → is_above base x.at ≡ true
  base_above x base h = subst (λ p. is_above base p ≡ true) (sym h.at_is) (above_more base h.below)

  -- the context at which it stands is held
  pub at_held : (x : Alone A F R) (base : Path) → Stands x base → has x.held x.at ≡ true
  at_held x base h = h.way_up x.at (base_above x base h) (above_self x.at)

  -- a child that isn't held was never entered
  pub child_new : (x : Alone A F R) (base : Path) (s : Step) → Stands x base → has x.held (x.at ++ s ∷ []) ≡ false → has x.entered (x.at ++ s ∷ []) ≡ false
  child_new x base s h e = elim (bool_cases (has x.entered (x.at ++ s ∷ []))) [
    | inr z ↦ z
    | inl z ↦ absurd (clash _ (above_through base x.at (x.at ++ s ∷ []) (base_above x base h) (above_more x.at (s ∷ []))) (h.given_up (x.at ++ s ∷ []) z e))
  ]

  -- a child call
  down_alone : (x : Alone A F R) (base : Path) (a : A) (f : F) (s : Step) (was : Bool) (h : Stands x base) → kind.may_run a (x.at ++ s ∷ []) (suc (length h.below)) →
      has x.held (x.at ++ s ∷ []) ≡ was → Stands (into x a f (x.at ++ s ∷ []) false x.held was) base
  down_alone x base a f s true h c e = record {
    below = h.below ++ s ∷ [];
    at_is = ap (λ p. p ++ s ∷ []) h.at_is ∙ append_assoc base h.below (s ∷ []);
    ready = subst (kind.may_run a (x.at ++ s ∷ [])) (sym (longer h.below s)) c;
    held_entered = h.held_entered;
    held_below = h.held_below;
    given_up = h.given_up;
    way_up = λ p b u. elim (above_child p x.at s u) [ inl z ↦ rw z e | inr z ↦ h.way_up p b z ];
    closed = h.closed;
  }
  down_alone x base a f s false h c e = record {
    below = h.below ++ s ∷ [];
    at_is = ap (λ p. p ++ s ∷ []) h.at_is ∙ append_assoc base h.below (s ∷ []);
    ready = subst (kind.may_run a (x.at ++ s ∷ [])) (sym (longer h.below s)) c;
    held_entered = λ p u. has_append x.entered q p ∙ (elim (or_is (has x.held p) (path_eq p q) (sym (has_append x.held q p) ∙ u)) [ inl z ↦ or_left _ _ (h.held_entered p z) | inr z ↦ or_right (has x.entered p) _ z ]);
    held_below = λ p u. elim (or_is (has x.held p) (path_eq p q) (sym (has_append x.held q p) ∙ u)) [
      | inr z ↦ subst (λ r. is_above base r ≡ true) (sym (path_is p q z)) (above_through base x.at q (base_above x base h) (above_more x.at (s ∷ [])))
      | inl z ↦ h.held_below p z
    ];
    given_up = λ p u v. let v' = or_false (has x.held p) (path_eq p q) (sym (has_append x.held q p) ∙ v) in elim (or_is (has x.entered p) (path_eq p q) (sym (has_append x.entered q p) ∙ u)) [
      | inr z ↦ absurd (clash _ z v'.1)
      | inl z ↦ h.given_up p z v'.0
    ];
    way_up = λ p b u. has_append x.held q p ∙ (elim (above_child p x.at s u) [
      | inl z ↦ or_right (has x.held p) (path_eq p q) (subst (λ r. path_eq r q ≡ true) (sym z) (path_self q))
      | inr z ↦ or_left (has x.held p) (path_eq p q) (h.way_up p b z)
    ]);
    closed = λ p u n. has_append x.entered q (parent_of p) ∙ (elim (or_is (has x.entered p) (path_eq p q) (sym (has_append x.entered q p) ∙ u)) [
      | inr z ↦ or_left _ (path_eq (parent_of p) q) (subst (λ r. has x.entered (parent_of r) ≡ true) (sym (path_is p q z)) (rw parent_child (h.held_entered x.at (at_held x base h))))
      | inl z ↦ or_left _ (path_eq (parent_of p) q) (h.closed p z n)
    ]);
  }
    where
      q : Path
      q = x.at ++ s ∷ []

  -- a downgrade
  go_alone : (x : Alone A F R) (base : Path) (a : A) (f : F) (s : Step) (peek was : Bool) → Stands x base → kind.may_run a (x.at ++ s ∷ []) 0 →
      has x.held (x.at ++ s ∷ []) ≡ was → Stands (into x a f (x.at ++ s ∷ []) peek (filter (is_above (x.at ++ s ∷ [])) x.held) was) (x.at ++ s ∷ [])
  go_alone x base a f s peek true h c e = record {
    below = [];
    at_is = sym (append-nil (x.at ++ s ∷ []));
    ready = c;
    held_entered = λ p u. h.held_entered p (and_second (is_above (x.at ++ s ∷ []) p) _ (rw has_filter at u));
    held_below = λ p u. and_first (is_above (x.at ++ s ∷ []) p) (has x.held p) (rw has_filter at u);
    given_up = λ p u v. let v' : (is_above (x.at ++ s ∷ []) p && has x.held p) ≡ false = rw has_filter at v in elim (bool_cases (is_above (x.at ++ s ∷ []) p)) [
      | inr z ↦ z
      | inl z ↦ absurd (clash _ (above_through base (x.at ++ s ∷ []) p (above_through base x.at (x.at ++ s ∷ []) (base_above x base h) (above_more x.at (s ∷ []))) z)
          (h.given_up p u (and_false _ _ z v')))
    ];
    way_up = λ p b u. rw has_filter (subst (λ r. (is_above (x.at ++ s ∷ []) r && has x.held r) ≡ true) (above_both (x.at ++ s ∷ []) p b u) (and_both _ _ (above_self (x.at ++ s ∷ [])) e));
    closed = h.closed;
  }
  go_alone x base a f s peek false h c e = record {
    below = [];
    at_is = sym (append-nil q);
    ready = c;
    held_entered = λ p u. has_append x.entered q p ∙ (elim (or_is (has kept p) (path_eq p q) (sym (has_append kept q p) ∙ u)) [
      | inr z ↦ or_right (has x.entered p) _ z
      | inl z ↦ or_left _ (path_eq p q) (h.held_entered p (and_second (is_above q p) _ (rw has_filter at z)))
    ]);
    held_below = λ p u. elim (or_is (has kept p) (path_eq p q) (sym (has_append kept q p) ∙ u)) [
      | inr z ↦ subst (λ r. is_above q r ≡ true) (sym (path_is p q z)) (above_self q)
      | inl z ↦ and_first (is_above q p) (has x.held p) (rw has_filter at z)
    ];
    given_up = λ p u v. let v' = or_false (has kept p) (path_eq p q) (sym (has_append kept q p) ∙ v) in let v'' : (is_above q p && has x.held p) ≡ false = rw has_filter at v'.0 in elim (bool_cases (is_above q p)) [
      | inr z ↦ z
      | inl z ↦ absurd (elim (or_is (has x.entered p) (path_eq p q) (sym (has_append x.entered q p) ∙ u)) [
        | inr y ↦ clash _ y v'.1
        | inl y ↦ clash _ (above_through base q p (above_through base x.at q (base_above x base h) (above_more x.at (s ∷ []))) z) (h.given_up p y (and_false _ _ z v''))
      ])
    ];
    way_up = λ p b u. has_append kept q p ∙ or_right (has kept p) (path_eq p q) (subst (λ r. path_eq r q ≡ true) (above_both q p b u) (path_self q));
    closed = λ p u n. has_append x.entered q (parent_of p) ∙ (elim (or_is (has x.entered p) (path_eq p q) (sym (has_append x.entered q p) ∙ u)) [
      | inr z ↦ or_left _ (path_eq (parent_of p) q) (subst (λ r. has x.entered (parent_of r) ≡ true) (sym (path_is p q z)) (rw parent_child (h.held_entered x.at (at_held x base h))))
      | inl z ↦ or_left _ (path_eq (parent_of p) q) (h.closed p z n)
    ]);
  }
    where
      q : Path
      q = x.at ++ s ∷ []

      kept : List Path
      kept = filter (is_above q) x.held

  -- back from a call
  back_alone : (x : Alone A F R) (base : Path) (a : A) (f : F) (n : ℕ) (h : Stands x base) → length h.below ≡ suc n → kind.may_run a (parent_of x.at) n → Stands (back x a f) base
  back_alone x base a f n h c k = record {
    below = r.0;
    at_is = up;
    ready = subst (kind.may_run a (parent_of x.at)) (one_less n _ (sym c ∙ ap length r.2 ∙ length-append r.0 (r.1 ∷ []))) k;
    held_entered = h.held_entered;
    held_below = h.held_below;
    given_up = h.given_up;
    way_up = λ p b u. h.way_up p b (above_through p (parent_of x.at) x.at u (subst (λ z. is_above (parent_of x.at) z ≡ true) (sym at_split) (rw up (above_more (base ++ r.0) (r.1 ∷ [])))));
    closed = h.closed;
  }
    where
      r : (i : Path) × (s : Step) × (h.below ≡ i ++ s ∷ [])
      r = snoc h.below n c

      at_split : x.at ≡ (base ++ r.0) ++ r.1 ∷ []
      at_split = h.at_is ∙ ap (λ z. base ++ z) r.2 ∙ sym (append_assoc base r.0 (r.1 ∷ []))

      up : parent_of x.at ≡ base ++ r.0
      up = ap parent_of at_split ∙ parent_child (base ++ r.0) r.1

      one_less : (n m : ℕ) → suc n ≡ m + 1 → n ≡ m
      one_less n m e = omega arith

  -- an event alone after any number of segments: under way, or over with nothing held
  pub record Fine (x : Alone A F R) : Type 0 where
    pub held_entered : (p : Path) → has x.held p ≡ true → has x.entered p ≡ true
    pub closed : (p : Path) → has x.entered p ≡ true → p ≢ [] → has x.entered (parent_of p) ≡ true
    pub fitting : (p : Path) → kind.fits p (x.tree.fields p)
    pub peeking : x.peek ≡ true → (x.fresh ≡ true) × (kind.system.peeks x.actor ≡ true)
    pub phase : ((x.result ≡ None) × (base : Path) × Stands x base) ⊎ ((r : R) × (x.result ≡ Some r) × (x.held ≡ []))

  under_way : (x : Alone A F R) (base : Path) → x.result ≡ None → Stands x base → ((p : Path) → kind.fits p (x.tree.fields p)) → (x.peek ≡ true → (x.fresh ≡ true) × (kind.system.peeks x.actor ≡ true)) → Fine x
  under_way x base e h f k = record { held_entered = h.held_entered; closed = h.closed; fitting = f; peeking = k; phase = inl (e, base, h) }

  -- what one segment does
  pub record Moved (x y : Alone A F R) : Type 0 where
    pub fine_then : Fine y
    pub kept : (p : Path) → has x.entered p ≡ true → has y.entered p ≡ true
    pub new : (p : Path) → has y.entered p ≡ true → (has x.entered p ≡ true) ⊎ ((y.result ≡ None) × (y.fresh ≡ true) × (p ≡ y.at))
    pub once : y.result ≡ None → y.fresh ≡ true → has x.entered y.at ≡ false
    pub below : y.result ≡ None → y.fresh ≡ true → parent_of y.at ≡ x.at
    pub not_root : y.result ≡ None → y.fresh ≡ true → y.at ≡ [] → ⊥
    pub still : (p : Path) → has y.held p ≡ true → (has x.held p ≡ true) ⊎ ((y.result ≡ None) × (y.fresh ≡ true) × (p ≡ y.at))

  into_moved : (x : Alone A F R) (base : Path) (a : A) (f : F) (s : Step) (peek was : Bool) (kept : List Path) → Stands x base →
      has x.held (x.at ++ s ∷ []) ≡ was → ((p : Path) → has kept p ≡ true → has x.held p ≡ true) → Fine (into x a f (x.at ++ s ∷ []) peek kept was) →
      Moved x (into x a f (x.at ++ s ∷ []) peek kept was)
  into_moved x base a f s peek true kept h e k fin = record {
    fine_then = fin;
    kept = λ p u. u;
    new = λ p u. inl u;
    once = λ n u. absurd (clash false u refl);
    below = λ n u. absurd (clash false u refl);
    not_root = λ n u. absurd (clash false u refl);
    still = λ p u. inl (k p u);
  }
  into_moved x base a f s peek false kept h e k fin = record {
    fine_then = fin;
    kept = λ p u. has_append x.entered (x.at ++ s ∷ []) p ∙ or_left _ (path_eq p (x.at ++ s ∷ [])) u;
    new = λ p u. elim (or_is (has x.entered p) (path_eq p (x.at ++ s ∷ [])) (sym (has_append x.entered (x.at ++ s ∷ []) p) ∙ u)) [ inr z ↦ inr (refl, refl, path_is _ _ z) | inl z ↦ inl z ];
    once = λ n u. child_new x base s h e;
    below = λ n u. parent_child x.at s;
    not_root = λ n u. child_not_root x.at s;
    still = λ p u. elim (or_is (has kept p) (path_eq p (x.at ++ s ∷ [])) (sym (has_append kept (x.at ++ s ∷ []) p) ∙ u)) [ inr z ↦ inr (refl, refl, path_is _ _ z) | inl z ↦ inl (k p z) ];
  }

  into_none : (x : Alone A F R) (a : A) (f : F) (q : Path) (peek was : Bool) (kept : List Path) → (into x a f q peek kept was).result ≡ None
  into_none x a f q peek true kept = refl
  into_none x a f q peek false kept = refl

  into_peek : (x : Alone A F R) (a : A) (f : F) (q : Path) (peek was : Bool) (kept : List Path) → (peek ≡ true → kind.system.peeks a ≡ true) → (into x a f q peek kept was).peek ≡ true →
      ((into x a f q peek kept was).fresh ≡ true) × (kind.system.peeks (into x a f q peek kept was).actor ≡ true)
  into_peek x a f q peek true kept k e = absurd (clash false e refl)
  into_peek x a f q peek false kept k e = (refl, k e)

  -- the fields that a segment leaves fit
  put_fits : (x : Alone A F R) (f : F) → ((p : Path) → kind.fits p (x.tree.fields p)) → kind.fits x.at f → (p : Path) → kind.fits p ((tree_with x f).fields p)
  put_fits x f h k p = elim (bool_cases (path_eq x.at p)) [
    | inl e ↦ rw e (subst (λ q. kind.fits q f) (path_is x.at p e) k)
    | inr e ↦ rw e (h p)
  ]

  into_fits : (x : Alone A F R) (a : A) (f : F) (q : Path) (peek was : Bool) (kept : List Path) → ((p : Path) → kind.fits p ((tree_with x f).fields p)) → (p : Path) → kind.fits p ((into x a f q peek kept was).tree.fields p)
  into_fits x a f q peek true kept h p = h p
  into_fits x a f q peek false kept h p = h p

  pub step_moved : (x : Alone A F R) → Fine x → x.result ≡ None → Moved x (next_alone kind.system x)
  step_moved x fin none = elim fin.phase [
    | inr z ↦ absurd (none_not (sym none ∙ z.1))
    | inl z ↦ subst (λ r. Moved x (segment_if kind.system x r)) (sym none) (go L.pause refl z.1 z.2)
  ]
    where
      L : Left A F R
      L = segment_alone kind.system x

      a : A
      a = L.actor

      f : F
      f = L.fields

      fitted : (base : Path) → Stands x base → (p : Path) → kind.fits p ((tree_with x f).fields p)
      fitted base h = put_fits x f fin.fitting (owes.kept x.actor x.at (length h.below) (x.tree.fields x.at) (children_of x.tree x.at) h.ready (fin.fitting x.at))

      keeps : (y : Pause R) → (segment_alone kind.system x).pause ≡ y → (base : Path) (h : Stands x base) → Keeps kind (segment_alone kind.system x).actor x.at (length h.below) y
      keeps y e base h = subst (Keeps kind (segment_alone kind.system x).actor x.at (length h.below)) e (owes.keeps x.actor x.at (length h.below) (x.tree.fields x.at) (children_of x.tree x.at) h.ready (fin.fitting x.at))

      up : (n : ℕ) → Keeps kind a x.at n Back → (m : ℕ) × (n ≡ suc m) × kind.may_run a (parent_of x.at) m
      up zero k = absurd k
      up (suc m) k = (m, refl, k)

      go : (y : Pause R) → (segment_alone kind.system x).pause ≡ y → (base : Path) → Stands x base → Moved x (goes_on kind.system x (segment_alone kind.system x).actor (segment_alone kind.system x).fields y)
      go (Go s) e base h = into_moved x base a f s (kind.system.peeks a) (has x.held (x.at ++ s ∷ [])) (filter (is_above (x.at ++ s ∷ [])) x.held) h refl
          (λ p u. and_second (is_above (x.at ++ s ∷ []) p) _ (rw has_filter at u))
          (under_way _ (x.at ++ s ∷ []) (into_none x a f _ _ _ _) (go_alone x base a f s _ _ h (keeps (Go s) e base h).1 refl) (into_fits x a f _ _ _ _ (fitted base h)) (into_peek x a f _ _ _ _ (λ u. u)))
      go (Down s) e base h = into_moved x base a f s false (has x.held (x.at ++ s ∷ [])) x.held h refl (λ p u. u)
          (under_way _ base (into_none x a f _ _ _ _) (down_alone x base a f s _ h (keeps (Down s) e base h) refl) (into_fits x a f _ _ _ _ (fitted base h)) (into_peek x a f _ _ _ _ (λ u. absurd (clash false u refl))))
      go Back e base h = (let b = up (length h.below) (keeps Back e base h) in record {
        fine_then = under_way _ base refl (back_alone x base a f b.0 h b.1 b.2) (fitted base h) (λ u. absurd (clash false u refl));
        kept = λ p u. u;
        new = λ p u. inl u;
        once = λ n u. absurd (clash false u refl);
        below = λ n u. absurd (clash false u refl);
        not_root = λ n u. absurd (clash false u refl);
        still = λ p u. inl u;
      })
      go (Over r) e base h = record {
        fine_then = record { held_entered = λ p u. absurd (clash false u refl); closed = h.closed; fitting = fitted base h; peeking = λ u. absurd (clash false u refl); phase = inr (r, refl, refl) };
        kept = λ p u. u;
        new = λ p u. inl u;
        once = λ n u. absurd (clash false u refl);
        below = λ n u. absurd (clash false u refl);
        not_root = λ n u. absurd (clash false u refl);
        still = λ p u. absurd (clash false u refl);
      }

  -- the first one
  pub first_fine : (j : J) (t : ℕ) (tree : Tree F) → kind.is_job j → ((p : Path) → kind.fits p (tree.fields p)) → Fine (first_alone kind.system j t tree)
  first_fine j t tree k f = under_way (first_alone kind.system j t tree) [] refl (record {
    below = [];
    at_is = refl;
    ready = owes.first j t k;
    held_entered = λ p u. u;
    held_below = λ p u. refl;
    given_up = λ p u v. absurd (clash _ u v);
    way_up = λ p b u. at_root p u;
    closed = λ p u n. absurd (n (sym (root_is p u)));
  }) f (λ u. (refl, u))
    where
      at_root : (p : Path) → is_above p [] ≡ true → has ([] ∷ []) p ≡ true
      at_root [] u = refl
      at_root (s ∷ p) u = absurd (clash false u refl)

  pub root_only : (j : J) (t : ℕ) (tree : Tree F) (p : Path) → has (first_alone kind.system j t tree).entered p ≡ true → p ≡ []
  root_only j t tree p u = sym (root_is p u)

  -- what only looks is over after its segment, and leaves its context
  pub look_ends : (x : Alone A F R) → Fine x → x.result ≡ None → x.peek ≡ true → (r : R) × (segment_alone kind.system x).pause ≡ Over r × ((segment_alone kind.system x).fields ≡ x.tree.fields x.at) × (kind.system.moved r ≡ None)
  look_ends x fin none e = elim fin.phase [
    | inr z ↦ absurd (none_not (sym none ∙ z.1))
    | inl z ↦ (let l : Looks kind x.actor (x.tree.fields x.at) (children_of x.tree x.at) = owes.looks x.actor x.at (length (z.2).below) (x.tree.fields x.at) (children_of x.tree x.at) (z.2).ready (fin.fitting x.at) (fin.peeking e).1 in
        (l.result, l.over, l.same, l.stays))
  ]
