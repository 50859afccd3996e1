-- What the fold has at a context: ticket by ticket and segment by segment.
use Rattle.std.proofs.Common.{◌≡◌, ℕ, zero, suc, ◌<◌, ◌≤◌, ◌&&◌, ◌||◌, not, inl, inr, Bool, true, false, Option, Some, None, List, [], ◌∷◌, ◌++◌, refl, sym, ◌∙◌, subst, arith}
use Rattle.std.specs.BTreeSet.{insert_key}
use Rattle.wave_base.specs.declared.path.Step.{Step}
use Rattle.wave_base.specs.declared.path.Path.{Path}
use Rattle.wave_base.specs.Paths.{path_eq, step_cmp, is_above, parent_of}
use Rattle.wave_states.specs.Actors.{Actors, Left, Pause, Go, Down, Back, Over}
use Rattle.wave_theory.proofs.Basics.{bool_cases, clash, path_is}
use Rattle.wave_theory.proofs.Order.{Way, IsWay, visits, rank}
use Rattle.wave_theory.proofs.Ranks.{le_cases, rank_in, rank_out, rank_up_to, comes, entered_later, not_again}

-- a leaf: the fields of a context and the steps to its children
module _ {A F R J : Type 0} (sys : Actors A F R J) where
  -- the segments of a ticket: its actor and its result before each, and the leaves of the tree there; and how many hosts there are
  pub record Course : Type 0 where
    pub actor : ℕ → ℕ → Option A
    pub result : ℕ → ℕ → Option R
    pub leaf : ℕ → ℕ → Path → F × List Step
    pub hosts : ℕ

  module _ (w : Way) (c : Course) where
    -- into a child: `kept` says what is held of the rest
    pub record Enters (t k : ℕ) (s : Step) (peek : Bool) (kept : Path → Bool) : Type 0 where
      pub more : suc k ≤ w.last t
      pub place_is : w.place t (suc k) ≡ w.place t k ++ s ∷ []
      pub fresh_is : w.fresh t (suc k) ≡ not (w.held t k (w.place t k ++ s ∷ []))
      pub held_is : (p : Path) → w.held t (suc k) p ≡ (kept p || (w.fresh t (suc k) && path_eq p (w.place t k ++ s ∷ [])))
      pub steps_old : w.fresh t (suc k) ≡ false → (c.leaf t (suc k) (w.place t k)).1 ≡ (c.leaf t k (w.place t k)).1
      pub steps_new : w.fresh t (suc k) ≡ true → (c.leaf t (suc k) (w.place t k)).1 ≡ insert_key step_cmp (c.leaf t k (w.place t k)).1 s
      pub looks_is : w.fresh t (suc k) ≡ true → w.looks t (w.place t k ++ s ∷ []) ≡ peek
      pub no_result : c.result t (suc k) ≡ None

    pub record Returns (t k : ℕ) : Type 0 where
      pub more : suc k ≤ w.last t
      pub place_is : w.place t (suc k) ≡ parent_of (w.place t k)
      pub not_fresh : w.fresh t (suc k) ≡ false
      pub held_is : (p : Path) → w.held t (suc k) p ≡ w.held t k p
      pub steps_old : (c.leaf t (suc k) (w.place t k)).1 ≡ (c.leaf t k (w.place t k)).1
      pub no_result : c.result t (suc k) ≡ None

    pub record Ends (t k : ℕ) (r : R) : Type 0 where
      pub last_is : k ≡ w.last t
      pub steps_old : (c.leaf t (suc k) (w.place t k)).1 ≡ (c.leaf t k (w.place t k)).1
      pub result_is : c.result t (suc k) ≡ Some r
      pub moves : (q : Path) (g : ℕ) → sys.moved r ≡ Some (q, g) → (q ≡ w.place t k) × (g < c.hosts)
      pub looking : w.looks t (w.place t k) ≡ true → sys.moved r ≡ None

    abbrev pub Follows : ℕ → ℕ → Left A F R → Pause R → Type 0
    Follows t k l (Go s) = Enters t k s (sys.peeks l.actor) (λ p. is_above (w.place t k ++ s ∷ []) p && w.held t k p)
    Follows t k l (Down s) = Enters t k s false (λ p. w.held t k p)
    Follows t k l Back = Returns t k
    Follows t k l (Over r) = Ends t k r

    -- one segment of the ticket
    pub record Segment (t k : ℕ) : Type 0 where
      pub actor : A
      pub actor_is : c.actor t k ≡ Some actor
      pub no_result : c.result t k ≡ None
      pub actor_next : c.actor t (suc k) ≡ Some (sys.segment actor (c.leaf t k (w.place t k)).0 (c.leaf t k (w.place t k)).1).actor
      pub fields_next : (c.leaf t (suc k) (w.place t k)).0 ≡ (sys.segment actor (c.leaf t k (w.place t k)).0 (c.leaf t k (w.place t k)).1).fields
      pub follows : Follows t k (sys.segment actor (c.leaf t k (w.place t k)).0 (c.leaf t k (w.place t k)).1) (sys.segment actor (c.leaf t k (w.place t k)).0 (c.leaf t k (w.place t k)).1).pause
      -- of one that only looks
      pub blind : w.looks t (w.place t k) ≡ true → sys.segment actor (c.leaf t k (w.place t k)).0 (c.leaf t k (w.place t k)).1 ≡ sys.segment actor (c.leaf t k (w.place t k)).0 []
      pub unchanged : w.looks t (w.place t k) ≡ true → c.leaf t (suc k) (w.place t k) ≡ c.leaf t k (w.place t k)
      pub ends : w.looks t (w.place t k) ≡ true → (r : R) × ((sys.segment actor (c.leaf t k (w.place t k)).0 (c.leaf t k (w.place t k)).1).pause ≡ Over r)

    -- the tickets from `low` on are the run's
    pub record IsCourse (low : ℕ) (is_real : ℕ → Type 0) : Type 0 where
      pub chained : (t : ℕ) (p : Path) → c.leaf (suc t) 0 p ≡ c.leaf t (suc (w.last t)) p
      pub own : (t k : ℕ) (p : Path) → k ≤ w.last t → path_eq (w.place t k) p ≡ false → c.leaf t (suc k) p ≡ c.leaf t k p
      pub segment : (t k : ℕ) → is_real t → k ≤ w.last t → Segment t k
      pub is_later : (t : ℕ) → is_real t → low < t

  module _ {w : Way} (law : IsWay w) {c : Course} {low : ℕ} {is_real : ℕ → Type 0} (course : IsCourse w c low is_real) where
    apart : (p q : Path) → (p ≡ q → ⊥) → path_eq p q ≡ false
    apart p q n = elim (bool_cases (path_eq p q)) [ inr e ↦ e | inl e ↦ absurd (n (path_is p q e)) ]

    -- until it is entered a context is as before the ticket
    pub before_entry : (t k : ℕ) (p : Path) → suc k ≤ w.last t → w.entered t k p ≡ false → c.leaf t (suc k) p ≡ c.leaf t 0 p
    before_entry t zero p l e = course.own t zero p (omega arith) (apart _ p (λ z. clash _ (subst (λ q. w.entered t zero q ≡ true) z (law.held_entered t zero (w.place t zero) (law.at_held t zero (omega arith)))) e))
    before_entry t (suc k) p l e =
        let e' : w.entered t k p ≡ false = (elim (bool_cases (w.entered t k p)) [ inr z ↦ z | inl z ↦ absurd (clash _ (law.kept t k p z) e) ]) in
        course.own t (suc k) p (omega arith) (apart _ p (λ z. clash _ (subst (λ q. w.entered t (suc k) q ≡ true) z (law.held_entered t (suc k) (w.place t (suc k)) (law.at_held t (suc k) (omega arith)))) e)) ∙ before_entry t k p (omega arith) e'

    -- once it is given up, it stays
    pub after_exit : (t a b : ℕ) (p : Path) → a ≤ b → b ≤ suc (w.last t) → w.entered t a p ≡ true → w.held t a p ≡ false → (c.leaf t b p ≡ c.leaf t a p) × (w.held t b p ≡ false)
    after_exit t a zero p l m e h = let z : a ≡ 0 = omega arith in (rw z refl, rw z at h)
    after_exit t a (suc b) p l m e h = elim (le_cases a b l) [
      | inr z ↦ (rw z refl, rw z at h)
      | inl k ↦ (let r = after_exit t a b p k (omega arith) e h in (
        course.own t b p (omega arith) (apart _ p (λ z. clash _ (law.at_held t b (omega arith)) (subst (λ q. w.held t b q ≡ false) (sym z) r.1))) ∙ r.0,
        not_again law t b p (omega arith) (entered_later law t a b p k e) r.1,
      ))
    ]

    -- a ticket that doesn't come leaves the context
    passed_by : (t k : ℕ) (p : Path) → k ≤ suc (w.last t) → visits w t p ≡ false → c.leaf t k p ≡ c.leaf t 0 p
    passed_by t zero p l v = refl
    passed_by t (suc k) p l v = course.own t k p (omega arith) (apart _ p (λ z. clash _ (subst (λ q. visits w t q ≡ true) z (comes law t k (w.place t k) (omega arith) (law.held_entered t k (w.place t k) (law.at_held t k (omega arith))))) v)) ∙ passed_by t k p (omega arith) v

    frame : (t : ℕ) (p : Path) → visits w t p ≡ false → c.leaf (suc t) 0 p ≡ c.leaf t 0 p
    frame t p v = course.chained t p ∙ passed_by t (suc (w.last t)) p (omega arith) v

    -- from one ticket to a later one with as many before it
    pub frames : (a b : ℕ) (p : Path) → a ≤ b → rank w p a ≡ rank w p b → c.leaf (suc b) 0 p ≡ c.leaf (suc a) 0 p
    frames a zero p l e = let z : a ≡ 0 = omega arith in rw z refl
    frames a (suc b) p l e = elim (le_cases a b l) [
      | inr z ↦ rw z refl
      | inl k ↦ (elim (bool_cases (visits w (suc b) p)) [
        | inl v ↦ absurd (let x : rank w p a ≤ rank w p b = rank_up_to w p a b k in omega (arith, rank_in w p b v))
        | inr v ↦ frame (suc b) p v ∙ frames a b p k (e ∙ rank_out w p b v)
      ])
    ]

    -- before the segment for which it enters a context that is as before the ticket
    pub fresh_leaf : (t k : ℕ) → k ≤ w.last t → w.fresh t k ≡ true → c.leaf t k (w.place t k) ≡ c.leaf t 0 (w.place t k)
    fresh_leaf t zero l f = refl
    fresh_leaf t (suc k) l f = before_entry t k (w.place t (suc k)) l (law.once t k l f)
