-- An event enters a context only while it holds the one above, and none twice.
use Rattle.std.proofs.Common.{◌≡◌, ℕ, zero, suc, ◌≤◌, ◌⊎◌, inl, inr, List, [], ◌∷◌, ◌++◌, ◌||◌, ◌&&◌, Bool, true, false, Some, None, refl, ap, sym, subst, ◌∙◌, arith}
use Rattle.std.specs.List.{filter, list_any}
use Rattle.std.proofs.lemmas.List.Folds.{list_any-append}
use Rattle.wave_base.specs.declared.call.Call.{Call}
use Rattle.wave_base.specs.declared.outcome.EventResult.{EventResult}
use Rattle.wave_base.specs.declared.path.Path.{Path}
use Rattle.wave_base.specs.declared.path.Step.{Step}
use Rattle.wave_base.specs.declared.pause.Pause.{Pause as Halt}
use Rattle.wave_base.specs.declared.pause.Pause.TheVariants as halt
use Rattle.wave_base.specs.Paths.{path_eq, is_above, parent_of}
use Rattle.wave_base.specs.PathLaws.{path_eq_decides, is_above_append}
use Rattle.wave_base.specs.Tree.{Tree}
use Rattle.downgrade_views.specs.Levels.{Level}
use Rattle.service_code.specs.declared.program.Program.{Program}
use Rattle.service_verify.specs.Boxes.{Box, first_box}
use Rattle.service_verify.specs.Copies.{Trip, trip_with, trip_if, next_trip, trip_after, first_trip}
use Rattle.service_verify.specs.Fit.{IsFit}
use Rattle.service_verify.specs.Points.{IsVerified}
use Rattle.service_verify.specs.Standing.{HasFields, HasTree, Leaves, Stands}
use Rattle.service_verify.specs.Steps.{is_held}
use Rattle.service_verify.specs.Tours.{Tour, tour_at_pause, tour_after, first_tour}
use Rattle.service_verify.specs.Tours as tour
use Rattle.service_verify.proofs.Copying.{copies_same}
use Rattle.service_verify.proofs.Locals.{begins}
use Rattle.service_verify.proofs.Touring.{put_has}
use Rattle.code_actor.specs.CodeActors.{Fields, IsJob}
use Rattle.code_actor.specs.Locks.{has_entered, holds, Locks}
use Rattle.code_actor.proofs.Above.{or_is, or_left, or_right, and_second, and_both, not_both, same_self, above_self, above_through, parent_child, up, up_above}
use Rattle.code_actor.proofs.Following.{event_of, trip_to, trip_stays}
use Rattle.code_actor.proofs.Held.{held_too, held_above}
use Rattle.code_actor.proofs.Holding
use Rattle.code_actor.proofs.Holding.{with_held}
use Rattle.code_actor.proofs.Segmented.{Runs, segment_runs}

-- At a path, with so many calls open: all contexts of the open calls are held, from where the first call was made. What is held
-- was entered; and what was entered from there downwards is held.
pub record Locked (p : Path) (n : ℕ) (held entered : List Path) : Type 0 where
  pub way : (k : ℕ) → k ≤ n → is_held held (up k p) ≡ true
  pub known : (q : Path) → is_held held q ≡ true → list_any (path_eq q) entered ≡ true
  pub kept : (q : Path) → list_any (path_eq q) entered ≡ true → is_above (up n p) q ≡ true → is_held held q ≡ true

-- into a child
module _ (p : Path) (n : ℕ) (held entered : List Path) (l : Locked p n held entered) (s : Step) where
  -- what is not held below was not entered
  pub new : is_held held (p ++ s ∷ []) ≡ false → list_any (path_eq (p ++ s ∷ [])) entered ≡ false
  new out = not_both _ (λ e. clash (l.kept (p ++ s ∷ []) e (above_through (up n p) p (p ++ s ∷ []) (up_above n p) (is_above_append p (s ∷ [])))))
    where
      clash : is_held held (p ++ s ∷ []) ≡ true → ⊥
      clash e = let f = sym e ∙ out in cc

  -- the child among what is entered, where it is new and where it was held
  module _ (more : List Path) (child : list_any (path_eq (p ++ s ∷ [])) more ≡ true) (old : (r : Path) → list_any (path_eq r) entered ≡ true → list_any (path_eq r) more ≡ true) (only : (r : Path) → list_any (path_eq r) more ≡ true → (path_eq r (p ++ s ∷ []) || list_any (path_eq r) entered) ≡ true) where
    same : (r : Path) → path_eq r (p ++ s ∷ []) ≡ true → list_any (path_eq r) more ≡ true
    same r e = subst (λ r. list_any (path_eq r) more ≡ true) (sym ((path_eq_decides r (p ++ s ∷ [])).0 e)) child

    known_more : (r : Path) → (path_eq r (p ++ s ∷ []) || is_held held r) ≡ true → list_any (path_eq r) more ≡ true
    known_more r e = by (or_is _ _ e)
      where
        by : (path_eq r (p ++ s ∷ []) ≡ true) ⊎ (is_held held r ≡ true) → list_any (path_eq r) more ≡ true
        by (inl e) = same r e
        by (inr e) = old r (l.known r e)

    kept_more : (r : Path) → list_any (path_eq r) more ≡ true → is_above (up n p) r ≡ true → (path_eq r (p ++ s ∷ []) || is_held held r) ≡ true
    kept_more r e above = by (or_is _ _ (only r e))
      where
        by : (path_eq r (p ++ s ∷ []) ≡ true) ⊎ (list_any (path_eq r) entered ≡ true) → (path_eq r (p ++ s ∷ []) || is_held held r) ≡ true
        by (inl e) = or_left _ _ e
        by (inr e) = or_right _ _ (l.kept r e above)

    -- for a call
    pub down : (held' : List Path) → held' ≡ with_held held (p ++ s ∷ []) → Locked (p ++ s ∷ []) (suc n) held' more
    down held' is = record { way = way; known = λ r e. known_more r (sym (holds_is r) ∙ e); kept = λ r e above. holds_is r ∙ kept_more r e (subst (λ b. is_above (up n b) r ≡ true) (parent_child p s) above) }
      where
        holds_is : (r : Path) → is_held held' r ≡ (path_eq r (p ++ s ∷ []) || is_held held r)
        holds_is r = ap (λ ps. is_held ps r) is ∙ held_too held (p ++ s ∷ []) r

        way : (k : ℕ) → k ≤ suc n → is_held held' (up k (p ++ s ∷ [])) ≡ true
        way zero le = holds_is (p ++ s ∷ []) ∙ or_left _ _ (same_self (p ++ s ∷ []))
        way (suc k) le = ap (λ b. is_held held' (up k b)) (parent_child p s) ∙ holds_is (up k p) ∙ or_right _ _ (l.way k (omega (arith, le)))

    -- for good
    pub go : n ≡ 0 → (held' : List Path) → held' ≡ filter (is_above (p ++ s ∷ [])) (with_held held (p ++ s ∷ [])) → Locked (p ++ s ∷ []) 0 held' more
    go none held' is = record { way = way; known = λ r e. known_more r (and_second _ _ (sym (holds_is r) ∙ e)); kept = λ r e above. holds_is r ∙ and_both _ _ above (kept_more r e (base r above)) }
      where
        holds_is : (r : Path) → is_held held' r ≡ (is_above (p ++ s ∷ []) r && (path_eq r (p ++ s ∷ []) || is_held held r))
        holds_is r = ap (λ ps. is_held ps r) is ∙ held_above (with_held held (p ++ s ∷ [])) (p ++ s ∷ []) r ∙ ap (λ b. is_above (p ++ s ∷ []) r && b) (held_too held (p ++ s ∷ []) r)

        base : (r : Path) → is_above (p ++ s ∷ []) r ≡ true → is_above (up n p) r ≡ true
        base r above = ap (λ m. is_above (up m p) r) none ∙ above_through p (p ++ s ∷ []) r (is_above_append p (s ∷ [])) above

        way : (k : ℕ) → k ≤ 0 → is_held held' (up k (p ++ s ∷ [])) ≡ true
        way zero le = holds_is (p ++ s ∷ []) ∙ and_both _ _ (above_self (p ++ s ∷ [])) (or_left _ _ (same_self (p ++ s ∷ [])))
        way (suc k) le = absurd (omega (arith, le))

-- the event may hold, after it went into a child, no more than that child and what it held
module _ (held : List Path) (q : Path) where
  pub down_only : (held' : List Path) → held' ≡ with_held held q → (r : Path) → is_held held' r ≡ true → (path_eq r q || is_held held r) ≡ true
  down_only held' is r e = sym (held_too held q r) ∙ ap (λ ps. is_held ps r) (sym is) ∙ e

  pub go_only : (held' : List Path) → held' ≡ filter (is_above q) (with_held held q) → (r : Path) → is_held held' r ≡ true → (path_eq r q || is_held held r) ≡ true
  go_only held' is r e = sym (held_too held q r) ∙ and_second (is_above q r) _ (sym (held_above (with_held held q) q r) ∙ ap (λ ps. is_held ps r) (sym is) ∙ e)

entered_more : (entered : List Path) (q r : Path) → list_any (path_eq r) (entered ++ q ∷ []) ≡ (list_any (path_eq r) entered || (path_eq r q || false))
entered_more entered q r = list_any-append (path_eq r) entered (q ∷ [])

or_none : (a b : Bool) → (a || (b || false)) ≡ true → (b || a) ≡ true
or_none a b e = grind arith

module _ (program : Program) (fit : IsFit program) (verified : IsVerified program) where
  -- it stands, and holds its way
  record Going (p : Path) (n : ℕ) (t : Trip) : Type 0 where
    stands : Stands program p n (event_of t)
    tree : HasTree program t.tour.tree
    running : t.tour.result ≡ None
    locked : Locked p n t.tour.box.held t.tour.entered

  -- it is over, or goes on
  data Locking (t : Trip) : Type 0 where
    over : (r : EventResult) → t.tour.result ≡ Some r → Locking t
    on : (p : Path) (n : ℕ) → Going p n t → Locking t

  module _ (p : Path) (n : ℕ) (t : Trip) (g : Going p n t) where
    abbrev held : List Path
    held = t.tour.box.held

    here : t.tour.box.path ≡ p
    here = g.stands.box.path

    holds_here : holds t.tour t.tour.box.path ≡ true
    holds_here = ap (is_held t.tour.box.held) here ∙ g.locked.way 0 (omega arith)

    module _ (b : Box) (levels : List Level) (left : Fields) (has_left : HasFields program.shape p left) where
      tree_has : HasTree program (tour.tree_with t.tour left)
      tree_has = put_has program fit verified t.tour.tree t.tour.box.path left g.tree (subst (λ q. HasFields program.shape q left) (sym here) has_left)

      -- into a child
      module _ (s : Step) (m : ℕ) (stands : Stands program (p ++ s ∷ []) m (record { box = b; levels = levels }))
          (lock : (more : List Path) → list_any (path_eq (p ++ s ∷ [])) more ≡ true → ((r : Path) → list_any (path_eq r) t.tour.entered ≡ true → list_any (path_eq r) more ≡ true) → ((r : Path) → list_any (path_eq r) more ≡ true → (path_eq r (p ++ s ∷ []) || list_any (path_eq r) t.tour.entered) ≡ true) → Locked (p ++ s ∷ []) m b.held more)
          (only : (r : Path) → is_held b.held r ≡ true → (path_eq r (p ++ s ∷ []) || is_held t.tour.box.held r) ≡ true) where
        abbrev q : Path
        q = p ++ s ∷ []

        at : b.path ≡ q
        at = stands.box.path

        abbrev Into : Bool → Type 0
        Into c = Locks t.tour (tour.into t.tour b left c) × Locking (record { tour = tour.into t.tour b left c; levels = levels })

        goes_into : (c : Bool) → is_held t.tour.box.held q ≡ c → Into c
        goes_into true e = (record { here = holds_here; enters = inl refl; held = λ r h. inl (was r (or_is _ _ (only r h))) }, on q m (record { stands = stands; tree = tree_has; running = refl; locked = lock t.tour.entered (g.locked.known q e) (λ r e. e) (λ r e. or_right _ _ e) }))
          where
            was : (r : Path) → (path_eq r q ≡ true) ⊎ (is_held t.tour.box.held r ≡ true) → is_held t.tour.box.held r ≡ true
            was r (inl same) = subst (λ r. is_held t.tour.box.held r ≡ true) (sym ((path_eq_decides r q).0 same)) e
            was r (inr h) = h
        goes_into false e = (record { here = holds_here; enters = inr (s, fresh, entered_is); held = λ r h. was r (or_is _ _ (only r h)) }, on q m (record { stands = stands; tree = tree_has; running = refl; locked = lock (t.tour.entered ++ b.path ∷ []) child (λ r e. entered_more t.tour.entered b.path r ∙ or_left _ _ e) (λ r e. ap (λ x. path_eq r x || list_any (path_eq r) t.tour.entered) (sym at) ∙ or_none _ _ (sym (entered_more t.tour.entered b.path r) ∙ e)) }))
          where
            is_new : list_any (path_eq q) t.tour.entered ≡ false
            is_new = new p n t.tour.box.held t.tour.entered g.locked s e

            fresh : has_entered t.tour (t.tour.box.path ++ s ∷ []) ≡ false
            fresh = ap (λ r. has_entered t.tour (r ++ s ∷ [])) here ∙ is_new

            entered_is : t.tour.entered ++ b.path ∷ [] ≡ t.tour.entered ++ (t.tour.box.path ++ s ∷ []) ∷ []
            entered_is = ap (λ r. t.tour.entered ++ r ∷ []) (at ∙ ap (λ r. r ++ s ∷ []) (sym here))

            child : list_any (path_eq q) (t.tour.entered ++ b.path ∷ []) ≡ true
            child = entered_more t.tour.entered b.path q ∙ or_right _ _ (or_left _ _ (ap (path_eq q) at ∙ same_self q))

            was : (r : Path) → (path_eq r q ≡ true) ⊎ (is_held t.tour.box.held r ≡ true) → (holds t.tour r ≡ true) ⊎ ((has_entered t.tour r ≡ false) × (list_any (path_eq r) (t.tour.entered ++ b.path ∷ []) ≡ true))
            was r (inl same) = inr (subst (λ r. (has_entered t.tour r ≡ false) × (list_any (path_eq r) (t.tour.entered ++ b.path ∷ []) ≡ true)) (sym ((path_eq_decides r q).0 same)) (is_new, child))
            was r (inr h) = inl h

        into_child : Into (is_held t.tour.box.held b.path)
        into_child = goes_into (is_held t.tour.box.held b.path) (ap (is_held t.tour.box.held) (sym at))

      by : (why : Halt) → Leaves program p n (record { box = b; levels = levels }) why → Holding.Pauses t.tour.box.path t.tour.box.held b why → Locks t.tour (tour_at_pause t.tour b left why) × Locking (trip_to t b levels left why)
      by (halt.Go s) l h = into_child s 0 l.1 (λ more child old only. go p n t.tour.box.held t.tour.entered g.locked s more child old only l.0 b.held is) (go_only t.tour.box.held (p ++ s ∷ []) b.held is)
        where
          is : b.held ≡ filter (is_above (p ++ s ∷ [])) (with_held t.tour.box.held (p ++ s ∷ []))
          is = h ∙ ap (λ r. filter (is_above (r ++ s ∷ [])) (with_held t.tour.box.held (r ++ s ∷ []))) here
      by (halt.Down s) l h = into_child s (suc n) l (λ more child old only. down p n t.tour.box.held t.tour.entered g.locked s more child old only b.held is) (down_only t.tour.box.held (p ++ s ∷ []) b.held is)
        where
          is : b.held ≡ with_held t.tour.box.held (p ++ s ∷ [])
          is = h ∙ ap (λ r. with_held t.tour.box.held (r ++ s ∷ [])) here
      by halt.Back l h = (record { here = holds_here; enters = inl refl; held = λ r e. inl (ap (λ ps. is_held ps r) (sym h) ∙ e) }, up_from n l g.locked)
        where
          up_from : (n : ℕ) → Leaves program p n (record { box = b; levels = levels }) halt.Back → Locked p n t.tour.box.held t.tour.entered → Locking (trip_to t b levels left halt.Back)
          up_from zero l k = absurd l
          up_from (suc m) l k = on (parent_of p) m (record { stands = l; tree = tree_has; running = refl; locked = subst (λ ps. Locked (parent_of p) m ps t.tour.entered) (sym h) (record { way = λ j le. k.way (suc j) (omega (arith, le)); known = k.known; kept = k.kept }) })
      by (halt.Over r) l h = (record { here = holds_here; enters = inl refl; held = λ q e. inl (ap (λ ps. is_held ps q) (sym h.1) ∙ e) }, over r refl)

    has_fields : HasFields program.shape p (t.tour.tree.fields t.tour.box.path)
    has_fields = subst (λ q. HasFields program.shape p (t.tour.tree.fields q)) (sym here) (g.tree p)

    a : Runs program fit verified p n (event_of t) (t.tour.tree.fields t.tour.box.path)
    a = segment_runs program fit verified p n (event_of t) (t.tour.tree.fields t.tour.box.path) g.stands has_fields

    locks_on : Locks t.tour (next_trip program t).tour × Locking (next_trip program t)
    locks_on = subst (λ u. Locks t.tour u.tour × Locking u) (sym (ap (trip_if program t) g.running ∙ ap (trip_with t) a.is_left))
        (by a.left.event.box a.left.event.levels a.left.fields a.has a.left.pause a.leaves a.holds)

  next_locking : (t : Trip) → Locking t → Locking (next_trip program t)
  next_locking t (over r e) = subst Locking (sym (trip_stays program fit verified t r e)) (over r e)
  next_locking t (on p n g) = (locks_on p n t g).1

  next_locks : (t : Trip) → Locking t → t.tour.result ≡ None → Locks t.tour (next_trip program t).tour
  next_locks t (over r e) running = absurd (clash (sym running ∙ e))
    where
      clash : None ≡ Some r → ⊥
      clash e = cc
  next_locks t (on p n g) running = (locks_on p n t g).0

  module _ (call : Call) (tree : Tree Fields) (is_job : IsJob program call) (has : HasTree program tree) where
    first_locking : Locking (first_trip program call tree)
    unfolding first_box
    first_locking = on [] 0 (record { stands = begins program fit verified call is_job.0 is_job.1; tree = has; running = refl; locked = record { way = way; known = λ q e. e; kept = λ q e above. e } })
      where
        way : (k : ℕ) → k ≤ 0 → is_held ([] ∷ []) (up k []) ≡ true
        way zero le = refl
        way (suc k) le = absurd (omega (arith, le))

    all_locking : (n : ℕ) → Locking (trip_after program n (first_trip program call tree))
    unfolding trip_after
    all_locking zero = first_locking
    all_locking (suc n) = next_locking _ (all_locking n)

    is_tour : (n : ℕ) → (trip_after program n (first_trip program call tree)).tour ≡ tour_after program n (first_tour program call tree)
    is_tour = copies_same program fit verified call tree is_job.0 is_job.1 has

    after_is : (n : ℕ) (t : Trip) → trip_after program (suc n) t ≡ next_trip program (trip_after program n t)
    unfolding trip_after
    after_is n t = refl

    pub tour_locks : (n : ℕ) → (tour_after program n (first_tour program call tree)).result ≡ None → Locks (tour_after program n (first_tour program call tree)) (tour_after program (suc n) (first_tour program call tree))
    tour_locks n running =
        let t = trip_after program n (first_trip program call tree) in
        let next = ap (λ (u : Trip). u.tour) (sym (after_is n (first_trip program call tree))) ∙ is_tour (suc n) in
        subst (λ u. Locks u (tour_after program (suc n) (first_tour program call tree))) (is_tour n) (subst (Locks t.tour) next (next_locks t (all_locking n) (ap (λ (u : Tour). u.result) (is_tour n) ∙ running)))
