-- After any number of segments a call under way stands as it must before the next one; and it comes to an end.
use Rattle.std.proofs.Common.{◌≡◌, ℕ, zero, suc, ◌+◌, ◌-◌, ◌<◌, ◌≤◌, ◌⊎◌, inl, inr, List, [], ◌∷◌, ◌++◌, ◌||◌, if◌then◌else◌, Bool, true, false, Option, Some, None, refl, ap, sym, subst, ◌∙◌, arith}
use mathlib.Core.Bool.{true≢false}
use Rattle.std.proofs.lemmas.List.Elements.{All-head, All-tail, All-weaker}
use Rattle.std.proofs.lemmas.List.Folds.{list_any-append}
use Rattle.std.specs.List.{list_any, All}
use Rattle.wave_base.proofs.Trees.{there-enter}
use Rattle.wave_base.specs.declared.call.Call.{Call}
use Rattle.wave_base.specs.declared.outcome.EventResult.{EventResult}
use Rattle.wave_base.specs.declared.path.Path.{Path}
use Rattle.wave_base.specs.declared.path.Step.{Step}
use Rattle.wave_base.specs.declared.pause.Pause.{Pause as Halt}
use Rattle.wave_base.specs.declared.pause.Pause.TheVariants as halt
use Rattle.wave_base.specs.declared.shape.Shape.{Shape}
use Rattle.wave_base.specs.Paths.{path_eq, parent_of}
use Rattle.wave_base.specs.PathLaws.{path_eq_decides}
use Rattle.wave_base.specs.Shapes.{is_path}
use Rattle.wave_base.specs.Tree.{Tree, there, put}
use Rattle.wave_base.specs.Trees.{FitsShape, HasKinds}
use Rattle.context_tree.proofs.FitLemmas.{enter_fits}
use Rattle.downgrade_views.specs.Levels.{Level}
use Rattle.service_code.specs.declared.program.Program.{Program}
use Rattle.service_verify.specs.Boxes.{Box, first_box}
use Rattle.service_verify.specs.Copies.{Trip, trip_with, trip_if, next_trip, trip_after, first_trip}
use Rattle.service_verify.specs.Fit.{IsFit}
use Rattle.service_verify.specs.Points.{IsVerified}
use Rattle.service_verify.specs.Standing.{AreCalls, HasFields, HasTree, Leaves, Stands}
use Rattle.service_verify.specs.Steps.{is_held}
use Rattle.service_verify.specs.Tours.{Fields, Tour, tree_with, into, tour_at_pause, tour_if, next_tour, tour_after, first_tour, most_segments, code_tour}
use Rattle.service_verify.proofs.Copying.{copies_same}
use Rattle.service_verify.proofs.Locals.{begins}
use Rattle.service_verify.proofs.Touring.{code_ends}
use Rattle.code_actor.specs.CodeActors.{IsJob}
use Rattle.code_actor.specs.Locks.{Enters, Locks, holds, has_entered}
use Rattle.code_actor.proofs.Above.{or_is, or_left, or_right, parent_child}
use Rattle.code_actor.proofs.Locking.{tour_locks}
use Rattle.code_actor.proofs.Segmented.{Runs, segment_runs, initial_has}
use Rattle.code_runner.specs.inner.Walks.{event_of, Walks}

pub some_none : {A : Type 0} (r : EventResult) → Some r ≡ None → A
some_none r e = cc

-- what holds of all paths holds of one that is among them
pub at_there : (P : Path → Type 0) (p : Path) (ps : List Path) → All P ps → list_any (path_eq p) ps ≡ true → P p
at_there P p [] all h = absurd (true≢false (sym h))
at_there P p (q ∷ ps) all h = by (at_there P p ps (All-tail P q ps all)) (or_is _ _ h)
  where
    by : (list_any (path_eq p) ps ≡ true → P p) → (path_eq p q ≡ true) ⊎ (list_any (path_eq p) ps ≡ true) → P p
    by rest (inl same) = subst P (sym ((path_eq_decides p q).0 same)) (All-head P q ps all)
    by rest (inr more) = rest more

choose_false : {A : Type 0} (b : Bool) (x y : A) → b ≡ false → (if b then x else y) ≡ y
choose_false b x y e = rw e refl

-- fields of the right kinds put into a context that is there
module _ (shape : Shape) (t : Tree Fields) (p : Path) (x : Fields) (fits : FitsShape shape t) (is : there t p ≡ true) (kinds : HasKinds shape p x) where
  apart : (q : Path) → there t q ≡ false → path_eq p q ≡ false
  apart q a = by (path_eq p q) refl
    where
      by : (b : Bool) → path_eq p q ≡ b → b ≡ false
      by true e = absurd (true≢false (sym is ∙ ap (there t) ((path_eq_decides p q).0 e) ∙ a))
      by false e = refl

  pub put_fits : FitsShape shape (put t p x)
  put_fits = record {
    ordered = fits.ordered;
    paths = fits.paths;
    parents = fits.parents;
    kinds = All-weaker (λ q. HasKinds shape q (t.fields q)) (λ q. HasKinds shape q (if path_eq p q then x else t.fields q)) (λ q k. one q k (path_eq p q) refl) t.paths fits.kinds;
    absent = λ q a. choose_false (path_eq p q) x (t.fields q) (apart q a) ∙ fits.absent q a;
  }
    where
      one : (q : Path) → HasKinds shape q (t.fields q) → (b : Bool) → path_eq p q ≡ b → HasKinds shape q (if b then x else t.fields q)
      one q k true e = subst (λ r. HasKinds shape r x) ((path_eq_decides p q).0 e) kinds
      one q k false e = k

entered_more : (entered : List Path) (q r : Path) → list_any (path_eq r) (entered ++ q ∷ []) ≡ (list_any (path_eq r) entered || (path_eq r q || false))
entered_more entered q r = list_any-append (path_eq r) entered (q ∷ [])

module _ (program : Program) (fit : IsFit program) (verified : IsVerified program) where
  has_tree : (tree : Tree Fields) → FitsShape program.shape tree → HasTree program tree
  has_tree tree fits q = by (there tree q) refl
    where
      by : (b : Bool) → there tree q ≡ b → HasFields program.shape q (tree.fields q)
      by true e = at_there (λ p. HasKinds program.shape p (tree.fields p)) q tree.paths fits.kinds e
      by false e = subst (HasFields program.shape q) (sym (fits.absent q e)) (initial_has program.shape fit.shape q)

  -- it stands in a context that is there, and so is all that it entered
  pub record Here (t : Trip) : Type 0 where
    pub path : Path
    pub calls : ℕ
    pub running : t.tour.result ≡ None
    pub stands : Stands program path calls (event_of t)
    pub fits : FitsShape program.shape t.tour.tree
    pub here : there t.tour.tree path ≡ true
    pub entered : (q : Path) → has_entered t.tour q ≡ true → there t.tour.tree q ≡ true
    pub root : there t.tour.tree [] ≡ true

  -- it is over, on a tree that still fits, and what it created are calls
  pub record Ended (t : Tour) : Type 0 where
    pub result : EventResult
    pub is : t.result ≡ Some result
    pub fits : FitsShape program.shape t.tree
    pub root : there t.tree [] ≡ true
    pub created : AreCalls program.shape result.created

  pub data At (t : Trip) : Type 0 where
    over : Ended t.tour → At t
    on : Here t → At t

  module _ (t : Trip) (h : Here t) (known : (q : Path) → holds t.tour q ≡ true → has_entered t.tour q ≡ true) where
    abbrev p : Path
    p = h.path

    at : t.tour.box.path ≡ p
    at = h.stands.box.path

    has_fields : HasFields program.shape p (t.tour.tree.fields t.tour.box.path)
    has_fields = subst (λ q. HasFields program.shape p (t.tour.tree.fields q)) (sym at) (has_tree t.tour.tree h.fits p)

    module _ (b : Box) (levels : List Level) (left : Fields) (has_left : HasFields program.shape p left) where
      abbrev put_tree : Tree Fields
      put_tree = tree_with t.tour left

      fits : FitsShape program.shape put_tree
      fits = subst (λ q. FitsShape program.shape (put t.tour.tree q left)) (sym at) (put_fits program.shape t.tour.tree p left h.fits h.here has_left)

      module _ (s : Step) (m : ℕ) (stands : Stands program (p ++ s ∷ []) m (record { box = b; levels = levels })) where
        abbrev q : Path
        q = p ++ s ∷ []

        to : b.path ≡ q
        to = stands.box.path

        into_here : (c : Bool) → is_held t.tour.box.held b.path ≡ c → Here (record { tour = into t.tour b left c; levels = levels })
        into_here true e = record { path = q; calls = m; running = refl; stands = stands; fits = fits; here = subst (λ r. there t.tour.tree r ≡ true) to (h.entered b.path (known b.path e)); entered = h.entered; root = h.root }
        into_here false e = record {
          path = q;
          calls = m;
          running = refl;
          stands = stands;
          fits = enter_fits program.shape fit.shape put_tree b.path fits (subst (λ r. is_path program.shape r ≡ true) (sym to) stands.box.is_path) (subst (λ r. there put_tree r ≡ true) (sym (ap parent_of to ∙ parent_child p s)) h.here);
          here = there-enter put_tree b.path q ∙ or_left _ _ ((path_eq_decides q b.path).1 (sym to));
          entered = λ r e. there-enter put_tree b.path r ∙ more r (or_is _ _ (sym (entered_more t.tour.entered b.path r) ∙ e));
          root = there-enter put_tree b.path [] ∙ or_right _ _ h.root;
        }
          where
            more : (r : Path) → (list_any (path_eq r) t.tour.entered ≡ true) ⊎ ((path_eq r b.path || false) ≡ true) → (path_eq r b.path || there put_tree r) ≡ true
            more r (inl e) = or_right _ _ (h.entered r e)
            more r (inr e) = last (path_eq r b.path) (there put_tree r) e
              where
                last : (a b : Bool) → (a || false) ≡ true → (a || b) ≡ true
                last a b e = grind arith

      by : (why : Halt) → Leaves program p h.calls (record { box = b; levels = levels }) why → At (record { tour = tour_at_pause t.tour b left why; levels = levels })
      by (halt.Go s) l = on (into_here s 0 l.1 (is_held t.tour.box.held b.path) refl)
      by (halt.Down s) l = on (into_here s (suc h.calls) l (is_held t.tour.box.held b.path) refl)
      by halt.Back l = back h.calls l
        where
          back : (n : ℕ) → Leaves program p n (record { box = b; levels = levels }) halt.Back → At (record { tour = tour_at_pause t.tour b left halt.Back; levels = levels })
          back zero l = absurd l
          back (suc m) l = on (record { path = parent_of p; calls = m; running = refl; stands = l; fits = fits; here = at_there (λ q. there t.tour.tree (parent_of q) ≡ true) p t.tour.tree.paths h.fits.parents h.here; entered = h.entered; root = h.root })
      by (halt.Over r) l = over (record { result = r; is = refl; fits = fits; root = h.root; created = l })

    a : Runs program fit verified p h.calls (event_of t) (t.tour.tree.fields t.tour.box.path)
    a = segment_runs program fit verified p h.calls (event_of t) (t.tour.tree.fields t.tour.box.path) h.stands has_fields

    at_next : At (next_trip program t)
    at_next = subst At (sym (ap (trip_if program t) h.running ∙ ap (trip_with t) a.is_left)) (by a.left.event.box a.left.event.levels a.left.fields a.has a.left.pause a.leaves)

  module _ (call : Call) (tree : Tree Fields) (is_job : IsJob program call) (tree_fits : FitsShape program.shape tree) (root : there tree [] ≡ true) where
    abbrev trip : ℕ → Trip
    trip n = trip_after program n (first_trip program call tree)

    abbrev tour : ℕ → Tour
    tour n = tour_after program n (first_tour program call tree)

    has : HasTree program tree
    has = has_tree tree tree_fits

    pub is_tour : (n : ℕ) → (trip n).tour ≡ tour n
    is_tour n = copies_same program fit verified call tree is_job.0 is_job.1 has n

    pub trip_next : (n : ℕ) → trip (suc n) ≡ next_trip program (trip n)
    unfolding trip_after
    trip_next n = refl

    tour_next : (n : ℕ) → tour (suc n) ≡ next_tour program (tour n)
    unfolding tour_after
    tour_next n = refl

    running_before : (n : ℕ) → (tour (suc n)).result ≡ None → (tour n).result ≡ None
    running_before n e = by (tour n).result refl
      where
        by : (o : Option EventResult) → (tour n).result ≡ o → o ≡ None
        by None is = refl
        by (Some r) is = some_none r (sym is ∙ ap (λ (t : Tour). t.result) (sym (tour_next n ∙ ap (tour_if program (tour n)) is)) ∙ e)

    locks : (n : ℕ) → (tour n).result ≡ None → Locks (tour n) (tour (suc n))
    locks n running = tour_locks program fit verified call tree is_job has n running

    stays_entered : (t u : Tour) → Enters t u → (q : Path) → has_entered t q ≡ true → has_entered u q ≡ true
    stays_entered t u (inl same) q e = ap (list_any (path_eq q)) same ∙ e
    stays_entered t u (inr new) q e = ap (list_any (path_eq q)) new.2 ∙ entered_more t.entered (t.box.path ++ new.0 ∷ []) q ∙ or_left _ _ e

    known : (n : ℕ) → (tour n).result ≡ None → (q : Path) → holds (tour n) q ≡ true → has_entered (tour n) q ≡ true
    unfolding tour_after first_box
    known zero running r e = e
    known (suc n) running r e = by (known n (running_before n running)) (l.held r e)
      where
        before : (tour n).result ≡ None
        before = running_before n running

        l : Locks (tour n) (tour (suc n))
        l = locks n before

        by : ((s : Path) → holds (tour n) s ≡ true → has_entered (tour n) s ≡ true) → (holds (tour n) r ≡ true) ⊎ ((has_entered (tour n) r ≡ false) × (has_entered (tour (suc n)) r ≡ true)) → has_entered (tour (suc n)) r ≡ true
        by rest (inl was) = stays_entered (tour n) (tour (suc n)) l.enters r (rest r was)
        by rest (inr new) = new.1

    first_at : At (trip 0)
    unfolding trip_after first_box
    first_at = on (record {
      path = [];
      calls = 0;
      running = refl;
      stands = begins program fit verified call is_job.0 is_job.1;
      fits = enter_fits program.shape fit.shape tree [] tree_fits refl root;
      here = there-enter tree [] [];
      entered = λ q e. there-enter tree [] q ∙ first q e;
      root = there-enter tree [] [];
    })
      where
        first : (q : Path) → list_any (path_eq q) ([] ∷ []) ≡ true → (path_eq q [] || there tree q) ≡ true
        first [] e = refl
        first (s ∷ q) e = absurd (true≢false (sym e))

    pub all_at : (n : ℕ) → At (trip n)
    all_at zero = first_at
    all_at (suc n) = subst At (sym (trip_next n)) (next (all_at n))
      where
        next : At (trip n) → At (next_trip program (trip n))
        next (over e) = subst At (sym (ap (trip_if program (trip n)) e.is)) (over e)
        next (on h) = at_next (trip n) h (subst (λ t. (q : Path) → holds t q ≡ true → has_entered t q ≡ true) (sym (is_tour n)) (known n (ap (λ (t : Tour). t.result) (sym (is_tour n)) ∙ h.running)))

    -- before each segment
    pub walks : (n : ℕ) → (trip n).tour.result ≡ None → Walks program (trip n)
    walks n running = by (all_at n)
      where
        tour_running : (tour n).result ≡ None
        tour_running = ap (λ (t : Tour). t.result) (sym (is_tour n)) ∙ running

        by : At (trip n) → Walks program (trip n)
        by (over e) = some_none e.result (sym e.is ∙ running)
        by (on h) = record {
          path = h.path;
          calls = h.calls;
          stands = h.stands;
          fits = h.fits;
          here = h.here;
          known = subst (λ t. (q : Path) → holds t q ≡ true → has_entered t q ≡ true) (sym (is_tour n)) (known n tour_running);
          locks = subst (Locks (trip n).tour) (ap (λ (t : Trip). t.tour) (trip_next n)) (subst (λ t. Locks t (trip (suc n)).tour) (sym (is_tour n)) (subst (Locks (tour n)) (sym (is_tour (suc n))) (locks n tour_running)));
        }

    -- the end
    later : (a b : ℕ) (r : EventResult) → (tour b).result ≡ Some r → tour (a + b) ≡ tour b
    later zero b r e = ap tour (none b)
      where
        none : (b : ℕ) → 0 + b ≡ b
        none b = omega arith
    later (suc a) b r e = ap tour (one a b) ∙ tour_next (a + b) ∙ ap (next_tour program) (later a b r e) ∙ ap (tour_if program (tour b)) e
      where
        one : (a b : ℕ) → suc a + b ≡ suc (a + b)
        one a b = omega arith

    abbrev most : ℕ
    most = most_segments program

    whole : tour most ≡ code_tour program call tree
    unfolding code_tour
    whole = refl

    ends : (r : EventResult) × ((tour most).result ≡ Some r)
    ends = let e = code_ends program fit verified call tree is_job.0 is_job.1 has in (e.0, ap (λ (t : Tour). t.result) whole ∙ e.1)

    split : (a b : ℕ) → b ≤ a → (a - b) + b ≡ a
    split a b h = omega (arith, h)

    past : (n : ℕ) → most ≤ n → tour n ≡ tour most
    past n h = ap tour (sym (split n most h)) ∙ later (n - most) most ends.0 ends.1

    data Order (a b : ℕ) : Type 0 where
      below : a < b → Order a b
      above : b ≤ a → Order a b

    order : (a b : ℕ) → Order a b
    order a zero = above (omega arith)
    order zero (suc b) = below (omega arith)
    order (suc a) (suc b) = by (order a b)
      where
        by : Order a b → Order (suc a) (suc b)
        by (below h) = below (omega (arith, h))
        by (above h) = above (omega (arith, h))

    pub few : (n : ℕ) → (trip n).tour.result ≡ None → n < most
    few n running = by (order n most)
      where
        by : Order n most → n < most
        by (below h) = h
        by (above h) = some_none ends.0 (sym ends.1 ∙ ap (λ (t : Tour). t.result) (sym (past n h)) ∙ ap (λ (t : Tour). t.result) (sym (is_tour n)) ∙ running)

    pub is_whole : (n : ℕ) (r : EventResult) → (trip n).tour.result ≡ Some r → (trip n).tour ≡ code_tour program call tree
    is_whole n r e = is_tour n ∙ by (order n most) ∙ whole
      where
        over_there : (tour n).result ≡ Some r
        over_there = ap (λ (t : Tour). t.result) (sym (is_tour n)) ∙ e

        by : Order n most → tour n ≡ tour most
        by (below h) = sym (later (most - n) n r over_there) ∙ ap tour (split most n (omega (arith, h)))
        by (above h) = past n h

    -- from one segment to the next
    pub follows_on : (n m : ℕ) (t u : Trip) → t ≡ trip n → u ≡ next_trip program t → m ≡ suc n → u ≡ trip m
    follows_on n m t u is next e = next ∙ ap (next_trip program) is ∙ sym (trip_next n) ∙ ap trip (sym e)

    pub is_all : (n m : ℕ) (t u : Trip) (r : EventResult) → t ≡ trip n → u ≡ next_trip program t → m ≡ suc n → u.tour.result ≡ Some r → u.tour ≡ code_tour program call tree
    is_all n m t u r is next e ended =
        let same = follows_on n m t u is next e in
        ap (λ (v : Trip). v.tour) same ∙ is_whole m r (ap (λ (v : Trip). v.tour.result) (sym same) ∙ ended)

    pub ended : Ended (code_tour program call tree)
    ended = subst Ended (is_tour most ∙ whole) (by (all_at most))
      where
        by : At (trip most) → Ended (trip most).tour
        by (over e) = e
        by (on h) = some_none ends.0 (sym ends.1 ∙ ap (λ (t : Tour). t.result) (sym (is_tour most)) ∙ h.running)
