-- The copies that an event keeps are the fields of what stands above it.
use Rattle.std.proofs.Common.{◌≡◌, ℕ, zero, suc, ◌-◌, ◌<◌, ◌≤◌, List, [], ◌∷◌, ◌++◌, length, take, if◌then◌else◌, Bool, true, false, Some, None, refl, ap, sym, subst, ◌∙◌, arith}
use Rattle.wave_base.specs.declared.call.Call.{Call}
use Rattle.wave_base.specs.declared.limits.TheConstants.{GENERATION}
use Rattle.wave_base.specs.declared.outcome.EventResult.{EventResult}
use Rattle.wave_base.specs.declared.path.Path.{Path}
use Rattle.wave_base.specs.declared.path.Step.{Step}
use Rattle.wave_base.specs.declared.pause.Pause.{Pause}
use Rattle.wave_base.specs.declared.pause.Pause.TheVariants as pause
use Rattle.wave_base.specs.Paths.{path_eq, parent_of}
use Rattle.wave_base.specs.PathLaws.{path_eq_decides}
use Rattle.wave_base.specs.Scripts.{IsCall}
use Rattle.wave_base.specs.Tree.{Tree, put}
use Rattle.wave_base.specs.Shapes.{class_of}
use Rattle.downgrade_views.specs.Levels.{Level, kept_level}
use Rattle.service_code.specs.declared.program.Program.{Program}
use Rattle.service_verify.specs.Boxes.{Box}
use Rattle.service_verify.specs.Copies.{Trip, trip_with, trip_if, next_trip, trip_after, first_trip}
use Rattle.service_verify.specs.Fit.{IsFit}
use Rattle.service_verify.specs.Points.{IsVerified}
use Rattle.service_verify.specs.Reads.{read_marks}
use Rattle.service_verify.specs.Segments.{segment, left_by}
use Rattle.service_verify.specs.Standing.{HasFields, HasLevels, Agree, HasTree, LeavesAt}
use Rattle.service_verify.specs.Steps.{Paused, is_held}
use Rattle.service_verify.specs.Tours.{Fields, fields_above, Tour, tree_with, into, tour_at_pause, tour_with, tour_if, next_tour, tour_after, first_tour}
use Rattle.service_verify.proofs.Agreeing.{segment_same}
use Rattle.service_verify.proofs.Leveled.{parent_long, levels_child, levels_parent, levels_same, above_has, kept_of, kept_above, kept_has, kept_agree}
use Rattle.service_verify.proofs.Segmenting.{PausesAs, pauses_as}
use Rattle.service_verify.proofs.Touring.{TourStands, Goes, is_over, goes_on, tour_goes, first_stands}

module _ (program : Program) where
  -- what a change at a path leaves above it: the fields of other paths
  kept_other : (tree : Tree Fields) (q : Path) (x : Fields) (r : Path) → length r < length q → kept_of program (put tree q x) r ≡ kept_of program tree r
  kept_other tree q x r lt = unchanged (path_eq q r) refl
    where
      unchanged : (b : Bool) → path_eq q r ≡ b → kept_level (read_marks program (class_of r)) (if b then x else tree.fields r) ≡ kept_of program tree r
      unchanged true e = absurd (let same = ap length ((path_eq_decides q r).0 e) in omega (arith, lt, same))
      unchanged false e = refl

  kept_here : (tree : Tree Fields) (p : Path) (x : Fields) → kept_of program (put tree p x) p ≡ kept_level (read_marks program (class_of p)) x
  kept_here tree p x = go (path_eq p p) ((path_eq_decides p p).1 refl)
    where
      go : (b : Bool) → b ≡ true → kept_level (read_marks program (class_of p)) (if b then x else tree.fields p) ≡ kept_level (read_marks program (class_of p)) x
      go true e = refl
      go false e = cc

  above_put : (tree : Tree Fields) (q : Path) (x : Fields) (p : Path) → length p ≤ length q → kept_above program (put tree q x) p ≡ kept_above program tree p
  unfolding kept_above
  above_put tree q x p le = levels_same (kept_of program (put tree q x)) (kept_of program tree) (length q) (λ r lt. kept_other tree q x r lt) [] p (omega (arith, le))

  -- after a change at a path: above a child of it, and above its parent
  above_child : (tree : Tree Fields) (p : Path) (x : Fields) (s : Step) → kept_above program (put tree p x) (p ++ s ∷ []) ≡ kept_above program tree p ++ kept_level (read_marks program (class_of p)) x ∷ []
  unfolding kept_above
  above_child tree p x s =
      levels_child (kept_of program (put tree p x)) [] p s
      ∙ (λ i. above_put tree p x p (omega arith) i ++ kept_here tree p x i ∷ [])

  above_parent : (tree : Tree Fields) (p : Path) (x : Fields) → kept_above program (put tree p x) (parent_of p) ≡ take (length (kept_above program tree p) - 1) (kept_above program tree p)
  unfolding kept_above
  above_parent tree p x = above_put tree p x (parent_of p) (omega (arith, parent_long p)) ∙ levels_parent (kept_of program tree) p

module _ (program : Program) (fit : IsFit program) (verified : IsVerified program) where
  -- a tour with its copies: once it is over, nothing is asked of them
  pub record Travels (p : Path) (n : ℕ) (t : Trip) : Type 0 where
    pub stands : TourStands program fit verified p n t.tour
    pub running : t.tour.result ≡ None
    pub copies : t.levels ≡ kept_above program t.tour.tree t.tour.box.path

  into_fields : (t : Tour) (b : Box) (fields : Fields) (held : Bool) → ((into t b fields held).box ≡ b) × ((q : Path) → kept_above program (into t b fields held).tree q ≡ kept_above program (tree_with t fields) q)
  unfolding kept_above
  into_fields t b fields true = (refl, λ q. refl)
  into_fields t b fields false = (refl, λ q. refl)

  -- the tour goes on as without copies, and the copies are kept
  pub data TripGoes (t : Trip) : Type 0 where
    over : (r : EventResult) → (next_trip program t).tour.result ≡ Some r → TripGoes t
    on : (q : Path) (m : ℕ) → Travels q m (next_trip program t) → TripGoes t

  pub trip_goes : (p : Path) (n : ℕ) (t : Trip) → Travels p n t → ((next_trip program t).tour ≡ next_tour program t.tour) × TripGoes t
  trip_goes p n t w = by a.why a.leaves is_next is_tour (tour_goes program fit verified p n t.tour w.stands w.running)
    where
      -- the copies
      above : List Level
      above = kept_above program t.tour.tree t.tour.box.path

      -- all fields
      whole : List Level
      whole = fields_above t.tour.tree t.tour.box.path

      whole_has : HasLevels program p whole
      whole_has = subst (λ q. HasLevels program p (fields_above t.tour.tree q)) (sym w.stands.box.path) (above_has program t.tour.tree w.stands.tree p)

      copies_have : HasLevels program p above
      copies_have = subst (λ q. HasLevels program p (kept_above program t.tour.tree q)) (sym w.stands.box.path) (kept_has program t.tour.tree w.stands.tree p)

      agree : Agree program p above whole
      agree = subst (λ q. Agree program p (kept_above program t.tour.tree q) (fields_above t.tour.tree q)) (sym w.stands.box.path) (kept_agree program t.tour.tree p)

      has : HasFields program.shape p (t.tour.tree.fields t.tour.box.path)
      has = subst (λ q. HasFields program.shape p (t.tour.tree.fields q)) (sym w.stands.box.path) (w.stands.tree p)

      a : PausesAs program fit verified p n whole t.tour.box (t.tour.tree.fields t.tour.box.path)
      a = pauses_as program fit verified p n whole t.tour.box (t.tour.tree.fields t.tour.box.path) w.stands.box whole_has has

      marks : List Bool
      marks = read_marks program (class_of t.tour.box.path)

      is_next : next_trip program t ≡ trip_with t (left_by marks above (Paused a.box a.left a.why))
      is_next =
          ap (trip_if program t) w.running
          ∙ ap (λ ls. trip_with t (left_by marks ls (segment program ls t.tour.box (t.tour.tree.fields t.tour.box.path)))) w.copies
          ∙ ap (λ m. trip_with t (left_by marks above m)) (segment_same program fit verified p above whole agree n t.tour.box (t.tour.tree.fields t.tour.box.path) w.stands.box copies_have has ∙ a.is)

      is_tour : next_tour program t.tour ≡ tour_at_pause t.tour a.box a.left a.why
      is_tour = ap (tour_if program t.tour) w.running ∙ ap (tour_with t.tour) a.is

      -- the tour is the same, and so it stands; and these are the copies
      goes : (next_trip program t).tour ≡ next_tour program t.tour → (next_trip program t).levels ≡ kept_above program (next_trip program t).tour.tree (next_trip program t).tour.box.path → Goes program fit verified p n t.tour (next_tour program t.tour) → TripGoes t
      goes same copies (is_over r e) = over r (ap (λ (u : Tour). u.result) same ∙ e)
      goes same copies (goes_on q m running s lower) = on q m (record { stands = subst (TourStands program fit verified q m) (sym same) s; running = ap (λ (u : Tour). u.result) same ∙ running; copies = copies })

      below : (s : Step) (held : Bool) → a.box.path ≡ p ++ s ∷ [] → above ++ kept_level marks a.left ∷ [] ≡ kept_above program (into t.tour a.box a.left held).tree (into t.tour a.box a.left held).box.path
      below s held at =
          let i = into_fields t.tour a.box a.left held in
          sym (above_child program t.tour.tree t.tour.box.path a.left s)
          ∙ ap (kept_above program (tree_with t.tour a.left)) (ap (λ q. q ++ s ∷ []) w.stands.box.path ∙ sym at ∙ ap (λ (b : Box). b.path) (sym i.0))
          ∙ sym (i.1 (into t.tour a.box a.left held).box.path)

      by : (why : Pause) → LeavesAt program p n a.box why → next_trip program t ≡ trip_with t (left_by marks above (Paused a.box a.left why)) → next_tour program t.tour ≡ tour_at_pause t.tour a.box a.left why → Goes program fit verified p n t.tour (next_tour program t.tour) → ((next_trip program t).tour ≡ next_tour program t.tour) × TripGoes t
      by (pause.Go s) l is_next is_tour g =
          let same = ap (λ (u : Trip). u.tour) is_next ∙ sym is_tour in
          (same, goes same (subst (λ (u : Trip). u.levels ≡ kept_above program u.tour.tree u.tour.box.path) (sym is_next) (below s (is_held t.tour.box.held a.box.path) l.1.path)) g)
      by (pause.Down s) l is_next is_tour g =
          let same = ap (λ (u : Trip). u.tour) is_next ∙ sym is_tour in
          (same, goes same (subst (λ (u : Trip). u.levels ≡ kept_above program u.tour.tree u.tour.box.path) (sym is_next) (below s (is_held t.tour.box.held a.box.path) l.0.path)) g)
      by pause.Back l is_next is_tour g =
          let same = ap (λ (u : Trip). u.tour) is_next ∙ sym is_tour in
          (same, goes same (subst (λ (u : Trip). u.levels ≡ kept_above program u.tour.tree u.tour.box.path) (sym is_next) (back n l)) g)
        where
          back : (n : ℕ) → LeavesAt program p n a.box pause.Back → take (length above - 1) above ≡ kept_above program (tree_with t.tour a.left) a.box.path
          back zero l = absurd l
          back (suc m) l = sym (above_parent program t.tour.tree t.tour.box.path a.left) ∙ ap (kept_above program (tree_with t.tour a.left)) (ap parent_of w.stands.box.path ∙ sym l.0.path)
      by (pause.Over r) l is_next is_tour g =
          (ap (λ (u : Trip). u.tour) is_next ∙ sym is_tour, over r (ap (λ (u : Trip). u.tour.result) is_next))

  -- whether it is over or not
  data Traveled (t : Trip) : Type 0 where
    done : (r : EventResult) → t.tour.result ≡ Some r → Traveled t
    going : (p : Path) (n : ℕ) → Travels p n t → Traveled t

  travels_on : (t : Trip) → Traveled t → ((next_trip program t).tour ≡ next_tour program t.tour) × Traveled (next_trip program t)
  travels_on t (done r e) =
      let same : next_trip program t ≡ t = ap (trip_if program t) e in
      (ap (λ (u : Trip). u.tour) same ∙ sym (ap (tour_if program t.tour) e), done r (ap (λ (u : Trip). u.tour.result) same ∙ e))
  travels_on t (going p n w) = let g = trip_goes p n t w in (g.0, on_to g.1)
    where
      on_to : TripGoes t → Traveled (next_trip program t)
      on_to (over r e) = done r e
      on_to (on q m w) = going q m w

  traveled : (call : Call) (tree : Tree Fields) → IsCall program.shape call → call.generation ≤ GENERATION → HasTree program tree → (m : ℕ) → ((trip_after program m (first_trip program call tree)).tour ≡ tour_after program m (first_tour program call tree)) × Traveled (trip_after program m (first_trip program call tree))
  unfolding trip_after tour_after kept_above
  traveled call tree is young has zero = (refl, going [] 0 (record { stands = first_stands program fit verified call tree is young has; running = refl; copies = copies }))
    where
      copies : [] ≡ kept_above program (first_tour program call tree).tree (first_tour program call tree).box.path
      copies = ap (kept_above program (first_tour program call tree).tree) (sym (first_stands program fit verified call tree is young has).box.path)
  traveled call tree is young has (suc m) =
      let before = traveled call tree is young has m in
      let after = travels_on (trip_after program m (first_trip program call tree)) before.1 in
      (after.0 ∙ ap (next_tour program) before.0, after.1)

  -- with the copies it is what the code means
  pub copies_same : (call : Call) (tree : Tree Fields) → IsCall program.shape call → call.generation ≤ GENERATION → HasTree program tree → (m : ℕ) → (trip_after program m (first_trip program call tree)).tour ≡ tour_after program m (first_tour program call tree)
  copies_same call tree is young has m = (traveled call tree is young has m).0
