-- An event alone goes where its code leads it, segment by segment.
use Rattle.std.proofs.Common.{◌≡◌, ℕ, zero, suc, List, [], ◌∷◌, ◌++◌, Bool, true, false, Some, None, refl, ap, sym, subst, ◌∙◌}
use Rattle.std.specs.List.{filter}
use Rattle.wave_base.specs.declared.call.Call.{Call}
use Rattle.wave_base.specs.declared.outcome.EventResult.{EventResult}
use Rattle.wave_base.specs.declared.path.Path.{Path}
use Rattle.wave_base.specs.declared.path.Step.{Step}
use Rattle.wave_base.specs.declared.pause.Pause.{Pause as Halt}
use Rattle.wave_base.specs.declared.pause.Pause.TheVariants as halt
use Rattle.wave_base.specs.Paths.{is_above, parent_of}
use Rattle.wave_base.specs.Tree.{Tree, enter, put}
use Rattle.downgrade_views.specs.Levels.{Level}
use Rattle.service_code.specs.declared.program.Program.{Program}
use Rattle.service_verify.specs.Boxes.{Box, first_box}
use Rattle.service_verify.specs.Copies.{Trip, trip_with, trip_if, next_trip, trip_after, first_trip}
use Rattle.service_verify.specs.Fit.{IsFit}
use Rattle.service_verify.specs.Looks.{is_peeking}
use Rattle.service_verify.specs.Points.{IsVerified}
use Rattle.service_verify.specs.Segments.{Event, event_segment}
use Rattle.service_verify.specs.Standing.{HasFields, HasTree, Leaves, Stands}
use Rattle.service_verify.specs.Steps.{is_held}
use Rattle.service_verify.specs.Tours.{Tour, tour_at_pause}
use Rattle.service_verify.specs.Tours as tour
use Rattle.service_verify.proofs.Locals.{begins}
use Rattle.service_verify.proofs.Touring.{put_has}
use Rattle.wave_states.specs.Actors.{Left}
use Rattle.wave_states.specs.Alone.{Alone, has, tree_with, into, back, goes_on, segment_alone, segment_if, next_alone, first_alone, after_segments}
use Rattle.code_actor.specs.CodeActors.{Fields, pause_of, left_of, code_actors, IsJob}
use Rattle.code_actor.specs.Follows.{Follows}
use Rattle.code_actor.proofs.Held.{down_held, down_new, go_held, go_new}
use Rattle.code_actor.proofs.Holding
use Rattle.code_actor.proofs.Holding.{with_held}
use Rattle.code_actor.proofs.Segmented.{Runs, segment_runs}

-- an event alone
abbrev One : Type 0
One = Alone Event Fields EventResult

abbrev pub event_of : Trip → Event
event_of t = record { box = t.tour.box; levels = t.levels }

-- what a pause makes of a trip
abbrev pub trip_to : Trip → Box → List Level → Fields → Halt → Trip
trip_to t b levels f why = record { tour = tour_at_pause t.tour b f why; levels = levels }

-- each segment counts
halted_counts : (t : Tour) (b : Box) (f : Fields) (why : Halt) → (tour_at_pause t b f why).segments ≡ suc t.segments
halted_counts t b f (halt.Go s) = by (is_held t.box.held b.path)
  where
    by : (c : Bool) → (tour.into t b f c).segments ≡ suc t.segments
    by true = refl
    by false = refl
halted_counts t b f (halt.Down s) = by (is_held t.box.held b.path)
  where
    by : (c : Bool) → (tour.into t b f c).segments ≡ suc t.segments
    by true = refl
    by false = refl
halted_counts t b f halt.Back = refl
halted_counts t b f (halt.Over r) = refl

module _ (program : Program) (fit : IsFit program) (verified : IsVerified program) where
  abbrev actors : Rattle.wave_states.specs.Actors.Actors Event Fields EventResult Call
  actors = code_actors program

  -- the event isn't over, and stands
  pub record Walks (p : Path) (n : ℕ) (x : One) (t : Trip) : Type 0 where
    pub follows : Follows x t
    pub running : x.result ≡ None
    pub stands : Stands program p n (event_of t)
    pub tree : HasTree program t.tour.tree

  -- it is over, or goes on
  pub data Walked (x : One) (t : Trip) : Type 0 where
    done : (r : EventResult) → x.result ≡ Some r → Follows x t → Walked x t
    going : (p : Path) (n : ℕ) → Walks p n x t → Walked x t

  pub followed : (x : One) (t : Trip) → Walked x t → Follows x t
  followed x t (done r e f) = f
  followed x t (going p n w) = w.follows

  module _ (p : Path) (n : ℕ) (x : One) (t : Trip) (w : Walks p n x t) where
    f : Follows x t
    f = w.follows

    here : t.tour.box.path ≡ p
    here = w.stands.box.path

    running : t.tour.result ≡ None
    running = sym f.result ∙ w.running

    held : (q : Path) → has x.held q ≡ is_held t.tour.box.held q
    held = f.held w.running

    -- into a child, for good or for a call
    module _ (b : Box) (levels : List Level) (left : Fields) (has_left : HasFields program.shape p left) where
      trees : tree_with x left ≡ tour.tree_with t.tour left
      trees i = put (f.tree i) (f.at i) left

      tree_has : HasTree program (tour.tree_with t.tour left)
      tree_has = put_has program fit verified t.tour.tree t.tour.box.path left w.tree (subst (λ q. HasFields program.shape q left) (sym here) has_left)

      module _ (s : Step) (m : ℕ) (stands : Stands program (p ++ s ∷ []) m (record { box = b; levels = levels })) where
        abbrev q : Path
        q = x.at ++ s ∷ []

        same_path : q ≡ b.path
        same_path = ap (λ r. r ++ s ∷ []) (f.at ∙ here) ∙ sym stands.box.path

        -- the same as the code's own test
        same_test : has x.held q ≡ is_held t.tour.box.held b.path
        same_test = held q ∙ ap (is_held t.tour.box.held) same_path

        goes_into : (peek : Bool) (kept : List Path) (c : Bool) → (c ≡ true → (r : Path) → has kept r ≡ is_held b.held r) → (c ≡ false → (r : Path) → has (kept ++ q ∷ []) r ≡ is_held b.held r) →
            Walked (into x (record { box = b; levels = levels }) left q peek kept c) (record { tour = tour.into t.tour b left c; levels = levels })
        goes_into peek kept true was new = going (p ++ s ∷ []) m (record {
          follows = record { actor = refl; at = same_path; held = λ e. was refl; entered = f.entered; tree = trees; result = refl };
          running = refl;
          stands = stands;
          tree = tree_has;
        })
        goes_into peek kept false was new = going (p ++ s ∷ []) m (record {
          follows = record { actor = refl; at = same_path; held = λ e. new refl; entered = λ i. f.entered i ++ same_path i ∷ []; tree = λ i. enter (trees i) (same_path i); result = refl };
          running = refl;
          stands = stands;
          tree = tree_has;
        })

        -- by the machine's test and by the code's
        both : (peek : Bool) (kept : List Path) → (is_held t.tour.box.held q ≡ true → (r : Path) → has kept r ≡ is_held b.held r) → ((r : Path) → has (kept ++ q ∷ []) r ≡ is_held b.held r) →
            Walked (into x (record { box = b; levels = levels }) left q peek kept (has x.held q)) (record { tour = tour.into t.tour b left (is_held t.tour.box.held b.path); levels = levels })
        both peek kept was new = subst (λ c. Walked (into x (record { box = b; levels = levels }) left q peek kept (has x.held q)) (record { tour = tour.into t.tour b left c; levels = levels })) same_test
            (goes_into peek kept (has x.held q) (λ e. was (sym (held q) ∙ e)) (λ e. new))

      -- what it holds then
      same_held : (s : Step) (g : Path → List Path) → b.held ≡ g (t.tour.box.path ++ s ∷ []) → b.held ≡ g (x.at ++ s ∷ [])
      same_held s g e = e ∙ ap (λ r. g (r ++ s ∷ [])) (sym f.at)

      by : (why : Halt) → Leaves program p n (record { box = b; levels = levels }) why → Holding.Pauses t.tour.box.path t.tour.box.held b why → Walked (goes_on actors x (record { box = b; levels = levels }) left (pause_of why)) (trip_to t b levels left why)
      by (halt.Go s) l h = both s 0 l.1 (is_peeking program b) (filter (is_above (x.at ++ s ∷ [])) x.held)
          (λ e r. go_held x.held t.tour.box.held held (x.at ++ s ∷ []) r e ∙ sym (holds r))
          (λ r. go_new x.held t.tour.box.held held (x.at ++ s ∷ []) r ∙ sym (holds r))
        where
          holds : (r : Path) → is_held b.held r ≡ is_held (filter (is_above (x.at ++ s ∷ [])) (with_held t.tour.box.held (x.at ++ s ∷ []))) r
          holds r = ap (λ ps. is_held ps r) (same_held s (λ q. filter (is_above q) (with_held t.tour.box.held q)) h)
      by (halt.Down s) l h = both s (suc n) l false x.held
          (λ e r. down_held x.held t.tour.box.held held (x.at ++ s ∷ []) r e ∙ sym (holds r))
          (λ r. down_new x.held t.tour.box.held held (x.at ++ s ∷ []) r ∙ sym (holds r))
        where
          holds : (r : Path) → is_held b.held r ≡ is_held (with_held t.tour.box.held (x.at ++ s ∷ [])) r
          holds r = ap (λ ps. is_held ps r) (same_held s (λ q. with_held t.tour.box.held q) h)
      by halt.Back l h = up n l
        where
          up : (n : ℕ) → Leaves program p n (record { box = b; levels = levels }) halt.Back → Walked (back x (record { box = b; levels = levels }) left) (trip_to t b levels left halt.Back)
          up zero l = absurd l
          up (suc m) l = going (parent_of p) m (record {
            follows = record { actor = refl; at = ap parent_of (f.at ∙ here) ∙ sym l.box.path; held = λ e r. held r ∙ ap (λ ps. is_held ps r) (sym h); entered = f.entered; tree = trees; result = refl };
            running = refl;
            stands = l;
            tree = tree_has;
          })
      by (halt.Over r) l h = done r refl (record { actor = refl; at = f.at ∙ sym h.0; held = λ e. no_more e; entered = f.entered; tree = trees; result = refl })
        where
          no_more : {A : Type 0} → Some r ≡ None → A
          no_more e = cc

    -- the segment, as both have it
    has_fields : HasFields program.shape p (t.tour.tree.fields t.tour.box.path)
    has_fields = subst (λ q. HasFields program.shape p (t.tour.tree.fields q)) (sym here) (w.tree p)

    a : Runs program fit verified p n (event_of t) (t.tour.tree.fields t.tour.box.path)
    a = segment_runs program fit verified p n (event_of t) (t.tour.tree.fields t.tour.box.path) w.stands has_fields

    is_segment : segment_alone actors x ≡ left_of (event_of t) (t.tour.tree.fields t.tour.box.path) (Some a.left)
    is_segment =
        (λ i. left_of (f.actor i) ((f.tree i).fields (f.at i)) (event_segment program (f.actor i) ((f.tree i).fields (f.at i))))
        ∙ ap (left_of (event_of t) (t.tour.tree.fields t.tour.box.path)) a.is_left

    is_next : next_alone actors x ≡ goes_on actors x a.left.event a.left.fields (pause_of a.left.pause)
    is_next = ap (segment_if actors x) w.running ∙ ap (λ (l : Left Event Fields EventResult). goes_on actors x l.actor l.fields l.pause) is_segment

    is_trip : next_trip program t ≡ trip_to t a.left.event.box a.left.event.levels a.left.fields a.left.pause
    is_trip = ap (trip_if program t) running ∙ ap (trip_with t) a.is_left

    pub walks_on : Walked (next_alone actors x) (next_trip program t)
    walks_on = subst (λ y. Walked y (next_trip program t)) (sym is_next) (subst (Walked (goes_on actors x a.left.event a.left.fields (pause_of a.left.pause))) (sym is_trip)
        (by a.left.event.box a.left.event.levels a.left.fields a.has a.left.pause a.leaves a.holds))

    pub counts : (next_trip program t).tour.segments ≡ suc t.tour.segments
    counts = ap (λ (u : Trip). u.tour.segments) is_trip ∙ halted_counts t.tour a.left.event.box a.left.fields a.left.pause

  -- once it is over both stay
  stays : (x : One) (r : EventResult) → x.result ≡ Some r → next_alone actors x ≡ x
  stays x r e = ap (segment_if actors x) e

  pub trip_stays : (t : Trip) (r : EventResult) → t.tour.result ≡ Some r → next_trip program t ≡ t
  trip_stays t r e = ap (trip_if program t) e

  next_walked : (x : One) (t : Trip) → Walked x t → Walked (next_alone actors x) (next_trip program t)
  next_walked x t (done r e f) = subst (λ y. Walked y (next_trip program t)) (sym (stays x r e)) (subst (Walked x) (sym (trip_stays t r (sym f.result ∙ e))) (done r e f))
  next_walked x t (going p n w) = walks_on p n x t w

  module _ (call : Call) (ticket : ℕ) (tree : Tree Fields) (is_job : IsJob program call) (has : HasTree program tree) where
    pub first_walked : Walked (first_alone actors call ticket tree) (first_trip program call tree)
    unfolding first_box
    first_walked =
        let s = begins program fit verified call is_job.0 is_job.1 in
        going [] 0 (record { follows = record { actor = refl; at = refl; held = λ e q. refl; entered = refl; tree = refl; result = refl }; running = refl; stands = s; tree = has })

    pub all_walked : (n : ℕ) → Walked (after_segments actors n (first_alone actors call ticket tree)) (trip_after program n (first_trip program call tree))
    unfolding after_segments trip_after
    all_walked zero = first_walked
    all_walked (suc n) = next_walked _ _ (all_walked n)
