-- A script on bounded contexts gives bounded results and leaves such contexts: the fold of its jobs keeps all so.
use Rattle.std.proofs.Common.{◌≡◌, ◌+◌, ℕ, zero, suc, Bool, true, false, if◌then◌else◌, List, [], ◌∷◌, map, slice_get, zip, Option, Some, None, All, FitsSigned, w64, refl, arith}
use Rattle.std.proofs.lemmas.List.Elements.{All-append, All-cons, All-filter, All-head, All-map, All-nil, All-push, All-tail, All-weaker}
use Rattle.std.proofs.lemmas.Map.Views.{All-insert_key}
use Rattle.wave_base.proofs.Lists.{all_at}
use Rattle.wave_base.specs.declared.call.Call.{Call}
use Rattle.wave_base.specs.declared.outcome.EventResult.{EventResult}
use Rattle.wave_base.specs.declared.outcome.Outcome.TheVariants as out
use Rattle.wave_base.specs.declared.path.Path.{Path}
use Rattle.wave_base.specs.declared.path.Step.{Step}
use Rattle.wave_base.specs.declared.script.Line.{Line}
use Rattle.wave_base.specs.declared.script.Line.TheVariants.{Request, Move, Snapshot}
use Rattle.wave_base.specs.declared.script.Script.{Script}
use Rattle.wave_base.specs.declared.shape.ClassInfo.{ClassInfo}
use Rattle.wave_base.specs.declared.shape.Shape.{Shape}
use Rattle.wave_base.specs.declared.shot.Shot.{Shot}
use Rattle.wave_base.specs.declared.start.Start.{Start}
use Rattle.wave_base.specs.declared.value.Value.{Value}
use Rattle.wave_base.specs.Fold.{Head, Progress, created_lines, first_head, first_progress, next_job, one_more, with_done, with_job}
use Rattle.wave_base.specs.Paths.{path_cmp, path_eq, parent_of}
use Rattle.wave_base.specs.Places.{after_job, move_of, places_after, with_context, with_contexts, with_move}
use Rattle.wave_base.specs.Shapes.{IsShape, fields_in, fields_of_class, is_path}
use Rattle.wave_base.specs.Starts.{IsStart, first_start, shown_fields, start_places, start_tree}
use Rattle.wave_base.specs.Tree.{Tree, enter, put, shots, there}
use Rattle.resolved_service.specs.declared.service.Resolved.{Resolved}
use Rattle.resolved_service.specs.Jobs.{fronts, shot_of}
use Rattle.service_verify.proofs.Classes.{short_path}
use Rattle.script_fold.proofs.LeftLemmas.{All-drop_head, Next, done_next, grown, next_keeps}
use Rattle.script_fold.specs.Lines.{line_by, most_jobs}
use Rattle.script_fold.specs.Runs.{after_jobs, hosts_after, place_of, whole_run}
use Rattle.path_text.specs.Found.{HasKeys}
use Rattle.snapshot_text.specs.Shots.{AreShots, IsValue}
use Rattle.checkpoint_store.proofs.PointLemmas.{are_shots}
use Rattle.wave_meaning.specs.Meaning.{call_ran, results_at}
use Rattle.value_laws.specs.Laws.{CallsAreBounded}
use Rattle.value_laws.specs.Values.{AreValues, BoundedCall, BoundedClass, BoundedContexts, BoundedFinished, BoundedLine, BoundedMessage, BoundedOutcome, BoundedPlace, BoundedRan, BoundedResult, BoundedScript, BoundedShape, BoundedShot, BoundedStart, IsKeyed}

root_keyed : IsKeyed []
root_keyed = All-nil (λ (s : Step). FitsSigned w64 s.key)

-- ---- what contexts begin with

module _ (shape : Shape) (bounded : BoundedShape shape) where
  initial_bounded : (class : ℕ) → AreValues (fields_of_class shape class)
  initial_bounded class = by (slice_get shape.classes class) refl
    where
      by : (o : Option ClassInfo) → slice_get shape.classes class ≡ o → AreValues (map (λ f. f.initial) (fields_in o))
      by None e = All-nil IsValue
      by (Some c) e = All-map IsValue (λ f. f.initial) c.fields (all_at BoundedClass shape.classes class c e bounded)

  shown_bounded : (ss : List Shot) → All BoundedShot ss → (p : Path) → AreValues (shown_fields shape ss p)
  shown_bounded [] h p = initial_bounded _
  shown_bounded (s ∷ ss) h p =
      let first : BoundedShot s = All-head BoundedShot s ss h in
      elim (path_eq s.path p) as (λ b. AreValues (if b then s.fields else shown_fields shape ss p)) [ true ↦ first.fields | false ↦ shown_bounded ss (All-tail BoundedShot s ss h) p ]

  tree_bounded : (start : Start) → BoundedStart start → BoundedContexts (start_tree shape start)
  tree_bounded start h = record {
    fields = shown_bounded start.shots h.shots;
    paths = All-map IsKeyed (λ (s : Shot). s.path) start.shots (All-weaker BoundedShot (λ (s : Shot). IsKeyed s.path) (λ s b. b.path) start.shots h.shots);
  }

  pub first_bounded : BoundedStart (first_start shape)
  first_bounded = record {
    shots = All-cons BoundedShot _ [] (record { path = root_keyed; fields = initial_bounded 0 }) (All-nil BoundedShot);
    places = All-cons BoundedPlace _ [] root_keyed (All-nil BoundedPlace);
  }

-- ---- one job

shots_bounded : (t : Tree (List Value)) → BoundedContexts t → All BoundedShot (map shot_of (shots t))
shots_bounded t h =
    All-map BoundedShot shot_of (shots t)
    (All-map (λ x. BoundedShot (shot_of x)) (λ p. (p, t.fields p)) t.paths
    (All-weaker IsKeyed (λ p. BoundedShot (shot_of (p, t.fields p))) (λ p k. record { path = k; fields = h.fields p }) t.paths h.paths))

fronts_keyed : (p : Path) → IsKeyed p → All IsKeyed (fronts p)
fronts_keyed [] k = All-cons IsKeyed [] [] root_keyed (All-nil IsKeyed)
fronts_keyed (s ∷ p) k =
    All-cons IsKeyed [] (map (λ q. s ∷ q) (fronts p)) root_keyed
    (All-map IsKeyed (λ q. s ∷ q) (fronts p)
    (All-weaker IsKeyed (λ q. IsKeyed (s ∷ q)) (λ q f. All-cons (λ (t : Step). FitsSigned w64 t.key) s q (All-head (λ (t : Step). FitsSigned w64 t.key) s p k) f) (fronts p) (fronts_keyed p (All-tail (λ (t : Step). FitsSigned w64 t.key) s p k))))

module _ (service : Resolved) (calls : CallsAreBounded service) where
  line_bounded : (ticket : ℕ) (t : Tree (List Value)) (l : Line) → BoundedContexts t → BoundedLine l → BoundedRan (line_by (call_ran service) ticket t l)
  line_bounded ticket t (Request call) h b = calls t call h b
  line_bounded ticket t (Move p k) h b = record {
    tree = h;
    result = record { outcome = by (there t p); messages = All-nil BoundedMessage; created = All-nil BoundedCall };
    entered = All-filter (there t) IsKeyed (fronts p) (fronts_keyed p b);
  }
    where
      by : (c : Bool) → BoundedOutcome (if c then out.Moved p k else out.Absent p)
      by true = b
      by false = b
  line_bounded ticket t Snapshot h b = record {
    tree = h;
    result = record { outcome = shots_bounded t h; messages = All-nil BoundedMessage; created = All-nil BoundedCall };
    entered = h.paths;
  }

  -- ---- the fold

  record IsBounded (w : Progress (List Value) EventResult Line) : Type 0 where
    tree : BoundedContexts w.tree
    known : All BoundedLine w.head.known
    later : All (All BoundedLine) w.head.later
    results : All BoundedResult w.results
    entered : All (All IsKeyed) w.entered

  module _ (shape : Shape) (bounded : BoundedShape shape) (start : Start) (begins : BoundedStart start) (script : Script) (lines : BoundedScript script) where
    Far : Type 0
    Far = Progress (List Value) EventResult Line

    first_far : IsBounded (first_progress (start_tree shape start) script.batches)
    first_far =
        let h : Head Line = record { known = []; later = script.batches; done = 0 } in
        let next : Next BoundedLine h (first_head script.batches) = next_keeps BoundedLine h (omega arith) in
        record {
          tree = tree_bounded shape bounded start begins;
          known = next.known (All-nil BoundedLine) lines;
          later = next.later lines;
          results = All-nil BoundedResult;
          entered = All-nil (All IsKeyed);
        }

    more_far : (w : Progress (List Value) EventResult Line) → IsBounded w → IsBounded (one_more start.next.0 (line_by (call_ran service)) created_lines w)
    more_far w h = by_job (next_job w.head) refl
      where
        by_job : (o : Option Line) → next_job w.head ≡ o → IsBounded (with_job start.next.0 (line_by (call_ran service)) created_lines w o)
        by_job None e = h
        by_job (Some j) e =
            let x = line_by (call_ran service) (start.next.0 + w.head.done) w.tree j in
            let ran : BoundedRan x = line_bounded (start.next.0 + w.head.done) w.tree j h.tree (All-drop_head BoundedLine w.head.known w.head.done j e h.known) in
            let created : All BoundedLine (created_lines x.result) = All-map BoundedLine (λ (c : Call). Request c) x.result.created (ran.result).created in
            let next : Next BoundedLine (grown w.head (created_lines x.result)) (with_done w.head (created_lines x.result)) = done_next BoundedLine w.head j (created_lines x.result) e in
            record {
              tree = ran.tree;
              known = next.known (All-append BoundedLine w.head.known (created_lines x.result) h.known created) h.later;
              later = next.later h.later;
              results = All-push BoundedResult w.results x.result h.results ran.result;
              entered = All-push (All IsKeyed) w.entered x.entered h.entered ran.entered;
            }

    far : (n : ℕ) → IsBounded (after_jobs (call_ran service) shape start script n)
    far zero = first_far
    far (suc n) = more_far (after_jobs (call_ran service) shape start script n) (far n)

    -- ---- the hosts of contexts

    context_keyed : (t : Tree ℕ) (p : Path) → All IsKeyed t.paths → IsKeyed p → All IsKeyed (with_context t p).paths
    context_keyed t p h k = by (there t p)
      where
        by : (b : Bool) → All IsKeyed (if b then t else put (enter t p) p (t.fields (parent_of p))).paths
        by true = h
        by false = All-insert_key path_cmp p IsKeyed t.paths h k

    contexts_keyed : (t : Tree ℕ) (ps : List Path) → All IsKeyed t.paths → All IsKeyed ps → All IsKeyed (with_contexts t ps).paths
    contexts_keyed t [] h k = h
    contexts_keyed t (p ∷ ps) h k = contexts_keyed (with_context t p) ps (context_keyed t p h (All-head IsKeyed p ps k)) (All-tail IsKeyed p ps k)

    move_keyed : (t : Tree ℕ) (m : Option (Path × ℕ)) → All IsKeyed t.paths → All IsKeyed (with_move t m).paths
    move_keyed t None h = h
    move_keyed t (Some m) h = h

    places_keyed : (t : Tree ℕ) (es : List (List Path)) (ms : List (Option (Path × ℕ))) → All IsKeyed t.paths → All (All IsKeyed) es → All IsKeyed (places_after t (zip es ms)).paths
    places_keyed t [] ms h k = h
    places_keyed t (e ∷ es) [] h k = h
    places_keyed t (e ∷ es) (m ∷ ms) h k =
        places_keyed (after_job t e m) es ms (move_keyed (with_contexts t e) m (contexts_keyed t e h (All-head (All IsKeyed) e es k))) (All-tail (All IsKeyed) e es k)

    places_bounded : (t : Tree ℕ) → All IsKeyed t.paths → All BoundedPlace (map place_of (shots t))
    places_bounded t h = All-map BoundedPlace place_of (shots t) (All-map (λ (x : Path × ℕ). IsKeyed x.0) (λ p. (p, t.fields p)) t.paths h)

    pub script_bounded : BoundedFinished (results_at shape service start script)
    unfolding whole_run
    script_bounded = (let w = after_jobs (call_ran service) shape start script (most_jobs script.batches) in let h = far (most_jobs script.batches) in record {
      results = h.results;
      shots = shots_bounded w.tree h.tree;
      places = places_bounded (hosts_after start w)
          (places_keyed (start_places start) w.entered (map move_of w.results) (All-map IsKeyed (λ x. x.path) start.places begins.places) h.entered);
    })

-- ---- what it leaves

keys_short : (shape : Shape) → IsShape shape → (ss : List Shot) → All BoundedShot ss → All (λ p. is_path shape p ≡ true) (map (λ s. s.path) ss) → All (λ (s : Shot). HasKeys s.path) ss
keys_short shape fit [] h g = All-nil (λ (s : Shot). HasKeys s.path)
keys_short shape fit (s ∷ ss) h g =
    All-cons (λ (s : Shot). HasKeys s.path) s ss
    (record { short = short_path shape fit s.path (All-head (λ p. is_path shape p ≡ true) s.path (map (λ s. s.path) ss) g); keys = (All-head BoundedShot s ss h).path })
    (keys_short shape fit ss (All-tail BoundedShot s ss h) (All-tail (λ p. is_path shape p ≡ true) s.path (map (λ s. s.path) ss) g))

-- a Start that fits and is bounded has the shots of a snapshot
pub starts_are_shots : (shape : Shape) (hosts : ℕ) (start : Start) → IsShape shape → IsStart shape hosts start → All BoundedShot start.shots → AreShots shape start.shots
starts_are_shots shape hosts start fit is h =
    are_shots shape start hosts is (All-weaker BoundedShot (λ (s : Shot). AreValues s.fields) (λ s b. b.fields) start.shots h) (keys_short shape fit start.shots h is.tree.paths)
