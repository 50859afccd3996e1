-- A run stays few: its tree grows by what its lines may add at most, and there are no more results than jobs.
use Rattle.std.proofs.Common.{◌≡◌, ◌≤◌, ◌+◌, ◌-◌, ◌*◌, ℕ, zero, suc, List, [], ◌∷◌, length, map, sum_by, Option, Some, None, All, refl, sym, ap, subst, ◌∙◌, arith, mul-le-mul_right}
use Rattle.std.proofs.lemmas.List.{length-map}
use Rattle.std.proofs.lemmas.List.Elements.{All-head, All-map, All-weaker}
use Rattle.std.proofs.lemmas.List.Sums.{sum_by-cons, sum_by-le}
use Rattle.wave_base.specs.declared.limits.TheConstants.{CONTEXTS, GENERATION, SAVED_TICKET, SPAWNS}
use Rattle.wave_base.specs.declared.call.Call.{Call}
use Rattle.wave_base.specs.declared.finished.Finished.{Finished}
use Rattle.wave_base.specs.declared.outcome.EventResult.{EventResult}
use Rattle.wave_base.specs.declared.script.Line.{Line}
use Rattle.wave_base.specs.declared.script.Line.TheVariants.{Request, Move, Snapshot}
use Rattle.wave_base.specs.declared.script.Script.{Script}
use Rattle.wave_base.specs.declared.shape.Shape.{Shape}
use Rattle.wave_base.specs.declared.start.Start.{Start}
use Rattle.wave_base.specs.declared.value.Value.{Value}
use Rattle.wave_base.specs.Fold.{Progress, next_job, with_job, one_more, created_lines}
use Rattle.wave_base.specs.Scripts.{IsScript}
use Rattle.wave_base.specs.Starts.{IsStart, first_start}
use Rattle.wave_base.specs.Tree.{Tree, shots}
use Rattle.resolved_service.specs.Jobs.{shot_of}
use Rattle.script_fold.specs.Lines.{Meaning, line_by, most_events, most_of, most_jobs, FitsJob}
use Rattle.script_fold.specs.Owed.{Owed}
use Rattle.script_fold.specs.Runs.{after_jobs, whole_run, finished_of, start_after, IsFew}
use Rattle.script_fold.proofs.FoldLemmas.{IsGood, good_after}
use Rattle.script_fold.proofs.LeftLemmas.{All-drop_head, most_lines, most_some}
use Rattle.fold_laws.specs.Growth.{most_added, most_contexts, GrowsBy, StaysFew}
use Rattle.fold_laws.proofs.Measures.{left_by, first_left, done_left}

-- ---- what created calls may add

-- a request adds so many times what its jobs are
added_times : (cs : List Call) → sum_by most_added (map (λ c. Request c) cs) ≡ CONTEXTS * sum_by most_of (map (λ c. Request c) cs)
added_times [] = refl
added_times (c ∷ cs) = omega (arith, added_times cs, sum_by-cons most_added (Request c) (map (λ c. Request c) cs), sum_by-cons most_of (Request c) (map (λ c. Request c) cs))

module _ (shape : Shape) (meaning : Meaning) (FitsTree : Tree (List Value) → Type 0) (FitsCall : Call → Type 0) (owed : Owed shape meaning FitsTree FitsCall) where
  -- a call and all that it creates are within its own number
  calls_most : (g : ℕ) (created : List Call) → All FitsCall created → All (λ (d : Call). d.generation ≡ suc g) created → length created ≤ SPAWNS → sum_by most_of (map (λ c. Request c) created) + 1 ≤ most_events (GENERATION - g)
  unfolding most_events
  calls_most g [] fit later few = most_some (GENERATION - g)
  calls_most g (d ∷ ds) fit later few =
      let last : d.generation ≤ GENERATION = owed.last d (All-head FitsCall d ds fit) in
      let first_is : d.generation ≡ suc g = All-head (λ (d : Call). d.generation ≡ suc g) d ds later in
      let step : GENERATION - g ≡ suc (GENERATION - suc g) = omega (arith, last, first_is) in
      let each : All (λ (d : Call). most_of (Request d) ≤ most_events (GENERATION - suc g)) (d ∷ ds) = All-weaker (λ (d : Call). d.generation ≡ suc g) (λ (d : Call). most_of (Request d) ≤ most_events (GENERATION - suc g))
      (λ (c : Call) e. let same : most_events (GENERATION - c.generation) ≡ most_events (GENERATION - suc g) = ap (λ n. most_events (GENERATION - n)) e in omega (arith, same)) (d ∷ ds) later in
      let sum : sum_by most_of (map (λ c. Request c) (d ∷ ds)) ≤ length (map (λ (c : Call). Request c) (d ∷ ds)) * most_events (GENERATION - suc g) =
      sum_by-le most_of (most_events (GENERATION - suc g)) (map (λ (c : Call). Request c) (d ∷ ds)) (All-map (λ l. most_of l ≤ most_events (GENERATION - suc g)) (λ (c : Call). Request c) (d ∷ ds) each) in
      let count : length (map (λ (c : Call). Request c) (d ∷ ds)) ≤ SPAWNS = subst (λ n. n ≤ SPAWNS) (sym (length-map (d ∷ ds) (λ (c : Call). Request c))) few in
      let bound : length (map (λ (c : Call). Request c) (d ∷ ds)) * most_events (GENERATION - suc g) ≤ SPAWNS * most_events (GENERATION - suc g) = mul-le-mul_right (most_events (GENERATION - suc g)) count in
      subst (λ n. sum_by most_of (map (λ c. Request c) (d ∷ ds)) + 1 ≤ most_events n) (sym step) (omega (arith, sum, bound))

  module _ (grows : GrowsBy meaning FitsTree FitsCall) where
    -- what a job adds to the tree, and what those may add that it creates, is within its own number
    line_adds : (ticket : ℕ) (t : Tree (List Value)) → FitsTree t → (l : Line) → FitsJob FitsCall l →
        length (line_by meaning ticket t l).tree.paths + sum_by most_added (created_lines (line_by meaning ticket t l).result) ≤ length t.paths + most_added l
    line_adds ticket t f (Request call) h =
        let times = added_times (meaning t call).result.created in
        let most : sum_by most_of (map (λ c. Request c) (meaning t call).result.created) + 1 ≤ most_of (Request call) = calls_most call.generation (meaning t call).result.created (owed.created t call f h) (owed.later t call f h) (owed.few t call f h) in
        omega (arith, grows t call f h, times, most)
    line_adds ticket t f (Move p k) h = omega arith
    line_adds ticket t f Snapshot h = omega arith

    module _ (start : Start) (script : Script) (is_script : IsScript shape script) (is_start : IsStart shape script.hosts start) where
      abbrev at : ℕ → Progress (List Value) EventResult Line
      at n = after_jobs meaning shape start script n

      Good : Progress (List Value) EventResult Line → Type 0
      Good w = IsGood shape meaning FitsTree FitsCall owed start script w

      -- the contexts that are there, and those that may still be added
      IsWithin : Progress (List Value) EventResult Line → Type 0
      IsWithin w = length w.tree.paths + left_by most_added w.head ≤ length start.shots + most_contexts script.batches

      within_more : (w : Progress (List Value) EventResult Line) → Good w → IsWithin w → IsWithin (one_more start.next.0 (line_by meaning) created_lines w)
      unfolding Good IsWithin
      within_more w good h = by_job (next_job w.head) refl
        where
          by_job : (o : Option Line) → next_job w.head ≡ o → IsWithin (with_job start.next.0 (line_by meaning) created_lines w o)
          by_job None e = h
          by_job (Some j) e =
              let ticket = start.next.0 + w.head.done in
              let x = line_by meaning ticket w.tree j in
              let fits : FitsJob FitsCall j = All-drop_head (FitsJob FitsCall) w.head.known w.head.done j e good.known in
              let adds = line_adds ticket w.tree good.tree j fits in
              let left = done_left most_added w.head j (created_lines x.result) e in
              omega (arith, h, adds, left)

      within_after : (n : ℕ) → IsWithin (at n)
      unfolding Good IsWithin
      within_after zero =
          let first = first_left most_added script.batches in
          let all : length (map (λ s. s.path) start.shots) ≡ length start.shots = length-map start.shots (λ s. s.path) in
          omega (arith, first, all)
      within_after (suc n) = within_more (at n) (good_after shape meaning FitsTree FitsCall owed start script is_script is_start n) (within_after n)

      -- however far it has come
      pub contexts_after : (n : ℕ) → length (at n).tree.paths ≤ length start.shots + most_contexts script.batches
      unfolding IsWithin
      contexts_after n = omega (arith, within_after n)

      shots_long : (t : Tree (List Value)) → length (map shot_of (shots t)) ≡ length t.paths
      shots_long t = length-map (shots t) shot_of ∙ length-map t.paths (λ p. (p, t.fields p))

      pub stays_few : StaysFew start script.batches (finished_of meaning shape start script)
      unfolding whole_run
      stays_few =
          let n = most_jobs script.batches in
          let good = good_after shape meaning FitsTree FitsCall owed start script is_script is_start n in
          let long = shots_long (at n).tree in
          record {
            contexts = omega (arith, contexts_after n, long);
            results = omega (arith, good.results, good.left);
          }

-- ---- what lines may add

added_small : (l : Line) → most_added l ≤ CONTEXTS * most_of l
added_small (Request call) = omega arith
added_small (Move p h) = omega arith
added_small Snapshot = omega arith

batch_added : (b : List Line) → sum_by most_added b ≤ CONTEXTS * sum_by most_of b
batch_added [] = omega arith
batch_added (l ∷ b) = omega (arith, batch_added b, added_small l, sum_by-cons most_added l b, sum_by-cons most_of l b)

batches_added : (batches : List (List Line)) → most_contexts batches ≤ CONTEXTS * most_jobs batches
batches_added [] = omega arith
batches_added (b ∷ bs) = omega (arith, batches_added bs, batch_added b, sum_by-cons (sum_by most_added) b bs, sum_by-cons (sum_by most_of) b bs)

pub most_lines_add : (batches : List (List Line)) → most_contexts batches ≤ sum_by length batches * 87296
most_lines_add batches = omega (arith, batches_added batches, most_lines batches)

-- ---- of a script that fits, from the root alone

module _ (shape : Shape) (script : Script) (is : IsScript shape script) where
  pub script_jobs : most_jobs script.batches ≤ 1364000
  script_jobs = omega (arith, most_lines script.batches, is.few_lines)

  pub script_contexts : most_contexts script.batches ≤ 349184000
  script_contexts = omega (arith, most_lines_add script.batches, is.few_lines)

  pub script_saved : (f : Finished) → StaysFew (first_start shape) script.batches f → IsFew (start_after (first_start shape) f) × ((start_after (first_start shape) f).next.0 ≤ SAVED_TICKET)
  script_saved f few = ((omega (arith, few.contexts, script_contexts), omega (arith, few.results, script_jobs)), omega (arith, few.results, script_jobs))
