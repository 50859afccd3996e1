-- Two folds whose jobs do the same are the same; and where a script's fold is over.
use Rattle.std.proofs.Common.{◌≡◌, ◌≤◌, ◌<◌, ℕ, zero, suc, ◌+◌, ◌⊎◌, inl, inr, List, [], ◌∷◌, length, drop, sum_by, Option, Some, None, refl, sym, ◌∙◌, ap, arith}
use Rattle.std.proofs.lemmas.List.Sums.{sum_by-cons}
use Rattle.wave_base.specs.declared.call.Call.{Call}
use Rattle.wave_base.specs.declared.outcome.EventResult.{EventResult}
use Rattle.wave_base.specs.declared.script.Line.{Line}
use Rattle.wave_base.specs.declared.script.Line.TheVariants.{Request, Move, Snapshot}
use Rattle.wave_base.specs.declared.script.Script.{Script}
use Rattle.wave_base.specs.declared.shape.Shape.{Shape}
use Rattle.wave_base.specs.declared.start.Start.{Start}
use Rattle.wave_base.specs.declared.value.Value.{Value}
use Rattle.wave_base.specs.Fold.{Ran, Progress, first_progress, with_result, with_job, one_more, next_job, fold_jobs, created_lines}
use Rattle.wave_base.specs.Scripts.{IsScript}
use Rattle.wave_base.specs.Starts.{IsStart, start_tree}
use Rattle.wave_base.specs.Tree.{Tree}
use Rattle.script_fold.specs.Lines.{Meaning, line_by, most_of, most_jobs, FitsJob}
use Rattle.script_fold.specs.Owed.{Owed}
use Rattle.script_fold.specs.Runs.{after_jobs, whole_run, finished_by, finished_of}
use Rattle.script_fold.proofs.FoldLemmas.{IsGood, good_after}
use Rattle.script_fold.proofs.LeftLemmas.{left_in, next_is, batches_most, All-drop_head}
use Rattle.wave_theory.proofs.Basics.{options, none_not}
use Rattle.wave_theory.proofs.Folds.{with_done_done}

module _ {F R J : Type 0} (first other : ℕ) (firsts : first ≡ other) (run ran : ℕ → Tree F → J → Ran F R) (created : R → List J) (w : Progress F R J) (Good : Progress F R J → Type 0)
    (good : (n : ℕ) → Good (fold_jobs other ran created n w)) (alike : (v : Progress F R J) (j : J) → Good v → next_job v.head ≡ Some j → run (other + v.head.done) v.tree j ≡ ran (other + v.head.done) v.tree j) where
  one_alike : (v : Progress F R J) → Good v → one_more first run created v ≡ one_more other ran created v
  one_alike v g = by (next_job v.head) refl
    where
      by : (o : Option J) → next_job v.head ≡ o → with_job first run created v o ≡ with_job other ran created v o
      by None e = refl
      by (Some j) e = ap (λ n. with_result first run created v (run (n + v.head.done) v.tree j)) firsts ∙ ap (with_result other ran created v) (alike v j g e)

  -- the folds of two kinds of jobs that do the same on what one of them comes to
  pub folds_alike : (n : ℕ) → fold_jobs first run created n w ≡ fold_jobs other ran created n w
  folds_alike zero = refl
  folds_alike (suc n) = ap (one_more first run created) (folds_alike n) ∙ one_alike (fold_jobs other ran created n w) (good n)

module _ (shape : Shape) (meaning : Meaning) (FitsTree : Tree (List Value) → Type 0) (FitsCall : Call → Type 0) (owed : Owed shape meaning FitsTree FitsCall) (start : Start) (script : Script) (is_script : IsScript shape script) (is_start : IsStart shape script.hosts start) where
  abbrev at : ℕ → Progress (List Value) EventResult Line
  at n = after_jobs meaning shape start script n

  good : (n : ℕ) → IsGood shape meaning FitsTree FitsCall owed start script (at n)
  good n = good_after shape meaning FitsTree FitsCall owed start script is_script is_start n

  goes_on : (n : ℕ) (j : Line) → next_job (at n).head ≡ Some j → (at (suc n)).head.done ≡ suc (at n).head.done
  goes_on n j e = ap (λ o. (with_job start.next.0 (line_by meaning) created_lines (at n) o).head.done) e ∙ with_done_done (at n).head (created_lines (line_by meaning (start.next.0 + (at n).head.done) (at n).tree j).result)

  over_stays : (n : ℕ) → next_job (at n).head ≡ None → at (suc n) ≡ at n
  over_stays n e = ap (with_job start.next.0 (line_by meaning) created_lines (at n)) e

  -- it is over, or so many jobs are done
  pub over_or_done : (n : ℕ) → (next_job (at n).head ≡ None) ⊎ ((at n).head.done ≡ n)
  over_or_done zero = inr (zero_done (good 0).results)
    where
      zero_done : {a : ℕ} → 0 ≡ a → a ≡ 0
      zero_done e = sym e
  over_or_done (suc n) = elim (options (next_job (at n).head)) [
    | inl z ↦ inl (ap (λ (w : Progress (List Value) EventResult Line). next_job w.head) (over_stays n z) ∙ z)
    | inr z ↦ (elim (over_or_done n) [
      | inl y ↦ absurd (none_not (sym y ∙ z.1))
      | inr y ↦ inr (goes_on n z.0 z.1 ∙ ap suc y)
    ])
  ]

  -- where a job is left, fewer are done than the lines may make
  pub more_left : (n : ℕ) (j : Line) → next_job (at n).head ≡ Some j → (at n).head.done < most_jobs script.batches
  unfolding left_in
  more_left n j e =
      let w : Progress (List Value) EventResult Line = at n in
      let rest : sum_by most_of (drop w.head.done w.head.known) ≡ most_of j + sum_by most_of (drop (suc w.head.done) w.head.known) = ap (sum_by most_of) (next_is w.head.known w.head.done j e) ∙ sum_by-cons most_of j (drop (suc w.head.done) w.head.known) in
      let one : sum_by length ((j ∷ []) ∷ []) ≤ most_jobs ((j ∷ []) ∷ []) = batches_most ((j ∷ []) ∷ []) in
      omega (arith, rest, one, (good n).left)

  -- after as many as the lines may make it is over
  pub most_over : next_job (at (most_jobs script.batches)).head ≡ None
  most_over = elim (options (next_job (at (most_jobs script.batches)).head)) [
    | inl z ↦ z
    | inr z ↦ (elim (over_or_done (most_jobs script.batches)) [
      | inl y ↦ y
      | inr y ↦ absurd (never (most_jobs script.batches) (at (most_jobs script.batches)).head.done y (more_left (most_jobs script.batches) z.0 z.1))
    ])
  ]
    where
      never : (a b : ℕ) → b ≡ a → b < a → ⊥
      never a b e l = omega (arith, e, l)

  pub whole_at : whole_run meaning shape start script ≡ at (most_jobs script.batches)
  unfolding whole_run
  whole_at = refl

  pub stays_long : (n d : ℕ) → next_job (at n).head ≡ None → at (d + n) ≡ at n
  stays_long n zero e = ap at (let z : 0 + n ≡ n = omega arith in z)
  stays_long n (suc d) e =
      let before : at (d + n) ≡ at n = stays_long n d e in
      ap at (let z : suc d + n ≡ suc (d + n) = omega arith in z) ∙ over_stays (d + n) (ap (λ (w : Progress (List Value) EventResult Line). next_job w.head) before ∙ e) ∙ before

  -- and where it is over it is the whole run
  pub over_whole : (n : ℕ) → next_job (at n).head ≡ None → at n ≡ whole_run meaning shape start script
  over_whole n e = sym (stays_long n (most_jobs script.batches) e) ∙ ap at (swap (most_jobs script.batches) n) ∙ stays_long (most_jobs script.batches) n most_over ∙ sym whole_at
    where
      swap : (a b : ℕ) → a + b ≡ b + a
      swap a b = omega arith

-- where calls do the same by two meanings, a script gives the same
module _ (shape : Shape) (meaning other : Meaning) (FitsTree : Tree (List Value) → Type 0) (FitsCall : Call → Type 0) (owed : Owed shape other FitsTree FitsCall) (same : (t : Tree (List Value)) (c : Call) → FitsTree t → FitsCall c → meaning t c ≡ other t c)
    (start : Start) (script : Script) (is_script : IsScript shape script) (is_start : IsStart shape script.hosts start) where
  lines_alike : (ticket : ℕ) (t : Tree (List Value)) → FitsTree t → (l : Line) → FitsJob FitsCall l → line_by meaning ticket t l ≡ line_by other ticket t l
  lines_alike ticket t f (Request call) h = same t call f h
  lines_alike ticket t f (Move p k) h = refl
  lines_alike ticket t f Snapshot h = refl

  Good : Progress (List Value) EventResult Line → Type 0
  Good w = IsGood shape other FitsTree FitsCall owed start script w

  runs_alike : whole_run meaning shape start script ≡ whole_run other shape start script
  unfolding whole_run Good
  runs_alike = folds_alike start.next.0 start.next.0 refl (line_by meaning) (line_by other) created_lines (first_progress (start_tree shape start) script.batches) Good
      (λ n. good_after shape other FitsTree FitsCall owed start script is_script is_start n)
      (λ w l g e. lines_alike (start.next.0 + w.head.done) w.tree g.tree l (All-drop_head (FitsJob FitsCall) w.head.known w.head.done l e g.known)) (most_jobs script.batches)

  pub scripts_alike : finished_of meaning shape start script ≡ finished_of other shape start script
  scripts_alike = ap (finished_by start script) runs_alike
