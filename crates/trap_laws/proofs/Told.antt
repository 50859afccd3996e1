-- What holds of where each trap of a call stands holds of each trap that is told of a script.
use Rattle.std.proofs.Common.{◌≡◌, ◌+◌, ℕ, zero, suc, Bool, true, false, List, Option, Some, None}
use Rattle.std.specs.List.{Contains}
use Rattle.std.specs.Prelude.{All, if◌then◌else◌}
use Rattle.std.proofs.lemmas.List.Elements.{All-contains, All-nil, All-push}
use Rattle.wave_base.specs.declared.call.Call.{Call}
use Rattle.wave_base.specs.declared.outcome.EventResult.{EventResult}
use Rattle.wave_base.specs.declared.outcome.Outcome.{Outcome}
use Rattle.wave_base.specs.declared.outcome.Outcome.TheVariants as out
use Rattle.wave_base.specs.declared.script.Line.{Line}
use Rattle.wave_base.specs.declared.script.Line.TheVariants.{Request, Move, Snapshot}
use Rattle.wave_base.specs.declared.script.Script.{Script}
use Rattle.wave_base.specs.declared.shape.Shape.{Shape}
use Rattle.wave_base.specs.declared.span.Span.{Span}
use Rattle.wave_base.specs.declared.start.Start.{Start}
use Rattle.wave_base.specs.declared.trap.Trap.{Trap}
use Rattle.wave_base.specs.declared.value.Value.{Value}
use Rattle.wave_base.specs.Fold.{Progress, created_lines, first_progress, fold_jobs, next_job, with_job}
use Rattle.wave_base.specs.Starts.{start_tree}
use Rattle.wave_base.specs.Tree.{Tree, there}
use Rattle.resolved_service.specs.declared.service.Resolved.{Resolved}
use Rattle.script_fold.specs.Lines.{line_by, most_jobs}
use Rattle.script_fold.specs.Runs.{whole_run}
use Rattle.trap_laws.specs.Traps.{TrapsBy}
use Rattle.wave_meaning.specs.Meaning.{call_ran, results_at}

module _ (service : Resolved) (P : Span → Type 0) (of_calls : (before : Tree (List Value)) (call : Call) (trap : Trap) → TrapsBy service before call trap → P trap.at) where
  abbrev Stands : EventResult → Type 0
  Stands r = (trap : Trap) → r.outcome ≡ out.Trapped trap → P trap.at

  abbrev Far : Type 0
  Far = Progress (List Value) EventResult Line

  no_trap : (b : Bool) (x y : Outcome) (trap : Trap) → (x ≡ out.Trapped trap → ⊥) → (y ≡ out.Trapped trap → ⊥) → (if b then x else y) ≡ out.Trapped trap → ⊥
  no_trap true x y trap f g e = f e
  no_trap false x y trap f g e = g e

  line_stands : (ticket : ℕ) (tree : Tree (List Value)) (l : Line) → Stands (line_by (call_ran service) ticket tree l).result
  line_stands ticket tree (Request call) trap e = of_calls tree call trap e
  line_stands ticket tree (Move p h) trap e = absurd (no_trap (there tree p) (out.Moved p h) (out.Absent p) trap (λ z. cc) (λ z. cc) e)
  line_stands ticket tree Snapshot trap e = cc

  job_stands : (first : ℕ) (w : Far) (o : Option Line) → All Stands w.results → All Stands (with_job first (line_by (call_ran service)) created_lines w o).results
  job_stands first w None h = h
  job_stands first w (Some l) h = (let ran = line_by (call_ran service) (first + w.head.done) w.tree l in All-push Stands w.results ran.result h (line_stands (first + w.head.done) w.tree l))

  fold_stands : (first n : ℕ) (w : Far) → All Stands w.results → All Stands (fold_jobs first (line_by (call_ran service)) created_lines n w).results
  fold_stands first zero w h = h
  fold_stands first (suc n) w h = (let v = fold_jobs first (line_by (call_ran service)) created_lines n w in job_stands first v (next_job v.head) (fold_stands first n w h))

  pub of_scripts : (shape : Shape) (start : Start) (script : Script) (r : EventResult) (trap : Trap) → Contains (results_at shape service start script).results r → r.outcome ≡ out.Trapped trap → P trap.at
  unfolding whole_run
  of_scripts shape start script r trap c =
      All-contains Stands (results_at shape service start script).results r
      (fold_stands start.next.0 (most_jobs script.batches) (first_progress (start_tree shape start) script.batches) (All-nil Stands)) c trap
