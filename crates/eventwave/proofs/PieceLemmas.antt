-- A piece of a script with policies, by whatever runs it.
use Rattle.std.proofs.Common.{◌≡◌, ◌∙◌, ◌≤◌, ◌-◌, ◌^◌, arith, Bool, false, List, ℕ, length, Option, ap, refl, sym, subst}
use Rattle.std.proofs.KnownBytes.{Appends-nil}
use Rattle.std.specs.List.Sorted.{IsStrictlySortedBy}
use Rattle.std.specs.Prelude.{map}
use Rattle.wave_base.specs.declared.finished.Finished.{Finished}
use Rattle.wave_base.specs.declared.numbers.Ticket.{Ticket}
use Rattle.wave_base.specs.declared.outcome.EventResult.{EventResult}
use Rattle.wave_base.specs.declared.shape.Shape.{Shape}
use Rattle.wave_base.specs.declared.start.Start.{Start}
use Rattle.wave_base.specs.Paths.{path_cmp}
use Rattle.wave_base.specs.Scripts.{IsScript}
use Rattle.wave_base.specs.Starts.{IsStart}
use Rattle.wave_io.specs.Streams.{AppendsFront}
use Rattle.resolved_service.specs.declared.service.Resolved.{Resolved}
use Rattle.script_fold.specs.Lines.{Meaning}
use Rattle.script_fold.specs.Runs.{finished_of}
use Rattle.wave_meaning.specs.Meaning.{IsFit, call_ran}
use Rattle.plan_actors.specs.Plans.{Plan}
use Rattle.elastic_policy.specs.declared.progress.Progress.TheVariants.{Kept}
use Rattle.elastic_policy.specs.Stages.{Staged, IsStaged, MayFollow, staged_after, with_no_loads}
use Rattle.due_parts.specs.Runs.{nearest_workers}
use Rattle.due_parts.specs.Told.{any_trap}
use Rattle.due_stages.specs.Listed.{events_from}
use Rattle.due_answer.specs.declared.task.Engine.{Engine}
use Rattle.due_answer.specs.declared.task.Engine.TheVariants.{Evaluator, Drive, Workers}
use Rattle.due_answer.specs.Tasks.{workers_of}
use Rattle.eventwave.specs.declared.made.Made.{Made}
use Rattle.eventwave.specs.inner.Engines.{CanMake, IsMade, given_by, is_alone}
use Rattle.eventwave.specs.inner.Stages.{CanRunPiece, IsBehind, IsPieceMade}
use Rattle.eventwave.proofs.MadeLemmas.{evaluated, lines_by}

-- before anything was written
pub nothing_yet : (out : Option (List ℕ)) (bytes : List ℕ) → AppendsFront out out bytes
nothing_yet out bytes = (0, Appends-nil out)

-- an engine that doesn't run on the thread of the caller is a number of workers
pub crewed : (engine : Engine) → is_alone engine ≡ false → Workers (workers_of engine) ≡ engine
crewed Evaluator e = cc
crewed (Drive n rule) e = cc
crewed (Workers n) e = refl

module _ (service : Resolved) (plan : Plan) (s : Staged) (can : CanRunPiece service plan s) where
  abbrev ran : Finished
  ran = given_by plan s.start

  pub shots_ordered : IsStrictlySortedBy path_cmp (map (λ x. x.path) s.start.shots)
  shots_ordered = can.can.begins.tree.ordered

  -- ---- on a Start of its own

  module _ (kept : Staged) (same : kept ≡ s) where
    pub kept_staged : IsStaged kept
    kept_staged = subst IsStaged (sym same) can.staged

    pub kept_follows : MayFollow kept (given_by plan kept.start)
    kept_follows = subst (λ (x : Staged). MayFollow x (given_by plan x.start)) (sym same) can.follows

    pub kept_behind : (after : Staged) (trapped : Bool) → after ≡ staged_after kept (given_by plan kept.start) → IsStaged after → trapped ≡ any_trap (given_by plan kept.start).results
        → IsBehind plan s (record { program = plan.program; stages = Kept after; trapped = trapped })
    kept_behind after trapped is staged traps = record {
      program = refl;
      after = is ∙ ap (λ (x : Staged). staged_after x (given_by plan x.start)) same;
      staged = staged;
      trapped = traps ∙ ap (λ (x : Staged). any_trap (given_by plan x.start).results) same;
    }

    module _ (start : Start) (from : start ≡ kept.start) where
      pub kept_can : CanMake service plan start
      kept_can = subst (CanMake service plan) (sym (from ∙ ap (λ (x : Staged). x.start) same)) can.can

      pub kept_lines : lines_by plan start ≡ lines_by plan s.start
      kept_lines = ap (lines_by plan) (from ∙ ap (λ (x : Staged). x.start) same)

      pub kept_made : (engine : Engine) (made : Made) → plan.workers ≡ nearest_workers (workers_of engine) → IsMade engine plan start made → IsPieceMade engine plan kept.start made
      kept_made engine made workers is = record { workers = workers; made = subst (λ x. IsMade engine plan x made) from is }

  -- ---- on a tree, by one who runs its calls as the service means them

  module _ (live : Staged) (same : live ≡ with_no_loads s) where
    start_is : live.start ≡ s.start
    start_is = ap (λ (x : Staged). x.start) same

    pub live_ticket : (first : Ticket) → first ≡ live.start.next → 1 ≤ first.0
    live_ticket first f = subst (λ (t : Ticket). 1 ≤ t.0) (sym (f ∙ ap (λ (x : Start). x.next) start_is)) can.can.begins.first_next

    module _ (shape : Shape) (meaning : Meaning) (e : shape ≡ plan.program.shape) (m : meaning ≡ call_ran service) where
      abbrev done : Finished
      done = finished_of meaning shape live.start plan.script

      gives : done ≡ ran
      gives = (λ i. finished_of (m i) (e i) (start_is i) plan.script) ∙ sym (evaluated service plan s.start can.can)

      pub live_script : IsScript shape plan.script
      live_script = subst (λ x. IsScript x plan.script) (sym e) can.can.fits.script

      pub live_start : IsStart shape plan.script.hosts live.start
      live_start = subst (λ (x : Shape × Start). IsStart x.0 plan.script.hosts x.1) (sym (λ i. (e i, start_is i))) can.can.begins

      pub live_follows : MayFollow live done
      live_follows = subst (MayFollow live) (sym gives) (subst (λ x. MayFollow x ran) (sym same) (record { placed = can.follows.placed; few = can.follows.few }))

      pub live_few : (results : List EventResult) → results ≡ done.results → length results ≤ 2 ^ 32 - 1
      live_few results r =
          let same : length results ≡ length ran.results = ap length r ∙ ap (λ (f : Finished). length f.results) gives in
          omega (arith, same, can.can.few, can.can.begins.first_next)

      pub live_lines : (first : Ticket) (written : Shape) → first ≡ live.start.next → written ≡ plan.program.shape → events_from written first.0 done ≡ lines_by plan s.start
      live_lines first written f w = λ i. events_from (w i) ((f ∙ ap (λ (x : Start). x.next) start_is) i).0 (gives i)

      pub live_after : (after : Staged) → after ≡ staged_after live done → after ≡ staged_after s ran
      live_after after is = is ∙ (λ i. staged_after (same i) (gives i))

      pub live_traps : (trapped : Bool) (results : List EventResult) → trapped ≡ any_trap results → results ≡ done.results → trapped ≡ any_trap ran.results
      live_traps trapped results traps r = traps ∙ ap any_trap r ∙ ap (λ (f : Finished). any_trap f.results) gives

-- the evaluator may run it
pub evaluator_fits : (service : Resolved) (plan : Plan) (s : Staged) (shape : Shape) → CanRunPiece service plan s → shape ≡ plan.program.shape → IsFit shape service
evaluator_fits service plan s shape can e = subst (λ x. IsFit x service) (sym e) (can.can.code.typed.shape_is, can.can.code.fits)
