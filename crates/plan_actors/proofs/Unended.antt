-- What stands for no result is no job's.
use Rattle.std.proofs.Common.{◌≡◌, ◌≢◌, ℕ, Bool, true, false, if◌then◌else◌, [], refl, sym, ◌∙◌, ap}
use Rattle.wave_base.specs.declared.numbers.Host.{Host}
use Rattle.wave_base.specs.declared.outcome.EventResult.{EventResult}
use Rattle.wave_base.specs.declared.outcome.Outcome.{Outcome}
use Rattle.wave_base.specs.declared.outcome.Outcome.TheVariants as out
use Rattle.wave_base.specs.declared.path.Path.{Path}
use Rattle.wave_base.specs.declared.script.Line.{Line}
use Rattle.wave_base.specs.declared.script.Line.TheVariants.{Request, Move, Snapshot}
use Rattle.wave_base.specs.Fold.{Ran}
use Rattle.wave_base.specs.Tree.{Tree, there}
use Rattle.script_fold.specs.Lines.{FitsJob, line_by}
use Rattle.service_code.specs.declared.program.Program.{Program}
use Rattle.service_verify.specs.Fit.{IsFit}
use Rattle.service_verify.specs.Points.{IsVerified}
use Rattle.wave_states.specs.Alone.{run_alone}
use Rattle.wave_theory.proofs.Basics.{clash}
use Rattle.code_actor.specs.CodeActors as code
use Rattle.code_actor.specs.CodeActors.{Fields, no_result}
use Rattle.plan_actors.specs.Calls.{code_ran, IsTree}
use Rattle.plan_actors.specs.PlanActors.{plan_actors}
use Rattle.plan_actors.proofs.Coded.{ended}
use Rattle.plan_actors.proofs.Jobs.{runs_line}
use Rattle.plan_actors.proofs.Spawning.{is_event_end}

moved_not : (p : Path) (h : Host) → ◌≡◌ {A = Outcome} (out.Moved p h) (out.Absent []) → ⊥
moved_not p h e = cc

absent_root : (p : Path) → ◌≡◌ {A = Outcome} (out.Absent p) (out.Absent []) → p ≡ []
absent_root p e = cc

module _ (program : Program) (fit : IsFit program) (verified : IsVerified program) (ticket : ℕ) (tree : Tree Fields) (is : IsTree program tree) where
  move_not : (p : Path) (h : Host) (b : Bool) → there tree p ≡ b → ◌≡◌ {A = Outcome} (if b then out.Moved p h else out.Absent p) (out.Absent []) → ⊥
  move_not p h true t e = moved_not p h e
  move_not p h false t e = clash (there tree []) is.root (ap (there tree) (sym (absent_root p e)) ∙ t)

  line_not : (l : Line) → FitsJob (code.IsJob program) l → (line_by (code_ran program) ticket tree l).result ≢ no_result
  line_not (Request call) job e = clash (is_event_end (code_ran program tree call).result.outcome) (ended program fit verified tree call is job).own (ap (λ (r : EventResult). is_event_end r.outcome) e)
  line_not (Move p h) job e = move_not p h (there tree p) refl (ap (λ (r : EventResult). r.outcome) e)
  line_not Snapshot job e = shots_not (ap (λ (r : EventResult). r.outcome) e)
    where
      shots_not : {s : _} → ◌≡◌ {A = Outcome} (out.Shots s) (out.Absent []) → ⊥
      shots_not e = cc

  pub never_unended : (l : Line) → FitsJob (code.IsJob program) l → (run_alone (plan_actors program) ticket tree l).result ≢ no_result
  never_unended l job e = line_not l job (sym (ap (λ (x : Ran Fields EventResult). x.result) (runs_line program fit verified ticket tree is l job)) ∙ e)
