use Rattle.std.proofs.Common.{◌≡◌, ◌+◌, ℕ, Some, subst}
use Rattle.std.specs.Prelude.{IfOk, slice_get}
use Rattle.script_fold.specs.Runs.{finished_of}
use Rattle.wave_base.specs.declared.start.Start.{Start}
use Rattle.plan_actors.specs.Calls.{code_ran}
use Rattle.wave_base.specs.declared.shown.Shown.{Shown as Line}
use Rattle.wave_effects.specs.Machines.{Stands, TheState}
use Rattle.wave_machine.specs.Prepared.{Shown}
use Rattle.wave_effects.specs.Showing.{IsLineOf}
use Rattle.wave_machine.proofs.machine.Machine.shown_lines.Goals as goal

pub returns-clause-lines : goal.returns-clause-lines
returns-clause-lines c =
    subst
    (λ (z : Shown). IfOk c.shown_lines.result (λ xs. (start : Start) (s : TheState) → Stands z.kept start s → (i : ℕ) (x : Line) → slice_get xs i ≡ Some x → IsLineOf (finished_of (code_ran z.kept.plan.program) z.kept.plan.program.shape start z.kept.plan.script) (c.args.from + i) x))
    c.self.view_is c.shown_lines.ensures.lines
