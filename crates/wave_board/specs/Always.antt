-- What holds of every state that a board stands for, and what a worker that finds nothing waits for.
use Rattle.std.specs.Prelude.{◌≢◌, ◌<◌, ◌≤◌, ◌+◌, ℕ, suc, List, length}
use Rattle.wave_base.specs.declared.numbers.Worker.{Worker}
use Rattle.wave_base.specs.declared.outcome.EventResult.{EventResult}
use Rattle.wave_base.specs.declared.script.Line.{Line}
use Rattle.wave_states.specs.Alone.{fold_alone}
use Rattle.wave_states.specs.Begins.{Begin}
use Rattle.wave_states.specs.Kinds.{Kind}
use Rattle.wave_theory.specs.NeverStuck.{IsOut}
use Rattle.code_actor.specs.CodeActors.{Fields}
use Rattle.plan_actors.specs.Efforts.{most_labels}
use Rattle.plan_actors.specs.PlanActors.{Actor, plan_actors, plan_kind}
use Rattle.plan_actors.specs.Plans.{Plan, begin_in}
use Rattle.wave_effects.specs.Lengths.{IsMeasured}
use Rattle.wave_effects.specs.Machines.{TheState}
use Rattle.wave_effects.specs.Plans.{plan_of}
use Rattle.wave_board.specs.declared.board.Board.{Board}
use Rattle.wave_board.specs.declared.origin.Origin.{Origin}
use Rattle.wave_board.specs.Boards.{IsAt, labels_of}
use Rattle.wave_board.specs.Taking.{HasNothing, IsFinished, MayTake}

-- the plan that a board runs
abbrev pub the_plan : Origin → Plan
the_plan o = plan_of o.plan.now

-- A law of the theory, at the board's plan and Start.
abbrev pub InBoards : (Kind Actor Fields EventResult Line → ℕ → Begin Fields → List (List Line) → TheState → Type 0) → Type 0
InBoards Law = (o : Origin) (b : Board) (s : TheState) → IsAt b o s → Law (plan_kind (the_plan o).program (the_plan o).script.hosts) (the_plan o).workers (begin_in (the_plan o) o.start.now) (the_plan o).script.batches s

-- another worker has a segment of the ticket out
pub record IsOutElsewhere (s : TheState) (worker : Worker) (ticket : ℕ) : Type 0 where
  pub out : IsOut s ticket
  pub other : out.worker ≢ worker.0

module _ (o : Origin) (s : TheState) (worker : Worker) where
  -- a segment of another worker is out; and where some job is not committed, one of the first ticket that is not, or of one before it
  pub record Awaits : Type 0 where
    pub someone : (ticket : ℕ) × IsOutElsewhere s worker ticket
    pub none_younger : (n : ℕ) → s.head.done < (fold_alone (plan_actors (the_plan o).program) (begin_in (the_plan o) o.start.now) (the_plan o).script.batches n).head.done →
        (ticket : ℕ) × (ticket ≤ suc ((begin_in (the_plan o) o.start.now).before + s.head.done)) × IsOutElsewhere s worker ticket

-- Waits. A worker that has given back what it got, and finds nothing though the run is not finished, waits for a segment of another
-- worker; and never for younger tickets alone.
abbrev pub Waits : Type 0
Waits = (o : Origin) (b : Board) (s : TheState) (worker : Worker) → IsAt b o s → MayTake b worker → (IsFinished b s → ⊥) → HasNothing b worker s → Awaits o s worker

-- Short journals. A journal has at most so many labels, and that of a finished run besides its Passes exactly what the work asks for.
pub record ShortJournals : Type 0 where
  pub most : (o : Origin) (b : Board) (s : TheState) → IsAt b o s → length (labels_of b) ≤ most_labels (the_plan o) o.start.now
  pub whole : (o : Origin) (b : Board) (s : TheState) → IsAt b o s → IsFinished b s → IsMeasured (the_plan o) o.start.now (labels_of b)
