-- What holds of a board's journal and of the state to which it leads.
use Rattle.std.specs.Prelude.{ℕ, List}
use Rattle.wave_base.specs.declared.outcome.EventResult.{EventResult}
use Rattle.wave_base.specs.declared.script.Line.{Line}
use Rattle.wave_states.specs.Begins.{Begin}
use Rattle.wave_states.specs.Kinds.{Kind}
use Rattle.wave_states.specs.Labels.{Label}
use Rattle.code_actor.specs.CodeActors.{Fields}
use Rattle.plan_actors.specs.PlanActors.{Actor, plan_kind}
use Rattle.plan_actors.specs.Plans.{begin_in}
use Rattle.wave_effects.specs.Machines.{TheState}
use Rattle.wave_board.specs.declared.board.Board.{Board}
use Rattle.wave_board.specs.declared.origin.Origin.{Origin}
use Rattle.wave_board.specs.Always.{the_plan}
use Rattle.wave_board.specs.Boards.{IsAt, labels_of}

-- A law of whole runs over the labels of a board's journal, at the board's plan and Start.
abbrev pub InBoardsOver : (Kind Actor Fields EventResult Line → ℕ → Begin Fields → List (List Line) → List Label → TheState → Type 0) → Type 0
InBoardsOver Law = (o : Origin) (b : Board) (s : TheState) → IsAt b o s → Law (plan_kind (the_plan o).program (the_plan o).script.hosts) (the_plan o).workers (begin_in (the_plan o) o.start.now) (the_plan o).script.batches (labels_of b) s
