-- A label on its way into the journal.
use Rattle.std.specs.Prelude.{◌≡◌, true, false, Option, Some, None, is_some}
use Rattle.wave_base.specs.declared.numbers.Worker.{Worker}
use Rattle.wave_labels.specs.declared.label.Label.{Label}
use Rattle.wave_labels.specs.Labels.{label_of}
use Rattle.wave_states.specs.Steps.{step}
use Rattle.plan_actors.specs.PlanActors.{plan_actors}
use Rattle.wave_effects.specs.Machines.{TheState}
use Rattle.wave_effects.specs.Acts.{is_start, is_step}
use Rattle.wave_board.specs.declared.board.Board.{Board}
use Rattle.wave_board.specs.Boards.{InEachState, IsStanding}
use Rattle.wave_board.specs.declared.turn.Turn.{Turn}
use Rattle.wave_board.specs.declared.turn.Turn.TheVariants.{Stepped, Segment}
use Rattle.wave_board.specs.Taking.{HasNothing, IsAppended, IsLeased}

-- the label is enabled in a state
abbrev pub IsEnabled : Board → Label → TheState → Type 0
IsEnabled b l s = is_some (step (plan_actors b.machine.kept.plan.program) b.machine.kept.plan.workers s (label_of l)) ≡ true

-- the label is enabled in the state to which the journal leads, and the workers go on
pub record CanAppend (b : Board) (l : Label) : Type 0 where
  pub standing : IsStanding b
  pub enabled : InEachState b (IsEnabled b l)
  pub goes_on : b.word ≡ None

-- it is this worker's, enabled, and no Stop
pub record IsChoice (b : Board) (worker : Worker) (l : Label) : Type 0 where
  pub enabled : InEachState b (IsEnabled b l)
  pub own : l.worker ≡ worker
  pub kind : is_start l.act ≡ false → is_step l.act ≡ true

-- one that is, or none where the worker can take none
abbrev pub Chooses : Board → Worker → Option Label → Type 0
Chooses b worker None = InEachState b (HasNothing b worker)
Chooses b worker (Some l) = IsChoice b worker l

-- the label was appended, and this is given for it: a segment for a Start, else the label
abbrev pub Appends : Board → Label → Board → Turn → Type 0
Appends b l b' (Stepped m) = IsAppended b b' l × (m ≡ l) × (is_step l.act ≡ true)
Appends b l b' (Segment lease) = IsAppended b b' l × IsLeased b b' l lease
Appends b l b' _ = ⊥
