-- What a worker gets from a board.
use Rattle.std.specs.Prelude.{◌≡◌, ◌<◌, ◌++◌, ◌∷◌, [], Bool, true, false, List, length, Some, None, option_map}
use Rattle.std.specs.List.{filter}
use Rattle.wave_base.specs.declared.numbers.Worker.{Worker}
use Rattle.wave_labels.specs.declared.label.Act.TheVariants as act
use Rattle.wave_labels.specs.declared.label.Label.{Label}
use Rattle.wave_labels.specs.Labels.{act_of}
use Rattle.wave_states.specs.Labels as theory
use Rattle.wave_states.specs.Runs as runs
use Rattle.wave_states.specs.Steps.{step}
use Rattle.plan_actors.specs.PlanActors.{plan_actors}
use Rattle.kept_lock.specs.History.{entries_of}
use Rattle.wave_effects.specs.declared.lease.Lease.{Lease}
use Rattle.wave_effects.specs.Actors.{MayRun}
use Rattle.wave_effects.specs.Machines.{TheState}
use Rattle.wave_effects.specs.Acts.{is_step}
use Rattle.wave_effects.specs.Running.{IsInHand}
use Rattle.wave_board.specs.declared.board.Board.{Board}
use Rattle.wave_board.specs.declared.origin.Origin.{Origin}
use Rattle.wave_board.specs.declared.trail.Trail.{Trail}
use Rattle.wave_board.specs.declared.trail.Trail.TheVariants.{Step, Halt}
use Rattle.wave_board.specs.declared.turn.Turn.{Turn}
use Rattle.wave_board.specs.declared.turn.Turn.TheVariants.{Stepped, Segment, Nothing, Finished, Stopped}
use Rattle.wave_board.specs.Boards.{IsAt, InEachState, history_of, owner_of}

-- a segment begins, or ends
abbrev pub begins : Trail → Bool
begins (Step l) = theory.is_start (act_of l.act)
begins (Halt worker why) = false

abbrev pub ends : Trail → Bool
ends (Step l) = theory.is_stop (act_of l.act)
ends (Halt worker why) = false

-- as many Stops as Starts
abbrev pub AreEven : List Trail → Type 0
AreEven entries = length (filter begins entries) ≡ length (filter ends entries)

-- it is one of the plan's workers, and has given back each segment that it got
pub record MayTake (b : Board) (worker : Worker) : Type 0 where
  pub is_worker : worker.0 < b.machine.kept.plan.workers
  pub gave : AreEven (entries_of owner_of worker.0 (history_of b))

-- nothing can be done any more, and no segment is out
abbrev pub IsFinished : Board → TheState → Type 0
IsFinished b s = runs.Finished (plan_actors b.machine.kept.plan.program) b.machine.kept.plan.workers s

-- this worker can take no label
abbrev pub HasNothing : Board → Worker → TheState → Type 0
HasNothing b worker s = (l : theory.Label) → l.worker ≡ worker.0 → step (plan_actors b.machine.kept.plan.program) b.machine.kept.plan.workers s l ≡ None

-- the label was appended. The board stands for the state after it, so it was enabled.
pub record IsAppended (before after : Board) (l : Label) : Type 0 where
  pub goes_on : before.word ≡ None
  pub history : history_of after ≡ history_of before ++ Step l ∷ []

-- the label is the Start of this lease, which is what the worker has in its hand after it; and a segment of it may run
pub record IsLeased (before after : Board) (l : Label) (lease : Lease) : Type 0 where
  pub act : l.act ≡ act.Start lease.ticket lease.path
  pub worker : lease.worker ≡ l.worker
  pub in_hand : (o : Origin) (s s' : TheState) → IsAt before o s → IsAt after o s' → IsInHand after.machine.kept.plan.program lease (s'.hands lease.worker.0)
  pub may_run : MayRun after.machine.kept.plan.program lease.actor lease.body

module _ (before : Board) (worker : Worker) (after : Board) where
  -- Stopped where the stop word is set, with its cause; else Finished where the run is finished; else Nothing where no label of
  -- this worker is enabled; else one of them is appended: a segment where it is a Start, and else that label.
  abbrev pub Took : Turn → Type 0
  Took (Stopped why) = (option_map (λ x. x.why) before.word ≡ Some why) × (history_of after ≡ history_of before)
  Took Finished = (before.word ≡ None) × InEachState before (IsFinished before) × (history_of after ≡ history_of before)
  Took Nothing = (before.word ≡ None) × InEachState before (λ s. IsFinished before s → ⊥) × InEachState before (HasNothing before worker) × (history_of after ≡ history_of before)
  Took (Stepped l) = IsAppended before after l × (l.worker ≡ worker) × (is_step l.act ≡ true)
  Took (Segment lease) = (l : Label) × IsAppended before after l × (l.worker ≡ worker) × IsLeased before after l lease
