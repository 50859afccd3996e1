-- What stands in a board's history, and what the board stands for.
use Rattle.std.specs.Prelude.{◌≡◌, ◌≤◌, ◌++◌, ◌∷◌, [], ℕ, List, length, map, take, drop, Option, Some, None}
use Rattle.wave_labels.specs.Labels.{label_of}
use Rattle.wave_states.specs.Labels.{Label}
use Rattle.plan_actors.specs.Plans.{Fits, FitsStart}
use Rattle.wave_effects.specs.Machines.{IsReached, Shows, TheState}
use Rattle.wave_effects.specs.Plans.{plan_of}
use Rattle.wave_board.specs.declared.board.Board.{Board}
use Rattle.wave_board.specs.declared.board.StopWord.{StopWord}
use Rattle.wave_board.specs.declared.origin.Origin.{Origin}
use Rattle.wave_board.specs.declared.trail.StopCause.TheVariants.{SinkFault}
use Rattle.wave_board.specs.declared.trail.Trail.{Trail}
use Rattle.wave_board.specs.declared.trail.Trail.TheVariants.{Step, Halt}

-- the owner of an entry is its worker
abbrev pub owner_of : Trail → ℕ
owner_of (Step l) = l.worker.0
owner_of (Halt worker why) = worker.0

-- the Halt stands at the stop word's place
abbrev pub with_halt : Option StopWord → List Trail → List Trail
with_halt None steps = steps
with_halt (Some x) steps = take x.place steps ++ Halt x.worker x.why ∷ drop x.place steps

-- the journal, with the Halt where the stop word is set
abbrev pub history_of : Board → List Trail
history_of b = with_halt b.word (map Step b.journal.labels)

-- the labels among these entries, as the theory has them
abbrev pub labels_in : List Trail → List Label
labels_in [] = []
labels_in (Step l ∷ ts) = label_of l ∷ labels_in ts
labels_in (Halt worker why ∷ ts) = labels_in ts

-- the labels of the journal, which are those of the history
abbrev pub labels_of : Board → List Label
labels_of b = map label_of b.journal.labels

-- A stop word's place is in a journal of so many labels, or at its end. It is worker 0 that could not write: no other writes.
pub record IsWord (x : StopWord) (n : ℕ) : Type 0 where
  pub place : x.place ≤ n
  pub writer : x.why ≡ SinkFault → x.worker.0 ≡ 0

-- where the workers were stopped
abbrev pub WordStands : Option StopWord → ℕ → Type 0
WordStands None n = Unit {0}
WordStands (Some x) n = IsWord x n

-- The board's plan is this one, and its machine stands for the state to which its journal leads; plan and Start fit, and so does
-- the stop word.
pub record IsAt (b : Board) (o : Origin) (s : TheState) : Type 0 where
  pub plan : b.machine.kept.plan ≡ plan_of o.plan.now
  pub fits : Fits b.machine.kept.plan
  pub begins : FitsStart b.machine.kept.plan o.start.now
  pub reached : IsReached b.machine.kept.plan o.start.now (labels_of b) s
  pub shows : Shows b.machine.kept s
  pub word : WordStands b.word (length b.journal.labels)

-- what the board stands for
abbrev pub StandsFor : Board → Origin → Type 0
StandsFor b o = (s : TheState) × IsAt b o s

-- a name and a state for which it stands
pub record IsStanding (b : Board) : Type 0 where
  pub origin : Origin
  pub state : TheState
  pub at : IsAt b origin state

-- it holds of the state to which the journal leads, for each name for which the board stands
abbrev pub InEachState : Board → (TheState → Type 0) → Type 0
InEachState b Holds = (o : Origin) (s : TheState) → IsAt b o s → Holds s

-- what one board stands for the other stands for
abbrev pub StandsStill : Board → Board → Type 0
StandsStill b b' = (o : Origin) → StandsFor b o → StandsFor b' o
