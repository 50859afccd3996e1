-- What is due for the labels of a journal.
use Rattle.std.specs.Prelude.{ℕ, List, Result}
use Rattle.wave_labels.specs.declared.label.Label.{Label}
use Rattle.plan_actors.specs.Plans.{Plan}
use Rattle.journal_replay.specs.declared.error.ReplayError.{ReplayError}
use Rattle.journal_replay.specs.declared.replaying.Replayed.{Replayed}
use Rattle.journal_replay.specs.Replays.{IsOutcome}
use Rattle.due_parts.specs.declared.answer.Answer.{Answer}
use Rattle.due_parts.specs.Answers.{Only}
use Rattle.due_replay.specs.Replayed.{IsDueOutcome}

-- what the replay by a plan comes to is told
pub record IsOutcomeOf (plan : Plan) (journal : List Label) (show : ℕ) (due : Answer) : Type 0 where
  pub outcome : Result Replayed ReplayError
  pub comes_to : IsOutcome plan journal show outcome
  pub due_is : IsDueOutcome plan.program.shape outcome due

-- and nothing else is to be told
abbrev pub IsOnlyOutcomeOf : Plan → List Label → ℕ → Answer → Type 0
IsOnlyOutcomeOf plan journal show due = Only (IsOutcomeOf plan journal show) due
