-- What is accepted of a service and a script with policies, and what is due for it then.
use Rattle.std.specs.Prelude.{◌≡◌, List, ℕ, Result, Ok, Err}
use Rattle.code_runner.specs.Coded.{IsCode}
use Rattle.command_words.specs.declared.command.Places.{Places}
use Rattle.script_reader.specs.declared.elastic.Elastic.{Elastic}
use Rattle.script_reader.specs.Elastics.{IsElastic}
use Rattle.elastic_policy.specs.Stages.{first_staged, IsStaged}
use Rattle.due_parts.specs.declared.answer.Answer.{Answer}
use Rattle.due_parts.specs.declared.refusal.Refusal.{Refusal}
use Rattle.due_parts.specs.declared.refusal.Refusal.TheVariants.{Due, OutOfMemory}
use Rattle.due_parts.specs.Answers.{Only}
use Rattle.due_stages.specs.declared.work.StagedWork.{StagedWork}
use Rattle.due_stages.specs.Elastic.{IsDueElastic, listed_of}

-- the program is the code of the service; a script with policies fits its shape, and its first piece is next
pub record CanStage (elastic : Elastic) (work : StagedWork) : Type 0 where
  pub code : IsCode work.service work.program
  pub fits : IsElastic work.program.shape elastic
  pub first : work.stages ≡ first_staged work.program.shape elastic
  pub staged : IsStaged work.stages

-- the listing of what it stands for is due, with places or without, and nothing else
pub record IsReadyStaged (P : Places → Answer → Type 0) (work : StagedWork) : Type 0 where
  pub elastic : Elastic
  pub can : CanStage elastic work
  pub due : (places : Places) → Only (P places) (listed_of work.program.shape work.service elastic places)

-- a refusal is due, with places or without, and nothing else
abbrev pub IsAcceptedStaged : (Places → Answer → Type 0) → Result StagedWork Refusal → Type 0
IsAcceptedStaged P (Err (Due answer)) = (places : Places) → Only (P places) answer
IsAcceptedStaged P (Err (OutOfMemory refused)) = Unit {0}
IsAcceptedStaged P (Ok work) = IsReadyStaged P work

-- of the bytes of a service and a script with policies
abbrev pub IsAcceptedElastic : List ℕ → Result StagedWork Refusal → Type 0
IsAcceptedElastic bytes accepted = IsAcceptedStaged (λ places. IsDueElastic places bytes) accepted
