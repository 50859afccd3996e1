-- What the two readings of a checkpoint's text come to.
use Rattle.std.specs.Prelude.{◌≡◌, ◌⊎◌, ℕ, List, Result, Ok, Err}
use Rattle.wave_base.specs.declared.memory.OutOfMemory.{OutOfMemory}
use Rattle.wave_base.specs.declared.shape.Shape.{Shape}
use Rattle.checkpoint_store.specs.declared.error.CheckError.{CheckError}
use Rattle.checkpoint_store.specs.declared.error.CheckError.TheVariants as error
use Rattle.checkpoint_store.specs.declared.point.Checkpoint.{Checkpoint}
use Rattle.checkpoint_store.specs.CheckpointTexts.{IsCheckpointText}
use Rattle.checkpoint_store.specs.Verdicts.{IsOnlyVerdict}

abbrev pub Answer : Type 0
Answer = Result Checkpoint CheckError

abbrev pub IsWanting : Answer → Type 0
IsWanting r = (w : OutOfMemory) × (◌≡◌ {A = Answer} r (Err (error.OutOfMemory w)))

-- what is read of the text of a point is that point
abbrev pub AreReadBack : Type 0
AreReadBack = (shape : Shape) (text : List ℕ) (point : Checkpoint) (r : Answer) → IsCheckpointText shape text point → IsOnlyVerdict shape text r → IsWanting r ⊎ (◌≡◌ {A = Answer} r (Ok point))

-- where this point is read, the text is the one that is written of it
abbrev pub HaveOneText : Type 0
HaveOneText = (shape : Shape) (text other : List ℕ) (point : Checkpoint) → IsOnlyVerdict shape text (Ok point) → IsCheckpointText shape other point → text ≡ other
