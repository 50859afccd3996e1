-- What one line does to the reader of a script with policies.
use Rattle.std.specs.Prelude.{◌≡◌, ℕ, List, Ok, Err}
use Rattle.wave_base.specs.declared.shape.Shape.{Shape}
use Rattle.script_reader.specs.declared.elastic_progress.ElasticProgress.{ElasticProgress}
use Rattle.script_reader.specs.declared.error.Fault.{Fault}
use Rattle.script_reader.specs.declared.error.ScriptError.{ScriptError}
use Rattle.script_reader.specs.declared.error.ScriptError.TheVariants.{OutOfMemory}
use Rattle.script_reader.specs.declared.told.Told.{Told}
use Rattle.script_reader.specs.declared.worded.Worded.{Worded}
use Rattle.script_reader.specs.Elastics.{IsOnlyWorded, judged_worded}
use Rattle.script_reader.specs.Scripts.{error_at}
use Rattle.script_reader.specs.inner.ElasticProgressed.{with_told}
use Rattle.std.specs.Prelude.{Result}

-- what is made of a line that says this
abbrev pub judged_now : Shape → ElasticProgress → Worded → Result Told Fault
judged_now shape p w = judged_worded shape p.plain.hosts p.plain.begun p.plain.events p.under_way w

-- the line is taken
pub record IsElasticStep (shape : Shape) (line : List ℕ) (before after : ElasticProgress) : Type 0 where
  pub worded : Worded
  pub told : Told
  pub says : IsOnlyWorded line worded
  pub judged_is : judged_now shape before worded ≡ Ok told
  pub after_is : after ≡ with_told before told

pub record IsElasticRefused (shape : Shape) (line : List ℕ) (before : ElasticProgress) (number : ℕ) (error : ScriptError) : Type 0 where
  pub worded : Worded
  pub fault : Fault
  pub says : IsOnlyWorded line worded
  pub judged_is : judged_now shape before worded ≡ Err fault
  pub error_is : error ≡ error_at fault number

-- the line is refused; want of memory says nothing
abbrev pub IsElasticStop : Shape → List ℕ → ElasticProgress → ℕ → ScriptError → Type 0
IsElasticStop shape line before number (OutOfMemory _) = Unit {0}
IsElasticStop shape line before number error = IsElasticRefused shape line before number error
