-- The script with policies that a text stands for, or the first line that is refused with its fault.
use Rattle.std.specs.Prelude.{◌≡◌, ◌≤◌, ◌<◌, ℕ, ◌+◌, Bool, true, false, List, [], ◌∷◌, ◌++◌, length, count_by, sum_by, if◌then◌else◌, is_some, Option, Some, None, Result, Ok, Err, All, IfSome}
use Rattle.std.specs.List.{list_any}
use Rattle.wave_base.specs.declared.limits.TheConstants.{EVENT_LINES, HOSTS}
use Rattle.wave_base.specs.declared.policy.Policy.{Policy}
use Rattle.wave_base.specs.declared.script.Script.{Script}
use Rattle.wave_base.specs.declared.shape.Shape.{Shape}
use Rattle.wave_base.specs.Scripts.{FitsLine, IsPolicy}
use Rattle.wave_text.specs.Lines.{lines_of}
use Rattle.script_reader.specs.declared.elastic.Elastic.{Elastic}
use Rattle.script_reader.specs.declared.elastic.Part.{Part}
use Rattle.script_reader.specs.declared.error.Fault.{Fault}
use Rattle.script_reader.specs.declared.error.ScriptError.{ScriptError}
use Rattle.script_reader.specs.declared.error.ScriptError.TheVariants as error
use Rattle.script_reader.specs.declared.taken.Taken.{Taken}
use Rattle.script_reader.specs.declared.taken.Taken.TheVariants.{Hosts, Event, Settle}
use Rattle.script_reader.specs.declared.told.Told.{Told}
use Rattle.script_reader.specs.declared.told.Told.TheVariants.{Plain, Policed}
use Rattle.script_reader.specs.declared.worded.Worded.{Worded}
use Rattle.script_reader.specs.declared.worded.Worded.TheVariants as worded
use Rattle.script_reader.specs.Judged.{is_event, is_said}
use Rattle.script_reader.specs.Policies.{HasPolicyForm, HasNoPolicyForm, judged_policy}
use Rattle.script_reader.specs.Scripts.{IsSaid, judgment, open_batch, closed_batches, with_batch, error_at}

-- what a line says: a policy, or else what it says in a script without policies
abbrev pub IsWorded : List ℕ → Worded → Type 0
IsWorded line (worded.Plain said) = IsSaid line said × HasNoPolicyForm line
IsWorded line (worded.Policy form) = HasPolicyForm line form

-- it says this alone
abbrev pub IsOnlyWorded : List ℕ → Worded → Type 0
IsOnlyWorded line w = IsWorded line w × ((other : Worded) → IsWorded line other → other ≡ w)

-- ---- the lines so far, the last one first

-- a request, a move, a snapshot or a policy
abbrev pub is_event_line : Told → Bool
is_event_line (Plain t) = is_event t
is_event_line (Policed p) = true

abbrev pub event_count : List Told → ℕ
event_count before = count_by is_event_line before

-- a line other than a skipped one
abbrev pub says_something : Told → Bool
says_something (Plain t) = is_said t
says_something (Policed p) = true

abbrev pub has_spoken : List Told → Bool
has_spoken before = list_any says_something before

-- the number of hosts, one where no line says it
abbrev pub told_hosts : List Told → ℕ
told_hosts [] = 1
told_hosts (Plain (Hosts n) ∷ before) = n
told_hosts (t ∷ before) = told_hosts before

-- an event line stands behind the last `settle`
abbrev pub is_under_way : List Told → Bool
is_under_way [] = false
is_under_way (Plain (Event l) ∷ before) = true
is_under_way (Plain Settle ∷ before) = false
is_under_way (Policed p ∷ before) = true
is_under_way (t ∷ before) = is_under_way before

-- ---- what is made of a line, after the lines before it

abbrev pub as_plain : Result Taken Fault → Result Told Fault
as_plain (Ok t) = Ok (Plain t)
as_plain (Err f) = Err f

abbrev pub as_policed : Result Policy Fault → Result Told Fault
as_policed (Ok p) = Ok (Policed p)
as_policed (Err f) = Err f

abbrev pub judged_worded : Shape → ℕ → Bool → ℕ → Bool → Worded → Result Told Fault
judged_worded shape hosts begun events late (worded.Plain said) = as_plain (judgment shape hosts begun events said)
judged_worded shape hosts begun events late (worded.Policy form) = as_policed (judged_policy hosts events late form)

abbrev pub judged_told : Shape → List Told → Worded → Result Told Fault
judged_told shape before w = judged_worded shape (told_hosts before) (has_spoken before) (event_count before) (is_under_way before) w

-- ---- parts: one ends and the next begins where a policy stands; the first has none

-- the lines behind the last policy
abbrev pub last_lines : List Told → List Taken
last_lines [] = []
last_lines (Plain t ∷ before) = t ∷ last_lines before
last_lines (Policed p ∷ before) = []

abbrev pub last_policy : List Told → Option Policy
last_policy [] = None
last_policy (Plain t ∷ before) = last_policy before
last_policy (Policed p ∷ before) = Some p

-- their batches are those of a script
abbrev pub last_part : List Told → Part
last_part lines = record { policy = last_policy lines; batches = with_batch (closed_batches (last_lines lines)) (open_batch (last_lines lines)) }

-- the parts that a policy ended
abbrev pub ended_parts : List Told → List Part
ended_parts [] = []
ended_parts (Plain t ∷ before) = ended_parts before
ended_parts (Policed p ∷ before) = ended_parts before ++ last_part before ∷ []

abbrev pub elastic_of : List Told → Elastic
elastic_of lines = record { hosts = told_hosts lines; parts = ended_parts lines ++ last_part lines ∷ [] }

-- ---- the whole

-- a line is taken, or refused
abbrev pub Leads : Result Told Fault → (Told → Type 0) → (Fault → Type 0) → Type 0
Leads (Ok t) P Q = P t
Leads (Err f) P Q = Q f

-- after these lines, the last one first, these ones give this: line by line, up to the first that is refused
abbrev pub IsReadElastic : Shape → List Told → List (List ℕ) → Result Elastic ScriptError → Type 0
IsReadElastic shape before [] r = r ≡ Ok (elastic_of before)
IsReadElastic shape before (l ∷ ls) r =
    (w : Worded) × IsWorded l w × Leads (judged_told shape before w) (λ t. IsReadElastic shape (t ∷ before) ls r) (λ f. r ≡ Err (error_at f (length before + 1)))

-- what a text gives, and that it gives nothing else
pub record IsElasticOf (shape : Shape) (text : List ℕ) (r : Result Elastic ScriptError) : Type 0 where
  pub read : IsReadElastic shape [] (lines_of text) r
  pub only : (other : Result Elastic ScriptError) → IsReadElastic shape [] (lines_of text) other → other ≡ r

-- want of memory says nothing
abbrev pub IsElasticAnswer : Shape → List ℕ → Result Elastic ScriptError → Type 0
IsElasticAnswer shape text (Err (error.OutOfMemory _)) = Unit {0}
IsElasticAnswer shape text r = IsElasticOf shape text r

-- a script without policies is one part
abbrev pub plain_elastic : Script → Elastic
plain_elastic script = record { hosts = script.hosts; parts = record { policy = None; batches = script.batches } ∷ [] }

-- ---- what fits a shape

-- lines and policy fit, and no batch is empty
pub record IsPart (shape : Shape) (hosts : ℕ) (part : Part) : Type 0 where
  pub policy : IfSome part.policy (IsPolicy hosts)
  pub lines : All (All (FitsLine shape hosts)) part.batches
  pub full : All (λ b. 0 < length b) part.batches

-- a policy is a line too
abbrev pub lines_in : Part → ℕ
lines_in part = (if is_some part.policy then 1 else 0) + sum_by length part.batches

pub record IsElastic (shape : Shape) (elastic : Elastic) : Type 0 where
  pub some_host : 1 ≤ elastic.hosts
  pub few_hosts : elastic.hosts ≤ HOSTS
  pub parts : All (IsPart shape elastic.hosts) elastic.parts
  pub few_lines : sum_by lines_in elastic.parts ≤ EVENT_LINES
