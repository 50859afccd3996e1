-- What the lines of a script do on a tree, by what a call does on it; and how many jobs a line may make.
use Rattle.std.specs.Prelude.{ℕ, zero, suc, ◌+◌, ◌-◌, ◌*◌, List, sum_by, Option, Some, None}
use Rattle.wave_base.specs.declared.limits.TheConstants.{GENERATION, SPAWNS}
use Rattle.wave_base.specs.declared.call.Call.{Call}
use Rattle.wave_base.specs.declared.outcome.EventResult.{EventResult}
use Rattle.wave_base.specs.declared.script.Line.{Line}
use Rattle.wave_base.specs.declared.script.Line.TheVariants.{Request, Move, Snapshot}
use Rattle.wave_base.specs.declared.value.Value.{Value}
use Rattle.wave_base.specs.Fold.{Ran}
use Rattle.wave_base.specs.Tree.{Tree}
use Rattle.resolved_service.specs.Jobs.{move_ran, snapshot_ran}

-- what a call does on a tree
abbrev pub Meaning : Type 0
Meaning = Tree (List Value) → Call → Ran (List Value) EventResult

-- the job of a ticket; the ticket makes no difference
abbrev pub line_by : Meaning → ℕ → Tree (List Value) → Line → Ran (List Value) EventResult
line_by meaning ticket tree (Request call) = meaning tree call
line_by meaning ticket tree (Move p h) = move_ran tree p h
line_by meaning ticket tree Snapshot = snapshot_ran tree

-- an event's number; a move and a snapshot have none
abbrev pub name_of : Line → Option ℕ
name_of (Request call) = Some call.event
name_of (Move p h) = None
name_of Snapshot = None

-- an event and all that come of it, where so many generations may follow
unfoldable pub most_events : ℕ → ℕ
most_events zero = 1
most_events (suc n) = 1 + SPAWNS * most_events n

-- the jobs that a line may make, itself among them
abbrev pub most_of : Line → ℕ
most_of (Request call) = most_events (GENERATION - call.generation)
most_of (Move p h) = 1
most_of Snapshot = 1

abbrev pub most_jobs : List (List Line) → ℕ
most_jobs batches = sum_by (sum_by most_of) batches

-- the calls that are run fit
abbrev pub FitsJob : (Call → Type 0) → Line → Type 0
FitsJob Fits (Request call) = Fits call
FitsJob Fits (Move p h) = Unit {0}
FitsJob Fits Snapshot = Unit {0}
