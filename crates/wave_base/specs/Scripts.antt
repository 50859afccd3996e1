-- What it is for a call and a script to fit a shape.
use Rattle.std.specs.Prelude.{◌≡◌, ◌≢◌, ◌≤◌, ◌<◌, ℕ, true, map, length, sum_by, Some, slice_get, All}
use Rattle.wave_base.specs.declared.limits.TheConstants.{EVENT_LINES, HOSTS}
use Rattle.wave_base.specs.declared.call.Call.{Call}
use Rattle.wave_base.specs.declared.policy.Policy.{Policy}
use Rattle.wave_base.specs.declared.policy.Policy.TheVariants.{Balance, Drain}
use Rattle.wave_base.specs.declared.script.Line.{Line}
use Rattle.wave_base.specs.declared.script.Line.TheVariants.{Request, Move, Snapshot}
use Rattle.wave_base.specs.declared.script.Script.{Script}
use Rattle.wave_base.specs.declared.shape.EventInfo.{EventInfo}
use Rattle.wave_base.specs.declared.shape.Shape.{Shape}
use Rattle.wave_base.specs.Shapes.{is_path}
use Rattle.wave_base.specs.Values.{kind_of}

-- it names an event of the shape, with arguments of its kinds
pub record IsCall (shape : Shape) (call : Call) : Type 0 where
  pub event : EventInfo
  pub is_event : slice_get shape.events call.event ≡ Some event
  pub kinds : map kind_of call.args ≡ event.params

abbrev pub FitsLine : Shape → ℕ → Line → Type 0
FitsLine shape hosts (Request call) = IsCall shape call × (call.generation ≡ 0)
FitsLine shape hosts (Move path to) = (is_path shape path ≡ true) × (to.0 < hosts)
FitsLine shape hosts Snapshot = Unit {0}

-- no batch is empty, and all lines fit
pub record IsScript (shape : Shape) (script : Script) : Type 0 where
  pub some_host : 1 ≤ script.hosts
  pub few_hosts : script.hosts ≤ HOSTS
  pub lines : All (All (FitsLine shape script.hosts)) script.batches
  pub full : All (λ b. 0 < length b) script.batches
  pub few_lines : sum_by length script.batches ≤ EVENT_LINES

-- what a policy may ask for, of so many hosts
abbrev pub IsPolicy : ℕ → Policy → Type 0
IsPolicy hosts (Balance most) = (1 ≤ most) × (most ≤ EVENT_LINES)
IsPolicy hosts (Drain from to) = (from.0 < hosts) × (to.0 < hosts) × (from.0 ≢ to.0)
