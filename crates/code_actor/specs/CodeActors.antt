-- The events of a program as actors of the machine.
use Rattle.std.specs.Prelude.{◌≤◌, ℕ, false, List, [], Option, Some, None}
use Rattle.wave_base.specs.declared.call.Call.{Call}
use Rattle.wave_base.specs.declared.limits.TheConstants.{GENERATION}
use Rattle.wave_base.specs.declared.outcome.EventResult.{EventResult}
use Rattle.wave_base.specs.declared.outcome.Outcome.TheVariants.{Absent}
use Rattle.wave_base.specs.declared.path.Path.{Path}
use Rattle.wave_base.specs.declared.pause.Pause.{Pause as Halt}
use Rattle.wave_base.specs.declared.pause.Pause.TheVariants as halt
use Rattle.wave_base.specs.declared.value.Value.{Value}
use Rattle.wave_base.specs.Places.{move_of}
use Rattle.wave_base.specs.Scripts.{IsCall}
use Rattle.wave_base.specs.Shapes.{initial_fields}
use Rattle.service_code.specs.declared.program.Program.{Program}
use Rattle.service_verify.specs.Boxes.{first_box}
use Rattle.service_verify.specs.Looks.{is_peeking}
use Rattle.service_verify.specs.Segments.{Event, Left as Halted, event_segment}
use Rattle.service_verify.specs.Standing.{Stands, HasFields}
use Rattle.service_verify.specs.Tours.{most_segments}
use Rattle.wave_states.specs.Actors.{Actors, Left, Pause, Go, Down, Back, Over}
use Rattle.wave_states.specs.Kinds.{Kind}

-- the fields of a context
abbrev pub Fields : Type 0
Fields = List Value

-- what stands for a result where there is none; no instruction of code ends an event so
abbrev pub no_result : EventResult
no_result = record { outcome = Absent []; messages = []; created = [] }

-- why it paused, as the machine says it
abbrev pub pause_of : Halt → Pause EventResult
pause_of (halt.Go s) = Go s
pause_of (halt.Down s) = Down s
pause_of halt.Back = Back
pause_of (halt.Over r) = Over r

-- what a segment leaves; one that lost its way would be over, with no event's result
abbrev pub left_of : Event → Fields → Option Halted → Left Event Fields EventResult
left_of e fields None = record { actor = e; fields = fields; pause = Over no_result }
left_of e fields (Some l) = record { actor = l.event; fields = l.fields; pause = pause_of l.pause }

-- an event before its first segment: it has left nothing
abbrev pub first_event : Program → Call → Event
first_event program call = record { box = first_box program call; levels = [] }

-- so many segments are enough for each call
unfoldable pub enough_segments : Program → ℕ
enough_segments program = most_segments program

-- code never asks which children there are, and moves no context; an event that peeks only looks
abbrev pub code_actors : Program → Actors Event Fields EventResult Call
code_actors program = record {
  make = λ call ticket. first_event program call;
  segment = λ e fields children. left_of e fields (event_segment program e fields);
  peeks = λ e. is_peeking program e.box;
  initial = initial_fields program.shape;
  created = λ r. r.created;
  moved = move_of;
  enough = λ call ticket tree. enough_segments program;
  unended = no_result;
}

-- a call of the program's shape, of a generation that an event may have
abbrev pub IsJob : Program → Call → Type 0
IsJob program call = IsCall program.shape call × (call.generation ≤ GENERATION)

-- the event stands at a path, with so many calls open
abbrev pub IsFine : Program → Event → Path → ℕ → Type 0
IsFine program e p calls = Stands program p calls e

-- as a kind of actors, however many hosts there are
abbrev pub code_kind : Program → ℕ → Kind Event Fields EventResult Call
code_kind program hosts = record { system = code_actors program; hosts = hosts; fits = HasFields program.shape; is_job = IsJob program; may_run = IsFine program }
