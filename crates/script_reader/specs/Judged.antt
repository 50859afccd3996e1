-- What a line of some form is, after the lines before it: taken, or refused with a fault.
use Rattle.std.specs.Prelude.{ℕ, Bool, true, false, ◌+◌, ◌&&◌, ◌||◌, ◌==◌, nat_lt, nat_le, if◌then◌else◌, List, [], ◌∷◌, length, Option, Some, None, slice_get, position, Result, Ok, Err, option_map, count_by}
use Rattle.std.specs.List.{list_any}
use Rattle.std.specs.Option.{option_and_then}
use Rattle.wave_base.specs.declared.limits.TheConstants.{EVENT_LINES, HOSTS, LITERAL_BYTES}
use Rattle.wave_base.specs.declared.path.Path.{Path}
use Rattle.wave_base.specs.declared.script.Line.{Line}
use Rattle.wave_base.specs.declared.script.Line.TheVariants as line
use Rattle.wave_base.specs.declared.shape.EventInfo.{EventInfo}
use Rattle.wave_base.specs.declared.shape.Shape.{Shape}
use Rattle.wave_base.specs.declared.value.Kind.{Kind}
use Rattle.wave_base.specs.declared.value.Kind.TheVariants as kind
use Rattle.wave_base.specs.declared.value.Value.{Value}
use Rattle.wave_base.specs.declared.value.Value.TheVariants as value
use Rattle.wave_base.specs.Names.{same_bytes}
use Rattle.wave_text.specs.Numbers.{whole_of, number_of}
use Rattle.path_text.specs.Paths.{path_of}
use Rattle.script_reader.specs.declared.earlier.Earlier.{Earlier}
use Rattle.script_reader.specs.declared.error.Fault.{Fault}
use Rattle.script_reader.specs.declared.error.Fault.TheVariants.{UnknownEvent, ArgCount, ArgType, BadPath, HostRange, HostsLate, TooMany}
use Rattle.script_reader.specs.declared.form.Form.{Form}
use Rattle.script_reader.specs.declared.form.Form.TheVariants as form
use Rattle.script_reader.specs.declared.form.Literal.{Literal}
use Rattle.script_reader.specs.declared.form.Literal.TheVariants as literal
use Rattle.script_reader.specs.declared.taken.Taken.{Taken}
use Rattle.script_reader.specs.declared.taken.Taken.TheVariants.{Skipped, Hosts, Event, Settle}

-- ---- what was said before a text

-- nothing, and there is one host
abbrev pub nothing_earlier : Earlier
nothing_earlier = record { hosts = 1; begun = false; events = 0 }

-- a script with so many hosts and event lines
abbrev pub script_earlier : ℕ → ℕ → Earlier
script_earlier hosts events = record { hosts = hosts; begun = true; events = events }

-- ---- and the lines of the text, the last one first; what was said before them counts too

abbrev pub is_event : Taken → Bool
is_event (Event l) = true
is_event _ = false

abbrev pub is_said : Taken → Bool
is_said Skipped = false
is_said _ = true

abbrev pub event_lines : Earlier → List Taken → ℕ
event_lines earlier before = count_by is_event before + earlier.events

-- a line other than a skipped one
abbrev pub has_begun : Earlier → List Taken → Bool
has_begun earlier before = list_any is_said before || earlier.begun

-- the number of hosts, which a line may say
abbrev pub hosts_of : Earlier → List Taken → ℕ
hosts_of earlier [] = earlier.hosts
hosts_of earlier (Hosts n ∷ before) = n
hosts_of earlier (t ∷ before) = hosts_of earlier before

-- ---- arguments

-- a number that fits 64 bits, a truth value, or a text of at most 200 bytes, of the kind that is asked for
abbrev pub value_of : Kind → Literal → Option Value
value_of kind.Int (literal.Number n) = option_map (λ z. value.Int z) (whole_of n)
value_of kind.Bool (literal.Truth b) = Some (value.Bool b)
value_of kind.Text (literal.Text t) = if nat_le (length t) LITERAL_BYTES then Some (value.Str t) else None
value_of _ _ = None

-- the values of arguments for as many parameters, none where one of them does not fit
abbrev pub values_of : List Kind → List Literal → Option (List Value)
values_of ks [] = Some []
values_of [] (a ∷ ls) = Some []
values_of (k ∷ ks) (a ∷ ls) = option_and_then (λ v. option_map (λ vs. v ∷ vs) (values_of ks ls)) (value_of k a)

abbrev pub call_with : ℕ → Option (List Value) → Result Line Fault
call_with event None = Err ArgType
call_with event (Some args) = Ok (line.Request (record { event = event; args = args; generation = 0 }))

-- as many arguments as parameters, each of its kind
abbrev pub call_of : ℕ → List Kind → List Literal → Result Line Fault
call_of event params args = if length args == length params then call_with event (values_of params args) else Err ArgCount

abbrev pub has_name : List ℕ → EventInfo → Bool
has_name name info = same_bytes info.name name

abbrev pub params_in : Option EventInfo → List Kind
params_in None = []
params_in (Some info) = info.params

abbrev pub call_at : Shape → Option ℕ → List Literal → Result Line Fault
call_at shape None args = Err UnknownEvent
call_at shape (Some event) args = call_of event (params_in (slice_get shape.events event)) args

-- the call of the event of that name
abbrev pub requested_call : Shape → List ℕ → List Literal → Result Line Fault
requested_call shape name args = call_at shape (position (has_name name) shape.events) args

-- ---- moves

-- to a host below their count
abbrev pub move_to : ℕ → Option Path → ℕ → Result Line Fault
move_to hosts None to = Err BadPath
move_to hosts (Some path) to = if nat_lt to hosts then Ok (line.Move path (record { 0 = to })) else Err HostRange

-- ---- lines, where so many hosts and event lines stand before

abbrev pub as_event : Result Line Fault → Result Taken Fault
as_event (Ok l) = Ok (Event l)
as_event (Err f) = Err f

-- an event line past the last one that may be is refused before all else that is wrong with it
abbrev pub judged_event : ℕ → Result Line Fault → Result Taken Fault
judged_event events l = if nat_lt events EVENT_LINES then as_event l else Err TooMany

-- 1 to 8 hosts, on the first line that says something
abbrev pub judged_hosts : Bool → ℕ → Result Taken Fault
judged_hosts begun n = if begun then Err HostsLate else if nat_le 1 n && nat_le n HOSTS then Ok (Hosts n) else Err HostRange

abbrev pub judged_form : Shape → ℕ → Bool → ℕ → Form → Result Taken Fault
judged_form shape hosts begun events (form.Hosts n) = judged_hosts begun (number_of n)
judged_form shape hosts begun events (form.Request name args) = judged_event events (requested_call shape name args)
judged_form shape hosts begun events (form.Move steps to) = judged_event events (move_to hosts (path_of shape steps) (number_of to))
judged_form shape hosts begun events form.Snapshot = judged_event events (Ok line.Snapshot)
judged_form shape hosts begun events form.Settle = Ok Settle
