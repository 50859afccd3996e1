-- What is due for small inputs, computed: where a script is wanting, where there is too much, which bytes are which part, what `gen` writes,
-- and what is reported of a run in which something trapped.
use Rattle.std.proofs.Common.{◌≡◌, ◌<◌, ◌≤◌, ℕ, pos, inl, inr, List, [], ◌∷◌, ◌++◌, length, Option, Some, None, Err, refl, arith}
use Rattle.std.specs.Prelude.{codes, map}
use Rattle.std.specs.Fmt.{digits}
use Rattle.wave_base.specs.declared.finished.Finished.{Finished}
use Rattle.wave_base.specs.declared.limits.TheConstants.{INPUT_BYTES, LONG_INPUT_BYTES, SERVICE_BYTES}
use Rattle.wave_base.specs.declared.outcome.EventResult.{EventResult}
use Rattle.wave_base.specs.declared.outcome.Outcome.{Outcome}
use Rattle.wave_base.specs.declared.outcome.Outcome.TheVariants as out
use Rattle.wave_base.specs.declared.script.Script.{Script}
use Rattle.wave_base.specs.declared.shape.Shape.{Shape}
use Rattle.wave_base.specs.declared.trap.TrapKind.TheVariants.{Require}
use Rattle.wave_base.specs.declared.value.Kind.TheVariants as kind
use Rattle.wave_base.specs.declared.value.Value.TheVariants.{Int}
use Rattle.wave_base.specs.Starts.{first_start}
use Rattle.wave_gen.specs.Load.{load_text}
use Rattle.input_parts.specs.Parts.{service_of, script_of}
use Rattle.service_reader.specs.declared.fault.TextFault.TheVariants.{TooLarge}
use Rattle.command_words.specs.declared.command.Command.TheVariants.{Trace, Save, Resume, Check, Gen}
use Rattle.command_words.specs.declared.command.Crew.{Crew}
use Rattle.command_words.specs.declared.command.Places.{Places}
use Rattle.command_words.specs.declared.command.Places.TheVariants.{Unlisted, Listed}
use Rattle.due_parts.specs.declared.answer.Answer.{Answer}
use Rattle.due_parts.specs.declared.report.Report.{Report}
use Rattle.due_parts.specs.declared.report.Report.TheVariants.{Listing, Summary}
use Rattle.due_parts.specs.Answers.{no_script, refusal, too_large_input}
use Rattle.due_parts.specs.Scripts.{two_parts}
use Rattle.due_parts.specs.Told.{report_answer}
use Rattle.due_answer.specs.Due.{IsDue, IsOnlyDue, approval}

-- ---- the parts of an input

abbrev service : List ℕ
service = codes "service Box {\n}\n"

abbrev with_script : List ℕ
with_script = service ++ codes "----\nhosts 1\n"

abbrev with_both : List ℕ
with_both = with_script ++ codes "----\r\nopen\n"

abbrev parts : List ℕ → List ℕ × Option (List ℕ)
parts input = (service_of input, script_of input)

no_dashes : parts service ≡ (service, None)
no_dashes = refl

one_line_of_dashes : parts with_script ≡ (service, Some (codes "hosts 1\n"))
one_line_of_dashes = refl

-- the first line of dashes parts them, and what stands behind it is parted by the next
two_lines_of_dashes : parts with_both ≡ (service, Some (codes "hosts 1\n----\r\nopen\n"))
two_lines_of_dashes = refl

both_parts : two_parts (script_of with_both) ≡ Some (codes "hosts 1\n", codes "open\n")
both_parts = refl

-- ---- a script that is wanting, whatever is to be told of it

short : length service ≤ INPUT_BYTES
short = omega arith

save_asks : (crew : Crew) → IsOnlyDue (Save crew) service no_script
unfolding IsDue
save_asks crew = record { is_due = inr (short, refl); only = λ other due. elim due [ inl long ↦ absurd (omega (arith, short, long.0)) | inr h ↦ h.1 ] }

trace_asks : (places : Places) (crew : Crew) → IsOnlyDue (Trace places crew) service no_script
unfolding IsDue
trace_asks places crew = record { is_due = inr (short, refl); only = λ other due. elim due [ inl long ↦ absurd (omega (arith, short, long.0)) | inr h ↦ h.1 ] }

-- a checkpoint alone is not enough to go on from
short_enough : length with_script ≤ LONG_INPUT_BYTES
short_enough = omega arith

resume_asks : (places : Places) (crew : Crew) → IsOnlyDue (Resume places crew) with_script no_script
unfolding IsDue
resume_asks places crew = record { is_due = inr (short_enough, refl); only = λ other due. elim due [ inl long ↦ absurd (omega (arith, short_enough, long.0)) | inr h ↦ h.1 ] }

-- ---- too many bytes: of the input, or of the service in it

much : (crew : Crew) (bytes : List ℕ) → INPUT_BYTES < length bytes → IsDue (Save crew) bytes too_large_input
unfolding IsDue
much crew bytes long = inl (long, refl)

much_service : (bytes : List ℕ) → length bytes ≤ INPUT_BYTES → SERVICE_BYTES < length (service_of bytes) → IsDue Check bytes (refusal 3 (codes "TooLarge service"))
unfolding IsDue
much_service bytes within long = inr (within, record { read = Err TooLarge; parses = long; due_is = refl })

-- ---- what is written, and with which status

approved_is : approval ≡ record { status = 0; note = []; text = codes "ok\n" }
approved_is = refl

-- of the number alone, whatever the input is
gen : (n : ℕ) (bytes : List ℕ) → IsOnlyDue (Gen n) bytes (record { status = 0; note = []; text = load_text n })
unfolding IsDue
gen n bytes = record { is_due = refl; only = λ other e. e }

-- ---- reports of a run from the first Start, whose events are all the first one

abbrev shape : Shape
shape = record {
  classes = record { name = codes "Box"; parent = None; fields = [] } ∷ [];
  events = record { name = codes "open"; params = []; reply = Some kind.Int } ∷ [];
}

abbrev script : Script
script = record { hosts = 1; batches = [] }

abbrev ended : Outcome → EventResult
ended o = record { outcome = o; messages = []; created = [] }

abbrev trapped : EventResult
trapped = ended (out.Trapped (record { kind = Require; at = record { line = 3; col = 5 } }))

abbrev replied : EventResult
replied = ended (out.Reply (Int (pos 7)))

abbrev ran : List EventResult → Finished
ran rs = record {
  results = rs;
  made = map (λ r. []) rs;
  names = map (λ r. Some 0) rs;
  places = record { path = []; host = record { 0 = 0 } } ∷ [];
  shots = record { path = []; fields = [] } ∷ [];
  loads = length rs ∷ [];
}

abbrev told : Report → List EventResult → Answer
told report rs = report_answer shape (first_start shape) script report (ran rs)

-- one trap makes the status 1, wherever it stands and whatever is told
a_trap : told (Listing Unlisted) (replied ∷ trapped ∷ replied ∷ []) ≡ record { status = 1; note = []; text = codes "#1 open = 7\n#2 open trap Require at 3:5\n#3 open = 7\ndone 3\n" }
unfolding digits
a_trap = refl

a_trap_summed_up : told Summary (trapped ∷ replied ∷ replied ∷ []) ≡ record { status = 1; note = []; text = codes "events 3\nreplies 2\ntraps 1\nmoved 0\nabsent 0\ntotal 14\n" }
unfolding digits
a_trap_summed_up = refl

no_trap : told (Listing Listed) (replied ∷ []) ≡ record { status = 0; note = []; text = codes "#1 open = 7\nplace / 0\ndone 1\n" }
unfolding digits
no_trap = refl

nothing : told (Listing Unlisted) [] ≡ record { status = 0; note = []; text = codes "done 0\n" }
unfolding digits
nothing = refl
