-- The parts of a call: what is due for an input, and how each part may end.
use Rattle.std.specs.Prelude.{◌≡◌, ◌⊎◌, ℕ, Bool, true, false, Option, Some, None, unwrap_or, List, []}
use Rattle.std.specs.Io.KnownBytes.{Appends, Keeps}
use Rattle.wave_io.specs.Causes.{Rose}
use Rattle.wave_io.specs.Streams.{AppendsFront}
use Rattle.listing_out.specs.declared.write.ListError.{ListError}
use Rattle.listing_out.specs.declared.write.ListError.TheVariants as list
use Rattle.command_words.specs.declared.command.Command.{Command}
use Rattle.command_words.specs.Inputs.{runs_workers}
use Rattle.command_words.specs.Reading.{command_of}
use Rattle.due_parts.specs.declared.answer.Answer.{Answer}
use Rattle.due_answer.specs.Due.{IsToldFor}
use Rattle.due_answer.specs.declared.prepared.Prepared.{Prepared}
use Rattle.due_answer.specs.Prepared.{IsPrepared}
use Rattle.eventwave.specs.declared.ending.Ending.{Ending}
use Rattle.eventwave.specs.declared.ending.Ending.TheVariants.{WordsRefused, ReadFault, WriteFault, NoMemory, Answered}
use Rattle.eventwave.specs.declared.response.Response.{Response}
use Rattle.eventwave.specs.declared.response.Response.TheVariants.{Done, Crewed}
use Rattle.eventwave.specs.Ends.{note_for, Change, IsInput, SomeDue, ReadsAll, IsUntouched, WritesFront, most_by, read_by}
use Rattle.wave_base.specs.Memory.{the_refusal}

-- there are bytes of a command's input for which this answer is due, and with all commands but `trace` no other
pub record SomeInputDue (c : Command) (left : Option (List ℕ)) (due : Answer) : Type 0 where
  pub bytes : List ℕ
  pub input : IsInput c left bytes
  pub told : IsToldFor c bytes due

-- the same of what was prepared for it
pub record IsPreparedFor (c : Command) (left : Option (List ℕ)) (p : Prepared) : Type 0 where
  pub bytes : List ℕ
  pub input : IsInput c left bytes
  pub prepared : IsPrepared c bytes p

-- nothing was prepared: the source failed, where there is something to read, or memory was wanting
abbrev pub IsHindered : Bool → ℕ → ℕ → Ending → Type 0
IsHindered true before now ReadFault = Rose before now
IsHindered reads before now (NoMemory refused) = Unit {0}
IsHindered _ before now _ = ⊥

abbrev pub status_of : Ending → ℕ
status_of WordsRefused = 2
status_of ReadFault = 5
status_of WriteFault = 6
status_of (NoMemory _) = 7
status_of (Answered status note) = status

-- the note of an answer is its own
abbrev pub note_of : Ending → List ℕ
note_of (Answered status note) = note
note_of e = unwrap_or (note_for (status_of e)) []

-- how giving an answer may end
abbrev pub Gave : Answer → Option (List ℕ) → Option (List ℕ) → Ending → Type 0
Gave due old new WriteFault = AppendsFront old new due.text
Gave due old new (Answered status note) = (status ≡ due.status) × (note ≡ due.note) × Appends old new due.text
Gave due old new (NoMemory _) = AppendsFront old new due.text
Gave due old new WordsRefused = ⊥
Gave due old new ReadFault = ⊥

-- how giving an answer of which P holds may end
pub record Gives (P : Answer → Type 0) (old new : Option (List ℕ)) (e : Ending) : Type 0 where
  pub due : Answer
  pub is_so : P due
  pub gave : Gave due old new e

-- the same, where memory may have been wanted before there was an answer
abbrev pub SomeGave : (Answer → Type 0) → Option (List ℕ) → Option (List ℕ) → Ending → Type 0
SomeGave P old new (NoMemory refused) = Keeps old new ⊎ Gives P old new (NoMemory refused)
SomeGave P old new e = Gives P old new e

-- how a call may end
abbrev pub Ended : List (List ℕ) → Option (List ℕ) → Option (List ℕ) → Option (List ℕ) → Ending → Type 0
Ended words left old new WordsRefused = (command_of words ≡ None) × Keeps old new
Ended words left old new ReadFault = ((c : Command) × (command_of words ≡ Some c)) × Keeps old new
Ended words left old new (NoMemory _) = WritesFront words left old new
Ended words left old new WriteFault = SomeDue words left (λ due. Gave due old new WriteFault)
Ended words left old new (Answered status note) = SomeDue words left (λ due. Gave due old new (Answered status note))

-- an answer that is given has read the input, where it is read
abbrev pub ReadsDue : Bool → ℕ → Option (List ℕ) → Option (List ℕ) → Ending → Type 0
ReadsDue true most old new (Answered status note) = ReadsAll most old new
ReadsDue _ most old new ending = Unit {0}

-- a command that reads no input never ends so
abbrev pub is_read_fault : Ending → Bool
is_read_fault ReadFault = true
is_read_fault _ = false

-- what an ending says of the words, and of what was done to the source and to `out`
pub record Did (words : List (List ℕ)) (input out : Change) (e : Ending) : Type 0 where
  pub ended : Ended words input.bytes out.bytes out.bytes_now e
  pub read : ReadsDue (read_by words) (most_by words) input.bytes input.bytes_now e
  pub read_fault : e ≡ ReadFault → Rose input.faults input.faults_now
  pub write_fault : e ≡ WriteFault → Rose out.faults out.faults_now
  pub unread : read_by words ≡ false → IsUntouched input
  pub sure : read_by words ≡ false → is_read_fault e ≡ false

-- what came of the words on one thread
abbrev pub Responded : List (List ℕ) → Change → Change → Response → Type 0
Responded words input out (Done e) = Did words input out e
Responded words input out (Crewed c) = (command_of words ≡ Some c) × (runs_workers c ≡ true)

-- it was left to workers, or there was no memory
abbrev pub IsUndone : Response → Type 0
IsUndone (Done e) = e ≡ NoMemory the_refusal
IsUndone (Crewed c) = Unit {0}

-- lines that were not written whole
abbrev pub broken_off : ListError → Ending
broken_off list.WriteFault = WriteFault
broken_off (list.OutOfMemory refused) = NoMemory refused
