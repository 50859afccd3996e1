-- How a call ends: statuses, notes, and what was read and written.
use Rattle.std.specs.Prelude.{◌≡◌, ◌≢◌, ℕ, ◌⊎◌, ◌==◌, ◌||◌, Bool, true, false, not, if◌then◌else◌, Option, Some, None, IfSome, List, [], ◌∷◌, ◌++◌, codes, length, ◌<◌}
use Rattle.std.specs.Io.KnownBytes.{Appends, Keeps, IsAtEnd}
use Rattle.wave_io.specs.Causes.{Rose}
use Rattle.wave_io.specs.Streams.{AppendsFront}
use Rattle.due_parts.specs.declared.answer.Answer.{Answer}
use Rattle.command_words.specs.declared.command.Command.{Command}
use Rattle.command_words.specs.Inputs.{input_bytes, reads_input, runs_workers}
use Rattle.command_words.specs.Reading.{command_of}
use Rattle.due_answer.specs.Due.{IsToldFor}

-- wrong words, a read fault, a write fault, want of memory
abbrev pub note_for : ℕ → Option (List ℕ)
note_for n =
    if n == 2 then Some (codes "words") else if n == 5 then Some (codes "ReadFault")
    else if n == 6 then Some (codes "WriteFault") else if n == 7 then Some (codes "OutOfMemory") else None

-- a status that isn't one of these is that of an answer that was given
abbrev pub is_given : ℕ → Bool
is_given n = not (n == 2 || n == 5 || n == 6 || n == 7)

-- the bytes are what the source has, where it tells them
abbrev pub IsLeft : Option (List ℕ) → List ℕ → Type 0
IsLeft None bytes = Unit {0}
IsLeft (Some xs) bytes = xs ≡ bytes

-- the bytes of a command's input, which is empty where it reads none
abbrev pub IsInputWhere : Bool → Option (List ℕ) → List ℕ → Type 0
IsInputWhere true left bytes = IsLeft left bytes
IsInputWhere false left bytes = bytes ≡ []

abbrev pub IsInput : Command → Option (List ℕ) → List ℕ → Type 0
IsInput c left bytes = IsInputWhere (reads_input c) left bytes

-- the same, where the source tells what it has if it is read
abbrev pub IsToldWhere : Bool → Option (List ℕ) → List ℕ → Type 0
IsToldWhere true left bytes = left ≡ Some bytes
IsToldWhere false left bytes = bytes ≡ []

abbrev pub IsTold : Command → Option (List ℕ) → List ℕ → Type 0
IsTold c left bytes = IsToldWhere (reads_input c) left bytes

-- the words are a command that reads the input
abbrev pub reads_where : Option Command → Bool
reads_where None = false
reads_where (Some c) = reads_input c

abbrev pub read_by : List (List ℕ) → Bool
read_by words = reads_where (command_of words)

-- how many bytes the input may have: none, where the words are no command
abbrev pub most_where : Option Command → ℕ
most_where None = 0
most_where (Some c) = input_bytes c

abbrev pub most_by : List (List ℕ) → ℕ
most_by words = most_where (command_of words)

-- the words are a command that workers run
abbrev pub crewed_where : Option Command → Bool
crewed_where None = false
crewed_where (Some c) = runs_workers c

abbrev pub crewed_by : List (List ℕ) → Bool
crewed_by words = crewed_where (command_of words)

-- an answer is due for a command and these bytes, and with all commands but `trace` no other is; P holds of it
pub record DueFor (c : Command) (bytes : List ℕ) (P : Answer → Type 0) : Type 0 where
  pub due : Answer
  pub told : IsToldFor c bytes due
  pub holds : P due

-- the words are a command, and there are bytes of its input for which an answer is due; P holds of it
pub record SomeDue (words : List (List ℕ)) (left : Option (List ℕ)) (P : Answer → Type 0) : Type 0 where
  pub command : Command
  pub accepted : command_of words ≡ Some command
  pub bytes : List ℕ
  pub input : IsInput command left bytes
  pub found : DueFor command bytes P

-- a note is a line, and no note is none
abbrev pub note_line : List ℕ → List ℕ
note_line [] = []
note_line (b ∷ bs) = (b ∷ bs) ++ 10 ∷ []

-- the line of a note was written, or the sink failed
abbrev pub Told : ℕ → ℕ → Option (List ℕ) → Option (List ℕ) → List ℕ → Type 0
Told before now old new note = Rose before now ⊎ Appends old new (note_line note)

-- more than so many bytes stand in the input, or it was read to its end
pub record IsLong (most : ℕ) (left : Option (List ℕ)) : Type 0 where
  pub bytes : List ℕ
  pub input : IsLeft left bytes
  pub long : most < length bytes

abbrev pub ReadsAll : ℕ → Option (List ℕ) → Option (List ℕ) → Type 0
ReadsAll most old new = IsLong most old ⊎ IsAtEnd new

-- nothing was done to a stream
pub record Untouched (before now : ℕ) (old new : Option (List ℕ)) : Type 0 where
  pub kept : Keeps old new
  pub faults : now ≡ before

-- nothing was written, or a front of what is due
abbrev pub WritesFront : List (List ℕ) → Option (List ℕ) → Option (List ℕ) → Option (List ℕ) → Type 0
WritesFront words left old new = Keeps old new ⊎ SomeDue words left (λ due. AppendsFront old new due.text)

-- ---- a whole call

-- What a call did to a stream: how often it had failed before and after, and the bytes that a source had left, or that were written
-- on a sink, where they are told.
pub record Change : Type 0 where
  pub faults : ℕ
  pub faults_now : ℕ
  pub bytes : Option (List ℕ)
  pub bytes_now : Option (List ℕ)

abbrev pub change : ℕ → ℕ → Option (List ℕ) → Option (List ℕ) → Change
change faults faults_now bytes bytes_now = record { faults = faults; faults_now = faults_now; bytes = bytes; bytes_now = bytes_now }

abbrev pub IsUntouched : Change → Type 0
IsUntouched c = Untouched c.faults c.faults_now c.bytes c.bytes_now

-- There was no memory for the words: that is told, and nothing is read or written.
pub record NoWords (input out notes : Change) (n : ℕ) : Type 0 where
  pub status : n ≡ 7
  pub unread : IsUntouched input
  pub unwritten : IsUntouched out
  pub told : Told notes.faults notes.faults_now notes.bytes notes.bytes_now (codes "OutOfMemory")

-- What a status says of the words, and of what the call did to its source, to `out` and to the notes.
pub record Ends (words : List (List ℕ)) (input out notes : Change) (n : ℕ) : Type 0 where
  -- Wrong words, and no others; where these or the command read nothing, nothing is taken from the source.
  pub refused : n ≡ 2 → command_of words ≡ None
  pub wrong : command_of words ≡ None → (n ≡ 2) ⊎ (n ≡ 7)
  pub unread : read_by words ≡ false → IsUntouched input
  pub sure : read_by words ≡ false → n ≢ 5
  -- A fault of the source or of `out`.
  pub read_fault : n ≡ 5 → Rose input.faults input.faults_now
  pub write_fault : n ≡ 6 → Rose out.faults out.faults_now
  -- Each other status but 7 is that of an answer that is due, with all commands but `trace` the only one, whose text and note were written.
  pub given : is_given n ≡ true → SomeDue words input.bytes (λ due. (n ≡ due.status) × Appends out.bytes out.bytes_now due.text × Told notes.faults notes.faults_now notes.bytes notes.bytes_now due.note)
  pub end : is_given n ≡ true → read_by words ≡ true → ReadsAll (most_by words) input.bytes input.bytes_now
  -- What is written where no answer was given.
  pub nothing : (n ≡ 2) ⊎ (n ≡ 5) → Keeps out.bytes out.bytes_now
  pub front : (n ≡ 6) ⊎ (n ≡ 7) → WritesFront words input.bytes out.bytes out.bytes_now
  pub noted : IfSome (note_for n) (Told notes.faults notes.faults_now notes.bytes notes.bytes_now)
  -- What is due is given, unless memory, the source or `out` fails.
  pub complete : (c : Command) (bytes : List ℕ) → command_of words ≡ Some c → IsTold c input.bytes bytes
      → (reads_input c ≡ true → Rose input.faults input.faults_now → ⊥) → (Rose out.faults out.faults_now → ⊥)
      → (n ≡ 7) ⊎ DueFor c bytes (λ due. (n ≡ due.status) × Appends out.bytes out.bytes_now due.text)
