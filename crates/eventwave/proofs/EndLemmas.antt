-- Where too much was read, one answer is due.
use Rattle.std.proofs.Common.{◌≡◌, ◌≢◌, ◌⊎◌, inl, inr, ◌∙◌, ℕ, ◌<◌, Bool, true, false, IfSome, List, length, Option, None, Some, ap, arith, refl, sym, subst, length-append}
use Rattle.std.specs.Prelude.{◌==◌}
use Rattle.std.proofs.lemmas.Bool.Decides.{nat_tests}
use Rattle.std.specs.Io.KnownBytes.{Appends, Consumes, Keeps}
use Rattle.wave_io.specs.Causes.{Rose}
use Rattle.due_parts.specs.declared.answer.Answer.{Answer}
use Rattle.command_words.specs.declared.command.Command.{Command}
use Rattle.command_words.specs.Inputs.{input_bytes, reads_input}
use Rattle.due_answer.specs.Due.{IsToldFor}
use Rattle.due_parts.specs.Answers.{too_large_input}
use Rattle.eventwave.specs.Ends.{Change, Ends, DueFor, SomeDue, IsInput, IsInputWhere, IsLeft, IsLong, IsTold, IsToldWhere, ReadsAll, Told, WritesFront, is_given, most_by, note_for, read_by, reads_where}
use Rattle.eventwave.specs.inner.Parts.{Did, Ended, Gave, ReadsDue, SomeInputDue, is_read_fault, note_of, status_of}
use Rattle.eventwave.specs.declared.ending.Ending.{Ending}
use Rattle.eventwave.specs.declared.ending.Ending.TheVariants.{WordsRefused, ReadFault, WriteFault, NoMemory, Answered}
use Rattle.command_words.specs.Reading.{command_of}
use Rattle.due_answer.proofs.StatusLemmas.{own_status, statuses}
use Rattle.due_answer.proofs.DueLemmas.{due_of_told, only_too_large, told_only}

-- where more was read than is allowed, the input is too large
pub long_input : (most : ℕ) (old new : Option (List ℕ)) (bytes : List ℕ) → Consumes old new bytes → most < length bytes → IsLong most old
long_input most None new bytes p long = record { bytes = bytes; input = tt; long = long }
long_input most (Some xs) None bytes p long = absurd p
long_input most (Some xs) (Some ys) bytes p long = record { bytes = xs; input = refl; long = omega (arith, ap length p, length-append bytes ys) }

-- the bytes of a command's input
pub read_bytes : (c : Command) (left : Option (List ℕ)) (bytes : List ℕ) → reads_input c ≡ true → IsLeft left bytes → IsInput c left bytes
read_bytes c left bytes reads h = subst (λ b. IsInputWhere b left bytes) (sym reads) h

pub too_large_due : (c : Command) (left : Option (List ℕ)) (a : Answer) → reads_input c ≡ true → a ≡ too_large_input → IsLong (input_bytes c) left → SomeInputDue c left a
too_large_due c left a reads e h = record { bytes = h.bytes; input = read_bytes c left h.bytes reads h.input; told = subst (IsToldFor c h.bytes) (sym e) (told_only c h.bytes too_large_input (only_too_large c h.bytes reads h.long)) }

-- ---- what a status says of how a call ended

given_own : (words : List (List ℕ)) (left : Option (List ℕ)) (status : ℕ) (P : Answer → Type 0) → SomeDue words left P → ((due : Answer) → P due → status ≡ due.status) → own_status status ≡ true
given_own words left status P s same = ap own_status (same s.found.due s.found.holds) ∙ statuses s.command s.bytes s.found.due (due_of_told s.command s.bytes s.found.due s.found.told)

not_own : (status : ℕ) → own_status status ≡ true → (status ≢ 2) × (status ≢ 5) × (status ≢ 6) × (status ≢ 7)
not_own status own = (
  λ e. let bad : own_status 2 ≡ true = ap own_status (sym e) ∙ own in cc,
  λ e. let bad : own_status 5 ≡ true = ap own_status (sym e) ∙ own in cc,
  λ e. let bad : own_status 6 ≡ true = ap own_status (sym e) ∙ own in cc,
  λ e. let bad : own_status 7 ≡ true = ap own_status (sym e) ∙ own in cc,
)

answered : (words : List (List ℕ)) (left old new : Option (List ℕ)) (status : ℕ) (note : List ℕ) → Ended words left old new (Answered status note) → (status ≢ 2) × (status ≢ 5) × (status ≢ 6) × (status ≢ 7)
answered words left old new status note h = not_own status (given_own words left status (λ due. Gave due old new (Answered status note)) h (λ due g. g.0))

differs : (n m : ℕ) → n ≢ m → (n == m) ≡ false
differs n m h = grind (arith, nat_tests)

module _ (words : List (List ℕ)) (left old new : Option (List ℕ)) where
  pub is_refused : (e : Ending) → Ended words left old new e → status_of e ≡ 2 → command_of words ≡ None
  is_refused WordsRefused h e = h.0
  is_refused ReadFault h e = absurd (omega arith)
  is_refused WriteFault h e = absurd (omega arith)
  is_refused (NoMemory _) h e = absurd (omega arith)
  is_refused (Answered status note) h e = absurd ((answered words left old new status note h).0 e)

  pub is_fault : (e : Ending) → Ended words left old new e → status_of e ≡ 5 → e ≡ ReadFault
  is_fault WordsRefused h e = absurd (omega arith)
  is_fault ReadFault h e = refl
  is_fault WriteFault h e = absurd (omega arith)
  is_fault (NoMemory _) h e = absurd (omega arith)
  is_fault (Answered status note) h e = absurd ((answered words left old new status note h).1 e)

  pub is_write_fault : (e : Ending) → Ended words left old new e → status_of e ≡ 6 → e ≡ WriteFault
  is_write_fault WordsRefused h e = absurd (omega arith)
  is_write_fault ReadFault h e = absurd (omega arith)
  is_write_fault WriteFault h e = refl
  is_write_fault (NoMemory _) h e = absurd (omega arith)
  is_write_fault (Answered status note) h e = absurd ((answered words left old new status note h).2 e)

  pub writes_nothing : (e : Ending) → Ended words left old new e → (status_of e ≡ 2) ⊎ (status_of e ≡ 5) → Keeps old new
  writes_nothing WordsRefused h e = h.1
  writes_nothing ReadFault h e = h.1
  writes_nothing (NoMemory _) h e = elim e [ inl x ↦ absurd (omega arith) | inr x ↦ absurd (omega arith) ]
  writes_nothing WriteFault h e = elim e [ inl x ↦ absurd (omega arith) | inr x ↦ absurd (omega arith) ]
  writes_nothing (Answered status note) h e =
      let own = answered words left old new status note h in
      elim e [ inl x ↦ absurd (own.0 x) | inr x ↦ absurd (own.1 x) ]

  pub writes_front : (e : Ending) → Ended words left old new e → (status_of e ≡ 6) ⊎ (status_of e ≡ 7) → WritesFront words left old new
  writes_front WordsRefused h e = inl h.1
  writes_front ReadFault h e = inl h.1
  writes_front (NoMemory _) h e = h
  writes_front WriteFault h e = inr h
  writes_front (Answered status note) h e =
      let own = answered words left old new status note h in
      elim e [ inl x ↦ absurd (own.2 x) | inr x ↦ absurd (own.3 x) ]

  tells_none : (status : ℕ) → (status ≢ 2) × (status ≢ 5) × (status ≢ 6) × (status ≢ 7) → note_for status ≡ None
  tells_none status own =
      let two : (status == 2) ≡ false = differs status 2 own.0 in
      let five : (status == 5) ≡ false = differs status 5 own.1 in
      let six : (status == 6) ≡ false = differs status 6 own.2 in
      let seven : (status == 7) ≡ false = differs status 7 own.3 in
      rw (two, five, six, seven) refl

  pub tells_note : (e : Ending) (P : List ℕ → Type 0) → Ended words left old new e → P (note_of e) → IfSome (note_for (status_of e)) P
  tells_note WordsRefused P h p = p
  tells_note ReadFault P h p = p
  tells_note WriteFault P h p = p
  tells_note (NoMemory _) P h p = p
  tells_note (Answered status note) P h p = subst (λ o. IfSome o P) (sym (tells_none status (answered words left old new status note h))) tt

-- ---- a whole call

some_same : {X : Type 0} (x y : X) → Some x ≡ Some y → x ≡ y
some_same x y e = cc

known_bytes : (reads : Bool) (left : Option (List ℕ)) (told bytes : List ℕ) → IsToldWhere reads left told → IsInputWhere reads left bytes → bytes ≡ told
known_bytes true left told bytes t i = sym (subst (λ l. IsLeft l bytes) t i)
known_bytes false left told bytes t i = i ∙ sym t

-- what was given is due for the command of the words and for its bytes
same_due : (words : List (List ℕ)) (left : Option (List ℕ)) (P : Answer → Type 0) → SomeDue words left P → (c : Command) (bytes : List ℕ) → command_of words ≡ Some c → IsTold c left bytes → DueFor c bytes P
same_due words left P s c bytes accepted told =
    let same : s.command ≡ c = some_same s.command c (sym s.accepted ∙ accepted) in
    let input : IsInput c left s.bytes = subst (λ k. IsInput k left s.bytes) same s.input in
    let equal : s.bytes ≡ bytes = known_bytes (reads_input c) left bytes s.bytes told input in
    subst (λ b. DueFor c b P) equal (subst (λ k. DueFor k s.bytes P) same s.found)

sure_true : (b : Bool) → (b ≡ false → ⊥) → b ≡ true
sure_true true h = refl
sure_true false h = absurd (h refl)

no_command : {X : Type 0} (words : List (List ℕ)) (c : Command) → command_of words ≡ Some c → command_of words ≡ None → X
no_command words c some none = (let bad : Some c ≡ None = sym some ∙ none in absurd cc)

module _ (words : List (List ℕ)) (input out : Change) where
  wrong_words : (e : Ending) → Ended words input.bytes out.bytes out.bytes_now e → command_of words ≡ None → (status_of e ≡ 2) ⊎ (status_of e ≡ 7)
  wrong_words WordsRefused h none = inl refl
  wrong_words ReadFault h none = no_command words h.0.0 h.0.1 none
  wrong_words WriteFault h none = no_command words h.command h.accepted none
  wrong_words (NoMemory _) h none = inr refl
  wrong_words (Answered status note) h none = no_command words h.command h.accepted none

  no_fault : (e : Ending) → Did words input out e → read_by words ≡ false → status_of e ≢ 5
  no_fault e d unread = λ five.
      let fault : e ≡ ReadFault = is_fault words input.bytes out.bytes out.bytes_now e d.ended five in
      let bad : is_read_fault ReadFault ≡ false = subst (λ x. is_read_fault x ≡ false) fault (d.sure unread) in
      cc

  -- what ended with a read fault reads
  reading : Did words input out ReadFault → (c : Command) → command_of words ≡ Some c → reads_input c ≡ true
  reading d c accepted = sure_true (reads_input c) (λ unread.
      let by : read_by words ≡ false = ap reads_where accepted ∙ unread in
      let bad : is_read_fault ReadFault ≡ false = d.sure by in
      cc)

  read_whole : (e : Ending) → Did words input out e → is_given (status_of e) ≡ true → read_by words ≡ true → ReadsAll (most_by words) input.bytes input.bytes_now
  read_whole WordsRefused d given reads = absurd cc
  read_whole ReadFault d given reads = absurd cc
  read_whole WriteFault d given reads = absurd cc
  read_whole (NoMemory _) d given reads = absurd cc
  read_whole (Answered status note) d given reads = subst (λ b. ReadsDue b (most_by words) input.bytes input.bytes_now (Answered status note)) reads d.read

  module _ (notes : Change) where
    abbrev pub Noted : List ℕ → Type 0
    Noted note = Told notes.faults notes.faults_now notes.bytes notes.bytes_now note

    given_due : (e : Ending) → Did words input out e → Noted (note_of e) → is_given (status_of e) ≡ true
        → SomeDue words input.bytes (λ due. (status_of e ≡ due.status) × Appends out.bytes out.bytes_now due.text × Noted due.note)
    given_due WordsRefused d told given = absurd cc
    given_due ReadFault d told given = absurd cc
    given_due WriteFault d told given = absurd cc
    given_due (NoMemory _) d told given = absurd cc
    given_due (Answered status note) d told given =
        let s = d.ended in
        let f = s.found in
        record { command = s.command; accepted = s.accepted; bytes = s.bytes; input = s.input; found = record { due = f.due; told = f.told; holds = (f.holds.0, f.holds.2, subst Noted f.holds.1 told) } }

    due_given : (e : Ending) → Did words input out e → (c : Command) (bytes : List ℕ) → command_of words ≡ Some c → IsTold c input.bytes bytes
        → (reads_input c ≡ true → Rose input.faults input.faults_now → ⊥) → (Rose out.faults out.faults_now → ⊥)
        → (status_of e ≡ 7) ⊎ DueFor c bytes (λ due. (status_of e ≡ due.status) × Appends out.bytes out.bytes_now due.text)
    due_given WordsRefused d c bytes accepted told reads writes = no_command words c accepted d.ended.0
    due_given ReadFault d c bytes accepted told reads writes = absurd (reads (reading d c accepted) (d.read_fault refl))
    due_given WriteFault d c bytes accepted told reads writes = absurd (writes (d.write_fault refl))
    due_given (NoMemory _) d c bytes accepted told reads writes = inl refl
    due_given (Answered status note) d c bytes accepted told reads writes =
        let f = same_due words input.bytes (λ a. Gave a out.bytes out.bytes_now (Answered status note)) d.ended c bytes accepted told in
        inr (record { due = f.due; told = f.told; holds = (f.holds.0, f.holds.2) })

    pub ends_of : (e : Ending) → Did words input out e → Noted (note_of e) → Ends words input out notes (status_of e)
    ends_of e d told = record {
      refused = is_refused words input.bytes out.bytes out.bytes_now e d.ended;
      wrong = wrong_words e d.ended;
      unread = d.unread;
      sure = no_fault e d;
      read_fault = λ five. d.read_fault (is_fault words input.bytes out.bytes out.bytes_now e d.ended five);
      write_fault = λ six. d.write_fault (is_write_fault words input.bytes out.bytes out.bytes_now e d.ended six);
      given = given_due e d told;
      end = read_whole e d;
      nothing = writes_nothing words input.bytes out.bytes out.bytes_now e d.ended;
      front = writes_front words input.bytes out.bytes out.bytes_now e d.ended;
      noted = tells_note words input.bytes out.bytes out.bytes_now e Noted d.ended told;
      complete = due_given e d;
    }
