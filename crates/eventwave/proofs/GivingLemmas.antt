-- What was given of an answer that is due for a command, as how a whole call ended.
use Rattle.std.proofs.Common.{◌≡◌, ◌≤◌, inl, inr, ◌∙◌, ℕ, Bool, true, false, List, Option, Some, ap, arith, refl, sym, subst}
use Rattle.std.specs.Io.KnownBytes.{Keeps}
use Rattle.wave_io.specs.Causes.{Rose}
use Rattle.wave_io.specs.Streams.{AppendsFront}
use Rattle.listing_out.specs.declared.write.ListError.{ListError}
use Rattle.listing_out.specs.declared.write.ListError.TheVariants as list
use Rattle.command_words.specs.declared.command.Command.{Command}
use Rattle.command_words.specs.Inputs.{input_bytes, reads_input}
use Rattle.command_words.specs.Reading.{command_of}
use Rattle.due_parts.specs.declared.answer.Answer.{Answer}
use Rattle.due_answer.specs.Due.{IsToldFor}
use Rattle.eventwave.specs.declared.ending.Ending.{Ending}
use Rattle.eventwave.specs.declared.ending.Ending.TheVariants.{WordsRefused, ReadFault, WriteFault, NoMemory, Answered}
use Rattle.eventwave.specs.Ends.{Change, IsInput, IsUntouched, ReadsAll, most_by, most_where, read_by, reads_where}
use Rattle.eventwave.specs.inner.Parts.{Did, Ended, Gave, IsHindered, ReadsDue, SomeGave, broken_off, is_read_fault}

module _ (old new : Option (List ℕ)) where
  -- an answer of which P holds was given
  pub gives_it : (P : Answer → Type 0) (a : Answer) (e : Ending) → P a → Gave a old new e → SomeGave P old new e
  gives_it P a WordsRefused p g = absurd g
  gives_it P a ReadFault p g = absurd g
  gives_it P a WriteFault p g = record { due = a; is_so = p; gave = g }
  gives_it P a (NoMemory _) p g = inr (record { due = a; is_so = p; gave = g })
  gives_it P a (Answered status note) p g = record { due = a; is_so = p; gave = g }

  -- where P holds, Q does
  pub gives_as : (P Q : Answer → Type 0) (e : Ending) → ((a : Answer) → P a → Q a) → SomeGave P old new e → SomeGave Q old new e
  gives_as P Q WordsRefused f g = absurd g.gave
  gives_as P Q ReadFault f g = absurd g.gave
  gives_as P Q WriteFault f g = record { due = g.due; is_so = f g.due g.is_so; gave = g.gave }
  gives_as P Q (NoMemory _) f (inl kept) = inl kept
  gives_as P Q (NoMemory _) f (inr g) = inr (record { due = g.due; is_so = f g.due g.is_so; gave = g.gave })
  gives_as P Q (Answered status note) f g = record { due = g.due; is_so = f g.due g.is_so; gave = g.gave }

  reads_none : (P : Answer → Type 0) (e : Ending) → SomeGave P old new e → is_read_fault e ≡ false
  reads_none P WordsRefused g = refl
  reads_none P ReadFault g = absurd g.gave
  reads_none P WriteFault g = refl
  reads_none P (NoMemory _) g = refl
  reads_none P (Answered status note) g = refl

reads_due : (b : Bool) (most : ℕ) (old new : Option (List ℕ)) (e : Ending) → (b ≡ true → ReadsAll most old new) → ReadsDue b most old new e
reads_due true most old new WordsRefused h = tt
reads_due true most old new ReadFault h = tt
reads_due true most old new WriteFault h = tt
reads_due true most old new (NoMemory _) h = tt
reads_due true most old new (Answered status note) h = h refl
reads_due false most old new e h = tt

module _ (words : List (List ℕ)) (c : Command) (accepted : command_of words ≡ Some c) (input out : Change) where
  same_reads : read_by words ≡ reads_input c
  same_reads = ap reads_where accepted

  same_most : most_by words ≡ input_bytes c
  same_most = ap most_where accepted

  ended_of : (bytes : List ℕ) → IsInput c input.bytes bytes → (e : Ending) → SomeGave (IsToldFor c bytes) out.bytes out.bytes_now e → Ended words input.bytes out.bytes out.bytes_now e
  ended_of bytes i WordsRefused g = absurd g.gave
  ended_of bytes i ReadFault g = absurd g.gave
  ended_of bytes i WriteFault g = record { command = c; accepted = accepted; bytes = bytes; input = i; found = record { due = g.due; told = g.is_so; holds = g.gave } }
  ended_of bytes i (NoMemory _) (inl kept) = inl kept
  ended_of bytes i (NoMemory _) (inr g) = inr (record { command = c; accepted = accepted; bytes = bytes; input = i; found = record { due = g.due; told = g.is_so; holds = g.gave } })
  ended_of bytes i (Answered status note) g = record { command = c; accepted = accepted; bytes = bytes; input = i; found = record { due = g.due; told = g.is_so; holds = g.gave } }

  untold : (e : Ending) → is_read_fault e ≡ false → e ≡ ReadFault → Rose input.faults input.faults_now
  untold e quiet is = (let bad : is_read_fault ReadFault ≡ false = subst (λ x. is_read_fault x ≡ false) is quiet in absurd cc)

  -- an answer that is due for its input was given; where it reads its input, that was read
  pub did_give : (bytes : List ℕ) → IsInput c input.bytes bytes → (reads_input c ≡ true → ReadsAll (input_bytes c) input.bytes input.bytes_now) → (reads_input c ≡ false → IsUntouched input)
      → (e : Ending) → SomeGave (IsToldFor c bytes) out.bytes out.bytes_now e → (e ≡ WriteFault → Rose out.faults out.faults_now) → Did words input out e
  did_give bytes i all untouched e g fault = record {
    ended = ended_of bytes i e g;
    read = reads_due (read_by words) (most_by words) input.bytes input.bytes_now e (λ reads. subst (λ n. ReadsAll n input.bytes input.bytes_now) (sym same_most) (all (sym same_reads ∙ reads)));
    read_fault = untold e (reads_none out.bytes out.bytes_now (IsToldFor c bytes) e g);
    write_fault = fault;
    unread = λ unread. untouched (sym same_reads ∙ unread);
    sure = λ unread. reads_none out.bytes out.bytes_now (IsToldFor c bytes) e g;
  }

  hindered_end : (reads : Bool) (e : Ending) → IsHindered reads input.faults input.faults_now e → Keeps out.bytes out.bytes_now → Ended words input.bytes out.bytes out.bytes_now e
  hindered_end true ReadFault h kept = ((c, accepted), kept)
  hindered_end true (NoMemory _) h kept = inl kept
  hindered_end true WordsRefused h kept = absurd h
  hindered_end true WriteFault h kept = absurd h
  hindered_end true (Answered status note) h kept = absurd h
  hindered_end false ReadFault h kept = absurd h
  hindered_end false (NoMemory _) h kept = inl kept
  hindered_end false WordsRefused h kept = absurd h
  hindered_end false WriteFault h kept = absurd h
  hindered_end false (Answered status note) h kept = absurd h

  hindered_read : (reads : Bool) (e : Ending) → IsHindered reads input.faults input.faults_now e → e ≡ ReadFault → Rose input.faults input.faults_now
  hindered_read true e h is = subst (IsHindered true input.faults input.faults_now) is h
  hindered_read false e h is = absurd (subst (IsHindered false input.faults input.faults_now) is h)

  hindered_write : (reads : Bool) (e : Ending) → IsHindered reads input.faults input.faults_now e → e ≡ WriteFault → Rose out.faults out.faults_now
  hindered_write true e h is = absurd (subst (IsHindered true input.faults input.faults_now) is h)
  hindered_write false e h is = absurd (subst (IsHindered false input.faults input.faults_now) is h)

  hindered_sure : (reads : Bool) (e : Ending) → IsHindered reads input.faults input.faults_now e → reads ≡ false → is_read_fault e ≡ false
  hindered_sure true e h is = absurd cc
  hindered_sure false ReadFault h is = absurd h
  hindered_sure false (NoMemory _) h is = refl
  hindered_sure false WordsRefused h is = refl
  hindered_sure false WriteFault h is = refl
  hindered_sure false (Answered status note) h is = refl

  hindered_due : (b reads : Bool) (most : ℕ) (e : Ending) → IsHindered reads input.faults input.faults_now e → ReadsDue b most input.bytes input.bytes_now e
  hindered_due true true most (Answered status note) h = absurd h
  hindered_due true false most (Answered status note) h = absurd h
  hindered_due true reads most WordsRefused h = tt
  hindered_due true reads most ReadFault h = tt
  hindered_due true reads most WriteFault h = tt
  hindered_due true reads most (NoMemory _) h = tt
  hindered_due false reads most e h = tt

  -- nothing came of it, and nothing was written
  pub did_nothing : (e : Ending) → IsHindered (reads_input c) input.faults input.faults_now e → (reads_input c ≡ false → IsUntouched input) → Keeps out.bytes out.bytes_now → Did words input out e
  did_nothing e h untouched kept = record {
    ended = hindered_end (reads_input c) e h kept;
    read = hindered_due (read_by words) (reads_input c) (most_by words) e h;
    read_fault = hindered_read (reads_input c) e h;
    write_fault = hindered_write (reads_input c) e h;
    unread = λ unread. untouched (sym same_reads ∙ unread);
    sure = λ unread. hindered_sure (reads_input c) e h (sym same_reads ∙ unread);
  }

-- ---- lines that were not written whole

pub broken_gave : (old new : Option (List ℕ)) (a : Answer) (error : ListError) → AppendsFront old new a.text → Gave a old new (broken_off error)
broken_gave old new a list.WriteFault front = front
broken_gave old new a (list.OutOfMemory refused) front = front

pub broken_write : (error : ListError) → broken_off error ≡ WriteFault → error ≡ list.WriteFault
broken_write list.WriteFault e = refl
broken_write (list.OutOfMemory refused) e = absurd cc

-- the count rose behind a part in which it did not fall
pub rose_later : (before now later : ℕ) → before ≤ now → Rose now later → Rose before later
rose_later before now later less rose = omega (arith, less, rose)
