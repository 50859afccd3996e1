-- How far the lines of a run are written.
use Rattle.std.proofs.Common.{◌≡◌, ◌≢◌, ◌∙◌, ◌+◌, ◌≤◌, ℕ, List, [], ◌++◌, Option, Some, None, Ok, Err, length, refl, sym, ap, subst, append_assoc, append-nil, arith}
use Rattle.std.specs.Io.KnownBytes.{Appends}
use Rattle.std.specs.List.{concat}
use Rattle.wave_base.specs.declared.numbers.Worker.{Worker}
use Rattle.wave_base.specs.declared.shape.Shape.{Shape}
use Rattle.wave_base.specs.declared.shown.Shown.{Shown}
use Rattle.wave_io.specs.Causes.{Rose}
use Rattle.wave_io.specs.Streams.{AppendsFront}
use Rattle.listing_out.specs.Listing.{lines_from}
use Rattle.listing_out.specs.Parts.{AreShownFrom}
use Rattle.listing_out.proofs.PartLemmas.{all_lines, part_on, rest_of}
use Rattle.listing_out.proofs.SinkLemmas.{all_written, front_written, more_written, nothing_written, written_front}
use Rattle.kept_lock.specs.declared.view.Known.{Known}
use Rattle.kept_lock.specs.History.{StartsWith}
use Rattle.kept_lock.proofs.Entries.{starts_longer}
use Rattle.wave_effects.specs.declared.plan.Plan.{Plan}
use Rattle.wave_board.specs.declared.origin.Origin.{Origin}
use Rattle.wave_board.specs.declared.trail.StopCause.TheVariants.{SinkFault}
use Rattle.wave_board.specs.declared.trail.Trail.{Trail}
use Rattle.host_workers.specs.declared.ending.WorkerEnd.{WorkerEnd}
use Rattle.host_workers.specs.declared.ending.WorkerEnd.TheVariants as ending
use Rattle.host_workers.specs.declared.offer.Offer.TheVariants as offer
use Rattle.host_workers.specs.declared.packet.Packet.{Packet}
use Rattle.host_workers.specs.declared.task.Task.{Task}
use Rattle.host_workers.specs.declared.task.Task.TheVariants.{Segment, Again, Rest, Finished, Stopped}
use Rattle.host_workers.specs.Endings.{Ended, IsHalted}
use Rattle.host_workers.specs.Lines.{event_lines}
use Rattle.host_workers.specs.Passes.{GoesOn, IsReady, OnlyHalts}
use Rattle.host_workers.specs.inner.Rounds.{Asked, Brings}
use Rattle.host_workers.specs.inner.Writing.{AreCommitted, AreNext, AreWritten, BreaksOff, HasWritten, Offered, WritesUpTo, lines_of, told_of}
use Rattle.wave_base.specs.Memory.{the_refusal}

abbrev pub all_of : Origin → List ℕ
all_of o = event_lines o.plan.now o.start.now

module _ (o : Origin) (written : ℕ) where
  rest : (left : List ℕ) × (lines_of o written ++ left ≡ all_of o)
  rest = rest_of o.plan.now.program.shape o.start.now.next.0 (told_of o) written

  -- nothing came
  pub stays : (a : Option (List ℕ)) → WritesUpTo o written written a a
  stays a = record { bytes = []; appended = all_written a a [] [] (nothing_written a []) refl; next = append-nil (lines_of o written) }

  pub breaks_here : (a : Option (List ℕ)) → BreaksOff o written a a
  breaks_here a = record { rest = rest.0; all = rest.1; front = written_front a a rest.0 rest.0 (nothing_written a rest.0) }

  module _ (part : List Shown) (shown : AreShownFrom (told_of o) written part) where
    abbrev pub bytes : List ℕ
    bytes = concat (lines_from o.plan.now.program.shape (o.start.now.next.0 + written) part)

    on : lines_of o written ++ bytes ≡ lines_of o (written + length part)
    on = part_on o.plan.now.program.shape o.start.now.next.0 (told_of o) written part shown

    -- a part came whole
    pub writes_part : (a b : Option (List ℕ)) → Appends a b bytes → WritesUpTo o written (written + length part) a b
    writes_part a b h = record { bytes = bytes; appended = h; next = on }

    -- or a front of it
    pub breaks_in : (a b : Option (List ℕ)) → AppendsFront a b bytes → BreaksOff o written a b
    breaks_in a b h =
        let later = rest_of o.plan.now.program.shape o.start.now.next.0 (told_of o) (written + length part) in
        record {
          rest = bytes ++ later.0;
          all = sym (append_assoc (lines_of o written) bytes later.0) ∙ ap (λ z. z ++ later.0) on ∙ later.1;
          front = front_written a a b bytes (bytes ++ later.0) later.0 (bytes ++ later.0) (nothing_written a (bytes ++ later.0)) h refl;
        }

  module _ (a b : Option (List ℕ)) (before : AreWritten o written a b) (c : Option (List ℕ)) where
    -- behind those came more
    pub goes_further : (more : ℕ) → WritesUpTo o written more b c → AreWritten o more a c
    goes_further more w =
        all_written a c [] (lines_of o more)
        (more_written a b c w.bytes w.bytes [] (lines_of o more) (record { bytes = lines_of o written; appended = before; whole = w.next }) w.appended (sym (append-nil w.bytes))) refl

    -- a front of all
    pub breaks : BreaksOff o written b c → AppendsFront a c (all_of o)
    breaks w = front_written a b c w.rest w.rest [] (all_of o) (record { bytes = lines_of o written; appended = before; whole = w.all }) w.front (sym (append-nil w.rest))

    -- all of them
    pub whole : written ≡ length (told_of o).results → Appends b c [] → Appends a c (all_of o)
    whole count h =
        let last : lines_of o written ≡ all_of o = ap (lines_of o) count ∙ all_lines o.plan.now.program.shape o.start.now.next.0 (told_of o) in
        let at_end : lines_of o written ++ [] ≡ all_of o = append-nil (lines_of o written) ∙ last in
        all_written a c [] (all_of o) (more_written a b c [] [] [] (all_of o) (record { bytes = lines_of o written; appended = before; whole = at_end }) h refl) refl

-- at the beginning there is none
pub none_written : (o : Origin) (a : Option (List ℕ)) → AreWritten o 0 a a
none_written o a = all_written a a [] [] (nothing_written a []) refl

-- ---- what is committed

pub none_committed : (o : Origin) (k : Known Trail) → AreCommitted o k 0
none_committed o k = λ b s at on. omega arith

-- it stays so
pub still_committed : (o : Origin) (k k' : Known Trail) (n : ℕ) → GoesOn k k' → AreCommitted o k n → AreCommitted o k' n
still_committed o k k' n on there = λ b s at starts. there b s at (subst (λ ts. StartsWith ts k.seen) (sym starts.1) (starts_longer k'.seen starts.0 k.seen on.seen))

-- ---- a round of the worker that writes

-- a part, its bytes told by another shape and number that are the same
module _ (o : Origin) (written : ℕ) (part : List Shown) (shown : AreShownFrom (told_of o) written part) (shape : Shape) (first : ℕ) (same : shape ≡ o.plan.now.program.shape)
    (next : first ≡ o.start.now.next.0 + written) (a b : Option (List ℕ)) where
  its_bytes : concat (lines_from shape first part) ≡ bytes o written part shown
  its_bytes = ap (λ s. concat (lines_from s first part)) same ∙ ap (λ n. concat (lines_from o.plan.now.program.shape n part)) next

  pub part_came : Appends a b (concat (lines_from shape first part)) → WritesUpTo o written (written + length part) a b
  part_came h = writes_part o written part shown a b (subst (Appends a b) its_bytes h)

  pub part_broke : AppendsFront a b (concat (lines_from shape first part)) → BreaksOff o written a b
  part_broke h = breaks_in o written part shown a b (subst (AppendsFront a b) its_bytes h)

-- the next lines came whole
pub part_written : (o : Origin) (k : Known Trail) (w : Worker) (written : ℕ) (part : List Shown) (shape : Shape) (first n : ℕ) (a b : Option (List ℕ)) (f g : ℕ) → IsReady o k w → AreNext o k written part
    → shape ≡ o.plan.now.program.shape → first ≡ o.start.now.next.0 + written → n ≡ length part → Appends a b (concat (lines_from shape first part)) → HasWritten o k w written a b f g (Ok (None, written + n))
part_written o k w written part shape first n a b f g ready next same from count came =
    subst (λ m. HasWritten o k w written a b f g (Ok (None, written + m))) (sym count) (ready, next.committed, part_came o written part next.shown shape first same from a b came)

-- the task that was offered, as it was asked for
pub offered_task : (o : Origin) (k : Known Trail) (w : Worker) (written : Option ℕ) (task : Task) → Offered o k w written (Ok (offer.Task task)) → Asked o k w (Ok task)
offered_task o k w written (Segment lease) h = h
offered_task o k w written Again h = h
offered_task o k w written Rest h = h
offered_task o k w written Finished h = h.0
offered_task o k w written (Stopped why) h = h

module _ (o : Origin) (k : Known Trail) (w : Worker) (written : ℕ) where
  -- where it is finished all lines are written
  pub offered_all : (task : Task) → Offered o k w (Some written) (Ok (offer.Task task)) → task ≡ Finished → written ≡ length (told_of o).results
  offered_all task h is = (subst (λ x. Offered o k w (Some written) (Ok (offer.Task x))) is h).1

  module _ (a b : Option (List ℕ)) (f g : ℕ) where
    -- the sink failed
    pub sink_failed : k.number ≡ w.0 → IsHalted k.seen → OnlyHalts k.made SinkFault → BreaksOff o written a b → Rose f g → HasWritten o k w written a b f g (Err ending.WriteFault)
    sink_failed number halted own broke rose = (number, (halted, own), broke, (λ is. absurd cc), (λ is. rose))

    -- there was no memory
    pub no_memory : (e : WorkerEnd) → e ≡ ending.OutOfMemory the_refusal → k.number ≡ w.0 → Ended o k e → BreaksOff o written a b → HasWritten o k w written a b f g (Err e)
    no_memory e memory number ended broke = (number, ended, broke, (λ is. absurd (clash e memory is)), (λ is. absurd (fault e memory is)))
      where
        clash : (e : WorkerEnd) → e ≡ ending.OutOfMemory the_refusal → e ≡ ending.Finished → ⊥
        clash e p q = cc

        fault : (e : WorkerEnd) → e ≡ ending.OutOfMemory the_refusal → e ≡ ending.WriteFault → ⊥
        fault e p q = cc

  module _ (a : Option (List ℕ)) (f g : ℕ) where
    -- nothing was written
    pub nothing_came : (packet : Option Packet) → Brings o k w packet → AreCommitted o k written → HasWritten o k w written a a f g (Ok (packet, written))
    nothing_came packet brings there = (brings, there, stays o written a)

    pub ends_so : (e : WorkerEnd) → k.number ≡ w.0 → Ended o k e → e ≢ ending.WriteFault → (e ≡ ending.Finished → written ≡ length (told_of o).results) → HasWritten o k w written a a f g (Err e)
    ends_so e number ended no_sink all = (number, ended, breaks_here o written a, (λ is. (all is, all_written a a [] [] (nothing_written a []) refl)), (λ sink. absurd (no_sink sink)))

-- ---- the run of the worker that writes, as it ends after a round

pub rose_since : (before now later : ℕ) → before ≤ now → Rose now later → Rose before later
rose_since before now later less rose = omega (arith, less, rose)

module _ (o : Origin) (k : Known Trail) (w : Worker) (written : ℕ) (plan : Plan) (is : o.plan.now ≡ plan) (a b c : Option (List ℕ)) (before : AreWritten o written a b) (f g : ℕ) (e : WorkerEnd)
    (h : HasWritten o k w written b c f g (Err e)) where
  pub run_whole : e ≡ ending.Finished → Appends a c (event_lines plan o.start.now)
  run_whole over = subst (λ p. Appends a c (event_lines p o.start.now)) is (whole o written a b before c (h.3 over).0 (h.3 over).1)

  pub run_front : AppendsFront a c (event_lines plan o.start.now)
  run_front = subst (λ p. AppendsFront a c (event_lines p o.start.now)) is (breaks o written a b before c h.2)
