-- What was made of work, and what was written of it, is what is told of it.
use Rattle.std.proofs.Common.{◌≡◌, ◌∙◌, ℕ, ◌+◌, ◌^◌, ◌≤◌, true, false, List, [], ◌++◌, length, map, Option, None, Some, ap, inr, refl, sym, subst, append_assoc, append-nil}
use Rattle.std.specs.Prelude.{if◌then◌else◌}
use Rattle.std.specs.List.{concat}
use Rattle.std.specs.Io.KnownBytes.{Appends}
use Rattle.std.proofs.KnownBytes.{Appends-trans}
use Rattle.std.proofs.lemmas.List.Folds.{concat-append}
use Rattle.wave_base.specs.declared.finished.Finished.{Finished}
use Rattle.wave_base.specs.declared.script.Script.{Script}
use Rattle.wave_base.specs.declared.start.Start.{Start}
use Rattle.wave_base.specs.Memory.{the_refusal}
use Rattle.wave_io.specs.Streams.{AppendsFront}
use Rattle.wave_labels.specs.declared.label.Label.{Label}
use Rattle.wave_labels.specs.Labels.{label_of}
use Rattle.service_code.specs.declared.program.Program.{Program}
use Rattle.script_fold.specs.Runs.{finished_of}
use Rattle.plan_actors.specs.Calls.{code_ran}
use Rattle.plan_actors.specs.Plans as plans
use Rattle.code_meaning.proofs.Meaning.{plan_means}
use Rattle.resolved_service.specs.declared.service.Resolved.{Resolved}
use Rattle.wave_meaning.specs.Meaning.{results_at}
use Rattle.code_runner.specs.Coded.{IsCode}
use Rattle.checkpoint_store.specs.Points.{IsPoint}
use Rattle.command_words.specs.declared.command.Crew.{Crew}
use Rattle.command_words.specs.declared.command.Places.{Places}
use Rattle.command_words.specs.declared.command.Schedule.{Schedule}
use Rattle.journal_text.specs.JournalTexts.{journal_text}
use Rattle.listing_out.specs.Listing.{end_lines, last_ticket, lines_from, places_of, shown_of}
use Rattle.listing_out.specs.declared.write.ListError.{ListError}
use Rattle.listing_out.specs.declared.write.ListError.TheVariants as list
use Rattle.listing_out.proofs.SinkLemmas.{front_written, nothing_written}
use Rattle.wave_effects.specs.Plans.{plan_of}
use Rattle.wave_effects.specs.declared.plan.Plan.{Plan}
use Rattle.host_workers.specs.Lines.{event_lines}
use Rattle.host_workers.specs.Runs.{IsWholeRun}
use Rattle.wave_states.specs.Labels as theory
use Rattle.due_answer.specs.declared.task.Engine.TheVariants.{Workers}
use Rattle.due_answer.specs.declared.task.Engine.{Engine}
use Rattle.due_answer.specs.Prepared.{Tells}
use Rattle.due_answer.specs.Tasks.{engine_by, engine_of, workers_of}
use Rattle.due_parts.specs.declared.answer.Answer.{Answer}
use Rattle.due_parts.specs.declared.report.Report.{Report}
use Rattle.due_parts.specs.declared.report.Report.TheVariants.{Listing, Summary, Point}
use Rattle.due_parts.specs.declared.telling.Telling.{Telling}
use Rattle.due_parts.specs.declared.telling.Telling.TheVariants.{Reports, Traces}
use Rattle.due_parts.specs.declared.runnable.Runnable.{Runnable}
use Rattle.due_parts.specs.Accepted.{CanRun, plan_with, point_of, run_outcome, report_of, trace_of}
use Rattle.due_parts.specs.Runs.{IsRunBy, nearest_workers}
use Rattle.due_parts.proofs.RunLemmas.{few_nearest, some_nearest}
use Rattle.due_parts.specs.Told.{any_trap, is_listed, point_behind, report_answer}
use Rattle.eventwave.specs.declared.ending.Ending.{Ending}
use Rattle.eventwave.specs.declared.ending.Ending.TheVariants.{WordsRefused, ReadFault, WriteFault, NoMemory, Answered}
use Rattle.eventwave.specs.declared.made.Made.{Made}
use Rattle.eventwave.specs.inner.Engines.{CanMake, IsJournalBy, IsMade, IsRunIn, given_by}
use Rattle.eventwave.specs.inner.Parts.{Gave, Gives, SomeGave, broken_off}
use Rattle.eventwave.specs.inner.Pouring.{HasJournal, HasTickets, IsPoured, IsTellable, end_text, journal_behind, rest_of, rest_text}
use Rattle.eventwave.specs.inner.Tasks.{has_lines}
use Rattle.eventwave.proofs.GivingLemmas.{gives_it}
use Rattle.eventwave.proofs.TaskLemmas.{Suits}

-- ---- bytes

pub front_on : (old new : Option (List ℕ)) (xs ys : List ℕ) → AppendsFront old new xs → AppendsFront old new (xs ++ ys)
front_on old new xs ys p = front_written old old new xs (xs ++ ys) ys (xs ++ ys) (nothing_written old (xs ++ ys)) p refl

-- these bytes, and a front of those behind them
pub front_behind : (old mid new : Option (List ℕ)) (xs ys : List ℕ) → Appends old mid xs → AppendsFront mid new ys → AppendsFront old new (xs ++ ys)
front_behind old mid new xs ys p q = front_written old mid new ys ys [] (xs ++ ys) (record { bytes = xs; appended = p; whole = refl }) q (sym (append-nil ys))

-- these bytes before the text of an answer
abbrev pub with_lines : List ℕ → Answer → Answer
with_lines lines a = record { status = a.status; note = a.note; text = lines ++ a.text }

gave_behind : (old mid new : Option (List ℕ)) (lines : List ℕ) (a : Answer) (e : Ending) → Appends old mid lines → Gave a mid new e → Gave (with_lines lines a) old new e
gave_behind old mid new lines a WordsRefused p g = absurd g
gave_behind old mid new lines a ReadFault p g = absurd g
gave_behind old mid new lines a WriteFault p g = front_behind old mid new lines a.text p g
gave_behind old mid new lines a (NoMemory _) p g = front_behind old mid new lines a.text p g
gave_behind old mid new lines a (Answered status note) p g = (g.0, g.1, Appends-trans old mid new lines a.text p g.2)

-- ---- the plan of work

-- the lines of the events
abbrev pub lines_by : plans.Plan → Start → List ℕ
lines_by plan start = concat (lines_from plan.program.shape start.next.0 (shown_of (given_by plan start)))

abbrev pub lines_of : Runnable → List ℕ
lines_of work = lines_by (plan_with work 1) work.start

-- what stands behind them in a listing
abbrev end_of : Places → Runnable → List ℕ
end_of places work = end_text places work.program.shape work.start.next.0 (run_outcome work)

listing_is : (work : Runnable) (places : Places) → (report_of work (Listing places)).text ≡ lines_of work ++ end_of places work
listing_is work places =
    concat-append (lines_from work.program.shape work.start.next.0 (shown_of (run_outcome work))) (end_lines work.program.shape (places_of (run_outcome work) (is_listed places)) (last_ticket work.start.next.0 (run_outcome work)))

-- an answer with the status of work that was run
abbrev as_told : Runnable → List ℕ → Answer
as_told work text = record { status = if any_trap (run_outcome work).results then 1 else 0; note = []; text = text }

module _ (work : Runnable) (workers : ℕ) (plan : plans.Plan) (start : Start) (p : plan ≡ plan_with work workers) (b : start ≡ work.start) where
  pub same_lines : lines_by plan start ≡ lines_of work
  same_lines = λ i. lines_by (p i) (b i)

  pub same_given : given_by plan start ≡ run_outcome work
  same_given = λ i. given_by (p i) (b i)

  pub can_make : (can : CanRun work) → plans.Fits plan → CanMake work.service plan start
  can_make can fits = record {
    code = subst (λ (q : plans.Plan). IsCode work.service q.program) (sym p) can.code;
    fits = fits;
    begins = subst (plans.FitsStart plan) (sym b) (subst (λ (q : plans.Plan). plans.FitsStart q work.start) (sym p) can.begins);
    few = subst (λ (f : Finished). start.next.0 + length f.results ≤ 2 ^ 32) (sym same_given) (subst (λ (s : Start). s.next.0 + length (run_outcome work).results ≤ 2 ^ 32) (sym b) can.few);
  }

  -- a journal of the work, by whom it was run
  journal_run : (o : Option Schedule) (n : ℕ) (journal : Option (List Label)) → IsJournalBy (engine_by n o) plan start journal
      → (labels : List Label) × (journal ≡ Some labels) × IsRunBy o (plan_with work workers) work.start (map label_of labels)
  journal_run (Some schedule) n (Some labels) is = (labels, refl, subst (λ (s : Start). IsRunBy (Some schedule) (plan_with work workers) s (map label_of labels)) b (subst (λ (q : plans.Plan). IsRunBy (Some schedule) q start (map label_of labels)) p is))
  journal_run None n (Some labels) is = (labels, refl, subst (λ (s : Start). IsRunBy None (plan_with work workers) s (map label_of labels)) b (subst (λ (q : plans.Plan). IsRunBy None q start (map label_of labels)) p is))
  journal_run (Some schedule) n None is = absurd is
  journal_run None n None is = absurd is

-- a plan of work that can be run, for as many workers as its engine has
pub plan_fits : (work : Runnable) (n : ℕ) (plan : plans.Plan) → plan ≡ plan_with work (nearest_workers n) → CanRun work → plans.Fits plan
plan_fits work n plan p can = subst plans.Fits (sym p) (can.fits (nearest_workers n) (some_nearest n) (few_nearest n))

pub plan_begins : (work : Runnable) (n : ℕ) (plan : plans.Plan) (start : Start) → plan ≡ plan_with work (nearest_workers n) → start ≡ work.start → CanRun work → plans.FitsStart plan start
plan_begins work n plan start p b can = subst (plans.FitsStart plan) (sym b) (subst (λ (q : plans.Plan). plans.FitsStart q work.start) (sym p) can.begins)

pub make_of : (work : Runnable) (n : ℕ) (service : Resolved) (plan : plans.Plan) (start : Start) → service ≡ work.service → plan ≡ plan_with work (nearest_workers n) → start ≡ work.start → CanRun work → CanMake service plan start
make_of work n service plan start v p b can =
    subst (λ s. CanMake s plan start) (sym v) (can_make work (nearest_workers n) plan start p b can (plan_fits work n plan p can))

-- the plan of an engine
pub for_engine : (work : Runnable) (engine : Engine) (n : ℕ) (plan : plans.Plan) → plan ≡ plan_with work (nearest_workers n) → n ≡ workers_of engine → plan ≡ plan_with work (nearest_workers (workers_of engine))
for_engine work engine n plan p e = p ∙ ap (λ m. plan_with work (nearest_workers m)) e

-- ---- what the evaluator made

pub evaluated : (service : Resolved) (plan : plans.Plan) (start : Start) → CanMake service plan start → given_by plan start ≡ results_at plan.program.shape service start plan.script
evaluated service plan start can = plan_means service plan.program can.code start plan.script can.begins can.fits.script

-- ---- what is told of work that was run

-- the lines of the events, and what stands behind them
abbrev told_with : Telling → Runnable → Made → Answer
told_with telling work made = with_lines (lines_of work) (rest_of telling work.program.shape work.start.next.0 made)

tells_rest : (telling : Telling) (work : Runnable) (made : Made) → made.done ≡ run_outcome work → has_lines telling ≡ true
    → ((places : Places) (crew : Crew) → telling ≡ Traces places crew → (labels : List Label) × (made.journal ≡ Some labels) × IsRunBy crew.schedule (plan_with work (nearest_workers crew.workers)) work.start (map label_of labels))
    → Tells telling work (told_with telling work made)
tells_rest (Reports (Listing places)) work made done lines journal =
    (λ i. record { status = if any_trap (done i).results then 1 else 0; note = []; text = lines_of work ++ end_text places work.program.shape work.start.next.0 (done i) }) ∙ ap (as_told work) (sym (listing_is work places))
tells_rest (Reports Summary) work made done lines journal = absurd cc
tells_rest (Reports Point) work made done lines journal = absurd cc
tells_rest (Traces places crew) work made done lines journal =
    let j = journal places crew refl in
    let text : List ℕ = journal_text work.program.shape j.0 in
    record {
      journal = j.0;
      run = j.2;
      is =
          (λ i. record { status = if any_trap (done i).results then 1 else 0; note = []; text = lines_of work ++ (end_text places work.program.shape work.start.next.0 (done i) ++ journal_behind work.program.shape (j.1 i)) })
          ∙ ap (as_told work) (sym (append_assoc (lines_of work) (end_of places work) text) ∙ ap (λ z. z ++ text) (sym (listing_is work places)));
    }

-- where the lines broke off, they are a front of what is told of some run
tells_front : (telling : Telling) (work : Runnable) (old new : Option (List ℕ)) (e : Ending) → CanRun work → has_lines telling ≡ true → AppendsFront old new (lines_of work)
    → ((a : Answer) → AppendsFront old new a.text → Gave a old new e) → Gives (Tells telling work) old new e
tells_front (Reports (Listing places)) work old new e can lines front g =
    let a : Answer = report_of work (Listing places) in
    record { due = a; is_so = refl; gave = g a (subst (AppendsFront old new) (sym (listing_is work places)) (front_on old new (lines_of work) (end_of places work) front)) }
tells_front (Reports Summary) work old new e can lines front g = absurd cc
tells_front (Reports Point) work old new e can lines front g = absurd cc
tells_front (Traces places crew) work old new e can lines front g =
    let j = can.runs crew in
    let a : Answer = trace_of work places j.0 in
    let whole = subst (AppendsFront old new) (sym (listing_is work places)) (front_on old new (lines_of work) (end_of places work) front) in
    record {
      due = a;
      is_so = record { journal = j.0; run = j.1; is = refl };
      gave = g a (front_on old new (report_of work (Listing places)).text (journal_text work.program.shape j.0) whole);
    }

-- the crew of a trace is that which ran
journal_of : (engine : Engine) (work : Runnable) (plan : plans.Plan) (start : Start) (telling : Telling) (made : Made) → plan ≡ plan_with work (nearest_workers (workers_of engine)) → start ≡ work.start
    → Suits telling engine → IsJournalBy engine plan start made.journal → (places : Places) (crew : Crew) → telling ≡ Traces places crew
    → (labels : List Label) × (made.journal ≡ Some labels) × IsRunBy crew.schedule (plan_with work (nearest_workers crew.workers)) work.start (map label_of labels)
journal_of engine work plan start telling made p b suits by places crew is =
    let same : engine ≡ engine_of crew = subst (λ t. Suits t engine) is suits in
    let at : plan ≡ plan_with work (nearest_workers crew.workers) = p ∙ ap (λ n. plan_with work (nearest_workers n)) (ap workers_of same ∙ crew_workers crew.workers crew.schedule) in
    journal_run work (nearest_workers crew.workers) plan start at b crew.schedule crew.workers made.journal (subst (λ x. IsJournalBy x plan start made.journal) same by)
  where
    crew_workers : (n : ℕ) (o : Option Schedule) → workers_of (engine_by n o) ≡ n
    crew_workers n (Some schedule) = refl
    crew_workers n None = refl

module _ (telling : Telling) (engine : Engine) (work : Runnable) (plan : Plan) (start : Start) (p : plan_of plan ≡ plan_with work (nearest_workers (workers_of engine))) (b : start ≡ work.start) (can : CanRun work) (suits : Suits telling engine) (lines : has_lines telling ≡ true) where
  -- a run that came to its end, with all that was written behind its lines
  pub run_gives : (made : Made) (old mid new : Option (List ℕ)) (e : Ending) → IsMade engine (plan_of plan) start made → Appends old mid (event_lines plan start)
      → Gave (rest_of telling plan.program.shape start.next.0 made) mid new e → SomeGave (Tells telling work) old new e
  run_gives made old mid new e is written gave =
      let done : made.done ≡ run_outcome work = is.done ∙ same_given work (nearest_workers (workers_of engine)) (plan_of plan) start p b in
      let g : Gave (rest_of telling work.program.shape work.start.next.0 made) mid new e = subst (λ a. Gave a mid new e) (λ i. rest_of telling (p i).program.shape (b i).next.0 made) gave in
      let l : Appends old mid (lines_of work) = subst (Appends old mid) (same_lines work (nearest_workers (workers_of engine)) (plan_of plan) start p b) written in
      gives_it old new (Tells telling work) (told_with telling work made) e (tells_rest telling work made done lines (journal_of engine work (plan_of plan) start telling made p b suits is.journal))
      (gave_behind old mid new (lines_of work) (rest_of telling work.program.shape work.start.next.0 made) e l g)

  run_breaks : (old new : Option (List ℕ)) (e : Ending) → AppendsFront old new (event_lines plan start) → ((a : Answer) → AppendsFront old new a.text → Gave a old new e) → Gives (Tells telling work) old new e
  run_breaks old new e front g =
      tells_front telling work old new e can lines (subst (AppendsFront old new) (same_lines work (nearest_workers (workers_of engine)) (plan_of plan) start p b) front) g

  -- a run that broke off
  pub run_broken : (old new : Option (List ℕ)) (error : ListError) → AppendsFront old new (event_lines plan start) → SomeGave (Tells telling work) old new (broken_off error)
  run_broken old new list.WriteFault front = run_breaks old new WriteFault front (λ a h. h)
  run_broken old new (list.OutOfMemory refused) front = inr (run_breaks old new (NoMemory refused) front (λ a h. h))

  tickets : (made : Made) → IsMade engine (plan_of plan) start made → HasTickets start made.done
  tickets made is = record {
    some = subst (λ (s : Start). 1 ≤ s.next.0) (sym b) can.begins.first_next;
    few = subst (λ (f : Finished). start.next.0 + length f.results ≤ 2 ^ 32) (sym (is.done ∙ same_given work (nearest_workers (workers_of engine)) (plan_of plan) start p b))
        (subst (λ (s : Start). s.next.0 + length (run_outcome work).results ≤ 2 ^ 32) (sym b) can.few);
  }

  -- what is asked of it where what stands behind its lines is written
  pub poured : (made : Made) → plans.Fits (plan_of plan) → IsMade engine (plan_of plan) start made → IsPoured telling (plan_of plan) start made
  poured made fits is = by_telling telling refl lines suits
    where
      by_telling : (t : Telling) → t ≡ telling → has_lines t ≡ true → Suits t engine → IsPoured t (plan_of plan) start made
      by_telling (Reports (Listing places)) e has fit = tickets made is
      by_telling (Reports Summary) e has fit = absurd cc
      by_telling (Reports Point) e has fit = absurd cc
      by_telling (Traces places crew) e has fit =
          let j = journal_of engine work (plan_of plan) start telling made p b suits is.journal places crew (sym e) in (
            tickets made is,
            record {
              code = record { service = work.service; code = subst (λ (q : plans.Plan). IsCode work.service q.program) (sym p) can.code; fits = fits };
              begins = subst (plans.FitsStart (plan_of plan)) (sym b) (subst (λ (q : plans.Plan). plans.FitsStart q work.start) (sym p) can.begins);
              labels = j.0;
              labels_are = j.1;
              run = subst (IsRunIn (plan_of plan) start) j.1 is.run;
            },
          )

-- ---- what is told at once

module _ (report : Report) (engine : Engine) (work : Runnable) (plan : Plan) (start : Start) (p : plan_of plan ≡ plan_with work (nearest_workers (workers_of engine))) (b : start ≡ work.start) where
  -- the report of what was made is that of the work
  pub report_is : (made : Made) → IsMade engine (plan_of plan) start made → report_answer plan.program.shape start plan.script report made.done ≡ report_of work report
  report_is made is =
      (λ i. report_answer (p i).program.shape (b i) (p i).script report ((is.done ∙ same_given work (nearest_workers (workers_of engine)) (plan_of plan) start p b) i))

  -- it can be told where the work has its point
  pub tellable : (made : Made) → IsMade engine (plan_of plan) start made → has_lines (Reports report) ≡ false → (Reports report ≡ Reports Point → IsPoint work.program.shape (point_of work))
      → IsTellable report plan.program.shape (point_behind start plan.script made.done)
  tellable made is quiet saved = by_report report refl quiet
    where
      by_report : (r : Report) → r ≡ report → has_lines (Reports r) ≡ false → IsTellable r plan.program.shape (point_behind start plan.script made.done)
      by_report (Listing places) e quiet = absurd cc
      by_report Summary e quiet = tt
      by_report Point e quiet =
          subst (λ (x : plans.Plan × Start × Finished). IsPoint x.0.program.shape (point_behind x.1 x.0.script x.2)) (sym (λ i. (p i, b i, (is.done ∙ same_given work (nearest_workers (workers_of engine)) (plan_of plan) start p b) i))) (saved (ap Reports (sym e)))

-- ---- what the workers made

pub made_together : (workers : ℕ) (plan : Plan) (start : Start) (done : Finished) (journal : List Label) → IsWholeRun plan start (done, journal) → IsMade (Workers workers) (plan_of plan) start (record { done = done; journal = Some journal })
unfolding IsWholeRun
made_together workers plan start done journal h = record { done = h.done; journal = h.run; run = h.run }
