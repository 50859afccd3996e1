-- What is told of a run behind the lines of its events, or at once.
use Rattle.std.specs.Prelude.{◌≡◌, ◌≤◌, ◌+◌, ◌^◌, ◌++◌, ℕ, if◌then◌else◌, List, [], length, Option, Some, None, map}
use Rattle.std.specs.List.{concat}
use Rattle.wave_base.specs.declared.finished.Finished.{Finished}
use Rattle.wave_base.specs.declared.shape.Shape.{Shape}
use Rattle.wave_base.specs.declared.start.Start.{Start}
use Rattle.plan_actors.specs.Plans.{Plan, FitsStart}
use Rattle.wave_labels.specs.declared.label.Label.{Label}
use Rattle.wave_labels.specs.Labels.{label_of}
use Rattle.command_words.specs.declared.command.Places.{Places}
use Rattle.listing_out.specs.Listing.{end_lines, last_ticket, places_of}
use Rattle.journal_text.specs.JournalTexts.{journal_text}
use Rattle.checkpoint_store.specs.declared.point.Checkpoint.{Checkpoint}
use Rattle.checkpoint_store.specs.Points.{IsPoint}
use Rattle.due_parts.specs.declared.answer.Answer.{Answer}
use Rattle.due_parts.specs.declared.report.Report.{Report}
use Rattle.due_parts.specs.declared.report.Report.TheVariants.{Listing, Summary, Point}
use Rattle.due_parts.specs.declared.telling.Telling.{Telling}
use Rattle.due_parts.specs.declared.telling.Telling.TheVariants.{Reports, Traces}
use Rattle.due_parts.specs.Accepted.{HasCode}
use Rattle.wave_effects.specs.Machines.{IsFinishedRun}
use Rattle.due_parts.specs.Told.{any_trap, is_listed}
use Rattle.eventwave.specs.declared.made.Made.{Made}

-- ---- behind the lines

-- the end of a listing
abbrev pub end_text : Places → Shape → ℕ → Finished → List ℕ
end_text places shape first done = concat (end_lines shape (places_of done (is_listed places)) (last_ticket first done))

abbrev pub journal_behind : Shape → Option (List Label) → List ℕ
journal_behind shape None = []
journal_behind shape (Some journal) = journal_text shape journal

-- what stands behind the lines of the events
abbrev pub rest_text : Telling → Shape → ℕ → Made → List ℕ
rest_text (Reports (Listing places)) shape first made = end_text places shape first made.done
rest_text (Reports report) shape first made = []
rest_text (Traces places crew) shape first made = end_text places shape first made.done ++ journal_behind shape made.journal

-- the same as an answer, with its status
abbrev pub rest_of : Telling → Shape → ℕ → Made → Answer
rest_of telling shape first made = record { status = if any_trap made.done.results then 1 else 0; note = []; text = rest_text telling shape first made }

-- there is a ticket for each result
pub record HasTickets (start : Start) (done : Finished) : Type 0 where
  pub some : 1 ≤ start.next.0
  pub few : start.next.0 + length done.results ≤ 2 ^ 32

-- the journal is a finished run of a plan of a service's code
pub record HasJournal (plan : Plan) (start : Start) (journal : Option (List Label)) : Type 0 where
  pub code : HasCode plan
  pub begins : FitsStart plan start
  pub labels : List Label
  pub labels_are : journal ≡ Some labels
  pub run : IsFinishedRun plan start (map label_of labels)

-- what is asked of a run that is told so
abbrev pub IsPoured : Telling → Plan → Start → Made → Type 0
IsPoured (Reports (Listing places)) plan start made = HasTickets start made.done
IsPoured (Reports report) plan start made = ⊥
IsPoured (Traces places crew) plan start made = HasTickets start made.done × HasJournal plan start made.journal

-- ---- at once

-- a sum is told of each run, and a point of one that can be saved
abbrev pub IsTellable : Report → Shape → Checkpoint → Type 0
IsTellable (Listing places) shape point = ⊥
IsTellable Summary shape point = Unit {0}
IsTellable Point shape point = IsPoint shape point
