-- What is told of a script that was run from a Start.
use Rattle.std.specs.Prelude.{◌≡◌, ℕ, Bool, true, false, if◌then◌else◌, List, [], length, map, sum_by}
use Rattle.std.specs.List.{list_any}
use Rattle.wave_base.specs.declared.finished.Finished.{Finished}
use Rattle.wave_base.specs.declared.outcome.EventResult.{EventResult}
use Rattle.wave_base.specs.declared.outcome.Outcome.{Outcome}
use Rattle.wave_base.specs.declared.outcome.Outcome.TheVariants.{Trapped}
use Rattle.wave_base.specs.declared.script.Script.{Script}
use Rattle.wave_base.specs.declared.shape.Shape.{Shape}
use Rattle.wave_base.specs.declared.start.Start.{Start}
use Rattle.wave_base.specs.Starts.{first_start}
use Rattle.mace_ast.specs.Decls.{ServiceTree}
use Rattle.resolved_service.specs.declared.service.Resolved.{Resolved}
use Rattle.type_rules.specs.Known.{shape_of}
use Rattle.type_rules.specs.Services.{resolve_service}
use Rattle.type_rules.specs.Views.{resolved_view}
use Rattle.code_scheme.specs.Programs.{scheme_program}
use Rattle.command_words.specs.declared.command.Crew.{Crew}
use Rattle.command_words.specs.declared.command.Places.{Places}
use Rattle.command_words.specs.declared.command.Places.TheVariants.{Unlisted, Listed}
use Rattle.script_fold.specs.Runs.{start_after}
use Rattle.wave_meaning.specs.Meaning.{results_at, IsWholeAt}
use Rattle.plan_actors.specs.Plans.{Plan}
use Rattle.listing_out.specs.Listing.{listing}
use Rattle.wave_gen.specs.Summary.{summary_text}
use Rattle.wave_labels.specs.declared.label.Label.{Label}
use Rattle.wave_labels.specs.Labels.{label_of}
use Rattle.journal_text.specs.JournalTexts.{journal_text}
use Rattle.checkpoint_store.specs.declared.point.Checkpoint.{Checkpoint}
use Rattle.checkpoint_store.specs.CheckpointTexts.{checkpoint_text}
use Rattle.due_parts.specs.declared.answer.Answer.{Answer}
use Rattle.due_parts.specs.declared.report.Report.{Report}
use Rattle.due_parts.specs.declared.report.Report.TheVariants.{Listing, Summary, Point}
use Rattle.due_parts.specs.declared.telling.Telling.{Telling}
use Rattle.due_parts.specs.declared.telling.Telling.TheVariants.{Reports, Traces}
use Rattle.due_parts.specs.Answers.{with_text}
use Rattle.due_parts.specs.Runs.{ComesTo, IsRunOf, nearest_workers}

abbrev pub is_listed : Places → Bool
is_listed Unlisted = false
is_listed Listed = true

abbrev pub is_trap : Outcome → Bool
is_trap (Trapped t) = true
is_trap _ = false

abbrev pub any_trap : List EventResult → Bool
any_trap rs = list_any (λ (r : EventResult). is_trap r.outcome) rs

-- where a script has come to: its hosts, how many event lines it has, and what it leaves
abbrev pub point_behind : Start → Script → Finished → Checkpoint
point_behind start script done = record { hosts = script.hosts; lines = sum_by length script.batches; start = start_after start done }

-- all that was done is listed, from the first ticket on, or summed up; or the point that it leaves is written
abbrev pub report_text : Shape → Start → Script → Report → Finished → List ℕ
report_text shape start script (Listing places) done = listing shape start.next.0 done (is_listed places)
report_text shape start script Summary done = summary_text done.results
report_text shape start script Point done = checkpoint_text shape (point_behind start script done)

-- what was done is told; the status tells whether something trapped
abbrev pub report_answer : Shape → Start → Script → Report → Finished → Answer
report_answer shape start script report done = record { status = if any_trap done.results then 1 else 0; note = []; text = report_text shape start script report done }

-- of a script that was read: what its fold from a Start, to its end, on the service with each name resolved has done
pub record IsDueFold (report : Report) (tree : ServiceTree) (start : Start) (script : Script) (due : Answer) : Type 0 where
  pub service : Resolved
  pub resolved : resolved_view service ≡ resolve_service tree
  pub whole : IsWholeAt (shape_of tree) service start script
  pub due_is : due ≡ report_answer (shape_of tree) start script report (results_at (shape_of tree) service start script)

-- the plan of a crew, with the service's code
abbrev pub plan_for : Crew → Shape → Resolved → Script → Plan
plan_for crew shape service script = record { program = scheme_program shape service; script = script; workers = nearest_workers crew.workers }

-- of one that is traced: the listing of that fold, and behind it the journal of a run of this crew, which is the machine's run that comes to what is listed
pub record IsDueTrace (places : Places) (crew : Crew) (tree : ServiceTree) (start : Start) (script : Script) (due : Answer) : Type 0 where
  pub service : Resolved
  pub resolved : resolved_view service ≡ resolve_service tree
  pub whole : IsWholeAt (shape_of tree) service start script
  pub journal : List Label
  pub run : IsRunOf crew (plan_for crew (shape_of tree) service script) start (map label_of journal)
  pub comes_to : ComesTo (plan_for crew (shape_of tree) service script) start (map label_of journal) (results_at (shape_of tree) service start script)
  pub due_is : due ≡ with_text (report_answer (shape_of tree) start script (Listing places) (results_at (shape_of tree) service start script)) (journal_text (shape_of tree) journal)

-- what is told of a script that was read: a report of its fold; or the listing, and the journal of a run of this crew
abbrev pub IsDueTold : Telling → ServiceTree → Start → Script → Answer → Type 0
IsDueTold (Reports report) tree start script due = IsDueFold report tree start script due
IsDueTold (Traces places crew) tree start script due = IsDueTrace places crew tree start script due

-- the same from the first Start
abbrev pub IsDueFirst : Telling → ServiceTree → Script → Answer → Type 0
IsDueFirst telling tree script due = IsDueTold telling tree (first_start (shape_of tree)) script due
