-- What is resumed from the checkpoint of a script is what the run of that script and the next has behind the lines of the first.
use Rattle.std.specs.Prelude.{◌≡◌, ◌↔◌, ◌⊎◌, ◌++◌, ℕ, List, Ok}
use Rattle.std.specs.List.{concat}
use Rattle.wave_base.specs.declared.finished.Finished.{Finished}
use Rattle.wave_base.specs.declared.script.Script.{Script}
use Rattle.wave_base.specs.declared.shape.Shape.{Shape}
use Rattle.wave_base.specs.Scripts.{IsScript}
use Rattle.wave_base.specs.Starts.{first_start}
use Rattle.mace_ast.specs.Decls.{ServiceTree}
use Rattle.context_types.specs.declared.Typed.{Typed}
use Rattle.wave_meaning.specs.Meaning.{results_of}
use Rattle.fold_laws.specs.Cuts.{both}
use Rattle.listing_out.specs.Listing.{lines_from, shown_of}
use Rattle.script_reader.specs.Judged.{nothing_earlier}
use Rattle.script_reader.specs.Scripts.{IsScriptOf}
use Rattle.service_reader.specs.Parsing.{Parses}
use Rattle.checkpoint_store.specs.declared.point.Checkpoint.{Checkpoint}
use Rattle.checkpoint_store.specs.Verdicts.{IsOnlyVerdict}
use Rattle.command_words.specs.declared.command.Places.{Places}
use Rattle.due_parts.specs.declared.answer.Answer.{Answer}
use Rattle.due_parts.specs.declared.report.Report.TheVariants.{Listing, Point}
use Rattle.due_parts.specs.declared.telling.Telling.TheVariants.{Reports}
use Rattle.due_parts.specs.Served.{IsTypedTree}
use Rattle.due_parts.specs.Told.{IsDueFirst, IsDueTold, point_behind}

-- the lines of the events of a run that begins with ticket 1
abbrev pub events_text : Shape → Finished → List ℕ
events_text shape done = concat (lines_from shape 1 (shown_of done))

-- what a script means for a typed service, and where it comes to
abbrev pub done_by : Typed → Script → Finished
done_by typed script = results_of typed.shape typed.resolved script

abbrev pub point_after : Typed → Script → Checkpoint
point_after typed script = point_behind (first_start typed.shape) script (done_by typed script)

-- Two scripts of a typed service, over the same hosts. The service was read from a text, and so was the first script.
pub record AreScripts (tree : ServiceTree) (typed : Typed) (a b : Script) : Type 0 where
  pub text : List ℕ
  pub parses : Parses text (Ok tree)
  pub is_typed : IsTypedTree tree typed
  pub lines : List ℕ
  pub reads : IsScriptOf typed.shape nothing_earlier lines (Ok a)
  pub first : IsScript typed.shape a
  pub second : IsScript typed.shape b
  pub hosts : a.hosts ≡ b.hosts

-- What is due where the first is saved, and this point is read of that; where the second goes on from there; and where both are one script.
pub record AreDue (tree : ServiceTree) (typed : Typed) (a b : Script) (places : Places) (saved resumed run : Answer) (point : Checkpoint) : Type 0 where
  pub saved_is : IsDueFirst (Reports Point) tree a saved
  pub point_is : IsOnlyVerdict typed.shape saved.text (Ok point)
  pub resumed_is : IsDueTold (Reports (Listing places)) tree point.start b resumed
  pub run_is : IsDueFirst (Reports (Listing places)) tree (both a b) run

-- The point is where the first comes to. The run of both tells the events of the first, and behind them what is told where the second goes
-- on; its status is 1 exactly where one of the two is.
pub record GoesOn (typed : Typed) (a : Script) (saved resumed run : Answer) (point : Checkpoint) : Type 0 where
  pub point_is : point ≡ point_after typed a
  pub text_is : run.text ≡ events_text typed.shape (done_by typed a) ++ resumed.text
  pub status_is : (run.status ≡ 1) ↔ ((saved.status ≡ 1) ⊎ (resumed.status ≡ 1))
