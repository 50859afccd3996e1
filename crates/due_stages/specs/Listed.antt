-- A script with policies that is run and listed piece by piece: what was listed so far, what the next piece adds, and what then ends the listing.
use Rattle.std.specs.Prelude.{◌≡◌, ◌≤◌, ◌<◌, ◌+◌, ◌-◌, ◌^◌, ◌||◌, ℕ, Bool, if◌then◌else◌, is_some, List, [], ◌++◌, length, sum_by, take, Option, Some, None}
use Rattle.std.specs.List.{concat}
use Rattle.wave_base.specs.declared.finished.Finished.{Finished}
use Rattle.wave_base.specs.declared.finished.Place.{Place}
use Rattle.wave_base.specs.declared.limits.TheConstants.{WORKERS}
use Rattle.wave_base.specs.declared.script.Line.{Line}
use Rattle.wave_base.specs.declared.script.Script.{Script}
use Rattle.wave_base.specs.declared.shape.Shape.{Shape}
use Rattle.wave_base.specs.declared.start.Start.{Start}
use Rattle.wave_base.specs.Starts.{IsStart}
use Rattle.resolved_service.specs.declared.service.Resolved.{Resolved}
use Rattle.script_fold.specs.Runs.{finished_of}
use Rattle.script_reader.specs.declared.elastic.Elastic.{Elastic}
use Rattle.script_reader.specs.declared.elastic.Part.{Part}
use Rattle.service_code.specs.declared.program.Program.{Program}
use Rattle.code_runner.specs.Coded.{IsCode}
use Rattle.plan_actors.specs.Calls.{code_ran}
use Rattle.plan_actors.specs.Plans.{Fits}
use Rattle.listing_out.specs.Listing.{end_lines, lines_from, shown_of}
use Rattle.command_words.specs.declared.command.Places.{Places}
use Rattle.command_words.specs.declared.command.Places.TheVariants.{Unlisted, Listed}
use Rattle.elastic_policy.specs.Stages.{Staged, stages_left, staged_after, MayFollow}
use Rattle.elastic_meaning.specs.Walks.{AreAt, told_of}
use Rattle.due_parts.specs.declared.answer.Answer.{Answer}
use Rattle.due_parts.specs.Told.{any_trap}
use Rattle.due_stages.specs.Elastic.{listed_of}

-- ---- how many turns are left at most: of each part its own, and that of its policy

abbrev pub turns_of : Part → ℕ
turns_of part = (if is_some part.policy then 1 else 0) + 1

abbrev pub turns_left : Staged → ℕ
turns_left s = sum_by turns_of s.left

-- ---- lines

-- what a script gives from a Start, each call run by its code
abbrev pub ran_by : Program → Start → Script → Finished
ran_by program start script = finished_of (code_ran program) program.shape start script

-- the lines of the events of a run whose first ticket is this
abbrev pub events_from : Shape → ℕ → Finished → List ℕ
events_from shape first done = concat (lines_from shape first (shown_of done))

-- the contexts, where they are asked for, that a run from here begins with
abbrev pub listed_places : Places → Start → Option (List Place)
listed_places Unlisted start = None
listed_places Listed start = Some start.places

-- what ends a listing that came to here
abbrev pub end_from : Shape → Places → Start → List ℕ
end_from shape places start = concat (end_lines shape (listed_places places start) (start.next.0 - 1))

-- a text that is told without a note, and whether an event trapped
abbrev pub told_as : Bool → List ℕ → Answer
told_as trapped text = record { status = if trapped then 1 else 0; note = []; text = text }

module _ (service : Resolved) (program : Program) (elastic : Elastic) where
  -- The pieces so far came to here, this is the text of their events, and this tells whether one trapped.
  pub record IsListedTo (s : Staged) (text : List ℕ) (trapped : Bool) : Type 0 where
    pub done : List (List Line)
    pub at : AreAt service program elastic done s
    pub text_is : text ≡ events_from program.shape 1 (told_of service program elastic done)
    pub trapped_is : trapped ≡ any_trap (told_of service program elastic done).results

  -- A piece that may be run next, from there, by the code of the service and by so many workers; and what is listed then.
  pub record IsPieceListed (s : Staged) (text : List ℕ) (trapped : Bool) (script : Script) : Type 0 where
    pub code : IsCode service program
    pub fits : (workers : ℕ) → 1 ≤ workers → workers ≤ WORKERS → Fits (record { program = program; script = script; workers = workers })
    pub begins : IsStart program.shape script.hosts s.start
    -- there is a ticket for each of its results, and the next piece may begin where it ends
    pub few : s.start.next.0 + length (ran_by program s.start script).results ≤ 2 ^ 32
    pub follows : MayFollow (stages_left s) (ran_by program s.start script)
    pub next : IsListedTo (staged_after (stages_left s) (ran_by program s.start script)) (text ++ events_from program.shape s.start.next.0 (ran_by program s.start script))
        (trapped || any_trap (ran_by program s.start script).results)
    -- and fewer turns are left
    pub less : turns_left (stages_left s) < turns_left s

  -- a front of the listing that is due, with places or without
  abbrev pub IsFrontListed : List ℕ → Type 0
  IsFrontListed text = (places : Places) → (n : ℕ) × (text ≡ take n (listed_of program.shape service elastic places).text)

  -- where no piece is left, and it came to here: once the end is listed too, it is what is due, and its status is 1 exactly where an event trapped
  pub record IsWholeListed (start : Start) (text : List ℕ) (trapped : Bool) : Type 0 where
    pub some : 1 ≤ start.next.0
    pub due_is : (places : Places) → listed_of program.shape service elastic places ≡ told_as trapped (text ++ end_from program.shape places start)
