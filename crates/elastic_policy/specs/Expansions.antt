-- The script that a script with policies stands for: its batches, and in front of a part's those of the moves that its policy asks for.
use Rattle.std.specs.Prelude.{ℕ, ◌-◌, List, [], ◌∷◌, ◌++◌, map}
use Rattle.wave_base.specs.declared.finished.Place.{Place}
use Rattle.wave_base.specs.declared.path.Path.{Path}
use Rattle.wave_base.specs.declared.script.Line.{Line}
use Rattle.wave_base.specs.declared.script.Script.{Script}
use Rattle.wave_base.specs.declared.shape.Shape.{Shape}
use Rattle.wave_base.specs.declared.start.Start.{Start}
use Rattle.wave_base.specs.Places.{load_of}
use Rattle.script_fold.specs.Lines.{Meaning}
use Rattle.script_fold.specs.Moves.{with_batch}
use Rattle.script_fold.specs.Runs.{whole_run, finished_of}
use Rattle.script_reader.specs.declared.elastic.Elastic.{Elastic}
use Rattle.script_reader.specs.declared.elastic.Part.{Part}
use Rattle.elastic_policy.specs.Moves.{policy_moves}

-- these batches over so many hosts
abbrev pub script_of : ℕ → List (List Line) → Script
script_of hosts batches = record { hosts = hosts; batches = batches }

-- contexts, each with its load
abbrev pub loads_of : (Path → ℕ) → List Place → List (Place × ℕ)
loads_of load places = map (λ x. (x, load x.path)) places

-- calls do this, and a run of a service of this shape over so many hosts begins with this
module _ (meaning : Meaning) (shape : Shape) (start : Start) (hosts : ℕ) where
  -- the contexts where a run of these batches leaves them
  abbrev pub places_behind : List (List Line) → List Place
  places_behind done = (finished_of meaning shape start (script_of hosts done)).places

  -- how many tickets of a run of these batches entered a context
  abbrev pub entries : List (List Line) → Path → ℕ
  entries done p = load_of (whole_run meaning shape start (script_of hosts done)).entered p

  -- how many of those of the last of them, with the others before
  abbrev pub entries_in : List (List Line) → List (List Line) → Path → ℕ
  entries_in before last p = entries (before ++ last) p - entries before p

  -- the moves that a part begins with, as a batch: none where no policy stands, or it asks for none
  abbrev pub policy_batch : Part → List (List Line) → (Path → ℕ) → List (List Line)
  policy_batch part done load = with_batch (policy_moves hosts part.policy (loads_of load (places_behind done))) []

  -- The batches of these parts, behind those that are done: of each part its moves and then its own. The loads for the next part's moves
  -- are what its own came to.
  abbrev pub expand : List Part → List (List Line) → (Path → ℕ) → List (List Line)
  expand [] done load = []
  expand (part ∷ parts) done load =
      let moves = policy_batch part done load in
      moves ++ part.batches ++ expand parts ((done ++ moves) ++ part.batches) (entries_in (done ++ moves) part.batches)

-- of all its parts: no ticket is before the first
unfoldable pub expansion : Meaning → Shape → Start → Elastic → Script
expansion meaning shape start elastic = script_of elastic.hosts (expand meaning shape start elastic.hosts elastic.parts [] (λ p. 0))
