-- How much a run adds to what it begins with: contexts to its tree, and tickets to those before.
use Rattle.std.specs.Prelude.{◌≤◌, ◌+◌, ◌*◌, ℕ, List, sum_by, length}
use Rattle.wave_base.specs.declared.limits.TheConstants.{CONTEXTS}
use Rattle.wave_base.specs.declared.call.Call.{Call}
use Rattle.wave_base.specs.declared.finished.Finished.{Finished}
use Rattle.wave_base.specs.declared.script.Line.{Line}
use Rattle.wave_base.specs.declared.script.Line.TheVariants.{Request, Move, Snapshot}
use Rattle.wave_base.specs.declared.start.Start.{Start}
use Rattle.wave_base.specs.declared.value.Value.{Value}
use Rattle.wave_base.specs.Tree.{Tree}
use Rattle.script_fold.specs.Lines.{Meaning, most_of, most_jobs}

-- The contexts that the jobs of a line may add, its own and those that come of it: for each call as many as one call may enter. A move and a
-- snapshot add none.
abbrev pub most_added : Line → ℕ
most_added (Request call) = CONTEXTS * most_of (Request call)
most_added (Move p h) = 0
most_added Snapshot = 0

abbrev pub most_contexts : List (List Line) → ℕ
most_contexts batches = sum_by (sum_by most_added) batches

-- a call on a tree adds at most as many contexts as one call may enter
abbrev pub GrowsBy : Meaning → (Tree (List Value) → Type 0) → (Call → Type 0) → Type 0
GrowsBy meaning FitsTree FitsCall = (t : Tree (List Value)) (c : Call) → FitsTree t → FitsCall c → length (meaning t c).tree.paths ≤ length t.paths + CONTEXTS

-- What a run of these batches gives: it leaves no more contexts than it began with and its lines may add, and has no more results than its
-- lines may make jobs.
pub record StaysFew (start : Start) (batches : List (List Line)) (f : Finished) : Type 0 where
  pub contexts : length f.shots ≤ length start.shots + most_contexts batches
  pub results : length f.results ≤ most_jobs batches
