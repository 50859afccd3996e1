-- A script without its moves.
use Rattle.std.specs.Prelude.{◌≡◌, ℕ, Bool, true, false, if◌then◌else◌, List, [], ◌∷◌, filter}
use Rattle.wave_base.specs.declared.outcome.EventResult.{EventResult}
use Rattle.wave_base.specs.declared.script.Line.{Line}
use Rattle.wave_base.specs.declared.script.Line.TheVariants.{Request, Move, Snapshot}
use Rattle.wave_base.specs.declared.value.Value.{Value}
use Rattle.wave_base.specs.Fold.{Progress, first_progress, fold_jobs, is_over, created_lines}
use Rattle.wave_base.specs.Tree.{Tree}
use Rattle.script_fold.specs.Lines.{Meaning, line_by}

abbrev pub is_no_move : Line → Bool
is_no_move (Request call) = true
is_no_move (Move p h) = false
is_no_move Snapshot = true

-- a batch that is left empty is left out
abbrev pub with_batch : List Line → List (List Line) → List (List Line)
with_batch [] bs = bs
with_batch (l ∷ ls) bs = (l ∷ ls) ∷ bs

abbrev pub without_moves : List (List Line) → List (List Line)
without_moves [] = []
without_moves (b ∷ bs) = with_batch (filter is_no_move b) (without_moves bs)

-- the results of the jobs that are no moves
abbrev pub other_results : List Line → List EventResult → List EventResult
other_results [] rs = []
other_results (j ∷ js) [] = []
other_results (j ∷ js) (r ∷ rs) = if is_no_move j then r ∷ other_results js rs else other_results js rs

-- so many jobs of these batches, from this ticket and tree on
abbrev pub jobs_run : Meaning → ℕ → Tree (List Value) → List (List Line) → ℕ → Progress (List Value) EventResult Line
jobs_run meaning first tree batches n = fold_jobs first (line_by meaning) created_lines n (first_progress tree batches)

-- where a run comes to its end, so does the one without the moves, with the same last tree, and with the results of the others
pub record MovesAside (meaning : Meaning) (first : ℕ) (tree : Tree (List Value)) (batches : List (List Line)) (n : ℕ) : Type 0 where
  pub count : ℕ
  pub over : is_over (jobs_run meaning first tree (without_moves batches) count) ≡ true
  pub results : (jobs_run meaning first tree (without_moves batches) count).results ≡ other_results (jobs_run meaning first tree batches n).head.known (jobs_run meaning first tree batches n).results
  pub tree_is : (jobs_run meaning first tree (without_moves batches) count).tree ≡ (jobs_run meaning first tree batches n).tree
