-- Work numbers: how much the jobs of a script do, by the fold.
use Rattle.std.specs.Prelude.{ℕ, zero, suc, ◌+◌, nat_eq, if◌then◌else◌, List, length, Option, Some, None}
use Rattle.wave_base.specs.declared.path.Path.{Path}
use Rattle.wave_base.specs.Tree.{Tree}
use Rattle.wave_base.specs.Places.{with_contexts}
use Rattle.wave_states.specs.Actors.{Actors}
use Rattle.wave_states.specs.Begins.{Begin}
use Rattle.wave_states.specs.Alone.{run_alone, segments_of, fold_alone, job_after, places_alone}

-- the tickets, their segments, the paths that they entered, and the moves to a host where the context wasn't
pub record WorkNumbers : Type 0 where
  pub tickets : ℕ
  pub segments : ℕ
  pub entered : ℕ
  pub moves : ℕ

abbrev pub no_work : WorkNumbers
no_work = record { tickets = 0; segments = 0; entered = 0; moves = 0 }

-- a move that changes its context's place, where the contexts are there
abbrev pub moves_away : Tree ℕ → Option (Path × ℕ) → ℕ
moves_away places None = 0
moves_away places (Some m) = if nat_eq (places.fields m.0) m.1 then 0 else 1

module _ {A F R J : Type 0} (sys : Actors A F R J) (b : Begin F) (batches : List (List J)) where
  abbrev pub work_of_job : ℕ → WorkNumbers → Option J → WorkNumbers
  work_of_job n w None = w
  work_of_job n w (Some j) =
      let tree : Tree F = (fold_alone sys b batches n).tree in
      let x = run_alone sys (suc b.before + n) tree j in
      record {
        tickets = suc w.tickets;
        segments = w.segments + segments_of sys (suc b.before + n) tree j;
        entered = w.entered + length x.entered;
        moves = w.moves + moves_away (with_contexts (places_alone sys b batches n) x.entered) (sys.moved x.result);
      }

  -- of the first n jobs
  abbrev pub work_after : ℕ → WorkNumbers
  work_after zero = no_work
  work_after (suc n) = work_of_job n (work_after n) (job_after sys b batches n)
