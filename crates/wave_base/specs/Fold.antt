-- The fold of a script: its jobs with their tickets, and each job run whole, in ticket order, on one tree.
use Rattle.std.specs.Prelude.{ℕ, zero, suc, ◌+◌, Bool, nat_lt, if◌then◌else◌, List, [], ◌∷◌, ◌++◌, length, Option, Some, None, is_none, slice_get, map}
use Rattle.wave_base.specs.declared.path.Path.{Path}
use Rattle.wave_base.specs.declared.script.Line.{Line}
use Rattle.wave_base.specs.declared.script.Line.TheVariants.{Request}
use Rattle.wave_base.specs.declared.outcome.EventResult.{EventResult}
use Rattle.wave_base.specs.Tree.{Tree}

-- the jobs that have a ticket, in the order of their tickets; the batches that have not begun; how many jobs are done
pub record Head (J : Type 0) : Type 0 where
  pub known : List J
  pub later : List (List J)
  pub done : ℕ

module _ {J : Type 0} where
  abbrev pub begun : Head J → List (List J) → Head J
  begun h [] = h
  begun h (b ∷ bs) = record { known = h.known ++ b; later = bs; done = h.done }

  -- where all known jobs are done, the lines of the next batch become known
  abbrev pub next_batch : Head J → Head J
  next_batch h = if nat_lt h.done (length h.known) then h else begun h h.later

  abbrev pub first_head : List (List J) → Head J
  first_head batches = next_batch (record { known = []; later = batches; done = 0 })

  -- one job more is done: what it creates comes after all that is known
  abbrev pub with_done : Head J → List J → Head J
  with_done h created = next_batch (record { known = h.known ++ created; later = h.later; done = suc h.done })

  -- the first job that is known and not done
  abbrev pub next_job : Head J → Option J
  next_job h = slice_get h.known h.done

  -- after jobs that create these, one after the other
  abbrev pub head_after : Head J → List (List J) → Head J
  head_after h [] = h
  head_after h (c ∷ cs) = head_after (with_done h c) cs

  -- all jobs that have a ticket, where the results so far create these
  abbrev pub jobs : List (List J) → List (List J) → List J
  jobs batches created = (head_after (first_head batches) created).known

-- so many tickets, from this one on
abbrev pub tickets_from : ℕ → ℕ → List ℕ
tickets_from t zero = []
tickets_from t (suc n) = t ∷ tickets_from (suc t) n

module _ {J : Type 0} where
  -- the tickets of what the next job creates, where the first ticket of all is `first`
  abbrev pub tickets_of : ℕ → Head J → List J → List ℕ
  tickets_of first h created = tickets_from (first + length h.known) (length created)

  -- for each result the tickets of what it creates
  abbrev pub created_tickets : ℕ → Head J → List (List J) → List (List ℕ)
  created_tickets first h [] = []
  created_tickets first h (c ∷ cs) = tickets_of first h c ∷ created_tickets first (with_done h c) cs

-- what a job does, run whole on a tree: the tree after it, its result, and the paths that it entered, in order
pub record Ran (F R : Type 0) : Type 0 where
  pub tree : Tree F
  pub result : R
  pub entered : List Path

-- how far the fold has come: of each job that is done its result and the paths that it entered
pub record Progress (F R J : Type 0) : Type 0 where
  pub head : Head J
  pub tree : Tree F
  pub results : List R
  pub entered : List (List Path)

abbrev pub first_progress : {F R J : Type 0} → Tree F → List (List J) → Progress F R J
first_progress tree batches = record { head = first_head batches; tree = tree; results = []; entered = [] }

-- `first` is the first ticket, `run` what the job of a ticket does on a tree, `created` the jobs that a result creates
module _ {F R J : Type 0} (first : ℕ) (run : ℕ → Tree F → J → Ran F R) (created : R → List J) where
  abbrev pub with_result : Progress F R J → Ran F R → Progress F R J
  with_result w x = record {
    head = with_done w.head (created x.result);
    tree = x.tree;
    results = w.results ++ x.result ∷ [];
    entered = w.entered ++ x.entered ∷ [];
  }

  abbrev pub with_job : Progress F R J → Option J → Progress F R J
  with_job w None = w
  with_job w (Some j) = with_result w (run (first + w.head.done) w.tree j)

  -- one job more, where one is left
  abbrev pub one_more : Progress F R J → Progress F R J
  one_more w = with_job w (next_job w.head)

  -- after so many jobs, or at the end
  abbrev pub fold_jobs : ℕ → Progress F R J → Progress F R J
  fold_jobs zero w = w
  fold_jobs (suc n) w = one_more (fold_jobs n w)

-- no job is left
abbrev pub is_over : {F R J : Type 0} → Progress F R J → Bool
is_over w = is_none (next_job w.head)

-- the calls that a result creates, as jobs
abbrev pub created_lines : EventResult → List Line
created_lines r = map (λ c. Request c) r.created
