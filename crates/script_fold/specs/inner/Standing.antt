-- What is kept of a run while it goes on, and how far the fold has come that it stands for.
use Rattle.std.specs.Prelude.{◌≡◌, ◌≤◌, ◌<◌, ◌++◌, ℕ, suc, true, List, [], ◌∷◌, length, map, All}
use Rattle.std.specs.List.Sorted.{IsStrictlySortedBy}
use Rattle.wave_base.specs.declared.finished.Finished.{Finished}
use Rattle.wave_base.specs.declared.numbers.Ticket.{Ticket}
use Rattle.wave_base.specs.declared.outcome.EventResult.{EventResult}
use Rattle.wave_base.specs.declared.script.Line.{Line}
use Rattle.wave_base.specs.declared.script.Script.{Script}
use Rattle.wave_base.specs.declared.shape.Shape.{Shape}
use Rattle.wave_base.specs.declared.start.Start.{Start}
use Rattle.wave_base.specs.declared.value.Value.{Value}
use Rattle.wave_base.specs.Fold.{Head, Progress, first_head, next_batch, created_tickets, created_lines, is_over}
use Rattle.wave_base.specs.Paths.{path_cmp}
use Rattle.wave_base.specs.Scripts.{IsScript}
use Rattle.wave_base.specs.Starts.{IsStart}
use Rattle.context_tree.specs.Contexts.{Contexts, tree_of}
use Rattle.head_tickets.specs.Heads.{Heading, head_of}
use Rattle.script_fold.specs.declared.folding.Folding.{Folding}
use Rattle.script_fold.specs.Lines.{Meaning, name_of, most_jobs}
use Rattle.script_fold.specs.Runs.{after_jobs, hosts_after}
use Rattle.script_fold.specs.declared.told.Told.{Told}
use Rattle.script_fold.specs.declared.visits.Visits.{Visits}
use Rattle.script_fold.specs.Lives.{IsTold}
use Rattle.script_fold.specs.inner.Visiting.{AreInOrder, IsVisited, place_in, loads_in}

-- these jobs were admitted and are done; the head is the fold's, but that the next batch begins when it is told to
pub record IsWaiting (first : ℕ) (done : List Line) (w : Head Line) (h : Heading) : Type 0 where
  pub first_is : h.first ≡ first
  pub admitted : h.admitted ≡ length done
  pub done_is : h.done ≡ length done
  pub head : next_batch (head_of done h) ≡ w
  pub full : All (λ b. 0 < length b) h.later

-- the same, where the next batch has begun
pub record IsReady (first : ℕ) (done : List Line) (w : Head Line) (h : Heading) : Type 0 where
  pub first_is : h.first ≡ first
  pub admitted : h.admitted ≡ length done
  pub done_is : h.done ≡ length done
  pub head : head_of done h ≡ w
  pub waiting : 0 < length h.waiting
  pub full : All (λ b. 0 < length b) h.later

-- one job more was admitted, and is not done
pub record IsAdmitted (first : ℕ) (done : List Line) (line : Line) (w : Head Line) (h : Heading) : Type 0 where
  pub first_is : h.first ≡ first
  pub admitted : h.admitted ≡ suc (length done)
  pub done_is : h.done ≡ length done
  pub head : head_of (done ++ line ∷ []) h ≡ w
  pub full : All (λ b. 0 < length b) h.later

module _ (meaning : Meaning) (shape : Shape) (start : Start) (script : Script) where
  -- all but the head: these jobs are done, and the fold has come so far
  pub record IsKept (done : List Line) (w : Progress (List Value) EventResult Line) (f : Folding) : Type 0 where
    pub tree : tree_of shape f.contexts ≡ w.tree
    pub results : f.results.items ≡ w.results
    pub made_is : map (map (λ t. t.0)) f.made.items ≡ created_tickets start.next.0 (first_head script.batches) (map created_lines w.results)
    pub names : f.names.items ≡ map name_of done
    pub visits : IsVisited (hosts_after start w) w.entered [] f.visits

  pub record Stands (f : Folding) : Type 0 where
    pub done : List Line
    pub script_fits : IsScript shape script
    pub start_fits : IsStart shape script.hosts start
    pub few : length done ≤ most_jobs script.batches
    pub head : IsWaiting start.next.0 done (after_jobs meaning shape start script (length done)).head f.head
    pub kept : IsKept done (after_jobs meaning shape start script (length done)) f

  -- the fold is at its end
  pub record Ended (f : Folding) : Type 0 where
    pub count : ℕ
    pub few : count ≤ most_jobs script.batches
    pub over : is_over (after_jobs meaning shape start script count) ≡ true
    pub kept : IsKept (after_jobs meaning shape start script count).head.known (after_jobs meaning shape start script count) f
    pub ordered : IsStrictlySortedBy path_cmp (after_jobs meaning shape start script count).tree.paths

-- on these contexts a run begins, and no job of it has entered any
pub record IsBegun (start : Start) (contexts : Contexts) (visits : Visits) (next : Ticket) : Type 0 where
  pub shots : contexts.shots ≡ start.shots
  pub places : map place_in visits.hosts.entries ≡ start.places
  pub loads : visits.loads.entries ≡ []
  pub next_is : next ≡ start.next

-- these contexts are left by a whole run, and this is what its jobs gave
pub record IsLeft (f : Finished) (contexts : Contexts) (visits : Visits) (told : Told) : Type 0 where
  pub shots : contexts.shots ≡ f.shots
  pub places : map place_in visits.hosts.entries ≡ f.places
  pub loads : loads_in visits ≡ f.loads
  pub gave : IsTold told f
  pub ordered : AreInOrder visits
