-- A script and another behind it, run as one, beside the run of each: the run of the second goes on from what the first leaves.
use Rattle.std.specs.Prelude.{◌≡◌, ◌<◌, ◌+◌, ◌++◌, true, List, length, All}
use Rattle.wave_base.specs.declared.finished.Finished.{Finished}
use Rattle.wave_base.specs.declared.outcome.EventResult.{EventResult}
use Rattle.wave_base.specs.declared.path.Path.{Path}
use Rattle.wave_base.specs.declared.script.Line.{Line}
use Rattle.wave_base.specs.declared.script.Script.{Script}
use Rattle.wave_base.specs.declared.shape.Shape.{Shape}
use Rattle.wave_base.specs.declared.start.Start.{Start}
use Rattle.wave_base.specs.declared.value.Value.{Value}
use Rattle.wave_base.specs.Fold.{Progress, is_over}
use Rattle.wave_base.specs.Places.{load_of}
use Rattle.wave_base.specs.Starts.{IsStart, start_tree, start_places}
use Rattle.script_fold.specs.Lines.{Meaning}
use Rattle.script_fold.specs.Runs.{whole_run, hosts_after, finished_of, start_after}

-- the batches of the one and then those of the other, over the hosts of the one
abbrev pub both : Script → Script → Script
both a b = record { hosts = a.hosts; batches = a.batches ++ b.batches }

-- A run, and behind it another one: the jobs, the results and the contexts entered of the one and then of the other, and the tree that
-- the other leaves.
abbrev pub joint_progress : Progress (List Value) EventResult Line → Progress (List Value) EventResult Line → Progress (List Value) EventResult Line
joint_progress v w = record {
  head = record { known = v.head.known ++ w.head.known; later = w.head.later; done = v.head.done + w.head.done };
  tree = w.tree;
  results = v.results ++ w.results;
  entered = v.entered ++ w.entered;
}

-- What the run of both tells: the results, the tickets of what was created and the numbers of the events of the one and then of the other;
-- and the contexts, with their fields and hosts, that the other leaves.
pub record AreJoined (one other whole : Finished) : Type 0 where
  pub results : whole.results ≡ one.results ++ other.results
  pub made : whole.made ≡ one.made ++ other.made
  pub names : whole.names ≡ one.names ++ other.names
  pub places : whole.places ≡ other.places
  pub shots : whole.shots ≡ other.shots

-- calls do this, and a run of a service of this shape begins with this
module _ (meaning : Meaning) (shape : Shape) (start : Start) where
  -- with what a script leaves another run can begin: its contexts, their hosts, and the ticket behind its last
  abbrev pub start_behind : Script → Start
  start_behind a = start_after start (finished_of meaning shape start a)

  -- The run of both is the run of a, and behind it that of b from what a leaves. It comes to its end, tells what both tell, one after the
  -- other, and leaves what b leaves. How many jobs entered a context is each run's own count: those of both add up.
  pub record IsCut (a b : Script) : Type 0 where
    pub fold : whole_run meaning shape start (both a b) ≡ joint_progress (whole_run meaning shape start a) (whole_run meaning shape (start_behind a) b)
    pub over : is_over (whole_run meaning shape start (both a b)) ≡ true
    pub joined : AreJoined (finished_of meaning shape start a) (finished_of meaning shape (start_behind a) b) (finished_of meaning shape start (both a b))
    pub next : start_behind (both a b) ≡ start_after (start_behind a) (finished_of meaning shape (start_behind a) b)
    pub loads : (p : Path) → load_of (whole_run meaning shape start (both a b)).entered p ≡ load_of (whole_run meaning shape start a).entered p + load_of (whole_run meaning shape (start_behind a) b).entered p

  -- A script, of however many lines, behind which another can be run: none of its batches is empty, its run comes to its end, and what it
  -- leaves is a Start that fits, in which the tree and the hosts are those at its end.
  pub record Comes (a : Script) : Type 0 where
    pub full : All (λ b. 0 < length b) a.batches
    pub over : is_over (whole_run meaning shape start a) ≡ true
    pub begins : IsStart shape a.hosts (start_behind a)
    pub tree : start_tree shape (start_behind a) ≡ (whole_run meaning shape start a).tree
    pub places : start_places (start_behind a) ≡ hosts_after start (whole_run meaning shape start a)
