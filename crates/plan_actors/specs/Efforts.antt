-- How much the jobs of a plan do, in words of its script: T tickets, S segments, E contexts entered, and M moves of a context to a
-- host where it wasn't.
use Rattle.std.specs.Prelude.{ℕ, zero, suc, ◌+◌, ◌*◌, [], length, Option, Some, None, if◌then◌else◌}
use Rattle.wave_base.specs.declared.outcome.EventResult.{EventResult}
use Rattle.wave_base.specs.declared.script.Line.{Line}
use Rattle.wave_base.specs.declared.start.Start.{Start}
use Rattle.wave_base.specs.Fold.{Ran, Progress, next_job}
use Rattle.wave_base.specs.Places.{move_of}
use Rattle.script_fold.specs.Lines.{line_by, most_jobs}
use Rattle.script_fold.specs.Runs.{after_jobs, hosts_after}
use Rattle.wave_states.specs.Begins.{has_moved}
use Rattle.wave_states.specs.Work.{WorkNumbers, no_work, moves_away}
use Rattle.code_actor.specs.CodeActors.{Fields}
use Rattle.plan_actors.specs.Calls.{code_ran, segments_on}
use Rattle.plan_actors.specs.Plans.{Plan, begin_in}

module _ (plan : Plan) (start : Start) where
  -- after so many jobs of the script, calls run by their code
  abbrev pub after : ℕ → Progress Fields EventResult Line
  after n = after_jobs (code_ran plan.program) plan.program.shape start plan.script n

  -- with one job more, on the tree and over the hosts as they are then
  abbrev pub work_with : Progress Fields EventResult Line → WorkNumbers → Option Line → WorkNumbers
  work_with w x None = x
  work_with w x (Some l) =
      let ran : Ran Fields EventResult = line_by (code_ran plan.program) (start.next.0 + w.head.done) w.tree l in
      record {
        tickets = suc x.tickets;
        segments = x.segments + segments_on plan.program w.tree l;
        entered = x.entered + length ran.entered;
        moves = x.moves + moves_away (hosts_after start w) (move_of ran.result);
      }

  -- of the first n jobs
  abbrev pub work_of : ℕ → WorkNumbers
  work_of zero = no_work
  work_of (suc n) = work_with (after n) (work_of n) (next_job (after n).head)

  -- of all jobs
  unfoldable pub whole_work : WorkNumbers
  whole_work = work_of (most_jobs plan.script.batches)

  -- how often a context is sent on at most: once more than the jobs move one where the root begins elsewhere than on host 0
  abbrev pub sent_on : ℕ
  sent_on = whole_work.moves + (if has_moved (begin_in plan start) [] then 1 else 0)

  -- 2T + 3S + 2E, and E * M
  abbrev pub least_labels : ℕ
  least_labels = 2 * whole_work.tickets + 3 * whole_work.segments + 2 * whole_work.entered

  abbrev pub most_labels : ℕ
  most_labels = least_labels + whole_work.entered * sent_on
