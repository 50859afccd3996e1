-- What can be taken: what is known of a state, and the Stop of a segment that is out.
use Rattle.std.specs.Prelude.{◌&&◌, ◌==◌, ℕ, Bool, false, List, slice_get}
use Rattle.wave_base.specs.declared.start.Start.{Start}
use Rattle.wave_base.specs.Paths.{path_eq}
use Rattle.host_map.specs.Stores.{Stores}
use Rattle.wave_states.specs.Labels.{Act, Stop}
use Rattle.wave_theory.specs.Listed.{ListedFor}
use Rattle.wave_theory.specs.Owners.{ByOwners}
use Rattle.plan_actors.specs.PlanActors.{plan_kind}
use Rattle.plan_actors.specs.Plans.{Plan, begin_in}
use Rattle.wave_effects.specs.declared.kept.Out.{Out}
use Rattle.wave_effects.specs.Machines.{TheState}
use Rattle.wave_machine.specs.inner.Updating.{has_at}

-- a worker's list has exactly what it can take, and each label is taken by an owner
pub record CanTake (plan : Plan) (start : Start) (s : TheState) : Type 0 where
  pub listed : ListedFor (plan_kind plan.program plan.script.hosts) plan.workers (begin_in plan start) plan.script.batches s
  pub owners : ByOwners (plan_kind plan.program plan.script.hosts) plan.workers (begin_in plan start) plan.script.batches s

-- it is the Stop of the segment, at a host whose store has the context
abbrev pub is_stop_of : List Stores → Out → ℕ → Act → Bool
is_stop_of stores o host (Stop t p) = (o.ticket.0 == t) && (path_eq o.path p && has_at p (slice_get stores host))
is_stop_of stores o host _ = false
