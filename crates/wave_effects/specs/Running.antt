-- What a Start takes along and gives, and what a Stop finds and leaves.
use Rattle.std.specs.Prelude.{◌≡◌, ◌-◌, ℕ, Bool, true, false, [], map, Option, Some, None, is_some, slice_get}
use Rattle.std.specs.FinMap as table
use Rattle.wave_base.specs.declared.path.Path.{Path}
use Rattle.wave_base.specs.declared.pause.Pause.{Pause}
use Rattle.wave_base.specs.declared.record.Record.{Record}
use Rattle.wave_base.specs.declared.start.Start.{Start}
use Rattle.context_queue.specs.declared.entry.Entry.{Entry}
use Rattle.host_map.specs.Stores.{Stores}
use Rattle.event_cells.specs.declared.cell.Cell.{Cell}
use Rattle.event_cells.specs.Cells.{held_of}
use Rattle.service_code.specs.declared.program.Program.{Program}
use Rattle.script_fold.specs.Lines.{most_jobs}
use Rattle.wave_states.specs.Alone.{job_after}
use Rattle.wave_states.specs.Labels.{Label, Stop}
use Rattle.wave_states.specs.States.{Hand, holds_as_peek}
use Rattle.wave_states.specs.Steps.{step}
use Rattle.wave_theory.specs.Hands as hands
use Rattle.wave_theory.specs.Hands.{Stoppable}
use Rattle.wave_theory.specs.Sent.{Within}
use Rattle.wave_theory.specs.Trails.{Trails}
use Rattle.code_actor.specs.CodeActors.{Fields}
use Rattle.fold_laws.specs.Mails.{HaveNumbers}
use Rattle.plan_actors.specs.PlanActors as theory
use Rattle.plan_actors.specs.PlanActors.{plan_actors, plan_kind}
use Rattle.plan_actors.specs.Plans.{Plan, begin_in}
use Rattle.wave_effects.specs.declared.actor.Actor.{Actor}
use Rattle.wave_effects.specs.declared.lease.Lease.{Lease}
use Rattle.wave_effects.specs.Leases.{StandsFor, HasRun}
use Rattle.wave_effects.specs.Machines.{Kept, TheState, Stands}

-- the event of a cell holds the context, and only looks there
abbrev pub only_looks : Cell Actor → Path → Bool
only_looks c p = holds_as_peek (map held_of c.held.holds) p

-- what only looks takes a copy of the fields, without the children; what doesn't takes the record itself, and no copy
abbrev pub copy_of : Bool → Option Record → Option Record
copy_of true (Some r) = Some (record { fields = r.fields; children = [] })
copy_of true None = None
copy_of false r = None

-- it is the copy that a Start of the ticket on the context needs
abbrev pub IsCopy : Kept → ℕ → ℕ → Path → Option Record → Type 0
IsCopy m host t p copy = (c : Cell Actor) (st : Stores) (e : Entry) → slice_get m.cells (t - m.first) ≡ Some c → slice_get m.stores host ≡ Some st → table.get st.store p ≡ Some e → copy ≡ copy_of (only_looks c p) e.body

-- the lease is what a worker has in its hand
abbrev pub IsInHand : Program → Lease → Option (Hand theory.Actor Fields) → Type 0
IsInHand program lease None = ⊥
IsInHand program lease (Some hand) = StandsFor program lease hand

-- a label leases out what its worker then has in its hand, in each state for which the machine stood
abbrev pub Leases : Kept → Label → Lease → Type 0
Leases m l lease = (start : Start) (s s' : TheState) → Stands m start s → step (plan_actors m.plan.program) m.plan.workers s l ≡ Some s' → IsInHand m.plan.program lease (s'.hands l.worker)

-- the lease and its pause are what one segment gives on what its worker has in its hand
pub record IsBack (program : Program) (s : TheState) (lease : Lease) (why : Pause) : Type 0 where
  pub hand : Hand theory.Actor Fields
  pub there : s.hands lease.worker.0 ≡ Some hand
  pub run : HasRun program hand lease why

-- a state for which the machine stands, in which they are that
pub record IsStopping (m : Kept) (lease : Lease) (why : Pause) : Type 0 where
  pub start : Start
  pub state : TheState
  pub stands : Stands m start state
  pub back : IsBack m.plan.program state lease why

-- the Stop of a lease at a host
abbrev pub stop_of : Lease → ℕ → Label
stop_of lease host = record { worker = lease.worker.0; host = host; act = Stop lease.ticket.0 lease.path }

module _ (m : Kept) (lease : Lease) (why : Pause) (host : ℕ) where
  -- The Stop is enabled there in each state for which the machine stood, and in which lease and pause are what a segment gives.
  abbrev pub CanStop : Type 0
  CanStop = (start : Start) (s : TheState) → Stands m start s → IsBack m.plan.program s lease why → is_some (step (plan_actors m.plan.program) m.plan.workers s (stop_of lease host)) ≡ true

  -- And each has become the one after it.
  abbrev pub Stops : Kept → Type 0
  Stops m' = (start : Start) (s s' : TheState) → Stands m start s → IsBack m.plan.program s lease why → step (plan_actors m.plan.program) m.plan.workers s (stop_of lease host) ≡ Some s' → Stands m' start s'

-- what is known of the segments that are out: they may run and can be stopped; numbers are small, since the fold ends; each context has
-- its trail; each event has numbers for the mails that its next segment may send
pub record SegmentsKnown (plan : Plan) (start : Start) (s : TheState) : Type 0 where
  pub stoppable : Stoppable (plan_kind plan.program plan.script.hosts) plan.workers (begin_in plan start) plan.script.batches s
  pub may_run : hands.MayRun (plan_kind plan.program plan.script.hosts) (begin_in plan start) plan.script.batches s
  pub within : Within (plan_kind plan.program plan.script.hosts) (begin_in plan start) plan.script.batches s
  pub ends : job_after (plan_actors plan.program) (begin_in plan start) plan.script.batches (most_jobs plan.script.batches) ≡ None
  pub trails : Trails (plan_kind plan.program plan.script.hosts) (begin_in plan start) plan.script.batches s
  pub numbers : HaveNumbers s
