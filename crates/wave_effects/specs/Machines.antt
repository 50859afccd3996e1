-- What the machine keeps, and how that stands for a state of the theory.
use Rattle.std.specs.Prelude.{◌≡◌, ◌<◌, ◌+◌, ℕ, suc, List, length, map, take, Option, Some, None, option_map, slice_get}
use Rattle.std.specs.FinMap as table
use Rattle.wave_base.specs.declared.outcome.EventResult.{EventResult}
use Rattle.wave_base.specs.declared.path.Path.{Path}
use Rattle.wave_base.specs.declared.script.Line.{Line}
use Rattle.wave_base.specs.declared.start.Start.{Start}
use Rattle.wave_base.specs.Fold.{first_head, head_after, created_tickets, created_lines}
use Rattle.script_fold.specs.Runs.{ticket_of}
use Rattle.service_code.specs.declared.program.Program.{Program}
use Rattle.head_tickets.specs.Heads.{Heading, head_of}
use Rattle.commit_order.specs.Commits.{Committing}
use Rattle.host_map.specs.Stores.{Stores, IsAt}
use Rattle.event_cells.specs.declared.cell.Cell.{Cell}
use Rattle.event_cells.specs.declared.cell.JobKind.{JobKind}
use Rattle.event_cells.specs.Cells as cells
use Rattle.wave_states.specs.States as theory
use Rattle.wave_states.specs.States.{State, Event, Hand}
use Rattle.wave_states.specs.Desks.{Desk}
use Rattle.wave_states.specs.Steps.{step}
use Rattle.wave_states.specs.Labels.{Label}
use Rattle.wave_states.specs.Runs as runs
use Rattle.wave_states.specs.Runs.{run}
use Rattle.wave_theory.specs.Agree.{Agree}
use Rattle.wave_theory.specs.Bounds.{Bounds}
use Rattle.code_actor.specs.CodeActors.{Fields}
use Rattle.plan_actors.specs.PlanActors as actors
use Rattle.plan_actors.specs.PlanActors.{plan_actors, plan_kind}
use Rattle.plan_actors.specs.Plans.{Plan, Fits, FitsStart, begin_in}
use Rattle.plan_actors.specs.Runs.{IsRunTo}
use Rattle.wave_effects.specs.declared.actor.Actor.{Actor}
use Rattle.wave_effects.specs.declared.kept.Out.{Out}
use Rattle.wave_effects.specs.declared.kept.Settled.{Settled}
use Rattle.wave_effects.specs.Kinds.{job_kind}
use Rattle.wave_effects.specs.Actors.{IsActor, actor_of}

abbrev pub TheState : Type 0
TheState = State actors.Actor Fields EventResult Line

-- what is kept for the end: by admitted ticket the number of its event, where it is one; and by committed ticket its result and the tickets of
-- what it created
pub record Ledger : Type 0 where
  pub kinds : List JobKind
  pub results : List Settled

-- what is kept: the plan; the first ticket of the run; the jobs that have a ticket; the results that are not committed, and in order those that are; the
-- admitted events in the order of their tickets; the stores by host; and by worker which segment is out
pub record Kept : Type 0 where
  pub plan : Plan
  pub first : ℕ
  pub head : Heading
  pub commits : Committing
  pub settled : Ledger
  pub cells : List (Cell Actor)
  pub stores : List Stores
  pub hands : List (Option Out)

-- what the results create, as jobs
abbrev pub created_in : List Settled → List (List Line)
created_in rs = map (λ x. created_lines x.result) rs

-- an event with the actors that the theory has
abbrev pub event_as : Event Actor → Event actors.Actor
event_as e = record { actor = option_map actor_of e.actor; held = e.held; sent = e.sent; status = e.status }

-- A cell stands for the event of a ticket and its mails under way; and where it has the actor, this is marked as the theory has it.
pub record IsCell (program : Program) (c : Cell Actor) (cell : theory.Cell actors.Actor Fields EventResult) : Type 0 where
  pub desk : Desk Actor Fields
  pub stands : cells.StandsFor c desk
  pub event : cell.event ≡ Some (event_as desk.event)
  pub mails : (k : ℕ) → cell.mails k ≡ desk.mails k
  pub marked : (a : Actor) → c.actor ≡ Some a → IsActor program a (actor_of a)

-- of a segment that is out its ticket and path are kept, and nothing of its actor and record
abbrev pub IsOut : Option Out → Option (Hand actors.Actor Fields) → Type 0
IsOut None None = Unit {0}
IsOut (Some o) (Some h) = (h.ticket ≡ o.ticket.0) × (h.path ≡ o.path)
IsOut None (Some h) = ⊥
IsOut (Some o) None = ⊥

module _ (m : Kept) (s : TheState) where
  -- the head, for some list of the lines that were admitted
  pub record IsHead : Type 0 where
    pub lines : List Line
    pub as_many : length lines ≡ m.head.admitted
    pub head : s.head ≡ head_of lines m.head
    pub admitted : s.admitted ≡ m.head.admitted
    pub before : suc s.before ≡ m.first
    pub first : m.head.first ≡ m.first

  -- the cells of the admitted tickets, the first one's first
  pub record AreCells : Type 0 where
    pub as_many : length m.cells ≡ m.head.admitted
    pub each : (i : ℕ) (c : Cell Actor) → slice_get m.cells i ≡ Some c → IsCell m.plan.program c (s.cells (m.first + i))

  -- the kinds of the admitted jobs; and the committed results have made the head what it is, with these tickets for what they created
  pub record IsLedger : Type 0 where
    pub kinds : m.settled.kinds ≡ map job_kind (take m.head.admitted s.head.known)
    pub head : s.head ≡ head_after (first_head m.plan.script.batches) (created_in m.settled.results)
    pub made : map (λ x. x.made) m.settled.results ≡ map (map ticket_of) (created_tickets m.first (first_head m.plan.script.batches) (created_in m.settled.results))

  -- the results: of the committed tickets in their order, and of those that are not committed
  pub record AreResults : Type 0 where
    pub as_many : length m.settled.results ≡ m.head.done
    pub next : m.commits.committed + 1 ≡ m.first + m.head.done
    pub settled : (i : ℕ) (x : Settled) → slice_get m.settled.results i ≡ Some x → (s.cells (m.first + i)).result ≡ Some x.result
    pub ledger : IsLedger
    pub ended : (t : ℕ) → m.commits.committed < t → (s.cells t).result ≡ table.get m.commits.results t

  -- what each host has of each context
  pub record AreStores : Type 0 where
    pub as_many : length m.stores ≡ m.plan.script.hosts
    pub each : (h : ℕ) (x : Stores) → slice_get m.stores h ≡ Some x → (p : Path) → IsAt x p (s.columns p) h

  pub record AreHands : Type 0 where
    pub as_many : length m.hands ≡ m.plan.workers
    pub each : (w : ℕ) (o : Option Out) → slice_get m.hands w ≡ Some o → IsOut o (s.hands w)

  -- The machine stands for a state, part by part. Where it says nothing, at tickets that were not admitted and at hosts and workers
  -- past their number, a state that is reached has nothing.
  pub record Shows : Type 0 where
    pub head : IsHead
    pub cells : AreCells
    pub results : AreResults
    pub stores : AreStores
    pub hands : AreHands

-- what is known of a state that labels lead to
abbrev pub IsReached : Plan → Start → List Label → TheState → Type 0
IsReached plan start labels s = IsRunTo plan start labels s

-- they lead from the Start to a state in which nothing is left to do
pub record IsFinishedRun (plan : Plan) (start : Start) (labels : List Label) : Type 0 where
  pub state : TheState
  pub reached : IsReached plan start labels state
  pub finished : runs.Finished (plan_actors plan.program) plan.workers state

-- The machine stands for a state that some list of labels leads to from what a Start says; plan and Start fit.
pub record Stands (m : Kept) (start : Start) (s : TheState) : Type 0 where
  pub fits : Fits m.plan
  pub begins : FitsStart m.plan start
  pub labels : List Label
  pub reached : IsReached m.plan start labels s
  pub shows : Shows m s

-- a state for which it stands
pub record IsStood (m : Kept) : Type 0 where
  pub start : Start
  pub state : TheState
  pub stands : Stands m start state

-- and one in which the label is enabled
pub record IsEnabled (m : Kept) (l : Label) : Type 0 where
  pub start : Start
  pub state : TheState
  pub next : TheState
  pub stands : Stands m start state
  pub enabled : step (plan_actors m.plan.program) m.plan.workers state l ≡ Some next

-- a label was taken: each state for which the machine stood has become the one that the label leads to
abbrev pub Takes : Kept → Kept → Label → Type 0
Takes m m' l = (start : Start) (s s' : TheState) → Stands m start s → step (plan_actors m.plan.program) m.plan.workers s l ≡ Some s' → Stands m' start s'

-- each state for which the machine stood is one for which it stands
abbrev pub Keeps : Kept → Kept → Type 0
Keeps m m' = (start : Start) (s : TheState) → Stands m start s → Stands m' start s

-- the laws that the calls rest on
pub record Known (plan : Plan) (start : Start) (s : TheState) : Type 0 where
  pub bounds : Bounds (plan_kind plan.program plan.script.hosts) plan.workers (begin_in plan start) plan.script.batches s
  pub agree : Agree (plan_kind plan.program plan.script.hosts) (begin_in plan start) plan.script.batches s
