-- What a worker has in its hand while a segment is out.
use Rattle.std.specs.Prelude.{◌≡◌, ◌≢◌, ℕ, true, List, Some, is_some, All}
use Rattle.wave_states.specs.Actors.{Actors}
use Rattle.wave_states.specs.Kinds.{Kind}
use Rattle.wave_states.specs.States.{State, Hand, Event, Running}
use Rattle.wave_states.specs.Labels.{Label, Stop}
use Rattle.wave_states.specs.Steps.{step}
use Rattle.wave_states.specs.Runs.{run}
use Rattle.wave_states.specs.Begins.{Begin}

module _ {A F R J : Type 0} (sys : Actors A F R J) where
  -- A label leaves the hands of all other workers.
  abbrev pub HandsStay : Type 0
  HandsStay = (workers : ℕ) (s v : State A F R J) (l : Label) (w : ℕ) → step sys workers s l ≡ Some v → w ≢ l.worker → v.hands w ≡ s.hands w

  -- Hands stay. What is in a worker's hand stays there over any list of labels of which none is that worker's.
  abbrev pub HandsStayOver : Type 0
  HandsStayOver = (workers : ℕ) (s v : State A F R J) (labels : List Label) (w : ℕ) → run sys workers s labels ≡ Some v → All (λ (l : Label). w ≢ l.worker) labels → v.hands w ≡ s.hands w

  -- its ticket is running there, in this hand alone, and can be stopped by its worker
  pub record CanStop (workers : ℕ) (s : State A F R J) (worker : ℕ) (hand : Hand A F) : Type 0 where
    pub event : Event A
    pub is_event : (s.cells hand.ticket).event ≡ Some event
    pub running : event.status ≡ Running hand.path
    pub only : (other : ℕ) (h : Hand A F) → s.hands other ≡ Some h → h.ticket ≡ hand.ticket → other ≡ worker
    pub host : ℕ
    pub here : is_some ((s.columns hand.path).store host) ≡ true
    pub enabled : is_some (step sys workers s (record { worker = worker; host = host; act = Stop hand.ticket hand.path })) ≡ true

module _ {A F R J : Type 0} (kind : Kind A F R J) where
  -- Stoppable. A segment that is out can be stopped.
  abbrev pub Stoppable : ℕ → Begin F → List (List J) → State A F R J → Type 0
  Stoppable workers b batches s = (worker : ℕ) (hand : Hand A F) → s.hands worker ≡ Some hand → CanStop kind.system workers s worker hand

  -- May run. The actor in a hand may run a segment where it is, and the fields fit there.
  abbrev pub MayRun : Begin F → List (List J) → State A F R J → Type 0
  MayRun b batches s = (worker : ℕ) (hand : Hand A F) → s.hands worker ≡ Some hand → ((calls : ℕ) × kind.may_run hand.actor hand.path calls) × kind.fits hand.path hand.body.fields
