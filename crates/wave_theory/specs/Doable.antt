-- What is there to do can be done: by status and mail alone one tells which labels are enabled.
use Rattle.std.specs.Prelude.{◌≡◌, ◌<◌, ◌⊎◌, ℕ, suc, true, List, Some, None, is_some}
use Rattle.wave_base.specs.declared.path.Path.{Path}
use Rattle.wave_states.specs.Kinds.{Kind}
use Rattle.wave_states.specs.States.{State, Ask, Claim, Entry, Event, Mail, Letter, Enter, Release, Transfer, Ready}
use Rattle.wave_states.specs.Labels.{Act, Queue, Grant, Visit, Start, Free, Pass, Land}
use Rattle.wave_states.specs.Steps.{step, route, may_join, Deliver, Born, Forward}
use Rattle.wave_states.specs.Begins.{Begin}

module _ {A F R J : Type 0} (kind : Kind A F R J) where
  -- each idle worker can take it at the host
  abbrev pub CanDo : ℕ → State A F R J → ℕ → Act → Type 0
  CanDo workers s host act = (worker : ℕ) → worker < workers → s.hands worker ≡ None → is_some (step kind.system workers s (record { worker = worker; host = host; act = act })) ≡ true

  -- Doable. A mail does what its letter asks for, an Enter what its route says; an event that is ready can start; and who waits under
  -- the next number gets in where it may join the holders.
  pub record Doable (workers : ℕ) (b : Begin F) (batches : List (List J)) (s : State A F R J) : Type 0 where
    pub visits : (t k : ℕ) (m : Mail F) → (s.cells t).mails k ≡ Some m → (m.letter ≡ Letter.Visit) ⊎ (m.letter ≡ Letter.Back) → CanDo workers s m.host (Visit t k m.path)
    pub frees : (t k : ℕ) (m : Mail F) → (s.cells t).mails k ≡ Some m → m.letter ≡ Release → CanDo workers s m.host (Free t k m.path)
    pub lands : (t k : ℕ) (m : Mail F) (en : Entry F) → (s.cells t).mails k ≡ Some m → m.letter ≡ Transfer en → CanDo workers s m.host (Land t k m.path)
    pub queues : (t k : ℕ) (m : Mail F) (a : Ask) → (s.cells t).mails k ≡ Some m → m.letter ≡ Enter a → (route (s.columns m.path) m.host a.followed ≡ Deliver) ⊎ (route (s.columns m.path) m.host a.followed ≡ Born) → CanDo workers s m.host (Queue t k m.path)
    pub passes : (t k : ℕ) (m : Mail F) (a : Ask) (to : ℕ) → (s.cells t).mails k ≡ Some m → m.letter ≡ Enter a → route (s.columns m.path) m.host a.followed ≡ Forward to → CanDo workers s m.host (Pass t k m.path to)
    pub starts : (t : ℕ) (event : Event A) (p : Path) → (s.cells t).event ≡ Some event → event.status ≡ Ready p → (host : ℕ) × (is_some ((s.columns p).store host) ≡ true) × CanDo workers s host (Start t p)
    pub grants : (p : Path) (host : ℕ) (en : Entry F) (c : Claim) → (s.columns p).store host ≡ Some en → en.waiting (suc en.served) ≡ Some c → may_join c.peek en.holders ≡ true → CanDo workers s host (Grant c.ticket p)
