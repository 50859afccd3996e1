-- What an event holds, and who holds a context.
use Rattle.std.specs.Prelude.{◌≡◌, ◌⊎◌, ◌+◌, ℕ, suc, Bool, true, false, nat_eq, if◌then◌else◌, List, [], ◌∷◌, Some, is_some}
use Rattle.wave_base.specs.declared.path.Path.{Path}
use Rattle.wave_states.specs.Kinds.{Kind}
use Rattle.wave_states.specs.States.{State, Claim, Entry, Event, Hand, Hold, Mail, Ask, Enter, Release, Transfer, Waiting, Running, hold_at}
use Rattle.wave_states.specs.Labels.{Act, Label, Stop}
use Rattle.wave_states.specs.Alone.{Alone, has, first_alone, after_segments, fold_alone, job_after}
use Rattle.wave_states.specs.Begins.{Begin}
use Rattle.wave_theory.specs.Numbers.{HasEntry}
use Rattle.wave_theory.specs.Listed.{IsIn}

-- how many segments of the ticket came to their end
abbrev pub is_stop_of : ℕ → Act → Bool
is_stop_of t (Stop u p) = nat_eq u t
is_stop_of t _ = false

abbrev pub stops : ℕ → List Label → ℕ
stops t [] = 0
stops t (l ∷ ls) = if is_stop_of t l.act then suc (stops t ls) else stops t ls

module _ {A F R J : Type 0} where
  -- an Enter of the ticket to the context is under way
  pub record IsEntering (s : State A F R J) (t : ℕ) (p : Path) : Type 0 where
    pub number : ℕ
    pub mail : Mail F
    pub there : (s.cells t).mails number ≡ Some mail
    pub path_is : mail.path ≡ p
    pub ask : Ask
    pub letter : mail.letter ≡ Enter ask

  -- the event still waits for the context: its Enter is under way, or it is in line
  abbrev pub WaitsFor : State A F R J → ℕ → Event A → Path → Type 0
  WaitsFor s t event p = IsEntering s t p ⊎ (event.status ≡ Waiting p)

  -- the ticket gave the context up: its Release, or the Transfer of the entry, is under way
  pub record IsParting (s : State A F R J) (t : ℕ) (p : Path) : Type 0 where
    pub number : ℕ
    pub mail : Mail F
    pub there : (s.cells t).mails number ≡ Some mail
    pub path_is : mail.path ≡ p
    pub letter : (mail.letter ≡ Release) ⊎ ((en : Entry F) × (mail.letter ≡ Transfer en))

  -- its event holds the context, as a peek where the claim is one
  pub record IsHeld (s : State A F R J) (p : Path) (claim : Claim) : Type 0 where
    pub event : Event A
    pub is_event : (s.cells claim.ticket).event ≡ Some event
    pub hold : Hold
    pub is_hold : hold_at event.held p ≡ Some hold
    pub peek : hold.peek ≡ claim.peek

module _ {A F R J : Type 0} (kind : Kind A F R J) where
  -- the event of a ticket alone, after so many segments
  abbrev pub alone_after : Begin F → List (List J) → ℕ → J → ℕ → Alone A F R
  alone_after b batches index job n = after_segments kind.system n (first_alone kind.system job (suc b.before + index) (fold_alone kind.system b batches index).tree)

  -- an event is as it is alone after as many segments: its actor, at home or in a hand with the fields that it finds; its result;
  -- and what it holds, but for what it still waits for
  pub record IsAsAlone (b : Begin F) (batches : List (List J)) (labels : List Label) (s : State A F R J) (index : ℕ) (event : Event A) : Type 0 where
    pub job : J
    pub job_is : job_after kind.system b batches index ≡ Some job
    pub alone : Alone A F R
    pub alone_is : alone ≡ alone_after b batches index job (stops (suc b.before + index) labels)
    pub actor : ((p : Path) → event.status ≡ Running p → ⊥) → event.actor ≡ Some alone.actor
    pub out : (worker : ℕ) (hand : Hand A F) → s.hands worker ≡ Some hand → hand.ticket ≡ suc b.before + index → (hand.actor ≡ alone.actor) × (hand.body.fields ≡ alone.tree.fields hand.path)
    pub result : (s.cells (suc b.before + index)).result ≡ alone.result
    pub held : (p : Path) (hold : Hold) → hold_at event.held p ≡ Some hold → (has alone.held p ≡ true) × (WaitsFor s (suc b.before + index) event p → ⊥)
    pub holds : (p : Path) → has alone.held p ≡ true → (is_some (hold_at event.held p) ≡ true) ⊎ WaitsFor s (suc b.before + index) event p

  -- Holding. Each admitted event is as it is alone. So with a Go it gives up all that lies outside the child's subtree.
  abbrev pub Holding : ℕ → Begin F → List (List J) → List Label → State A F R J → Type 0
  Holding workers b batches labels s = (index : ℕ) (event : Event A) → (s.cells (suc b.before + index)).event ≡ Some event → IsAsAlone b batches labels s index event

  -- Holders. Whoever holds a context has it among what its event holds, or gave it up; and what an event holds is held by it, and is
  -- where it says.
  pub record Holders (b : Begin F) (batches : List (List J)) (s : State A F R J) : Type 0 where
    pub known : (p : Path) (en : Entry F) (c : Claim) → HasEntry s p en → IsIn en.holders c → IsHeld s p c ⊎ IsParting s c.ticket p
    pub there : (t : ℕ) (event : Event A) (p : Path) (hold : Hold) → (s.cells t).event ≡ Some event → hold_at event.held p ≡ Some hold →
        (en : Entry F) × ((s.columns p).store hold.host ≡ Some en) × IsIn en.holders (record { ticket = t; peek = hold.peek })
