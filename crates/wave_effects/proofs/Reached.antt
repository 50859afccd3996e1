-- What a state that is reached is known to have, as the calls need it.
use Rattle.std.proofs.Common.{◌≡◌, ◌∙◌, ◌⊎◌, inl, inr, ℕ, ◌+◌, ◌<◌, ◌≤◌, true, false, List, Option, Some, None, is_some, refl, ap, subst, arith}
use Rattle.std.proofs.lemmas.Bool.{cases_lt}
use Rattle.wave_base.specs.declared.path.Path.{Path}
use Rattle.context_queue.specs.declared.entry.Entry as E
use Rattle.host_map.specs.Stores.{Matches}
use Rattle.event_cells.specs.declared.cell.Cell.{Cell}
use Rattle.event_cells.specs.declared.status.Status.{Status}
use Rattle.event_cells.specs.declared.status.Status.TheVariants as status
use Rattle.event_cells.specs.Cells.{StandsFor, is_over, status_of}
use Rattle.wave_states.specs.Begins.{Begin}
use Rattle.wave_states.specs.Kinds.{Kind}
use Rattle.wave_states.specs.States as theory
use Rattle.wave_states.specs.States.{State, Event, Entry, Ended}
use Rattle.wave_states.specs.Desks.{Desk}
use Rattle.wave_theory.specs.Agree.{Agree}
use Rattle.wave_theory.specs.Bounds.{Bounds}
use Rattle.code_actor.specs.CodeActors.{Fields}
use Rattle.wave_effects.specs.declared.actor.Actor.{Actor}

nothing_is : {X : Type 0} (o : Option X) (x : X) → o ≡ None → o ≡ Some x → ⊥
nothing_is o x a b = cc

module _ {A F R J : Type 0} (kind : Kind A F R J) (workers : ℕ) (b : Begin F) (batches : List (List J)) (s : State A F R J) (bounds : Bounds kind workers b batches s) where
  -- a ticket that has an event was admitted
  pub admitted_is : (t : ℕ) (e : Event A) → (s.cells t).event ≡ Some e → (s.before < t) × (t ≤ s.before + s.admitted)
  admitted_is t e is = by_first (cases_lt s.before t)
    where
      none : (s.before < t → t ≤ s.before + s.admitted → ⊥) → ⊥
      none h = nothing_is (s.cells t).event e (ap (λ (c : theory.Cell A F R). c.event) (bounds.cells t h)) is

      by_last : s.before < t → (s.before + s.admitted < t) ⊎ (t ≤ s.before + s.admitted) → (s.before < t) × (t ≤ s.before + s.admitted)
      by_last low (inl past) = absurd (none (λ x y. omega arith))
      by_last low (inr within) = (low, within)

      by_first : (s.before < t) ⊎ (t ≤ s.before) → (s.before < t) × (t ≤ s.before + s.admitted)
      by_first (inl low) = by_last low (cases_lt (s.before + s.admitted) t)
      by_first (inr under) = absurd (none (λ x y. omega arith))

  -- and so was one that has a mail under way
  pub mailed_is : (t k : ℕ) (x : theory.Mail F) → (s.cells t).mails k ≡ Some x → (s.before < t) × (t ≤ s.before + s.admitted)
  mailed_is t k x is = by_first (cases_lt s.before t)
    where
      none : (s.before < t → t ≤ s.before + s.admitted → ⊥) → ⊥
      none h = nothing_is ((s.cells t).mails k) x (ap (λ (c : theory.Cell A F R). c.mails k) (bounds.cells t h)) is

      by_last : s.before < t → (s.before + s.admitted < t) ⊎ (t ≤ s.before + s.admitted) → (s.before < t) × (t ≤ s.before + s.admitted)
      by_last low (inl past) = absurd (none (λ x y. omega arith))
      by_last low (inr within) = (low, within)

      by_first : (s.before < t) ⊎ (t ≤ s.before) → (s.before < t) × (t ≤ s.before + s.admitted)
      by_first (inl low) = by_last low (cases_lt (s.before + s.admitted) t)
      by_first (inr under) = absurd (none (λ x y. omega arith))

  -- a host that has an entry is one of them
  pub host_is : (p : Path) (h : ℕ) (en : Entry F) → (s.columns p).store h ≡ Some en → h < kind.hosts
  host_is p h en is = by_test (cases_lt h kind.hosts)
    where
      by_test : (h < kind.hosts) ⊎ (kind.hosts ≤ h) → h < kind.hosts
      by_test (inl within) = within
      by_test (inr past) = absurd (nothing_is ((s.columns p).store h) en (bounds.elsewhere p h past).0 is)

  -- and so is one that has a mark
  pub marked_is : (p : Path) (h : ℕ) (x : theory.Mark) → (s.columns p).gone h ≡ Some x → h < kind.hosts
  marked_is p h x is = by_test (cases_lt h kind.hosts)
    where
      by_test : (h < kind.hosts) ⊎ (kind.hosts ≤ h) → h < kind.hosts
      by_test (inl within) = within
      by_test (inr past) = absurd (nothing_is ((s.columns p).gone h) x (bounds.elsewhere p h past).1 is)

module _ {A F R J : Type 0} (kind : Kind A F R J) (b : Begin F) (batches : List (List J)) (s s' : State A F R J) where
  -- an event that goes on by a label has not ended
  pub goes_on : (t : ℕ) (e e' : Event A) → Agree kind b batches s → Agree kind b batches s' → (s.cells t).event ≡ Some e → (s'.cells t).event ≡ Some e' → (s'.cells t).result ≡ (s.cells t).result → (e'.status ≡ Ended → ⊥) → e.status ≡ Ended → ⊥
  goes_on t e e' agree agree' is is' result on over = on ((agree'.ended t e' is').0 (ap is_some result ∙ (agree.ended t e is).1 over))

-- so its cell has its actor
pub not_over : (c : Cell Actor) (d : Desk Actor Fields) → StandsFor c d → (d.event.status ≡ Ended → ⊥) → is_over c.status ≡ false
not_over c d h on = by_status c.status refl
  where
    by_status : (x : Status) → c.status ≡ x → is_over c.status ≡ false
    by_status status.Travelling e = ap is_over e
    by_status (status.Waiting p) e = ap is_over e
    by_status (status.Ready p) e = ap is_over e
    by_status (status.Running p) e = ap is_over e
    by_status status.Ended e = absurd (on (h.status ∙ ap status_of e))

-- where the theory has an entry, the store has one
pub has_it : (o : Option E.Entry) (r : Option (Entry Fields)) (en : Entry Fields) → Matches o r → r ≡ Some en → is_some o ≡ true
has_it o r en m e = by_entry o (subst (Matches o) e m)
  where
    by_entry : (o : Option E.Entry) → Matches o (Some en) → is_some o ≡ true
    by_entry None h = absurd h
    by_entry (Some x) h = refl
