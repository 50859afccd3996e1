-- Admit and Commit: what they find, and what they leave.
use Rattle.std.proofs.Common.{◌≡◌, ◌&&◌, ◌==◌, ℕ, suc, ◌+◌, Some, nat_lt, is_none}
use Rattle.std.specs.Prelude.{slice_get}
use Rattle.wave_states.specs.Actors.{Actors}
use Rattle.wave_states.specs.Labels.{Admit, Commit}
use Rattle.wave_states.specs.States.{State}
use Rattle.wave_states.specs.Steps.{after_admit, after_commit, only_if, step}
use Rattle.wave_theory.proofs.Basics.{and_second, if_some, number_is, only_some, then_some}

module _ {A F R J : Type 0} (sys : Actors A F R J) (workers : ℕ) (s s' : State A F R J) (w host t : ℕ) where
  pub record Admits : Type 0 where
    pub job : J
    pub known : slice_get s.head.known s.admitted ≡ Some job
    pub ticket : t ≡ suc (s.before + s.admitted)
    pub gives : after_admit sys s t job ≡ s'

  pub admits : step sys workers s (record { worker = w; host = host; act = Admit t }) ≡ Some s' → Admits
  unfolding step
  admits e =
      let a = if_some (nat_lt w workers) _ s' e in
      let b = if_some (is_none (s.hands w)) _ s' a.1 in
      let c = then_some (λ j. only_if ((host == 0) && (t == suc (s.before + s.admitted))) (after_admit sys s t j)) (slice_get s.head.known s.admitted) s' b.1 in
      let d = only_some ((host == 0) && (t == suc (s.before + s.admitted))) (after_admit sys s t c.0) s' c.2 in
      record { job = c.0; known = c.1; ticket = number_is t (suc (s.before + s.admitted)) (and_second (host == 0) (t == suc (s.before + s.admitted)) d.0); gives = d.1 }

  pub record Commits : Type 0 where
    pub result : R
    pub result_is : (s.cells t).result ≡ Some result
    pub ticket : t ≡ suc (s.before + s.head.done)
    pub gives : after_commit sys s result ≡ s'

  pub commits : step sys workers s (record { worker = w; host = host; act = Commit t }) ≡ Some s' → Commits
  unfolding step
  commits e =
      let a = if_some (nat_lt w workers) _ s' e in
      let b = if_some (is_none (s.hands w)) _ s' a.1 in
      let c = then_some (λ r. only_if ((host == 0) && (t == suc (s.before + s.head.done))) (after_commit sys s r)) (s.cells t).result s' b.1 in
      let d = only_some ((host == 0) && (t == suc (s.before + s.head.done))) (after_commit sys s c.0) s' c.2 in
      record { result = c.0; result_is = c.1; ticket = number_is t (suc (s.before + s.head.done)) (and_second (host == 0) (t == suc (s.before + s.head.done)) d.0); gives = d.1 }
