-- How many tickets there were before a run stays as it is.
use Rattle.std.proofs.Common.{◌≡◌, ◌∙◌, ℕ, List, [], ◌∷◌, Some, refl, sym, ap, true}
use Rattle.wave_states.specs.Actors.{Actors}
use Rattle.wave_states.specs.Labels.{Act, Label, Admit, Commit, Queue, Grant, Visit, Start, Stop, Free, Pass, Land, is_local}
use Rattle.wave_states.specs.Runs.{run}
use Rattle.wave_states.specs.States.{State}
use Rattle.wave_states.specs.Steps.{step}
use Rattle.wave_theory.proofs.Basics.{some_same, then_some}
use Rattle.wave_effects.proofs.Headed.{admits, commits}
use Rattle.wave_effects.proofs.Opening.{left_by}

module _ {A F R J : Type 0} (sys : Actors A F R J) (workers : ℕ) where
  local_before : (s s' : State A F R J) (l : Label) → is_local l.act ≡ true → step sys workers s l ≡ Some s' → s'.before ≡ s.before
  local_before s s' l z e = ap (λ (x : State A F R J). x.before) (sym (left_by sys workers s s' l z e).gives)

  by_act : (s s' : State A F R J) (w host : ℕ) (a : Act) → step sys workers s (record { worker = w; host = host; act = a }) ≡ Some s' → s'.before ≡ s.before
  by_act s s' w host (Admit t) e = ap (λ (x : State A F R J). x.before) (sym (admits sys workers s s' w host t e).gives)
  by_act s s' w host (Commit t) e = ap (λ (x : State A F R J). x.before) (sym (commits sys workers s s' w host t e).gives)
  by_act s s' w host (Queue t k p) e = local_before s s' (record { worker = w; host = host; act = Queue t k p }) refl e
  by_act s s' w host (Grant t p) e = local_before s s' (record { worker = w; host = host; act = Grant t p }) refl e
  by_act s s' w host (Visit t k p) e = local_before s s' (record { worker = w; host = host; act = Visit t k p }) refl e
  by_act s s' w host (Start t p) e = local_before s s' (record { worker = w; host = host; act = Start t p }) refl e
  by_act s s' w host (Stop t p) e = local_before s s' (record { worker = w; host = host; act = Stop t p }) refl e
  by_act s s' w host (Free t k p) e = local_before s s' (record { worker = w; host = host; act = Free t k p }) refl e
  by_act s s' w host (Pass t k p g) e = local_before s s' (record { worker = w; host = host; act = Pass t k p g }) refl e
  by_act s s' w host (Land t k p) e = local_before s s' (record { worker = w; host = host; act = Land t k p }) refl e

  pub run_before : (ls : List Label) (s s' : State A F R J) → run sys workers s ls ≡ Some s' → s'.before ≡ s.before
  unfolding run
  run_before [] s s' e = ap (λ (x : State A F R J). x.before) (sym (some_same s s' e))
  run_before (l ∷ ls) s s' e =
      let u = then_some (λ u. run sys workers u ls) (step sys workers s l) s' e in
      run_before ls u.0 s' u.2 ∙ by_act s u.0 l.worker l.host l.act u.1
