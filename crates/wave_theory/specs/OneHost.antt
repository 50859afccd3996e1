-- On one host nothing moves.
use Rattle.std.specs.Prelude.{◌≡◌, ℕ, List, None}
use Rattle.wave_base.specs.declared.path.Path.{Path}
use Rattle.wave_states.specs.Kinds.{Kind}
use Rattle.wave_states.specs.States.{State}
use Rattle.wave_states.specs.Labels.{Pass, Land}
use Rattle.wave_states.specs.Steps.{step}
use Rattle.wave_states.specs.Begins.{Begin}

module _ {A F R J : Type 0} (kind : Kind A F R J) where
  -- One host. On one host no Pass and no Land is ever enabled.
  abbrev pub OneHost : ℕ → Begin F → List (List J) → State A F R J → Type 0
  OneHost workers b batches s = kind.hosts ≡ 1 → (worker host t k : ℕ) (p : Path) →
      ((to : ℕ) → step kind.system workers s (record { worker = worker; host = host; act = Pass t k p to }) ≡ None) ×
      (step kind.system workers s (record { worker = worker; host = host; act = Land t k p }) ≡ None)
