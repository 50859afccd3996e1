-- Movers and walkers as kinds of actors, over contexts with one number each.
use Rattle.std.specs.Prelude.{ℕ, List}
use Rattle.wave_base.specs.declared.path.Path.{Path}
use Rattle.wave_states.specs.Kinds.{Kind}
use Rattle.wave_states.specs.Movers.{Move, Mover, MoveEnd, mover_kind}
use Rattle.wave_states.specs.Walkers.{Walker, walker_kind}

-- what contexts begin with, and how many hosts there are
pub record Setting : Type 0 where
  pub initial : Path → ℕ
  pub hosts : ℕ

-- any number
abbrev pub Fits : Path → ℕ → Type 0
Fits p f = Unit {0}

abbrev pub movers_in : Setting → Kind Mover ℕ MoveEnd Move
movers_in c = mover_kind c.initial c.hosts Fits

abbrev pub walkers_in : Setting → Kind (Walker ℕ) ℕ (List (Path × ℕ)) (Unit {0})
walkers_in c = walker_kind c.initial c.hosts Fits
