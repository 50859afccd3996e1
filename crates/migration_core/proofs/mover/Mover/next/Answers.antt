use Rattle.std.proofs.Common.{◌≡◌, ◌∙◌, ℕ, zero, suc, List, [], ◌∷◌, drop, refl, ap}
use Rattle.std.specs.List.{slice_get}
use Rattle.wave_base.specs.declared.path.Step.{Step}
use Rattle.wave_states.specs.Walkers.{first_of}
use Rattle.migration_core.specs.Movers.{Moving}
use Rattle.migration_core.proofs.mover.Mover.next.Goals as goal

-- a step is the first of those behind the ones that are gone
first_there : (p : List Step) (i : ℕ) → slice_get p i ≡ first_of (drop i p)
first_there [] zero = refl
first_there [] (suc i) = refl
first_there (s ∷ p) zero = refl
first_there (s ∷ p) (suc i) = first_there p i

pub returns : goal.returns
returns c = c.step.ensures ∙ first_there c.self.inside.path c.self.inside.gone ∙ ap (λ (m : Moving). first_of m.mover.rest) c.self.view_is
