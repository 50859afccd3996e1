-- The statements of an `else`, if there is one: what they mean, that they fit, and what they weigh.
use Rattle.std.proofs.Common.{◌≡◌, ℕ, List, Option, refl}
use Rattle.wave_base.specs.declared.path.Path.{Path}
use Rattle.wave_base.specs.declared.shape.Shape.{Shape}
use Rattle.wave_base.specs.declared.value.Value.{Value}
use Rattle.resolved_service.specs.declared.service.Method.{Method}
use Rattle.resolved_service.specs.Fits.{FitsSteps, FitsElse}
use Rattle.resolved_service.specs.Meaning.{State, Act, effects, else_effect}
use Rattle.resolved_service.specs.Steps.{Else, no_else, otherwise}
use Rattle.service_eval.specs.inner.Items.{else_steps}
use Rattle.service_eval.specs.inner.Weight.{steps_weight, else_weight}

pub fits_else : (shape : Shape) (methods : List Method) (class : ℕ) (other : Else) → FitsElse shape methods class other → FitsSteps shape methods class (else_steps other)
fits_else shape methods class no_else h = tt
fits_else shape methods class (otherwise ss) h = h

pub else_weighs : (n : ℕ) (other : Else) → steps_weight n (else_steps other) ≡ else_weight n other
else_weighs n no_else = refl
else_weighs n (otherwise ss) = refl

pub else_is : (call : ℕ → Path → List Value → Act (Option Value)) (n : ℕ) (p : Path) (other : Else) (st : State) → else_effect call n p other st ≡ effects call n p (else_steps other) st
else_is call n p no_else st = refl
else_is call n p (otherwise ss) st = refl
