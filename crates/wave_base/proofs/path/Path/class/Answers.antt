use Rattle.std.proofs.Common.{ap, ◌∙◌, ◌-◌, ◌≡◌, arith, length, get_or}
use Rattle.wave_base.specs.PathFields.{steps_of}
use Rattle.wave_base.specs.Shapes.{class_of}
use Rattle.wave_base.proofs.ClassLemmas.{last_class}
use Rattle.wave_base.proofs.Kept.{no_step, class_at, length_steps}
use Rattle.wave_base.proofs.path.Path.class.Goals as goal

pub returns-else-self-eq0 : goal.returns-else-self-eq0
returns-else-self-eq0 c =
    let n : c.from.result - 1 ≡ length (steps_of c.self.inside) - 1 = omega (arith, c.from.ensures, length_steps c.self.inside c.self.invariant) in
    class_at c.self.inside c.self.invariant (c.from.result - 1) 0 no_step (omega (arith, c.from.ensures))
    ∙ ap (λ k. (get_or (steps_of c.self.inside) k no_step).class.0) n
    ∙ last_class 0 (steps_of c.self.inside) no_step (omega (arith, length_steps c.self.inside c.self.invariant))
    ∙ ap class_of c.self.view_is
