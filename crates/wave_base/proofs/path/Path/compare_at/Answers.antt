use Rattle.std.proofs.Common.{◌∙◌, ◌<◌, ap, length, get_or, pos, arith}
use Rattle.std.specs.Ordering.{ordering_then, nat_cmp, int_cmp}
use Rattle.wave_base.specs.Paths.{step_cmp}
use Rattle.wave_base.proofs.Kept.{class_at, key_at, length_steps}
use Rattle.wave_base.proofs.path.Path.compare_at.Goals as goal

pub returns : goal.returns
returns c = λ d.
    let here : c.args.i < c.self.inside.len = omega (arith, c.requires.here, length_steps c.self.inside c.self.invariant, ap length c.self.view_is) in
    let there : c.args.i < c.other.inside.len = omega (arith, c.requires.there, length_steps c.other.inside c.other.invariant, ap length c.other.view_is) in
    c.then.ensures
    ∙ (λ j. ordering_then (c.cmp-classes.ensures j) (c.cmp.ensures j))
    ∙ (λ j. ordering_then
    (nat_cmp (class_at c.self.inside c.self.invariant c.args.i 0 d here j) (class_at c.other.inside c.other.invariant c.args.i 0 d there j))
    (int_cmp (key_at c.self.inside c.self.invariant c.args.i (pos 0) d here j) (key_at c.other.inside c.other.invariant c.args.i (pos 0) d there j)))
    ∙ (λ j. step_cmp (get_or (c.self.view_is j) c.args.i d) (get_or (c.other.view_is j) c.args.i d))
