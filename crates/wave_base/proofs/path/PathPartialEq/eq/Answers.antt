use Rattle.std.proofs.Common.{◌∙◌, ap, length, arith}
use Rattle.wave_base.proofs.Kept.{as_long, length_steps}
use Rattle.wave_base.proofs.path.PathPartialEq.eq.Goals as goal

pub returns-then-self-other : goal.returns-then-self-other
returns-then-self-other c =
    c.begins.ensures ∙ as_long c.args.self.now c.args.other.now (omega (arith, c.if-self-other.true, length_steps c.self.inside c.self.invariant, length_steps c.other.inside c.other.invariant, ap length c.self.view_is, ap length c.other.view_is))
