use Rattle.std.proofs.Common.{◌∙◌, ◌<◌, ◌+◌, ap, sym, length, drop, ◌&&◌, arith}
use Rattle.wave_base.specs.Paths.{is_above}
use Rattle.wave_base.proofs.Kept.{no_step}
use Rattle.wave_base.proofs.Ordered.{above_more}
use Rattle.wave_base.proofs.path.Path.begins.Goals as goal

pub returns-then-not-same_at : goal.returns-then-not-same_at
returns-then-not-same_at c =
    let here : c.loop-i.i < length c.args.self.now = omega (arith, c.loop-i-test.true, c.len.ensures.len) in
    let there : c.loop-i.i < length c.args.other.now = omega (arith, here, c.requires) in
    let rest = is_above (drop (c.loop-i.i + 1) c.args.self.now) (drop (c.loop-i.i + 1) c.args.other.now) in
    sym (ap (λ b. b && rest) c.if-not-same_at.true)
    ∙ ap (λ b. b && rest) (c.same_at.ensures no_step)
    ∙ sym (above_more c.args.self.now c.args.other.now c.loop-i.i no_step here there)
    ∙ c.loop-i.invariant.1

pub loop-i-preserved : goal.loop-i-preserved
loop-i-preserved c =
    let here : c.loop-i.i < length c.args.self.now = omega (arith, c.loop-i-test.true, c.len.ensures.len) in
    let there : c.loop-i.i < length c.args.other.now = omega (arith, here, c.requires) in
    let rest = is_above (drop (c.loop-i.i + 1) c.args.self.now) (drop (c.loop-i.i + 1) c.args.other.now) in (
      omega (arith, here),
      sym (ap (λ b. b && rest) c.if-not-same_at.false)
          ∙ ap (λ b. b && rest) (c.same_at.ensures no_step)
          ∙ sym (above_more c.args.self.now c.args.other.now c.loop-i.i no_step here there)
          ∙ c.loop-i.invariant.1,
    )
