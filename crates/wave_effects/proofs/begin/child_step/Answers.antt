use Rattle.std.proofs.Common.{◌≡◌, ◌∙◌, ◌+◌, Some, length, get_or, ap, sym, arith}
use Rattle.std.specs.Prelude.{slice_get}
use Rattle.std.proofs.lemmas.Option.{slice_get-get_or}
use Rattle.wave_base.proofs.Kept.{no_step}
use Rattle.wave_effects.proofs.Placing.{child_here, child_not}
use Rattle.wave_effects.proofs.begin.child_step.Goals as goal

pub returns-then-len-depth : goal.returns-then-len-depth
returns-then-len-depth c =
    let p = c.args.path.now in
    let q = c.args.below.now in
    let long : length q ≡ length p + 1 = omega (arith, c.if-len-depth.true, c.len-depth.ensures.len, c.len.ensures.len) in
    let here : slice_get q (length p) ≡ Some (get_or q (length p) no_step) = slice_get-get_or q (length p) no_step (omega (arith, long)) in
    c.step.ensures ∙ ap (slice_get q) c.len-depth.ensures.len ∙ here ∙ sym (child_here p q _ c.requires long here)

pub returns-else-len-depth : goal.returns-else-len-depth
returns-else-len-depth c =
    sym (child_not c.args.path.now c.args.below.now (λ e. c.if-len-depth.false (omega (arith, e, c.len-depth.ensures.len, c.len.ensures.len))))
