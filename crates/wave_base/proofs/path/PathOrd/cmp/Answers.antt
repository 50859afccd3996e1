use Rattle.std.proofs.Common.{◌∙◌, ◌<◌, ◌+◌, ap, sym, refl, length, arith, drop}
use Rattle.std.specs.Ordering.{ordering_then, nat_cmp}
use Rattle.wave_base.specs.Paths.{path_cmp}
use Rattle.wave_base.proofs.Kept.{no_step}
use Rattle.wave_base.proofs.Ordered.{cmp_more, cmp_end, decided, tied}
use Rattle.wave_base.proofs.path.PathOrd.cmp.Goals as goal
use Rattle.wave_base.proofs.path.PathOrd.cmp.Goals.{then-loop-i-test+else-i-len, else-loop-i-test}

pub loop-i-init : goal.loop-i-init
loop-i-init c = (omega arith, omega arith, refl)

pub returns-then-ne : goal.returns-then-ne
returns-then-ne c =
    let here : c.loop-i.i < length c.args.self.now = omega (arith, c.loop-i-test.true, c.len.ensures.len) in
    let there : c.loop-i.i < length c.args.other.now = omega (arith, c.if-i-len.true, c.len-in-loop-i.ensures.len) in
    decided c.compare_at-order.result _ (sym c.ne.ensures ∙ c.if-ne.true)
    ∙ ap (λ o. ordering_then o (path_cmp (drop (c.loop-i.i + 1) c.args.self.now) (drop (c.loop-i.i + 1) c.args.other.now))) (c.compare_at-order.ensures no_step)
    ∙ sym (cmp_more c.args.self.now c.args.other.now c.loop-i.i no_step here there)
    ∙ c.loop-i.invariant.2

pub loop-i-smaller : goal.loop-i-smaller
loop-i-smaller c = omega (arith, c.loop-i-test.true, c.len.ensures.len)

pub loop-i-preserved : goal.loop-i-preserved
loop-i-preserved c =
    let here : c.loop-i.i < length c.args.self.now = omega (arith, c.loop-i-test.true, c.len.ensures.len) in
    let there : c.loop-i.i < length c.args.other.now = omega (arith, c.if-i-len.true, c.len-in-loop-i.ensures.len) in
    let rest = path_cmp (drop (c.loop-i.i + 1) c.args.self.now) (drop (c.loop-i.i + 1) c.args.other.now) in (
      omega (arith, here),
      omega (arith, there),
      tied c.compare_at-order.result rest (sym c.ne.ensures ∙ c.if-ne.false)
          ∙ ap (λ o. ordering_then o rest) (c.compare_at-order.ensures no_step)
          ∙ sym (cmp_more c.args.self.now c.args.other.now c.loop-i.i no_step here there)
          ∙ c.loop-i.invariant.2,
    )

pub returns : goal.returns
returns c =
    let over : c.loop-i.i < length c.args.self.now → c.loop-i.i < length c.args.other.now → ⊥ =
    elim c.loop-i-test.branch [
      | then-loop-i-test+else-i-len w ↦ λ h t. absurd (omega (arith, h, t, w.if-i-len.false, w.len-in-loop-i.ensures.len))
      | else-loop-i-test w ↦ λ h t. absurd (omega (arith, h, t, w.loop-i-test.false, c.len.ensures.len))
    ] in
    c.cmp.ensures
    ∙ (λ j. nat_cmp (c.len-2.ensures.len j) (c.len-3.ensures.len j))
    ∙ sym (cmp_end c.args.self.now c.args.other.now c.loop-i.i c.loop-i.invariant.0 c.loop-i.invariant.1 over)
    ∙ c.loop-i.invariant.2
