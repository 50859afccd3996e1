use Rattle.std.proofs.Common.{◌+◌, if◌then◌else◌, ap, sym, ◌∙◌, arith}
use Rattle.service_verify.proofs.Surveying.{next_go, first_go}
use Rattle.service_verify.proofs.looks.after_go.Goals as goal
use Rattle.service_verify.proofs.looks.after_go.Goals.{then-is_go, else-is_go}

pub loop-n-init : goal.loop-n-init
loop-n-init c = (omega arith, first_go c.args.code.now)

pub loop-n-preserved : goal.loop-n-preserved
loop-n-preserved c =
    elim c.if-is_go.branch [
      | then-is_go w ↦ (omega (arith, w.after-is), next_go c.args.code.now c.loop-n.n c.loop-n.after c.if-is_go.after _ c.loop-n-test.true (w.after-is ∙ sym (ap (λ b. if b then c.loop-n.n + 1 else c.loop-n.after) (sym c.is_go.ensures ∙ w.if-is_go.true))) c.loop-n.invariant.1)
      | else-is_go w ↦ (omega (arith, w.after-is, c.loop-n.invariant.0), next_go c.args.code.now c.loop-n.n c.loop-n.after c.if-is_go.after _ c.loop-n-test.true (w.after-is ∙ sym (ap (λ b. if b then c.loop-n.n + 1 else c.loop-n.after) (sym c.is_go.ensures ∙ w.if-is_go.false))) c.loop-n.invariant.1)
    ]
