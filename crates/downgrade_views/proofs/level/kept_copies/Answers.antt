use Rattle.std.proofs.Common.{false, true, arith}
use Rattle.std.proofs.lemmas.Grind.{common_steps}
use Rattle.wave_base.specs.declared.value.Value.TheVariants as v
use Rattle.downgrade_views.proofs.Finding.{kept_step}
use Rattle.downgrade_views.proofs.level.kept_copies.Goals as goal
use Rattle.downgrade_views.proofs.level.kept_copies.Goals.{then-marks-i+in_ok-copy+in_ok-push, else-marks-i}

pub loop-i-preserved : goal.loop-i-preserved
loop-i-preserved c =
    elim c.if-marks-i.branch [
      | then-marks-i+in_ok-copy+in_ok-push w ↦ kept_step c.loop-i.i c.args.kept.now c.args.body.now.fields w.in_ok-copy.field-0 c.loop-i.copies.items c.if-marks-i.copies.items _ true (grind arith) (grind arith) (grind (arith, common_steps)) (grind (arith, common_steps)) c.loop-i.invariant
      | else-marks-i w ↦ kept_step c.loop-i.i c.args.kept.now c.args.body.now.fields (v.Bool false) c.loop-i.copies.items c.if-marks-i.copies.items _ false (grind arith) (grind arith) (grind (arith, common_steps)) (grind (arith, common_steps)) c.loop-i.invariant
    ]
