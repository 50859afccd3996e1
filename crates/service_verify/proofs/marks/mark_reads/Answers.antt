use Rattle.std.proofs.Common.{◌+◌, ap, sym, ◌∙◌, drop, get_or, pos}
use Rattle.std.specs.Prelude.{◌||◌}
use Rattle.service_code.specs.declared.instr.Instr.TheVariants.{PushInt}
use Rattle.service_verify.specs.Reads.{reads_at, code_reads}
use Rattle.service_verify.proofs.Surveying.{next_reads, so_far_more}
use Rattle.service_verify.proofs.marks.mark_reads.Goals as goal

pub loop-n-preserved : goal.loop-n-preserved
loop-n-preserved c =
    so_far_more _ _ _ _ _ _ _ c.loop-n.invariant c.mark_read.ensures (λ class field.
    next_reads c.args.shape.now class field c.args.code.now c.args.points.now c.loop-n.n (PushInt (pos 0)) c.loop-n-test.true
    ∙ ap (λ o. reads_at c.args.shape.now class field (get_or c.args.code.now c.loop-n.n (PushInt (pos 0))) o || code_reads c.args.shape.now class field (drop (c.loop-n.n + 1) c.args.code.now) (drop (c.loop-n.n + 1) c.args.points.now)) (sym c.point_at.ensures))
