use Rattle.std.proofs.Common.{◌≤◌, ◌+◌, drop, length, ap, sym, subst, ◌∙◌}
use Rattle.service_verify.specs.Points.{judged_from, judged_function}
use Rattle.service_verify.proofs.Judging.{step_ok, none_left, first_fault}
use Rattle.service_verify.proofs.asks.Judge.judge.Goals as goal

pub loop-n-init : goal.loop-n-init
unfolding judged_function
loop-n-init c = ap (judged_from _ _ _ 0 c.args.self.now.function.now.code) (sym c.in_ok-table.ensures)

pub returns-in-Err-clause-err : goal.returns-in-Err-clause-err
returns-in-Err-clause-err c = first_fault _ _ _ _ c.as_slice-instr-items.ensures c.loop-n.n _ c.loop-n.table.items c.visit.new.table.items c.in-Err.refusal c.at.result c.loop-n.invariant c.loop-n-test.true c.in-Err.ensures c.at.ensures

pub loop-n-preserved : goal.loop-n-preserved
loop-n-preserved c =
    let same = c.as_slice-instr-items.ensures in
    c.loop-n.invariant
    ∙ ap (λ code. judged_from c.args.self.now.program.now c.args.self.now.number c.args.self.now.function.now c.loop-n.n (drop c.loop-n.n code) c.loop-n.table.items) (sym same)
    ∙ step_ok _ _ _ c.as_slice-instr-items.result.now c.loop-n.n _ _ _ c.loop-n-test.true c.in-Ok.ensures
    ∙ ap (λ code. judged_from c.args.self.now.program.now c.args.self.now.number c.args.self.now.function.now (c.loop-n.n + 1) (drop (c.loop-n.n + 1) code) c.visit.new.table.items) same

pub returns-clause-ok : goal.returns-clause-ok
returns-clause-ok c = c.loop-n.invariant ∙ none_left _ _ _ c.args.self.now.function.now.code c.loop-n.n c.loop-n.table.items (subst (λ code. length code ≤ c.loop-n.n) c.as_slice-instr-items.ensures c.loop-n-test.false)
