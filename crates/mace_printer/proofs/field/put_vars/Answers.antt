use Rattle.std.proofs.Common.{arith}
use Rattle.mace_printer.specs.Canon.{var_words}
use Rattle.mace_printer.proofs.Wrote.{nothing, all_turn, all_end}
use Rattle.mace_printer.proofs.field.put_vars.Goals as goal

pub loop-var-init : goal.loop-var-init
loop-var-init c = nothing _

pub loop-var-preserved : goal.loop-var-preserved
loop-var-preserved c = all_turn var_words _ c.args.vars.now c.loop-var.var-index c.var-item.result c.loop-var-test.true c.var-item.is c.loop-var.invariant c.in_ok-put_var.ensures

pub returns : goal.returns
returns c = all_end var_words _ c.args.vars.now c.loop-var.var-index (omega arith) c.loop-var.invariant
