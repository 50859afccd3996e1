use Rattle.mace_printer.specs.Canon.{param_words}
use Rattle.mace_printer.proofs.Wrote.{nothing, list_turn}
use Rattle.mace_printer.proofs.field.put_list.Goals as goal

pub loop-i-init : goal.loop-i-init
loop-i-init c = nothing _

pub loop-i-preserved : goal.loop-i-preserved
loop-i-preserved c = list_turn param_words _ c.args.params.now c.loop-i.i c.index-params-i.result c.loop-i-test.true c.index-params-i.is c.loop-i.invariant c.in_ok-put_comma.ensures c.in_ok-put_param.ensures
