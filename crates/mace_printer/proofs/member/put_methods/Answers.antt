use Rattle.std.proofs.Common.{arith}
use Rattle.mace_ast.specs.Decls.{method_tree}
use Rattle.mace_printer.specs.Canon.{method_words}
use Rattle.mace_printer.proofs.Wrote.{nothing, all_of_turn, all_of_end}
use Rattle.mace_printer.proofs.member.put_methods.Goals as goal

pub loop-method-init : goal.loop-method-init
loop-method-init c = nothing _

pub loop-method-preserved : goal.loop-method-preserved
loop-method-preserved c = all_of_turn method_words method_tree _ c.args.methods.now c.loop-method.method-index c.method-item.result c.loop-method-test.true c.method-item.is c.loop-method.invariant c.in_ok-put_method.ensures

pub returns : goal.returns
returns c = all_of_end method_words method_tree _ c.args.methods.now c.loop-method.method-index (omega arith) c.loop-method.invariant
