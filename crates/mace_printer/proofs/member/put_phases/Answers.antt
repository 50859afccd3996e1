use Rattle.std.proofs.Common.{arith}
use Rattle.mace_ast.specs.Decls.{phase_tree}
use Rattle.mace_printer.specs.Canon.{phase_words}
use Rattle.mace_printer.proofs.Wrote.{nothing, all_of_turn, all_of_end}
use Rattle.mace_printer.proofs.member.put_phases.Goals as goal

pub loop-phase-init : goal.loop-phase-init
loop-phase-init c = nothing _

pub loop-phase-preserved : goal.loop-phase-preserved
loop-phase-preserved c = all_of_turn phase_words phase_tree _ c.args.phases.now c.loop-phase.phase-index c.phase-item.result c.loop-phase-test.true c.phase-item.is c.loop-phase.invariant c.in_ok-put_phase.ensures

pub returns : goal.returns
returns c = all_of_end phase_words phase_tree _ c.args.phases.now c.loop-phase.phase-index (omega arith) c.loop-phase.invariant
