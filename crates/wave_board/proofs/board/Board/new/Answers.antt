use Rattle.std.proofs.Common.{None, refl}
use Rattle.wave_base.specs.Starts.{first_start}
use Rattle.wave_board.specs.declared.board.Board.{Board}
use Rattle.wave_board.proofs.Standing.{opens}
use Rattle.wave_board.proofs.board.Board.new.Goals as goal

pub returns-clause-stands : goal.returns-clause-stands
returns-clause-stands c =
    let b : Board = record { alloc = c.args.alloc; machine = c.in_ok-machine.machine; journal = c.new-2.result; word = None; crew = c.nobody.result; spare = None } in
    opens b c.args.plan.now (first_start c.args.plan.now.program.shape) c.in_ok-machine.ensures.plan c.new-2.ensures refl c.in_ok-machine.ensures.stands
