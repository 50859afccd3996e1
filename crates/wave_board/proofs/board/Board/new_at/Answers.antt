use Rattle.std.proofs.Common.{None, refl}
use Rattle.wave_board.specs.declared.board.Board.{Board}
use Rattle.wave_board.proofs.Standing.{opens}
use Rattle.wave_board.proofs.board.Board.new_at.Goals as goal

pub returns-clause-stands : goal.returns-clause-stands
returns-clause-stands c =
    let b : Board = record { alloc = c.args.alloc; machine = c.in_ok-machine.machine; journal = c.new.result; word = None; crew = c.nobody.result; spare = None } in
    opens b c.args.plan.now c.args.start.now c.in_ok-machine.ensures.plan c.new.ensures refl c.in_ok-machine.ensures.stands
