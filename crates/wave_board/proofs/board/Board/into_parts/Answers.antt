use Rattle.wave_board.proofs.Standing.{stands_of}
use Rattle.wave_board.proofs.Telling.{told_for}
use Rattle.wave_board.proofs.board.Board.into_parts.Goals as goal

pub into_finished-requires : goal.into_finished-requires
into_finished-requires c = (let f = c.requires.finished in (f.0.start.now, f.1, stands_of c.args.self f.0 f.1 f.2, f.3))

pub returns-in-Ok-clause-told : goal.returns-in-Ok-clause-told
returns-in-Ok-clause-told c = λ o s h. told_for c.args.self c.in-Ok.finished c.in-Ok.ensures.told o s h
