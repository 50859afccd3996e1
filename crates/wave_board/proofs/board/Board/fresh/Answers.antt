use Rattle.std.proofs.Common.{arith}
use Rattle.wave_theory.proofs.Basics.{clash}
use Rattle.wave_board.proofs.Telling.{are_new, done_is}
use Rattle.wave_board.proofs.board.Board.fresh.Goals as goal

pub returns-then-not-is_due : goal.returns-then-not-is_due
returns-then-not-is_due c = λ o s h due. clash c.is_due.result ((c.is_due.ensures o s h).1 due) c.if-not-is_due.true

pub shown_lines-requires : goal.shown_lines-requires
shown_lines-requires c =
    let t = c.requires in
    let done = done_is c.args.self.now t.origin t.state t.at in
    let less = t.committed in
    omega (arith, done, less)

pub returns : goal.returns
returns c = λ o s h. ((c.is_due.ensures o s h).0 c.if-not-is_due.false, are_new c.args.self.now o s h c.args.written c.in_ok-lines.lines c.in_ok-lines.ensures.count c.in_ok-lines.ensures.lines)
