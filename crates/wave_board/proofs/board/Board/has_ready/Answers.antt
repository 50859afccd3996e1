use Rattle.std.proofs.Common.{◌≡◌, ◌∙◌, None, ap}
use mathlib.Core.Bool.{not}
use Rattle.wave_machine.specs.Readies.{ready_in}
use Rattle.wave_board.proofs.Readying.{none_if, ready_iff}
use Rattle.wave_board.proofs.Standing.{stands_of}
use Rattle.wave_board.proofs.board.Board.has_ready.Goals as goal

pub returns-then-is_none : goal.returns-then-is_none
returns-then-is_none c = λ o s h.
    let b = c.args.self.now in
    let goes_on : b.word ≡ None = none_if b.word (c.is_none.ensures ∙ ap not c.if-is_none.true) in
    ready_iff _ (ready_in b.machine.kept.plan s) (b.word ≡ None) goes_on c.index.result.now (c.index.ensures.ready o.start.now s (stands_of b o s h)) c.is_empty.result c.is_empty.ensures
