use Rattle.std.proofs.Common.{◌≤◌, ◌-◌, ap, sym, refl, arith}
use Rattle.wave_theory.proofs.Basics.{clash}
use Rattle.wave_board.proofs.Standing.{stands_of}
use Rattle.wave_board.proofs.Telling.{due_at_end, due_before_end}
use Rattle.wave_board.proofs.board.Board.is_due.Goals as goal

pub overflow_sub-new : goal.overflow_sub-new
overflow_sub-new c =
    let t = c.requires in
    let done = c.committed_count.ensures.done t.origin.start.now t.state (stands_of c.args.self.now t.origin t.state t.at) in
    let less = t.committed in
    omega (arith, done, less)

pub returns-then-is_finished : goal.returns-then-is_finished
returns-then-is_finished c = λ o s h.
    let b = c.args.self.now in
    let t = c.requires in
    let stands = stands_of b o s h in
    let first = c.committed_count.ensures.done t.origin.start.now t.state (stands_of b t.origin t.state t.at) in
    let done = c.committed_count.ensures.done o.start.now s stands in
    let below = t.committed in
    let less : c.args.written ≤ s.head.done = omega (arith, first, done, below) in
    due_at_end b o s c.args.written (c.committed_count.result - c.args.written) less (ap (λ n. n - c.args.written) (sym done)) ((c.if-is_finished.ensures o.start.now s stands).0 refl)

pub returns-else-is_finished : goal.returns-else-is_finished
returns-else-is_finished c = λ o s h.
    let b = c.args.self.now in
    let t = c.requires in
    let stands = stands_of b o s h in
    let first = c.committed_count.ensures.done t.origin.start.now t.state (stands_of b t.origin t.state t.at) in
    let done = c.committed_count.ensures.done o.start.now s stands in
    let below = t.committed in
    let less : c.args.written ≤ s.head.done = omega (arith, first, done, below) in
    due_before_end b o s c.args.written (c.committed_count.result - c.args.written) less (ap (λ n. n - c.args.written) (sym done)) (λ finished. clash _ ((c.if-is_finished.ensures o.start.now s stands).1 finished) refl)
