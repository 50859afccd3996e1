use Rattle.tests_board.specs.inner.Ready.{IsReady}
use Rattle.tests_board.proofs.tests.ends.take_turns.Given as goal

abbrev pub invariant-loop-turn : goal.invariant-loop-turn
invariant-loop-turn g l = IsReady l.plan l.board
