use Rattle.wave_board.specs.Boards.{IsStanding}
use Rattle.wave_board.specs.Taking.{MayTake}
use Rattle.host_workers.specs.inner.Visits.{Walked}
use Rattle.host_workers.proofs.takes.walk.Given as goal

abbrev pub invariant-loop : goal.invariant-loop
invariant-loop l = record {
  standing : IsStanding l.board;
  may : MayTake l.board l.number;
  walked : Walked l.fn.board l.number l.board;
}
