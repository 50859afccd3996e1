use Rattle.std.proofs.Common.{sym, subst}
use Rattle.wave_board.specs.Boards.{StandsFor}
use Rattle.host_workers.proofs.boards.board_at.Goals as goal

pub returns-clause-stands : goal.returns-clause-stands
returns-clause-stands c = λ o plan start.
    let s = c.in_ok-board.ensures.stands o plan start in
    subst (λ b. StandsFor b o) (sym c.set_crew.ensures) (
      s.0,
      record {
        plan = s.1.plan;
        fits = s.1.fits;
        begins = s.1.begins;
        reached = s.1.reached;
        shows = s.1.shows;
        word = s.1.word;
      },
    )
