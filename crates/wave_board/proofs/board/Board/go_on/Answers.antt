use Rattle.std.proofs.Common.{refl, subst}
use Rattle.wave_theory.proofs.Basics.{clash}
use Rattle.wave_board.specs.inner.Doing.{Chooses, IsChoice}
use Rattle.wave_board.proofs.Choosing.{took_by}
use Rattle.wave_board.proofs.Standing.{stands_of}
use Rattle.wave_board.proofs.board.Board.go_on.Goals as goal

pub returns-then-is_finished-clause-took : goal.returns-then-is_finished-clause-took
returns-then-is_finished-clause-took c = (c.requires.goes_on, (λ o s h. (c.if-is_finished.ensures o.start.now s (stands_of c.args.self.now o s h)).0 refl), refl)

pub returns-in-None-clause-took : goal.returns-in-None-clause-took
returns-in-None-clause-took c =
    let b = c.args.self.now in (
      c.requires.goes_on,
      (λ o s h finished. clash _ ((c.if-is_finished.ensures o.start.now s (stands_of b o s h)).1 finished) refl),
      subst (Chooses b c.args.worker) c.in-None.is c.choice.ensures,
      refl,
    )

pub append-requires-clause-can : goal.append-requires-clause-can
append-requires-clause-can c =
    let pick : IsChoice c.args.self.now c.args.worker c.in-Some.label = subst (Chooses c.args.self.now c.args.worker) c.in-Some.is c.choice.ensures in
    record { standing = c.requires.stands; enabled = pick.enabled; goes_on = c.requires.goes_on }

pub append-requires-clause-kind : goal.append-requires-clause-kind
append-requires-clause-kind c =
    let pick : IsChoice c.args.self.now c.args.worker c.in-Some.label = subst (Chooses c.args.self.now c.args.worker) c.in-Some.is c.choice.ensures in
    pick.kind

pub returns-in-Some-clause-took : goal.returns-in-Some-clause-took
returns-in-Some-clause-took c =
    let pick : IsChoice c.args.self.now c.args.worker c.in-Some.label = subst (Chooses c.args.self.now c.args.worker) c.in-Some.is c.choice.ensures in
    took_by c.args.self.now c.append.new.self c.args.worker c.in-Some.label pick.own c.append.result c.append.ensures.took
