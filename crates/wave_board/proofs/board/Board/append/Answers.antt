use Rattle.std.proofs.Common.{◌≡◌, ◌∙◌, ◌∷◌, ◌++◌, [], true, refl, ap, subst, sym}
use Rattle.wave_base.specs.declared.numbers.Worker.{Worker}
use Rattle.wave_effects.specs.Acts.{is_start}
use Rattle.wave_board.specs.declared.board.Board.{Board}
use Rattle.wave_board.specs.Taking.{IsLeased}
use Rattle.wave_board.proofs.Standing.{enabled_in, history_more, leased, leased_start, still, taken}
use Rattle.wave_board.proofs.board.Board.append.Goals as goal

pub take_start-requires-clause-enabled : goal.take_start-requires-clause-enabled
take_start-requires-clause-enabled c = enabled_in c.args.self.now c.args.label.now c.requires.can

pub take-requires-clause-enabled : goal.take-requires-clause-enabled
take-requires-clause-enabled c = enabled_in c.args.self.now c.args.label.now c.requires.can

pub returns-in_err-reserve-clause-stands : goal.returns-in_err-reserve-clause-stands
returns-in_err-reserve-clause-stands c =
    let after : Board = record c.args.self.now { journal = c.reserve.new.self } in
    still c.args.self.now after c.reserve.ensures.labels refl (λ h. h) (λ start s stands. stands)

pub returns-in_err-holder-clause-stands : goal.returns-in_err-holder-clause-stands
returns-in_err-holder-clause-stands c =
    let after : Board = record c.args.self.now { journal = c.reserve.new.self; spare = c.holder_for.new.spare } in
    still c.args.self.now after c.reserve.ensures.labels refl (λ h. h) (λ start s stands. stands)

pub returns-in_err-lease-clause-stands : goal.returns-in_err-lease-clause-stands
returns-in_err-lease-clause-stands c =
    let after : Board = record c.args.self.now { machine = c.take_start.new.self; journal = c.reserve.new.self; spare = c.holder_for.new.spare } in
    still c.args.self.now after c.reserve.ensures.labels c.take_start.ensures.plan (λ h. h) c.in_err-lease.ensures.keeps

pub returns-in_err-take-clause-stands : goal.returns-in_err-take-clause-stands
returns-in_err-take-clause-stands c =
    let after : Board = record c.args.self.now { machine = c.take.new.self; journal = c.reserve.new.self } in
    still c.args.self.now after c.reserve.ensures.labels c.take.ensures.plan (λ h. h) c.in_err-take.ensures.keeps

pub returns-then-is_start-clause-stands : goal.returns-then-is_start-clause-stands
returns-then-is_start-clause-stands c =
    let b = c.args.self.now in
    let after : Board = record b { machine = c.take_start.new.self; journal = c.push_reserved.new.self; spare = c.holder_for.new.spare } in
    taken b after c.args.label.now (c.push_reserved.ensures ∙ ap (λ xs. xs ++ c.args.label.now ∷ []) c.reserve.ensures.labels) refl c.take_start.ensures.plan c.requires.can.enabled c.in_ok-lease.ensures.takes

pub returns-then-is_start-clause-took : goal.returns-then-is_start-clause-took
returns-then-is_start-clause-took c =
    let b = c.args.self.now in
    let lease = c.in_ok-lease.lease in
    let after : Board = record b { machine = c.take_start.new.self; journal = c.push_reserved.new.self; spare = c.holder_for.new.spare } in
    let items = c.push_reserved.ensures ∙ ap (λ xs. xs ++ c.args.label.now ∷ []) c.reserve.ensures.labels in
    let plan = c.take_start.ensures.plan in
    let kind : is_start c.args.label.now.act ≡ true = sym c.if-is_start.ensures in
    let leases = c.in_ok-lease.ensures.leases in (
      record {
        goes_on = c.requires.can.goes_on;
        history = history_more b after c.args.label.now items refl plan c.requires.can.standing.at.word;
      },
      subst (IsLeased b after c.args.label.now) (sym c.of.ensures) (record {
        act = leased_start b c.args.label.now c.requires.can lease kind leases;
        worker = c.in_ok-lease.ensures.worker;
        in_hand = leased b after c.args.label.now items refl plan c.requires.can.enabled lease (ap (λ (w : Worker). w.0) c.in_ok-lease.ensures.worker) leases;
        may_run = c.in_ok-lease.ensures.may_run;
      }),
    )

pub returns-clause-stands : goal.returns-clause-stands
returns-clause-stands c =
    let b = c.args.self.now in
    let after : Board = record b { machine = c.take.new.self; journal = c.push_reserved-2.new.self } in
    taken b after c.args.label.now (c.push_reserved-2.ensures ∙ ap (λ xs. xs ++ c.args.label.now ∷ []) c.reserve.ensures.labels) refl c.take.ensures.plan c.requires.can.enabled c.in_ok-take.ensures.takes

pub returns-clause-took : goal.returns-clause-took
returns-clause-took c =
    let b = c.args.self.now in
    let after : Board = record b { machine = c.take.new.self; journal = c.push_reserved-2.new.self } in
    let items = c.push_reserved-2.ensures ∙ ap (λ xs. xs ++ c.args.label.now ∷ []) c.reserve.ensures.labels in (
      record {
        goes_on = c.requires.can.goes_on;
        history = history_more b after c.args.label.now items refl c.take.ensures.plan c.requires.can.standing.at.word;
      },
      refl,
      c.requires.kind (sym c.if-is_start.ensures),
    )
