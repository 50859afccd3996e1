use Rattle.std.proofs.Common.{◌∙◌, ◌∷◌, ◌++◌, [], Some, refl, ap, subst, sym}
use Rattle.wave_base.specs.declared.pause.Pause.{Pause}
use Rattle.wave_effects.specs.declared.lease.Lease.{Lease}
use Rattle.wave_board.specs.declared.board.Board.{Board}
use Rattle.wave_board.specs.Giving.{CanGive, Gives, IsGiven}
use Rattle.wave_board.specs.Replies.{Ran, ran}
use Rattle.wave_board.proofs.Standing.{given, history_more, still, stopping_in}
use Rattle.wave_board.proofs.board.Board.give.Goals as goal

pub stop-requires : goal.stop-requires
stop-requires c =
    let before = c.args.self.now in
    stopping_in before c.open-holder.result.1 c.open-holder.result.2 (subst (λ (r : Ran). CanGive before r.lease r.pause) (sym c.open-holder.ensures) c.requires)

pub returns-in-Ok-clause-stands : goal.returns-in-Ok-clause-stands
returns-in-Ok-clause-stands c =
    let before = c.args.self.now in
    let after : Board = record before { machine = c.stop.new.self; journal = c.push_reserved.new.self; spare = Some c.open-holder.result.0 } in
    subst (λ (r : Ran). Gives before r.lease r.pause after) c.open-holder.ensures
    (given before after c.in-Ok.label (c.push_reserved.ensures ∙ ap (λ xs. xs ++ c.in-Ok.label ∷ []) c.reserve.ensures.labels) refl c.stop.ensures.plan c.open-holder.result.1 c.open-holder.result.2 c.in-Ok.ensures.label c.in-Ok.ensures.enabled c.in-Ok.ensures.stops)

pub returns-in-Ok-clause-given : goal.returns-in-Ok-clause-given
returns-in-Ok-clause-given c =
    let before = c.args.self.now in
    let after : Board = record before { machine = c.stop.new.self; journal = c.push_reserved.new.self; spare = Some c.open-holder.result.0 } in
    let of_lease : IsGiven before after c.open-holder.result.1 = record {
      label = c.in-Ok.label;
      is_stop = c.in-Ok.ensures.label;
      history = history_more before after c.in-Ok.label (c.push_reserved.ensures ∙ ap (λ xs. xs ++ c.in-Ok.label ∷ []) c.reserve.ensures.labels) refl c.stop.ensures.plan c.requires.may.at.word;
    } in
    subst (λ (r : Ran). IsGiven before after r.lease) c.open-holder.ensures of_lease

pub returns-in-Err-stop-clause-refused : goal.returns-in-Err-stop-clause-refused
returns-in-Err-stop-clause-refused c =
    let back = c.in-Err-stop.ensures.refused in
    c.of-reply.ensures ∙ ap (λ (l : Lease). ran l c.in-Err-stop.field-0.pause) back.0 ∙ ap (λ (p : Pause). ran c.open-holder.result.1 p) back.1 ∙ c.open-holder.ensures

pub returns-in-Err-stop-clause-still : goal.returns-in-Err-stop-clause-still
returns-in-Err-stop-clause-still c =
    let after : Board = record c.args.self.now { machine = c.stop.new.self; journal = c.reserve.new.self } in
    still c.args.self.now after c.reserve.ensures.labels c.stop.ensures.plan (λ h. h) c.in-Err-stop.ensures.keeps

pub returns-in-Err-clause-still : goal.returns-in-Err-clause-still
returns-in-Err-clause-still c =
    let after : Board = record c.args.self.now { journal = c.reserve.new.self } in
    still c.args.self.now after c.reserve.ensures.labels refl (λ h. h) (λ start s stands. stands)
