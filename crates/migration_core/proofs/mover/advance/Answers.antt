use Rattle.std.proofs.Common.{◌≡◌, true, false, is_some, sym, ap, ◌∙◌}
use Rattle.std.specs.List.{list_any}
use Rattle.wave_base.specs.Paths.{step_eq}
use Rattle.wave_states.specs.States.{steps_of}
use Rattle.wave_states.specs.Actors.{Over}
use Rattle.wave_states.specs.Movers.{Absent}
use Rattle.migration_core.specs.Movers.{pause_of}
use Rattle.migration_core.proofs.Advancing.{child_is, there, missed}
use Rattle.migration_core.proofs.mover.advance.Goals as goal

pub returns-in-Some-clause-mover : goal.returns-in-Some-clause-mover
returns-in-Some-clause-mover c =
    let child : list_any (step_eq c.in-Some.step) (steps_of c.args.body.now.children) ≡ true =
    sym (child_is c.args.body.now.children c.in-Some.step) ∙ ap is_some (sym c.get.ensures) ∙ sym c.is_some.ensures ∙ c.if-is_some.true in
    (λ i. record { move = c.go_on.ensures.way i; rest = c.go_on.ensures.rest i })
    ∙ sym (ap (λ l. l.actor) (there c.args.mover.now.mover.move c.args.body.now.fields (steps_of c.args.body.now.children) c.args.mover.now.mover.rest c.in-Some.step c.in-Some.ensures child))

pub returns-in-Some-clause-pause : goal.returns-in-Some-clause-pause
returns-in-Some-clause-pause c =
    let child : list_any (step_eq c.in-Some.step) (steps_of c.args.body.now.children) ≡ true =
    sym (child_is c.args.body.now.children c.in-Some.step) ∙ ap is_some (sym c.get.ensures) ∙ sym c.is_some.ensures ∙ c.if-is_some.true in
    sym (ap (λ l. pause_of l.pause) (there c.args.mover.now.mover.move c.args.body.now.fields (steps_of c.args.body.now.children) c.args.mover.now.mover.rest c.in-Some.step c.in-Some.ensures child))

pub returns-in-Some-2-clause-mover : goal.returns-in-Some-2-clause-mover
returns-in-Some-2-clause-mover c =
    let child : list_any (step_eq c.in-Some.step) (steps_of c.args.body.now.children) ≡ false =
    sym (child_is c.args.body.now.children c.in-Some.step) ∙ ap is_some (sym c.get.ensures) ∙ sym c.is_some.ensures ∙ c.if-is_some.false in
    sym (ap (λ l. l.actor) (missed c.args.mover.now.mover.move c.args.body.now.fields (steps_of c.args.body.now.children) c.args.mover.now.mover.rest c.in-Some.step c.in-Some.ensures child))

pub returns-in-Some-2-clause-pause : goal.returns-in-Some-2-clause-pause
returns-in-Some-2-clause-pause c =
    let child : list_any (step_eq c.in-Some.step) (steps_of c.args.body.now.children) ≡ false =
    sym (child_is c.args.body.now.children c.in-Some.step) ∙ ap is_some (sym c.get.ensures) ∙ sym c.is_some.ensures ∙ c.if-is_some.false in
    c.over-in-Some-2.ensures ∙ ap (λ v. pause_of (Over (Absent v.mover.move.path))) c.mover.view_is
    ∙ sym (ap (λ l. pause_of l.pause) (missed c.args.mover.now.mover.move c.args.body.now.fields (steps_of c.args.body.now.children) c.args.mover.now.mover.rest c.in-Some.step c.in-Some.ensures child))
