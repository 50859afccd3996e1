use Rattle.std.proofs.Common.{◌≡◌, Some, sym, true, subst}
use Rattle.path_text.specs.Steps.{is_step}
use Rattle.path_text.proofs.PathLemmas.{form_at, whole_key, path_is, end_path}
use Rattle.path_text.proofs.resolve.resolve_steps.Goals as goal

pub step_below-requires-clause-key : goal.step_below-requires-clause-key
step_below-requires-clause-key g c = whole_key c.written-item.result
    (subst (λ s. is_step s ≡ true) (sym c.written-item.is) (form_at c.args.steps.now c.loop-written.written-index c.written-item.result c.loop-written-test.true c.requires.form))

pub returns-clause-of_shape : goal.returns-clause-of_shape
returns-clause-of_shape g c =
    let shape = g.C.ChildClasses.shape c.args.classes.now in
    path_is shape c.args.steps.now (Some c.loop-written.path)
    (end_path shape c.args.steps.now c.loop-written.class.0 c.loop-written.written-index c.loop-written.path c.loop-written-test.false c.if-steps-gt-CLASS_DEPTH.false c.loop-written.invariant.path)
