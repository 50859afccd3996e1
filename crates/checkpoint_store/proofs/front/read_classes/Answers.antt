use Rattle.std.proofs.Common.{refl, arith}
use Rattle.std.proofs.lemmas.Result.{err_from_is_err_and}
use Rattle.checkpoint_store.proofs.WalkLemmas.{classes_done, class_passed, class_stopped}
use Rattle.checkpoint_store.proofs.front.read_classes.Goals as goal

pub loop-class-init : goal.loop-class-init
loop-class-init c = record { passed = refl; number = refl }

pub returns-in_err-rest-clause-err : goal.returns-in_err-rest-clause-err
returns-in_err-rest-clause-err c =
    let p = err_from_is_err_and c.from_residual.result c.from_residual.ensures.1 in
    rw (p.1, p.2)
    (class_stopped c.args.shape.now c.as_slice-classes.result.now c.as_slice-classes.ensures c.loop-class.class-index c.class-item.result c.args.text.now c.loop-class.rest.now c.loop-class.number c.in_err-rest.field-0.0 c.loop-class-test.true c.class-item.is c.loop-class.invariant.passed c.loop-class.invariant.number c.in_err-rest.ensures.err)

pub loop-class-preserved : goal.loop-class-preserved
loop-class-preserved c = record {
  passed = class_passed c.args.shape.now c.as_slice-classes.result.now c.loop-class.class-index c.class-item.result c.args.text.now c.loop-class.rest.now c.in_ok-rest.rest.now c.loop-class-test.true c.class-item.is c.loop-class.invariant.passed c.in_ok-rest.ensures.ok;
  number = omega (arith, c.loop-class.invariant.number);
}

pub returns-clause-ok : goal.returns-clause-ok
returns-clause-ok c = classes_done c.args.shape.now c.as_slice-classes.result.now c.as_slice-classes.ensures c.loop-class.class-index c.args.text.now c.loop-class.rest.now c.loop-class-test.false c.loop-class.invariant.passed
