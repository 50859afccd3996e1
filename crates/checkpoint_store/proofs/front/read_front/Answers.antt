use Rattle.std.proofs.lemmas.Result.{err_from_is_err_and}
use Rattle.checkpoint_store.proofs.WalkLemmas.{front_read, stops_first, stops_second, stops_third, stops_classes}
use Rattle.checkpoint_store.proofs.front.read_front.Goals as goal

pub returns-in_err-rest-clause-err : goal.returns-in_err-rest-clause-err
returns-in_err-rest-clause-err c =
    let p = err_from_is_err_and c.from_residual.result c.from_residual.ensures.1 in
    rw (p.1, p.2) (stops_first c.args.shape.now c.args.text.now c.in_err-rest.field-0.0 c.in_err-rest.ensures.err)

pub returns-in_err-numbers-clause-err : goal.returns-in_err-numbers-clause-err
returns-in_err-numbers-clause-err c =
    let p = err_from_is_err_and c.from_residual-in_err-numbers.result c.from_residual-in_err-numbers.ensures.1 in
    rw (p.1, p.2) (stops_second c.args.shape.now c.args.text.now c.in_ok-rest.rest.now c.in_err-numbers.field-0.0 c.in_ok-rest.ensures.ok (c.in_err-numbers.ensures.err c.args.shape.now))

pub returns-in_err-rest-2-clause-err : goal.returns-in_err-rest-2-clause-err
returns-in_err-rest-2-clause-err c =
    let p = err_from_is_err_and c.from_residual-in_err-rest-2.result c.from_residual-in_err-rest-2.ensures.1 in
    rw (p.1, p.2)
    (stops_third c.args.shape.now c.in_ok-numbers.numbers c.args.text.now c.in_ok-rest.rest.now c.in_ok-numbers.rest.now c.in_err-rest-2.field-0.0 c.in_ok-rest.ensures.ok c.in_ok-numbers.ensures.ok c.in_err-rest-2.ensures.err)

pub returns-in_err-rest-3-clause-err : goal.returns-in_err-rest-3-clause-err
returns-in_err-rest-3-clause-err c =
    let p = err_from_is_err_and c.from_residual-in_err-rest-3.result c.from_residual-in_err-rest-3.ensures.1 in
    rw (p.1, p.2)
    (stops_classes c.args.shape.now c.in_ok-numbers.numbers c.args.text.now c.in_ok-rest.rest.now c.in_ok-numbers.rest.now c.in_ok-rest-2.rest.now c.in_err-rest-3.field-0.0 c.in_ok-rest.ensures.ok c.in_ok-numbers.ensures.ok c.in_ok-rest-2.ensures.ok c.in_err-rest-3.ensures.err)

pub returns-clause-ok : goal.returns-clause-ok
returns-clause-ok c =
    front_read c.args.shape.now c.in_ok-numbers.numbers c.args.text.now c.in_ok-rest.rest.now c.in_ok-numbers.rest.now c.in_ok-rest-2.rest.now c.in_ok-rest-3.rest.now c.in_ok-rest.ensures.ok c.in_ok-numbers.ensures.ok c.in_ok-rest-2.ensures.ok c.in_ok-rest-3.ensures.ok
