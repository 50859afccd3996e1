use Rattle.std.proofs.Common.{inl, inr, refl, subst, ap, length, arith}
use Rattle.std.proofs.lemmas.Bool.Decides.{nat_tests}
use Rattle.std.proofs.lemmas.Result.{err_from_is_err_and}
use Rattle.std.specs.Prelude.{codes}
use Rattle.wave_text.specs.Splits.{IsSplit}
use Rattle.path_text.proofs.StepLemmas.{is_nil}
use Rattle.checkpoint_store.proofs.tail.read_last.Goals as goal

pub returns-in_err-rest-clause-err : goal.returns-in_err-rest-clause-err
returns-in_err-rest-clause-err c =
    let p = err_from_is_err_and c.from_residual.result c.from_residual.ensures.1 in
    rw (p.1, p.2) (inl c.in_err-rest.ensures.err)

pub returns-then-is_empty-clause-ok : goal.returns-then-is_empty-clause-ok
returns-then-is_empty-clause-ok c = subst (IsSplit 10 c.args.text.now (codes "end")) (is_nil c.in_ok-rest.rest.now c.if-is_empty.ensures) c.in_ok-rest.ensures.ok

pub returns-else-is_empty-clause-err : goal.returns-else-is_empty-clause-err
returns-else-is_empty-clause-err c = inr (c.in_ok-rest.rest.now, c.in_ok-rest.ensures.ok, λ e. absurd (grind (arith, nat_tests, ap length e)), refl)
