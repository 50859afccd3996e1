use Rattle.std.proofs.Common.{IfSome, IfNone, refl, subst}
use Rattle.checkpoint_store.specs.Dues.{Counts}
use Rattle.checkpoint_store.specs.inner.Steps.{IsNumbersLine, HasNoNumbers}
use Rattle.checkpoint_store.proofs.StepLemmas.{open_other, numbers_refused}
use Rattle.checkpoint_store.proofs.front.read_numbers.Goals as goal

pub returns-in_default-clause-err : goal.returns-in_default-clause-err
returns-in_default-clause-err c shape = c.refusal.ensures shape 0 Counts refl (open_other shape 0 Counts c.args.text.now c.in_default.ensures.none)

pub returns-in-Some-2-clause-ok : goal.returns-in-Some-2-clause-ok
returns-in-Some-2-clause-ok c = record {
  line = c.in-Some.line.now;
  split = c.in-Some.ensures.some;
  numbers = subst (λ o. IfSome o (IsNumbersLine c.in-Some.line.now)) c.in-Some-2.is c.in_ok-numbers.ensures.some;
}

pub returns-in-None-clause-err : goal.returns-in-None-clause-err
returns-in-None-clause-err c shape =
    numbers_refused shape c.args.text.now c.in-Some.line.now c.in-Some.rest.now 2 c.refusal-in-None.result c.in-Some.ensures.some (subst (λ o. IfNone o (HasNoNumbers c.in-Some.line.now)) c.in-None.is c.in_ok-numbers.ensures.none) c.refusal-in-None.ensures
