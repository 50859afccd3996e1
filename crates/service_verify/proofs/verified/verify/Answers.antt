use Rattle.std.proofs.Common.{◌≤◌, ap, subst, length, arith}
use Rattle.service_verify.proofs.Lists.{item_there}
use Rattle.service_verify.proofs.Surveying.{fault_named, keep_more, surveyed_at, all_keep, all_surveyed}
use Rattle.service_verify.proofs.verified.verify.Goals as goal

pub returns-in-Err-clause-refused : goal.returns-in-Err-clause-refused
returns-in-Err-clause-refused c = fault_named c.args.program c.loop-number.number c.function-item.result (item_there c.as_slice-function-items.result.now c.args.program.functions c.loop-number.number c.function-item.result c.function-item.is c.loop-number-test.true c.as_slice-function-items.ensures) c.loop-number.invariant.0 c.in-Err.refusal c.in-Err.ensures.err

pub add-requires-clause-there : goal.add-requires-clause-there
add-requires-clause-there c = item_there c.as_slice-function-items.result.now c.args.program.functions c.loop-number.number c.function-item.result c.function-item.is c.loop-number-test.true c.as_slice-function-items.ensures

pub loop-number-preserved : goal.loop-number-preserved
loop-number-preserved c = (
  keep_more c.args.program c.loop-number.number c.function-item.result c.in-Ok.points.items (item_there c.as_slice-function-items.result.now c.args.program.functions c.loop-number.number c.function-item.result c.function-item.is c.loop-number-test.true c.as_slice-function-items.ensures) c.loop-number.invariant.0 c.in-Ok.ensures.ok,
  surveyed_at c.args.program _ _ _ _ _ (omega arith) c.in_ok-add.ensures,
)

pub invariant_of-result : goal.invariant_of-result
invariant_of-result c = (
  all_keep c.args.program c.loop-number.number (subst (λ fs. length fs ≤ c.loop-number.number) c.as_slice-function-items.ensures c.loop-number-test.false) c.loop-number.invariant.0,
  all_surveyed c.args.program c.loop-number.number _ _ _ (omega (arith, c.loop-number-test.false, c.loop-number.auto.number-end, ap length c.as_slice-function-items.ensures)) c.loop-number.invariant.1,
  c.in_ok-links.ensures,
)

pub returns-clause-verified : goal.returns-clause-verified
returns-clause-verified c = all_keep c.args.program c.loop-number.number (subst (λ fs. length fs ≤ c.loop-number.number) c.as_slice-function-items.ensures c.loop-number-test.false) c.loop-number.invariant.0
