use Rattle.std.proofs.Common.{◌≡◌, rules, arith}
use Rattle.std.specs.Prelude.{codes}
use Rattle.script_reader.proofs.PolicyLemmas.{by_there}
use Rattle.script_reader.proofs.policy_spelling.count_behind.Goals as goal

pub returns-then-eq-clause-some : goal.returns-then-eq-clause-some
returns-then-eq-clause-some c =
    let by : c.in_ok-by.by.now ≡ codes "by" = search rules in
    by_there c.args.rest.now c.by-item.result c.in_ok-by.by.now c.in_ok-digits.digits.now (omega arith) c.by-item.is c.in_ok-by.ensures.some by c.in_ok-digits.ensures.some
