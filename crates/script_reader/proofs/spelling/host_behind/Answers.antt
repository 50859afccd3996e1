use Rattle.std.proofs.Common.{◌≡◌, rules, arith}
use Rattle.std.specs.Prelude.{codes}
use Rattle.script_reader.proofs.FormLemmas.{to_there}
use Rattle.script_reader.proofs.spelling.host_behind.Goals as goal

pub returns-then-eq-clause-some : goal.returns-then-eq-clause-some
returns-then-eq-clause-some c =
    let to : c.in_ok-to.to.now ≡ codes "to" = search rules in
    to_there c.args.rest.now c.to-item.result c.in_ok-to.to.now c.in_ok-digits.digits.now (omega arith) c.to-item.is c.in_ok-to.ensures.some to c.in_ok-digits.ensures.some
