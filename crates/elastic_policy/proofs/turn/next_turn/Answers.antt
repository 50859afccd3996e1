use Rattle.std.proofs.Common.{get_or, arith}
use Rattle.elastic_policy.proofs.Firsts.{greatest_below, least_below}
use Rattle.elastic_policy.proofs.turn.next_turn.Goals as goal

pub bounds-sums-from : goal.bounds-sums-from
bounds-sums-from c = omega (arith, c.heaviest-from.ensures, greatest_below (λ i. get_or c.args.sums.now i 0) c.args.hosts c.requires.some_host)

pub bounds-sums-to : goal.bounds-sums-to
bounds-sums-to c = omega (arith, c.lightest-to.ensures, least_below (λ i. get_or c.args.sums.now i 0) c.args.hosts c.requires.some_host)

pub returns-clause-from : goal.returns-clause-from
returns-clause-from c = omega (arith, c.heaviest-from.ensures, greatest_below (λ i. get_or c.args.sums.now i 0) c.args.hosts c.requires.some_host)

pub returns-clause-to : goal.returns-clause-to
returns-clause-to c = omega (arith, c.lightest-to.ensures, least_below (λ i. get_or c.args.sums.now i 0) c.args.hosts c.requires.some_host)
