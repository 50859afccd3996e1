use Rattle.std.proofs.Common.{arith}
use Rattle.host_workers.proofs.Writing.{rose_since}
use Rattle.host_workers.proofs.team.run_team.Goals as goal

pub write_beside-requires-clause-stands : goal.write_beside-requires-clause-stands
write_beside-requires-clause-stands g c = λ _ _. c.in-Ok.ensures.begun.stands

pub returns-in-Ok-clause-ended : goal.returns-in-Ok-clause-ended
returns-in-Ok-clause-ended g c =
    let e = c.write_beside.ensures.ended _ c.in-Ok.ensures.begun.written in
    let later = c.in-Ok.ensures.later in
    let after = e.later in
    record {
      number = e.number;
      ended = e.ended;
      whole = e.whole;
      front = e.front;
      fault = λ sink. rose_since _ _ _ later (e.fault sink);
      later = omega (arith, later, after);
    }
