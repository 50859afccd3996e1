use Rattle.std.proofs.Common.{arith}
use Rattle.tests_machine.proofs.tests.steps.finished_of.Goals as goal

pub into_finished-requires : goal.into_finished-requires
into_finished-requires g c =
    let on = c.machine_stands.ensures in
    (on.start, on.state, on.stands, (c.is_finished.ensures on.start on.state on.stands).0 (first_of (cc, grind arith)))
