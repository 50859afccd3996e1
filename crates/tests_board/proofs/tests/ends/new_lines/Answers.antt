use Rattle.std.proofs.Common.{arith}
use Rattle.tests_board.proofs.tests.ends.new_lines.Goals as goal

pub fresh-requires : goal.fresh-requires
fresh-requires g c = (let here = c.requires.stands in record { origin = here.origin; state = here.state; at = here.at; committed = omega arith })
