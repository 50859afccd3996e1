use Rattle.std.proofs.Common.{◌-◌, length, arith}
use Rattle.wave_text.proofs.LineLemmas.{with_return, with_none}
use Rattle.wave_text.proofs.lines.without_return.Goals as goal

pub returns-in-len1-up : goal.returns-in-len1-up
returns-in-len1-up c = with_return c.args.line.now (length c.args.line.now - 1) (omega arith) c.if-last-eq13.true

pub returns-in_default-2 : goal.returns-in_default-2
returns-in_default-2 c = with_none c.args.line.now (length c.args.line.now - 1) (omega arith) c.if-last-eq13.false
