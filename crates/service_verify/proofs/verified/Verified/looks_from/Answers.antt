use Rattle.std.proofs.Common.{ap, sym, length, arith}
use Rattle.service_code.specs.declared.program.Program.{Program}
use Rattle.service_verify.proofs.Surveying.{looks_past}
use Rattle.service_verify.proofs.verified.Verified.looks_from.Goals as goal

pub returns-else-function-len : goal.returns-else-function-len
returns-else-function-len c = sym (looks_past c.args.self.now c.args.function (omega (arith, c.if-function-len.false, c.len.ensures, c.self.invariant.1.many, ap (λ (p : Program). length p.functions) c.self.view_is)))
