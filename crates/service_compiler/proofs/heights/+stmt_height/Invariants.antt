use Rattle.std.proofs.Common.{◌≡◌, min, take}
use Rattle.resolved_service.specs.Steps.{steps_in}
use Rattle.code_scheme.specs.Heights.{steps_height}
use Rattle.service_compiler.proofs.heights.+stmt_height.Given as goal

abbrev pub invariant-stmts_height-stmts : goal.invariant-stmts_height-stmts
invariant-stmts_height-stmts l = l.height ≡ min (steps_height l.methods (steps_in (take l.stmt-index l.stmts))) 65535
