use Rattle.std.proofs.Common.{◌≡◌}
use Rattle.code_scheme.specs.Programs.{numbers_from}
use Rattle.service_compiler.proofs.program.numbers.Given as goal

abbrev pub invariant-loop-place : goal.invariant-loop-place
invariant-loop-place l = l.numbers.items ≡ numbers_from l.first l.place
