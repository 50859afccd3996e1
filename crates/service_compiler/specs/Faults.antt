-- What a refusal names.
use Rattle.wave_base.specs.declared.shape.Shape.{Shape}
use Rattle.resolved_service.specs.declared.service.Resolved.{Resolved}
use Rattle.code_scheme.specs.Programs.{IsTooLong}
use Rattle.service_compiler.specs.declared.error.CompileError.{CompileError}
use Rattle.service_compiler.specs.declared.error.CompileError.TheVariants.{CodeTooLong, OutOfMemory}

-- the first function that is too long, and the length that is told of it
abbrev pub Refuses : Shape → Resolved → CompileError → Type 0
Refuses shape service (CodeTooLong f n) = IsTooLong shape service f n
Refuses shape service (OutOfMemory _) = Unit {0}
