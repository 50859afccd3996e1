use Rattle.std.proofs.Common.{map, take}
use Rattle.code_scheme.specs.Programs.{method_function}
use Rattle.code_scheme.specs.Texts.{methods_uses}
use Rattle.service_compiler.specs.inner.Functions.{Adds}
use Rattle.service_compiler.proofs.program.add_methods.Given as goal

abbrev pub invariant-loop-method : goal.invariant-loop-method
invariant-loop-method l = Adds l.initial.code l.code (methods_uses (take l.method-index l.methods)) (λ all. map (method_function l.methods all) (take l.method-index l.methods))
