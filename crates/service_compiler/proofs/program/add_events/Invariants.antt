use Rattle.std.proofs.Common.{length, take}
use Rattle.code_scheme.specs.Programs.{event_functions}
use Rattle.code_scheme.specs.Texts.{events_uses}
use Rattle.service_compiler.specs.inner.Functions.{Adds}
use Rattle.service_compiler.proofs.program.add_events.Given as goal

abbrev pub invariant-loop-info : goal.invariant-loop-info
invariant-loop-info l = Adds l.initial.code l.code (events_uses (take (length l.yielded) l.events)) (λ all. event_functions l.methods all (take (length l.yielded) l.infos) (take (length l.yielded) l.events))
