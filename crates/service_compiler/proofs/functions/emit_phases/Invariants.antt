use Rattle.std.proofs.Common.{take}
use Rattle.code_scheme.specs.Texts.{phases_uses}
use Rattle.service_compiler.specs.inner.Drafts.{Emits}
use Rattle.service_compiler.specs.inner.Fronts.{phases_front}
use Rattle.service_compiler.proofs.functions.emit_phases.Given as goal

abbrev pub invariant-loop-phase : goal.invariant-loop-phase
invariant-loop-phase l = Emits l.initial.code l.code (phases_uses (take l.phase-index l.phases)) (λ all n. phases_front l.methods all n (take l.phase-index l.phases))
