use Rattle.std.proofs.Common.{subst}
use Rattle.std.proofs.lemmas.List.{take_all}
use Rattle.code_scheme.specs.Texts.{phases_uses}
use Rattle.service_compiler.specs.inner.Drafts.{Emits}
use Rattle.service_compiler.specs.inner.Fronts.{phases_front}
use Rattle.service_compiler.proofs.Emits.{phases_next}
use Rattle.service_compiler.proofs.functions.emit_phases.Goals as goal

pub loop-phase-preserved : goal.loop-phase-preserved
loop-phase-preserved c =
    phases_next c.args.methods.now c.args.phases.now c.loop-phase.phase-index c.phase-item.result c.loop-phase-test.true c.phase-item.is c.loop-phase.invariant c.in_ok-emit_phase.ensures

pub returns : goal.returns
returns c =
    subst (λ fs. Emits c.args.code.now c.loop-phase.code (phases_uses fs) (λ all n. phases_front c.args.methods.now all n fs)) (take_all c.loop-phase.phase-index c.args.phases.now c.loop-phase-test.false) c.loop-phase.invariant
