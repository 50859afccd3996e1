use Rattle.std.proofs.Common.{subst}
use Rattle.resolved_service.specs.Steps.{steps_in}
use Rattle.service_code.specs.declared.instr.Instr.TheVariants as i
use Rattle.code_scheme.specs.Scheme.{line}
use Rattle.code_scheme.specs.Texts.{last_uses, phases_uses}
use Rattle.service_compiler.specs.inner.Drafts.{Emits, EmitsSteps}
use Rattle.service_compiler.specs.inner.Fronts.{last_code, phases_front}
use Rattle.service_compiler.proofs.Fronting.{as_reply, event_written}
use Rattle.service_compiler.proofs.Notes.{on_ok}
use Rattle.service_compiler.proofs.functions.emit_event.Goals as goal

pub returns : goal.returns
returns c =
    let m = c.args.methods.now in
    let e = c.args.event.now in
    let c1 = c.emit_stmts.new.code in
    let c2 = c.emit_phases.new.code in
    on_ok _ _ c.emit_last.result (λ g.
    event_written m e c.requires.ready
    (subst (λ ss. EmitsSteps m c.args.code.now c1 (steps_in ss)) c.as_slice.ensures c.in_ok-emit_stmts.ensures)
    (subst (λ fs. Emits c1 c2 (phases_uses fs) (λ all n. phases_front m all n fs)) c.as_slice-2.ensures c.in_ok-emit_phases.ensures)
    (as_reply m e.at _ e.last (subst (λ b. Emits c2 c.emit_last.new.code (last_uses e.last) (λ all n. last_code m all i.Reply (line i.End e.at) n b e.last)) c.is_past.ensures g)))
    c.emit_last.ensures
