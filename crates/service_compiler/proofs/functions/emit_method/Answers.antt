use Rattle.std.proofs.Common.{ap, subst, ◌∙◌}
use Rattle.resolved_service.specs.Steps.{steps_in, surely_ends}
use Rattle.service_code.specs.declared.instr.Instr.TheVariants as i
use Rattle.code_scheme.specs.Scheme.{line}
use Rattle.code_scheme.specs.Texts.{last_uses}
use Rattle.service_compiler.specs.inner.Drafts.{Emits, EmitsSteps}
use Rattle.service_compiler.specs.inner.Fronts.{last_code}
use Rattle.service_compiler.proofs.Fronting.{as_return, method_written}
use Rattle.service_compiler.proofs.Notes.{on_ok}
use Rattle.service_compiler.proofs.functions.emit_method.Goals as goal

pub returns : goal.returns
returns c =
    let m = c.args.methods.now in
    let f = c.args.method.now in
    let c1 = c.emit_stmts.new.code in
    let tells = c.surely_ends-ended.ensures ∙ ap (λ ss. surely_ends (steps_in ss)) c.as_slice-2.ensures in
    on_ok _ _ c.emit_last.result (λ g.
    method_written m f c.requires.ready
    (subst (λ ss. EmitsSteps m c.args.code.now c1 (steps_in ss)) c.as_slice.ensures c.in_ok-emit_stmts.ensures)
    (as_return m f.at _ f.last (subst (λ b. Emits c1 c.emit_last.new.code (last_uses f.last) (λ all n. last_code m all i.Return (line i.Return f.at) n b f.last)) tells g)))
    c.emit_last.ensures
