use Rattle.std.proofs.Common.{sym, subst}
use Rattle.code_scheme.specs.Texts.{last_uses}
use Rattle.service_compiler.specs.inner.Drafts.{Emits}
use Rattle.service_compiler.specs.inner.Fronts.{last_code}
use Rattle.service_compiler.proofs.Drafts.{emits_put}
use Rattle.service_compiler.proofs.Fronting.{ends_with_value, ends_bare}
use Rattle.service_compiler.proofs.Notes.{on_ok}
use Rattle.service_compiler.proofs.functions.emit_last.Goals as goal

pub returns-in_ok-emit_expr-in-Some : goal.returns-in_ok-emit_expr-in-Some
returns-in_ok-emit_expr-in-Some c =
    let m = c.args.methods.now in
    on_ok _ _ c.put.result (λ g.
    subst (λ o. Emits c.args.code.now c.put.new.self (last_uses o) (λ all n. last_code m all c.args.taken c.args.bare n c.args.ended o)) (sym c.in-Some.is)
    (ends_with_value m c.args.taken c.args.bare c.args.ended c.in-Some.last (emits_put c.in_ok-emit_expr-in-Some.ensures g)))
    c.put.ensures

pub returns-else-ended : goal.returns-else-ended
returns-else-ended c =
    let m = c.args.methods.now in
    on_ok _ _ c.put-in-None.result (λ g.
    subst (λ o. Emits c.args.code.now c.put-in-None.new.self (last_uses o) (λ all n. last_code m all c.args.taken c.args.bare n c.args.ended o)) (sym c.in-None.is)
    (ends_bare m c.args.taken c.args.bare c.args.ended c.if-ended.false g))
    c.put-in-None.ensures
