use Rattle.std.proofs.Common.{sym, subst}
use Rattle.std.specs.Option.{option_map}
use Rattle.resolved_service.specs.View.{tree_of}
use Rattle.code_scheme.specs.Scheme.{maybe_code}
use Rattle.code_scheme.specs.Texts.{maybe_uses}
use Rattle.service_compiler.specs.inner.Drafts.{Emits}
use Rattle.service_compiler.proofs.Notes.{on_ok}
use Rattle.service_compiler.proofs.operands.emit_value.Goals as goal

pub returns-in-Some : goal.returns-in-Some
returns-in-Some c =
    let m = c.args.methods.now in
    on_ok _ _ c.emit_expr.result
    (subst (λ o. Emits c.args.code.now c.emit_expr.new.code (maybe_uses (option_map tree_of o)) (λ all n. maybe_code m all n (option_map tree_of o))) (sym c.in-Some.is))
    c.emit_expr.ensures
