use Rattle.std.proofs.Common.{sym, ap, ◌∙◌}
use Rattle.std.proofs.lemmas.Result.{err_from_is_err_and}
use Rattle.mace_ast.specs.Exprs.{expr_tree}
use Rattle.resolved_service.specs.Steps as r
use Rattle.type_rules.specs.Here.{with_local}
use Rattle.type_rules.specs.Exprs.{demands}
use Rattle.type_rules.specs.Stmts.{kind_or_int, local_asks}
use Rattle.type_rules.proofs.First.{holds_both}
use Rattle.context_types.specs.inner.Places.{here_of}
use Rattle.context_types.proofs.Exits.{exit_front, exit_behind}
use Rattle.context_types.proofs.here.Here.let_in.Goals as goal

pub returns-in_err-value : goal.returns-in_err-value
returns-in_err-value c =
    let h = here_of c.args.self.now in
    exit_front _ _ _ (err_from_is_err_and c.from_residual.result c.from_residual.ensures.1) (demands h (expr_tree c.args.value.now)) (local_asks h c.args.name.now 1) c.in_err-value.ensures

pub returns-in_err-slot : goal.returns-in_err-slot
returns-in_err-slot c =
    let h = here_of c.args.self.now in
    exit_behind _ _ _ (err_from_is_err_and c.from_residual-in_err-slot.result c.from_residual-in_err-slot.ensures.1) (demands h (expr_tree c.args.value.now)) (local_asks h c.args.name.now 1) c.in_ok-value.ensures.0 c.in_err-slot.ensures

pub returns : goal.returns
returns c =
    let h = here_of c.args.self.now in
    let value = c.in_ok-value.ensures.1 in (
      holds_both (demands h (expr_tree c.args.value.now)) (local_asks h c.args.name.now 1) c.in_ok-value.ensures.0 c.in_ok-slot.ensures.0,
      record {
        here = ap (λ k. with_local h c.args.name.now.text (kind_or_int k)) value.kind ∙ sym c.in_ok-declare.ensures;
        step = (λ i. r.SetLocal c.args.at (sym c.in_ok-slot.ensures.1 i) (value.tree i));
      },
    )
