use Rattle.std.proofs.Common.{[], ◌∷◌, sym, ap, ◌∙◌}
use Rattle.std.proofs.lemmas.Result.{err_from_is_err_and}
use Rattle.wave_base.specs.declared.value.Kind.TheVariants as k
use Rattle.mace_ast.specs.Exprs.{expr_tree}
use Rattle.resolved_service.specs.Steps as r
use Rattle.type_rules.specs.declared.error.TypeError.TheVariants.{Mismatch}
use Rattle.type_rules.specs.Demands.{ask}
use Rattle.type_rules.specs.Kinds.{has_kind}
use Rattle.type_rules.specs.Exprs.{kind_of, demands}
use Rattle.type_rules.proofs.First.{holds_both, told_past, fails_at, fails_behind}
use Rattle.context_types.specs.inner.Places.{here_of}
use Rattle.context_types.proofs.Exits.{exit_front}
use Rattle.context_types.proofs.here.Here.require.Goals as goal

pub returns-in_err-test : goal.returns-in_err-test
returns-in_err-test c =
    let h = here_of c.args.self.now in
    exit_front _ _ _ (err_from_is_err_and c.from_residual.result c.from_residual.ensures.1) (demands h (expr_tree c.args.test.now)) (ask (has_kind (kind_of h (expr_tree c.args.test.now)) k.Bool) (Mismatch c.args.at) ∷ []) c.in_err-test.ensures

pub returns-then-not-same_kind : goal.returns-then-not-same_kind
returns-then-not-same_kind c =
    let h = here_of c.args.self.now in
    let e = expr_tree c.args.test.now in
    fails_behind (demands h e) (ask (has_kind (kind_of h e) k.Bool) (Mismatch c.args.at) ∷ []) (Mismatch c.args.at) c.in_ok-test.ensures.0
    (fails_at (has_kind (kind_of h e) k.Bool) (Mismatch c.args.at) [] (ap (λ o. has_kind o k.Bool) c.in_ok-test.ensures.1.kind ∙ sym c.same_kind.ensures ∙ c.if-not-same_kind.true))

pub returns : goal.returns
returns c =
    let h = here_of c.args.self.now in
    let e = expr_tree c.args.test.now in (
      holds_both (demands h e) (ask (has_kind (kind_of h e) k.Bool) (Mismatch c.args.at) ∷ []) c.in_ok-test.ensures.0
          (told_past (has_kind (kind_of h e) k.Bool) (Mismatch c.args.at) [] (ap (λ o. has_kind o k.Bool) c.in_ok-test.ensures.1.kind ∙ sym c.same_kind.ensures ∙ c.if-not-same_kind.false)),
      ap (r.Require c.args.at) c.in_ok-test.ensures.1.tree,
    )
