use Rattle.std.proofs.Common.{Some, sym, ap, ◌∙◌}
use Rattle.std.proofs.lemmas.Result.{err_from_is_err_and}
use Rattle.mace_ast.specs.Exprs.{expr_tree}
use Rattle.resolved_service.specs.Steps.{action_step}
use Rattle.resolved_service.specs.View.{tree_of}
use Rattle.type_rules.specs.Stmts.{set_demands, set_step}
use Rattle.context_types.specs.inner.Places.{here_of}
use Rattle.context_types.proofs.Exits.{exit}
use Rattle.context_types.proofs.Puts.{put_key_fails, put_value_fails, put_holds, put_made}
use Rattle.context_types.proofs.here.Here.put.Goals as goal
use Rattle.context_types.proofs.here.Here.put.Goals.{in-Local, in-Field}

pub returns-in_err-key : goal.returns-in_err-key
returns-in_err-key c =
    let h = here_of c.args.self.now in
    exit _ _ _ (err_from_is_err_and c.from_residual-in_err-key.result c.from_residual-in_err-key.ensures.1) (set_demands h c.args.at c.args.target.now (Some (expr_tree c.args.key.now)) (expr_tree c.args.value.now))
    (put_key_fails h c.args.at c.args.target.now (expr_tree c.args.key.now) (expr_tree c.args.value.now) c.in_ok-map.map c.in_ok-map.ensures.0 c.in_ok-map.ensures.1 c.in_err-key.field-0.0 c.in_err-key.ensures)

pub returns-in_err-value : goal.returns-in_err-value
returns-in_err-value c =
    let h = here_of c.args.self.now in
    exit _ _ _ (err_from_is_err_and c.from_residual-in_err-value.result c.from_residual-in_err-value.ensures.1) (set_demands h c.args.at c.args.target.now (Some (expr_tree c.args.key.now)) (expr_tree c.args.value.now))
    (put_value_fails h c.args.at c.args.target.now (expr_tree c.args.key.now) (expr_tree c.args.value.now) c.in_ok-map.map c.in_ok-map.ensures.0 c.in_ok-map.ensures.1 c.in_ok-key.ensures.0 c.in_err-value.field-0.0 c.in_err-value.ensures)

pub returns : goal.returns
returns c =
    let h = here_of c.args.self.now in
    let key = expr_tree c.args.key.now in
    let value = expr_tree c.args.value.now in
    let holds = put_holds h c.args.at c.args.target.now key value c.in_ok-map.map c.in_ok-map.ensures.0 c.in_ok-map.ensures.1 c.in_ok-key.ensures.0 c.in_ok-value.ensures.0 in
    let made = put_made h c.args.at c.args.target.now key value (tree_of c.in_ok-key.key) (tree_of c.in_ok-value.value) c.in_ok-key.ensures.1 c.in_ok-value.ensures.1 c.in_ok-map.map c.in_ok-map.ensures.1 in
    elim c.match-map.branch [
      | in-Local w ↦ (holds, made ∙ ap (λ x. set_step c.args.at (Some x) (Some (tree_of c.in_ok-key.key)) (tree_of c.in_ok-value.value)) w.in-Local.is ∙ sym (ap (λ a. action_step a c.args.at) w.action-is))
      | in-Field w ↦ (holds, made ∙ ap (λ x. set_step c.args.at (Some x) (Some (tree_of c.in_ok-key.key)) (tree_of c.in_ok-value.value)) w.in-Field.is ∙ sym (ap (λ a. action_step a c.args.at) w.action-is))
    ]
