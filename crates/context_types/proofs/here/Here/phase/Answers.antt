use Rattle.std.proofs.Common.{map, sym, ap, subst, ◌∙◌}
use Rattle.std.proofs.lemmas.Result.{err_from_is_err_and}
use Rattle.mace_ast.specs.Decls.{phase_tree}
use Rattle.mace_ast.specs.Stmts.{stmt_tree, stmts_of}
use Rattle.resolved_service.specs.Steps.{steps_in}
use Rattle.resolved_service.specs.View.{tree_of}
use Rattle.type_rules.specs.Demands.{first_wrong, Fails}
use Rattle.type_rules.specs.Here.{in_class}
use Rattle.type_rules.specs.Stmts.{after_all, stmts_demands, resolve_stmts}
use Rattle.type_rules.specs.Functions.{phase_demands}
use Rattle.context_types.specs.inner.Places.{here_of}
use Rattle.context_types.proofs.Exits.{exit}
use Rattle.context_types.proofs.FunctionArms.{phase_past, phase_class_fails, phase_key_fails, phase_body_fails, phase_holds, phase_ends, phase_made}
use Rattle.context_types.proofs.here.Here.phase.Goals as goal

pub returns-then-ended : goal.returns-then-ended
returns-then-ended c = phase_past (here_of c.args.self.now) c.args.ended (phase_tree c.args.phase.now) c.if-ended.true

pub returns-in_err-class : goal.returns-in_err-class
returns-in_err-class c =
    let h = here_of c.args.self.now in
    let p = phase_tree c.args.phase.now in
    exit _ _ _ (err_from_is_err_and c.from_residual.result c.from_residual.ensures.1) (phase_demands h c.args.ended p) (phase_class_fails h c.args.ended p c.if-ended.false c.in_err-class.field-0.0 c.in_err-class.ensures)

pub returns-in_err-key : goal.returns-in_err-key
returns-in_err-key c =
    let h = here_of c.args.self.now in
    let p = phase_tree c.args.phase.now in
    exit _ _ _ (err_from_is_err_and c.from_residual-in_err-key.result c.from_residual-in_err-key.ensures.1) (phase_demands h c.args.ended p) (phase_key_fails h c.args.ended p c.if-ended.false c.in_ok-class.ensures.0 c.in_err-key.field-0.0 c.in_err-key.ensures)

pub returns-in_err-body : goal.returns-in_err-body
returns-in_err-body c =
    let h = here_of c.args.self.now in
    let p = phase_tree c.args.phase.now in
    let n = c.in_ok-class.class in
    exit _ _ _ (err_from_is_err_and c.from_residual-in_err-body.result c.from_residual-in_err-body.ensures.1) (phase_demands h c.args.ended p)
    (phase_body_fails h c.args.ended p c.if-ended.false c.in_ok-class.ensures.0 c.in_ok-key.ensures.0 n c.in_ok-class.ensures.1 c.in_err-body.field-0.0
    (subst (λ l. Fails (stmts_demands (in_class h n) (stmts_of (map stmt_tree l))) c.in_err-body.field-0.0) c.as_slice.ensures c.in_err-body.ensures))

pub returns : goal.returns
returns c =
    let h = here_of c.args.self.now in
    let p = phase_tree c.args.phase.now in
    let n = c.in_ok-class.class in
    let body = c.in_ok-body.ensures in
    let all = sym c.as_slice.ensures in (
      phase_holds h c.args.ended p c.if-ended.false c.in_ok-class.ensures.0 c.in_ok-key.ensures.0 n c.in_ok-class.ensures.1 (ap (λ l. first_wrong (stmts_demands (in_class h n) (stmts_of (map stmt_tree l)))) all ∙ body.0),
      (
        phase_ends h c.args.ended p c.if-ended.false c.in_ok-class.ensures.0 c.in_ok-key.ensures.0 n c.in_ok-class.ensures.1 (here_of c.stmts.new.self) (ap (λ l. after_all (in_class h n) (stmts_of (map stmt_tree l))) all ∙ body.1.here),
        phase_made h c.args.ended p c.if-ended.false c.in_ok-class.ensures.0 c.in_ok-key.ensures.0 n c.in_ok-class.ensures.1 (tree_of c.in_ok-key.key) (steps_in c.in_ok-body.body.items) c.in_ok-key.ensures.1
            (ap (λ l. resolve_stmts (in_class h n) (stmts_of (map stmt_tree l))) all ∙ body.1.steps)
            ∙ (λ i. record { at = c.args.phase.now.at; class = n; key = tree_of c.in_ok-key.key; body = steps_in (sym c.from_vec.ensures i) }),
      ),
    )
