use Rattle.std.proofs.Common.{map, ap}
use Rattle.std.proofs.lemmas.Result.{err_from_is_err_and}
use Rattle.mace_ast.specs.Exprs.{expr_tree, exprs_of}
use Rattle.mace_ast.specs.Stmts as s
use Rattle.resolved_service.specs.Steps as r
use Rattle.resolved_service.specs.View.{tree_of}
use Rattle.type_rules.specs.Stmts.{stmt_demands}
use Rattle.context_types.specs.inner.Places.{here_of}
use Rattle.context_types.proofs.CallArms.{child_holds, child_fails, child_is, key_fails}
use Rattle.context_types.proofs.Exits.{exit}
use Rattle.context_types.proofs.here.Here.do_child_call.Goals as goal

pub returns-in_err-key : goal.returns-in_err-key
returns-in_err-key c =
    let h = here_of c.args.self.now in
    let at = c.args.at in
    let class = c.args.class.now in
    let key = expr_tree c.args.key.now in
    let name = c.args.name.now in
    let args = map expr_tree c.args.args.now in
    exit _ _ _ (err_from_is_err_and c.from_residual-in_err-key.result c.from_residual-in_err-key.ensures.1) (stmt_demands h (s.ChildCall at class key name args)) (key_fails h at class key name (exprs_of args) _ c.in_ok-class.ensures.0 c.in_err-key.ensures)

pub returns-in_err-called : goal.returns-in_err-called
returns-in_err-called c =
    let h = here_of c.args.self.now in
    let at = c.args.at in
    let class = c.args.class.now in
    let key = expr_tree c.args.key.now in
    let name = c.args.name.now in
    let args = map expr_tree c.args.args.now in
    exit _ _ _ (err_from_is_err_and c.from_residual-in_err-called.result c.from_residual-in_err-called.ensures.1) (stmt_demands h (s.ChildCall at class key name args)) (child_fails h at class key name (exprs_of args) c.in_ok-class.class c.in_ok-class.ensures.1 _ c.in_ok-class.ensures.0 c.in_ok-key.ensures.0 c.in_err-called.ensures)

pub returns : goal.returns
returns c =
    let h = here_of c.args.self.now in
    let at = c.args.at in
    let class = c.args.class.now in
    let key = expr_tree c.args.key.now in
    let name = c.args.name.now in
    let args = map expr_tree c.args.args.now in
    let n = c.in_ok-class.class in
    let class_is = c.in_ok-class.ensures.1 in
    let a = c.in_ok-key.ensures in
    let b = c.in_ok-called.ensures in
    (child_holds h at class key name (exprs_of args) n class_is c.in_ok-class.ensures.0 a.0 b.0, ap (r.Do at) (child_is h at class key name (exprs_of args) n class_is (tree_of c.in_ok-key.key) c.in_ok-called.called a.1 b.1).tree)
