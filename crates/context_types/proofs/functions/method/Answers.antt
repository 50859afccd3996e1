use Rattle.std.proofs.Common.{map, sym, ap, subst, ◌∙◌}
use Rattle.std.specs.Option.{option_map}
use Rattle.std.proofs.lemmas.Result.{err_from_is_err_and}
use Rattle.mace_ast.specs.Decls.{method_tree}
use Rattle.mace_ast.specs.Stmts.{stmt_tree, stmts_of}
use Rattle.resolved_service.specs.Steps.{steps_in, surely_ends}
use Rattle.type_rules.specs.Demands.{first_wrong, Fails}
use Rattle.type_rules.specs.Stmts.{after_all, stmts_demands, resolve_stmts}
use Rattle.type_rules.specs.Functions.{after_params, method_params_demands, method_demands}
use Rattle.type_rules.specs.Views.{last_view}
use Rattle.context_types.specs.inner.Places.{here_of}
use Rattle.context_types.proofs.Exits.{exit}
use Rattle.context_types.proofs.FunctionArms.{method_taken, params_fail, body_fails, last_fails, method_holds, method_made}
use Rattle.context_types.proofs.functions.method.Goals as goal

pub returns-then-not-is_free : goal.returns-then-not-is_free
returns-then-not-is_free c = method_taken c.args.tables.now c.args.class c.args.number (method_tree c.args.m.now) (sym c.is_free.ensures ∙ c.if-not-is_free.true)

pub returns-in_err-method_params : goal.returns-in_err-method_params
returns-in_err-method_params c =
    let m = method_tree c.args.m.now in
    let free = sym c.is_free.ensures ∙ c.if-not-is_free.false in
    exit _ _ _ (err_from_is_err_and c.from_residual.result c.from_residual.ensures.1) (method_demands c.args.tables.now c.args.class c.args.number m)
    (params_fail c.args.tables.now c.args.class c.args.number m free c.in_err-method_params.field-0.0
    (subst (λ ds. Fails ds c.in_err-method_params.field-0.0) (λ i. method_params_demands (c.start-here.ensures i) (c.as_slice.ensures i)) c.in_err-method_params.ensures))

pub returns-in_err-body : goal.returns-in_err-body
returns-in_err-body c =
    let known = c.args.tables.now in
    let m = method_tree c.args.m.now in
    let free = sym c.is_free.ensures ∙ c.if-not-is_free.false in
    let params = c.in_ok-method_params.ensures in
    let h = here_of c.method_params.new.self in
    exit _ _ _ (err_from_is_err_and c.from_residual-in_err-body.result c.from_residual-in_err-body.ensures.1) (method_demands known c.args.class c.args.number m)
    (body_fails known c.args.class c.args.number m free h ((λ i. after_params (sym c.start-here.ensures i) (sym c.as_slice.ensures i)) ∙ params.1)
    ((λ i. first_wrong (method_params_demands (sym c.start-here.ensures i) (sym c.as_slice.ensures i))) ∙ params.0) c.in_err-body.field-0.0
    (subst (λ l. Fails (stmts_demands h (stmts_of (map stmt_tree l))) c.in_err-body.field-0.0) c.as_slice-2.ensures c.in_err-body.ensures))

pub returns-in_err-last : goal.returns-in_err-last
returns-in_err-last c =
    let known = c.args.tables.now in
    let m = method_tree c.args.m.now in
    let free = sym c.is_free.ensures ∙ c.if-not-is_free.false in
    let params = c.in_ok-method_params.ensures in
    let h = here_of c.method_params.new.self in
    let body = c.in_ok-body.ensures in
    let all = sym c.as_slice-2.ensures in
    let steps = ap (λ l. resolve_stmts h (stmts_of (map stmt_tree l))) all ∙ body.1.steps in
    let tells = ap (λ l. surely_ends (steps_in l)) (sym c.as_slice-3.ensures.value) ∙ sym c.surely_ends-ended.ensures in
    exit _ _ _ (err_from_is_err_and c.from_residual-in_err-last.result c.from_residual-in_err-last.ensures.1) (method_demands known c.args.class c.args.number m)
    (last_fails known c.args.class c.args.number m free h ((λ i. after_params (sym c.start-here.ensures i) (sym c.as_slice.ensures i)) ∙ params.1)
    ((λ i. first_wrong (method_params_demands (sym c.start-here.ensures i) (sym c.as_slice.ensures i))) ∙ params.0)
    (here_of c.stmts.new.self) (ap (λ l. after_all h (stmts_of (map stmt_tree l))) all ∙ body.1.here) (ap (λ l. first_wrong (stmts_demands h (stmts_of (map stmt_tree l)))) all ∙ body.0)
    (steps_in c.in_ok-body.body.items) steps c.surely_ends-ended.result tells
    c.in_err-last.field-0.0 c.in_err-last.ensures)

pub returns : goal.returns
returns c =
    let known = c.args.tables.now in
    let m = method_tree c.args.m.now in
    let free = sym c.is_free.ensures ∙ c.if-not-is_free.false in
    let params = c.in_ok-method_params.ensures in
    let h = here_of c.method_params.new.self in
    let j = here_of c.stmts.new.self in
    let body = c.in_ok-body.ensures in
    let made = steps_in c.in_ok-body.body.items in
    let last = c.in_ok-last.ensures in
    let all = sym c.as_slice-2.ensures in
    let begins = (λ i. after_params (sym c.start-here.ensures i) (sym c.as_slice.ensures i)) ∙ params.1 in
    let params_hold = (λ i. first_wrong (method_params_demands (sym c.start-here.ensures i) (sym c.as_slice.ensures i))) ∙ params.0 in
    let ends = ap (λ l. after_all h (stmts_of (map stmt_tree l))) all ∙ body.1.here in
    let holds = ap (λ l. first_wrong (stmts_demands h (stmts_of (map stmt_tree l)))) all ∙ body.0 in
    let steps = ap (λ l. resolve_stmts h (stmts_of (map stmt_tree l))) all ∙ body.1.steps in
    let tells = ap (λ l. surely_ends (steps_in l)) (sym c.as_slice-3.ensures.value) ∙ sym c.surely_ends-ended.ensures in
    let ended = c.surely_ends-ended.result in (
      method_holds known c.args.class c.args.number m free h begins params_hold j ends holds made steps ended tells last.0,
      method_made known c.args.class c.args.number m free h begins params_hold j ends holds made steps ended tells (option_map last_view c.in_ok-last.last) last.1
          ∙ (λ i. record {
            at = c.args.m.now.at;
            name = sym c.in_ok-copy.ensures i;
            class = c.args.class;
            params = sym c.in_ok-kinds_of.ensures i;
            result = c.args.m.now.result;
            locals = sym c.into_slots.ensures i;
            body = steps_in (sym c.from_vec.ensures i);
            last = option_map last_view c.in_ok-last.last;
          }),
    )
