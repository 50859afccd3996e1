use Rattle.std.proofs.Common.{map, sym, ap, ◌∙◌}
use Rattle.std.proofs.lemmas.Result.{err_from_is_err_and}
use Rattle.mace_ast.specs.Exprs.{expr_tree, exprs_of}
use Rattle.resolved_service.specs.Steps as r
use Rattle.type_rules.specs.Demands.{first_wrong}
use Rattle.type_rules.specs.Exprs.{or_zero, resolve_all}
use Rattle.type_rules.specs.Stmts.{spawn_demands}
use Rattle.type_rules.proofs.First.{fails_same}
use Rattle.context_types.specs.inner.Places.{here_of}
use Rattle.context_types.proofs.CallArms.{args_asks}
use Rattle.context_types.proofs.Exits.{exit}
use Rattle.context_types.proofs.Spawns.{spawn_same}
use Rattle.context_types.proofs.here.Here.spawn.Goals as goal

pub returns-in_err-args : goal.returns-in_err-args
returns-in_err-args c =
    let h = here_of c.args.self.now in
    let found = sym c.event.ensures ∙ c.in-Some.is in
    let es = map expr_tree c.args.args.now in
    let given = exprs_of (map expr_tree c.as_slice.result.now) in
    let asks = args_asks h c.args.at c.event_params-kinds.result.now given in
    exit _ _ _ (err_from_is_err_and c.from_residual.result c.from_residual.ensures.1) (spawn_demands h c.args.at c.args.event.now es)
    (fails_same (spawn_demands h c.args.at c.args.event.now es) asks c.in_err-args.field-0.0
    (spawn_same h c.args.at c.args.event.now es c.in-Some.event c.event_params-kinds.result.now found c.event_params-kinds.ensures ∙ ap (λ l. first_wrong (args_asks h c.args.at c.event_params-kinds.result.now (exprs_of (map expr_tree l)))) (sym c.as_slice.ensures))
    c.in_err-args.ensures)

pub returns : goal.returns
returns c =
    let h = here_of c.args.self.now in
    let found = sym c.event.ensures ∙ c.in-Some.is in
    let es = map expr_tree c.args.args.now in (
      spawn_same h c.args.at c.args.event.now es c.in-Some.event c.event_params-kinds.result.now found c.event_params-kinds.ensures
          ∙ ap (λ l. first_wrong (args_asks h c.args.at c.event_params-kinds.result.now (exprs_of (map expr_tree l)))) (sym c.as_slice.ensures) ∙ c.in_ok-args.ensures.0,
      (λ i. r.Spawn c.args.at (or_zero (found i)) ((ap (λ l. resolve_all h (exprs_of (map expr_tree l))) (sym c.as_slice.ensures) ∙ c.in_ok-args.ensures.1) i)),
    )
