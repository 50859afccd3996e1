use Rattle.std.proofs.Common.{◌∙◌}
use Rattle.std.proofs.lemmas.Result.{err_from_is_err_and}
use Rattle.mace_ast.specs.Decls.{service_tree}
use Rattle.type_rules.specs.Services.{service_demands}
use Rattle.type_rules.specs.Views.{resolved_view}
use Rattle.context_types.proofs.Checked.{told, fails_alike, shape_is, resolved_is, is_typed, is_shape, differs, service_fits, few_functions}
use Rattle.context_types.proofs.service.check.Goals as goal

pub returns-in_err-resolved-clause-err : goal.returns-in_err-resolved-clause-err
returns-in_err-resolved-clause-err c =
    let s = service_tree c.args.service in
    told _ c.in_err-resolved.field-0.0 (err_from_is_err_and c.from_residual-in_err-resolved.result c.from_residual-in_err-resolved.ensures.1) (service_demands s)
    (fails_alike s c.in_ok-tables.tables c.in_ok-tables.ensures.known c.in_err-resolved.field-0.0 c.in_err-resolved.ensures)

pub returns-clause-typed : goal.returns-clause-typed
returns-clause-typed c =
    let s = service_tree c.args.service in
    let known = c.in_ok-tables.tables in
    let is = c.in_ok-tables.ensures.known in
    let made = c.in_ok-resolved.ensures in
    is_typed s known is made.0

pub returns-clause-shape : goal.returns-clause-shape
returns-clause-shape c =
    let s = service_tree c.args.service in
    let known = c.in_ok-tables.tables in
    let is = c.in_ok-tables.ensures.known in
    let made = c.in_ok-resolved.ensures in
    c.into_shape-shape.ensures ∙ shape_is s known is

pub returns-clause-resolved : goal.returns-clause-resolved
returns-clause-resolved c =
    let s = service_tree c.args.service in
    let known = c.in_ok-tables.tables in
    let is = c.in_ok-tables.ensures.known in
    let made = c.in_ok-resolved.ensures in
    resolved_is s known is (resolved_view c.in_ok-resolved.resolved) made.1

pub returns-clause-well_formed : goal.returns-clause-well_formed
returns-clause-well_formed c =
    let s = service_tree c.args.service in
    let known = c.in_ok-tables.tables in
    let is = c.in_ok-tables.ensures.known in
    let made = c.in_ok-resolved.ensures in
    is_shape s known is made.0 c.into_shape-shape.result c.into_shape-shape.ensures c.in_ok-tables.ensures.few_classes c.in_ok-tables.ensures.few_events

pub returns-clause-names : goal.returns-clause-names
returns-clause-names c =
    let s = service_tree c.args.service in
    let known = c.in_ok-tables.tables in
    let is = c.in_ok-tables.ensures.known in
    let made = c.in_ok-resolved.ensures in
    differs s known is made.0 c.into_shape-shape.result c.into_shape-shape.ensures

pub returns-clause-fits : goal.returns-clause-fits
returns-clause-fits c =
    let s = service_tree c.args.service in
    let known = c.in_ok-tables.tables in
    let is = c.in_ok-tables.ensures.known in
    let made = c.in_ok-resolved.ensures in
    service_fits s known is made.0 c.into_shape-shape.result c.in_ok-resolved.resolved c.into_shape-shape.ensures made.1

pub returns-clause-few : goal.returns-clause-few
returns-clause-few c = few_functions (service_tree c.args.service) c.in_ok-tables.tables c.in_ok-resolved.resolved c.requires.few c.in_ok-resolved.ensures.1
