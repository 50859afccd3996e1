use Rattle.std.proofs.Common.{sym, ap, subst, ◌∙◌}
use Rattle.std.proofs.lemmas.Result.{err_from_is_err_and}
use Rattle.type_rules.specs.Demands.{first_wrong, Fails}
use Rattle.type_rules.specs.Services.{field_asks, fields_demands}
use Rattle.type_rules.proofs.First.{fails_same}
use Rattle.context_types.proofs.Exits.{exit}
use Rattle.context_types.proofs.Lists.{next_number, at_number, fields_walk}
use Rattle.context_types.proofs.Walking.{walk, walk_more, walk_fails, walk_whole}
use Rattle.context_types.proofs.service.fields.Goals as goal

pub returns-in_err-field : goal.returns-in_err-field
returns-in_err-field c =
    let known = c.args.tables.now in
    let asks = field_asks known c.args.class in
    let i = c.loop-i.i in
    exit _ _ _ (err_from_is_err_and c.from_residual.result c.from_residual.ensures.1) (fields_demands known c.args.class 0 c.args.vars.now)
    (fails_same (fields_demands known c.args.class 0 c.args.vars.now) (walk next_number asks 0 c.args.vars.now) _ (ap first_wrong (fields_walk known c.args.class 0 c.args.vars.now))
    (walk_fails next_number asks 0 c.args.vars.now i c.index-vars-i.result _ c.loop-i-test.true c.index-vars-i.is c.loop-i.invariant
    (subst (λ n. Fails (asks n c.index-vars-i.result) c.in_err-field.field-0.0) (sym (at_number c.args.vars.now i c.loop-i-test.true)) c.in_err-field.ensures)))

pub loop-i-preserved : goal.loop-i-preserved
loop-i-preserved c =
    let asks = field_asks c.args.tables.now c.args.class in
    walk_more next_number asks 0 c.args.vars.now c.loop-i.i c.index-vars-i.result c.loop-i-test.true c.index-vars-i.is c.loop-i.invariant
    (ap (λ n. first_wrong (asks n c.index-vars-i.result)) (at_number c.args.vars.now c.loop-i.i c.loop-i-test.true) ∙ c.in_ok-field.ensures.0)

pub returns : goal.returns
returns c =
    (ap first_wrong (fields_walk c.args.tables.now c.args.class 0 c.args.vars.now) ∙ walk_whole next_number (field_asks c.args.tables.now c.args.class) 0 c.args.vars.now c.loop-i.i c.loop-i-test.false c.loop-i.invariant, tt)
