use Rattle.std.proofs.Common.{map, sym, ap, subst, ◌∙◌}
use Rattle.std.proofs.lemmas.List.{take_all}
use Rattle.std.proofs.lemmas.Result.{err_from_is_err_and}
use Rattle.mace_ast.specs.Decls.{event_tree}
use Rattle.type_rules.specs.Demands.{first_wrong, Fails}
use Rattle.type_rules.specs.Services.{events_demands}
use Rattle.type_rules.specs.Views.{event_view}
use Rattle.type_rules.proofs.First.{fails_same}
use Rattle.context_types.proofs.Exits.{exit}
use Rattle.context_types.proofs.Lists.{next_number, at_number, event_asks, event_made, events_walk, events_made}
use Rattle.context_types.proofs.Walking.{walk, walk_more, walk_fails, walk_whole, makes, made_more}
use Rattle.context_types.proofs.service.events.Goals as goal

pub returns-in_err-e : goal.returns-in_err-e
returns-in_err-e c =
    let known = c.args.tables.now in
    let es = c.args.decls.now in
    let i = c.loop-i.i in
    let e = c.index-decls-i.result in
    exit _ _ _ (err_from_is_err_and c.from_residual.result c.from_residual.ensures.1) (events_demands known 0 (map event_tree es))
    (fails_same (events_demands known 0 (map event_tree es)) (walk next_number (event_asks known) 0 es) c.in_err-e.field-0.0 (ap first_wrong (events_walk known 0 es))
    (walk_fails next_number (event_asks known) 0 es i e c.in_err-e.field-0.0 c.loop-i-test.true c.index-decls-i.is c.loop-i.invariant.holds
    (subst (λ k. Fails (event_asks known k e) c.in_err-e.field-0.0) (sym (at_number es i c.loop-i-test.true)) c.in_err-e.ensures)))

pub loop-i-preserved : goal.loop-i-preserved
loop-i-preserved c =
    let known = c.args.tables.now in
    let es = c.args.decls.now in
    let i = c.loop-i.i in
    let e = c.index-decls-i.result in
    let is = c.loop-i.invariant in
    record {
      holds = walk_more next_number (event_asks known) 0 es i e c.loop-i-test.true c.index-decls-i.is is.holds (ap (λ k. first_wrong (event_asks known k e)) (at_number es i c.loop-i-test.true) ∙ c.in_ok-e.ensures.0);
      made = made_more next_number (event_made known) event_view 0 es i e c.loop-i.made.items c.push.new.items.items c.in_ok-e.e c.loop-i-test.true c.index-decls-i.is is.made c.in_ok-e.ensures.1 c.in_ok-push.ensures.items;
    }

pub returns : goal.returns
returns c =
    let known = c.args.tables.now in
    let es = c.args.decls.now in
    let is = c.loop-i.invariant in (
      ap first_wrong (events_walk known 0 es) ∙ walk_whole next_number (event_asks known) 0 es c.loop-i.i c.loop-i-test.false is.holds,
      events_made known 0 es ∙ ap (makes next_number (event_made known) 0) (sym (take_all c.loop-i.i es c.loop-i-test.false)) ∙ is.made,
    )
