use Rattle.std.proofs.Common.{not, [], sym, ap, subst, ◌∙◌}
use Rattle.std.proofs.lemmas.List.{take_all}
use Rattle.std.proofs.lemmas.Result.{err_from_is_err_and}
use Rattle.wave_base.specs.declared.value.Kind.TheVariants as k
use Rattle.type_rules.specs.declared.error.TypeError.TheVariants.{Mismatch}
use Rattle.type_rules.specs.Kinds.{same_kind}
use Rattle.type_rules.specs.Demands.{first_wrong, Fails}
use Rattle.type_rules.specs.Functions.{param_asks, no_map, event_params_demands}
use Rattle.type_rules.proofs.First.{fails_same, fails_front, fails_behind, fails_at, holds_both, told_past}
use Rattle.context_types.specs.inner.Places.{here_of}
use Rattle.context_types.proofs.Exits.{exit}
use Rattle.context_types.proofs.Lists.{next_param, event_param_asks, event_params_walk, params_ends}
use Rattle.context_types.proofs.Walking.{walk, ends, ends_more, walk_more, walk_fails, walk_whole}
use Rattle.context_types.proofs.here.Here.event_params.Goals as goal

pub returns-in_err-param : goal.returns-in_err-param
returns-in_err-param c =
    let h = here_of c.args.self.now in
    let ps = c.args.params.now in
    let p = c.param-item.result in
    exit _ _ _ (err_from_is_err_and c.from_residual.result c.from_residual.ensures.1) (event_params_demands h ps)
    (fails_same (event_params_demands h ps) (walk next_param event_param_asks h ps) _ (ap first_wrong (event_params_walk h ps))
    (walk_fails next_param event_param_asks h ps c.loop-param.param-index p _ c.loop-param-test.true c.param-item.is c.loop-param.invariant.holds
    (subst (λ g. Fails (event_param_asks g p) c.in_err-param.field-0.0) (sym c.loop-param.invariant.place) (fails_front (param_asks (here_of c.loop-param.self) p) (no_map p) _ c.in_err-param.ensures))))

pub returns-then-same_kind : goal.returns-then-same_kind
returns-then-same_kind c =
    let h = here_of c.args.self.now in
    let ps = c.args.params.now in
    let p = c.param-item.result in
    let w = Mismatch p.name.at in
    let is = c.loop-param.invariant in
    fails_same (event_params_demands h ps) (walk next_param event_param_asks h ps) w (ap first_wrong (event_params_walk h ps))
    (walk_fails next_param event_param_asks h ps c.loop-param.param-index p w c.loop-param-test.true c.param-item.is is.holds
    (subst (λ g. Fails (event_param_asks g p) w) (sym is.place)
    (fails_behind (param_asks (here_of c.loop-param.self) p) (no_map p) w c.in_ok-param.ensures.0 (fails_at (not (same_kind p.kind k.Map)) w [] (ap not (sym c.same_kind.ensures ∙ c.if-same_kind.true))))))

pub loop-param-preserved : goal.loop-param-preserved
loop-param-preserved c =
    let h = here_of c.args.self.now in
    let ps = c.args.params.now in
    let p = c.param-item.result in
    let is = c.loop-param.invariant in
    let here = holds_both (param_asks (here_of c.loop-param.self) p) (no_map p) c.in_ok-param.ensures.0 (told_past (not (same_kind p.kind k.Map)) (Mismatch p.name.at) [] (ap not (sym c.same_kind.ensures ∙ c.if-same_kind.false))) in
    record {
      holds = walk_more next_param event_param_asks h ps c.loop-param.param-index p c.loop-param-test.true c.param-item.is is.holds (ap (λ g. first_wrong (event_param_asks g p)) is.place ∙ here);
      place = ends_more next_param h ps c.loop-param.param-index p c.loop-param-test.true c.param-item.is ∙ ap (λ g. next_param g p) is.place ∙ c.in_ok-param.ensures.1;
    }

pub returns : goal.returns
returns c =
    let h = here_of c.args.self.now in
    let ps = c.args.params.now in (
      ap first_wrong (event_params_walk h ps) ∙ walk_whole next_param event_param_asks h ps c.loop-param.param-index c.loop-param-test.false c.loop-param.invariant.holds,
      params_ends h ps ∙ ap (ends next_param h) (sym (take_all c.loop-param.param-index ps c.loop-param-test.false)) ∙ c.loop-param.invariant.place,
    )
