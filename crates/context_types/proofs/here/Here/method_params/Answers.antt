use Rattle.std.proofs.Common.{sym, ap, subst, ◌∙◌}
use Rattle.std.proofs.lemmas.List.{take_all}
use Rattle.std.proofs.lemmas.Result.{err_from_is_err_and}
use Rattle.type_rules.specs.Demands.{first_wrong, Fails}
use Rattle.type_rules.specs.Functions.{param_asks, method_params_demands}
use Rattle.type_rules.proofs.First.{fails_same}
use Rattle.context_types.specs.inner.Places.{here_of}
use Rattle.context_types.proofs.Exits.{exit}
use Rattle.context_types.proofs.Lists.{next_param, method_params_walk, params_ends}
use Rattle.context_types.proofs.Walking.{walk, ends, ends_more, walk_more, walk_fails, walk_whole}
use Rattle.context_types.proofs.here.Here.method_params.Goals as goal

pub returns-in_err-param : goal.returns-in_err-param
returns-in_err-param c =
    let h = here_of c.args.self.now in
    let ps = c.args.params.now in
    let p = c.param-item.result in
    exit _ _ _ (err_from_is_err_and c.from_residual.result c.from_residual.ensures.1) (method_params_demands h ps)
    (fails_same (method_params_demands h ps) (walk next_param param_asks h ps) _ (ap first_wrong (method_params_walk h ps))
    (walk_fails next_param param_asks h ps c.loop-param.param-index p _ c.loop-param-test.true c.param-item.is c.loop-param.invariant.holds
    (subst (λ g. Fails (param_asks g p) c.in_err-param.field-0.0) (sym c.loop-param.invariant.place) c.in_err-param.ensures)))

pub loop-param-preserved : goal.loop-param-preserved
loop-param-preserved c =
    let h = here_of c.args.self.now in
    let ps = c.args.params.now in
    let p = c.param-item.result in
    record {
      holds = walk_more next_param param_asks h ps c.loop-param.param-index p c.loop-param-test.true c.param-item.is c.loop-param.invariant.holds (ap (λ g. first_wrong (param_asks g p)) c.loop-param.invariant.place ∙ c.in_ok-param.ensures.0);
      place = ends_more next_param h ps c.loop-param.param-index p c.loop-param-test.true c.param-item.is ∙ ap (λ g. next_param g p) c.loop-param.invariant.place ∙ c.in_ok-param.ensures.1;
    }

pub returns : goal.returns
returns c =
    let h = here_of c.args.self.now in
    let ps = c.args.params.now in (
      ap first_wrong (method_params_walk h ps) ∙ walk_whole next_param param_asks h ps c.loop-param.param-index c.loop-param-test.false c.loop-param.invariant.holds,
      params_ends h ps ∙ ap (ends next_param h) (sym (take_all c.loop-param.param-index ps c.loop-param-test.false)) ∙ c.loop-param.invariant.place,
    )
