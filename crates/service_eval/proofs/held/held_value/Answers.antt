use Rattle.std.proofs.Common.{◌≡◌, get_or, sym, ap, ◌∙◌}
use Rattle.context_tree.specs.Contexts.{tree_of as shown}
use Rattle.resolved_service.specs.Meaning.{value, call_act, Done}
use Rattle.resolved_service.specs.View.{node_tree, tree_of}
use Rattle.resolved_service.specs.World.{read_field, read_above, nothing}
use Rattle.service_eval.specs.inner.Machines.{state_of}
use Rattle.service_eval.specs.inner.Turns.{IsWorth}
use Rattle.wave_base.specs.declared.limits.TheConstants.{TICKS}
use Rattle.wave_base.specs.Starts.{shown_fields}
use Rattle.service_eval.proofs.PlainLemmas.{if_some}
use Rattle.service_eval.proofs.held.held_value.Goals as goal

pub returns-in-Field : goal.returns-in-Field
unfolding read_field
returns-in-Field c =
    let view = c.args.view.now in
    let st = state_of (shown view.code.shape.now view.contexts.now) view.m.now in
    if_some (λ v. v.now ≡ get_or (shown_fields view.code.shape.now view.contexts.now.shots view.m.now.path) c.in-Field.f nothing) (λ v. IsWorth view (tree_of c.args.e.now) v.now) c.kept_field.result
    (λ v h. ap (λ n. value (call_act view.code.methods.now TICKS) view.m.now.path (node_tree n c.args.e.now.at) st) c.in-Field.is ∙ ap (λ v. Done v st) (sym h)) c.kept_field.ensures

pub returns-in-Above : goal.returns-in-Above
unfolding read_field read_above
returns-in-Above c =
    let view = c.args.view.now in
    let st = state_of (shown view.code.shape.now view.contexts.now) view.m.now in
    if_some (λ v. v.now ≡ get_or (shown_fields view.code.shape.now view.contexts.now.shots c.above-path.result) c.in-Above.f nothing) (λ v. IsWorth view (tree_of c.args.e.now) v.now) c.kept_field-in-Above.result
    (λ v h. ap (λ n. value (call_act view.code.methods.now TICKS) view.m.now.path (node_tree n c.args.e.now.at) st) c.in-Above.is
    ∙ ap (λ v. Done v st) (sym (h ∙ ap (λ p. get_or (shown_fields view.code.shape.now view.contexts.now.shots p) c.in-Above.f nothing) c.above-path.ensures))) c.kept_field-in-Above.ensures
