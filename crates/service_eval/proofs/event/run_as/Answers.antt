use Rattle.std.proofs.Common.{◌≡◌, List, [], true, Option, refl, ap, sym, subst, ◌∙◌, arith}
use Rattle.std.proofs.lemmas.List.Elements.{All-nil, All-cons}
use Rattle.context_tree.specs.Contexts.{tree_of as shown}
use Rattle.wave_base.specs.Tree.{there}
use Rattle.resolved_service.specs.Jobs.{Meant, event_end, meant_by, first_world}
use Rattle.wave_base.specs.declared.call.Call.{Call}
use Rattle.wave_base.specs.declared.limits.TheConstants.{TICKS}
use Rattle.wave_base.specs.declared.outcome.EventResult.{EventResult}
use Rattle.wave_base.specs.declared.value.Value.{Value}
use Rattle.wave_base.specs.Fold.{Ran}
use Rattle.wave_base.specs.Tree.{Tree}
use Rattle.resolved_service.specs.declared.service.Event.{Event}
use Rattle.resolved_service.specs.Meaning.{State, Leave, Returned, Finished, Outcome, Done, Trapped, Left, call_act, with_blanks}
use Rattle.service_eval.specs.declared.code.Code.{Code}
use Rattle.service_eval.specs.inner.Parts.{event_act}
use Rattle.service_eval.specs.inner.Machines.{Mach, mach_of}
use Rattle.service_eval.specs.inner.Ready.{Ready}
use Rattle.service_eval.specs.inner.Traces.{uncounted_outcome, reply_of}
use Rattle.service_eval.proofs.event.run_as.Goals as goal

pub perform-requires-clause-rests : goal.perform-requires-clause-rests
perform-requires-clause-rests c =
    let T = shown c.args.code.shape.now c.args.contexts.now in
    let is = c.in-Ok.ensures T in
    record {
      ready = subst (λ (m : Mach). Ready c.args.code.shape.now c.args.code.methods.now m) (sym is) (record {
        items = tt;
        holds = c.requires.holds;
        path = refl;
        held = All-cons (λ q. there T q ≡ true) [] [] c.requires.holds.root (All-nil (λ q. there T q ≡ true));
        here = c.requires.holds.root;
        early = c.requires.early;
        few = omega arith;
      });
      items = ap (λ (m : Mach). m.items) is;
      values = ap (λ (m : Mach). m.values) is;
    }

pub perform-requires-clause-root : goal.perform-requires-clause-root
perform-requires-clause-root c = ap (λ (m : Mach). m.path) (c.in-Ok.ensures (shown c.args.code.shape.now c.args.contexts.now))

-- what an event means, but for how often it changed its place
plainly : (o : Outcome (Option Value)) → (meant_by o).ran ≡ (meant_by (uncounted_outcome o)).ran
plainly (Done r st) = refl
plainly (Trapped k at w) = refl
plainly (Left (Returned r) st) = refl
plainly (Left (Finished r) st) = refl

left_meant : (why : Leave) (st : State) → meant_by (Left why st) ≡ event_end (reply_of why) st.world
left_meant (Returned r) st = refl
left_meant (Finished r) st = refl

-- the event from its first state
module _ (code : Code) (event : Event) (call : Call) (T : Tree (List Value)) (m : Mach) (is : m ≡ record { items = []; values = []; path = []; state = record { locals = with_blanks call.args event.locals; world = first_world call.generation T } }) where
  abbrev begun : Outcome (Option Value)
  begun = event_act (call_act code.methods.now TICKS) TICKS event (record { locals = with_blanks call.args event.locals; world = first_world call.generation T })

  meant : (o : Outcome (Option Value)) → uncounted_outcome (event_act (call_act code.methods.now TICKS) TICKS event m.state) ≡ o → (meant_by begun).ran ≡ (meant_by o).ran
  meant o e = plainly begun ∙ ap (λ o. (meant_by o).ran) ((λ i. uncounted_outcome (event_act (call_act code.methods.now TICKS) TICKS event (sym is i).state)) ∙ e)

pub returns-in-Ok-perform-clause-means : goal.returns-in-Ok-perform-clause-means
returns-in-Ok-perform-clause-means c =
    let T = shown c.args.code.shape.now c.args.contexts.now in
    let e = meant c.args.code c.args.event.now c.args.call.now T (mach_of T c.in-Ok.m) (c.in-Ok.ensures T) _ c.in-Ok-perform.ensures.comes in
    (ap (λ (x : Ran (List Value) EventResult). x.tree) e, ap (λ (x : Ran (List Value) EventResult). x.result) e ∙ sym c.event_end.ensures.result, ap (λ (x : Ran (List Value) EventResult). x.entered) e ∙ sym c.event_end.ensures.entered)

pub returns-in-Err-Trapped-clause-means : goal.returns-in-Err-Trapped-clause-means
returns-in-Err-Trapped-clause-means c =
    let T = shown c.args.code.shape.now c.args.contexts.now in
    let h = rw c.in-Err-Trapped.field-0-is at c.in-Err-Trapped.ensures.comes in
    let e = meant c.args.code c.args.event.now c.args.call.now T (mach_of T c.in-Ok.m) (c.in-Ok.ensures T) _ h in
    (ap (λ (x : Ran (List Value) EventResult). x.tree) e, ap (λ (x : Ran (List Value) EventResult). x.result) e ∙ sym c.stopped_run.ensures.result, ap (λ (x : Ran (List Value) EventResult). x.entered) e ∙ sym c.stopped_run.ensures.entered)

pub returns-in-Err-Ended-clause-means : goal.returns-in-Err-Ended-clause-means
returns-in-Err-Ended-clause-means c =
    let T = shown c.args.code.shape.now c.args.contexts.now in
    let h = rw c.in-Err-Ended.field-0-is at c.in-Err-Ended.ensures.comes in
    let e = meant c.args.code c.args.event.now c.args.call.now T (mach_of T c.in-Ok.m) (c.in-Ok.ensures T) _ h.is ∙ ap (λ (x : Meant). x.ran) (left_meant h.why h.state ∙ (λ i. event_end (h.replies i) (h.leaves i))) in
    (ap (λ (x : Ran (List Value) EventResult). x.tree) e, ap (λ (x : Ran (List Value) EventResult). x.result) e ∙ sym c.event_end-in-Err-Ended.ensures.result, ap (λ (x : Ran (List Value) EventResult). x.entered) e ∙ sym c.event_end-in-Err-Ended.ensures.entered)
