use Rattle.std.proofs.Common.{◌≡◌, ◌+◌, ◌<◌, ◌++◌, [], length, map, sym, ap, subst, ◌∙◌, arith}
use Rattle.std.proofs.lemmas.Result.{err_from_is_err_and}
use Rattle.mace_ast.specs.Counts.{classes_count}
use Rattle.mace_ast.specs.Decls.{context_tree, contexts_of, method_tree, event_tree, service_tree}
use Rattle.type_rules.specs.Demands.{first_wrong, Fails}
use Rattle.type_rules.specs.Known.{methods_in}
use Rattle.type_rules.specs.Functions.{resolve_event}
use Rattle.type_rules.specs.Services.{name_asks, fields_demands, contexts_demands, methods_demands, events_demands, demands_with, resolve_contexts, resolve_methods}
use Rattle.type_rules.specs.Views.{method_view, event_view}
use Rattle.context_types.specs.inner.Judged.{StandAt}
use Rattle.context_types.proofs.Exits.{exit}
use Rattle.context_types.proofs.Judged.{class_judged, contexts_judged, service_stands, root_stands, all_judged}
use Rattle.context_types.proofs.ServiceArms.{count_contexts}
use Rattle.context_types.proofs.Whole.{second_fails, third_fails, fourth_fails, fifth_fails, five_hold}
use Rattle.context_types.proofs.service.all.Goals as goal

pub contexts-requires-clause-room : goal.contexts-requires-clause-room
contexts-requires-clause-room c = subst (λ cs. 1 + classes_count (contexts_of (map context_tree cs)) < 65536) (sym c.as_slice-2.ensures) c.requires.few.classes

pub contexts-requires-clause-there : goal.contexts-requires-clause-there
contexts-requires-clause-there c =
    let s = service_tree c.args.service.now in
    subst (λ cs. StandAt c.args.tables.now.shape 1 (contexts_of (map context_tree cs))) (sym c.as_slice-2.ensures) (service_stands s c.args.tables.now c.requires.known)

pub contexts-requires-clause-few : goal.contexts-requires-clause-few
contexts-requires-clause-few c =
    let known = c.args.tables.now in
    let s = service_tree c.args.service.now in
    let fields = ap (λ fs. first_wrong (fields_demands known 0 0 fs)) (sym c.as_slice.ensures) ∙ c.in_ok-fields.ensures.0 in
    class_judged known 0 s.vars (root_stands s known c.requires.known) fields (λ n l. absurd (omega arith))

pub methods-requires : goal.methods-requires
methods-requires c =
    let known = c.args.tables.now in
    let s = service_tree c.args.service.now in
    let fields = ap (λ fs. first_wrong (fields_demands known 0 0 fs)) (sym c.as_slice.ensures) ∙ c.in_ok-fields.ensures.0 in
    class_judged known 0 s.vars (root_stands s known c.requires.known) fields (λ n l. absurd (omega arith))

pub events-requires : goal.events-requires
events-requires c =
    let known = c.args.tables.now in
    let s = service_tree c.args.service.now in
    let fields = ap (λ fs. first_wrong (fields_demands known 0 0 fs)) (sym c.as_slice.ensures) ∙ c.in_ok-fields.ensures.0 in
    let root = class_judged known 0 s.vars (root_stands s known c.requires.known) fields (λ n l. absurd (omega arith)) in
    let inner = (λ i. first_wrong (contexts_demands known 1 (length c.new-made.result.items) (contexts_of (map context_tree (sym c.as_slice-2.ensures i))))) ∙ c.in_ok-contexts.ensures.0 in
    all_judged s known c.requires.known (contexts_judged known 1 (length c.new-made.result.items) (contexts_of s.contexts) (service_stands s known c.requires.known) inner root)

pub returns-in_err-fields : goal.returns-in_err-fields
returns-in_err-fields c =
    let known = c.args.tables.now in
    let s = service_tree c.args.service.now in
    let cs = contexts_of s.contexts in
    let a = name_asks known 0 s.name in
    let b = fields_demands known 0 0 s.vars in
    let d = contexts_demands known 1 0 cs in
    let f = methods_demands known 0 (length (methods_in 1 cs)) s.methods in
    let g = events_demands known 0 s.events in
    let named = c.in_ok-class_name.ensures.0 in
    let e = c.in_err-fields.field-0.0 in
    exit _ _ _ (err_from_is_err_and c.from_residual-in_err-fields.result c.from_residual-in_err-fields.ensures.1) (demands_with known s)
    (second_fails a b d f g named e (subst (λ fs. Fails (fields_demands known 0 0 fs) e) c.as_slice.ensures c.in_err-fields.ensures))

pub returns-in_err-contexts : goal.returns-in_err-contexts
returns-in_err-contexts c =
    let known = c.args.tables.now in
    let s = service_tree c.args.service.now in
    let cs = contexts_of s.contexts in
    let a = name_asks known 0 s.name in
    let b = fields_demands known 0 0 s.vars in
    let d = contexts_demands known 1 0 cs in
    let f = methods_demands known 0 (length (methods_in 1 cs)) s.methods in
    let g = events_demands known 0 s.events in
    let named = c.in_ok-class_name.ensures.0 in
    let fields = ap (λ fs. first_wrong (fields_demands known 0 0 fs)) (sym c.as_slice.ensures) ∙ c.in_ok-fields.ensures.0 in
    let zero_ = ap length c.new-made.ensures.items in
    let e = c.in_err-contexts.field-0.0 in
    exit _ _ _ (err_from_is_err_and c.from_residual-in_err-contexts.result c.from_residual-in_err-contexts.ensures.1) (demands_with known s)
    (third_fails a b d f g named fields e (subst (λ ds. Fails ds e) (λ i. contexts_demands known 1 (zero_ i) (contexts_of (map context_tree (c.as_slice-2.ensures i)))) c.in_err-contexts.ensures))

pub returns-in_err-methods : goal.returns-in_err-methods
returns-in_err-methods c =
    let known = c.args.tables.now in
    let s = service_tree c.args.service.now in
    let cs = contexts_of s.contexts in
    let a = name_asks known 0 s.name in
    let b = fields_demands known 0 0 s.vars in
    let d = contexts_demands known 1 0 cs in
    let f = methods_demands known 0 (length (methods_in 1 cs)) s.methods in
    let g = events_demands known 0 s.events in
    let named = c.in_ok-class_name.ensures.0 in
    let fields = ap (λ fs. first_wrong (fields_demands known 0 0 fs)) (sym c.as_slice.ensures) ∙ c.in_ok-fields.ensures.0 in
    let zero_ = ap length c.new-made.ensures.items in
    let inner = (λ i. first_wrong (contexts_demands known 1 (sym zero_ i) (contexts_of (map context_tree (sym c.as_slice-2.ensures i))))) ∙ c.in_ok-contexts.ensures.0 in
    let made = c.in_ok-contexts.ensures.1.1 ∙ (λ i. map method_view (c.new-made.ensures.items i) ++ resolve_contexts known 1 (zero_ i) (contexts_of (map context_tree (c.as_slice-2.ensures i)))) in
    let counted = count_contexts known 1 0 cs [] c.contexts.new.made.items made in
    let count : length c.contexts.new.made.items ≡ length (methods_in 1 cs) = omega arith in
    let e = c.in_err-methods.field-0.0 in
    exit _ _ _ (err_from_is_err_and c.from_residual-in_err-methods.result c.from_residual-in_err-methods.ensures.1) (demands_with known s)
    (fourth_fails a b d f g named fields inner e (subst (λ ds. Fails ds e) (λ i. methods_demands known 0 (count i) (map method_tree (c.as_slice-3.ensures i))) c.in_err-methods.ensures))

pub returns-in_err-events : goal.returns-in_err-events
returns-in_err-events c =
    let known = c.args.tables.now in
    let s = service_tree c.args.service.now in
    let cs = contexts_of s.contexts in
    let a = name_asks known 0 s.name in
    let b = fields_demands known 0 0 s.vars in
    let d = contexts_demands known 1 0 cs in
    let f = methods_demands known 0 (length (methods_in 1 cs)) s.methods in
    let g = events_demands known 0 s.events in
    let named = c.in_ok-class_name.ensures.0 in
    let fields = ap (λ fs. first_wrong (fields_demands known 0 0 fs)) (sym c.as_slice.ensures) ∙ c.in_ok-fields.ensures.0 in
    let zero_ = ap length c.new-made.ensures.items in
    let inner = (λ i. first_wrong (contexts_demands known 1 (sym zero_ i) (contexts_of (map context_tree (sym c.as_slice-2.ensures i))))) ∙ c.in_ok-contexts.ensures.0 in
    let made = c.in_ok-contexts.ensures.1.1 ∙ (λ i. map method_view (c.new-made.ensures.items i) ++ resolve_contexts known 1 (zero_ i) (contexts_of (map context_tree (c.as_slice-2.ensures i)))) in
    let counted = count_contexts known 1 0 cs [] c.contexts.new.made.items made in
    let count : length c.contexts.new.made.items ≡ length (methods_in 1 cs) = omega arith in
    let own = (λ i. first_wrong (methods_demands known 0 (sym count i) (map method_tree (sym c.as_slice-3.ensures i)))) ∙ c.in_ok-methods.ensures.0 in
    let e = c.in_err-events.field-0.0 in
    exit _ _ _ (err_from_is_err_and c.from_residual-in_err-events.result c.from_residual-in_err-events.ensures.1) (demands_with known s)
    (fifth_fails a b d f g named fields inner own e (subst (λ l. Fails (events_demands known 0 (map event_tree l)) e) c.as_slice-4.ensures c.in_err-events.ensures))

pub returns : goal.returns
returns c =
    let known = c.args.tables.now in
    let s = service_tree c.args.service.now in
    let cs = contexts_of s.contexts in
    let a = name_asks known 0 s.name in
    let b = fields_demands known 0 0 s.vars in
    let d = contexts_demands known 1 0 cs in
    let f = methods_demands known 0 (length (methods_in 1 cs)) s.methods in
    let g = events_demands known 0 s.events in
    let named = c.in_ok-class_name.ensures.0 in
    let fields = ap (λ fs. first_wrong (fields_demands known 0 0 fs)) (sym c.as_slice.ensures) ∙ c.in_ok-fields.ensures.0 in
    let zero_ = ap length c.new-made.ensures.items in
    let inner = (λ i. first_wrong (contexts_demands known 1 (sym zero_ i) (contexts_of (map context_tree (sym c.as_slice-2.ensures i))))) ∙ c.in_ok-contexts.ensures.0 in
    let made = c.in_ok-contexts.ensures.1.1 ∙ (λ i. map method_view (c.new-made.ensures.items i) ++ resolve_contexts known 1 (zero_ i) (contexts_of (map context_tree (c.as_slice-2.ensures i)))) in
    let counted = count_contexts known 1 0 cs [] c.contexts.new.made.items made in
    let count : length c.contexts.new.made.items ≡ length (methods_in 1 cs) = omega arith in
    let own = (λ i. first_wrong (methods_demands known 0 (sym count i) (map method_tree (sym c.as_slice-3.ensures i)))) ∙ c.in_ok-methods.ensures.0 in
    let events = ap (λ l. first_wrong (events_demands known 0 (map event_tree l))) (sym c.as_slice-4.ensures) ∙ c.in_ok-events.ensures.0 in
    let methods_are = (λ i. sym made i ++ resolve_methods known 0 (sym count i) (map method_tree (sym c.as_slice-3.ensures i))) ∙ sym c.in_ok-methods.ensures.1 ∙ ap (map method_view) (sym c.from_vec.ensures) in
    let events_are = ap (λ l. map (resolve_event known) (map event_tree l)) (sym c.as_slice-4.ensures) ∙ c.in_ok-events.ensures.1 ∙ ap (map event_view) (sym c.from_vec-2.ensures) in
    (five_hold a b d f g named fields inner own events, (λ i. record { methods = methods_are i; events = events_are i }))
