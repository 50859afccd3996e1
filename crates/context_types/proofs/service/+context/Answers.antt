use Rattle.std.proofs.Common.{ℕ, ◌≡◌, ◌+◌, ◌<◌, ◌++◌, length, map, take, sym, ap, subst, ◌∙◌, append_assoc, arith, rules}
use Rattle.std.proofs.lemmas.List.{take_all}
use Rattle.std.proofs.lemmas.Result.{err_from_is_err_and}
use Rattle.mace_ast.specs.declared.context.ContextDecl.{out-ContextDecl, the_lemmas}
use Rattle.mace_ast.specs.Decls.{Context, context_tree, contexts_of, method_tree}
use Rattle.type_rules.specs.Demands.{first_wrong, Fails}
use Rattle.type_rules.specs.Known.{methods_in}
use Rattle.mace_ast.specs.Counts.{class_count, classes_count}
use Rattle.type_rules.specs.Services.{context_demands, contexts_demands, methods_demands, fields_demands, resolve_context, resolve_contexts, resolve_methods}
use Rattle.type_rules.specs.Views.{method_view}
use Rattle.type_rules.proofs.First.{fails_same}
use Rattle.type_tables.proofs.Gathers.{tree_parts}
use Rattle.type_tables.proofs.Rooms.{some_class}
use Rattle.context_types.specs.inner.Judged.{FewFields, StandsAt}
use Rattle.context_types.proofs.Exits.{exit}
use Rattle.context_types.proofs.Judged.{class_judged, context_judged, stands_next, room_next}
use Rattle.context_types.proofs.ServiceArms.{next_context, context_asks, context_made, joined, contexts_walk, contexts_made, contexts_made_more, count_context, count_contexts, class_at, name_fails, fields_fail, inside_fails, own_fails, parts_hold}
use Rattle.context_types.proofs.Walking.{walk, ends_more, walk_more, walk_fails, walk_whole, makes}
use Rattle.context_types.proofs.service.+context.Goals as goal

-- ---- a context

pub context-overflow_add-class : goal.context-overflow_add-class
context-overflow_add-class t c =
    let some = some_class (context_tree c.args.c.now) in
    let room = c.requires.room in
    omega arith

pub context-contexts-requires : goal.context-contexts-requires
context-contexts-requires t c =
    let known = c.args.tables.now in
    let class = c.args.class in
    let d = out-ContextDecl c.args.c.now in
    let given = c.deref.result.now in
    let parts = tree_parts c.args.c.now ∙ ap (λ ds. Context d.at d.name d.vars (contexts_of (map context_tree ds)) (map method_tree d.methods)) (sym c.deref.ensures.value) in
    let there = subst (StandsAt known.shape class) parts c.requires.there in
    let fields = ap (λ fs. first_wrong (fields_demands known class 0 fs)) (sym c.as_slice.ensures) ∙ c.in_ok-fields.ensures.0 in
    let count = ap class_count parts in
    let few = c.requires.room in
    let room : class + 1 + classes_count (contexts_of (map context_tree given)) < 65536 = omega arith in
    (search (rules, the_lemmas), (room, (there.1, class_judged known class d.vars there.0 fields c.requires.few)))

pub context-methods-requires : goal.context-methods-requires
context-methods-requires t c =
    let known = c.args.tables.now in
    let class = c.args.class in
    let there = subst (StandsAt known.shape class) (tree_parts c.args.c.now) c.requires.there in
    let fields = ap (λ fs. first_wrong (fields_demands known class 0 fs)) (sym c.as_slice.ensures) ∙ c.in_ok-fields.ensures.0 in
    class_judged known class (out-ContextDecl c.args.c.now).vars there.0 fields c.requires.few

pub context-returns-in_err-class_name : goal.context-returns-in_err-class_name
context-returns-in_err-class_name t c =
    let known = c.args.tables.now in
    let class = c.args.class in
    let n = length c.args.made.now.items in
    let name = (out-ContextDecl c.args.c.now).name in
    let vars = (out-ContextDecl c.args.c.now).vars in
    let cs = contexts_of (map context_tree (out-ContextDecl c.args.c.now).contexts.items) in
    let ms = map method_tree (out-ContextDecl c.args.c.now).methods in
    let parts = tree_parts c.args.c.now in
    let e = c.in_err-class_name.field-0.0 in
    exit _ _ _ (err_from_is_err_and c.from_residual.result c.from_residual.ensures.1) (context_demands known class n (context_tree c.args.c.now))
    (subst (λ x. Fails (context_demands known class n x) e) (sym parts) (name_fails known class n name vars cs ms e c.in_err-class_name.ensures))

pub context-returns-in_err-fields : goal.context-returns-in_err-fields
context-returns-in_err-fields t c =
    let known = c.args.tables.now in
    let class = c.args.class in
    let n = length c.args.made.now.items in
    let name = (out-ContextDecl c.args.c.now).name in
    let vars = (out-ContextDecl c.args.c.now).vars in
    let cs = contexts_of (map context_tree (out-ContextDecl c.args.c.now).contexts.items) in
    let ms = map method_tree (out-ContextDecl c.args.c.now).methods in
    let parts = tree_parts c.args.c.now in
    let e = c.in_err-fields.field-0.0 in
    exit _ _ _ (err_from_is_err_and c.from_residual-in_err-fields.result c.from_residual-in_err-fields.ensures.1) (context_demands known class n (context_tree c.args.c.now))
    (subst (λ x. Fails (context_demands known class n x) e) (sym parts) (fields_fail known class n name vars cs ms c.in_ok-class_name.ensures.0 e (subst (λ fs. Fails (fields_demands known class 0 fs) e) c.as_slice.ensures c.in_err-fields.ensures)))

pub context-returns-in_err-next : goal.context-returns-in_err-next
context-returns-in_err-next t c =
    let known = c.args.tables.now in
    let class = c.args.class in
    let n = length c.args.made.now.items in
    let name = (out-ContextDecl c.args.c.now).name in
    let vars = (out-ContextDecl c.args.c.now).vars in
    let cs = contexts_of (map context_tree (out-ContextDecl c.args.c.now).contexts.items) in
    let ms = map method_tree (out-ContextDecl c.args.c.now).methods in
    let parts = tree_parts c.args.c.now in
    let e = c.in_err-next.field-0.0 in
    exit _ _ _ (err_from_is_err_and c.from_residual-in_err-next.result c.from_residual-in_err-next.ensures.1) (context_demands known class n (context_tree c.args.c.now))
    (subst (λ x. Fails (context_demands known class n x) e) (sym parts) (inside_fails known class n name vars cs ms c.in_ok-class_name.ensures.0 (ap (λ fs. first_wrong (fields_demands known class 0 fs)) (sym c.as_slice.ensures) ∙ c.in_ok-fields.ensures.0) e (subst (λ l. Fails (contexts_demands known (class + 1) n (contexts_of (map context_tree l))) e) c.deref.ensures.value c.in_err-next.ensures)))

pub context-returns-in_err-methods : goal.context-returns-in_err-methods
context-returns-in_err-methods t c =
    let known = c.args.tables.now in
    let class = c.args.class in
    let n = length c.args.made.now.items in
    let name = (out-ContextDecl c.args.c.now).name in
    let vars = (out-ContextDecl c.args.c.now).vars in
    let cs = contexts_of (map context_tree (out-ContextDecl c.args.c.now).contexts.items) in
    let ms = map method_tree (out-ContextDecl c.args.c.now).methods in
    let parts = tree_parts c.args.c.now in
    let old = map method_view c.args.made.now.items in
    let named = c.in_ok-class_name.ensures.0 in
    let fields = ap (λ fs. first_wrong (fields_demands known class 0 fs)) (sym c.as_slice.ensures) ∙ c.in_ok-fields.ensures.0 in
    let inner = ap (λ l. first_wrong (contexts_demands known (class + 1) n (contexts_of (map context_tree l)))) (sym c.deref.ensures.value) ∙ c.in_ok-next.ensures.0 in
    let made = c.in_ok-next.ensures.1.1 ∙ ap (λ l. old ++ resolve_contexts known (class + 1) n (contexts_of (map context_tree l))) c.deref.ensures.value in
    let count = count_contexts known (class + 1) n cs c.args.made.now.items c.contexts.new.made.items made in
    let e = c.in_err-methods.field-0.0 in
    exit _ _ _ (err_from_is_err_and c.from_residual-in_err-methods.result c.from_residual-in_err-methods.ensures.1) (context_demands known class n (context_tree c.args.c.now))
    (subst (λ x. Fails (context_demands known class n x) e) (sym parts)
    (own_fails known class n name vars cs ms named fields inner e (subst (λ ds. Fails ds e) (λ i. methods_demands known class (count i) (map method_tree (c.as_slice-2.ensures i))) c.in_err-methods.ensures)))

pub context-returns : goal.context-returns
context-returns t c =
    let known = c.args.tables.now in
    let class = c.args.class in
    let n = length c.args.made.now.items in
    let name = (out-ContextDecl c.args.c.now).name in
    let vars = (out-ContextDecl c.args.c.now).vars in
    let cs = contexts_of (map context_tree (out-ContextDecl c.args.c.now).contexts.items) in
    let ms = map method_tree (out-ContextDecl c.args.c.now).methods in
    let parts = tree_parts c.args.c.now in
    let old = map method_view c.args.made.now.items in
    let named = c.in_ok-class_name.ensures.0 in
    let fields = ap (λ fs. first_wrong (fields_demands known class 0 fs)) (sym c.as_slice.ensures) ∙ c.in_ok-fields.ensures.0 in
    let inner = ap (λ l. first_wrong (contexts_demands known (class + 1) n (contexts_of (map context_tree l)))) (sym c.deref.ensures.value) ∙ c.in_ok-next.ensures.0 in
    let made = c.in_ok-next.ensures.1.1 ∙ ap (λ l. old ++ resolve_contexts known (class + 1) n (contexts_of (map context_tree l))) c.deref.ensures.value in
    let count = count_contexts known (class + 1) n cs c.args.made.now.items c.contexts.new.made.items made in
    let own = (λ i. first_wrong (methods_demands known class (sym count i) (map method_tree (sym c.as_slice-2.ensures i)))) ∙ c.in_ok-methods.ensures.0 in
    let e = ap class_count parts in
    let f = ap (λ l. classes_count (contexts_of (map context_tree l))) c.deref.ensures.value in
    let next : c.in_ok-next.next ≡ class + class_count (context_tree c.args.c.now) = let g = c.in_ok-next.ensures.1.0 in omega arith in (
      ap (λ x. first_wrong (context_demands known class n x)) parts ∙ parts_hold known class n name vars cs ms named fields inner own,
      (
        next,
        c.in_ok-methods.ensures.1
            ∙ (λ i. made i ++ resolve_methods known class (count i) (map method_tree (c.as_slice-2.ensures i)))
            ∙ append_assoc old (resolve_contexts known (class + 1) n cs) (resolve_methods known class (n + length (methods_in (class + 1) cs)) ms)
            ∙ ap (λ x. old ++ resolve_context known class n x) (sym parts),
      ),
    )

-- ---- contexts one after the other

pub contexts-context-requires : goal.contexts-context-requires
contexts-context-requires t c =
    let known = c.args.tables.now in
    let at : ℕ × ℕ = (c.args.first, length c.args.made.now.items) in
    let cs = c.args.decls.now in
    let i = c.each.c-index in
    let is = c.each.invariant in
    let x = c.c-item.result in
    let number = ap (λ p. p.0) is.place in
    let next = room_next at cs i x c.each-test.true c.c-item.is in
    let few = c.requires.room in
    let room : c.each.next + class_count (context_tree x) < 65536 = omega arith in
    let there = subst (λ n. StandsAt known.shape n (context_tree x)) number (stands_next known.shape at cs i x c.each-test.true c.c-item.is c.requires.there) in
    (search (rules, the_lemmas), (room, (there, is.few)))

pub contexts-returns-in_err-next : goal.contexts-returns-in_err-next
contexts-returns-in_err-next t c =
    let known = c.args.tables.now in
    let n = length c.args.made.now.items in
    let at : ℕ × ℕ = (c.args.first, n) in
    let cs = c.args.decls.now in
    let i = c.each.c-index in
    let is = c.each.invariant in
    let x = c.c-item.result in
    let e = c.in_err-next.field-0.0 in
    exit _ _ _ (err_from_is_err_and c.from_residual.result c.from_residual.ensures.1) (contexts_demands known c.args.first n (contexts_of (map context_tree cs)))
    (fails_same (contexts_demands known c.args.first n (contexts_of (map context_tree cs))) (walk next_context (context_asks known) at cs) e (ap first_wrong (contexts_walk known c.args.first n cs))
    (walk_fails next_context (context_asks known) at cs i x e c.each-test.true c.c-item.is is.holds
    (subst (λ p. Fails (context_asks known p x) e) (sym is.place) c.in_err-next.ensures)))

pub contexts-each-preserved : goal.contexts-each-preserved
contexts-each-preserved t c =
    let known = c.args.tables.now in
    let n = length c.args.made.now.items in
    let at : ℕ × ℕ = (c.args.first, n) in
    let cs = c.args.decls.now in
    let i = c.each.c-index in
    let is = c.each.invariant in
    let x = c.c-item.result in
    let ok = c.in_ok-next.ensures in
    let count = count_context known c.each.next (length c.each.made.items) (context_tree x) c.each.made.items c.context.new.made.items ok.1.1 in
    let there = subst (λ n. StandsAt known.shape n (context_tree x)) (ap (λ p. p.0) is.place) (stands_next known.shape at cs i x c.each-test.true c.c-item.is c.requires.there) in
    record {
      holds = walk_more next_context (context_asks known) at cs i x c.each-test.true c.c-item.is is.holds (ap (λ p. first_wrong (context_asks known p x)) is.place ∙ ok.0);
      place = ends_more next_context at cs i x c.each-test.true c.c-item.is ∙ ap (λ p. next_context p x) is.place ∙ (λ j. (sym ok.1.0 j, sym count j));
      made = contexts_made_more known at cs i x (map method_view c.args.made.now.items) (map method_view c.each.made.items) (map method_view c.context.new.made.items) c.each-test.true c.c-item.is is.made
          (ok.1.1 ∙ ap (λ p. map method_view c.each.made.items ++ context_made known p x) (sym is.place));
      few = subst (FewFields known) (sym ok.1.0) (context_judged known c.each.next (length c.each.made.items) (context_tree x) there ok.0 is.few);
    }

pub contexts-returns : goal.contexts-returns
contexts-returns t c =
    let known = c.args.tables.now in
    let n = length c.args.made.now.items in
    let at : ℕ × ℕ = (c.args.first, n) in
    let cs = c.args.decls.now in
    let i = c.each.c-index in
    let is = c.each.invariant in
    let old = map method_view c.args.made.now.items in
    let all = take_all i cs c.each-test.false in (
      ap first_wrong (contexts_walk known c.args.first n cs) ∙ walk_whole next_context (context_asks known) at cs i c.each-test.false is.holds,
      (
        sym (ap (λ p. p.0) is.place) ∙ class_at at (take i cs) ∙ ap (λ xs. c.args.first + classes_count (contexts_of (map context_tree xs))) all,
        is.made ∙ ap (λ xs. old ++ joined (makes next_context (context_made known) at xs)) all ∙ ap (λ l. old ++ l) (sym (contexts_made known c.args.first n cs)),
      ),
    )
