use Rattle.std.proofs.Common.{[], length, refl, sym, ap, subst, ◌∙◌, map, take, arith, rules}
use Rattle.std.proofs.lemmas.List.{length-map}
use Rattle.mace_ast.specs.declared.context.ContextDecl.{out-ContextDecl, the_lemmas}
use Rattle.mace_ast.specs.Decls.{Context, context_tree, contexts_of, method_tree}
use Rattle.type_rules.specs.Known as rules
use Rattle.type_tables.specs.inner.Gathering.{Gains}
use Rattle.type_tables.proofs.Gathers.{gains_context, map_more, gains_inside, tree_parts, on_ok}
use Rattle.type_tables.proofs.Rooms.{room_for_next, above_for_next, above_next, room_inside, room_behind, some_class}
use Rattle.type_tables.proofs.gather.Gathered.+context.Goals as goal

pub contexts-context-requires : goal.contexts-context-requires
contexts-context-requires t c =
    let gains = c.contexts.invariant in
    let room = room_for_next _ _ _ _ _ c.args.decls.now c.contexts.c-index c.c-item.result c.contexts-test.true c.c-item.is c.requires.room gains in
    (search (rules, the_lemmas), (gains.gathered, (room, above_for_next _ _ _ _ _ _ gains c.requires.above)))

pub contexts-contexts-preserved : goal.contexts-contexts-preserved
contexts-contexts-preserved t c =
    gains_context _ _ _ _ _ _ (map context_tree (take c.contexts.c-index c.args.decls.now)) _ (context_tree c.c-item.result) refl
    (map_more context_tree c.args.decls.now c.contexts.c-index c.c-item.result c.contexts-test.true c.c-item.is) c.contexts.invariant c.in_ok-context.ensures

pub context-class-requires-clause-room : goal.context-class-requires-clause-room
context-class-requires-clause-room t c =
    let some = some_class (context_tree c.args.c.now) in
    let room = c.requires.room.classes in
    omega arith

pub context-contexts-requires : goal.context-contexts-requires
context-contexts-requires t c =
    let methods = map method_tree (out-ContextDecl c.args.c.now).methods in
    let number = c.number-class.ensures ∙ c.len.ensures ∙ c.args.self.now.classes.ok.0 in
    let gains = c.in_ok-class.ensures in
    let d = out-ContextDecl c.args.c.now in
    let parts = tree_parts c.args.c.now ∙ ap (λ ds. Context d.at d.name d.vars (contexts_of (map context_tree ds)) methods) (sym c.deref.ensures.value) in
    let room = room_inside _ _ _ gains d.at d.name d.vars (contexts_of (map context_tree c.deref.result.now)) methods (context_tree c.args.c.now) parts c.requires.room in
    (search (rules, the_lemmas), (gains.gathered, (room, above_next _ _ _ gains c.args.above.now c.as_slice.result.now c.number-class.result number (c.as_slice.ensures.value ∙ c.in_ok-inner.ensures) c.requires.above)))

pub context-methods-requires-clause-room : goal.context-methods-requires-clause-room
context-methods-requires-clause-room t c =
    let d = out-ContextDecl c.args.c.now in
    let methods = d.methods in
    let gains = c.in_ok-class.ensures in
    let parts = tree_parts c.args.c.now ∙ ap (λ ds. Context d.at d.name d.vars (contexts_of (map context_tree ds)) (map method_tree methods)) (sym c.deref.ensures.value) in
    let room = room_behind _ _ _ gains d.at d.name d.vars (contexts_of (map context_tree c.deref.result.now)) (map method_tree methods) (context_tree c.args.c.now) parts c.requires.room _ _ _ _ _ c.in_ok-contexts.ensures in
    let count = length-map methods method_tree in
    let same = ap length c.as_slice-2.ensures in
    omega arith

pub context-returns : goal.context-returns
context-returns t c =
    let contexts = (out-ContextDecl c.args.c.now).contexts.items in
    let n = c.number-class.result in
    let inside : Gains c.class.new.self c.contexts.new.self (rules.classes_in c.as_slice.result.now n (length c.class.new.self.classes.items) (contexts_of (map context_tree contexts)))
    (rules.methods_in (length c.class.new.self.classes.items) (contexts_of (map context_tree contexts))) [] =
    subst (λ xs. Gains c.class.new.self c.contexts.new.self (rules.classes_in c.as_slice.result.now n (length c.class.new.self.classes.items) (contexts_of (map context_tree xs)))
    (rules.methods_in (length c.class.new.self.classes.items) (contexts_of (map context_tree xs))) []) c.deref.ensures.value c.in_ok-contexts.ensures in
    on_ok _ _ c.methods.result
    (λ own.
    gains_inside _ _ _ _ c.args.above.now c.as_slice.result.now c.args.parent n _ _ _ (map context_tree contexts) (map method_tree (out-ContextDecl c.args.c.now).methods) (context_tree c.args.c.now)
    (tree_parts c.args.c.now) (c.number-class.ensures ∙ c.len.ensures ∙ c.args.self.now.classes.ok.0) (c.as_slice.ensures.value ∙ c.in_ok-inner.ensures) c.in_ok-class.ensures inside
    (subst (λ ms. Gains c.contexts.new.self c.methods.new.self [] (map (rules.signature n) (map method_tree ms)) []) c.as_slice-2.ensures own))
    c.methods.ensures
