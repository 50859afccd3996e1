use Rattle.std.proofs.Common.{◌+◌, ◌<◌, [], ◌∷◌, map, length, sym, ap, subst, arith}
use Rattle.std.proofs.lemmas.List.{length-map}
use Rattle.mace_ast.specs.Counts.{methods_count}
use Rattle.mace_ast.specs.Decls.{context_tree, contexts_of, method_tree, event_tree, service_tree}
use Rattle.type_rules.specs.declared.known.Known.{Known}
use Rattle.type_rules.specs.Known as rules
use Rattle.type_tables.specs.inner.Gathering.{Gains}
use Rattle.type_tables.proofs.Gathers.{service_gathered}
use Rattle.type_tables.proofs.Rooms.{room_in_root}
use Rattle.type_tables.proofs.gather.Gathered.of.Goals as goal

pub methods-requires-clause-room : goal.methods-requires-clause-room
methods-requires-clause-room c =
    let none = ap (λ (k : Known). length k.methods) c.new-gathered.ensures.known in
    let methods = c.args.service.now.methods in
    let few = subst (λ xs. methods_count (contexts_of (map context_tree xs)) + length (map method_tree methods) + length (map event_tree c.args.service.now.events) < 65536) (sym c.as_slice.ensures) c.requires.functions in
    let room = room_in_root _ _ _ c.in_ok-class.ensures _ _ _ _ _ _ _ _ none c.in_ok-contexts.ensures few in
    let count = length-map methods method_tree in
    let same = ap length c.as_slice-2.ensures in
    omega arith

pub returns : goal.returns
returns c =
    service_gathered _ _ _ _ _ (service_tree c.args.service.now) c.new-gathered.ensures.known c.in_ok-class.ensures
    (subst (λ xs. Gains c.class.new.self c.contexts.new.self (rules.classes_in (0 ∷ []) 0 (length c.class.new.self.classes.items) (contexts_of (map context_tree xs))) (rules.methods_in (length c.class.new.self.classes.items) (contexts_of (map context_tree xs))) []) c.as_slice.ensures c.in_ok-contexts.ensures)
    (subst (λ xs. Gains c.contexts.new.self c.methods.new.self [] (map (rules.signature 0) (map method_tree xs)) []) c.as_slice-2.ensures c.in_ok-methods.ensures)
    (subst (λ xs. Gains c.methods.new.self c.events.new.self [] [] (map rules.event_info (map event_tree xs))) c.as_slice-3.ensures c.in_ok-events.ensures)
