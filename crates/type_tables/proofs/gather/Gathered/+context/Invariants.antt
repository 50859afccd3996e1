use Rattle.std.proofs.Common.{[], map, take, length}
use Rattle.mace_ast.specs.Decls.{context_tree, contexts_of}
use Rattle.type_rules.specs.Known as rules
use Rattle.type_tables.specs.inner.Gathering.{Gains}
use Rattle.type_tables.proofs.gather.Gathered.+context.Given as goal

abbrev pub invariant-contexts-contexts : goal.invariant-contexts-contexts
invariant-contexts-contexts l =
    Gains l.initial.self l.self
    (rules.classes_in l.above l.parent (length l.initial.self.classes.items) (contexts_of (map context_tree (take l.c-index l.decls))))
    (rules.methods_in (length l.initial.self.classes.items) (contexts_of (map context_tree (take l.c-index l.decls)))) []
