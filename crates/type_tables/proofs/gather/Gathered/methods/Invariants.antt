use Rattle.std.proofs.Common.{[], map, take}
use Rattle.mace_ast.specs.Decls.{method_tree}
use Rattle.type_rules.specs.Known as rules
use Rattle.type_tables.specs.inner.Gathering.{Gains}
use Rattle.type_tables.proofs.gather.Gathered.methods.Given as goal

abbrev pub invariant-loop-m : goal.invariant-loop-m
invariant-loop-m l = Gains l.initial.self l.self [] (map (rules.signature l.class) (map method_tree (take l.m-index l.decls))) []
