use Rattle.std.proofs.Common.{[], map, take}
use Rattle.mace_ast.specs.Decls.{event_tree}
use Rattle.type_rules.specs.Known as rules
use Rattle.type_tables.specs.inner.Gathering.{Gains}
use Rattle.type_tables.proofs.gather.Gathered.events.Given as goal

abbrev pub invariant-loop-e : goal.invariant-loop-e
invariant-loop-e l = Gains l.initial.self l.self [] [] (map rules.event_info (map event_tree (take l.e-index l.decls)))
