use Rattle.std.proofs.Common.{refl, true, false}
use Rattle.context_tree.specs.Contexts.{tree_of}
use Rattle.code_runner.proofs.Stepped.{told, entered_so, tree_so}
use Rattle.code_runner.proofs.walk.Walk.enter.Goals as goal

pub returns-then-contains-clause-entered : goal.returns-then-contains-clause-entered
returns-then-contains-clause-entered c = entered_so c.args.self.now.entered.items c.args.self.now.entered.items c.args.self.now.event.event.box.path c.path-path.result true c.path-path.ensures (told c.path-path.result c.as_slice.result.now c.args.self.now.entered.items c.contains.result true c.contains.ensures.value c.as_slice.ensures.value c.if-contains.true) refl

pub returns-then-contains-clause-tree : goal.returns-then-contains-clause-tree
returns-then-contains-clause-tree c = tree_so c.args.self.now.entered.items (tree_of c.args.shape.now c.args.contexts.now) (tree_of c.args.shape.now c.args.contexts.now) c.args.self.now.event.event.box.path c.path-path.result true c.path-path.ensures (told c.path-path.result c.as_slice.result.now c.args.self.now.entered.items c.contains.result true c.contains.ensures.value c.as_slice.ensures.value c.if-contains.true) refl

pub returns-clause-entered : goal.returns-clause-entered
returns-clause-entered c = entered_so c.args.self.now.entered.items c.push.new.self.items c.args.self.now.event.event.box.path c.path-path.result false c.path-path.ensures (told c.path-path.result c.as_slice.result.now c.args.self.now.entered.items c.contains.result false c.contains.ensures.value c.as_slice.ensures.value c.if-contains.false) c.in_ok-push.ensures.items

pub returns-clause-tree : goal.returns-clause-tree
returns-clause-tree c = tree_so c.args.self.now.entered.items (tree_of c.args.shape.now c.args.contexts.now) (tree_of c.args.shape.now c.join.new.contexts) c.args.self.now.event.event.box.path c.path-path.result false c.path-path.ensures (told c.path-path.result c.as_slice.result.now c.args.self.now.entered.items c.contains.result false c.contains.ensures.value c.as_slice.ensures.value c.if-contains.false) c.in_ok-join.ensures.ok
