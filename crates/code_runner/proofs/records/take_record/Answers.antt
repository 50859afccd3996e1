use Rattle.std.proofs.Common.{◌≡◌, ◌∙◌, [], true, ap}
use Rattle.context_tree.specs.Contexts.{tree_of, is_there}
use Rattle.code_runner.proofs.Putting.{still_here}
use Rattle.wave_base.specs.Tree.{put}
use Rattle.code_runner.proofs.records.take_record.Goals as goal

pub returns-clause-tree : goal.returns-clause-tree
returns-clause-tree c = λ shape. c.exchange.ensures.put shape ∙ ap (put (tree_of shape c.args.contexts.now) c.args.path.now) c.new.ensures

pub returns-clause-there : goal.returns-clause-there
returns-clause-there c = still_here c.args.contexts.now c.exchange.new.self c.args.path.now c.args.path.now c.new.result c.exchange.ensures.put c.requires

pub returns-clause-stays : goal.returns-clause-stays
returns-clause-stays c = λ p here. still_here c.args.contexts.now c.exchange.new.self c.args.path.now p c.new.result c.exchange.ensures.put here
