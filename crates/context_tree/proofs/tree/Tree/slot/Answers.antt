use Rattle.std.proofs.Common.{ap, ◌∙◌}
use Rattle.context_tree.specs.Contexts.{Contexts, is_there}
use Rattle.context_tree.proofs.KeptLemmas.{none_there, there_kept}
use Rattle.context_tree.proofs.tree.Tree.slot.Goals as goal

pub returns-clause-none : goal.returns-clause-none
returns-clause-none c =
    none_there c.get_index_of.result (is_there c.args.self.now c.args.path.now)
    (c.get_index_of.ensures.found ∙ there_kept c.self.inside.contexts.entries c.args.path.now ∙ ap (λ (t : Contexts). is_there t c.args.path.now) c.self.view_is)
