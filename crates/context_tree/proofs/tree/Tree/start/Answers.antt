use Rattle.std.proofs.Common.{◌∷◌, [], ap, ◌∙◌}
use Rattle.indexmap.specs.IndexMap.{insert_entry}
use Rattle.wave_base.specs.Paths.{path_eq}
use Rattle.context_tree.proofs.OrderLemmas.{first_kept}
use Rattle.context_tree.proofs.Ordered.{Entries}
use Rattle.context_tree.proofs.tree.Tree.start.Goals as goal

pub returns-clause-tree : goal.returns-clause-tree
returns-clause-tree c =
    first_kept c.args.shape.now c.insert.new.self.entries c.in_ok-root.root
    (c.in_ok-insert.ensures.entries ∙ ap (λ (es : Entries). insert_entry path_eq es c.root.result c.in_ok-root.root) c.new-contexts.ensures.empty ∙ ap (λ p. (p, c.in_ok-root.root) ∷ []) c.root.ensures)
    c.in_ok-root.ensures.fields
