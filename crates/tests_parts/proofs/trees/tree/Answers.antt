use Rattle.std.proofs.Common.{[], sym, subst, ◌∙◌}
use Rattle.context_tree.specs.Contexts.{HasField}
use Rattle.context_tree.proofs.KeptLemmas.{there_by_field}
use Rattle.tests_parts.proofs.trees.tree.Goals as goal

pub returns-clause-there : goal.returns-clause-there
returns-clause-there c =
    there_by_field c.in_ok-tree.tree _ 0
    (subst (λ shots. HasField (record { shots = shots; joined = [] }) _ 0) (sym (c.in_ok-tree.ensures.shots ∙ c.as_slice.ensures)) c.in_ok-shots.ensures.field)
