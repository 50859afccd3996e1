use Rattle.std.proofs.Common.{◌≡◌, ◌↔◌, false, subst, IsNone, IfSome}
use Rattle.wave_base.specs.Starts.{shown_fields}
use Rattle.context_tree.specs.Contexts.{Contexts, is_there}
use Rattle.context_tree.proofs.KeptLemmas.{none_absent, some_shown}
use Rattle.context_tree.proofs.tree.Tree.get.Goals as goal

pub returns-clause-none : goal.returns-clause-none
returns-clause-none c =
    subst (λ (t : Contexts). IsNone c.get.result ↔ (is_there t c.args.path.now ≡ false)) c.self.view_is (none_absent c.self.inside.contexts.entries c.args.path.now c.get.result c.get.ensures.value)

pub returns-clause-some : goal.returns-clause-some
returns-clause-some c =
    λ shape. subst (λ (t : Contexts). IfSome c.get.result (λ r. r.now.fields ≡ shown_fields shape t.shots c.args.path.now)) c.self.view_is (some_shown c.self.inside.contexts.entries c.args.path.now shape c.get.result c.get.ensures.value)
