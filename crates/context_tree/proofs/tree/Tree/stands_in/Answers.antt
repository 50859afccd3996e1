use Rattle.std.proofs.Common.{◌≡◌, Some, true, slice_get, sym, subst, ◌∙◌}
use Rattle.context_tree.specs.Contexts.{Contexts, is_there}
use Rattle.context_tree.proofs.SlotLemmas.{stands, slot_there}
use Rattle.context_tree.proofs.tree.Tree.stands_in.Goals as goal

pub returns-in-Some-clause-slot : goal.returns-in-Some-clause-slot
returns-in-Some-clause-slot c =
    λ h. subst (λ (t : Contexts). slice_get t.joined c.args.slot ≡ Some c.args.path.now) c.self.view_is
    (stands c.self.inside.contexts.entries c.args.slot c.args.path.now c.in-Some.found.now _ c.in-Some.ensures.entry (sym c.eq.ensures ∙ h))

pub returns-in-Some-clause-there : goal.returns-in-Some-clause-there
returns-in-Some-clause-there c =
    λ h. let es = c.self.inside.contexts.entries in
    subst (λ (t : Contexts). is_there t c.args.path.now ≡ true) c.self.view_is
    (slot_there es c.args.path.now c.args.slot (stands es c.args.slot c.args.path.now c.in-Some.found.now _ c.in-Some.ensures.entry (sym c.eq.ensures ∙ h)))
