use Rattle.std.proofs.Common.{slice_get, ap, ◌∙◌}
use Rattle.wave_base.specs.Starts.{shown_fields}
use Rattle.context_tree.specs.Contexts.{Contexts}
use Rattle.context_tree.proofs.SlotLemmas.{found_in_slot}
use Rattle.context_tree.proofs.tree.Tree.at.Goals as goal

pub returns : goal.returns
returns c =
    λ shape path is.
    let es = c.self.inside.contexts.entries in
    found_in_slot shape es c.args.slot path c.in-Some.field-0-0.now c.in-Some.record.now c.in-Some.ensures.entry c.in-Some.ensures.value (ap (λ (t : Contexts). slice_get t.joined c.args.slot) c.self.view_is ∙ is)
    ∙ ap (λ (t : Contexts). shown_fields shape t.shots path) c.self.view_is
