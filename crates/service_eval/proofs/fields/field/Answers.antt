use Rattle.std.proofs.Common.{ap, sym, ◌∙◌, get_or, refl}
use Rattle.resolved_service.specs.World.{nothing}
use Rattle.service_eval.proofs.FieldLemmas.{shown_absent}
use Rattle.service_eval.proofs.fields.field.Goals as goal

pub returns-in-None : goal.returns-in-None
returns-in-None c =
    c.initial.ensures ∙ ap (λ fs. get_or fs c.args.field nothing) (sym (shown_absent c.args.shape.now c.args.tree.now c.args.path.now (c.in-None.ensures.none.0 refl)))
