use Rattle.std.proofs.Common.{[], ◌∷◌, ◌++◌, ◌∙◌, ap, sym, subst, Some, Option, List}
use Rattle.atomic_table.specs.Table.{opening}
use Rattle.kept_lock.specs.Rule.{first_view, Keeps}
use Rattle.kept_lock.proofs.Joining.{opens}
use Rattle.kept_lock.proofs.lock.KeptLock.new.Goals as goal

pub new-requires-2 : goal.new-requires-2
new-requires-2 g c = subst (λ (l : List (Option g.row.V.Denot)). Keeps g.V.Kept.history g.V.Kept.owner g.V.Kept.stands c.args.name (opening (0 ∷ []) l (first_view c.args.name)))
    (sym (c.push_reserved.ensures.items ∙ ap (λ l. l ++ Some c.in-Ok.held ∷ []) c.in-Ok-with_capacity.ensures.items ∙ ap (λ y. Some y ∷ []) c.in-Ok.ensures.held))
    (opens g.V.Kept.history g.V.Kept.owner g.V.Kept.stands c.args.name c.args.value c.requires.stands c.requires.empty)
