use Rattle.std.proofs.Common.{◌++◌, ◌∷◌, [], refl, ap, ◌∙◌}
use Rattle.name_table.specs.Numbers.{numbers_with}
use Rattle.type_tables.proofs.Gathers.{class_gained}
use Rattle.type_tables.proofs.gather.Gathered.class.Goals as goal

pub returns : goal.returns
returns c =
    let number = c.number-class.ensures ∙ c.len.ensures ∙ c.args.self.now.classes.ok.0 in
    class_gained _ _ c.requires.gathered c.in_ok-info.info _ c.args.above.now c.args.name.now.text c.in_ok-info.ensures (ap (λ i. i.name) c.in_ok-info.ensures) c.requires.above c.requires.room
    refl c.in_ok-push.ensures.items (c.in_ok-push-2.ensures.items ∙ ap (λ a. c.args.self.now.above.items ++ a ∷ []) (c.from_vec.ensures ∙ c.in_ok-above.ensures.items)) refl refl
    (c.in_ok-note.ensures.ok ∙ (λ i. numbers_with c.args.self.now.class_names (c.bytes.ensures.bytes i) (number i))) refl (c.in_ok-push-3.ensures.items ∙ ap (λ n. c.args.self.now.method_names.items ++ n ∷ []) c.new.ensures)
