use Rattle.std.proofs.Common.{refl, ap, ◌∙◌}
use Rattle.name_table.specs.Numbers.{numbers_with}
use Rattle.type_tables.proofs.Gathers.{event_gained}
use Rattle.type_tables.proofs.gather.Gathered.event.Goals as goal

pub returns : goal.returns
returns c =
    let number = c.number-event.ensures ∙ c.len.ensures ∙ c.args.self.now.events.ok.0 in
    event_gained _ _ c.requires.gathered c.in_ok-info.info _ c.args.e.now.name.text c.in_ok-info.ensures (ap (λ i. i.name) c.in_ok-info.ensures) c.requires.room
    refl refl refl refl c.in_ok-push.ensures.items refl (c.in_ok-note.ensures.ok ∙ (λ i. numbers_with c.args.self.now.event_names (c.bytes.ensures.bytes i) (number i))) refl
