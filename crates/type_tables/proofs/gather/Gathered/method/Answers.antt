use Rattle.std.proofs.Common.{◌<◌, [], set, refl, sym, ap, subst, ◌∙◌}
use Rattle.std.proofs.lemmas.List.{get_or_default}
use Rattle.name_table.specs.Numbers.{numbers_with}
use Rattle.type_tables.proofs.Gathers.{method_gained}
use Rattle.type_tables.proofs.gather.Gathered.method.Goals as goal

pub returns : goal.returns
returns c =
    let number = c.number-method.ensures ∙ c.len.ensures ∙ c.args.self.now.methods.ok.0 in
    let there = subst (λ n. c.args.class < n) (sym c.requires.gathered.tables) c.requires.there in
    let names = c.index_mut-names.ensures.value ∙ get_or_default c.args.self.now.method_names.items c.args.class c.index_mut-names.result.now [] there in
    method_gained _ _ c.requires.gathered c.in_ok-signature.signature _ c.args.class c.args.m.now.name.text c.in_ok-signature.ensures (ap (λ s. s.class) c.in_ok-signature.ensures) (ap (λ s. s.name) c.in_ok-signature.ensures)
    c.requires.there c.requires.room refl refl refl c.in_ok-push.ensures.items refl refl refl
    (ap (set c.args.self.now.method_names.items c.args.class) (c.in_ok-note.ensures.ok ∙ (λ i. numbers_with (names i) (c.bytes.ensures.bytes i) (number i))))
