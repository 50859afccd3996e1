use Rattle.std.proofs.Common.{◌<◌, [], IfSome, length, set, sym, ap, subst, ◌∙◌}
use Rattle.std.proofs.lemmas.List.{get_or_default}
use Rattle.name_table.specs.Numbers.{numbers_with}
use Rattle.path_text.specs.inner.Children.{with_named}
use Rattle.path_text.proofs.classes.note_child.Goals as goal

pub returns : goal.returns
returns c =
    let tables = c.args.children.now.items in
    let there : c.in-Some.parent.0 < length tables = subst (λ o. IfSome o (λ p. p.0 < length tables)) c.in-Some.is c.requires in
    let names = c.index_mut-names.ensures.value ∙ get_or_default tables c.in-Some.parent.0 c.index_mut-names.result.now [] there in
    ap (set tables c.in-Some.parent.0) (c.in_ok-note.ensures.ok ∙ (λ i. numbers_with (names i) (c.bytes.ensures.bytes i) c.args.number))
    ∙ sym (ap (λ o. with_named tables o c.args.info.now.name c.args.number) c.in-Some.is)
