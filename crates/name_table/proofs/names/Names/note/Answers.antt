use Rattle.std.proofs.Common.{◌≡◌, ℕ, false, Option, Some, None, is_some, refl, sym, ◌∙◌}
use Rattle.name_table.proofs.NameLemmas.{pairs_noted}
use Rattle.name_table.proofs.names.Names.note.Goals as goal

pub returns-in_ok-insert-clause-ok : goal.returns-in_ok-insert-clause-ok
returns-in_ok-insert-clause-ok c =
    pairs_noted c.self.inside.numbers _ c.in_ok-name.name _ _ _ c.self.view_is c.in_ok-name.ensures.items (sym c.first.ensures ∙ none c.first.result c.if-is_none.ensures) c.in_ok-insert.ensures.entries
  where
    none : (o : Option ℕ) → is_some o ≡ false → o ≡ None
    none None h = refl
    none (Some n) h = cc
