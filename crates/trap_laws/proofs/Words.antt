-- Words with places: tokens that stand at such places spell words that do.
use Rattle.std.proofs.Common.{◌≡◌, Bool, true, false, Some, None, subst}
use Rattle.std.specs.Prelude.{◌==◌, if◌then◌else◌}
use Rattle.wave_base.specs.declared.span.Span.{Span}
use Rattle.mace_lexer.specs.declared.keyword.Keyword.{Keyword}
use Rattle.mace_lexer.specs.declared.token.Token.{Token}
use Rattle.mace_lexer.specs.declared.token.Word.{Word}
use Rattle.mace_lexer.specs.declared.token.Word.TheVariants as word
use Rattle.mace_lexer.specs.Codes.{key_code}
use Rattle.mace_ast.specs.declared.name.Name.{Name}
use Rattle.mace_grammar.proofs.Parts.{Gives, none_not, some_same, token}
use Rattle.mace_grammar.specs.Words as w
use Rattle.mace_grammar.specs.Words.{Edition}

if_same : {X : Type 0} (b : Bool) (x y : X) → (if b then Some x else None) ≡ Some y → x ≡ y
if_same true x y e = some_same x y e
if_same false x y e = absurd (none_not e)

module _ (P : Span → Type 0) where
  -- it stands at such a place
  abbrev pub Stands : Token → Type 0
  Stands t = P t.span

  abbrev pub IsNamed : Name → Type 0
  IsNamed n = P n.at

  key_place : (want : Keyword) (at : Span) (x : Word) (a : Span) → P at → w.key_word want at x ≡ Some a → P a
  key_place want at (word.Key j) a h e = subst P (if_same (key_code want == key_code j) at a e) h
  key_place want at (word.Name t) a h e = absurd (none_not e)
  key_place want at (word.Number n) a h e = absurd (none_not e)
  key_place want at (word.Text t) a h e = absurd (none_not e)
  key_place want at (word.Sign j) a h e = absurd (none_not e)

  pub key : (want : Keyword) → Gives Stands P (w.key want)
  key want = token (λ t. w.key_word want t.span t.word) (λ t a h e. key_place want t.span t.word a h e)

  name_place : (edition : Edition) (at : Span) (x : Word) (n : Name) → P at → w.name_word edition at x ≡ Some n → P n.at
  name_place edition at (word.Name t) n h e = subst IsNamed (if_same (edition.is_name t) (record { at = at; text = t }) n e) h
  name_place edition at (word.Key j) n h e = absurd (none_not e)
  name_place edition at (word.Number m) n h e = absurd (none_not e)
  name_place edition at (word.Text t) n h e = absurd (none_not e)
  name_place edition at (word.Sign j) n h e = absurd (none_not e)

  pub name : (edition : Edition) → Gives Stands IsNamed (w.name edition)
  name edition = token (λ t. w.name_word edition t.span t.word) (λ t n h e. name_place edition t.span t.word n h e)
