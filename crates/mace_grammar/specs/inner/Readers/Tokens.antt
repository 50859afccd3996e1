-- Readers of one token, and of lists with commas.
use Rattle.std.specs.Prelude.{ℕ, ℤ, List, [], ◌∷◌, unwrap_or, None}
use Rattle.wave_base.specs.declared.span.Span.{Span}
use Rattle.wave_base.specs.declared.value.Kind.{Kind}
use Rattle.mace_lexer.specs.declared.token.Token.{Token}
use Rattle.mace_lexer.specs.declared.keyword.Keyword.{Keyword}
use Rattle.mace_lexer.specs.declared.sign.Sign.{Sign}
use Rattle.mace_lexer.specs.declared.sign.Sign.TheVariants as s
use Rattle.mace_ast.specs.declared.name.Name.{Name}
use Rattle.mace_grammar.specs.declared.class.Class.{Class}
use Rattle.mace_grammar.specs.declared.class.Class.TheVariants as class
use Rattle.mace_grammar.specs.inner.Classes as classes
use Rattle.mace_grammar.specs.Words.{Edition, key_word, sign_word, name_word, leave_word, finish_word, number_word, text_word, kind_word}
use Rattle.mace_grammar.specs.inner.Run.{Reader, ◌>>=◌, ◌>>◌, give, word, choice, each_of, some}

abbrev pub key_at : Keyword → Reader Span
key_at want = word (λ t. key_word want t.span t.word)

abbrev pub sign_at : Sign → Reader Span
sign_at want = word (λ t. sign_word want t.span t.word)

abbrev pub number_at : Reader ℤ
number_at = word (λ t. number_word t.word)

abbrev pub text_at : Reader (List ℕ)
text_at = word (λ t. text_word t.word)

abbrev pub type_at : Reader Kind
type_at = word (λ t. kind_word t.word)

-- what a keyword or a sign is known by
abbrev pub if_sign : Sign → List Class
if_sign want = class.Sign want ∷ []

abbrev pub if_key : Keyword → List Class
if_key want = class.Key want ∷ []

-- ---- what a version changes

module _ (edition : Edition) where
  abbrev kind : Token → Class
  kind = classes.kind edition

  abbrev pub name_at : Reader Name
  name_at = word (λ t. name_word edition t.span t.word)

  -- the keyword `return` as a statement
  abbrev pub leave_at : Reader Span
  leave_at = word (λ t. leave_word edition t.span t.word)

  -- the word `finish`
  abbrev pub finish_at : Reader Span
  finish_at = word (λ t. finish_word edition t.span t.word)

  -- ---- lists with commas

  unfoldable pub next_at : {A : Type 0} → Reader A → Reader A
  next_at item = sign_at s.Comma >> item

  unfoldable pub list_at : {A : Type 0} → Reader A → Reader (List A)
  list_at item = do
    first ← item
    others ← each_of kind (if_sign s.Comma) (next_at item)
    give (first ∷ others)

  -- in parentheses, with a set of what an item begins with
  unfoldable pub separated_at : {A : Type 0} → List Class → Reader A → Reader (List A)
  separated_at firsts item = do
    sign_at s.LeftParen
    found ← choice kind firsts (some (list_at item)) (give None)
    sign_at s.RightParen
    give (unwrap_or found [])

  -- "." Name
  abbrev pub field_at : Reader Name
  field_at = sign_at s.Dot >> name_at
