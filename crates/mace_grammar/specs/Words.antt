-- The words of the grammar, and what each is worth.
use Rattle.std.specs.Prelude.{ℕ, ℤ, pos, Bool, true, false, not, ◌&&◌, ◌==◌, if◌then◌else◌, List, Option, Some, None, codes, unwrap_or}
use Rattle.std.specs.Option.{option_map}
use Rattle.std.specs.Ordering.{int_eq}
use Rattle.wave_base.specs.Names.{same_bytes}
use Rattle.wave_base.specs.declared.span.Span.{Span}
use Rattle.wave_base.specs.declared.version.Version.{Version}
use Rattle.wave_base.specs.declared.version.Version.TheVariants.{First, Second}
use Rattle.wave_base.specs.declared.value.Kind.{Kind}
use Rattle.wave_base.specs.declared.value.Kind.TheVariants as kind
use Rattle.mace_lexer.specs.declared.token.Word.{Word}
use Rattle.mace_lexer.specs.declared.token.Word.TheVariants as word
use Rattle.mace_lexer.specs.declared.keyword.Keyword.{Keyword}
use Rattle.mace_lexer.specs.declared.keyword.Keyword.TheVariants as k
use Rattle.mace_lexer.specs.declared.sign.Sign.{Sign}
use Rattle.mace_lexer.specs.declared.sign.Sign.TheVariants as s
use Rattle.mace_lexer.specs.Codes.{key_code, sign_code}
use Rattle.mace_ast.specs.declared.name.Name.{Name}
use Rattle.mace_ast.specs.declared.field.Initial.{Initial}
use Rattle.mace_ast.specs.declared.field.Literal.TheVariants as lit
use Rattle.mace_ast.specs.declared.expr.UnaryOp.{UnaryOp}
use Rattle.mace_ast.specs.declared.expr.UnaryOp.TheVariants as unary
use Rattle.mace_ast.specs.declared.expr.BinaryOp.{BinaryOp}
use Rattle.mace_ast.specs.declared.expr.BinaryOp.TheVariants as op
use Rattle.mace_ast.specs.Exprs.{ExprTree, Number, Text, Boolean, Empty}
use Rattle.mace_grammar.specs.Part.{Part, pure, one, ◌>>=◌, maybe}

-- ---- a keyword or a sign is worth its place

abbrev pub key_word : Keyword → Span → Word → Option Span
key_word want at (word.Key j) = if key_code want == key_code j then Some at else None
key_word want at _ = None

abbrev pub sign_word : Sign → Span → Word → Option Span
sign_word want at (word.Sign j) = if sign_code want == sign_code j then Some at else None
sign_word want at _ = None

abbrev pub key : Keyword → Part Span
key want = one (λ t. key_word want t.span t.word)

abbrev pub sign : Sign → Part Span
sign want = one (λ t. sign_word want t.span t.word)

-- ---- what the version of a service changes: which words are names, and whether `return` and `finish` are statements

pub record Edition : Type 0 where
  pub is_name : List ℕ → Bool
  pub early : Bool

abbrev pub first : Edition
first = record { is_name = λ t. true; early = false }

abbrev pub is_finish : List ℕ → Bool
is_finish t = same_bytes t (codes "finish")

abbrev pub second : Edition
second = record { is_name = λ t. not (is_finish t); early = true }

abbrev pub edition_of : Version → Edition
edition_of First = first
edition_of Second = second

abbrev pub two_word : Word → Option Version
two_word (word.Number n) = if int_eq n (pos 2) then Some Second else None
two_word _ = None

-- ["2"]: where the number is left out, the version is the first
unfoldable pub version_number : Part Version
version_number = do
  number ← maybe (one (λ t. two_word t.word))
  pure (unwrap_or number First)

module _ (edition : Edition) where
  abbrev pub name_word : Span → Word → Option Name
  name_word at (word.Name t) = if edition.is_name t then Some (record { at = at; text = t }) else None
  name_word at _ = None

  abbrev pub name : Part Name
  name = one (λ t. name_word t.span t.word)

  -- `return` at the end of a method, in version 1
  abbrev pub end_word : Span → Word → Option Span
  end_word at word = if edition.early then None else key_word k.Return at word

  abbrev pub end : Part Span
  end = one (λ t. end_word t.span t.word)

  -- `return` as a statement, in version 2
  abbrev pub leave_word : Span → Word → Option Span
  leave_word at word = if edition.early then key_word k.Return at word else None

  abbrev pub leave : Part Span
  leave = one (λ t. leave_word t.span t.word)

  -- the word `finish`, in version 2
  abbrev pub finish_word : Span → Word → Option Span
  finish_word at (word.Name t) = if edition.early && is_finish t then Some at else None
  finish_word at _ = None

  abbrev pub finish : Part Span
  finish = one (λ t. finish_word t.span t.word)

-- ---- numbers and texts

abbrev pub number_word : Word → Option ℤ
number_word (word.Number n) = Some n
number_word _ = None

abbrev pub number : Part ℤ
number = one (λ t. number_word t.word)

abbrev pub text_word : Word → Option (List ℕ)
text_word (word.Text t) = Some t
text_word _ = None

abbrev pub text : Part (List ℕ)
text = one (λ t. text_word t.word)

-- ---- Type = "int" | "bool" | "text" | "map"

abbrev pub kind_of_key : Keyword → Option Kind
kind_of_key k.Int = Some kind.Int
kind_of_key k.Bool = Some kind.Bool
kind_of_key k.Text = Some kind.Text
kind_of_key k.Map = Some kind.Map
kind_of_key _ = None

abbrev pub kind_word : Word → Option Kind
kind_word (word.Key j) = kind_of_key j
kind_word _ = None

abbrev pub type : Part Kind
type = one (λ t. kind_word t.word)

-- ---- Number | Text | "true" | "false" | "empty", as an initial value and as an expression

abbrev pub initial_of_key : Span → Keyword → Option Initial
initial_of_key at k.True = Some (record { at = at; value = lit.Bool true })
initial_of_key at k.False = Some (record { at = at; value = lit.Bool false })
initial_of_key at k.Empty = Some (record { at = at; value = lit.Empty })
initial_of_key at _ = None

abbrev pub initial_word : Span → Word → Option Initial
initial_word at (word.Number n) = Some (record { at = at; value = lit.Number n })
initial_word at (word.Text t) = Some (record { at = at; value = lit.Text t })
initial_word at (word.Key j) = initial_of_key at j
initial_word at _ = None

abbrev pub literal_of_key : Span → Keyword → Option ExprTree
literal_of_key at k.True = Some (Boolean at true)
literal_of_key at k.False = Some (Boolean at false)
literal_of_key at k.Empty = Some (Empty at)
literal_of_key at _ = None

abbrev pub literal_word : Span → Word → Option ExprTree
literal_word at (word.Number n) = Some (Number at n)
literal_word at (word.Text t) = Some (Text at t)
literal_word at (word.Key j) = literal_of_key at j
literal_word at _ = None

abbrev pub literal : Part ExprTree
literal = one (λ t. literal_word t.span t.word)

-- ---- operators

abbrev pub or_op : Sign → Option BinaryOp
or_op s.OrOr = Some op.Or
or_op _ = None

abbrev pub and_op : Sign → Option BinaryOp
and_op s.AndAnd = Some op.And
and_op _ = None

abbrev pub comparison_op : Sign → Option BinaryOp
comparison_op s.EqualsEquals = Some op.Eq
comparison_op s.BangEquals = Some op.Ne
comparison_op s.Less = Some op.Lt
comparison_op s.LessEquals = Some op.Le
comparison_op s.Greater = Some op.Gt
comparison_op s.GreaterEquals = Some op.Ge
comparison_op _ = None

abbrev pub sum_op : Sign → Option BinaryOp
sum_op s.Plus = Some op.Add
sum_op s.Minus = Some op.Sub
sum_op _ = None

abbrev pub product_op : Sign → Option BinaryOp
product_op s.Star = Some op.Mul
product_op s.Slash = Some op.Div
product_op s.Percent = Some op.Rem
product_op _ = None

abbrev pub op_word : (Sign → Option BinaryOp) → Word → Option BinaryOp
op_word f (word.Sign j) = f j
op_word f _ = None

abbrev pub operator : (Sign → Option BinaryOp) → Part BinaryOp
operator f = one (λ t. op_word f t.word)

-- an operator before its operand, with its place
abbrev pub unary_of : Sign → Option UnaryOp
unary_of s.Minus = Some unary.Neg
unary_of s.Bang = Some unary.Not
unary_of _ = None

abbrev pub unary_word : Span → Word → Option (Span × UnaryOp)
unary_word at (word.Sign j) = option_map (λ o. (at, o)) (unary_of j)
unary_word at _ = None

abbrev pub unary_op : Part (Span × UnaryOp)
unary_op = one (λ t. unary_word t.span t.word)
