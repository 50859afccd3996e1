-- Parts of the canonical words that the printer writes each by a call of its own.
use Rattle.std.specs.Prelude.{ℕ, ◌+◌, Bool, true, false, ◌==◌, if◌then◌else◌, List, [], Option, Some, None}
use Rattle.mace_lexer.specs.declared.token.Word.{Word}
use Rattle.mace_lexer.specs.declared.keyword.Keyword.TheVariants as k
use Rattle.mace_lexer.specs.declared.sign.Sign.{Sign}
use Rattle.mace_lexer.specs.declared.sign.Sign.TheVariants as s
use Rattle.mace_ast.specs.declared.expr.BinaryOp.{BinaryOp}
use Rattle.mace_ast.specs.Exprs.{ExprTree}
use Rattle.mace_ast.specs.Stmts.{StmtTree}
use Rattle.mace_printer.specs.Canon.{◌⧺◌, key, sign, name, level_of, left_level_of, sign_of, expr_words, whole_words, index_words, braced_words}

-- before all items but the first
abbrev pub comma_before : ℕ → List Word
comma_before i = if i == 0 then [] else sign s.Comma

abbrev pub sign_if : Bool → Sign → List Word
sign_if true j = sign j
sign_if false j = []

abbrev pub above_words : List ℕ → List ℕ → List Word
above_words c x = name c ⧺ sign s.Dot ⧺ name x

-- `C[k].`
abbrev pub child_key_words : List ℕ → ExprTree → List Word
child_key_words c place = name c ⧺ index_words place ⧺ sign s.Dot

abbrev pub ended_words : ExprTree → List Word
ended_words value = whole_words value ⧺ sign s.Semicolon

-- a binary node in its two halves
abbrev pub left_words : Bool → BinaryOp → ExprTree → List Word
left_words paren o left = sign_if paren s.LeftParen ⧺ expr_words left (left_level_of o) ⧺ sign (sign_of o)

abbrev pub right_words : Bool → BinaryOp → ExprTree → List Word
right_words paren o right = expr_words right (level_of o + 1) ⧺ sign_if paren s.RightParen

-- what stands before the block of a loop over numbers
abbrev pub range_words : List ℕ → ExprTree → ExprTree → List Word
range_words x low high = key k.For ⧺ name x ⧺ key k.In ⧺ whole_words low ⧺ key k.To ⧺ whole_words high

abbrev pub maybe_else : Option (List StmtTree) → List Word
maybe_else None = []
maybe_else (Some body) = key k.Else ⧺ braced_words body

-- what stands before the fields of a context
abbrev pub head_words : List ℕ → List Word
head_words x = key k.Context ⧺ name x ⧺ sign s.LeftBracket ⧺ key k.Int ⧺ sign s.RightBracket ⧺ sign s.LeftBrace
