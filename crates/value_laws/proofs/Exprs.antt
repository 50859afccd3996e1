-- The expressions that tokens spell are bounded where the numbers and texts of the tokens are within the limits.
use Rattle.std.proofs.Common.{◌≡◌, List, [], ◌∷◌, Option, Some, None, FitsSigned, w64, fold, subst}
use Rattle.std.proofs.lemmas.List.Elements.{All-nil}
use Rattle.wave_base.proofs.Places.{table_none}
use Rattle.wave_base.specs.declared.span.Span.{Span}
use Rattle.wave_base.specs.Text.{IsText}
use Rattle.mace_lexer.specs.declared.keyword.Keyword.{Keyword}
use Rattle.mace_lexer.specs.declared.keyword.Keyword.TheVariants as k
use Rattle.mace_lexer.specs.declared.sign.Sign.TheVariants as s
use Rattle.mace_lexer.specs.declared.token.Token.{Token}
use Rattle.mace_lexer.specs.declared.token.Word.{Word}
use Rattle.mace_lexer.specs.declared.token.Word.TheVariants as word
use Rattle.mace_ast.specs.declared.expr.BinaryOp.{BinaryOp}
use Rattle.mace_ast.specs.declared.expr.UnaryOp.{UnaryOp}
use Rattle.mace_ast.specs.declared.name.Name.{Name}
use Rattle.mace_ast.specs.Exprs as e
use Rattle.mace_ast.specs.Exprs.{ExprTree, exprs_of, place_of}
use Rattle.mace_grammar.specs.Grammar as g
use Rattle.mace_grammar.specs.Part.{Part}
use Rattle.mace_grammar.specs.Words as w
use Rattle.mace_grammar.specs.Words.{Edition}
use Rattle.type_rules.specs.Exprs.{kind_of, resolve}
use Rattle.type_rules.specs.Here.{callee_named, variable}
use Rattle.value_laws.proofs.Bounded.{IsExpr, args_bounded, binary_bounded, called_bounded, read_bounded}
use Rattle.mace_grammar.proofs.Parts.{Each, IfThere, Gives, any, each, either, down, in_parens, next, none_not, perhaps, some_same, token, whole}

-- its number or its text is within the limits
abbrev pub IsWord : Word → Type 0
IsWord (word.Number n) = FitsSigned w64 n
IsWord (word.Text t) = IsText t
IsWord _ = Unit {0}

abbrev pub IsToken : Token → Type 0
IsToken t = IsWord t.word

-- ---- nodes

read_is : (n : Name) → IsExpr (e.Read n.at n.text)
read_is n = record { so = λ h. read_bounded n.at (variable h n.text) }

above_is : (c f : Name) → IsExpr (e.Above c.at c.text f.text)
above_is c f = record { so = λ h. tt }

index_is : (m : Name) (key : ExprTree) → IsExpr key → IsExpr (e.Index m.at m.text key)
index_is m key f = record { so = λ h. (read_bounded m.at (variable h m.text), (f.so h, tt)) }

above_index_is : (c n : Name) (key : ExprTree) → IsExpr key → IsExpr (e.AboveIndex c.at c.text n.text key)
above_index_is c n key f = record { so = λ h. (tt, (f.so h, tt)) }

call_is : (f : Name) (args : List ExprTree) → Each IsExpr args → IsExpr (e.Call f.at f.text (exprs_of args))
call_is f args fs = record { so = λ h. called_bounded f.at (callee_named h f.text) _ (args_bounded h args fs) }

child_call_is : (c f : Name) (key : ExprTree) (args : List ExprTree) → IsExpr key → Each IsExpr args → IsExpr (e.ChildCall c.at c.text key f.text (exprs_of args))
child_call_is c f key args q fs = record { so = λ h. (q.so h, args_bounded h args fs) }

unary_is : (o : Span × UnaryOp) (x : ExprTree) → IsExpr x → IsExpr (e.Unary o.0 o.1 x)
unary_is o x f = record { so = λ h. (f.so h, tt) }

joined_is : (left : ExprTree) (right : BinaryOp × ExprTree) → IsExpr left → IsExpr right.1 → IsExpr (g.binary_of left right)
joined_is left right f r = record { so = λ h. binary_bounded (place_of left) right.0 (kind_of h left) (kind_of h right.1) (resolve h left) (resolve h right.1) (f.so h) (r.so h) }

abbrev IsOperand : BinaryOp × ExprTree → Type 0
IsOperand x = IsExpr x.1

fold_is : (left : ExprTree) (others : List (BinaryOp × ExprTree)) → IsExpr left → Each IsOperand others → IsExpr (fold g.binary_of left others)
fold_is left [] f os = f
fold_is left (o ∷ others) f os = fold_is (g.binary_of left o) others (joined_is left o f os.0) os.1

compared_is : (left : ExprTree) (right : Option (BinaryOp × ExprTree)) → IsExpr left → IfThere IsOperand right → IsExpr (g.comparison_of left right)
compared_is left None f r = f
compared_is left (Some right) f r = joined_is left right f r

-- ---- words

leaf : (x y : ExprTree) → Some x ≡ Some y → IsExpr x → IsExpr y
leaf x y e f = subst IsExpr (some_same x y e) f

literal_key : (at : Span) (j : Keyword) (x : ExprTree) → w.literal_of_key at j ≡ Some x → IsExpr x
literal_key at k.True x e = leaf _ x e (record { so = λ h. tt })
literal_key at k.False x e = leaf _ x e (record { so = λ h. tt })
literal_key at k.Empty x e = leaf _ x e (record { so = λ h. (table_none, All-nil (λ p. FitsSigned w64 p.0 × FitsSigned w64 p.1)) })
literal_key at _ x e = absurd (none_not e)

literal_word : (at : Span) (v : Word) (x : ExprTree) → IsWord v → w.literal_word at v ≡ Some x → IsExpr x
literal_word at (word.Number n) x f e = leaf _ x e (record { so = λ h. f })
literal_word at (word.Text t) x f e = leaf _ x e (record { so = λ h. f })
literal_word at (word.Key j) x f e = literal_key at j x e
literal_word at (word.Name t) x f e = absurd (none_not e)
literal_word at (word.Sign j) x f e = absurd (none_not e)

literal : Gives IsToken IsExpr w.literal
literal = token (λ t. w.literal_word t.span t.word) (λ t x f e. literal_word t.span t.word x f e)

-- ---- productions

operand : (item : Part ExprTree) (operator : Part BinaryOp) → Gives IsToken IsExpr item → Gives IsToken IsOperand (g.operand operator item)
operand item operator F = next (any operator) (λ o _. next F (λ right f. whole (o, right) f))

chain : (item : Part ExprTree) (operator : Part BinaryOp) → Gives IsToken IsExpr item → Gives IsToken IsExpr (g.chain item operator)
chain item operator F = next F (λ first f. next (each (operand item operator F)) (λ others os. whole (fold g.binary_of first others) (fold_is first others f os)))

module _ (edition : Edition) where
  module _ (u : Part ExprTree) (U : Gives IsToken IsExpr u) where
    product : Gives IsToken IsExpr (g.product edition u)
    product = chain u (w.operator w.product_op) U

    sum : Gives IsToken IsExpr (g.sum edition u)
    sum = chain (g.product edition u) (w.operator w.sum_op) product

    comparison : Gives IsToken IsExpr (g.comparison edition u)
    comparison = next sum (λ left f. next (perhaps (operand (g.sum edition u) (w.operator w.comparison_op) sum)) (λ right r. whole (g.comparison_of left right) (compared_is left right f r)))

    conjunction : Gives IsToken IsExpr (g.conjunction edition u)
    conjunction = chain (g.comparison edition u) (w.operator w.and_op) comparison

    expr : Gives IsToken IsExpr (g.expr edition u)
    expr = chain (g.conjunction edition u) (w.operator w.or_op) conjunction

    arguments : Gives IsToken (Each IsExpr) (g.arguments edition u)
    arguments = in_parens (g.expr edition u) expr

    bracketed : Gives IsToken IsExpr (g.bracketed_expr edition u)
    bracketed = next (any (w.sign s.LeftBracket)) (λ at _. next expr (λ key f. next (any (w.sign s.RightBracket)) (λ to _. whole key f)))

    parenthesized : Gives IsToken IsExpr (g.parenthesized_expr edition u)
    parenthesized = next (any (w.sign s.LeftParen)) (λ at _. next expr (λ inner f. next (any (w.sign s.RightParen)) (λ to _. whole inner f)))

    read : Gives IsToken IsExpr (g.read edition u)
    read = next (any (w.name edition)) (λ n _. whole (e.Read n.at n.text) (read_is n))

    above : Gives IsToken IsExpr (g.above edition u)
    above = next (any (w.name edition)) (λ c _. next (any (g.field edition)) (λ f _. whole (e.Above c.at c.text f.text) (above_is c f)))

    call : Gives IsToken IsExpr (g.call edition u)
    call = next (any (w.name edition)) (λ f _. next arguments (λ found fs. whole (e.Call f.at f.text (exprs_of found)) (call_is f found fs)))

    index : Gives IsToken IsExpr (g.index edition u)
    index = next (any (w.name edition)) (λ m _. next bracketed (λ key f. whole (e.Index m.at m.text key) (index_is m key f)))

    above_index : Gives IsToken IsExpr (g.above_index edition u)
    above_index = next (any (w.name edition)) (λ c _. next (any (g.field edition)) (λ n _. next bracketed (λ key f. whole (e.AboveIndex c.at c.text n.text key) (above_index_is c n key f))))

    child_call : Gives IsToken IsExpr (g.child_call edition u)
    child_call = next (any (w.name edition)) (λ c _. next bracketed (λ key q. next (any (g.field edition)) (λ f _. next arguments (λ found fs. whole (e.ChildCall c.at c.text key f.text (exprs_of found)) (child_call_is c f key found q fs)))))

    primary : Gives IsToken IsExpr (g.primary edition u)
    primary = either literal (either parenthesized (either read (either above (either call (either index (either above_index child_call))))))

    signed : Gives IsToken IsExpr (g.signed_expr edition u)
    signed = next (any w.unary_op) (λ o _. next U (λ x f. whole (e.Unary o.0 o.1 x) (unary_is o x f)))

    signed_or_primary : Gives IsToken IsExpr (g.signed_or_primary edition u)
    signed_or_primary = either signed primary

  unary : Gives IsToken IsExpr (g.unary edition)
  unary = down signed_or_primary

  pub any_expr : Gives IsToken IsExpr (g.any_expr edition)
  unfolding g.any_expr
  any_expr = expr (g.unary edition) unary

  pub any_arguments : Gives IsToken (Each IsExpr) (g.any_arguments edition)
  unfolding g.any_arguments
  any_arguments = arguments (g.unary edition) unary

  pub any_key : Gives IsToken IsExpr (g.any_key edition)
  unfolding g.any_key
  any_key = bracketed (g.unary edition) unary
