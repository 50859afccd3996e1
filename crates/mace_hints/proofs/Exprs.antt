-- Expressions lead on.
use Rattle.std.proofs.Common.{[], ◌∷◌, refl, unwrap_or}
use Rattle.std.specs.Prelude.{fold}
use Rattle.wave_base.specs.declared.version.Version.{Version}
use Rattle.mace_lexer.specs.declared.sign.Sign.TheVariants as s
use Rattle.mace_ast.specs.declared.expr.BinaryOp.{BinaryOp}
use Rattle.mace_ast.specs.Exprs as e
use Rattle.mace_ast.specs.Exprs.{ExprTree, exprs_of}
use Rattle.mace_grammar.specs.Part.{Part, ◌or◌}
use Rattle.mace_grammar.specs.Words as w
use Rattle.mace_grammar.specs.Words.{Edition, edition_of}
use Rattle.mace_grammar.specs.Grammar as g
use Rattle.mace_hints.proofs.Leads.{HasSome, Live, live_pure, live_then, live_or, live_maybe, live_many, live_deep, some_left, some_right}
use Rattle.mace_hints.proofs.Tokens.{sign, name, literal, operator, unary_op}

-- ---- lists with commas

pub listed : {A : Type 0} {p q : Part A} → Live p q → Live (g.comma_list p) (g.comma_list q)
listed P = live_then P (λ a b. live_then (live_many (live_then (sign s.Comma) (λ _ _. P)).leads) (λ c d. live_pure (a ∷ c) (b ∷ d)))

pub in_parens : {A : Type 0} {p q : Part A} → Live p q → Live (g.in_parens p) (g.in_parens q)
in_parens P = live_then (sign s.LeftParen) (λ _ _. live_then (live_maybe (listed P).leads) (λ a b. live_then (sign s.RightParen) (λ _ _. live_pure (unwrap_or a []) (unwrap_or b []))))

-- ---- chains

module _ {o : Part BinaryOp} {u v : Part ExprTree} (O : Live o o) (U : Live u v) where
  operand : Live (g.operand o u) (g.operand o v)
  operand = live_then O (λ a b. live_then U (λ c d. live_pure (a, c) (b, d)))

  chain : Live (g.chain u o) (g.chain v o)
  chain = live_then U (λ a b. live_then (live_many operand.leads) (λ c d. live_pure (fold g.binary_of a c) (fold g.binary_of b d)))

module _ (version : Version) where
  abbrev edition : Edition
  edition = edition_of version

  pub field : Live (g.field edition) (g.field edition)
  field = live_then (sign s.Dot) (λ _ _. name version)

  module _ (u v : Part ExprTree) (U : Live u v) where
    product : Live (g.product edition u) (g.product edition v)
    product = chain (operator w.product_op s.Star refl) U

    sum : Live (g.sum edition u) (g.sum edition v)
    sum = chain (operator w.sum_op s.Plus refl) product

    comparison : Live (g.comparison edition u) (g.comparison edition v)
    comparison = live_then sum (λ a b. live_then (live_maybe (operand (operator w.comparison_op s.Less refl) sum).leads) (λ c d. live_pure (g.comparison_of a c) (g.comparison_of b d)))

    conjunction : Live (g.conjunction edition u) (g.conjunction edition v)
    conjunction = chain (operator w.and_op s.AndAnd refl) comparison

    expr : Live (g.expr edition u) (g.expr edition v)
    expr = chain (operator w.or_op s.OrOr refl) conjunction

    arguments : Live (g.arguments edition u) (g.arguments edition v)
    arguments = in_parens expr

    bracketed : Live (g.bracketed_expr edition u) (g.bracketed_expr edition v)
    bracketed = live_then (sign s.LeftBracket) (λ _ _. live_then expr (λ a b. live_then (sign s.RightBracket) (λ _ _. live_pure a b)))

    parenthesized : Live (g.parenthesized_expr edition u) (g.parenthesized_expr edition v)
    parenthesized = live_then (sign s.LeftParen) (λ _ _. live_then expr (λ a b. live_then (sign s.RightParen) (λ _ _. live_pure a b)))

    read : Live (g.read edition u) (g.read edition v)
    read = live_then (name version) (λ a b. live_pure (e.Read a.at a.text) (e.Read b.at b.text))

    above : Live (g.above edition u) (g.above edition v)
    above = live_then (name version) (λ a b. live_then field (λ c d. live_pure (e.Above a.at a.text c.text) (e.Above b.at b.text d.text)))

    call : Live (g.call edition u) (g.call edition v)
    call = live_then (name version) (λ a b. live_then arguments (λ c d. live_pure (e.Call a.at a.text (exprs_of c)) (e.Call b.at b.text (exprs_of d))))

    index : Live (g.index edition u) (g.index edition v)
    index = live_then (name version) (λ a b. live_then bracketed (λ c d. live_pure (e.Index a.at a.text c) (e.Index b.at b.text d)))

    above_index : Live (g.above_index edition u) (g.above_index edition v)
    above_index = live_then (name version) (λ a b. live_then field (λ c d. live_then bracketed (λ i j. live_pure (e.AboveIndex a.at a.text c.text i) (e.AboveIndex b.at b.text d.text j))))

    child_call : Live (g.child_call edition u) (g.child_call edition v)
    child_call = live_then (name version) (λ a b. live_then bracketed (λ i j. live_then field (λ c d. live_then arguments (λ x y. live_pure (e.ChildCall a.at a.text i c.text (exprs_of x)) (e.ChildCall b.at b.text j d.text (exprs_of y))))))

    primary : Live (g.primary edition u) (g.primary edition v)
    primary = live_or literal (live_or parenthesized (live_or read (live_or above (live_or call (live_or index (live_or above_index child_call))))))

    signed : Live (g.signed_expr edition u) (g.signed_expr edition v)
    signed = live_then unary_op (λ a b. live_then U (λ c d. live_pure (e.Unary a.0 a.1 c) (e.Unary b.0 b.1 d)))

    signed_or_primary : Live (g.signed_or_primary edition u) (g.signed_or_primary edition v)
    signed_or_primary = live_or signed primary

  some_primary : (u : Part ExprTree) → HasSome (g.signed_or_primary edition u)
  some_primary u = some_right (g.signed_expr edition u) (g.primary edition u) (some_left w.literal (g.parenthesized_expr edition u or g.read edition u or g.above edition u or g.call edition u or g.index edition u or g.above_index edition u or g.child_call edition u) literal.some)

  unary : Live (g.unary edition) (g.unary edition)
  unary = live_deep (g.signed_or_primary edition) (λ p q P x. (signed_or_primary p q (record { leads = P; some = x })).leads) some_primary

  pub any_expr : Live (g.any_expr edition) (g.any_expr edition)
  unfolding g.any_expr
  any_expr = expr (g.unary edition) (g.unary edition) unary

  pub any_arguments : Live (g.any_arguments edition) (g.any_arguments edition)
  unfolding g.any_arguments
  any_arguments = arguments (g.unary edition) (g.unary edition) unary

  pub any_key : Live (g.any_key edition) (g.any_key edition)
  unfolding g.any_key
  any_key = bracketed (g.unary edition) (g.unary edition) unary
