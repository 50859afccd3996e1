-- The expressions that tokens spell stand where tokens do, and so do their traps.
use Rattle.std.proofs.Common.{◌≡◌, List, [], ◌∷◌, Option, Some, None, fold, subst}
use Rattle.std.specs.Option.{option_map}
use Rattle.wave_base.specs.declared.span.Span.{Span}
use Rattle.mace_lexer.specs.declared.keyword.Keyword.{Keyword}
use Rattle.mace_lexer.specs.declared.keyword.Keyword.TheVariants as k
use Rattle.mace_lexer.specs.declared.sign.Sign.TheVariants as s
use Rattle.mace_lexer.specs.declared.token.Word.{Word}
use Rattle.mace_lexer.specs.declared.token.Word.TheVariants as word
use Rattle.mace_ast.specs.declared.expr.BinaryOp.{BinaryOp}
use Rattle.mace_ast.specs.declared.expr.UnaryOp.{UnaryOp}
use Rattle.mace_ast.specs.declared.name.Name.{Name}
use Rattle.mace_ast.specs.Exprs as e
use Rattle.mace_ast.specs.Exprs.{ExprTree, exprs_of, place_of}
use Rattle.mace_grammar.proofs.Parts.{Each, IfThere, Gives, any, each, either, down, in_parens, next, none_not, perhaps, some_same, token, whole}
use Rattle.mace_grammar.specs.Grammar as g
use Rattle.mace_grammar.specs.Part.{Part}
use Rattle.mace_grammar.specs.Words as w
use Rattle.mace_grammar.specs.Words.{Edition}
use Rattle.resolved_service.specs.View.{no_trees, tree}
use Rattle.type_rules.specs.Exprs.{above_tree, kind_of, read_tree, resolve, resolve_all}
use Rattle.type_rules.specs.Here.{callee_named, variable}
use Rattle.trap_laws.specs.Traps.{tree_traps, trees_traps}
use Rattle.trap_laws.proofs.Words.{Stands, name}
use Rattle.trap_laws.proofs.Placed.{ExprPlaced, and_then, args_placed, binary_placed, both_placed, called_placed, operated, read_placed}

module _ (P : Span → Type 0) where
  abbrev IsPlaced : ExprTree → Type 0
  IsPlaced x = ExprPlaced P x

  read_is : (n : Name) → P n.at → IsPlaced (e.Read n.at n.text)
  read_is n p = record { place = p; traps = λ h. read_placed P n.at (variable h n.text) }

  above_is : (c f : Name) → P c.at → IsPlaced (e.Above c.at c.text f.text)
  above_is c f p = record { place = p; traps = λ h. tt }

  index_is : (m : Name) (key : ExprTree) → P m.at → IsPlaced key → IsPlaced (e.Index m.at m.text key)
  index_is m key p f = record {
    place = p;
    traps = λ h. operated P m.at (trees_traps (tree (read_tree m.at (variable h m.text)) (tree (resolve h key) no_trees))) p
        (both_placed P (read_tree m.at (variable h m.text)) (resolve h key) (read_placed P m.at (variable h m.text)) (f.traps h));
  }

  above_index_is : (c n : Name) (key : ExprTree) → P c.at → IsPlaced key → IsPlaced (e.AboveIndex c.at c.text n.text key)
  above_index_is c n key p f = record {
    place = p;
    traps = λ h. operated P c.at (trees_traps (tree (above_tree h c.at c.text n.text) (tree (resolve h key) no_trees))) p
        (both_placed P (above_tree h c.at c.text n.text) (resolve h key) tt (f.traps h));
  }

  call_is : (f : Name) (args : List ExprTree) → P f.at → Each IsPlaced args → IsPlaced (e.Call f.at f.text (exprs_of args))
  call_is f args p ps = record { place = p; traps = λ h. called_placed P f.at (callee_named h f.text) (resolve_all h (exprs_of args)) p (args_placed P h args ps) }

  child_call_is : (c f : Name) (key : ExprTree) (args : List ExprTree) → P c.at → IsPlaced key → Each IsPlaced args → IsPlaced (e.ChildCall c.at c.text key f.text (exprs_of args))
  child_call_is c f key args p q ps = record {
    place = p;
    traps = λ h. (p, (p, and_then P (tree_traps (resolve h key)) (trees_traps (resolve_all h (exprs_of args))) (q.traps h) (args_placed P h args ps)));
  }

  unary_is : (o : Span × UnaryOp) (x : ExprTree) → P o.0 → IsPlaced x → IsPlaced (e.Unary o.0 o.1 x)
  unary_is o x p f = record {
    place = p;
    traps = λ h. operated P o.0 (trees_traps (tree (resolve h x) no_trees)) p (and_then P (tree_traps (resolve h x)) [] (f.traps h) tt);
  }

  joined_is : (left : ExprTree) (right : BinaryOp × ExprTree) → IsPlaced left → IsPlaced right.1 → IsPlaced (g.binary_of left right)
  joined_is left right f r = record {
    place = f.place;
    traps = λ h. binary_placed P (place_of left) right.0 (kind_of h left) (kind_of h right.1) (resolve h left) (resolve h right.1) f.place (f.traps h) (r.traps h);
  }

  abbrev IsOperand : BinaryOp × ExprTree → Type 0
  IsOperand x = IsPlaced x.1

  fold_is : (left : ExprTree) (others : List (BinaryOp × ExprTree)) → IsPlaced left → Each IsOperand others → IsPlaced (fold g.binary_of left others)
  fold_is left [] f os = f
  fold_is left (o ∷ others) f os = fold_is (g.binary_of left o) others (joined_is left o f os.0) os.1

  compared_is : (left : ExprTree) (right : Option (BinaryOp × ExprTree)) → IsPlaced left → IfThere IsOperand right → IsPlaced (g.comparison_of left right)
  compared_is left None f r = f
  compared_is left (Some right) f r = joined_is left right f r

  -- ---- words

  leaf : (x y : ExprTree) → Some x ≡ Some y → IsPlaced x → IsPlaced y
  leaf x y e f = subst IsPlaced (some_same x y e) f

  literal_key : (at : Span) (j : Keyword) (x : ExprTree) → P at → w.literal_of_key at j ≡ Some x → IsPlaced x
  literal_key at k.True x p e = leaf _ x e (record { place = p; traps = λ h. tt })
  literal_key at k.False x p e = leaf _ x e (record { place = p; traps = λ h. tt })
  literal_key at k.Empty x p e = leaf _ x e (record { place = p; traps = λ h. tt })
  literal_key at _ x p e = absurd (none_not e)

  literal_word : (at : Span) (v : Word) (x : ExprTree) → P at → w.literal_word at v ≡ Some x → IsPlaced x
  literal_word at (word.Number n) x p e = leaf _ x e (record { place = p; traps = λ h. tt })
  literal_word at (word.Text t) x p e = leaf _ x e (record { place = p; traps = λ h. tt })
  literal_word at (word.Key j) x p e = literal_key at j x p e
  literal_word at (word.Name t) x p e = absurd (none_not e)
  literal_word at (word.Sign j) x p e = absurd (none_not e)

  literal : Gives (Stands P) IsPlaced w.literal
  literal = token (λ t. w.literal_word t.span t.word) (λ t x p e. literal_word t.span t.word x p e)

  abbrev IsOp : Span × UnaryOp → Type 0
  IsOp o = P o.0

  op_place : (at : Span) (v : Word) (o : Span × UnaryOp) → P at → w.unary_word at v ≡ Some o → P o.0
  op_place at (word.Sign j) o p e = by (w.unary_of j) e
    where
      by : (u : Option UnaryOp) → option_map (λ x. (at, x)) u ≡ Some o → P o.0
      by (Some x) f = subst IsOp (some_same (at, x) o f) p
      by None f = absurd (none_not f)
  op_place at (word.Name t) o p e = absurd (none_not e)
  op_place at (word.Number n) o p e = absurd (none_not e)
  op_place at (word.Text t) o p e = absurd (none_not e)
  op_place at (word.Key j) o p e = absurd (none_not e)

  unary_op : Gives (Stands P) IsOp w.unary_op
  unary_op = token (λ t. w.unary_word t.span t.word) (λ t o p e. op_place t.span t.word o p e)

  -- ---- productions

  operand : (item : Part ExprTree) (operator : Part BinaryOp) → Gives (Stands P) IsPlaced item → Gives (Stands P) IsOperand (g.operand operator item)
  operand item operator F = next (any operator) (λ o _. next F (λ right f. whole (o, right) f))

  chain : (item : Part ExprTree) (operator : Part BinaryOp) → Gives (Stands P) IsPlaced item → Gives (Stands P) IsPlaced (g.chain item operator)
  chain item operator F = next F (λ first f. next (each (operand item operator F)) (λ others os. whole (fold g.binary_of first others) (fold_is first others f os)))

  module _ (edition : Edition) where
    module _ (u : Part ExprTree) (U : Gives (Stands P) IsPlaced u) where
      product : Gives (Stands P) IsPlaced (g.product edition u)
      product = chain u (w.operator w.product_op) U

      sum : Gives (Stands P) IsPlaced (g.sum edition u)
      sum = chain (g.product edition u) (w.operator w.sum_op) product

      comparison : Gives (Stands P) IsPlaced (g.comparison edition u)
      comparison = next sum (λ left f. next (perhaps (operand (g.sum edition u) (w.operator w.comparison_op) sum)) (λ right r. whole (g.comparison_of left right) (compared_is left right f r)))

      conjunction : Gives (Stands P) IsPlaced (g.conjunction edition u)
      conjunction = chain (g.comparison edition u) (w.operator w.and_op) comparison

      expr : Gives (Stands P) IsPlaced (g.expr edition u)
      expr = chain (g.conjunction edition u) (w.operator w.or_op) conjunction

      arguments : Gives (Stands P) (Each IsPlaced) (g.arguments edition u)
      arguments = in_parens (g.expr edition u) expr

      bracketed : Gives (Stands P) IsPlaced (g.bracketed_expr edition u)
      bracketed = next (any (w.sign s.LeftBracket)) (λ at _. next expr (λ key f. next (any (w.sign s.RightBracket)) (λ to _. whole key f)))

      parenthesized : Gives (Stands P) IsPlaced (g.parenthesized_expr edition u)
      parenthesized = next (any (w.sign s.LeftParen)) (λ at _. next expr (λ inner f. next (any (w.sign s.RightParen)) (λ to _. whole inner f)))

      read : Gives (Stands P) IsPlaced (g.read edition u)
      read = next (name P edition) (λ n p. whole (e.Read n.at n.text) (read_is n p))

      above : Gives (Stands P) IsPlaced (g.above edition u)
      above = next (name P edition) (λ c p. next (any (g.field edition)) (λ f _. whole (e.Above c.at c.text f.text) (above_is c f p)))

      call : Gives (Stands P) IsPlaced (g.call edition u)
      call = next (name P edition) (λ f p. next arguments (λ found ps. whole (e.Call f.at f.text (exprs_of found)) (call_is f found p ps)))

      index : Gives (Stands P) IsPlaced (g.index edition u)
      index = next (name P edition) (λ m p. next bracketed (λ key f. whole (e.Index m.at m.text key) (index_is m key p f)))

      above_index : Gives (Stands P) IsPlaced (g.above_index edition u)
      above_index = next (name P edition) (λ c p. next (any (g.field edition)) (λ n _. next bracketed (λ key f. whole (e.AboveIndex c.at c.text n.text key) (above_index_is c n key p f))))

      child_call : Gives (Stands P) IsPlaced (g.child_call edition u)
      child_call = next (name P edition) (λ c p. next bracketed (λ key q. next (any (g.field edition)) (λ f _. next arguments (λ found ps. whole (e.ChildCall c.at c.text key f.text (exprs_of found)) (child_call_is c f key found p q ps)))))

      primary : Gives (Stands P) IsPlaced (g.primary edition u)
      primary = either literal (either parenthesized (either read (either above (either call (either index (either above_index child_call))))))

      signed : Gives (Stands P) IsPlaced (g.signed_expr edition u)
      signed = next unary_op (λ o p. next U (λ x f. whole (e.Unary o.0 o.1 x) (unary_is o x p f)))

      signed_or_primary : Gives (Stands P) IsPlaced (g.signed_or_primary edition u)
      signed_or_primary = either signed primary

    unary : Gives (Stands P) IsPlaced (g.unary edition)
    unary = down signed_or_primary

    pub any_expr : Gives (Stands P) (ExprPlaced P) (g.any_expr edition)
    unfolding g.any_expr
    any_expr = expr (g.unary edition) unary

    pub any_arguments : Gives (Stands P) (Each (ExprPlaced P)) (g.any_arguments edition)
    unfolding g.any_arguments
    any_arguments = arguments (g.unary edition) unary

    pub any_key : Gives (Stands P) (ExprPlaced P) (g.any_key edition)
    unfolding g.any_key
    any_key = bracketed (g.unary edition) unary
