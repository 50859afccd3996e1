-- No fewer words spell a statement than its canonical ones.
use Rattle.std.proofs.Common.{◌≡◌, ◌≤◌, ◌+◌, ℕ, zero, suc, inl, inr, List, [], ◌∷◌, ◌++◌, length, Option, Some, None, refl, sym, ap, subst, arith, length-append}
use Rattle.mace_lexer.specs.declared.token.Token.{Token}
use Rattle.mace_lexer.specs.declared.token.Word.{Word}
use Rattle.mace_lexer.specs.declared.keyword.Keyword.TheVariants as k
use Rattle.mace_lexer.specs.declared.sign.Sign.TheVariants as s
use Rattle.mace_ast.specs.declared.name.Name.{Name}
use Rattle.mace_ast.specs.Exprs.{ExprTree}
use Rattle.mace_ast.specs.Stmts.{StmtTree, stmts_of, else_of}
use Rattle.mace_grammar.specs.Part.{Part, ◌>>◌, SpellsAll, SpellsMaybe, nested_part}
use Rattle.mace_grammar.specs.Words as w
use Rattle.mace_grammar.specs.Words.{Edition}
use Rattle.mace_grammar.specs.Grammar as g
use Rattle.mace_printer.specs.Canon as c
use Rattle.mace_printer.specs.Canon.{whole_words}
use Rattle.mace_printer.proofs.LeastExprs.{Least, closed}
use Rattle.mace_printer.proofs.LeastExprs

module _ (edition : Edition) where
  abbrev any_expr_least : Least (g.any_expr edition) (λ a. length (whole_words a))
  any_expr_least = LeastExprs.any_expr_least edition

  abbrev any_arguments_least : Least (g.any_arguments edition) (λ xs. 2 + length (c.listed_words whole_words xs))
  any_arguments_least = LeastExprs.any_arguments_least edition

  abbrev any_key_least : Least (g.any_key edition) (λ a. 2 + length (whole_words a))
  any_key_least = LeastExprs.any_key_least edition

  -- ---- statements

  target_least : (x : Name) (inner : Option Name) (ts : List Token) → SpellsMaybe (g.field edition) inner ts → length (c.target_words (g.target x inner)) ≤ 1 + length ts
  target_least x None ts h = omega arith
  target_least x (Some f) ts h = omega (arith, LeastExprs.field_least edition f ts h)

  maybe_key_least : (place : Option ExprTree) (ts : List Token) → SpellsMaybe (g.any_key edition) place ts → length (c.maybe_index place) ≤ length ts
  maybe_key_least None ts h = omega arith
  maybe_key_least (Some x) ts h = omega (arith, length-append {A = Word}, any_key_least x ts h)

  let_least : Least (g.let_stmt edition) (λ a. length (c.stmt_words a))
  let_least a ts h =
      let (x1, f1, b1, e1, k1, r1) = h in
      let (x2, f2, b2, e2, k2, r2) = r1 in
      let (x3, f3, b3, e3, k3, r3) = r2 in
      let (x4, f4, b4, e4, k4, r4) = r3 in
      let (x5, f5, b5, e5, k5, r5) = r4 in
      subst (λ a. length (c.stmt_words a) ≤ length ts) (sym r5.0)
      (omega (arith, closed, length-append {A = Word}, length-append {A = Token}, ap length e1, ap length k1.1, ap length e2, ap length k2.1, ap length e3, ap length k3.1, ap length e4, any_expr_least x4 f4 k4, ap length e5, ap length k5.1, ap length r5.1))

  require_least : Least (g.require_stmt edition) (λ a. length (c.stmt_words a))
  require_least a ts h =
      let (x1, f1, b1, e1, k1, r1) = h in
      let (x2, f2, b2, e2, k2, r2) = r1 in
      let (x3, f3, b3, e3, k3, r3) = r2 in
      subst (λ a. length (c.stmt_words a) ≤ length ts) (sym r3.0)
      (omega (arith, closed, length-append {A = Word}, length-append {A = Token}, ap length e1, ap length k1.1, ap length e2, any_expr_least x2 f2 k2, ap length e3, ap length k3.1, ap length r3.1))

  send_least : Least (g.send_stmt edition) (λ a. length (c.stmt_words a))
  send_least a ts h =
      let (x1, f1, b1, e1, k1, r1) = h in
      let (x2, f2, b2, e2, k2, r2) = r1 in
      let (x3, f3, b3, e3, k3, r3) = r2 in
      let (x4, f4, b4, e4, k4, r4) = r3 in
      let (x5, f5, b5, e5, k5, r5) = r4 in
      subst (λ a. length (c.stmt_words a) ≤ length ts) (sym r5.0)
      (omega (arith, closed, length-append {A = Word}, length-append {A = Token}, ap length e1, ap length k1.1, ap length e2, ap length k2.1, ap length e3, ap length k3.1, ap length e4, any_expr_least x4 f4 k4, ap length e5, ap length k5.1, ap length r5.1))

  spawn_least : Least (g.spawn_stmt edition) (λ a. length (c.stmt_words a))
  spawn_least a ts h =
      let (x1, f1, b1, e1, k1, r1) = h in
      let (x2, f2, b2, e2, k2, r2) = r1 in
      let (x3, f3, b3, e3, k3, r3) = r2 in
      let (x4, f4, b4, e4, k4, r4) = r3 in
      subst (λ a. length (c.stmt_words a) ≤ length ts) (sym r4.0)
      (omega (arith, closed, length-append {A = Word}, length-append {A = Token}, ap length e1, ap length k1.1, ap length e2, ap length k2.1, ap length e3, any_arguments_least x3 f3 k3, ap length e4, ap length k4.1, ap length r4.1, length-append (c.listed_words whole_words x3) (c.sign s.RightParen)))

  drop_least : Least (g.drop_stmt edition) (λ a. length (c.stmt_words a))
  drop_least a ts h =
      let (x1, f1, b1, e1, k1, r1) = h in
      let (x2, f2, b2, e2, k2, r2) = r1 in
      let (x3, f3, b3, e3, k3, r3) = r2 in
      let (x4, f4, b4, e4, k4, r4) = r3 in
      let (x5, f5, b5, e5, k5, r5) = r4 in
      subst (λ a. length (c.stmt_words a) ≤ length ts) (sym r5.0)
      (omega (arith, closed, length-append {A = Word}, length-append {A = Token}, ap length e1, ap length k1.1, ap length e2, ap length k2.1, ap length e3, target_least x2 x3 f3 k3, ap length e4, any_key_least x4 f4 k4, ap length e5, ap length k5.1, ap length r5.1, length-append (whole_words x4) (c.sign s.RightBracket), length-append (c.index_words x4) (c.sign s.Semicolon), length-append (c.target_words (g.target x2 x3)) (c.index_words x4 ++ c.sign s.Semicolon)))

  set_least : Least (g.set_stmt edition) (λ a. length (c.stmt_words a))
  set_least a ts h =
      let (x1, f1, b1, e1, k1, r1) = h in
      let (x2, f2, b2, e2, k2, r2) = r1 in
      let (x3, f3, b3, e3, k3, r3) = r2 in
      let (x4, f4, b4, e4, k4, r4) = r3 in
      let (x5, f5, b5, e5, k5, r5) = r4 in
      let (x6, f6, b6, e6, k6, r6) = r5 in
      subst (λ a. length (c.stmt_words a) ≤ length ts) (sym r6.0)
      (omega (arith, closed, length-append {A = Word}, length-append {A = Token}, ap length e1, ap length k1.1, ap length e2, target_least x1 x2 f2 k2, ap length e3, maybe_key_least x3 f3 k3, ap length e4, ap length k4.1, ap length e5, any_expr_least x5 f5 k5, ap length e6, ap length k6.1, ap length r6.1))

  call_stmt_least : Least (g.call_stmt edition) (λ a. length (c.stmt_words a))
  call_stmt_least a ts h =
      let (x1, f1, b1, e1, k1, r1) = h in
      let (x2, f2, b2, e2, k2, r2) = r1 in
      let (x3, f3, b3, e3, k3, r3) = r2 in
      subst (λ a. length (c.stmt_words a) ≤ length ts) (sym r3.0)
      (omega (arith, closed, length-append {A = Word}, length-append {A = Token}, ap length e1, ap length k1.1, ap length e2, any_arguments_least x2 f2 k2, ap length e3, ap length k3.1, ap length r3.1, length-append (c.listed_words whole_words x2) (c.sign s.RightParen)))

  child_call_stmt_least : Least (g.child_call_stmt edition) (λ a. length (c.stmt_words a))
  child_call_stmt_least a ts h =
      let (x1, f1, b1, e1, k1, r1) = h in
      let (x2, f2, b2, e2, k2, r2) = r1 in
      let (x3, f3, b3, e3, k3, r3) = r2 in
      let (x4, f4, b4, e4, k4, r4) = r3 in
      let (x5, f5, b5, e5, k5, r5) = r4 in
      subst (λ a. length (c.stmt_words a) ≤ length ts) (sym r5.0)
      (omega (arith, closed, length-append {A = Word}, length-append {A = Token}, ap length e1, ap length k1.1, ap length e2, any_key_least x2 f2 k2, ap length e3, LeastExprs.field_least edition x3 f3 k3, ap length e4, any_arguments_least x4 f4 k4, ap length e5, ap length k5.1, ap length r5.1, length-append (whole_words x2) (c.sign s.RightBracket), length-append (c.call_words x3.text x4) (c.sign s.Semicolon), length-append (c.listed_words whole_words x4) (c.sign s.RightParen)))

  maybe_expr_least : (value : Option ExprTree) (ts : List Token) → SpellsMaybe (g.any_expr edition) value ts → length (c.maybe_words value) ≤ length ts
  maybe_expr_least None ts h = omega arith
  maybe_expr_least (Some x) ts h = any_expr_least x ts h

  return_least : Least (g.return_stmt edition) (λ a. length (c.stmt_words a))
  return_least a ts h =
      let (x1, f1, b1, e1, k1, r1) = h in
      let (x2, f2, b2, e2, k2, r2) = r1 in
      let (x3, f3, b3, e3, k3, r3) = r2 in
      subst (λ a. length (c.stmt_words a) ≤ length ts) (sym r3.0)
      (omega (arith, closed, length-append {A = Word}, length-append {A = Token}, ap length e1, ap length k1.1, ap length e2, maybe_expr_least x2 f2 k2, ap length e3, ap length k3.1, ap length r3.1))

  finish_least : Least (g.finish_stmt edition) (λ a. length (c.stmt_words a))
  finish_least a ts h =
      let (x1, f1, b1, e1, k1, r1) = h in
      let (x2, f2, b2, e2, k2, r2) = r1 in
      let (x3, f3, b3, e3, k3, r3) = r2 in
      subst (λ a. length (c.stmt_words a) ≤ length ts) (sym r3.0)
      (omega (arith, closed, length-append {A = Word}, length-append {A = Token}, ap length e1, ap length k1.1, ap length e2, maybe_expr_least x2 f2 k2, ap length e3, ap length k3.1, ap length r3.1))

  stmts_same : (xs : List StmtTree) → c.stmts_words (stmts_of xs) ≡ c.body_words xs
  stmts_same [] = refl
  stmts_same (x ∷ xs) = ap (λ ws. c.stmt_words x ++ ws) (stmts_same xs)

  module _ (stmt : Part StmtTree) (least : Least stmt (λ a. length (c.stmt_words a))) where
    many_least : (xs : List StmtTree) (ts : List Token) → SpellsAll stmt xs ts → length (c.body_words xs) ≤ length ts
    many_least = LeastExprs.all_least stmt c.stmt_words least

    pub block_least : Least (g.block edition stmt) (λ a. 2 + length (c.body_words a))
    block_least a ts h =
        let (x1, f1, b1, e1, k1, r1) = h in
        let (x2, f2, b2, e2, k2, r2) = r1 in
        let (x3, f3, b3, e3, k3, r3) = r2 in
        subst (λ a. 2 + length (c.body_words a) ≤ length ts) (sym r3.0)
        (omega (arith, closed, length-append {A = Word}, length-append {A = Token}, ap length e1, ap length k1.1, ap length e2, many_least x2 f2 k2, ap length e3, ap length k3.1, ap length r3.1))

    else_least : (other : Option (List StmtTree)) (ts : List Token) → SpellsMaybe (w.key k.Else >> (g.block edition) stmt) other ts → length (c.else_words (else_of other)) ≤ length ts
    else_least None ts h = omega arith
    else_least (Some xs) ts h =
        let (at, f1, b1, e1, k1, r1) = h in
        omega (arith, length-append {A = Word}, length-append {A = Token}, block_least xs b1 r1, ap length (stmts_same xs), ap length e1, ap length k1.1)

    if_least : Least (g.if_stmt edition stmt) (λ a. length (c.stmt_words a))
    if_least a ts h =
        let (x1, f1, b1, e1, k1, r1) = h in
        let (x2, f2, b2, e2, k2, r2) = r1 in
        let (x3, f3, b3, e3, k3, r3) = r2 in
        let (x4, f4, b4, e4, k4, r4) = r3 in
        subst (λ a. length (c.stmt_words a) ≤ length ts) (sym r4.0)
        (omega (arith, closed, length-append {A = Word}, length-append {A = Token}, ap length e1, ap length k1.1, ap length e2, any_expr_least x2 f2 k2, ap length e3, block_least x3 f3 k3, ap length e4, else_least x4 f4 k4, ap length r4.1, ap length (stmts_same x3)))

    while_least : Least (g.while_stmt edition stmt) (λ a. length (c.stmt_words a))
    while_least a ts h =
        let (x1, f1, b1, e1, k1, r1) = h in
        let (x2, f2, b2, e2, k2, r2) = r1 in
        let (x3, f3, b3, e3, k3, r3) = r2 in
        subst (λ a. length (c.stmt_words a) ≤ length ts) (sym r3.0)
        (omega (arith, closed, length-append {A = Word}, length-append {A = Token}, ap length e1, ap length k1.1, ap length e2, any_expr_least x2 f2 k2, ap length e3, block_least x3 f3 k3, ap length r3.1, ap length (stmts_same x3)))

    for_least : Least (g.for_stmt edition stmt) (λ a. length (c.stmt_words a))
    for_least a ts h =
        let (x1, f1, b1, e1, k1, r1) = h in
        let (x2, f2, b2, e2, k2, r2) = r1 in
        let (x3, f3, b3, e3, k3, r3) = r2 in
        let (x4, f4, b4, e4, k4, r4) = r3 in
        let (x5, f5, b5, e5, k5, r5) = r4 in
        let (x6, f6, b6, e6, k6, r6) = r5 in
        let (x7, f7, b7, e7, k7, r7) = r6 in
        subst (λ a. length (c.stmt_words a) ≤ length ts) (sym r7.0)
        (omega (arith, closed, length-append {A = Word}, length-append {A = Token}, ap length e1, ap length k1.1, ap length e2, ap length k2.1, ap length e3, ap length k3.1, ap length e4, any_expr_least x4 f4 k4, ap length e5, ap length k5.1, ap length e6, any_expr_least x6 f6 k6, ap length e7, block_least x7 f7 k7, ap length r7.1, ap length (stmts_same x7)))

    any_stmt_least : Least (g.any_stmt edition stmt) (λ a. length (c.stmt_words a))
    any_stmt_least a ts (inl h) = let_least a ts h
    any_stmt_least a ts (inr (inl h)) = if_least a ts h
    any_stmt_least a ts (inr (inr (inl h))) = while_least a ts h
    any_stmt_least a ts (inr (inr (inr (inl h)))) = for_least a ts h
    any_stmt_least a ts (inr (inr (inr (inr (inl h))))) = return_least a ts h
    any_stmt_least a ts (inr (inr (inr (inr (inr (inl h)))))) = finish_least a ts h
    any_stmt_least a ts (inr (inr (inr (inr (inr (inr (inl h))))))) = require_least a ts h
    any_stmt_least a ts (inr (inr (inr (inr (inr (inr (inr (inl h)))))))) = send_least a ts h
    any_stmt_least a ts (inr (inr (inr (inr (inr (inr (inr (inr (inl h))))))))) = spawn_least a ts h
    any_stmt_least a ts (inr (inr (inr (inr (inr (inr (inr (inr (inr (inl h)))))))))) = drop_least a ts h
    any_stmt_least a ts (inr (inr (inr (inr (inr (inr (inr (inr (inr (inr (inl h))))))))))) = set_least a ts h
    any_stmt_least a ts (inr (inr (inr (inr (inr (inr (inr (inr (inr (inr (inr (inl h)))))))))))) = call_stmt_least a ts h
    any_stmt_least a ts (inr (inr (inr (inr (inr (inr (inr (inr (inr (inr (inr (inr h)))))))))))) = child_call_stmt_least a ts h

  nested_stmt_least : (n : ℕ) → Least (nested_part (g.any_stmt edition) n) (λ a. length (c.stmt_words a))
  nested_stmt_least zero a ts h = absurd h
  nested_stmt_least (suc n) a ts h = any_stmt_least (nested_part (g.any_stmt edition) n) (nested_stmt_least n) a ts h

  stmt_least : Least (g.stmt edition) (λ a. length (c.stmt_words a))
  stmt_least a ts h = nested_stmt_least h.0 a ts h.1

  pub stmts_least : Least (g.stmts edition) (λ xs. length (c.body_words xs))
  unfolding g.stmts
  stmts_least = many_least (g.stmt edition) stmt_least

  pub any_block_least : Least (g.any_block edition) (λ xs. 2 + length (c.body_words xs))
  unfolding g.any_block
  any_block_least = block_least (g.stmt edition) stmt_least
