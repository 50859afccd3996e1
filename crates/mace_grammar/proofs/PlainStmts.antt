-- The readers of statements read erased tokens as they read the tokens, but for the places.
use Rattle.std.proofs.Common.{◌≡◌, ℕ, List, [], ◌∷◌, map, Option, Some, None, refl, ◌∙◌, ap}
use Rattle.std.specs.Option.{option_map}
use Rattle.wave_base.specs.declared.span.Span.{Span}
use Rattle.mace_lexer.specs.declared.keyword.Keyword.TheVariants as k
use Rattle.mace_lexer.specs.declared.sign.Sign.TheVariants as s
use Rattle.mace_ast.specs.declared.name.Name.{Name}
use Rattle.mace_ast.specs.declared.stmt.Target.{Target}
use Rattle.mace_ast.specs.Exprs.{ExprTree, bare_expr, nowhere}
use Rattle.mace_ast.specs.Stmts as st
use Rattle.mace_ast.specs.Stmts.{StmtTree, stmts_of, stmt_and, else_of, bare_stmt, bare_stmts, bare_else, bare_name}
use Rattle.mace_grammar.specs.inner.Run.{Reader}
use Rattle.mace_grammar.specs.declared.class.TheConstants.{EXPR_STARTS, STMT_STARTS}
use Rattle.mace_grammar.specs.declared.class.Class.TheVariants as class
use Rattle.mace_grammar.specs.Words.{Edition}
use Rattle.mace_grammar.specs.Grammar as g
use Rattle.mace_grammar.specs.inner.Readers as r
use Rattle.mace_grammar.proofs.Plain.{Natural, natural_give, natural_then, natural_choice, natural_each_of, natural_maybe, natural_deeper}
use Rattle.mace_grammar.proofs.PlainTokens.{key, sign, text, name, leave, finish, field, maybe_field}
use Rattle.mace_grammar.proofs.PlainExprs.{any_expr, any_arguments, any_key}

bare_stmts_of : (ss : List StmtTree) → stmts_of (map bare_stmt ss) ≡ bare_stmts (stmts_of ss)
bare_stmts_of [] = refl
bare_stmts_of (x ∷ ss) = ap (λ l. stmt_and (bare_stmt x) l) (bare_stmts_of ss)

bare_else_of : (o : Option (List StmtTree)) → else_of (option_map (map bare_stmt) o) ≡ bare_else (else_of o)
bare_else_of (Some ss) = ap st.otherwise (bare_stmts_of ss)
bare_else_of None = refl

same_target : (x : Name) (inner : Option Name) → g.target (bare_name x) (option_map bare_name inner) ≡ g.target x inner
same_target x (Some f) = refl
same_target x None = refl

module _ (edition : Edition) where
  module _ (n : ℕ) where
    maybe_key : Natural (option_map bare_expr) (r.maybe_key_at edition n) (r.maybe_key_at edition n)
    maybe_key = natural_maybe edition (r.if_sign s.LeftBracket) (any_key edition n)

    let_stmt : Natural bare_stmt (r.let_at edition n) (r.let_at edition n)
    unfolding r.let_at
    let_stmt = natural_then _ (key k.Let) (λ at. natural_then _ (name edition) (λ x. natural_then _ (sign s.Equals) (λ _. natural_then _ (any_expr edition n) (λ value. natural_then _ (sign s.Semicolon) (λ _. natural_give bare_stmt (st.Let at x value) (st.Let nowhere (bare_name x) (bare_expr value)) refl)))))

    require_stmt : Natural bare_stmt (r.require_at edition n) (r.require_at edition n)
    unfolding r.require_at
    require_stmt = natural_then _ (key k.Require) (λ at. natural_then _ (any_expr edition n) (λ test. natural_then _ (sign s.Semicolon) (λ _. natural_give bare_stmt (st.Require at test) (st.Require nowhere (bare_expr test)) refl)))

    send_stmt : Natural bare_stmt (r.send_at edition n) (r.send_at edition n)
    unfolding r.send_at
    send_stmt = natural_then _ (key k.Send) (λ at. natural_then _ text (λ label. natural_then _ (sign s.Comma) (λ _. natural_then _ (any_expr edition n) (λ value. natural_then _ (sign s.Semicolon) (λ _. natural_give bare_stmt (st.Send at label value) (st.Send nowhere label (bare_expr value)) refl)))))

    spawn_stmt : Natural bare_stmt (r.spawn_at edition n) (r.spawn_at edition n)
    unfolding r.spawn_at
    spawn_stmt = natural_then _ (key k.Spawn) (λ at. natural_then _ (name edition) (λ x. natural_then _ (any_arguments edition n) (λ found. natural_then _ (sign s.Semicolon) (λ _. natural_give bare_stmt (st.Spawn at x.text found) (st.Spawn nowhere x.text (map bare_expr found)) refl))))

    drop_stmt : Natural bare_stmt (r.drop_at edition n) (r.drop_at edition n)
    unfolding r.drop_at
    drop_stmt = natural_then _ (key k.Drop) (λ at. natural_then _ (name edition) (λ x. natural_then _ (maybe_field edition) (λ inner. natural_then _ (any_key edition n) (λ place. natural_then _ (sign s.Semicolon) (λ _. natural_give bare_stmt (st.Cut at (g.target x inner) place) (st.Cut nowhere (g.target (bare_name x) (option_map bare_name inner)) (bare_expr place)) (ap (λ t. st.Cut nowhere t (bare_expr place)) (same_target x inner)))))))

    set : (at : Span) (x : Target) (place : Option ExprTree) → Natural bare_stmt (r.set_at edition n at x place) (r.set_at edition n nowhere x (option_map bare_expr place))
    unfolding r.set_at
    set at x place = natural_then _ (sign s.Equals) (λ _. natural_then _ (any_expr edition n) (λ value. natural_then _ (sign s.Semicolon) (λ _. natural_give bare_stmt (st.Set at x place value) (st.Set nowhere x (option_map bare_expr place) (bare_expr value)) refl)))

    call_stmt : (f : Name) → Natural bare_stmt (r.call_stmt_at edition n f) (r.call_stmt_at edition n (bare_name f))
    unfolding r.call_stmt_at
    call_stmt f = natural_then _ (any_arguments edition n) (λ found. natural_then _ (sign s.Semicolon) (λ _. natural_give bare_stmt (st.Call f.at f.text found) (st.Call nowhere f.text (map bare_expr found)) refl))

    child_stmt : (c : Name) (place : ExprTree) → Natural bare_stmt (r.child_stmt_at edition n c place) (r.child_stmt_at edition n (bare_name c) (bare_expr place))
    unfolding r.child_stmt_at
    child_stmt c place = natural_then _ (field edition) (λ f. natural_then _ (any_arguments edition n) (λ found. natural_then _ (sign s.Semicolon) (λ _. natural_give bare_stmt (st.ChildCall c.at c.text place f.text found) (st.ChildCall nowhere c.text (bare_expr place) f.text (map bare_expr found)) refl)))

    above_stmt : (c : Name) → Natural bare_stmt (r.above_stmt_at edition n c) (r.above_stmt_at edition n (bare_name c))
    unfolding r.above_stmt_at
    above_stmt c = natural_then _ (field edition) (λ f. natural_then _ maybe_key (λ place. set c.at (g.target c (Some f)) place))

    index_stmt : (x : Name) → Natural bare_stmt (r.index_stmt_at edition n x) (r.index_stmt_at edition n (bare_name x))
    unfolding r.index_stmt_at
    index_stmt x = natural_then _ (any_key edition n) (λ place. natural_choice edition (r.if_sign s.Dot) (child_stmt x place) (set x.at (g.target x None) (Some place)))

    named_stmt : Natural bare_stmt (r.named_stmt_at edition n) (r.named_stmt_at edition n)
    unfolding r.named_stmt_at
    named_stmt = natural_then _ (name edition) (λ x. natural_choice edition (r.if_sign s.Dot) (above_stmt x) (natural_choice edition (r.if_sign s.LeftBracket) (index_stmt x) (natural_choice edition (r.if_sign s.LeftParen) (call_stmt x) (set x.at (g.target x None) None))))

    simple_stmt : Natural bare_stmt (r.simple_stmt_at edition n) (r.simple_stmt_at edition n)
    unfolding r.simple_stmt_at
    simple_stmt = natural_choice edition (r.if_key k.Require) require_stmt (natural_choice edition (r.if_key k.Send) send_stmt (natural_choice edition (r.if_key k.Spawn) spawn_stmt (natural_choice edition (r.if_key k.Drop) drop_stmt named_stmt)))

    maybe_expr : Natural (option_map bare_expr) (r.maybe_expr_at edition n) (r.maybe_expr_at edition n)
    maybe_expr = natural_maybe edition EXPR_STARTS (any_expr edition n)

    return_stmt : Natural bare_stmt (r.return_at edition n) (r.return_at edition n)
    unfolding r.return_at
    return_stmt = natural_then _ (leave edition) (λ at. natural_then _ maybe_expr (λ value. natural_then _ (sign s.Semicolon) (λ _. natural_give bare_stmt (st.Return at value) (st.Return nowhere (option_map bare_expr value)) refl)))

    finish_stmt : Natural bare_stmt (r.finish_stmt_at edition n) (r.finish_stmt_at edition n)
    unfolding r.finish_stmt_at
    finish_stmt = natural_then _ (finish edition) (λ at. natural_then _ maybe_expr (λ value. natural_then _ (sign s.Semicolon) (λ _. natural_give bare_stmt (st.Finish at value) (st.Finish nowhere (option_map bare_expr value)) refl)))

    ending : Natural bare_stmt (r.ending_at edition n) (r.ending_at edition n)
    unfolding r.ending_at
    ending = natural_choice edition (class.Leave ∷ []) return_stmt (natural_choice edition (class.Finish ∷ []) finish_stmt simple_stmt)

  module _ (run : Reader StmtTree) (P : Natural bare_stmt run run) where
    stmts_in : Natural (map bare_stmt) (r.stmts_in edition run) (r.stmts_in edition run)
    unfolding r.stmts_in
    stmts_in = natural_each_of edition STMT_STARTS P

    block : Natural (map bare_stmt) (r.block_at edition run) (r.block_at edition run)
    unfolding r.block_at
    block = natural_then _ (sign s.LeftBrace) (λ _. natural_then _ stmts_in (λ found. natural_then _ (sign s.RightBrace) (λ _. natural_give (map bare_stmt) found (map bare_stmt found) refl)))

    other : Natural (option_map (map bare_stmt)) (r.else_at edition (r.block_at edition run)) (r.else_at edition (r.block_at edition run))
    unfolding r.else_at
    other = natural_maybe edition (r.if_key k.Else) (natural_then _ (key k.Else) (λ _. block))

    if_stmt : (n : ℕ) → Natural bare_stmt (r.if_at edition n run) (r.if_at edition n run)
    unfolding r.if_at
    if_stmt n = natural_then _ (key k.If) (λ at. natural_then _ (any_expr edition n) (λ test. natural_then _ block (λ body. natural_then _ other (λ o. natural_give bare_stmt (st.If at test (stmts_of body) (else_of o)) (st.If nowhere (bare_expr test) (stmts_of (map bare_stmt body)) (else_of (option_map (map bare_stmt) o))) (ap (λ l. st.If nowhere (bare_expr test) l (else_of (option_map (map bare_stmt) o))) (bare_stmts_of body) ∙ ap (st.If nowhere (bare_expr test) (bare_stmts (stmts_of body))) (bare_else_of o))))))

    while_stmt : (n : ℕ) → Natural bare_stmt (r.while_at edition n run) (r.while_at edition n run)
    unfolding r.while_at
    while_stmt n = natural_then _ (key k.While) (λ at. natural_then _ (any_expr edition n) (λ test. natural_then _ block (λ body. natural_give bare_stmt (st.While at test (stmts_of body)) (st.While nowhere (bare_expr test) (stmts_of (map bare_stmt body))) (ap (st.While nowhere (bare_expr test)) (bare_stmts_of body)))))

    for_stmt : (n : ℕ) → Natural bare_stmt (r.for_at edition n run) (r.for_at edition n run)
    unfolding r.for_at
    for_stmt n =
        natural_then _ (key k.For)
        (λ at. natural_then _ (name edition)
        (λ x. natural_then _ (key k.In)
        (λ _. natural_then _ (any_expr edition n)
        (λ low. natural_then _ (key k.To)
        (λ _. natural_then _ (any_expr edition n)
        (λ high. natural_then _ block
        (λ body. natural_give bare_stmt (st.For at x low high (stmts_of body)) (st.For nowhere (bare_name x) (bare_expr low) (bare_expr high) (stmts_of (map bare_stmt body))) (ap (st.For nowhere (bare_name x) (bare_expr low) (bare_expr high)) (bare_stmts_of body)))))))))

    any_stmt : (n : ℕ) → Natural bare_stmt (r.any_stmt_at edition n run) (r.any_stmt_at edition n run)
    unfolding r.any_stmt_at
    any_stmt n = natural_choice edition (r.if_key k.Let) (let_stmt n) (natural_choice edition (r.if_key k.If) (if_stmt n) (natural_choice edition (r.if_key k.While) (while_stmt n) (natural_choice edition (r.if_key k.For) (for_stmt n) (ending n))))

  stmt : (n : ℕ) → Natural bare_stmt (r.stmt_at edition n) (r.stmt_at edition n)
  stmt = natural_deeper bare_stmt (r.any_stmt_at edition) (λ n run P. any_stmt run P n)

  module _ (n : ℕ) where
    pub stmts : Natural (map bare_stmt) (r.stmts_at edition n) (r.stmts_at edition n)
    unfolding r.stmts_at
    stmts = stmts_in (r.stmt_at edition n) (stmt n)

    pub any_block : Natural (map bare_stmt) (r.any_block_at edition n) (r.any_block_at edition n)
    unfolding r.any_block_at
    any_block = block (r.stmt_at edition n) (stmt n)
