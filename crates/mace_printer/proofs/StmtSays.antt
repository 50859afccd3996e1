-- The canonical words of statements spell them.
use Rattle.std.proofs.Common.{◌≡◌, ℕ, zero, suc, ◌+◌, ◌≤◌, inl, inr, List, [], ◌∷◌, ◌++◌, map, Option, Some, None, refl, sym, ap, arith, ◌∙◌, append-nil}
use Rattle.std.proofs.lemmas.List.{map-append}
use Rattle.wave_base.specs.declared.span.Span.{Span}
use Rattle.mace_lexer.specs.declared.token.Word.{Word}
use Rattle.mace_lexer.specs.declared.token.Word.TheVariants as word
use Rattle.mace_lexer.specs.declared.keyword.Keyword.TheVariants as k
use Rattle.mace_lexer.specs.declared.sign.Sign.TheVariants as s
use Rattle.mace_ast.specs.declared.name.Name.{Name}
use Rattle.mace_ast.specs.Exprs.{ExprTree, bare_expr, nowhere}
use Rattle.mace_ast.specs.Stmts as st
use Rattle.mace_ast.specs.Stmts.{StmtTree, StmtTrees, ElseTree, no_stmts, stmt_and, no_else, otherwise, stmts_of, else_of, bare_stmt, bare_stmts, bare_else}
use Rattle.mace_grammar.specs.Part.{Part, ◌>>◌, many, maybe, nested_part}
use Rattle.mace_grammar.specs.Words as w
use Rattle.mace_grammar.specs.Words.{Edition}
use Rattle.mace_grammar.specs.Fits.{IsName, Each, ExprFits, StmtFits, StmtsFit, ElseFits}
use Rattle.mace_grammar.specs.Grammar as g
use Rattle.mace_grammar.specs.Spelled.{plain_token}
use Rattle.mace_printer.specs.Canon.{whole_words, stmt_words, stmts_words, else_words, body_words, braced_words}
use Rattle.mace_printer.proofs.Says.{Says, key_says, sign_says, named, name_says, all_say}
use Rattle.mace_printer.proofs.ExprSays.{expr_says}
use Rattle.mace_printer.proofs.PlainSays.{bracket_split}
use Rattle.mace_printer.proofs.PlainSays
use Rattle.mace_printer.proofs.SetSays

module _ (edition : Edition) where
  -- ---- statements with blocks

  abbrev list_of : StmtTrees → List StmtTree
  list_of no_stmts = []
  list_of (stmt_and x xs) = x ∷ list_of xs

  list_back : (xs : StmtTrees) → stmts_of (list_of xs) ≡ xs
  list_back no_stmts = refl
  list_back (stmt_and x xs) = ap (λ l. stmt_and x l) (list_back xs)

  abbrev in_braces : StmtTrees → List Word
  in_braces xs = word.Sign s.LeftBrace ∷ (stmts_words xs ++ (word.Sign s.RightBrace ∷ []))

  abbrev else_list : ElseTree → Option (List StmtTree)
  else_list no_else = None
  else_list (otherwise xs) = Some (list_of xs)

  else_back : (o : ElseTree) → else_of (else_list o) ≡ o
  else_back no_else = refl
  else_back (otherwise xs) = ap otherwise (list_back xs)

  module _ (stmt : Part StmtTree) where
    abbrev all_spell : StmtTrees → Type 0
    all_spell xs = Says (many stmt) (list_of (bare_stmts xs)) (stmts_words xs)

    block_says : (xs : StmtTrees) → all_spell xs → Says (g.block edition stmt) (list_of (bare_stmts xs)) (in_braces xs)
    block_says xs h = (
      nowhere,
      plain_token (word.Sign s.LeftBrace) ∷ [],
      _,
      refl,
      sign_says s.LeftBrace,
      (
        list_of (bare_stmts xs),
        map plain_token (stmts_words xs),
        _,
        map-append plain_token (stmts_words xs) (word.Sign s.RightBrace ∷ []),
        h,
        (nowhere, plain_token (word.Sign s.RightBrace) ∷ [], [], refl, sign_says s.RightBrace, (refl, refl)),
      ),
    )

    abbrev else_spells : ElseTree → Type 0
    else_spells no_else = Unit {0}
    else_spells (otherwise xs) = all_spell xs

    else_says : (o : ElseTree) → else_spells o → Says (maybe (w.key k.Else >> (g.block edition) stmt)) (else_list (bare_else o)) (else_words o)
    else_says no_else h = refl
    else_says (otherwise xs) h = (nowhere, plain_token (word.Key k.Else) ∷ [], _, refl, key_says k.Else, block_says xs h)

    if_says : (at : Span) (test : ExprTree) (body : StmtTrees) (other : ElseTree) → all_spell body → else_spells other → ExprFits edition test → Says (g.if_stmt edition stmt) (bare_stmt (st.If at test body other)) (stmt_words (st.If at test body other))
    if_says at test body other hb ho f = (
      nowhere,
      plain_token (word.Key k.If) ∷ [],
      _,
      refl,
      key_says k.If,
      (
        bare_expr test,
        map plain_token (whole_words test),
        _,
        map-append plain_token (whole_words test) (word.Sign s.LeftBrace ∷ (stmts_words body ++ (word.Sign s.RightBrace ∷ else_words other))),
        expr_says edition test f,
        (
          list_of (bare_stmts body),
          map plain_token (in_braces body),
          _,
          bracket_split (word.Sign s.LeftBrace) (word.Sign s.RightBrace) (stmts_words body) (else_words other),
          block_says body hb,
          (
            else_list (bare_else other),
            map plain_token (else_words other),
            [],
            sym (append-nil (map plain_token (else_words other))),
            else_says other ho,
            (ap (λ b. st.If nowhere (bare_expr test) b (bare_else other)) (sym (list_back (bare_stmts body))) ∙ ap (λ o. st.If nowhere (bare_expr test) (stmts_of (list_of (bare_stmts body))) o) (sym (else_back (bare_else other))), refl),
          ),
        ),
      ),
    )

    while_says : (at : Span) (test : ExprTree) (body : StmtTrees) → all_spell body → ExprFits edition test → Says (g.while_stmt edition stmt) (bare_stmt (st.While at test body)) (stmt_words (st.While at test body))
    while_says at test body hb f = (
      nowhere,
      plain_token (word.Key k.While) ∷ [],
      _,
      refl,
      key_says k.While,
      (
        bare_expr test,
        map plain_token (whole_words test),
        _,
        map-append plain_token (whole_words test) (in_braces body),
        expr_says edition test f,
        (
          list_of (bare_stmts body),
          map plain_token (in_braces body),
          [],
          sym (append-nil (map plain_token (in_braces body))),
          block_says body hb,
          (ap (λ b. st.While nowhere (bare_expr test) b) (sym (list_back (bare_stmts body))), refl),
        ),
      ),
    )

    for_says : (at : Span) (x : Name) (low high : ExprTree) (body : StmtTrees) → all_spell body → IsName edition x.text → ExprFits edition low → ExprFits edition high → Says (g.for_stmt edition stmt) (bare_stmt (st.For at x low high body)) (stmt_words (st.For at x low high body))
    for_says at x low high body hb i f j = (
      nowhere,
      plain_token (word.Key k.For) ∷ [],
      _,
      refl,
      key_says k.For,
      (
        named x.text,
        plain_token (word.Name x.text) ∷ [],
        _,
        refl,
        name_says edition x.text i,
        (
          nowhere,
          plain_token (word.Key k.In) ∷ [],
          _,
          refl,
          key_says k.In,
          (
            bare_expr low,
            map plain_token (whole_words low),
            _,
            map-append plain_token (whole_words low) (word.Key k.To ∷ (whole_words high ++ in_braces body)),
            expr_says edition low f,
            (
              nowhere,
              plain_token (word.Key k.To) ∷ [],
              _,
              refl,
              key_says k.To,
              (
                bare_expr high,
                map plain_token (whole_words high),
                _,
                map-append plain_token (whole_words high) (in_braces body),
                expr_says edition high j,
                (
                  list_of (bare_stmts body),
                  map plain_token (in_braces body),
                  [],
                  sym (append-nil (map plain_token (in_braces body))),
                  block_says body hb,
                  (ap (λ b. st.For nowhere (named x.text) (bare_expr low) (bare_expr high) b) (sym (list_back (bare_stmts body))), refl),
                ),
              ),
            ),
          ),
        ),
      ),
    )

  abbrev mutual
    blocks : StmtTree → ℕ
    blocks (st.Let at x value) = 0
    blocks (st.If at test body other) = suc (all_blocks body + else_blocks other)
    blocks (st.While at test body) = suc (all_blocks body)
    blocks (st.For at x low high body) = suc (all_blocks body)
    blocks (st.Require at test) = 0
    blocks (st.Send at label value) = 0
    blocks (st.Spawn at event args) = 0
    blocks (st.Cut at target place) = 0
    blocks (st.Set at target place value) = 0
    blocks (st.Call at f args) = 0
    blocks (st.ChildCall at c place f args) = 0
    blocks (st.Return at value) = 0
    blocks (st.Finish at value) = 0

    all_blocks : StmtTrees → ℕ
    all_blocks no_stmts = 0
    all_blocks (stmt_and x xs) = blocks x + all_blocks xs

    else_blocks : ElseTree → ℕ
    else_blocks no_else = 0
    else_blocks (otherwise xs) = all_blocks xs

  abbrev at_depth : ℕ → Part StmtTree
  at_depth n = nested_part (g.any_stmt edition) n

  mutual
    said : (x : StmtTree) (n : ℕ) → blocks x ≤ n → StmtFits edition x → Says (at_depth (suc n)) (bare_stmt x) (stmt_words x)
    said (st.Let at x value) n h f = inl (PlainSays.let_says edition at x value f.0 f.1)
    said (st.If at test body other) zero h f = absurd (omega arith)
    said (st.If at test body other) (suc m) h f = inr (inl (if_says (at_depth (suc m)) at test body other (all_said body m (omega arith) f.1) (else_said other m (omega arith) f.2) f.0))
    said (st.While at test body) zero h f = absurd (omega arith)
    said (st.While at test body) (suc m) h f = inr (inr (inl (while_says (at_depth (suc m)) at test body (all_said body m (omega arith) f.1) f.0)))
    said (st.For at x low high body) zero h f = absurd (omega arith)
    said (st.For at x low high body) (suc m) h f = inr (inr (inr (inl (for_says (at_depth (suc m)) at x low high body (all_said body m (omega arith) f.3) f.0 f.1 f.2))))
    said (st.Return at value) n h f = inr (inr (inr (inr (inl (PlainSays.return_says edition at value f)))))
    said (st.Finish at value) n h f = inr (inr (inr (inr (inr (inl (PlainSays.finish_stmt_says edition at value f))))))
    said (st.Require at test) n h f = inr (inr (inr (inr (inr (inr (inl (PlainSays.require_says edition at test f)))))))
    said (st.Send at label value) n h f = inr (inr (inr (inr (inr (inr (inr (inl (PlainSays.send_says edition at label value f))))))))
    said (st.Spawn at event args) n h f = inr (inr (inr (inr (inr (inr (inr (inr (inl (PlainSays.spawn_says edition at event args f.0 f.1)))))))))
    said (st.Cut at x place) n h f = inr (inr (inr (inr (inr (inr (inr (inr (inr (inl (SetSays.drop_says edition at x.above x.name place f.0.0 f.0.1 f.1))))))))))
    said (st.Set at x place value) n h f = inr (inr (inr (inr (inr (inr (inr (inr (inr (inr (inl (SetSays.set_says edition at x.above x.name place value f.0.0 f.0.1 f.1 f.2)))))))))))
    said (st.Call at x args) n h f = inr (inr (inr (inr (inr (inr (inr (inr (inr (inr (inr (inl (PlainSays.call_says edition at x args f.0 f.1))))))))))))
    said (st.ChildCall at c place x args) n h f = inr (inr (inr (inr (inr (inr (inr (inr (inr (inr (inr (inr (PlainSays.child_says edition at c place x args f.0 f.1 f.2 f.3))))))))))))

    all_said : (xs : StmtTrees) (n : ℕ) → all_blocks xs ≤ n → StmtsFit edition xs → all_spell (at_depth (suc n)) xs
    all_said no_stmts n h f = refl
    all_said (stmt_and x xs) n h f = (map plain_token (stmt_words x), _, map-append plain_token (stmt_words x) (stmts_words xs), said x n (omega arith) f.0, all_said xs n (omega arith) f.1)

    else_said : (o : ElseTree) (n : ℕ) → else_blocks o ≤ n → ElseFits edition o → else_spells (at_depth (suc n)) o
    else_said no_else n h f = tt
    else_said (otherwise xs) n h f = all_said xs n h f

  -- ---- however deep

  pub stmt_says : (x : StmtTree) → StmtFits edition x → Says (g.stmt edition) (bare_stmt x) (stmt_words x)
  stmt_says x f = (suc (blocks x), said x (blocks x) (omega arith) f)

  pub stmts_say : (xs : List StmtTree) → Each (StmtFits edition) xs → Says (g.stmts edition) (map bare_stmt xs) (body_words xs)
  unfolding g.stmts
  stmts_say xs f = all_say (g.stmt edition) bare_stmt stmt_words (StmtFits edition) stmt_says xs f

  pub any_block_says : (xs : List StmtTree) → Each (StmtFits edition) xs → Says (g.any_block edition) (map bare_stmt xs) (braced_words xs)
  unfolding g.any_block
  any_block_says xs f = (
    nowhere,
    plain_token (word.Sign s.LeftBrace) ∷ [],
    _,
    refl,
    sign_says s.LeftBrace,
    (
      map bare_stmt xs,
      map plain_token (body_words xs),
      _,
      map-append plain_token (body_words xs) (word.Sign s.RightBrace ∷ []),
      all_say (g.stmt edition) bare_stmt stmt_words (StmtFits edition) stmt_says xs f,
      (nowhere, plain_token (word.Sign s.RightBrace) ∷ [], [], refl, sign_says s.RightBrace, (refl, refl)),
    ),
  )
