-- The readers of statements read their productions.
use Rattle.std.proofs.Common.{ℕ, suc, [], ◌∷◌, ◌++◌, Option, Some, None, true, false, refl}
use Rattle.mace_lexer.specs.declared.token.Token.{Token}
use Rattle.mace_lexer.specs.declared.keyword.Keyword.TheVariants as k
use Rattle.mace_lexer.specs.declared.sign.Sign.TheVariants as s
use Rattle.mace_ast.specs.declared.name.Name.{Name}
use Rattle.mace_ast.specs.Exprs.{ExprTree}
use Rattle.mace_ast.specs.Stmts as st
use Rattle.mace_ast.specs.Stmts.{StmtTree, stmts_of, else_of}
use Rattle.mace_grammar.specs.Part.{Part, pure, ◌>>=◌, ◌>>◌, ◌or◌, many, maybe}
use Rattle.mace_grammar.specs.inner.Run.{Reader}
use Rattle.mace_grammar.specs.declared.class.TheConstants.{STMT_STARTS}
use Rattle.mace_grammar.specs.declared.class.Class.{Class}
use Rattle.mace_grammar.specs.declared.class.Class.TheVariants as class
use Rattle.mace_grammar.specs.inner.Classes as classes
use Rattle.mace_grammar.specs.Words as w
use Rattle.mace_grammar.specs.Grammar as g
use Rattle.mace_grammar.specs.inner.Readers as r
use Rattle.mace_grammar.specs.Words.{Edition}
use Rattle.mace_grammar.proofs.Versions.{IsSound}
use Rattle.mace_grammar.proofs.Reading.{Reads, wider, reads_same}
use Rattle.mace_grammar.proofs.InTurn.{reads_pure, next_part, inside}
use Rattle.mace_grammar.proofs.Choices.{either, optional}
use Rattle.mace_grammar.proofs.Repeats.{repeated}
use Rattle.mace_grammar.proofs.Nests.{reads_deep}
use Rattle.mace_grammar.proofs.Same.{Same, same_refl, same_trans, same_or, same_behind, same_maybe}
use Rattle.mace_grammar.proofs.Factors.{two_fronts, three_fronts, same_five}
use Rattle.mace_grammar.proofs.Productions.{key, sign, name, text, field, leave, finish}
use Rattle.mace_grammar.proofs.ExprReads.{any_expr, any_arguments, any_key}

module _ (edition : Edition) (sound : IsSound edition) where
  abbrev kind : Token → Class
  kind = classes.kind edition

  -- ---- statements without a block

  module _ (m : ℕ) where
    let_stmt : Reads kind (suc m) (g.let_stmt edition) (g.let_stmt edition) (r.let_at edition m) (r.if_key k.Let) false []
    unfolding r.let_at
    let_stmt =
        inside kind (key edition sound (suc m) k.Let refl)
        (λ at. next_part kind (name edition sound m)
        (λ x. next_part kind (sign edition sound m s.Equals)
        (λ _. next_part kind (any_expr edition sound m)
        (λ value. next_part kind (sign edition sound m s.Semicolon) (λ _. reads_pure kind m (st.Let at x value)) refl) refl) refl) refl) refl

    require_stmt : Reads kind (suc m) (g.require_stmt edition) (g.require_stmt edition) (r.require_at edition m) (r.if_key k.Require) false []
    unfolding r.require_at
    require_stmt =
        inside kind (key edition sound (suc m) k.Require refl)
        (λ at. next_part kind (any_expr edition sound m)
        (λ test. next_part kind (sign edition sound m s.Semicolon) (λ _. reads_pure kind m (st.Require at test)) refl) refl) refl

    send_stmt : Reads kind (suc m) (g.send_stmt edition) (g.send_stmt edition) (r.send_at edition m) (r.if_key k.Send) false []
    unfolding r.send_at
    send_stmt =
        inside kind (key edition sound (suc m) k.Send refl)
        (λ at. next_part kind (text edition sound m)
        (λ label. next_part kind (sign edition sound m s.Comma)
        (λ _. next_part kind (any_expr edition sound m)
        (λ value. next_part kind (sign edition sound m s.Semicolon) (λ _. reads_pure kind m (st.Send at label value)) refl) refl) refl) refl) refl

    spawn_stmt : Reads kind (suc m) (g.spawn_stmt edition) (g.spawn_stmt edition) (r.spawn_at edition m) (r.if_key k.Spawn) false []
    unfolding r.spawn_at
    spawn_stmt =
        inside kind (key edition sound (suc m) k.Spawn refl)
        (λ at. next_part kind (name edition sound m)
        (λ x. next_part kind (any_arguments edition sound m)
        (λ found. next_part kind (sign edition sound m s.Semicolon) (λ _. reads_pure kind m (st.Spawn at x.text found)) refl) refl) refl) refl

    drop_stmt : Reads kind (suc m) (g.drop_stmt edition) (g.drop_stmt edition) (r.drop_at edition m) (r.if_key k.Drop) false []
    unfolding r.drop_at
    drop_stmt =
        inside kind (key edition sound (suc m) k.Drop refl)
        (λ at. next_part kind (name edition sound m)
        (λ x. next_part kind (optional kind (field edition sound m))
        (λ inner. next_part kind (any_key edition sound m)
        (λ place. next_part kind (sign edition sound m s.Semicolon) (λ _. reads_pure kind m (st.Cut at (g.target x inner) place)) refl) refl) refl) refl) refl

  -- ---- what begins with a name, with what is common in front

  abbrev set_behind : Name → Option Name → Option ExprTree → Part StmtTree
  set_behind x inner place = do
    w.sign s.Equals
    value ← (g.any_expr edition)
    w.sign s.Semicolon
    pure (st.Set x.at (g.target x inner) place value)

  abbrev call_behind : Name → Part StmtTree
  call_behind f = do
    found ← (g.any_arguments edition)
    w.sign s.Semicolon
    pure (st.Call f.at f.text found)

  abbrev child_behind : Name → ExprTree → Part StmtTree
  child_behind c place = do
    f ← (g.field edition)
    found ← (g.any_arguments edition)
    w.sign s.Semicolon
    pure (st.ChildCall c.at c.text place f.text found)

  abbrev placed_behind : Name → Option Name → Part StmtTree
  placed_behind x inner = maybe (g.any_key edition) >>= set_behind x inner

  abbrev dot_behind : Name → Part StmtTree
  dot_behind c = (g.field edition) >>= (λ f. placed_behind c (Some f))

  abbrev set_key_behind : Name → ExprTree → Part StmtTree
  set_key_behind x place = set_behind x None (Some place)

  abbrev key_behind : Name → Part StmtTree
  key_behind x = (g.any_key edition) >>= (λ place. child_behind x place or set_key_behind x place)

  abbrev named : Part StmtTree
  named = (w.name edition) >>= (λ x. dot_behind x or (key_behind x or (call_behind x or set_behind x None None)))

  abbrev written : Part StmtTree
  written = g.set_stmt edition or (g.call_stmt edition or (g.child_call_stmt edition))

  abbrev split_behind : Name → Part StmtTree
  split_behind x = dot_behind x or (((g.any_key edition >>= child_behind x) or (g.any_key edition >>= set_key_behind x)) or (call_behind x or set_behind x None None))

  abbrev sorted_behind : Name → Part StmtTree
  sorted_behind x = (dot_behind x or ((g.any_key edition >>= set_key_behind x) or set_behind x None None)) or (call_behind x or (g.any_key edition >>= child_behind x))

  abbrev set_all : Name → Part StmtTree
  set_all x = maybe (g.field edition) >>= placed_behind x

  same_set : (x : Name) → Same (dot_behind x or ((g.any_key edition >>= set_key_behind x) or set_behind x None None)) (set_all x)
  same_set x =
      same_trans (dot_behind x or ((g.any_key edition >>= set_key_behind x) or set_behind x None None)) (dot_behind x or placed_behind x None) (set_all x)
      (same_or (dot_behind x) (dot_behind x) ((g.any_key edition >>= set_key_behind x) or set_behind x None None) (placed_behind x None) (same_refl (dot_behind x)) (same_maybe (g.any_key edition) (set_behind x None)))
      (same_maybe (g.field edition) (placed_behind x))

  same_named : Same named written
  same_named =
      same_trans named (w.name edition >>= (λ x. set_all x or (call_behind x or (g.any_key edition >>= child_behind x)))) written
      (same_behind (w.name edition) (λ x. dot_behind x or (key_behind x or (call_behind x or set_behind x None None))) (λ x. set_all x or (call_behind x or (g.any_key edition >>= child_behind x)))
      (λ x. same_trans (dot_behind x or (key_behind x or (call_behind x or set_behind x None None))) (split_behind x) (set_all x or (call_behind x or (g.any_key edition >>= child_behind x)))
      (same_or (dot_behind x) (dot_behind x) (key_behind x or (call_behind x or set_behind x None None)) (((g.any_key edition >>= child_behind x) or (g.any_key edition >>= set_key_behind x)) or (call_behind x or set_behind x None None))
      (same_refl (dot_behind x))
      (same_or (key_behind x) ((g.any_key edition >>= child_behind x) or (g.any_key edition >>= set_key_behind x)) (call_behind x or set_behind x None None) (call_behind x or set_behind x None None) (two_fronts (g.any_key edition) (child_behind x) (set_key_behind x)) (same_refl (call_behind x or set_behind x None None))))
      (same_trans (split_behind x) (sorted_behind x) (set_all x or (call_behind x or (g.any_key edition >>= child_behind x)))
      (same_five (dot_behind x) (g.any_key edition >>= child_behind x) (g.any_key edition >>= set_key_behind x) (call_behind x) (set_behind x None None))
      (same_or (dot_behind x or ((g.any_key edition >>= set_key_behind x) or set_behind x None None)) (set_all x) (call_behind x or (g.any_key edition >>= child_behind x)) (call_behind x or (g.any_key edition >>= child_behind x)) (same_set x) (same_refl (call_behind x or (g.any_key edition >>= child_behind x)))))))
      (three_fronts (w.name edition) set_all call_behind (λ x. (g.any_key edition) >>= child_behind x))

  module _ (m : ℕ) where
    set : (x : Name) (inner : Option Name) (place : Option ExprTree) → Reads kind m (set_behind x inner place) (set_behind x inner place) (r.set_at edition m x.at (g.target x inner) place) (r.if_sign s.Equals) false []
    unfolding r.set_at
    set x inner place =
        next_part kind (sign edition sound m s.Equals)
        (λ _. next_part kind (any_expr edition sound m)
        (λ value. next_part kind (sign edition sound m s.Semicolon) (λ _. reads_pure kind m (st.Set x.at (g.target x inner) place value)) refl) refl) refl

    call : (f : Name) → Reads kind m (call_behind f) (call_behind f) (r.call_stmt_at edition m f) (r.if_sign s.LeftParen) false []
    unfolding r.call_stmt_at
    call f =
        next_part kind (any_arguments edition sound m)
        (λ found. next_part kind (sign edition sound m s.Semicolon) (λ _. reads_pure kind m (st.Call f.at f.text found)) refl) refl

    child_call : (c : Name) (place : ExprTree) → Reads kind m (child_behind c place) (child_behind c place) (r.child_stmt_at edition m c place) (r.if_sign s.Dot) false []
    unfolding r.child_stmt_at
    child_call c place =
        next_part kind (field edition sound m)
        (λ f. next_part kind (any_arguments edition sound m)
        (λ found. next_part kind (sign edition sound m s.Semicolon) (λ _. reads_pure kind m (st.ChildCall c.at c.text place f.text found)) refl) refl) refl

    above : (c : Name) → Reads kind m (dot_behind c) (dot_behind c) (r.above_stmt_at edition m c) (r.if_sign s.Dot) false []
    unfolding r.above_stmt_at
    above c =
        next_part kind (field edition sound m)
        (λ f. next_part kind (optional kind (any_key edition sound m)) (λ place. set c (Some f) place) refl) refl

    index : (x : Name) → Reads kind m (key_behind x) (key_behind x) (r.index_stmt_at edition m x) (r.if_sign s.LeftBracket) false []
    unfolding r.index_stmt_at
    index x = next_part kind (any_key edition sound m) (λ place. either kind (child_call x place) (set x None (Some place)) refl) refl

    named_reads : Reads kind (suc m) named named (r.named_stmt_at edition m) (class.Name ∷ []) false []
    unfolding r.named_stmt_at
    named_reads = inside kind (name edition sound (suc m)) (λ x. either kind (above x) (either kind (index x) (either kind (call x) (set x None None) refl) refl) refl) refl

    named_stmt : Reads kind (suc m) written written (r.named_stmt_at edition m) (class.Name ∷ []) false []
    named_stmt = reads_same kind (suc m) named named written written (r.named_stmt_at edition m) (class.Name ∷ []) [] false same_named same_named named_reads

  module _ (m : ℕ) where
    return_stmt : Reads kind (suc m) (g.return_stmt edition) (g.return_stmt edition) (r.return_at edition m) (class.Leave ∷ []) false []
    unfolding r.return_at
    return_stmt =
        inside kind (leave edition sound (suc m))
        (λ at. next_part kind (optional kind (any_expr edition sound m))
        (λ value. next_part kind (sign edition sound m s.Semicolon) (λ _. reads_pure kind m (st.Return at value)) refl) refl) refl

    finish_stmt : Reads kind (suc m) (g.finish_stmt edition) (g.finish_stmt edition) (r.finish_stmt_at edition m) (class.Finish ∷ []) false []
    unfolding r.finish_stmt_at
    finish_stmt =
        inside kind (finish edition sound (suc m))
        (λ at. next_part kind (optional kind (any_expr edition sound m))
        (λ value. next_part kind (sign edition sound m s.Semicolon) (λ _. reads_pure kind m (st.Finish at value)) refl) refl) refl

  -- ---- statements with blocks

  module _ (m : ℕ) (p p' : Part StmtTree) (run : Reader StmtTree) (P : Reads kind m p p' run STMT_STARTS false (r.if_key k.Else)) where
    pub stmts_in : Reads kind m (many p) (many p') (r.stmts_in edition run) STMT_STARTS true (STMT_STARTS ++ r.if_key k.Else)
    unfolding r.stmts_in
    stmts_in = repeated kind P refl

    pub block : Reads kind m (g.block edition p) (g.block edition p') (r.block_at edition run) (r.if_sign s.LeftBrace) false []
    unfolding r.block_at
    block =
        next_part kind (sign edition sound m s.LeftBrace)
        (λ _. next_part kind stmts_in (λ found. next_part kind (sign edition sound m s.RightBrace) (λ _. reads_pure kind m found) refl) refl)
        refl

    other : Reads kind m (maybe (w.key k.Else >> (g.block edition) p)) (maybe (w.key k.Else >> (g.block edition) p')) (r.else_at edition (r.block_at edition run)) (r.if_key k.Else) true (r.if_key k.Else)
    unfolding r.else_at
    other = optional kind (next_part kind (key edition sound m k.Else refl) (λ _. block) refl)

    if_stmt : Reads kind (suc m) (g.if_stmt edition p) (g.if_stmt edition p') (r.if_at edition m run) (r.if_key k.If) false (r.if_key k.Else)
    unfolding r.if_at
    if_stmt =
        inside kind (key edition sound (suc m) k.If refl)
        (λ at. next_part kind (any_expr edition sound m)
        (λ test. next_part kind block
        (λ body. next_part kind other (λ o. reads_pure kind m (st.If at test (stmts_of body) (else_of o))) refl) refl) refl) refl

    while_stmt : Reads kind (suc m) (g.while_stmt edition p) (g.while_stmt edition p') (r.while_at edition m run) (r.if_key k.While) false []
    unfolding r.while_at
    while_stmt =
        inside kind (key edition sound (suc m) k.While refl)
        (λ at. next_part kind (any_expr edition sound m)
        (λ test. next_part kind block (λ body. reads_pure kind m (st.While at test (stmts_of body))) refl) refl) refl

    for_stmt : Reads kind (suc m) (g.for_stmt edition p) (g.for_stmt edition p') (r.for_at edition m run) (r.if_key k.For) false []
    unfolding r.for_at
    for_stmt =
        inside kind (key edition sound (suc m) k.For refl)
        (λ at. next_part kind (name edition sound m)
        (λ x. next_part kind (key edition sound m k.In refl)
        (λ _. next_part kind (any_expr edition sound m)
        (λ low. next_part kind (key edition sound m k.To refl)
        (λ _. next_part kind (any_expr edition sound m)
        (λ high. next_part kind block (λ body. reads_pure kind m (st.For at x low high (stmts_of body))) refl) refl) refl) refl) refl) refl) refl

    any_stmt : Reads kind (suc m) (g.any_stmt edition p) (g.any_stmt edition p') (r.any_stmt_at edition m run) STMT_STARTS false (r.if_key k.Else)
    unfolding r.any_stmt_at r.ending_at r.simple_stmt_at
    any_stmt =
        wider kind
        (either kind (let_stmt m)
        (either kind if_stmt
        (either kind while_stmt
        (either kind for_stmt
        (either kind (return_stmt m)
        (either kind (finish_stmt m)
        (either kind (require_stmt m)
        (either kind (send_stmt m)
        (either kind (spawn_stmt m)
        (either kind (drop_stmt m) (named_stmt m)
        refl) refl) refl) refl) refl) refl) refl) refl) refl) refl)
        refl refl

  pub stmt : (m : ℕ) → Reads kind m (g.stmt edition) (g.stmt edition) (r.stmt_at edition m) STMT_STARTS false (r.if_key k.Else)
  stmt m = reads_deep kind (g.any_stmt edition) (r.any_stmt_at edition) STMT_STARTS (r.if_key k.Else) any_stmt m

  module _ (m : ℕ) where
    pub stmts : Reads kind m (g.stmts edition) (g.stmts edition) (r.stmts_at edition m) STMT_STARTS true (STMT_STARTS ++ r.if_key k.Else)
    unfolding g.stmts r.stmts_at
    stmts = stmts_in m (g.stmt edition) (g.stmt edition) (r.stmt_at edition m) (stmt m)

    pub any_block : Reads kind m (g.any_block edition) (g.any_block edition) (r.any_block_at edition m) (r.if_sign s.LeftBrace) false []
    unfolding g.any_block r.any_block_at
    any_block = block m (g.stmt edition) (g.stmt edition) (r.stmt_at edition m) (stmt m)
