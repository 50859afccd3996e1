-- The canonical words of expressions and statements that tokens spell can stand in a text.
use Rattle.std.proofs.Common.{◌≡◌, ℕ, ◌+◌, List, [], ◌∷◌, ◌++◌, fold, Option, Some, None, Bool, true, false, nat_lt, refl, subst, arith}
use Rattle.std.specs.Prelude.{codes}
use Rattle.wave_base.specs.declared.span.Span.{Span}
use Rattle.mace_lexer.specs.declared.token.Word.{Word}
use Rattle.mace_lexer.specs.declared.token.Word.TheVariants as word
use Rattle.mace_lexer.specs.declared.keyword.Keyword.{Keyword}
use Rattle.mace_lexer.specs.declared.keyword.Keyword.TheVariants as k
use Rattle.mace_lexer.specs.declared.sign.Sign.TheVariants as s
use Rattle.mace_ast.specs.declared.name.Name.{Name}
use Rattle.mace_ast.specs.declared.expr.BinaryOp.{BinaryOp}
use Rattle.mace_ast.specs.Exprs as e
use Rattle.mace_ast.specs.Exprs.{ExprTree, exprs_of}
use Rattle.mace_ast.specs.Stmts as st
use Rattle.mace_ast.specs.Stmts.{StmtTree, stmts_of, else_of}
use Rattle.mace_grammar.specs.Part.{Part}
use Rattle.mace_lexer.specs.Words.{keyword}
use Rattle.mace_grammar.specs.Words as w
use Rattle.mace_grammar.specs.Words.{Edition, first}
use Rattle.mace_grammar.specs.Fits.{Each, IfThere}
use Rattle.mace_grammar.specs.Grammar as g
use Rattle.mace_printer.specs.Canon.{in_parens, level_of, left_level_of, sign_of, expr_words, args_words, more_words, whole_words, index_words, listed_words, call_words, target_words, maybe_index, stmt_words, stmts_words, else_words, body_words, braced_words, maybe_words}
use Rattle.mace_printer.proofs.Standing.{CanStand, Stand}
use Rattle.mace_printer.proofs.Holds.{Holds, any, pure_holds, word_holds, then_holds, or_holds, many_holds, maybe_holds, deep_holds, Named, name_holds, field_holds, in_parens_hold, all_stand, listed_stand, stand_both}

-- ---- expressions

abbrev pub Fine : ExprTree → Type 0
Fine t = (l : ℕ) → Stand (expr_words t l)

fine_parens : (b : Bool) (ws : List Word) → Stand ws → Stand (in_parens b ws)
fine_parens true ws h = (tt, stand_both ws (word.Sign s.RightParen ∷ []) h (tt, tt))
fine_parens false ws h = h

fine_joined : (a : ExprTree) (o : BinaryOp) (b : ExprTree) → Fine a → Fine b → Fine (g.binary_of a (o, b))
fine_joined a o b ha hb = λ l. fine_parens (nat_lt (level_of o) l) (expr_words a (left_level_of o) ++ (word.Sign (sign_of o) ∷ expr_words b (level_of o + 1))) (stand_both (expr_words a (left_level_of o)) (word.Sign (sign_of o) ∷ expr_words b (level_of o + 1)) (ha (left_level_of o)) (tt, hb (level_of o + 1)))

abbrev FineRight : BinaryOp × ExprTree → Type 0
FineRight x = Fine x.1

fine_fold : (others : List (BinaryOp × ExprTree)) (left : ExprTree) → Fine left → Each FineRight others → Fine (fold g.binary_of left others)
fine_fold [] left h k = h
fine_fold (x ∷ others) left h k = fine_fold others (g.binary_of left x) (fine_joined left x.0 x.1 h k.0) k.1

args_fine : (found : List ExprTree) → Each Fine found → Stand (args_words (exprs_of found))
args_fine [] h = tt
args_fine (t ∷ ts) h = stand_both (expr_words t 0) (more_words (exprs_of ts)) (h.0 0) (more_fine ts h.1)
  where
    more_fine : (found : List ExprTree) → Each Fine found → Stand (more_words (exprs_of found))
    more_fine [] h = tt
    more_fine (t ∷ ts) h = (tt, stand_both (expr_words t 0) (more_words (exprs_of ts)) (h.0 0) (more_fine ts h.1))

pub index_fine : (t : ExprTree) → Fine t → Stand (index_words t)
index_fine t h = (tt, stand_both (expr_words t 0) (word.Sign s.RightBracket ∷ []) (h 0) (tt, tt))

literal_key_fine : (at : Span) (j : Keyword) (t : ExprTree) → w.literal_of_key at j ≡ Some t → Fine t
literal_key_fine at k.True t h = let same : e.Boolean at true ≡ t = cc in subst Fine same (λ l. (tt, tt))
literal_key_fine at k.False t h = let same : e.Boolean at false ≡ t = cc in subst Fine same (λ l. (tt, tt))
literal_key_fine at k.Empty t h = let same : e.Empty at ≡ t = cc in subst Fine same (λ l. (tt, tt))
literal_key_fine at _ t h = cc

literal_fine : (at : Span) (v : Word) (t : ExprTree) → CanStand v → w.literal_word at v ≡ Some t → Fine t
literal_fine at (word.Number n) t c h = let same : e.Number at n ≡ t = cc in subst Fine same (λ l. (c, tt))
literal_fine at (word.Text b) t c h = let same : e.Text at b ≡ t = cc in subst Fine same (λ l. (c, tt))
literal_fine at (word.Key j) t c h = literal_key_fine at j t h
literal_fine at (word.Name n) t c h = cc
literal_fine at (word.Sign j) t c h = cc

module _ {item : Part ExprTree} (H : Holds Fine item) where
  operand_fine : (o : Part BinaryOp) → Holds FineRight (g.operand o item)
  operand_fine o = then_holds (any o) (λ x _. then_holds H (λ t ht. pure_holds FineRight (x, t) ht))

  chain_fine : (o : Part BinaryOp) → Holds Fine (g.chain item o)
  chain_fine o = then_holds H (λ first hf. then_holds (many_holds (operand_fine o)) (λ others ho. pure_holds Fine (fold g.binary_of first others) (fine_fold others first hf ho)))

fine_compared : (left : ExprTree) (right : Option (BinaryOp × ExprTree)) → Fine left → IfThere FineRight right → Fine (g.comparison_of left right)
fine_compared left None h k = h
fine_compared left (Some x) h k = fine_joined left x.0 x.1 h k

module _ (edition : Edition) where
  module _ (u : Part ExprTree) (H : Holds Fine u) where
    sum_fine : Holds Fine (g.sum edition u)
    sum_fine = chain_fine (chain_fine H (w.operator w.product_op)) (w.operator w.sum_op)

    comparison_fine : Holds Fine (g.comparison edition u)
    comparison_fine = then_holds sum_fine (λ left hl. then_holds (maybe_holds (operand_fine sum_fine (w.operator w.comparison_op))) (λ right hr. pure_holds Fine (g.comparison_of left right) (fine_compared left right hl hr)))

    expr_fine : Holds Fine (g.expr edition u)
    expr_fine = chain_fine (chain_fine comparison_fine (w.operator w.and_op)) (w.operator w.or_op)

    arguments_fine : Holds (Each Fine) (g.arguments edition u)
    arguments_fine = in_parens_hold expr_fine

    bracketed_fine : Holds Fine (g.bracketed_expr edition u)
    bracketed_fine = then_holds (any (w.sign s.LeftBracket)) (λ _ _. then_holds expr_fine (λ t ht. then_holds (any (w.sign s.RightBracket)) (λ _ _. pure_holds Fine t ht)))

    parenthesized_fine : Holds Fine (g.parenthesized_expr edition u)
    parenthesized_fine = then_holds (any (w.sign s.LeftParen)) (λ _ _. then_holds expr_fine (λ t ht. then_holds (any (w.sign s.RightParen)) (λ _ _. pure_holds Fine t ht)))

    read_fine : Holds Fine (g.read edition u)
    read_fine = then_holds (name_holds edition) (λ n hn. pure_holds Fine (e.Read n.at n.text) (λ l. (hn, tt)))

    above_fine : Holds Fine (g.above edition u)
    above_fine = then_holds (name_holds edition) (λ c hc. then_holds (field_holds edition) (λ f hf. pure_holds Fine (e.Above c.at c.text f.text) (λ l. (hc, (tt, (hf, tt))))))

    call_fine : Holds Fine (g.call edition u)
    call_fine = then_holds (name_holds edition) (λ f hf. then_holds arguments_fine (λ found ha. pure_holds Fine (e.Call f.at f.text (exprs_of found)) (λ l. (hf, (tt, stand_both (args_words (exprs_of found)) (word.Sign s.RightParen ∷ []) (args_fine found ha) (tt, tt))))))

    index_node_fine : Holds Fine (g.index edition u)
    index_node_fine = then_holds (name_holds edition) (λ m hm. then_holds bracketed_fine (λ t ht. pure_holds Fine (e.Index m.at m.text t) (λ l. (hm, index_fine t ht))))

    above_index_fine : Holds Fine (g.above_index edition u)
    above_index_fine = then_holds (name_holds edition) (λ c hc. then_holds (field_holds edition) (λ f hf. then_holds bracketed_fine (λ t ht. pure_holds Fine (e.AboveIndex c.at c.text f.text t) (λ l. (hc, (tt, (hf, index_fine t ht)))))))

    child_call_fine : Holds Fine (g.child_call edition u)
    child_call_fine = then_holds (name_holds edition) (λ c hc. then_holds bracketed_fine (λ t ht. then_holds (field_holds edition) (λ f hf. then_holds arguments_fine (λ found ha. pure_holds Fine (e.ChildCall c.at c.text t f.text (exprs_of found))
        (λ l. let args : List Word = args_words (exprs_of found) ++ (word.Sign s.RightParen ∷ []) in (
          hc,
          (
            tt,
            stand_both (expr_words t 0) (word.Sign s.RightBracket ∷ word.Sign s.Dot ∷ word.Name f.text ∷ word.Sign s.LeftParen ∷ args) (ht 0)
                (tt, (tt, (hf, (tt, stand_both (args_words (exprs_of found)) (word.Sign s.RightParen ∷ []) (args_fine found ha) (tt, tt))))),
          ),
        ))))))

    literal_holds : Holds Fine w.literal
    literal_holds = word_holds Fine (λ t. w.literal_word t.span t.word) (λ t x h e. literal_fine t.span t.word x h e)

    primary_fine : Holds Fine (g.primary edition u)
    primary_fine = or_holds literal_holds (or_holds parenthesized_fine (or_holds read_fine (or_holds above_fine (or_holds call_fine (or_holds index_node_fine (or_holds above_index_fine child_call_fine))))))

    signed_fine : Holds Fine (g.signed_expr edition u)
    signed_fine = then_holds (any w.unary_op) (λ o _. then_holds H (λ t ht. pure_holds Fine (e.Unary o.0 o.1 t) (λ l. (tt, ht 5))))

    node_fine : Holds Fine (g.signed_or_primary edition u)
    node_fine = or_holds signed_fine primary_fine

  unary_fine : Holds Fine (g.unary edition)
  unary_fine = deep_holds Fine (g.signed_or_primary edition) node_fine

  pub any_expr_fine : Holds Fine (g.any_expr edition)
  unfolding g.any_expr
  any_expr_fine = expr_fine (g.unary edition) unary_fine

  pub any_key_fine : Holds Fine (g.any_key edition)
  unfolding g.any_key
  any_key_fine = bracketed_fine (g.unary edition) unary_fine

  any_arguments_fine : Holds (Each Fine) (g.any_arguments edition)
  unfolding g.any_arguments
  any_arguments_fine = arguments_fine (g.unary edition) unary_fine

  -- ---- statements

  abbrev pub Stands : StmtTree → Type 0
  Stands x = Stand (stmt_words x)

  abbrev pub semicolon : List Word
  semicolon = word.Sign s.Semicolon ∷ []

  pub ended : (ws : List Word) → Stand ws → Stand (ws ++ semicolon)
  ended ws h = stand_both ws semicolon h (tt, tt)

  pub value_ended : (t : ExprTree) → Fine t → Stand (whole_words t ++ semicolon)
  value_ended t h = ended (whole_words t) (h 0)

  paren_args_fine : (found : List ExprTree) → Each Fine found → Stand (word.Sign s.LeftParen ∷ (listed_words whole_words found ++ (word.Sign s.RightParen ∷ [])))
  paren_args_fine found h = (tt, stand_both (listed_words whole_words found) (word.Sign s.RightParen ∷ []) (listed_stand Fine whole_words (λ t ht. ht 0) found h) (tt, tt))

  call_words_fine : (f : List ℕ) (found : List ExprTree) → CanStand (word.Name f) → Each Fine found → Stand (call_words f found)
  call_words_fine f found hf h = (hf, paren_args_fine found h)

  target_fine : (x : Name) (o : Option Name) → Named x → IfThere Named o → Stand (target_words (g.target x o))
  target_fine x None h k = (h, tt)
  target_fine x (Some f) h k = (h, (tt, (k, tt)))

  maybe_index_fine : (o : Option ExprTree) → IfThere Fine o → Stand (maybe_index o)
  maybe_index_fine None h = tt
  maybe_index_fine (Some t) h = index_fine t h

  let_stands : Holds Stands (g.let_stmt edition)
  let_stands = then_holds (any (w.key k.Let)) (λ at _. then_holds (name_holds edition) (λ n hn. then_holds (any (w.sign s.Equals)) (λ _ _. then_holds any_expr_fine (λ v hv. then_holds (any (w.sign s.Semicolon)) (λ _ _. pure_holds Stands (st.Let at n v) (tt, (hn, (tt, value_ended v hv))))))))

  require_stands : Holds Stands (g.require_stmt edition)
  require_stands = then_holds (any (w.key k.Require)) (λ at _. then_holds any_expr_fine (λ v hv. then_holds (any (w.sign s.Semicolon)) (λ _ _. pure_holds Stands (st.Require at v) (tt, value_ended v hv))))

  text_stands : (v : Word) (t : List ℕ) → CanStand v → w.text_word v ≡ Some t → CanStand (word.Text t)
  text_stands (word.Text b) t h e = let same : b ≡ t = cc in subst (λ x. CanStand (word.Text x)) same h
  text_stands (word.Name b) t h e = cc
  text_stands (word.Number n) t h e = cc
  text_stands (word.Key j) t h e = cc
  text_stands (word.Sign j) t h e = cc

  abbrev Quotable : List ℕ → Type 0
  Quotable t = CanStand (word.Text t)

  text_holds : Holds Quotable w.text
  text_holds = word_holds Quotable (λ t. w.text_word t.word) (λ t x h e. text_stands t.word x h e)

  send_stands : Holds Stands (g.send_stmt edition)
  send_stands = then_holds (any (w.key k.Send)) (λ at _. then_holds text_holds (λ label hl. then_holds (any (w.sign s.Comma)) (λ _ _. then_holds any_expr_fine (λ v hv. then_holds (any (w.sign s.Semicolon)) (λ _ _. pure_holds Stands (st.Send at label v) (tt, (hl, (tt, value_ended v hv))))))))

  spawn_stands : Holds Stands (g.spawn_stmt edition)
  spawn_stands = then_holds (any (w.key k.Spawn)) (λ at _. then_holds (name_holds edition) (λ n hn. then_holds any_arguments_fine (λ found ha. then_holds (any (w.sign s.Semicolon)) (λ _ _. pure_holds Stands (st.Spawn at n.text found) (tt, ended (call_words n.text found) (call_words_fine n.text found hn ha))))))

  drop_stands : Holds Stands (g.drop_stmt edition)
  drop_stands = then_holds (any (w.key k.Drop)) (λ at _. then_holds (name_holds edition) (λ n hn. then_holds (maybe_holds (field_holds edition)) (λ inner hi. then_holds any_key_fine (λ place hp. then_holds (any (w.sign s.Semicolon)) (λ _ _. pure_holds Stands (st.Cut at (g.target n inner) place)
      (tt, stand_both (target_words (g.target n inner)) (index_words place ++ semicolon) (target_fine n inner hn hi) (ended (index_words place) (index_fine place hp))))))))

  set_stands : Holds Stands (g.set_stmt edition)
  set_stands = then_holds (name_holds edition) (λ n hn. then_holds (maybe_holds (field_holds edition)) (λ inner hi. then_holds (maybe_holds any_key_fine) (λ place hp. then_holds (any (w.sign s.Equals)) (λ _ _. then_holds any_expr_fine (λ v hv. then_holds (any (w.sign s.Semicolon)) (λ _ _. pure_holds Stands (st.Set n.at (g.target n inner) place v)
      (stand_both (target_words (g.target n inner)) (maybe_index place ++ (word.Sign s.Equals ∷ (whole_words v ++ semicolon))) (target_fine n inner hn hi) (stand_both (maybe_index place) (word.Sign s.Equals ∷ (whole_words v ++ semicolon)) (maybe_index_fine place hp) (tt, value_ended v hv)))))))))

  call_stands : Holds Stands (g.call_stmt edition)
  call_stands = then_holds (name_holds edition) (λ f hf. then_holds any_arguments_fine (λ found ha. then_holds (any (w.sign s.Semicolon)) (λ _ _. pure_holds Stands (st.Call f.at f.text found) (ended (call_words f.text found) (call_words_fine f.text found hf ha)))))

  child_stands : Holds Stands (g.child_call_stmt edition)
  child_stands = then_holds (name_holds edition) (λ c hc. then_holds any_key_fine (λ place hp. then_holds (field_holds edition) (λ f hf. then_holds any_arguments_fine (λ found ha. then_holds (any (w.sign s.Semicolon)) (λ _ _. pure_holds Stands (st.ChildCall c.at c.text place f.text found)
      (hc, stand_both (index_words place) (word.Sign s.Dot ∷ (call_words f.text found ++ semicolon)) (index_fine place hp) (tt, ended (call_words f.text found) (call_words_fine f.text found hf ha))))))))

  -- ---- statements that end a method or an event early

  maybe_words_fine : (o : Option ExprTree) → IfThere Fine o → Stand (maybe_words o)
  maybe_words_fine None h = tt
  maybe_words_fine (Some t) h = h 0

  finish_can : CanStand (word.Name (codes "finish"))
  unfolding keyword
  finish_can = (refl, omega arith, refl)

  return_stands : Holds Stands (g.return_stmt edition)
  return_stands = then_holds (any (w.leave edition)) (λ at _. then_holds (maybe_holds any_expr_fine) (λ v hv. then_holds (any (w.sign s.Semicolon)) (λ _ _. pure_holds Stands (st.Return at v) (tt, ended (maybe_words v) (maybe_words_fine v hv)))))

  finish_stands : Holds Stands (g.finish_stmt edition)
  finish_stands = then_holds (any (w.finish edition)) (λ at _. then_holds (maybe_holds any_expr_fine) (λ v hv. then_holds (any (w.sign s.Semicolon)) (λ _ _. pure_holds Stands (st.Finish at v) (finish_can, ended (maybe_words v) (maybe_words_fine v hv)))))

  -- ---- statements with blocks

  block_fine : (xs : List StmtTree) (rest : List Word) → Each Stands xs → Stand rest → Stand (word.Sign s.LeftBrace ∷ (stmts_words (stmts_of xs) ++ (word.Sign s.RightBrace ∷ rest)))
  block_fine xs rest h k = (tt, stand_both (stmts_words (stmts_of xs)) (word.Sign s.RightBrace ∷ rest) (stmts_stand xs h) (tt, k))
    where
      stmts_stand : (xs : List StmtTree) → Each Stands xs → Stand (stmts_words (stmts_of xs))
      stmts_stand [] h = tt
      stmts_stand (x ∷ xs) h = stand_both (stmt_words x) (stmts_words (stmts_of xs)) h.0 (stmts_stand xs h.1)

  else_fine : (o : Option (List StmtTree)) → IfThere (Each Stands) o → Stand (else_words (else_of o))
  else_fine None h = tt
  else_fine (Some xs) h = (tt, block_fine xs [] h tt)

  module _ (stmt : Part StmtTree) (H : Holds Stands stmt) where
    block_stands : Holds (Each Stands) (g.block edition stmt)
    block_stands = then_holds (any (w.sign s.LeftBrace)) (λ _ _. then_holds (many_holds H) (λ found hf. then_holds (any (w.sign s.RightBrace)) (λ _ _. pure_holds (Each Stands) found hf)))

    if_stands : Holds Stands (g.if_stmt edition stmt)
    if_stands = then_holds (any (w.key k.If)) (λ at _. then_holds any_expr_fine (λ test ht. then_holds block_stands (λ body hb. then_holds (maybe_holds (then_holds (any (w.key k.Else)) (λ _ _. block_stands))) (λ other ho. pure_holds Stands (st.If at test (stmts_of body) (else_of other))
        (tt, stand_both (whole_words test) (word.Sign s.LeftBrace ∷ (stmts_words (stmts_of body) ++ (word.Sign s.RightBrace ∷ else_words (else_of other)))) (ht 0) (block_fine body (else_words (else_of other)) hb (else_fine other ho)))))))

    while_stands : Holds Stands (g.while_stmt edition stmt)
    while_stands = then_holds (any (w.key k.While)) (λ at _. then_holds any_expr_fine (λ test ht. then_holds block_stands (λ body hb. pure_holds Stands (st.While at test (stmts_of body))
        (tt, stand_both (whole_words test) (word.Sign s.LeftBrace ∷ (stmts_words (stmts_of body) ++ (word.Sign s.RightBrace ∷ []))) (ht 0) (block_fine body [] hb tt)))))

    for_stands : Holds Stands (g.for_stmt edition stmt)
    for_stands = then_holds (any (w.key k.For)) (λ at _. then_holds (name_holds edition) (λ n hn. then_holds (any (w.key k.In)) (λ _ _. then_holds any_expr_fine (λ low hl. then_holds (any (w.key k.To)) (λ _ _. then_holds any_expr_fine (λ high hh. then_holds block_stands (λ body hb. pure_holds Stands (st.For at n low high (stmts_of body))
        (let block : List Word = word.Sign s.LeftBrace ∷ (stmts_words (stmts_of body) ++ (word.Sign s.RightBrace ∷ [])) in
        (tt, (hn, (tt, stand_both (whole_words low) (word.Key k.To ∷ (whole_words high ++ block)) (hl 0) (tt, stand_both (whole_words high) block (hh 0) (block_fine body [] hb tt)))))))))))))

    any_stmt_stands : Holds Stands (g.any_stmt edition stmt)
    any_stmt_stands = or_holds let_stands (or_holds if_stands (or_holds while_stands (or_holds for_stands (or_holds return_stands (or_holds finish_stands (or_holds require_stands (or_holds send_stands (or_holds spawn_stands (or_holds drop_stands (or_holds set_stands (or_holds call_stands child_stands)))))))))))

  stmt_stands : Holds Stands (g.stmt edition)
  stmt_stands = deep_holds Stands (g.any_stmt edition) any_stmt_stands

  pub stmts_hold : Holds (Each Stands) (g.stmts edition)
  unfolding g.stmts
  stmts_hold = many_holds stmt_stands

  pub any_block_holds : Holds (Each Stands) (g.any_block edition)
  unfolding g.any_block
  any_block_holds = block_stands (g.stmt edition) stmt_stands

  pub body_stands : (xs : List StmtTree) → Each Stands xs → Stand (body_words xs)
  body_stands xs h = all_stand Stands stmt_words (λ x hx. hx) xs h

  pub braced_stand : (xs : List StmtTree) → Each Stands xs → Stand (braced_words xs)
  braced_stand xs h = (tt, stand_both (body_words xs) (word.Sign s.RightBrace ∷ []) (body_stands xs h) (tt, tt))
