-- What tokens spell fits its version.
use Rattle.std.proofs.Common.{◌≡◌, ℕ, ◌⊎◌, inl, inr, true, false, List, [], ◌∷◌, fold, Option, Some, None, pos, refl, sym, subst}
use Rattle.std.specs.Prelude.{unwrap_or}
use Rattle.std.specs.Ordering.{int_eq}
use Rattle.wave_base.specs.declared.span.Span.{Span}
use Rattle.wave_base.specs.declared.version.Version.{Version}
use Rattle.mace_lexer.specs.declared.token.Word.{Word}
use Rattle.mace_lexer.specs.declared.token.Word.TheVariants as word
use Rattle.mace_lexer.specs.declared.keyword.Keyword.{Keyword}
use Rattle.mace_lexer.specs.declared.keyword.Keyword.TheVariants as k
use Rattle.mace_lexer.specs.declared.sign.Sign.TheVariants as s
use Rattle.mace_ast.specs.declared.name.Name.{Name}
use Rattle.mace_ast.specs.declared.expr.BinaryOp.{BinaryOp}
use Rattle.mace_ast.specs.Exprs as e
use Rattle.mace_ast.specs.Exprs.{ExprTree, ExprTrees, exprs_of}
use Rattle.mace_ast.specs.Stmts as st
use Rattle.mace_ast.specs.Stmts.{StmtTree, stmts_of, else_of}
use Rattle.mace_ast.specs.Decls.{ContextTree, Context, contexts_of, ServiceTree}
use Rattle.mace_grammar.specs.Part.{Part, pure}
use Rattle.mace_grammar.specs.Words as w
use Rattle.mace_grammar.specs.Words.{Edition, first, edition_of}
use Rattle.mace_grammar.specs.Grammar as g
use Rattle.mace_grammar.specs.Fits.{Each, IfThere, ExprFits, ExprsFit, TargetFits, StmtFits, StmtsFit, ElseFits, VarFits, ParamFits, LastFits, MethodFits, PhaseFits, EventFits, ContextFits, ContextsFit, ServiceFits}
use Rattle.mace_printer.specs.Written.{IsParsed}
use Rattle.mace_printer.proofs.Holds.{Holds, any, pure_holds, word_holds, then_holds, or_holds, many_holds, maybe_holds, deep_holds, Own, guarded, own_name, own_field, leave_early, finish_holds, end_late, in_parens_hold, cuts_good}

module _ (edition : Edition) where
  abbrev Fits : ExprTree → Type 0
  Fits = ExprFits edition

  abbrev Named : Name → Type 0
  Named = Own edition

  -- ---- expressions

  abbrev RightFits : BinaryOp × ExprTree → Type 0
  RightFits x = Fits x.1

  fold_fits : (others : List (BinaryOp × ExprTree)) (left : ExprTree) → Fits left → Each RightFits others → Fits (fold g.binary_of left others)
  fold_fits [] left h k = h
  fold_fits (x ∷ others) left h k = fold_fits others (g.binary_of left x) (h, k.0) k.1

  args_fit : (found : List ExprTree) → Each Fits found → ExprsFit edition (exprs_of found)
  args_fit [] h = tt
  args_fit (t ∷ ts) h = (h.0, args_fit ts h.1)

  literal_key_fits : (at : Span) (j : Keyword) (t : ExprTree) → w.literal_of_key at j ≡ Some t → Fits t
  literal_key_fits at k.True t h = let same : e.Boolean at true ≡ t = cc in subst Fits same tt
  literal_key_fits at k.False t h = let same : e.Boolean at false ≡ t = cc in subst Fits same tt
  literal_key_fits at k.Empty t h = let same : e.Empty at ≡ t = cc in subst Fits same tt
  literal_key_fits at _ t h = cc

  literal_fits : (at : Span) (v : Word) (t : ExprTree) → w.literal_word at v ≡ Some t → Fits t
  literal_fits at (word.Number n) t h = let same : e.Number at n ≡ t = cc in subst Fits same tt
  literal_fits at (word.Text b) t h = let same : e.Text at b ≡ t = cc in subst Fits same tt
  literal_fits at (word.Key j) t h = literal_key_fits at j t h
  literal_fits at (word.Name n) t h = cc
  literal_fits at (word.Sign j) t h = cc

  literal_holds : Holds Fits w.literal
  literal_holds = word_holds Fits (λ t. w.literal_word t.span t.word) (λ t x h q. literal_fits t.span t.word x q)

  module _ {item : Part ExprTree} (H : Holds Fits item) where
    operand_fits : (o : Part BinaryOp) → Holds RightFits (g.operand o item)
    operand_fits o = then_holds (any o) (λ x _. then_holds H (λ t ht. pure_holds RightFits (x, t) ht))

    chain_fits : (o : Part BinaryOp) → Holds Fits (g.chain item o)
    chain_fits o = then_holds H (λ first hf. then_holds (many_holds (operand_fits o)) (λ others ho. pure_holds Fits (fold g.binary_of first others) (fold_fits others first hf ho)))

  compared_fits : (left : ExprTree) (right : Option (BinaryOp × ExprTree)) → Fits left → IfThere RightFits right → Fits (g.comparison_of left right)
  compared_fits left None h k = h
  compared_fits left (Some x) h k = (h, k)

  module _ (u : Part ExprTree) (H : Holds Fits u) where
    sum_fits : Holds Fits (g.sum edition u)
    sum_fits = chain_fits (chain_fits H (w.operator w.product_op)) (w.operator w.sum_op)

    comparison_fits : Holds Fits (g.comparison edition u)
    comparison_fits = then_holds sum_fits (λ left hl. then_holds (maybe_holds (operand_fits sum_fits (w.operator w.comparison_op))) (λ right hr. pure_holds Fits (g.comparison_of left right) (compared_fits left right hl hr)))

    expr_fits : Holds Fits (g.expr edition u)
    expr_fits = chain_fits (chain_fits comparison_fits (w.operator w.and_op)) (w.operator w.or_op)

    arguments_fit : Holds (Each Fits) (g.arguments edition u)
    arguments_fit = in_parens_hold expr_fits

    bracketed_fits : Holds Fits (g.bracketed_expr edition u)
    bracketed_fits = then_holds (any (w.sign s.LeftBracket)) (λ _ _. then_holds expr_fits (λ t ht. then_holds (any (w.sign s.RightBracket)) (λ _ _. pure_holds Fits t ht)))

    parenthesized_fits : Holds Fits (g.parenthesized_expr edition u)
    parenthesized_fits = then_holds (any (w.sign s.LeftParen)) (λ _ _. then_holds expr_fits (λ t ht. then_holds (any (w.sign s.RightParen)) (λ _ _. pure_holds Fits t ht)))

    read_fits : Holds Fits (g.read edition u)
    read_fits = then_holds (own_name edition) (λ n hn. pure_holds Fits (e.Read n.at n.text) hn)

    above_fits : Holds Fits (g.above edition u)
    above_fits = then_holds (own_name edition) (λ c hc. then_holds (own_field edition) (λ f hf. pure_holds Fits (e.Above c.at c.text f.text) (hc, hf)))

    call_fits : Holds Fits (g.call edition u)
    call_fits = then_holds (own_name edition) (λ f hf. then_holds arguments_fit (λ found ha. pure_holds Fits (e.Call f.at f.text (exprs_of found)) (hf, args_fit found ha)))

    index_fits : Holds Fits (g.index edition u)
    index_fits = then_holds (own_name edition) (λ m hm. then_holds bracketed_fits (λ t ht. pure_holds Fits (e.Index m.at m.text t) (hm, ht)))

    above_index_fits : Holds Fits (g.above_index edition u)
    above_index_fits = then_holds (own_name edition) (λ c hc. then_holds (own_field edition) (λ f hf. then_holds bracketed_fits (λ t ht. pure_holds Fits (e.AboveIndex c.at c.text f.text t) (hc, hf, ht))))

    child_call_fits : Holds Fits (g.child_call edition u)
    child_call_fits = then_holds (own_name edition) (λ c hc. then_holds bracketed_fits (λ t ht. then_holds (own_field edition) (λ f hf. then_holds arguments_fit (λ found ha. pure_holds Fits (e.ChildCall c.at c.text t f.text (exprs_of found)) (hc, ht, hf, args_fit found ha)))))

    primary_fits : Holds Fits (g.primary edition u)
    primary_fits = or_holds literal_holds (or_holds parenthesized_fits (or_holds read_fits (or_holds above_fits (or_holds call_fits (or_holds index_fits (or_holds above_index_fits child_call_fits))))))

    signed_fits : Holds Fits (g.signed_expr edition u)
    signed_fits = then_holds (any w.unary_op) (λ o _. then_holds H (λ t ht. pure_holds Fits (e.Unary o.0 o.1 t) ht))

    node_fits : Holds Fits (g.signed_or_primary edition u)
    node_fits = or_holds signed_fits primary_fits

  unary_fits : Holds Fits (g.unary edition)
  unary_fits = deep_holds Fits (g.signed_or_primary edition) node_fits

  any_expr_fits : Holds Fits (g.any_expr edition)
  unfolding g.any_expr
  any_expr_fits = expr_fits (g.unary edition) unary_fits

  any_key_fits : Holds Fits (g.any_key edition)
  unfolding g.any_key
  any_key_fits = bracketed_fits (g.unary edition) unary_fits

  any_arguments_fit : Holds (Each Fits) (g.any_arguments edition)
  unfolding g.any_arguments
  any_arguments_fit = arguments_fit (g.unary edition) unary_fits

  -- ---- statements

  abbrev Stands : StmtTree → Type 0
  Stands = StmtFits edition

  target_fits : (x : Name) (o : Option Name) → Named x → IfThere Named o → TargetFits edition (g.target x o)
  target_fits x None h k = (tt, h)
  target_fits x (Some f) h k = (h, k)

  let_fits : Holds Stands (g.let_stmt edition)
  let_fits = then_holds (any (w.key k.Let)) (λ at _. then_holds (own_name edition) (λ n hn. then_holds (any (w.sign s.Equals)) (λ _ _. then_holds any_expr_fits (λ v hv. then_holds (any (w.sign s.Semicolon)) (λ _ _. pure_holds Stands (st.Let at n v) (hn, hv))))))

  require_fits : Holds Stands (g.require_stmt edition)
  require_fits = then_holds (any (w.key k.Require)) (λ at _. then_holds any_expr_fits (λ v hv. then_holds (any (w.sign s.Semicolon)) (λ _ _. pure_holds Stands (st.Require at v) hv)))

  send_fits : Holds Stands (g.send_stmt edition)
  send_fits = then_holds (any (w.key k.Send)) (λ at _. then_holds (any w.text) (λ label _. then_holds (any (w.sign s.Comma)) (λ _ _. then_holds any_expr_fits (λ v hv. then_holds (any (w.sign s.Semicolon)) (λ _ _. pure_holds Stands (st.Send at label v) hv)))))

  spawn_fits : Holds Stands (g.spawn_stmt edition)
  spawn_fits = then_holds (any (w.key k.Spawn)) (λ at _. then_holds (own_name edition) (λ n hn. then_holds any_arguments_fit (λ found ha. then_holds (any (w.sign s.Semicolon)) (λ _ _. pure_holds Stands (st.Spawn at n.text found) (hn, ha)))))

  drop_fits : Holds Stands (g.drop_stmt edition)
  drop_fits = then_holds (any (w.key k.Drop)) (λ at _. then_holds (own_name edition) (λ n hn. then_holds (maybe_holds (own_field edition)) (λ inner hi. then_holds any_key_fits (λ place hp. then_holds (any (w.sign s.Semicolon)) (λ _ _. pure_holds Stands (st.Cut at (g.target n inner) place) (target_fits n inner hn hi, hp))))))

  set_fits : Holds Stands (g.set_stmt edition)
  set_fits = then_holds (own_name edition) (λ n hn. then_holds (maybe_holds (own_field edition)) (λ inner hi. then_holds (maybe_holds any_key_fits) (λ place hp. then_holds (any (w.sign s.Equals)) (λ _ _. then_holds any_expr_fits (λ v hv. then_holds (any (w.sign s.Semicolon)) (λ _ _. pure_holds Stands (st.Set n.at (g.target n inner) place v) (target_fits n inner hn hi, hp, hv)))))))

  call_stmt_fits : Holds Stands (g.call_stmt edition)
  call_stmt_fits = then_holds (own_name edition) (λ f hf. then_holds any_arguments_fit (λ found ha. then_holds (any (w.sign s.Semicolon)) (λ _ _. pure_holds Stands (st.Call f.at f.text found) (hf, ha))))

  child_stmt_fits : Holds Stands (g.child_call_stmt edition)
  child_stmt_fits = then_holds (own_name edition) (λ c hc. then_holds any_key_fits (λ place hp. then_holds (own_field edition) (λ f hf. then_holds any_arguments_fit (λ found ha. then_holds (any (w.sign s.Semicolon)) (λ _ _. pure_holds Stands (st.ChildCall c.at c.text place f.text found) (hc, hp, hf, ha))))))

  return_fits : Holds Stands (g.return_stmt edition)
  return_fits = then_holds (leave_early edition) (λ at h. then_holds (maybe_holds any_expr_fits) (λ v hv. then_holds (any (w.sign s.Semicolon)) (λ _ _. pure_holds Stands (st.Return at v) (h, hv))))

  finish_fits : Holds Stands (g.finish_stmt edition)
  finish_fits = then_holds (finish_holds edition) (λ at h. then_holds (maybe_holds any_expr_fits) (λ v hv. then_holds (any (w.sign s.Semicolon)) (λ _ _. pure_holds Stands (st.Finish at v) (h, hv))))

  stmts_fit : (xs : List StmtTree) → Each Stands xs → StmtsFit edition (stmts_of xs)
  stmts_fit [] h = tt
  stmts_fit (x ∷ xs) h = (h.0, stmts_fit xs h.1)

  else_fits : (o : Option (List StmtTree)) → IfThere (Each Stands) o → ElseFits edition (else_of o)
  else_fits None h = tt
  else_fits (Some xs) h = stmts_fit xs h

  module _ (stmt : Part StmtTree) (H : Holds Stands stmt) where
    block_fits : Holds (Each Stands) (g.block edition stmt)
    block_fits = then_holds (any (w.sign s.LeftBrace)) (λ _ _. then_holds (many_holds H) (λ found hf. then_holds (any (w.sign s.RightBrace)) (λ _ _. pure_holds (Each Stands) found hf)))

    if_fits : Holds Stands (g.if_stmt edition stmt)
    if_fits = then_holds (any (w.key k.If)) (λ at _. then_holds any_expr_fits (λ test ht. then_holds block_fits (λ body hb. then_holds (maybe_holds (then_holds (any (w.key k.Else)) (λ _ _. block_fits))) (λ other ho. pure_holds Stands (st.If at test (stmts_of body) (else_of other)) (ht, stmts_fit body hb, else_fits other ho)))))

    while_fits : Holds Stands (g.while_stmt edition stmt)
    while_fits = then_holds (any (w.key k.While)) (λ at _. then_holds any_expr_fits (λ test ht. then_holds block_fits (λ body hb. pure_holds Stands (st.While at test (stmts_of body)) (ht, stmts_fit body hb))))

    for_fits : Holds Stands (g.for_stmt edition stmt)
    for_fits = then_holds (any (w.key k.For)) (λ at _. then_holds (own_name edition) (λ n hn. then_holds (any (w.key k.In)) (λ _ _. then_holds any_expr_fits (λ low hl. then_holds (any (w.key k.To)) (λ _ _. then_holds any_expr_fits (λ high hh. then_holds block_fits (λ body hb. pure_holds Stands (st.For at n low high (stmts_of body)) (hn, hl, hh, stmts_fit body hb))))))))

    any_stmt_fits : Holds Stands (g.any_stmt edition stmt)
    any_stmt_fits = or_holds let_fits (or_holds if_fits (or_holds while_fits (or_holds for_fits (or_holds return_fits (or_holds finish_fits (or_holds require_fits (or_holds send_fits (or_holds spawn_fits (or_holds drop_fits (or_holds set_fits (or_holds call_stmt_fits child_stmt_fits)))))))))))

  stmt_fits : Holds Stands (g.stmt edition)
  stmt_fits = deep_holds Stands (g.any_stmt edition) any_stmt_fits

  body_fits : Holds (Each Stands) (g.stmts edition)
  unfolding g.stmts
  body_fits = many_holds stmt_fits

  any_block_fits : Holds (Each Stands) (g.any_block edition)
  unfolding g.any_block
  any_block_fits = block_fits (g.stmt edition) stmt_fits

  -- ---- declarations

  var_fits : Holds (VarFits edition) (g.var edition)
  var_fits = then_holds (any (w.key k.Var)) (λ at _. then_holds (own_name edition) (λ n hn. then_holds (any (w.sign s.Colon)) (λ _ _. then_holds (any w.type) (λ j _. then_holds (any (w.sign s.Equals)) (λ _ _. then_holds (any g.initial) (λ i _. then_holds (any (w.sign s.Semicolon)) (λ _ _. pure_holds (VarFits edition) (record { at = at; name = n; kind = j; initial = i }) hn)))))))

  param_fits : Holds (ParamFits edition) (g.param edition)
  param_fits = then_holds (own_name edition) (λ n hn. then_holds (any (w.sign s.Colon)) (λ _ _. then_holds (any w.type) (λ j _. pure_holds (ParamFits edition) (record { name = n; kind = j }) hn)))

  params_fit : Holds (Each (ParamFits edition)) (g.params edition)
  params_fit = in_parens_hold param_fits

  last_fits : Holds (LastFits edition) (g.last edition (w.end edition))
  last_fits = then_holds (end_late edition) (λ at h. then_holds any_expr_fits (λ v hv. then_holds (any (w.sign s.Semicolon)) (λ _ _. pure_holds (LastFits edition) (record { at = at; value = v }) (h, hv))))

  reply_fits : Holds (λ l. Fits l.value) (g.last edition (w.key k.Reply))
  reply_fits = then_holds (any (w.key k.Reply)) (λ at _. then_holds any_expr_fits (λ v hv. then_holds (any (w.sign s.Semicolon)) (λ _ _. pure_holds (λ l. Fits l.value) (record { at = at; value = v }) hv)))

  method_fits : Holds (MethodFits edition) (g.method edition)
  method_fits = then_holds (any (w.key k.Method)) (λ at _. then_holds (own_name edition) (λ n hn. then_holds params_fit (λ ps hp. then_holds (any g.result) (λ r _. then_holds (any (w.sign s.LeftBrace)) (λ _ _. then_holds body_fits (λ body hb. then_holds (maybe_holds last_fits) (λ end he. then_holds (any (w.sign s.RightBrace)) (λ _ _. pure_holds (MethodFits edition) (record { at = at; name = n; params = ps; result = r; body = body; last = end }) (hn, hp, hb, he)))))))))

  phase_fits : Holds (PhaseFits edition) (g.down edition)
  phase_fits = then_holds (any (w.key k.Down)) (λ at _. then_holds (own_name edition) (λ c hc. then_holds any_key_fits (λ place hp. then_holds any_block_fits (λ body hb. pure_holds (PhaseFits edition) (record { at = at; class = c.text; key = place; body = body }) (hc, hp, hb)))))

  event_fits : Holds (EventFits edition) (g.event edition)
  event_fits = then_holds (any (w.key k.Event)) (λ at _. then_holds (own_name edition) (λ n hn. then_holds params_fit (λ ps hp. then_holds (any g.result) (λ r _. then_holds (any (w.sign s.LeftBrace)) (λ _ _. then_holds (maybe_holds (then_holds (any (w.key k.Here)) (λ _ _. any_block_fits))) (λ here hh. then_holds (many_holds phase_fits) (λ phases hq. then_holds (maybe_holds reply_fits) (λ end he. then_holds (any (w.sign s.RightBrace)) (λ _ _. pure_holds (EventFits edition) (record { at = at; name = n; params = ps; result = r; here = here; phases = phases; last = end }) (hn, hp, hh, hq, he))))))))))

  contexts_fit : (xs : List ContextTree) → Each (ContextFits edition) xs → ContextsFit edition (contexts_of xs)
  contexts_fit [] h = tt
  contexts_fit (x ∷ xs) h = (h.0, contexts_fit xs h.1)

  one_fits : (context : Part ContextTree) → Holds (ContextFits edition) context → Holds (ContextFits edition) (g.one_context edition context)
  one_fits context H = then_holds (any (w.key k.Context)) (λ at _. then_holds (own_name edition) (λ n hn. then_holds (any (w.sign s.LeftBracket)) (λ _ _. then_holds (any (w.key k.Int)) (λ _ _. then_holds (any (w.sign s.RightBracket)) (λ _ _. then_holds (any (w.sign s.LeftBrace)) (λ _ _. then_holds (many_holds var_fits) (λ vs hv. then_holds (many_holds H) (λ cs hc. then_holds (many_holds method_fits) (λ ms hm. then_holds (any (w.sign s.RightBrace)) (λ _ _. pure_holds (ContextFits edition) (Context at n vs (contexts_of cs) ms) (hn, hv, contexts_fit cs hc, hm)))))))))))

  context_fits : Holds (ContextFits edition) (g.context edition)
  context_fits = deep_holds (ContextFits edition) (g.one_context edition) one_fits

-- ---- the service, in its version

members_fit : (version : Version) (at : Span) (n : Name) → Holds ServiceFits (g.members version at n)
unfolding g.members
members_fit version at n =
    let own : Edition = edition_of version in
    then_holds (any (w.sign s.LeftBrace)) (λ _ _. then_holds (many_holds (var_fits own)) (λ vs hv. then_holds (many_holds (context_fits own)) (λ cs hc. then_holds (many_holds (method_fits own)) (λ ms hm. then_holds (many_holds (event_fits own)) (λ es he. then_holds (any (w.sign s.RightBrace)) (λ _ _. pure_holds ServiceFits (record { at = at; name = n; version = version; vars = vs; contexts = cs; methods = ms; events = es }) (hv, hc, hm, he)))))))

service_fits : Holds ServiceFits g.service
unfolding g.service
service_fits = then_holds (any (w.key k.Service)) (λ at _. then_holds (any (w.name first)) (λ n _. then_holds (any w.version_number) (λ version _. members_fit version at n)))

-- a service that was read fits its version
pub parsed_fits : (t : ServiceTree) → IsParsed t → ServiceFits t
parsed_fits t h = let (text, tokens, cut, spelled) = h in service_fits.of t tokens (cuts_good cut) spelled
