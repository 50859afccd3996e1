-- Statements lead on.
use Rattle.wave_base.specs.declared.version.Version.{Version}
use Rattle.mace_lexer.specs.declared.keyword.Keyword.TheVariants as k
use Rattle.mace_lexer.specs.declared.sign.Sign.TheVariants as s
use Rattle.mace_ast.specs.Stmts as st
use Rattle.mace_ast.specs.Stmts.{StmtTree, stmts_of, else_of}
use Rattle.mace_grammar.specs.Part.{Part, ◌or◌}
use Rattle.mace_grammar.specs.Words.{Edition, edition_of}
use Rattle.mace_grammar.specs.Grammar as g
use Rattle.mace_hints.proofs.Leads.{Leads, Live, leads_or, leads_then, live_pure, live_then, live_maybe, live_many, live_deep, some_left}
use Rattle.mace_hints.proofs.Tokens.{key, sign, name, leave, finish, text}
use Rattle.mace_hints.proofs.Exprs as x

module _ (version : Version) where
  abbrev edition : Edition
  edition = edition_of version

  let_stmt : Live (g.let_stmt edition) (g.let_stmt edition)
  let_stmt = live_then (key k.Let) (λ a b. live_then (name version) (λ c d. live_then (sign s.Equals) (λ _ _. live_then (x.any_expr version) (λ i j. live_then (sign s.Semicolon) (λ _ _. live_pure (st.Let a c i) (st.Let b d j))))))

  require_stmt : Live (g.require_stmt edition) (g.require_stmt edition)
  require_stmt = live_then (key k.Require) (λ a b. live_then (x.any_expr version) (λ i j. live_then (sign s.Semicolon) (λ _ _. live_pure (st.Require a i) (st.Require b j))))

  send_stmt : Live (g.send_stmt edition) (g.send_stmt edition)
  send_stmt = live_then (key k.Send) (λ a b. live_then text (λ c d. live_then (sign s.Comma) (λ _ _. live_then (x.any_expr version) (λ i j. live_then (sign s.Semicolon) (λ _ _. live_pure (st.Send a c i) (st.Send b d j))))))

  spawn_stmt : Live (g.spawn_stmt edition) (g.spawn_stmt edition)
  spawn_stmt = live_then (key k.Spawn) (λ a b. live_then (name version) (λ c d. live_then (x.any_arguments version) (λ i j. live_then (sign s.Semicolon) (λ _ _. live_pure (st.Spawn a c.text i) (st.Spawn b d.text j)))))

  drop_stmt : Live (g.drop_stmt edition) (g.drop_stmt edition)
  drop_stmt = live_then (key k.Drop) (λ a b. live_then (name version) (λ c d. live_then (live_maybe (x.field version).leads) (λ e f. live_then (x.any_key version) (λ i j. live_then (sign s.Semicolon) (λ _ _. live_pure (st.Cut a (g.target c e) i) (st.Cut b (g.target d f) j))))))

  set_stmt : Live (g.set_stmt edition) (g.set_stmt edition)
  set_stmt = live_then (name version) (λ c d. live_then (live_maybe (x.field version).leads) (λ e f. live_then (live_maybe (x.any_key version).leads) (λ i j. live_then (sign s.Equals) (λ _ _. live_then (x.any_expr version) (λ y z. live_then (sign s.Semicolon) (λ _ _. live_pure (st.Set c.at (g.target c e) i y) (st.Set d.at (g.target d f) j z)))))))

  call_stmt : Live (g.call_stmt edition) (g.call_stmt edition)
  call_stmt = live_then (name version) (λ c d. live_then (x.any_arguments version) (λ i j. live_then (sign s.Semicolon) (λ _ _. live_pure (st.Call c.at c.text i) (st.Call d.at d.text j))))

  child_call_stmt : Live (g.child_call_stmt edition) (g.child_call_stmt edition)
  child_call_stmt = live_then (name version) (λ c d. live_then (x.any_key version) (λ i j. live_then (x.field version) (λ e f. live_then (x.any_arguments version) (λ y z. live_then (sign s.Semicolon) (λ _ _. live_pure (st.ChildCall c.at c.text i e.text y) (st.ChildCall d.at d.text j f.text z))))))

  return_stmt : Leads (g.return_stmt edition) (g.return_stmt edition)
  return_stmt = leads_then (leave version) (λ a b. live_then (live_maybe (x.any_expr version).leads) (λ i j. live_then (sign s.Semicolon) (λ _ _. live_pure (st.Return a i) (st.Return b j))))

  finish_stmt : Leads (g.finish_stmt edition) (g.finish_stmt edition)
  finish_stmt = leads_then (finish version) (λ a b. live_then (live_maybe (x.any_expr version).leads) (λ i j. live_then (sign s.Semicolon) (λ _ _. live_pure (st.Finish a i) (st.Finish b j))))

  module _ (p q : Part StmtTree) (P : Leads p q) where
    block : Live (g.block edition p) (g.block edition q)
    block = live_then (sign s.LeftBrace) (λ _ _. live_then (live_many P) (λ a b. live_then (sign s.RightBrace) (λ _ _. live_pure a b)))

    if_stmt : Live (g.if_stmt edition p) (g.if_stmt edition q)
    if_stmt = live_then (key k.If) (λ a b. live_then (x.any_expr version) (λ i j. live_then block (λ c d. live_then (live_maybe (live_then (key k.Else) (λ _ _. block)).leads) (λ e f. live_pure (st.If a i (stmts_of c) (else_of e)) (st.If b j (stmts_of d) (else_of f))))))

    while_stmt : Live (g.while_stmt edition p) (g.while_stmt edition q)
    while_stmt = live_then (key k.While) (λ a b. live_then (x.any_expr version) (λ i j. live_then block (λ c d. live_pure (st.While a i (stmts_of c)) (st.While b j (stmts_of d)))))

    for_stmt : Live (g.for_stmt edition p) (g.for_stmt edition q)
    for_stmt = live_then (key k.For) (λ a b. live_then (name version) (λ m n. live_then (key k.In) (λ _ _. live_then (x.any_expr version) (λ i j. live_then (key k.To) (λ _ _. live_then (x.any_expr version) (λ y z. live_then block (λ c d. live_pure (st.For a m i y (stmts_of c)) (st.For b n j z (stmts_of d)))))))))

    any_stmt : Leads (g.any_stmt edition p) (g.any_stmt edition q)
    any_stmt =
        leads_or let_stmt.leads
        (leads_or if_stmt.leads
        (leads_or while_stmt.leads
        (leads_or for_stmt.leads
        (leads_or return_stmt
        (leads_or finish_stmt
        (leads_or require_stmt.leads
        (leads_or send_stmt.leads
        (leads_or spawn_stmt.leads
        (leads_or drop_stmt.leads
        (leads_or set_stmt.leads
        (leads_or call_stmt.leads
        child_call_stmt.leads)))))))))))

  abbrev behind_let : Part StmtTree → Part StmtTree
  behind_let p = g.if_stmt edition p or g.while_stmt edition p or g.for_stmt edition p or g.return_stmt edition or g.finish_stmt edition or g.require_stmt edition or g.send_stmt edition or g.spawn_stmt edition or g.drop_stmt edition or g.set_stmt edition or g.call_stmt edition or g.child_call_stmt edition

  stmt : Live (g.stmt edition) (g.stmt edition)
  stmt = live_deep (g.any_stmt edition) (λ p q P y. any_stmt p q P) (λ p. some_left (g.let_stmt edition) (behind_let p) let_stmt.some)

  pub stmts : Live (g.stmts edition) (g.stmts edition)
  unfolding g.stmts
  stmts = live_many stmt.leads

  pub any_block : Live (g.any_block edition) (g.any_block edition)
  unfolding g.any_block
  any_block = block (g.stmt edition) (g.stmt edition) stmt.leads
