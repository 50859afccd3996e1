-- The traps of the statements that tokens spell stand where tokens do.
use Rattle.std.proofs.Common.{List, Option}
use Rattle.wave_base.specs.declared.span.Span.{Span}
use Rattle.mace_lexer.specs.declared.keyword.Keyword.TheVariants as k
use Rattle.mace_lexer.specs.declared.sign.Sign.TheVariants as s
use Rattle.mace_ast.specs.declared.name.Name.{Name}
use Rattle.mace_ast.specs.declared.stmt.Target.{Target}
use Rattle.mace_ast.specs.Exprs.{ExprTree, exprs_of}
use Rattle.mace_ast.specs.Stmts as st
use Rattle.mace_ast.specs.Stmts.{StmtTree, stmts_of, else_of}
use Rattle.mace_grammar.proofs.Parts.{Each, Gives, IfThere, any, down, each, either, next, perhaps, whole}
use Rattle.mace_grammar.specs.Grammar as g
use Rattle.mace_grammar.specs.Part.{Part, maybe}
use Rattle.mace_grammar.specs.Words as w
use Rattle.mace_grammar.specs.Words.{Edition}
use Rattle.type_rules.specs.Exprs.{resolve, resolve_all}
use Rattle.type_rules.specs.Here.{behind, callee_named, with_counter}
use Rattle.type_rules.specs.Stmts.{after_all, resolve_else, resolve_stmts, target_variable}
use Rattle.trap_laws.specs.Traps.{else_traps, steps_traps, tree_traps, trees_traps}
use Rattle.trap_laws.proofs.Exprs.{any_arguments, any_expr, any_key}
use Rattle.trap_laws.proofs.Words.{Stands, key, name}
use Rattle.trap_laws.proofs.Placed.{ExprPlaced, StmtPlaced, and_then, args_placed, called_placed, cut_placed, else_placed, for_placed, if_placed, maybe_placed, set_placed, stmts_placed}

module _ (P : Span → Type 0) where
  abbrev IsPlaced : StmtTree → Type 0
  IsPlaced x = StmtPlaced P x

  abbrev IsExpr : ExprTree → Type 0
  IsExpr x = ExprPlaced P x

  -- ---- what can trap of each statement

  let_is : (at : Span) (n : Name) (value : ExprTree) → IsExpr value → IsPlaced (st.Let at n value)
  let_is at n value f = record { traps = λ h. f.traps h }

  require_is : (at : Span) (test : ExprTree) → P at → IsExpr test → IsPlaced (st.Require at test)
  require_is at test p f = record { traps = λ h. (p, f.traps h) }

  send_is : (at : Span) (label : List _) (value : ExprTree) → P at → IsExpr value → IsPlaced (st.Send at label value)
  send_is at label value p f = record { traps = λ h. (p, f.traps h) }

  spawn_is : (at : Span) (event : List _) (args : List ExprTree) → P at → Each IsExpr args → IsPlaced (st.Spawn at event args)
  spawn_is at event args p fs = record { traps = λ h. (p, (p, args_placed P h args fs)) }

  cut_is : (at : Span) (x : Target) (place : ExprTree) → P at → IsExpr place → IsPlaced (st.Cut at x place)
  cut_is at x place p f = record { traps = λ h. cut_placed P at (target_variable h x) (resolve h place) p (f.traps h) }

  set_is : (at : Span) (x : Target) (place : Option ExprTree) (value : ExprTree) → P at → IfThere IsExpr place → IsExpr value → IsPlaced (st.Set at x place value)
  set_is at x place value p f v = record { traps = λ h. set_placed P h at (target_variable h x) place (resolve h value) p f (v.traps h) }

  call_is : (f : Name) (args : List ExprTree) → P f.at → Each IsExpr args → IsPlaced (st.Call f.at f.text args)
  call_is f args p fs = record { traps = λ h. called_placed P f.at (callee_named h f.text) (resolve_all h (exprs_of args)) p (args_placed P h args fs) }

  child_call_is : (c f : Name) (place : ExprTree) (args : List ExprTree) → P c.at → IsExpr place → Each IsExpr args → IsPlaced (st.ChildCall c.at c.text place f.text args)
  child_call_is c f place args p q fs = record {
    traps = λ h. (p, (p, and_then P (tree_traps (resolve h place)) (trees_traps (resolve_all h (exprs_of args))) (q.traps h) (args_placed P h args fs)));
  }

  return_is : (at : Span) (value : Option ExprTree) → IfThere IsExpr value → IsPlaced (st.Return at value)
  return_is at value f = record { traps = λ h. maybe_placed P h value f }

  finish_is : (at : Span) (value : Option ExprTree) → IfThere IsExpr value → IsPlaced (st.Finish at value)
  finish_is at value f = record { traps = λ h. maybe_placed P h value f }

  if_is : (at : Span) (test : ExprTree) (body : List StmtTree) (other : Option (List StmtTree)) → IsExpr test → Each IsPlaced body → IfThere (Each IsPlaced) other → IsPlaced (st.If at test (stmts_of body) (else_of other))
  if_is at test body other f b o = record {
    traps = λ h. if_placed P (resolve h test) (steps_traps (resolve_stmts h (stmts_of body))) (else_traps (resolve_else (behind h (after_all h (stmts_of body))) (else_of other)))
        (f.traps h) (stmts_placed P h body b) (else_placed P (behind h (after_all h (stmts_of body))) other o);
  }

  while_is : (at : Span) (test : ExprTree) (body : List StmtTree) → P at → IsExpr test → Each IsPlaced body → IsPlaced (st.While at test (stmts_of body))
  while_is at test body p f b = record { traps = λ h. (p, and_then P (tree_traps (resolve h test)) (steps_traps (resolve_stmts h (stmts_of body))) (f.traps h) (stmts_placed P h body b)) }

  for_is : (at : Span) (n : Name) (low high : ExprTree) (body : List StmtTree) → P at → IsExpr low → IsExpr high → Each IsPlaced body → IsPlaced (st.For at n low high (stmts_of body))
  for_is at n low high body p f f' b = record {
    traps = λ h. for_placed P at (resolve h low) (resolve h high) (steps_traps (resolve_stmts (with_counter h n.text) (stmts_of body))) p (f.traps h) (f'.traps h) (stmts_placed P (with_counter h n.text) body b);
  }

  -- ---- productions

  module _ (edition : Edition) where
    let_stmt : Gives (Stands P) IsPlaced (g.let_stmt edition)
    let_stmt = next (any (w.key k.Let)) (λ at _. next (any (w.name edition)) (λ n _. next (any (w.sign s.Equals)) (λ to _. next (any_expr P edition) (λ value f. next (any (w.sign s.Semicolon)) (λ end _. whole (st.Let at n value) (let_is at n value f))))))

    require_stmt : Gives (Stands P) IsPlaced (g.require_stmt edition)
    require_stmt = next (key P k.Require) (λ at p. next (any_expr P edition) (λ test f. next (any (w.sign s.Semicolon)) (λ end _. whole (st.Require at test) (require_is at test p f))))

    send_stmt : Gives (Stands P) IsPlaced (g.send_stmt edition)
    send_stmt = next (key P k.Send) (λ at p. next (any w.text) (λ label _. next (any (w.sign s.Comma)) (λ to _. next (any_expr P edition) (λ value f. next (any (w.sign s.Semicolon)) (λ end _. whole (st.Send at label value) (send_is at label value p f))))))

    spawn_stmt : Gives (Stands P) IsPlaced (g.spawn_stmt edition)
    spawn_stmt = next (key P k.Spawn) (λ at p. next (any (w.name edition)) (λ n _. next (any_arguments P edition) (λ found fs. next (any (w.sign s.Semicolon)) (λ end _. whole (st.Spawn at n.text found) (spawn_is at n.text found p fs)))))

    drop_stmt : Gives (Stands P) IsPlaced (g.drop_stmt edition)
    drop_stmt = next (key P k.Drop) (λ at p. next (any (w.name edition)) (λ n _. next (any (maybe (g.field edition))) (λ inner _. next (any_key P edition) (λ place f. next (any (w.sign s.Semicolon)) (λ end _. whole (st.Cut at (g.target n inner) place) (cut_is at (g.target n inner) place p f))))))

    set_stmt : Gives (Stands P) IsPlaced (g.set_stmt edition)
    set_stmt = next (name P edition) (λ n p. next (any (maybe (g.field edition))) (λ inner _. next (perhaps (any_key P edition)) (λ place f. next (any (w.sign s.Equals)) (λ to _. next (any_expr P edition) (λ value v. next (any (w.sign s.Semicolon)) (λ end _. whole (st.Set n.at (g.target n inner) place value) (set_is n.at (g.target n inner) place value p f v)))))))

    call_stmt : Gives (Stands P) IsPlaced (g.call_stmt edition)
    call_stmt = next (name P edition) (λ f p. next (any_arguments P edition) (λ found fs. next (any (w.sign s.Semicolon)) (λ end _. whole (st.Call f.at f.text found) (call_is f found p fs))))

    child_call_stmt : Gives (Stands P) IsPlaced (g.child_call_stmt edition)
    child_call_stmt = next (name P edition) (λ c p. next (any_key P edition) (λ place q. next (any (g.field edition)) (λ f _. next (any_arguments P edition) (λ found fs. next (any (w.sign s.Semicolon)) (λ end _. whole (st.ChildCall c.at c.text place f.text found) (child_call_is c f place found p q fs))))))

    return_stmt : Gives (Stands P) IsPlaced (g.return_stmt edition)
    return_stmt = next (any (w.leave edition)) (λ at _. next (perhaps (any_expr P edition)) (λ value f. next (any (w.sign s.Semicolon)) (λ end _. whole (st.Return at value) (return_is at value f))))

    finish_stmt : Gives (Stands P) IsPlaced (g.finish_stmt edition)
    finish_stmt = next (any (w.finish edition)) (λ at _. next (perhaps (any_expr P edition)) (λ value f. next (any (w.sign s.Semicolon)) (λ end _. whole (st.Finish at value) (finish_is at value f))))

    module _ (p : Part StmtTree) (F : Gives (Stands P) IsPlaced p) where
      block : Gives (Stands P) (Each IsPlaced) (g.block edition p)
      block = next (any (w.sign s.LeftBrace)) (λ at _. next (each F) (λ found fs. next (any (w.sign s.RightBrace)) (λ to _. whole found fs)))

      if_stmt : Gives (Stands P) IsPlaced (g.if_stmt edition p)
      if_stmt = next (any (w.key k.If)) (λ at _. next (any_expr P edition) (λ test f. next block (λ body b. next (perhaps (next (any (w.key k.Else)) (λ to _. block))) (λ other o. whole (st.If at test (stmts_of body) (else_of other)) (if_is at test body other f b o)))))

      while_stmt : Gives (Stands P) IsPlaced (g.while_stmt edition p)
      while_stmt = next (key P k.While) (λ at h. next (any_expr P edition) (λ test f. next block (λ body b. whole (st.While at test (stmts_of body)) (while_is at test body h f b))))

      for_stmt : Gives (Stands P) IsPlaced (g.for_stmt edition p)
      for_stmt =
          next (key P k.For)
          (λ at h. next (any (w.name edition))
          (λ n _. next (any (w.key k.In))
          (λ from _. next (any_expr P edition)
          (λ low f. next (any (w.key k.To))
          (λ to _. next (any_expr P edition)
          (λ high f'. next block
          (λ body b. whole (st.For at n low high (stmts_of body)) (for_is at n low high body h f f' b))))))))

      any_stmt : Gives (Stands P) IsPlaced (g.any_stmt edition p)
      any_stmt =
          either let_stmt (either if_stmt (either while_stmt (either for_stmt (either return_stmt (either finish_stmt
          (either require_stmt (either send_stmt (either spawn_stmt (either drop_stmt (either set_stmt (either call_stmt child_call_stmt)))))))))))

    stmt : Gives (Stands P) IsPlaced (g.stmt edition)
    stmt = down any_stmt

    pub stmts : Gives (Stands P) (Each (StmtPlaced P)) (g.stmts edition)
    unfolding g.stmts
    stmts = each stmt

    pub any_block : Gives (Stands P) (Each (StmtPlaced P)) (g.any_block edition)
    unfolding g.any_block
    any_block = block (g.stmt edition) stmt
