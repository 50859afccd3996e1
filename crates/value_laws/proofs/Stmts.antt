-- The statements that tokens spell are bounded where the numbers and texts of the tokens are within the limits.
use Rattle.std.proofs.Common.{◌≡◌, ℕ, List, Option, Some, subst}
use Rattle.wave_base.specs.declared.span.Span.{Span}
use Rattle.wave_base.specs.Text.{IsText}
use Rattle.mace_lexer.specs.declared.keyword.Keyword.TheVariants as k
use Rattle.mace_lexer.specs.declared.sign.Sign.TheVariants as s
use Rattle.mace_lexer.specs.declared.token.Word.{Word}
use Rattle.mace_lexer.specs.declared.token.Word.TheVariants as word
use Rattle.mace_ast.specs.declared.name.Name.{Name}
use Rattle.mace_ast.specs.declared.stmt.Target.{Target}
use Rattle.mace_ast.specs.Exprs.{ExprTree, exprs_of}
use Rattle.mace_ast.specs.Stmts as st
use Rattle.mace_ast.specs.Stmts.{StmtTree, stmts_of, else_of}
use Rattle.mace_grammar.specs.Grammar as g
use Rattle.mace_grammar.specs.Part.{Part, maybe}
use Rattle.mace_grammar.specs.Words as w
use Rattle.mace_grammar.specs.Words.{Edition}
use Rattle.type_rules.specs.Exprs.{resolve, resolve_all}
use Rattle.type_rules.specs.Here.{behind, callee_named, with_counter}
use Rattle.type_rules.specs.Stmts.{after_all, target_variable}
use Rattle.value_laws.proofs.Bounded.{IsExpr, IsStmt, args_bounded, called_bounded, cut_bounded, else_bounded, maybe_bounded, set_bounded, stmts_bounded}
use Rattle.value_laws.proofs.Exprs.{IsToken, IsWord, any_arguments, any_expr, any_key}
use Rattle.mace_grammar.proofs.Parts.{Each, Gives, IfThere, any, down, each, either, next, none_not, perhaps, some_same, token, whole}

-- ---- each statement

let_is : (at : Span) (n : Name) (value : ExprTree) → IsExpr value → IsStmt (st.Let at n value)
let_is at n value f = record { so = λ h. f.so h }

require_is : (at : Span) (test : ExprTree) → IsExpr test → IsStmt (st.Require at test)
require_is at test f = record { so = λ h. f.so h }

send_is : (at : Span) (label : List ℕ) (value : ExprTree) → IsText label → IsExpr value → IsStmt (st.Send at label value)
send_is at label value t f = record { so = λ h. (t, f.so h) }

spawn_is : (at : Span) (event : List ℕ) (args : List ExprTree) → Each IsExpr args → IsStmt (st.Spawn at event args)
spawn_is at event args fs = record { so = λ h. args_bounded h args fs }

cut_is : (at : Span) (x : Target) (place : ExprTree) → IsExpr place → IsStmt (st.Cut at x place)
cut_is at x place f = record { so = λ h. cut_bounded at (target_variable h x) (resolve h place) (f.so h) }

set_is : (at : Span) (x : Target) (place : Option ExprTree) (value : ExprTree) → IfThere IsExpr place → IsExpr value → IsStmt (st.Set at x place value)
set_is at x place value f v = record { so = λ h. set_bounded h at (target_variable h x) place (resolve h value) f (v.so h) }

call_is : (f : Name) (args : List ExprTree) → Each IsExpr args → IsStmt (st.Call f.at f.text args)
call_is f args fs = record { so = λ h. called_bounded f.at (callee_named h f.text) (resolve_all h (exprs_of args)) (args_bounded h args fs) }

child_call_is : (c f : Name) (place : ExprTree) (args : List ExprTree) → IsExpr place → Each IsExpr args → IsStmt (st.ChildCall c.at c.text place f.text args)
child_call_is c f place args q fs = record { so = λ h. (q.so h, args_bounded h args fs) }

return_is : (at : Span) (value : Option ExprTree) → IfThere IsExpr value → IsStmt (st.Return at value)
return_is at value f = record { so = λ h. maybe_bounded h value f }

finish_is : (at : Span) (value : Option ExprTree) → IfThere IsExpr value → IsStmt (st.Finish at value)
finish_is at value f = record { so = λ h. maybe_bounded h value f }

if_is : (at : Span) (test : ExprTree) (body : List StmtTree) (other : Option (List StmtTree)) → IsExpr test → Each IsStmt body → IfThere (Each IsStmt) other → IsStmt (st.If at test (stmts_of body) (else_of other))
if_is at test body other f b o = record { so = λ h. (f.so h, stmts_bounded h body b, else_bounded (behind h (after_all h (stmts_of body))) other o) }

while_is : (at : Span) (test : ExprTree) (body : List StmtTree) → IsExpr test → Each IsStmt body → IsStmt (st.While at test (stmts_of body))
while_is at test body f b = record { so = λ h. (f.so h, stmts_bounded h body b) }

for_is : (at : Span) (n : Name) (low high : ExprTree) (body : List StmtTree) → IsExpr low → IsExpr high → Each IsStmt body → IsStmt (st.For at n low high (stmts_of body))
for_is at n low high body f t b = record { so = λ h. (f.so h, t.so h, stmts_bounded (with_counter h n.text) body b) }

-- ---- the label of a message

label_word : (v : Word) (t : List ℕ) → IsWord v → w.text_word v ≡ Some t → IsText t
label_word (word.Text u) t f e = subst IsText (some_same u t e) f
label_word (word.Number n) t f e = absurd (none_not e)
label_word (word.Key j) t f e = absurd (none_not e)
label_word (word.Name u) t f e = absurd (none_not e)
label_word (word.Sign j) t f e = absurd (none_not e)

label : Gives IsToken IsText w.text
label = token (λ t. w.text_word t.word) (λ t u f e. label_word t.word u f e)

-- ---- productions

module _ (edition : Edition) where
  let_stmt : Gives IsToken IsStmt (g.let_stmt edition)
  let_stmt = next (any (w.key k.Let)) (λ at _. next (any (w.name edition)) (λ n _. next (any (w.sign s.Equals)) (λ to _. next (any_expr edition) (λ value f. next (any (w.sign s.Semicolon)) (λ end _. whole (st.Let at n value) (let_is at n value f))))))

  require_stmt : Gives IsToken IsStmt (g.require_stmt edition)
  require_stmt = next (any (w.key k.Require)) (λ at _. next (any_expr edition) (λ test f. next (any (w.sign s.Semicolon)) (λ end _. whole (st.Require at test) (require_is at test f))))

  send_stmt : Gives IsToken IsStmt (g.send_stmt edition)
  send_stmt = next (any (w.key k.Send)) (λ at _. next label (λ text t. next (any (w.sign s.Comma)) (λ to _. next (any_expr edition) (λ value f. next (any (w.sign s.Semicolon)) (λ end _. whole (st.Send at text value) (send_is at text value t f))))))

  spawn_stmt : Gives IsToken IsStmt (g.spawn_stmt edition)
  spawn_stmt = next (any (w.key k.Spawn)) (λ at _. next (any (w.name edition)) (λ n _. next (any_arguments edition) (λ found fs. next (any (w.sign s.Semicolon)) (λ end _. whole (st.Spawn at n.text found) (spawn_is at n.text found fs)))))

  drop_stmt : Gives IsToken IsStmt (g.drop_stmt edition)
  drop_stmt = next (any (w.key k.Drop)) (λ at _. next (any (w.name edition)) (λ n _. next (any (maybe (g.field edition))) (λ inner _. next (any_key edition) (λ place f. next (any (w.sign s.Semicolon)) (λ end _. whole (st.Cut at (g.target n inner) place) (cut_is at (g.target n inner) place f))))))

  set_stmt : Gives IsToken IsStmt (g.set_stmt edition)
  set_stmt = next (any (w.name edition)) (λ n _. next (any (maybe (g.field edition))) (λ inner _. next (perhaps (any_key edition)) (λ place f. next (any (w.sign s.Equals)) (λ to _. next (any_expr edition) (λ value v. next (any (w.sign s.Semicolon)) (λ end _. whole (st.Set n.at (g.target n inner) place value) (set_is n.at (g.target n inner) place value f v)))))))

  call_stmt : Gives IsToken IsStmt (g.call_stmt edition)
  call_stmt = next (any (w.name edition)) (λ f _. next (any_arguments edition) (λ found fs. next (any (w.sign s.Semicolon)) (λ end _. whole (st.Call f.at f.text found) (call_is f found fs))))

  child_call_stmt : Gives IsToken IsStmt (g.child_call_stmt edition)
  child_call_stmt = next (any (w.name edition)) (λ c _. next (any_key edition) (λ place q. next (any (g.field edition)) (λ f _. next (any_arguments edition) (λ found fs. next (any (w.sign s.Semicolon)) (λ end _. whole (st.ChildCall c.at c.text place f.text found) (child_call_is c f place found q fs))))))

  return_stmt : Gives IsToken IsStmt (g.return_stmt edition)
  return_stmt = next (any (w.leave edition)) (λ at _. next (perhaps (any_expr edition)) (λ value f. next (any (w.sign s.Semicolon)) (λ end _. whole (st.Return at value) (return_is at value f))))

  finish_stmt : Gives IsToken IsStmt (g.finish_stmt edition)
  finish_stmt = next (any (w.finish edition)) (λ at _. next (perhaps (any_expr edition)) (λ value f. next (any (w.sign s.Semicolon)) (λ end _. whole (st.Finish at value) (finish_is at value f))))

  module _ (p : Part StmtTree) (F : Gives IsToken IsStmt p) where
    block : Gives IsToken (Each IsStmt) (g.block edition p)
    block = next (any (w.sign s.LeftBrace)) (λ at _. next (each F) (λ found fs. next (any (w.sign s.RightBrace)) (λ to _. whole found fs)))

    if_stmt : Gives IsToken IsStmt (g.if_stmt edition p)
    if_stmt = next (any (w.key k.If)) (λ at _. next (any_expr edition) (λ test f. next block (λ body b. next (perhaps (next (any (w.key k.Else)) (λ to _. block))) (λ other o. whole (st.If at test (stmts_of body) (else_of other)) (if_is at test body other f b o)))))

    while_stmt : Gives IsToken IsStmt (g.while_stmt edition p)
    while_stmt = next (any (w.key k.While)) (λ at _. next (any_expr edition) (λ test f. next block (λ body b. whole (st.While at test (stmts_of body)) (while_is at test body f b))))

    for_stmt : Gives IsToken IsStmt (g.for_stmt edition p)
    for_stmt =
        next (any (w.key k.For))
        (λ at _. next (any (w.name edition))
        (λ n _. next (any (w.key k.In))
        (λ from _. next (any_expr edition)
        (λ low f. next (any (w.key k.To))
        (λ to _. next (any_expr edition)
        (λ high f'. next block
        (λ body b. whole (st.For at n low high (stmts_of body)) (for_is at n low high body f f' b))))))))

    any_stmt : Gives IsToken IsStmt (g.any_stmt edition p)
    any_stmt =
        either let_stmt (either if_stmt (either while_stmt (either for_stmt (either return_stmt (either finish_stmt
        (either require_stmt (either send_stmt (either spawn_stmt (either drop_stmt (either set_stmt (either call_stmt child_call_stmt)))))))))))

  stmt : Gives IsToken IsStmt (g.stmt edition)
  stmt = down any_stmt

  pub stmts : Gives IsToken (Each IsStmt) (g.stmts edition)
  unfolding g.stmts
  stmts = each stmt

  pub any_block : Gives IsToken (Each IsStmt) (g.any_block edition)
  unfolding g.any_block
  any_block = block (g.stmt edition) stmt
