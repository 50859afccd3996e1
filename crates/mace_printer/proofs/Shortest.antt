-- Places make no difference to the canonical words.
use Rattle.std.proofs.Common.{◌≡◌, ◌≤◌, ◌+◌, ℕ, suc, List, [], ◌∷◌, ◌++◌, length, map, Option, Some, None, option_map, refl, ap, arith, length-append}
use Rattle.mace_lexer.specs.declared.token.Word.{Word}
use Rattle.mace_lexer.specs.declared.token.Word.TheVariants as word
use Rattle.mace_lexer.specs.declared.keyword.Keyword.{Keyword}
use Rattle.mace_lexer.specs.declared.keyword.Keyword.TheVariants as k
use Rattle.mace_lexer.specs.declared.sign.Sign.TheVariants as s
use Rattle.mace_ast.specs.declared.method.Param.{Param}
use Rattle.mace_ast.specs.Exprs as e
use Rattle.mace_ast.specs.Exprs.{ExprTree, ExprTrees, no_exprs, expr_and, bare_expr, bare_exprs}
use Rattle.mace_ast.specs.Stmts as st
use Rattle.mace_ast.specs.Stmts.{StmtTree, StmtTrees, ElseTree, no_stmts, stmt_and, no_else, otherwise, bare_stmt, bare_stmts, bare_else}
use Rattle.mace_ast.specs.Decls.{LastTree, MethodTree, PhaseTree, EventTree, ContextTree, ContextTrees, Context, no_contexts, context_and, ServiceTree, bare_var, bare_param, bare_last, bare_method, bare_phase, bare_event, bare_context, bare_contexts, bare_service}
use Rattle.mace_grammar.specs.Spelled.{plain_token, Spelled}
use Rattle.mace_printer.specs.Canon as c
use Rattle.mace_printer.specs.Canon.{expr_words, args_words, more_words, whole_words, level_of, left_level_of}
use Rattle.mace_printer.proofs.Least.{service_least}

mutual
  bare_words : (t : ExprTree) (l : ℕ) → expr_words (bare_expr t) l ≡ expr_words t l
  bare_words (e.Number at n) l = refl
  bare_words (e.Text at b) l = refl
  bare_words (e.Boolean at b) l = refl
  bare_words (e.Empty at) l = refl
  bare_words (e.Read at x) l = refl
  bare_words (e.Above at d x) l = refl
  bare_words (e.Index at x p) l = rw (bare_words p 0) refl
  bare_words (e.AboveIndex at d x p) l = rw (bare_words p 0) refl
  bare_words (e.Call at f a) l = rw (args_bare a) refl
  bare_words (e.ChildCall at d p f a) l = rw (bare_words p 0, args_bare a) refl
  bare_words (e.Unary at o x) l = rw (bare_words x 5) refl
  bare_words (e.Binary at o a b) l = rw (bare_words a (left_level_of o), bare_words b (level_of o + 1)) refl

  args_bare : (a : ExprTrees) → args_words (bare_exprs a) ≡ args_words a
  args_bare no_exprs = refl
  args_bare (expr_and x a) = rw (bare_words x 0, more_bare a) refl

  more_bare : (a : ExprTrees) → more_words (bare_exprs a) ≡ more_words a
  more_bare no_exprs = refl
  more_bare (expr_and x a) = rw (bare_words x 0, more_bare a) refl

module _ {A : Type 0} (f : A → A) (words : A → List Word) (same : (a : A) → words (f a) ≡ words a) where
  further_bare : (xs : List A) → c.further_words words (map f xs) ≡ c.further_words words xs
  further_bare [] = refl
  further_bare (x ∷ xs) = λ i. word.Sign s.Comma ∷ (same x i ++ further_bare xs i)

  listed_bare : (xs : List A) → c.listed_words words (map f xs) ≡ c.listed_words words xs
  listed_bare [] = refl
  listed_bare (x ∷ xs) = λ i. same x i ++ further_bare xs i

  all_bare : (xs : List A) → c.all_of words (map f xs) ≡ c.all_of words xs
  all_bare [] = refl
  all_bare (x ∷ xs) = λ i. same x i ++ all_bare xs i

whole_bare : (t : ExprTree) → whole_words (bare_expr t) ≡ whole_words t
whole_bare t = bare_words t 0

given_bare : (xs : List ExprTree) → c.listed_words whole_words (map bare_expr xs) ≡ c.listed_words whole_words xs
given_bare = listed_bare bare_expr whole_words whole_bare

index_bare : (place : Option ExprTree) → c.maybe_index (option_map bare_expr place) ≡ c.maybe_index place
index_bare None = refl
index_bare (Some p) = rw (bare_words p 0) refl

maybe_bare : (value : Option ExprTree) → c.maybe_words (option_map bare_expr value) ≡ c.maybe_words value
maybe_bare None = refl
maybe_bare (Some v) = rw (bare_words v 0) refl

mutual
  stmt_bare : (t : StmtTree) → c.stmt_words (bare_stmt t) ≡ c.stmt_words t
  stmt_bare (st.Let at x v) = rw (bare_words v 0) refl
  stmt_bare (st.If at v body other) = rw (bare_words v 0, stmts_bare body, else_bare other) refl
  stmt_bare (st.While at v body) = rw (bare_words v 0, stmts_bare body) refl
  stmt_bare (st.For at x low high body) = rw (bare_words low 0, bare_words high 0, stmts_bare body) refl
  stmt_bare (st.Require at v) = rw (bare_words v 0) refl
  stmt_bare (st.Send at l v) = rw (bare_words v 0) refl
  stmt_bare (st.Spawn at f xs) = rw (given_bare xs) refl
  stmt_bare (st.Cut at x p) = rw (bare_words p 0) refl
  stmt_bare (st.Set at x p v) = rw (index_bare p, bare_words v 0) refl
  stmt_bare (st.Call at f xs) = rw (given_bare xs) refl
  stmt_bare (st.ChildCall at d p f xs) = rw (bare_words p 0, given_bare xs) refl
  stmt_bare (st.Return at v) = rw (maybe_bare v) refl
  stmt_bare (st.Finish at v) = rw (maybe_bare v) refl

  stmts_bare : (ts : StmtTrees) → c.stmts_words (bare_stmts ts) ≡ c.stmts_words ts
  stmts_bare no_stmts = refl
  stmts_bare (stmt_and t ts) = rw (stmt_bare t, stmts_bare ts) refl

  else_bare : (t : ElseTree) → c.else_words (bare_else t) ≡ c.else_words t
  else_bare no_else = refl
  else_bare (otherwise ts) = rw (stmts_bare ts) refl

body_bare : (xs : List StmtTree) → c.body_words (map bare_stmt xs) ≡ c.body_words xs
body_bare = all_bare bare_stmt c.stmt_words stmt_bare

params_bare : (ps : List Param) → c.listed_words c.param_words (map bare_param ps) ≡ c.listed_words c.param_words ps
params_bare = listed_bare bare_param c.param_words (λ p. refl)

last_bare : (want : Keyword) (l : Option LastTree) → c.last_words want (option_map bare_last l) ≡ c.last_words want l
last_bare want None = refl
last_bare want (Some l) = rw (bare_words l.value 0) refl

method_bare : (m : MethodTree) → c.method_words (bare_method m) ≡ c.method_words m
method_bare m = rw (params_bare m.params, body_bare m.body, last_bare k.Return m.last) refl

phase_bare : (p : PhaseTree) → c.phase_words (bare_phase p) ≡ c.phase_words p
phase_bare p = rw (bare_words p.key 0, body_bare p.body) refl

here_bare : (here : Option (List StmtTree)) → c.here_words (option_map (map bare_stmt) here) ≡ c.here_words here
here_bare None = refl
here_bare (Some body) = rw (body_bare body) refl

event_bare : (v : EventTree) → c.event_words (bare_event v) ≡ c.event_words v
event_bare v = rw (params_bare v.params, here_bare v.here, all_bare bare_phase c.phase_words phase_bare v.phases, last_bare k.Reply v.last) refl

mutual
  context_bare : (x : ContextTree) → c.context_words (bare_context x) ≡ c.context_words x
  context_bare (Context at x vars inner methods) = rw (all_bare bare_var c.var_words (λ v. refl) vars, contexts_bare inner, all_bare bare_method c.method_words method_bare methods) refl

  contexts_bare : (xs : ContextTrees) → c.contexts_words (bare_contexts xs) ≡ c.contexts_words xs
  contexts_bare no_contexts = refl
  contexts_bare (context_and x xs) = rw (context_bare x, contexts_bare xs) refl

service_bare : (t : ServiceTree) → c.service_words (bare_service t) ≡ c.service_words t
unfolding c.service_words
service_bare t =
    rw (all_bare bare_var c.var_words (λ v. refl) t.vars, all_bare bare_context c.context_words context_bare t.contexts, all_bare bare_method c.method_words method_bare t.methods, all_bare bare_event c.event_words event_bare t.events) refl

length_plain : (ws : List Word) → length (map plain_token ws) ≡ length ws
length_plain [] = refl
length_plain (v ∷ ws) = ap suc (length_plain ws)

-- no fewer words spell a service
pub shortest : (t : ServiceTree) (ws : List Word) → Spelled t ws → length (c.service_words t) ≤ length ws
shortest t ws h = omega (arith, service_least (bare_service t) (map plain_token ws) h, ap length (service_bare t), length_plain ws)

-- without a pair of words that stands in it, what is left doesn't spell it
pub pairs_needed : (t : ServiceTree) (front inner back : List Word) (v x : Word) → c.service_words t ≡ front ++ v ∷ (inner ++ x ∷ back) → Spelled t (front ++ (inner ++ back)) → ⊥
pairs_needed t front inner back v x q h =
    let least = shortest t (front ++ (inner ++ back)) h in
    absurd (omega (arith, least, ap length q, length-append front (v ∷ (inner ++ x ∷ back)), length-append inner (x ∷ back), length-append front (inner ++ back), length-append inner back))
