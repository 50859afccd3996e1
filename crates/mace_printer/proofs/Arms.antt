-- The words that are written for a node with lists in it, as those of its tree.
use Rattle.std.proofs.Common.{◌≡◌, ℕ, ◌+◌, List, [], ◌∷◌, ◌++◌, map, rules, refl, sym, ap, ◌∙◌, append_assoc, append-nil, Option, Some, None, Bool, true, false, nat_lt, Vec, Box, Global}
use Rattle.std.specs.Option.{option_map}
use Rattle.wave_base.specs.declared.span.Span.{Span}
use Rattle.mace_lexer.specs.declared.token.Word.{Word}
use Rattle.mace_lexer.specs.declared.token.Word.TheVariants as word
use Rattle.mace_lexer.specs.declared.keyword.Keyword.TheVariants as k
use Rattle.mace_lexer.specs.declared.sign.Sign.TheVariants as s
use Rattle.mace_ast.specs.declared.name.Name.{Name}
use Rattle.mace_ast.specs.declared.expr.Expr.{Expr}
use Rattle.mace_ast.specs.declared.expr.BinaryOp.{BinaryOp}
use Rattle.mace_ast.specs.declared.expr.Node.{the_lemmas}
use Rattle.mace_ast.specs.declared.expr.Node.TheVariants as node
use Rattle.mace_ast.specs.declared.stmt.Stmt.{Stmt}
use Rattle.mace_ast.specs.declared.stmt.Action as source
use Rattle.mace_ast.specs.declared.stmt.Action.TheVariants as action
use Rattle.mace_ast.specs.declared.context.ContextDecl.{ContextDecl, ContextDecl', out-ContextDecl}
use Rattle.mace_ast.specs.declared.context.ContextDecl as contexts
use Rattle.mace_ast.specs.Exprs as e
use Rattle.mace_ast.specs.Exprs.{ExprTree, node_tree, expr_tree, exprs_of}
use Rattle.mace_ast.specs.Stmts as st
use Rattle.mace_ast.specs.Stmts.{StmtTree, action_tree, stmt_tree, stmts_of, else_of}
use Rattle.mace_ast.specs.Decls.{ContextTree, Context, contexts_of, context_tree, MethodTree, method_tree}
use Rattle.mace_ast.specs.declared.field.VarDecl.{VarDecl}
use Rattle.mace_ast.proofs.Rows.{row_trees-items, row_stmts-items, row_contexts-items}
use Rattle.mace_printer.specs.Canon.{all_of, whole_words, expr_words, index_words, call_words, in_parens, level_of, left_level_of, sign_of, stmt_words, stmts_words, else_words, body_words, braced_words, var_words, method_words, context_words}
use Rattle.mace_printer.specs.inner.Parts.{child_key_words, left_words, right_words, range_words, maybe_else, head_words}
use Rattle.mace_printer.proofs.Wrote.{args_listed, stmts_listed, contexts_listed}

abbrev binary_words : BinaryOp → ExprTree → ExprTree → List Word
binary_words o a b = expr_words a (left_level_of o) ++ (word.Sign (sign_of o) ∷ expr_words b (level_of o + 1))

-- ---- nodes

pub call_node : (f : List ℕ) (args : Vec Expr Global) (at : Span) → node_tree (node.Call f args) at ≡ e.Call at f (exprs_of (map expr_tree args.items))
call_node f args at = search (rules, the_lemmas, row_trees-items)

pub child_call_node : (c : List ℕ) (key : Box Expr Global) (f : List ℕ) (args : Vec Expr Global) (at : Span) → node_tree (node.ChildCall c key f args) at ≡ e.ChildCall at c (expr_tree key.value) f (exprs_of (map expr_tree args.items))
child_call_node c key f args at = search (rules, the_lemmas, row_trees-items)

pub binary_node : (op : BinaryOp) (a b : Box Expr Global) (at : Span) → node_tree (node.Binary op a b) at ≡ e.Binary at op (expr_tree a.value) (expr_tree b.value)
binary_node op a b at = search (rules, the_lemmas)

pub if_node : (test : Expr) (body : Vec Stmt Global) (other : Option (Vec Stmt Global)) (at : Span) → action_tree (action.If test body other) at ≡ st.If at (expr_tree test) (stmts_of (map stmt_tree body.items)) (else_of (option_map (λ b. map stmt_tree b.items) other))
if_node test body other at = search (rules, source.the_lemmas, row_stmts-items)

pub while_node : (test : Expr) (body : Vec Stmt Global) (at : Span) → action_tree (action.While test body) at ≡ st.While at (expr_tree test) (stmts_of (map stmt_tree body.items))
while_node test body at = search (rules, source.the_lemmas, row_stmts-items)

pub for_node : (name : Name) (low high : Expr) (body : Vec Stmt Global) (at : Span) → action_tree (action.For name low high body) at ≡ st.For at name (expr_tree low) (expr_tree high) (stmts_of (map stmt_tree body.items))
for_node name low high body at = search (rules, source.the_lemmas, row_stmts-items)

-- ---- their words

pub call_arm : (at : Span) (f : List ℕ) (ts : List ExprTree) (l : ℕ) → call_words f ts ≡ expr_words (e.Call at f (exprs_of ts)) l
call_arm at f ts l = ap (λ x. word.Name f ∷ word.Sign s.LeftParen ∷ (x ++ (word.Sign s.RightParen ∷ []))) (args_listed ts)

pub child_arm : (at : Span) (c : List ℕ) (p : ExprTree) (f : List ℕ) (ts : List ExprTree) (l : ℕ) → child_key_words c p ++ call_words f ts ≡ expr_words (e.ChildCall at c p f (exprs_of ts)) l
child_arm at c p f ts l =
    ap (λ x. word.Name c ∷ x) (append_assoc (index_words p) (word.Sign s.Dot ∷ []) (call_words f ts))
    ∙ ap (λ x. word.Name c ∷ word.Sign s.LeftBracket ∷ x) (append_assoc (expr_words p 0) (word.Sign s.RightBracket ∷ []) (word.Sign s.Dot ∷ call_words f ts))
    ∙ ap (λ x. word.Name c ∷ word.Sign s.LeftBracket ∷ (expr_words p 0 ++ (word.Sign s.RightBracket ∷ word.Sign s.Dot ∷ word.Name f ∷ word.Sign s.LeftParen ∷ (x ++ (word.Sign s.RightParen ∷ []))))) (args_listed ts)

block_split : (xs : List StmtTree) (rest : List Word) → braced_words xs ++ rest ≡ word.Sign s.LeftBrace ∷ (stmts_words (stmts_of xs) ++ (word.Sign s.RightBrace ∷ rest))
block_split xs rest = ap (λ x. word.Sign s.LeftBrace ∷ x) (append_assoc (body_words xs) (word.Sign s.RightBrace ∷ []) rest ∙ ap (λ x. x ++ (word.Sign s.RightBrace ∷ rest)) (stmts_listed xs))

block_last : (xs : List StmtTree) → braced_words xs ≡ word.Sign s.LeftBrace ∷ (stmts_words (stmts_of xs) ++ (word.Sign s.RightBrace ∷ []))
block_last xs = ap (λ x. word.Sign s.LeftBrace ∷ (x ++ (word.Sign s.RightBrace ∷ []))) (stmts_listed xs)

else_arm : (o : Option (List StmtTree)) → maybe_else o ≡ else_words (else_of o)
else_arm None = refl
else_arm (Some xs) = ap (λ x. word.Key k.Else ∷ x) (block_last xs)

pub if_arm : (at : Span) (test : ExprTree) (body : List StmtTree) (other : Option (List StmtTree)) → word.Key k.If ∷ (whole_words test ++ (braced_words body ++ maybe_else other)) ≡ stmt_words (st.If at test (stmts_of body) (else_of other))
if_arm at test body other = ap (λ x. word.Key k.If ∷ (whole_words test ++ x)) (block_split body (maybe_else other) ∙ ap (λ x. word.Sign s.LeftBrace ∷ (stmts_words (stmts_of body) ++ (word.Sign s.RightBrace ∷ x))) (else_arm other))

pub while_arm : (at : Span) (test : ExprTree) (body : List StmtTree) → word.Key k.While ∷ (whole_words test ++ braced_words body) ≡ stmt_words (st.While at test (stmts_of body))
while_arm at test body = ap (λ x. word.Key k.While ∷ (whole_words test ++ x)) (block_last body)

pub for_arm : (at : Span) (x : Name) (low high : ExprTree) (body : List StmtTree) → range_words x.text low high ++ braced_words body ≡ stmt_words (st.For at x low high (stmts_of body))
for_arm at x low high body =
    ap (λ l. word.Key k.For ∷ word.Name x.text ∷ word.Key k.In ∷ l) (append_assoc (whole_words low) (word.Key k.To ∷ whole_words high) (braced_words body))
    ∙ ap (λ l. word.Key k.For ∷ word.Name x.text ∷ word.Key k.In ∷ (whole_words low ++ (word.Key k.To ∷ (whole_words high ++ l)))) (block_last body)

halves : (paren : Bool) (o : BinaryOp) (a b : ExprTree) → left_words paren o a ++ right_words paren o b ≡ in_parens paren (binary_words o a b)
halves true o a b =
    let A = expr_words a (left_level_of o) in
    let B = expr_words b (level_of o + 1) in
    ap (λ l. word.Sign s.LeftParen ∷ l)
    (append_assoc A (word.Sign (sign_of o) ∷ []) (B ++ (word.Sign s.RightParen ∷ []))
    ∙ sym (append_assoc A (word.Sign (sign_of o) ∷ B) (word.Sign s.RightParen ∷ [])))
halves false o a b =
    let A = expr_words a (left_level_of o) in
    let B = expr_words b (level_of o + 1) in
    append_assoc A (word.Sign (sign_of o) ∷ []) (B ++ []) ∙ ap (λ l. A ++ (word.Sign (sign_of o) ∷ l)) (append-nil B)

pub binary_arm : (at : Span) (o : BinaryOp) (a b : ExprTree) (l : ℕ) (paren : Bool) → nat_lt (level_of o) l ≡ paren → left_words paren o a ++ right_words paren o b ≡ expr_words (e.Binary at o a b) l
binary_arm at o a b l paren h = halves paren o a b ∙ ap (λ t. in_parens t (binary_words o a b)) (sym h)

pub context_arm : (at : Span) (x : Name) (vars : List VarDecl) (inner : List ContextTree) (methods : List MethodTree) → head_words x.text ++ (all_of var_words vars ++ (all_of context_words inner ++ (all_of method_words methods ++ (word.Sign s.RightBrace ∷ [])))) ≡ context_words (Context at x vars (contexts_of inner) methods)
context_arm at x vars inner methods = ap (λ l. head_words x.text ++ (all_of var_words vars ++ (l ++ (all_of method_words methods ++ (word.Sign s.RightBrace ∷ []))))) (contexts_listed inner)

-- a context by its parts
pub context_node : (c : ContextDecl) → context_tree c ≡ Context (out-ContextDecl c).at (out-ContextDecl c).name (out-ContextDecl c).vars (contexts_of (map context_tree (out-ContextDecl c).contexts.items)) (map method_tree (out-ContextDecl c).methods)
context_node (ContextDecl' at name vars s inner methods) = search (rules, contexts.the_lemmas, row_contexts-items)
