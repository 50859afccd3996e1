-- Readers of several parts, step by step.
use Rattle.std.proofs.Common.{◌≡◌, ℕ, zero, suc, ◌+◌, ◌-◌, ◌<◌, ◌≤◌, List, [], ◌∷◌, length, take, fold, get_or, ◌++◌, Option, Some, Ok, Err, true, refl, sym, subst, arith, ◌∙◌, ap}
use Rattle.mace_lexer.specs.declared.token.Token.{Token}
use Rattle.mace_lexer.specs.declared.keyword.Keyword.TheVariants as k
use Rattle.mace_lexer.specs.declared.sign.Sign.TheVariants as sign
use Rattle.mace_lexer.specs.Cuts.{past}
use Rattle.mace_lexer.specs.Lexed.{start}
use Rattle.mace_ast.specs.declared.name.Name.{Name}
use Rattle.mace_ast.specs.Exprs as e
use Rattle.mace_ast.specs.Exprs.{ExprTree}
use Rattle.mace_ast.specs.Stmts as st
use Rattle.mace_ast.specs.Stmts.{StmtTree, stmts_of, else_of}
use Rattle.mace_ast.specs.Decls.{ContextTree, Context, contexts_of, MethodTree}
use Rattle.mace_ast.specs.declared.field.VarDecl.{VarDecl}
use Rattle.wave_base.specs.declared.span.Span.{Span}
use Rattle.mace_parser.specs.declared.fault.Fault.{Fault}
use Rattle.mace_parser.specs.declared.fault.Fault.TheVariants.{Memory, Stuck}
use Rattle.mace_parser.specs.inner.Gives.{Fails}
use Rattle.mace_grammar.specs.inner.Run.{Reader, Outcome, and_then, give, choice, sees, nested_reader, ◌>>=◌}
use Rattle.mace_grammar.specs.declared.class.Class.{Class}
use Rattle.mace_grammar.specs.inner.Classes as classes
use Rattle.mace_grammar.specs.Words.{Edition}
use Rattle.mace_grammar.specs.inner.Readers.{if_sign, field_at, bracketed_at, above_at, key_at, sign_at, name_at, any_expr_at, block_at, else_at, if_at, while_at, for_at, vars_at, contexts_in, methods_at, one_context_at}
use Rattle.mace_grammar.specs.Nest.{Pieces, no_pieces, past_word, nest, nest_after, IsShallow, IsFirstDeep}
use Rattle.mace_grammar.specs.Spelled.{words, place_in}
use Rattle.std.proofs.Math.Seq.{take-suc}
use Rattle.std.proofs.lemmas.List.{take-map, map-append, length-map}
use Rattle.std.proofs.lemmas.List.Sums.{fold-append}
use Rattle.mace_parser.proofs.Turns.{seen}

-- ---- one part behind the other

then_ok : {A B : Type 0} {o : Outcome A} (next : A → Reader B) {x : A} {rest : List Token} {out : Outcome B} → o ≡ Ok (x, rest) → next x rest ≡ out → and_then o next ≡ out
then_ok next h e = ap (λ o. and_then o next) h ∙ e

then_err : {A B : Type 0} {o : Outcome A} (next : A → Reader B) {rest : List Token} → o ≡ Err rest → and_then o next ≡ Err rest
then_err next h = ap (λ o. and_then o next) h

pub deeper_pred : {A : Type 0} (body : ℕ → Reader A → Reader A) (depth : ℕ) (ts : List Token) → (depth ≡ 0 → ⊥) → nested_reader body depth ts ≡ body (depth - 1) (nested_reader body (depth - 1)) ts
deeper_pred body zero ts h = absurd (h refl)
deeper_pred body (suc n) ts h = let same : n ≡ suc n - 1 = omega arith in ap (λ i. body i (nested_reader body i) ts) same

module _ (edition : Edition) where
  abbrev kind : Token → Class
  kind = classes.kind edition

  module _ (unary : Reader ExprTree) (c f : Name) where
    keyed : Reader ExprTree
    keyed = bracketed_at edition unary >>= (λ key. give (e.AboveIndex c.at c.text f.text key))

    goes_on : (ts rest : List Token) → field_at edition ts ≡ Ok (f, rest) → sees kind (if_sign sign.LeftBracket) rest ≡ true → above_at edition unary c ts ≡ keyed rest
    unfolding above_at keyed
    goes_on ts rest h s =
        ap (λ o. and_then o (λ f. choice kind (if_sign sign.LeftBracket) (bracketed_at edition unary >>= (λ key. give (e.AboveIndex c.at c.text f.text key))) (give (e.Above c.at c.text f.text)))) h
        ∙ seen (sees kind (if_sign sign.LeftBracket) rest) _ _ s

    behind : (ts : List Token) (o : Outcome ExprTree) → bracketed_at edition unary ts ≡ o → keyed ts ≡ and_then o (λ key. give (e.AboveIndex c.at c.text f.text key))
    unfolding keyed
    behind ts o h = ap (λ o. and_then o (λ key. give (e.AboveIndex c.at c.text f.text key))) h

    pub keyed_gives : (ts rest last : List Token) (key : ExprTree) → field_at edition ts ≡ Ok (f, rest) → sees kind (if_sign sign.LeftBracket) rest ≡ true → bracketed_at edition unary rest ≡ Ok (key, last) → above_at edition unary c ts ≡ Ok (e.AboveIndex c.at c.text f.text key, last)
    keyed_gives ts rest last key h s g = goes_on ts rest h s ∙ behind rest (Ok (key, last)) g

    pub keyed_fails : (fault : Fault) (ts rest : List Token) → field_at edition ts ≡ Ok (f, rest) → sees kind (if_sign sign.LeftBracket) rest ≡ true → Fails fault (bracketed_at edition unary rest) → Fails fault (above_at edition unary c ts)
    keyed_fails (Memory _) ts rest h s g = tt
    keyed_fails (Stuck last) ts rest h s g = goes_on ts rest h s ∙ behind rest (Err last.now) g

  -- ---- statements with blocks

  module _ (n : ℕ) (stmt : Reader StmtTree) (ts : List Token) {r0 r1 : List Token} {at : Span} {test : ExprTree} (h0 : key_at k.If ts ≡ Ok (at, r0)) (h1 : any_expr_at edition n r0 ≡ Ok (test, r1)) where
    pub if_fails : (fault : Fault) → Fails fault (block_at edition stmt r1) → Fails fault (if_at edition n stmt ts)
    unfolding if_at
    if_fails (Memory _) h = tt
    if_fails (Stuck last) h = then_ok _ h0 (then_ok _ h1 (then_err _ h))

    module _ {r2 : List Token} {body : List StmtTree} (h2 : block_at edition stmt r1 ≡ Ok (body, r2)) where
      pub else_fails : (fault : Fault) → Fails fault (else_at edition (block_at edition stmt) r2) → Fails fault (if_at edition n stmt ts)
      unfolding if_at
      else_fails (Memory _) h = tt
      else_fails (Stuck last) h = then_ok _ h0 (then_ok _ h1 (then_ok _ h2 (then_err _ h)))

      pub if_gives : {r3 : List Token} {other : Option (List StmtTree)} → else_at edition (block_at edition stmt) r2 ≡ Ok (other, r3) → if_at edition n stmt ts ≡ Ok (st.If at test (stmts_of body) (else_of other), r3)
      unfolding if_at
      if_gives h3 = then_ok _ h0 (then_ok _ h1 (then_ok _ h2 (then_ok _ h3 refl)))

  module _ (n : ℕ) (stmt : Reader StmtTree) (ts : List Token) {r0 r1 : List Token} {at : Span} {test : ExprTree} (h0 : key_at k.While ts ≡ Ok (at, r0)) (h1 : any_expr_at edition n r0 ≡ Ok (test, r1)) where
    pub while_fails : (fault : Fault) → Fails fault (block_at edition stmt r1) → Fails fault (while_at edition n stmt ts)
    unfolding while_at
    while_fails (Memory _) h = tt
    while_fails (Stuck last) h = then_ok _ h0 (then_ok _ h1 (then_err _ h))

    pub while_gives : {r2 : List Token} {body : List StmtTree} → block_at edition stmt r1 ≡ Ok (body, r2) → while_at edition n stmt ts ≡ Ok (st.While at test (stmts_of body), r2)
    unfolding while_at
    while_gives h2 = then_ok _ h0 (then_ok _ h1 (then_ok _ h2 refl))

  module _ (n : ℕ) (stmt : Reader StmtTree) (ts : List Token) {r0 r1 r2 r3 r4 r5 : List Token} {at p q : Span} {x : Name} {low high : ExprTree} (h0 : key_at k.For ts ≡ Ok (at, r0)) (h1 : name_at edition r0 ≡ Ok (x, r1)) (h2 : key_at k.In r1 ≡ Ok (p, r2)) (h3 : any_expr_at edition n r2 ≡ Ok (low, r3)) (h4 : key_at k.To r3 ≡ Ok (q, r4)) (h5 : any_expr_at edition n r4 ≡ Ok (high, r5)) where
    pub for_fails : (fault : Fault) → Fails fault (block_at edition stmt r5) → Fails fault (for_at edition n stmt ts)
    unfolding for_at
    for_fails (Memory _) h = tt
    for_fails (Stuck last) h = then_ok _ h0 (then_ok _ h1 (then_ok _ h2 (then_ok _ h3 (then_ok _ h4 (then_ok _ h5 (then_err _ h))))))

    pub for_gives : {r6 : List Token} {body : List StmtTree} → block_at edition stmt r5 ≡ Ok (body, r6) → for_at edition n stmt ts ≡ Ok (st.For at x low high (stmts_of body), r6)
    unfolding for_at
    for_gives h6 = then_ok _ h0 (then_ok _ h1 (then_ok _ h2 (then_ok _ h3 (then_ok _ h4 (then_ok _ h5 (then_ok _ h6 refl))))))

  -- ---- contexts

  module _ (n : ℕ) (context : Reader ContextTree) (ts : List Token) {r0 r1 r2 r3 r4 r5 r6 : List Token} {at p2 p3 p4 p5 : Span} {x : Name} {vars : List VarDecl} (h0 : key_at k.Context ts ≡ Ok (at, r0)) (h1 : name_at edition r0 ≡ Ok (x, r1)) (h2 : sign_at sign.LeftBracket r1 ≡ Ok (p2, r2)) (h3 : key_at k.Int r2 ≡ Ok (p3, r3)) (h4 : sign_at sign.RightBracket r3 ≡ Ok (p4, r4)) (h5 : sign_at sign.LeftBrace r4 ≡ Ok (p5, r5)) (h6 : vars_at edition r5 ≡ Ok (vars, r6)) where
    pub inner_fails : (fault : Fault) → Fails fault (contexts_in edition context r6) → Fails fault (one_context_at edition n context ts)
    unfolding one_context_at
    inner_fails (Memory _) h = tt
    inner_fails (Stuck last) h = then_ok _ h0 (then_ok _ h1 (then_ok _ h2 (then_ok _ h3 (then_ok _ h4 (then_ok _ h5 (then_ok _ h6 (then_err _ h)))))))

    module _ {r7 : List Token} {inner : List ContextTree} (h7 : contexts_in edition context r6 ≡ Ok (inner, r7)) where
      pub methods_fail : (fault : Fault) → Fails fault (methods_at edition n r7) → Fails fault (one_context_at edition n context ts)
      unfolding one_context_at
      methods_fail (Memory _) h = tt
      methods_fail (Stuck last) h = then_ok _ h0 (then_ok _ h1 (then_ok _ h2 (then_ok _ h3 (then_ok _ h4 (then_ok _ h5 (then_ok _ h6 (then_ok _ h7 (then_err _ h))))))))

      module _ {r8 : List Token} {methods : List MethodTree} (h8 : methods_at edition n r7 ≡ Ok (methods, r8)) where
        pub brace_fails : (fault : Fault) → Fails fault (sign_at sign.RightBrace r8) → Fails fault (one_context_at edition n context ts)
        unfolding one_context_at
        brace_fails (Memory _) h = tt
        brace_fails (Stuck last) h = then_ok _ h0 (then_ok _ h1 (then_ok _ h2 (then_ok _ h3 (then_ok _ h4 (then_ok _ h5 (then_ok _ h6 (then_ok _ h7 (then_ok _ h8 (then_err _ h)))))))))

        pub context_gives : {r9 : List Token} {p9 : Span} → sign_at sign.RightBrace r8 ≡ Ok (p9, r9) → one_context_at edition n context ts ≡ Ok (Context at x vars (contexts_of inner) methods, r9)
        unfolding one_context_at
        context_gives h9 = then_ok _ h0 (then_ok _ h1 (then_ok _ h2 (then_ok _ h3 (then_ok _ h4 (then_ok _ h5 (then_ok _ h6 (then_ok _ h7 (then_ok _ h8 (then_ok _ h9 refl)))))))))

pub fails_same : {A : Type 0} {o o' : Outcome A} (fault : Fault) → o ≡ o' → Fails fault o' → Fails fault o
fails_same fault e h = subst (λ o. Fails fault o) (sym e) h

-- ---- places

pub there : (text : List ℕ) (ts : List Token) (i : ℕ) (t : Token) → i < length ts → t ≡ get_or ts i t → t.span ≡ place_in text ts i
there text [] i t h e = absurd (omega arith)
there text (s ∷ ts) zero t h e = ap (λ x. x.span) e
there text (s ∷ ts) (suc i) t h e = there text ts i t (omega arith) e

pub beyond : (text : List ℕ) (ts : List Token) (i : ℕ) → length ts ≤ i → past start text ≡ place_in text ts i
beyond text [] i h = refl
beyond text (s ∷ ts) zero h = absurd (omega arith)
beyond text (s ∷ ts) (suc i) h = beyond text ts i (omega arith)

-- ---- the first token that is nested too deep

pub first_deep_here : (ts : List Token) (j : ℕ) (p p' : Pieces) (t : Token) → j < length ts → t ≡ get_or ts j t → p ≡ fold past_word no_pieces (words (take j ts)) → p' ≡ past_word p t.word → 64 < nest p' → IsShallow (words (take j ts)) → IsFirstDeep (words ts) (Some j)
first_deep_here ts j p p' t h e hp hp' deep shallow =
    let cut : take (j + 1) (words ts) ≡ words (take j ts) ++ t.word ∷ [] =
    let one : j + 1 ≡ suc j = omega arith in
    ap (λ i. take i (words ts)) one ∙ take-map (λ t. t.word) (suc j) ts ∙ ap words (take-suc ts j t h ∙ ap (λ x. take j ts ++ x ∷ []) (sym e)) ∙ map-append (λ t. t.word) (take j ts) (t ∷ []) in
    let behind : nest_after (take (j + 1) (words ts)) ≡ nest p' = ap nest_after cut ∙ ap nest (fold-append past_word no_pieces (words (take j ts)) (t.word ∷ []) ∙ ap (λ q. past_word q t.word) (sym hp) ∙ sym hp') in
    (omega (arith, h, length-map ts (λ t. t.word)), omega (arith, behind, deep), subst IsShallow (sym (take-map (λ t. t.word) j ts)) shallow)
