-- No fewer words spell a service than its canonical ones.
use Rattle.std.proofs.Common.{◌≡◌, ◌≤◌, ◌+◌, ℕ, zero, suc, inl, inr, Bool, true, false, List, [], ◌∷◌, ◌++◌, length, Option, Some, None, unwrap_or, pos, refl, sym, ap, subst, arith, length-append}
use Rattle.std.specs.Prelude.{◌==◌, if◌then◌else◌}
use Rattle.wave_base.specs.declared.span.Span.{Span}
use Rattle.wave_base.specs.declared.version.Version.{Version}
use Rattle.wave_base.specs.declared.version.Version.TheVariants.{First, Second}
use Rattle.mace_lexer.specs.declared.token.Token.{Token}
use Rattle.mace_lexer.specs.declared.token.Word.{Word}
use Rattle.mace_lexer.specs.declared.token.Word.TheVariants as word
use Rattle.mace_lexer.specs.declared.keyword.Keyword.{Keyword}
use Rattle.mace_lexer.specs.declared.keyword.Keyword.TheVariants as k
use Rattle.mace_lexer.specs.declared.sign.Sign.{Sign}
use Rattle.mace_lexer.specs.declared.sign.Sign.TheVariants as s
use Rattle.mace_ast.specs.declared.name.Name.{Name}
use Rattle.mace_ast.specs.declared.field.Initial.{Initial}
use Rattle.mace_ast.specs.declared.field.Literal.{Literal}
use Rattle.mace_ast.specs.declared.field.Literal.TheVariants as lit
use Rattle.mace_ast.specs.Stmts.{StmtTree}
use Rattle.mace_ast.specs.Decls.{LastTree, ContextTree, contexts_of, ServiceTree}
use Rattle.wave_base.specs.declared.value.Kind.{Kind}
use Rattle.mace_grammar.specs.Part.{Part, one, ◌>>◌, SpellsMaybe, nested_part}
use Rattle.mace_grammar.specs.Words as w
use Rattle.mace_grammar.specs.Words.{Edition, edition_of}
use Rattle.mace_grammar.specs.Grammar as g
use Rattle.mace_printer.specs.Canon as c
use Rattle.mace_printer.specs.Canon.{whole_words}
use Rattle.mace_printer.proofs.LeastExprs.{Least, closed}
use Rattle.mace_printer.proofs.LeastExprs
use Rattle.mace_printer.proofs.LeastStmts

pub contexts_same : (xs : List ContextTree) → c.contexts_words (contexts_of xs) ≡ c.all_of c.context_words xs
contexts_same [] = refl
contexts_same (x ∷ xs) = ap (λ ws. c.context_words x ++ ws) (contexts_same xs)

module _ (edition : Edition) where
  -- ---- declarations

  abbrev initial_at : Span → Literal → Initial
  initial_at at v = record { at = at; value = v }

  initial_is : (v : Literal) (at : Span) (a : Initial) → length (c.literal_words v) ≡ 1 → Some (initial_at at v) ≡ Some a → length (c.literal_words a.value) ≡ 1
  initial_is v at a h q = let same : initial_at at v ≡ a = cc in subst (λ (a : Initial). length (c.literal_words a.value) ≡ 1) same h

  initial_key : (at : Span) (j : Keyword) (a : Initial) → w.initial_of_key at j ≡ Some a → length (c.literal_words a.value) ≡ 1
  initial_key at k.True a q = initial_is (lit.Bool true) at a refl q
  initial_key at k.False a q = initial_is (lit.Bool false) at a refl q
  initial_key at k.Empty a q = initial_is lit.Empty at a refl q
  initial_key at _ a q = cc

  initial_one : (at : Span) (x : Word) (a : Initial) → w.initial_word at x ≡ Some a → length (c.literal_words a.value) ≡ 1
  initial_one at (word.Number n) a q = initial_is (lit.Number n) at a refl q
  initial_one at (word.Text t) a q = initial_is (lit.Text t) at a refl q
  initial_one at (word.Key j) a q = initial_key at j a q
  initial_one at (word.Name t) a q = cc
  initial_one at (word.Sign j) a q = cc

  minus_least : Least g.minus_number (λ a. length (c.literal_words a.value))
  minus_least a ts h =
      let (x1, f1, b1, e1, k1, r1) = h in
      let (x2, f2, b2, e2, k2, r2) = r1 in
      subst (λ a. length (c.literal_words a.value) ≤ length ts) (sym r2.0)
      (omega (arith, closed, length-append {A = Word}, length-append {A = Token}, ap length e1, ap length k1.1, ap length e2, ap length k2.1, ap length r2.1))

  initial_least : Least g.initial (λ a. length (c.literal_words a.value))
  initial_least a ts (inl h) = omega (arith, initial_one h.0.span h.0.word a h.2, ap length h.1)
  initial_least a ts (inr h) = minus_least a ts h

  var_least : Least (g.var edition) (λ a. length (c.var_words a))
  var_least a ts h =
      let (x1, f1, b1, e1, k1, r1) = h in
      let (x2, f2, b2, e2, k2, r2) = r1 in
      let (x3, f3, b3, e3, k3, r3) = r2 in
      let (x4, f4, b4, e4, k4, r4) = r3 in
      let (x5, f5, b5, e5, k5, r5) = r4 in
      let (x6, f6, b6, e6, k6, r6) = r5 in
      let (x7, f7, b7, e7, k7, r7) = r6 in
      subst (λ a. length (c.var_words a) ≤ length ts) (sym r7.0)
      (omega (arith, closed, length-append {A = Word}, length-append {A = Token}, ap length e1, ap length k1.1, ap length e2, ap length k2.1, ap length e3, ap length k3.1, ap length e4, ap length k4.1, ap length e5, ap length k5.1, ap length e6, initial_least x6 f6 k6, ap length e7, ap length k7.1, ap length r7.1))

  result_least : (kind : Option Kind) (ts : List Token) → SpellsMaybe (w.sign s.Colon >> w.type) kind ts → length (c.result_words kind) ≤ length ts
  result_least None ts h = omega arith
  result_least (Some kind) ts h =
      let (at, f1, b1, e1, k1, r1) = h in
      omega (arith, length-append {A = Token}, ap length e1, ap length k1.1, ap length r1.1)

  param_least : Least (g.param edition) (λ a. length (c.param_words a))
  param_least a ts h =
      let (x1, f1, b1, e1, k1, r1) = h in
      let (x2, f2, b2, e2, k2, r2) = r1 in
      let (x3, f3, b3, e3, k3, r3) = r2 in
      subst (λ a. length (c.param_words a) ≤ length ts) (sym r3.0)
      (omega (arith, closed, length-append {A = Word}, length-append {A = Token}, ap length e1, ap length k1.1, ap length e2, ap length k2.1, ap length e3, ap length k3.1, ap length r3.1))

  params_least : Least (g.params edition) (λ ps. length (c.params_words ps))
  params_least ps ts h = omega (arith, LeastExprs.parens_least (g.param edition) c.param_words param_least ps ts h, length-append {A = Word})

  module _ (want : Keyword) (keyword : Part Span) (one : (at : Span) (ts : List Token) → keyword.Spells at ts → length ts ≡ 1) where
    some_last_least : Least (g.last edition keyword) (λ a. length (c.last_words want (Some a)))
    some_last_least a ts h =
        let (x1, f1, b1, e1, k1, r1) = h in
        let (x2, f2, b2, e2, k2, r2) = r1 in
        let (x3, f3, b3, e3, k3, r3) = r2 in
        subst (λ a. length (c.last_words want (Some a)) ≤ length ts) (sym r3.0)
        (omega (arith, closed, length-append {A = Word}, length-append {A = Token}, ap length e1, one x1 f1 k1, ap length e2, LeastExprs.any_expr_least edition x2 f2 k2, ap length e3, ap length k3.1, ap length r3.1))

    last_least : (end : Option LastTree) (ts : List Token) → SpellsMaybe (g.last edition keyword) end ts → length (c.last_words want end) ≤ length ts
    last_least None ts h = omega arith
    last_least (Some l) ts h = some_last_least l ts h

  returned_least : (end : Option LastTree) (ts : List Token) → SpellsMaybe (g.last edition (w.end edition)) end ts → length (c.last_words k.Return end) ≤ length ts
  returned_least = last_least k.Return (w.end edition) (λ at ts h. ap length h.1)

  replied_least : (end : Option LastTree) (ts : List Token) → SpellsMaybe (g.last edition (w.key k.Reply)) end ts → length (c.last_words k.Reply end) ≤ length ts
  replied_least = last_least k.Reply (w.key k.Reply) (λ at ts h. ap length h.1)

  method_least : Least (g.method edition) (λ a. length (c.method_words a))
  method_least a ts h =
      let (x1, f1, b1, e1, k1, r1) = h in
      let (x2, f2, b2, e2, k2, r2) = r1 in
      let (x3, f3, b3, e3, k3, r3) = r2 in
      let (x4, f4, b4, e4, k4, r4) = r3 in
      let (x5, f5, b5, e5, k5, r5) = r4 in
      let (x6, f6, b6, e6, k6, r6) = r5 in
      let (x7, f7, b7, e7, k7, r7) = r6 in
      let (x8, f8, b8, e8, k8, r8) = r7 in
      subst (λ a. length (c.method_words a) ≤ length ts) (sym r8.0)
      (omega (arith, closed, length-append {A = Word}, length-append {A = Token}, ap length e1, ap length k1.1, ap length e2, ap length k2.1, ap length e3, params_least x3 f3 k3, ap length e4, result_least x4 f4 k4, ap length e5, ap length k5.1, ap length e6, LeastStmts.stmts_least edition x6 f6 k6, ap length e7, returned_least x7 f7 k7, ap length e8, ap length k8.1, ap length r8.1, length-append (c.listed_words c.param_words x3) (c.sign s.RightParen)))

  down_least : Least (g.down edition) (λ a. length (c.phase_words a))
  down_least a ts h =
      let (x1, f1, b1, e1, k1, r1) = h in
      let (x2, f2, b2, e2, k2, r2) = r1 in
      let (x3, f3, b3, e3, k3, r3) = r2 in
      let (x4, f4, b4, e4, k4, r4) = r3 in
      subst (λ a. length (c.phase_words a) ≤ length ts) (sym r4.0)
      (omega (arith, closed, length-append {A = Word}, length-append {A = Token}, ap length e1, ap length k1.1, ap length e2, ap length k2.1, ap length e3, LeastExprs.any_key_least edition x3 f3 k3, ap length e4, LeastStmts.any_block_least edition x4 f4 k4, ap length r4.1, length-append (whole_words x3) (c.sign s.RightBracket)))

  here_least : (here : Option (List StmtTree)) (ts : List Token) → SpellsMaybe (w.key k.Here >> (g.any_block edition)) here ts → length (c.here_words here) ≤ length ts
  here_least None ts h = omega arith
  here_least (Some body) ts h =
      let (at, f1, b1, e1, k1, r1) = h in
      omega (arith, length-append {A = Word}, length-append {A = Token}, LeastStmts.any_block_least edition body b1 r1, ap length e1, ap length k1.1)

  event_least : Least (g.event edition) (λ a. length (c.event_words a))
  event_least a ts h =
      let (x1, f1, b1, e1, k1, r1) = h in
      let (x2, f2, b2, e2, k2, r2) = r1 in
      let (x3, f3, b3, e3, k3, r3) = r2 in
      let (x4, f4, b4, e4, k4, r4) = r3 in
      let (x5, f5, b5, e5, k5, r5) = r4 in
      let (x6, f6, b6, e6, k6, r6) = r5 in
      let (x7, f7, b7, e7, k7, r7) = r6 in
      let (x8, f8, b8, e8, k8, r8) = r7 in
      let (x9, f9, b9, e9, k9, r9) = r8 in
      subst (λ a. length (c.event_words a) ≤ length ts) (sym r9.0)
      (omega (arith, closed, length-append {A = Word}, length-append {A = Token}, ap length e1, ap length k1.1, ap length e2, ap length k2.1, ap length e3, params_least x3 f3 k3, ap length e4, result_least x4 f4 k4, ap length e5, ap length k5.1, ap length e6, here_least x6 f6 k6, ap length e7, LeastExprs.all_least (g.down edition) c.phase_words down_least x7 f7 k7, ap length e8, replied_least x8 f8 k8, ap length e9, ap length k9.1, ap length r9.1, length-append (c.listed_words c.param_words x3) (c.sign s.RightParen)))

  module _ (context : Part ContextTree) (least : Least context (λ a. length (c.context_words a))) where
    one_context_least : Least (g.one_context edition context) (λ a. length (c.context_words a))
    one_context_least a ts h =
        let (x1, f1, b1, e1, k1, r1) = h in
        let (x2, f2, b2, e2, k2, r2) = r1 in
        let (x3, f3, b3, e3, k3, r3) = r2 in
        let (x4, f4, b4, e4, k4, r4) = r3 in
        let (x5, f5, b5, e5, k5, r5) = r4 in
        let (x6, f6, b6, e6, k6, r6) = r5 in
        let (x7, f7, b7, e7, k7, r7) = r6 in
        let (x8, f8, b8, e8, k8, r8) = r7 in
        let (x9, f9, b9, e9, k9, r9) = r8 in
        let (x10, f10, b10, e10, k10, r10) = r9 in
        subst (λ a. length (c.context_words a) ≤ length ts) (sym r10.0)
        (omega (arith, closed, length-append {A = Word}, length-append {A = Token}, ap length e1, ap length k1.1, ap length e2, ap length k2.1, ap length e3, ap length k3.1, ap length e4, ap length k4.1, ap length e5, ap length k5.1, ap length e6, ap length k6.1, ap length e7, LeastExprs.all_least (g.var edition) c.var_words var_least x7 f7 k7, ap length e8, LeastExprs.all_least context c.context_words least x8 f8 k8, ap length e9, LeastExprs.all_least (g.method edition) c.method_words method_least x9 f9 k9, ap length e10, ap length k10.1, ap length r10.1, ap length (contexts_same x8)))

  nested_context_least : (n : ℕ) → Least (nested_part (g.one_context edition) n) (λ a. length (c.context_words a))
  nested_context_least zero a ts h = absurd h
  nested_context_least (suc n) a ts h = one_context_least (nested_part (g.one_context edition) n) (nested_context_least n) a ts h

  context_least : Least (g.context edition) (λ a. length (c.context_words a))
  context_least a ts h = nested_context_least h.0 a ts h.1

version_least : (version : Version) (ts : List Token) → w.version_number.Spells version ts → length (c.version_words version) ≤ length ts
unfolding w.version_number
version_least version ts h = by h.0 h.4 h.5.0
  where
    at_most : (v : Version) → length (c.version_words v) ≤ 1
    at_most First = omega arith
    at_most Second = omega arith

    by : (o : Option Version) → SpellsMaybe (one (λ t. w.two_word t.word)) o h.1 → version ≡ unwrap_or o First → length (c.version_words version) ≤ length ts
    by None k e = omega (arith, ap (λ v. length (c.version_words v)) e)
    by (Some v) k e = omega (arith, at_most version, ap length k.1, length-append {A = Token}, ap length h.3)

members_least : (version : Version) (at : Span) (n : Name) (a : ServiceTree) (ts : List Token) → (g.members version at n).Spells a ts → length (c.service_words a) ≤ 2 + (length (c.version_words version) + length ts)
unfolding g.members c.service_words
members_least version at n a ts h =
    let own : Edition = edition_of version in
    let (x3, f3, b3, e3, k3, r3) = h in
    let (x4, f4, b4, e4, k4, r4) = r3 in
    let (x5, f5, b5, e5, k5, r5) = r4 in
    let (x6, f6, b6, e6, k6, r6) = r5 in
    let (x7, f7, b7, e7, k7, r7) = r6 in
    let (x8, f8, b8, e8, k8, r8) = r7 in
    subst (λ a. length (c.service_words a) ≤ 2 + (length (c.version_words version) + length ts)) (sym r8.0)
    (omega (arith, closed, length-append {A = Word}, length-append {A = Token}, ap length e3, ap length k3.1, ap length e4, LeastExprs.all_least (g.var own) c.var_words (var_least own) x4 f4 k4, ap length e5, LeastExprs.all_least (g.context own) c.context_words (context_least own) x5 f5 k5, ap length e6, LeastExprs.all_least (g.method own) c.method_words (method_least own) x6 f6 k6, ap length e7, LeastExprs.all_least (g.event own) c.event_words (event_least own) x7 f7 k7, ap length e8, ap length k8.1, ap length r8.1))

pub service_least : Least g.service (λ a. length (c.service_words a))
unfolding g.service
service_least a ts h =
    let (x1, f1, b1, e1, k1, r1) = h in
    let (x2, f2, b2, e2, k2, r2) = r1 in
    let (x3, f3, b3, e3, k3, r3) = r2 in
    omega (arith, members_least x3 x1 x2 a b3 r3, version_least x3 f3 k3, length-append {A = Token}, ap length e1, ap length k1.1, ap length e2, ap length k2.1, ap length e3)
