-- Statements with blocks in them: what the answers to their parts say of the whole.
use Rattle.std.proofs.Common.{◌≡◌, ℕ, List, ◌++◌, length, None, Result, sym, ap, subst, ◌∙◌}
use Rattle.wave_base.specs.declared.span.Span.{Span}
use Rattle.wave_base.specs.declared.value.Kind.TheVariants as k
use Rattle.mace_ast.specs.declared.name.Name.{Name}
use Rattle.mace_ast.specs.Exprs.{ExprTree}
use Rattle.mace_ast.specs.Stmts as s
use Rattle.mace_ast.specs.Stmts.{StmtTree, StmtTrees, ElseTree}
use Rattle.resolved_service.specs.declared.stmt.Stmt.{Stmt}
use Rattle.resolved_service.specs.Steps as r
use Rattle.resolved_service.specs.Steps.{Step, Steps, Else}
use Rattle.resolved_service.specs.View.{Tree}
use Rattle.type_rules.specs.declared.error.TypeError.{TypeError}
use Rattle.type_rules.specs.Demands.{Demand, first_wrong, Fails, Judges}
use Rattle.type_rules.specs.Here.{Here, with_counter, behind}
use Rattle.type_rules.specs.Exprs.{resolve, demands_as}
use Rattle.type_rules.specs.Stmts.{after, after_all, after_else, resolve_stmt, resolve_stmts, resolve_else, local_asks, stmt_demands, stmts_demands, else_demands}
use Rattle.type_rules.proofs.First.{fails_front, fails_behind, fails_same, holds_both}
use Rattle.context_types.specs.declared.here.Here as place
use Rattle.context_types.specs.inner.Places.{IsStep}

-- the answer to a statement, which leads on to a place
abbrev pub Walks : Here → place.Here → StmtTree → Result Stmt TypeError → Type 0
Walks h p a answer = Judges (stmt_demands h a) (IsStep (after h a) (resolve_stmt h a) p) answer

pub walks_as : (h : Here) (p : place.Here) (a b : StmtTree) (answer : Result Stmt TypeError) → a ≡ b → Walks h p b answer → Walks h p a answer
walks_as h p a b answer same w = subst (λ x. Walks h p x answer) (sym same) w

pub walks_ok : (h : Here) (p : place.Here) (a b : StmtTree) (made : Stmt) → a ≡ b → first_wrong (stmt_demands h b) ≡ None → IsStep (after h b) (resolve_stmt h b) p made
    → (first_wrong (stmt_demands h a) ≡ None) × IsStep (after h a) (resolve_stmt h a) p made
walks_ok h p a b made same holds is =
    (ap (λ x. first_wrong (stmt_demands h x)) same ∙ holds, subst (λ x. IsStep (after h x) (resolve_stmt h x) p made) (sym same) is)

module _ (h : Here) (at : Span) (test : ExprTree) (body : StmtTrees) where
  abbrev Test : List Demand
  Test = demands_as h k.Bool test

  abbrev Body : List Demand
  Body = stmts_demands h body

  pub while_test_fails : (e : TypeError) → Fails Test e → Fails (stmt_demands h (s.While at test body)) e
  while_test_fails e f = fails_front Test Body e f

  pub while_body_fails : (e : TypeError) → first_wrong Test ≡ None → Fails Body e → Fails (stmt_demands h (s.While at test body)) e
  while_body_fails e t f = fails_behind Test Body e t f

  pub while_holds : first_wrong Test ≡ None → first_wrong Body ≡ None → first_wrong (stmt_demands h (s.While at test body)) ≡ None
  while_holds t b = holds_both Test Body t b

  module _ (other : ElseTree) where
    abbrev Rest : List Demand
    Rest = else_demands (behind h (after_all h body)) other

    pub if_test_fails : (e : TypeError) → Fails Test e → Fails (stmt_demands h (s.If at test body other)) e
    if_test_fails e f = fails_front Test (Body ++ Rest) e f

    module _ (t : first_wrong Test ≡ None) where
      pub if_body_fails : (e : TypeError) → Fails Body e → Fails (stmt_demands h (s.If at test body other)) e
      if_body_fails e f = fails_behind Test (Body ++ Rest) e t (fails_front Body Rest e f)

      module _ (b : first_wrong Body ≡ None) (j : Here) (on : behind h (after_all h body) ≡ j) where
        rest_same : first_wrong Rest ≡ first_wrong (else_demands j other)
        rest_same = ap (λ g. first_wrong (else_demands g other)) on

        pub if_other_fails : (e : TypeError) → Fails (else_demands j other) e → Fails (stmt_demands h (s.If at test body other)) e
        if_other_fails e f = fails_behind Test (Body ++ Rest) e t (fails_behind Body Rest e b (fails_same Rest (else_demands j other) e rest_same f))

        pub if_holds : first_wrong (else_demands j other) ≡ None → first_wrong (stmt_demands h (s.If at test body other)) ≡ None
        if_holds o = holds_both Test (Body ++ Rest) t (holds_both Body Rest b (rest_same ∙ o))

        pub if_after : (l : Here) → after_else j other ≡ l → after h (s.If at test body other) ≡ l
        if_after l is = ap (λ g. after_else g other) on ∙ is

        pub if_made : (tt_ : Tree) (steps : Steps) (rest : Else) → resolve h test ≡ tt_ → resolve_stmts h body ≡ steps → resolve_else j other ≡ rest → resolve_stmt h (s.If at test body other) ≡ r.If at tt_ steps rest
        if_made tt_ steps rest is are other_is = (λ i. r.If at (is i) (are i) ((ap (λ g. resolve_else g other) on ∙ other_is) i))

module _ (h : Here) (at : Span) (name : Name) (low high : ExprTree) (body : StmtTrees) where
  abbrev Low : List Demand
  Low = demands_as h k.Int low

  abbrev High : List Demand
  High = demands_as h k.Int high

  abbrev Local : List Demand
  Local = local_asks h name 3

  abbrev Turn : List Demand
  Turn = stmts_demands (with_counter h name.text) body

  pub for_low_fails : (e : TypeError) → Fails Low e → Fails (stmt_demands h (s.For at name low high body)) e
  for_low_fails e f = fails_front Low (High ++ (Local ++ Turn)) e f

  module _ (l : first_wrong Low ≡ None) where
    pub for_high_fails : (e : TypeError) → Fails High e → Fails (stmt_demands h (s.For at name low high body)) e
    for_high_fails e f = fails_behind Low (High ++ (Local ++ Turn)) e l (fails_front High (Local ++ Turn) e f)

    module _ (g : first_wrong High ≡ None) where
      pub for_name_fails : (e : TypeError) → Fails Local e → Fails (stmt_demands h (s.For at name low high body)) e
      for_name_fails e f = fails_behind Low (High ++ (Local ++ Turn)) e l (fails_behind High (Local ++ Turn) e g (fails_front Local Turn e f))

      module _ (n : first_wrong Local ≡ None) (j : Here) (on : with_counter h name.text ≡ j) where
        turn_same : first_wrong Turn ≡ first_wrong (stmts_demands j body)
        turn_same = ap (λ p. first_wrong (stmts_demands p body)) on

        pub for_body_fails : (e : TypeError) → Fails (stmts_demands j body) e → Fails (stmt_demands h (s.For at name low high body)) e
        for_body_fails e f = fails_behind Low (High ++ (Local ++ Turn)) e l (fails_behind High (Local ++ Turn) e g (fails_behind Local Turn e n (fails_same Turn (stmts_demands j body) e turn_same f)))

        pub for_holds : first_wrong (stmts_demands j body) ≡ None → first_wrong (stmt_demands h (s.For at name low high body)) ≡ None
        for_holds b = holds_both Low (High ++ (Local ++ Turn)) l (holds_both High (Local ++ Turn) g (holds_both Local Turn n (turn_same ∙ b)))

        pub for_after : (p q : Here) → after_all j body ≡ p → behind h p ≡ q → after h (s.For at name low high body) ≡ q
        for_after p q is past = ap (λ g. behind h (after_all g body)) on ∙ ap (behind h) is ∙ past

        pub for_made : (a b : Tree) (steps : Steps) (slot : ℕ) → slot ≡ length h.slots → resolve h low ≡ a → resolve h high ≡ b → resolve_stmts j body ≡ steps
            → resolve_stmt h (s.For at name low high body) ≡ r.For at slot a b steps
        for_made a b steps slot number low_is high_is are = (λ i. r.For at (sym number i) (low_is i) (high_is i) ((ap (λ p. resolve_stmts p body) on ∙ are) i))
