use Rattle.std.proofs.Common.{◌∷◌, not, false, map, sym, ap, subst, ◌∙◌}
use Rattle.std.proofs.lemmas.List.{take_all}
use Rattle.std.proofs.lemmas.Result.{err_from_is_err_and}
use Rattle.mace_ast.specs.Exprs.{expr_tree}
use Rattle.mace_ast.specs.Stmts as s
use Rattle.mace_ast.specs.Stmts.{stmt_tree, stmts_of, action_tree, else_of}
use Rattle.resolved_service.specs.Steps as r
use Rattle.resolved_service.specs.Steps.{step_of, steps_of, steps_in, else_in, is_end}
use Rattle.resolved_service.specs.View.{tree_of}
use Rattle.std.specs.Option.{option_map}
use Rattle.type_rules.specs.declared.error.TypeError.TheVariants.{Unreachable}
use Rattle.type_rules.specs.Demands.{ask, first_wrong, Fails}
use Rattle.type_rules.specs.Here.{behind}
use Rattle.type_rules.specs.Stmts.{start_of, stmt_demands, stmts_demands}
use Rattle.type_rules.proofs.First.{told_past, fails_at, fails_past, fails_same}
use Rattle.context_types.specs.inner.Places.{here_of}
use Rattle.context_types.proofs.Exits.{exit}
use Rattle.context_types.proofs.Lists.{next_stmt, stmt_asks, stmt_made, stmts_walk, stmts_ends, stmts_made}
use Rattle.context_types.proofs.Scopes.{cut_block, cut_loop, behind_is}
use Rattle.context_types.proofs.StmtArms.{walks_as, walks_ok, while_test_fails, while_body_fails, while_holds, if_test_fails, if_body_fails, if_other_fails, if_holds, if_after, if_made, for_low_fails, for_high_fails, for_name_fails, for_body_fails, for_holds, for_after, for_made}
use Rattle.context_types.proofs.StmtNodes.{starts_at, if_node, while_node, for_node, if_step, while_step, for_step}
use Rattle.context_types.proofs.Walking.{walk, ends, ends_more, walk_more, walk_fails, walk_whole, makes, made_more}
use Rattle.context_types.proofs.here.Here.+stmt.Goals as goal

-- ---- statements one after the other

pub stmts-returns-then-ended : goal.stmts-returns-then-ended
stmts-returns-then-ended t c =
    let h = here_of c.args.self.now in
    let ss = c.args.body.now in
    let a = c.s-item.result in
    let d = stmt_demands (here_of c.each.self) (stmt_tree a) in
    fails_same (stmts_demands h (stmts_of (map stmt_tree ss))) (walk next_stmt stmt_asks (h, false) ss) (Unreachable a.at) (stmts_walk h ss)
    (walk_fails next_stmt stmt_asks (h, false) ss c.each.s-index a (Unreachable a.at) c.each-test.true c.s-item.is c.each.invariant.holds
    (subst (λ g. Fails (stmt_asks g a) (Unreachable a.at)) (sym c.each.invariant.place)
    (subst (λ at. Fails (ask (not c.each.ended) (Unreachable at) ∷ d) (Unreachable a.at)) (sym (starts_at a)) (fails_at (not c.each.ended) (Unreachable a.at) d (ap not c.if-ended.true)))))

pub stmts-returns-in_err-step : goal.stmts-returns-in_err-step
stmts-returns-in_err-step t c =
    let h = here_of c.args.self.now in
    let ss = c.args.body.now in
    let a = c.s-item.result in
    let e = c.in_err-step.field-0.0 in
    exit _ _ _ (err_from_is_err_and c.from_residual.result c.from_residual.ensures.1) (stmts_demands h (stmts_of (map stmt_tree ss)))
    (fails_same (stmts_demands h (stmts_of (map stmt_tree ss))) (walk next_stmt stmt_asks (h, false) ss) _ (stmts_walk h ss)
    (walk_fails next_stmt stmt_asks (h, false) ss c.each.s-index a _ c.each-test.true c.s-item.is c.each.invariant.holds
    (subst (λ g. Fails (stmt_asks g a) e) (sym c.each.invariant.place)
    (fails_past (not c.each.ended) (Unreachable (start_of (stmt_tree a))) (stmt_demands (here_of c.each.self) (stmt_tree a)) e (ap not c.if-ended.false) c.in_err-step.ensures))))

pub stmts-each-preserved : goal.stmts-each-preserved
stmts-each-preserved t c =
    let h = here_of c.args.self.now in
    let ss = c.args.body.now in
    let a = c.s-item.result in
    let i = c.each.s-index in
    let is = c.each.invariant in
    let step = c.in_ok-step.ensures.1 in
    record {
      holds = walk_more next_stmt stmt_asks (h, false) ss i a c.each-test.true c.s-item.is is.holds
          (ap (λ g. first_wrong (stmt_asks g a)) is.place
          ∙ told_past (not c.each.ended) (Unreachable (start_of (stmt_tree a))) (stmt_demands (here_of c.each.self) (stmt_tree a)) (ap not c.if-ended.false)
          ∙ c.in_ok-step.ensures.0);
      place = ends_more next_stmt (h, false) ss i a c.each-test.true c.s-item.is ∙ ap (λ g. next_stmt g a) is.place ∙ (λ i. (step.here i, (ap is_end step.step ∙ sym c.is_end-ended.ensures) i));
      made = made_more next_stmt stmt_made step_of (h, false) ss i a c.each.steps.items c.push.new.items.items c.in_ok-step.step c.each-test.true c.s-item.is is.made
          (ap (λ g. stmt_made g a) is.place ∙ step.step) c.in_ok-push.ensures.items;
    }

pub stmts-returns : goal.stmts-returns
stmts-returns t c =
    let h = here_of c.args.self.now in
    let ss = c.args.body.now in
    let i = c.each.s-index in
    let is = c.each.invariant in
    let all = sym (take_all i ss c.each-test.false) in (
      stmts_walk h ss ∙ walk_whole next_stmt stmt_asks (h, false) ss i c.each-test.false is.holds,
      record {
        here = stmts_ends h false ss ∙ ap (λ xs. (ends next_stmt (h, false) xs).0) all ∙ ap (λ g. g.0) is.place;
        steps = stmts_made h false ss ∙ ap (λ xs. steps_of (makes next_stmt stmt_made (h, false) xs)) all ∙ ap steps_of is.made;
      },
    )

-- ---- blocks

pub block-returns : goal.block-returns
block-returns t c =
    let h = here_of c.args.self.now in
    let p = here_of c.stmts.new.self in
    let ss = stmts_of (map stmt_tree c.args.body.now) in
    let done = c.in_ok-steps.ensures in
    let number = c.len-before.ensures ∙ c.args.self.now.locals.ok.0 in (
      done.0,
      record {
        here = ap (λ g. behind h g) done.1.here ∙ behind_is h p c.truncate.new.self.items (cut_block h p ss c.len-before.result c.truncate.new.self.items done.1.here number c.truncate.ensures.items);
        steps = done.1.steps;
      },
    )

-- ---- `if`

pub stmt-returns-in_err-test-in-If : goal.stmt-returns-in_err-test-in-If
stmt-returns-in_err-test-in-If t c =
    let h = here_of c.args.self.now in
    let at = c.args.s.now.at in
    let test = expr_tree c.in-If.test in
    let body = stmts_of (map stmt_tree c.in-If.body.items) in
    let other = else_of (option_map (λ b. map stmt_tree b.items) c.in-If.other) in
    walks_as h _ _ (s.If at test body other) _ (ap (λ a. action_tree a at) c.in-If.is ∙ if_node c.in-If.test c.in-If.body c.in-If.other at)
    (exit _ _ _ (err_from_is_err_and c.from_residual.result c.from_residual.ensures.1) (stmt_demands h (s.If at test body other)) (if_test_fails h at test body other _ c.in_err-test-in-If.ensures))

pub stmt-returns-in_err-body-in-If : goal.stmt-returns-in_err-body-in-If
stmt-returns-in_err-body-in-If t c =
    let h = here_of c.args.self.now in
    let at = c.args.s.now.at in
    let test = expr_tree c.in-If.test in
    let body = stmts_of (map stmt_tree c.deref.result.now) in
    let other = else_of (option_map (λ b. map stmt_tree b.items) c.in-If.other) in
    walks_as h _ _ (s.If at test body other) _ (ap (λ a. action_tree a at) c.in-If.is ∙ if_node c.in-If.test c.in-If.body c.in-If.other at ∙ ap (λ l. s.If at test (stmts_of (map stmt_tree l)) other) (sym c.deref.ensures.value))
    (exit _ _ _ (err_from_is_err_and c.from_residual-in_err-body-in-If.result c.from_residual-in_err-body-in-If.ensures.1) (stmt_demands h (s.If at test body other)) (if_body_fails h at test body other c.in_ok-test-in-If.ensures.0 _ c.in_err-body-in-If.ensures))

pub stmt-returns-in_err-other-in-If : goal.stmt-returns-in_err-other-in-If
stmt-returns-in_err-other-in-If t c =
    let h = here_of c.args.self.now in
    let at = c.args.s.now.at in
    let test = expr_tree c.in-If.test in
    let body = stmts_of (map stmt_tree c.deref.result.now) in
    let other = else_of (option_map (λ b. map stmt_tree b.items) c.in-If.other) in
    walks_as h _ _ (s.If at test body other) _ (ap (λ a. action_tree a at) c.in-If.is ∙ if_node c.in-If.test c.in-If.body c.in-If.other at ∙ ap (λ l. s.If at test (stmts_of (map stmt_tree l)) other) (sym c.deref.ensures.value))
    (exit _ _ _ (err_from_is_err_and c.from_residual-in_err-other-in-If.result c.from_residual-in_err-other-in-If.ensures.1) (stmt_demands h (s.If at test body other)) (if_other_fails h at test body other c.in_ok-test-in-If.ensures.0 c.in_ok-body-in-If.ensures.0 (here_of c.block.new.self) c.in_ok-body-in-If.ensures.1.here _ c.in_err-other-in-If.ensures))

pub stmt-returns-in_ok-other-in-If : goal.stmt-returns-in_ok-other-in-If
stmt-returns-in_ok-other-in-If t c =
    let h = here_of c.args.self.now in
    let at = c.args.s.now.at in
    let test = expr_tree c.in-If.test in
    let body = stmts_of (map stmt_tree c.deref.result.now) in
    let other = else_of (option_map (λ b. map stmt_tree b.items) c.in-If.other) in
    let j = here_of c.block.new.self in
    let a = c.in_ok-test-in-If.ensures in
    let b = c.in_ok-body-in-If.ensures in
    let d = c.in_ok-other-in-If.ensures in
    walks_ok h _ _ (s.If at test body other) _ (ap (λ a. action_tree a at) c.in-If.is ∙ if_node c.in-If.test c.in-If.body c.in-If.other at ∙ ap (λ l. s.If at test (stmts_of (map stmt_tree l)) other) (sym c.deref.ensures.value))
    (if_holds h at test body other a.0 b.0 j b.1.here d.0)
    (record {
      here = if_after h at test body other a.0 b.0 j b.1.here (here_of c.other.new.self) d.1.here;
      step = if_made h at test body other a.0 b.0 j b.1.here (tree_of c.in_ok-test-in-If.test) (steps_in c.in_ok-body-in-If.body.items) (else_in c.in_ok-other-in-If.other) a.1 b.1.steps d.1.steps
          ∙ sym (if_step c.in_ok-test-in-If.test c.in_ok-body-in-If.body c.in_ok-other-in-If.other at);
    })

-- ---- `while`

pub stmt-returns-in_err-test-in-While : goal.stmt-returns-in_err-test-in-While
stmt-returns-in_err-test-in-While t c =
    let h = here_of c.args.self.now in
    let at = c.args.s.now.at in
    let test = expr_tree c.in-While.test in
    let body = stmts_of (map stmt_tree c.in-While.body.items) in
    walks_as h _ _ (s.While at test body) _ (ap (λ a. action_tree a at) c.in-While.is ∙ while_node c.in-While.test c.in-While.body at)
    (exit _ _ _ (err_from_is_err_and c.from_residual-in_err-test-in-While.result c.from_residual-in_err-test-in-While.ensures.1) (stmt_demands h (s.While at test body)) (while_test_fails h at test body _ c.in_err-test-in-While.ensures))

pub stmt-returns-in_err-body-in-While : goal.stmt-returns-in_err-body-in-While
stmt-returns-in_err-body-in-While t c =
    let h = here_of c.args.self.now in
    let at = c.args.s.now.at in
    let test = expr_tree c.in-While.test in
    let body = stmts_of (map stmt_tree c.deref-in-While.result.now) in
    walks_as h _ _ (s.While at test body) _ (ap (λ a. action_tree a at) c.in-While.is ∙ while_node c.in-While.test c.in-While.body at ∙ ap (λ l. s.While at test (stmts_of (map stmt_tree l))) (sym c.deref-in-While.ensures.value))
    (exit _ _ _ (err_from_is_err_and c.from_residual-in_err-body-in-While.result c.from_residual-in_err-body-in-While.ensures.1) (stmt_demands h (s.While at test body)) (while_body_fails h at test body _ c.in_ok-test-in-While.ensures.0 c.in_err-body-in-While.ensures))

pub stmt-returns-in_ok-body-in-While : goal.stmt-returns-in_ok-body-in-While
stmt-returns-in_ok-body-in-While t c =
    let h = here_of c.args.self.now in
    let at = c.args.s.now.at in
    let test = expr_tree c.in-While.test in
    let body = stmts_of (map stmt_tree c.deref-in-While.result.now) in
    let a = c.in_ok-test-in-While.ensures in
    let b = c.in_ok-body-in-While.ensures in
    walks_ok h _ _ (s.While at test body) _ (ap (λ a. action_tree a at) c.in-While.is ∙ while_node c.in-While.test c.in-While.body at ∙ ap (λ l. s.While at test (stmts_of (map stmt_tree l))) (sym c.deref-in-While.ensures.value))
    (while_holds h at test body a.0 b.0)
    (record { here = b.1.here; step = (λ i. r.While at (a.1 i) (b.1.steps i)) ∙ sym (while_step c.in_ok-test-in-While.test c.in_ok-body-in-While.body at) })

-- ---- `for`

pub stmt-returns-in_err-low-in-For : goal.stmt-returns-in_err-low-in-For
stmt-returns-in_err-low-in-For t c =
    let h = here_of c.args.self.now in
    let at = c.args.s.now.at in
    let name = c.in-For.name in
    let low = expr_tree c.in-For.low in
    let high = expr_tree c.in-For.high in
    let body = stmts_of (map stmt_tree c.in-For.body.items) in
    walks_as h _ _ (s.For at name low high body) _ (ap (λ a. action_tree a at) c.in-For.is ∙ for_node name c.in-For.low c.in-For.high c.in-For.body at)
    (exit _ _ _ (err_from_is_err_and c.from_residual-in_err-low-in-For.result c.from_residual-in_err-low-in-For.ensures.1) (stmt_demands h (s.For at name low high body)) (for_low_fails h at name low high body _ c.in_err-low-in-For.ensures))

pub stmt-returns-in_err-high-in-For : goal.stmt-returns-in_err-high-in-For
stmt-returns-in_err-high-in-For t c =
    let h = here_of c.args.self.now in
    let at = c.args.s.now.at in
    let name = c.in-For.name in
    let low = expr_tree c.in-For.low in
    let high = expr_tree c.in-For.high in
    let body = stmts_of (map stmt_tree c.in-For.body.items) in
    walks_as h _ _ (s.For at name low high body) _ (ap (λ a. action_tree a at) c.in-For.is ∙ for_node name c.in-For.low c.in-For.high c.in-For.body at)
    (exit _ _ _ (err_from_is_err_and c.from_residual-in_err-high-in-For.result c.from_residual-in_err-high-in-For.ensures.1) (stmt_demands h (s.For at name low high body)) (for_high_fails h at name low high body c.in_ok-low-in-For.ensures.0 _ c.in_err-high-in-For.ensures))

pub stmt-returns-in_err-counter-in-For : goal.stmt-returns-in_err-counter-in-For
stmt-returns-in_err-counter-in-For t c =
    let h = here_of c.args.self.now in
    let at = c.args.s.now.at in
    let name = c.in-For.name in
    let low = expr_tree c.in-For.low in
    let high = expr_tree c.in-For.high in
    let body = stmts_of (map stmt_tree c.in-For.body.items) in
    walks_as h _ _ (s.For at name low high body) _ (ap (λ a. action_tree a at) c.in-For.is ∙ for_node name c.in-For.low c.in-For.high c.in-For.body at)
    (exit _ _ _ (err_from_is_err_and c.from_residual-in_err-counter-in-For.result c.from_residual-in_err-counter-in-For.ensures.1) (stmt_demands h (s.For at name low high body)) (for_name_fails h at name low high body c.in_ok-low-in-For.ensures.0 c.in_ok-high-in-For.ensures.0 _ c.in_err-counter-in-For.ensures))

pub stmt-returns-in_err-body-in-For : goal.stmt-returns-in_err-body-in-For
stmt-returns-in_err-body-in-For t c =
    let h = here_of c.args.self.now in
    let at = c.args.s.now.at in
    let name = c.in-For.name in
    let low = expr_tree c.in-For.low in
    let high = expr_tree c.in-For.high in
    let body = stmts_of (map stmt_tree c.deref-in-For.result.now) in
    walks_as h _ _ (s.For at name low high body) _ (ap (λ a. action_tree a at) c.in-For.is ∙ for_node name c.in-For.low c.in-For.high c.in-For.body at ∙ ap (λ l. s.For at name low high (stmts_of (map stmt_tree l))) (sym c.deref-in-For.ensures.value))
    (exit _ _ _ (err_from_is_err_and c.from_residual-in_err-body-in-For.result c.from_residual-in_err-body-in-For.ensures.1) (stmt_demands h (s.For at name low high body)) (for_body_fails h at name low high body c.in_ok-low-in-For.ensures.0 c.in_ok-high-in-For.ensures.0 c.in_ok-counter-in-For.ensures.0 (here_of c.count.new.self) c.in_ok-counter-in-For.ensures.1.1 _ c.in_err-body-in-For.ensures))

pub stmt-returns-in_ok-body-in-For : goal.stmt-returns-in_ok-body-in-For
stmt-returns-in_ok-body-in-For t c =
    let h = here_of c.args.self.now in
    let at = c.args.s.now.at in
    let name = c.in-For.name in
    let low = expr_tree c.in-For.low in
    let high = expr_tree c.in-For.high in
    let body = stmts_of (map stmt_tree c.deref-in-For.result.now) in
    let j = here_of c.count.new.self in
    let p = here_of c.stmts.new.self in
    let a = c.in_ok-low-in-For.ensures in
    let b = c.in_ok-high-in-For.ensures in
    let n = c.in_ok-counter-in-For.ensures in
    let d = c.in_ok-body-in-For.ensures in
    let number = c.len-outside.ensures ∙ c.args.self.now.locals.ok.0 in
    let cut = cut_loop h j p name.text body c.len-outside.result c.truncate.new.self.items n.1.1 d.1.here number c.truncate.ensures.items in
    walks_ok h _ _ (s.For at name low high body) _ (ap (λ a. action_tree a at) c.in-For.is ∙ for_node name c.in-For.low c.in-For.high c.in-For.body at ∙ ap (λ l. s.For at name low high (stmts_of (map stmt_tree l))) (sym c.deref-in-For.ensures.value))
    (for_holds h at name low high body a.0 b.0 n.0 j n.1.1 d.0)
    (record {
      here = for_after h at name low high body a.0 b.0 n.0 j n.1.1 p _ d.1.here (behind_is h p c.truncate.new.self.items cut);
      step = for_made h at name low high body a.0 b.0 n.0 j n.1.1 (tree_of c.in_ok-low-in-For.low) (tree_of c.in_ok-high-in-For.high) (steps_in c.in_ok-body-in-For.body.items) c.in_ok-counter-in-For.counter n.1.0 a.1 b.1 d.1.steps
          ∙ sym (for_step c.in_ok-counter-in-For.counter c.in_ok-low-in-For.low c.in_ok-high-in-For.high c.in_ok-body-in-For.body at);
    })
