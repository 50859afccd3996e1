use Rattle.std.proofs.Common.{◌≡◌, ◌==◌, ◌++◌, map, length, Some, refl, sym, ap, subst, ◌∙◌, eq-eqb}
use Rattle.std.proofs.lemmas.Bool.{lt-ltb}
use Rattle.std.proofs.lemmas.List.{take_all}
use Rattle.std.proofs.lemmas.Result.{err_from_is_err_and}
use Rattle.mace_ast.specs.Exprs as e
use Rattle.mace_ast.specs.Exprs.{expr_tree, exprs_of, node_tree}
use Rattle.resolved_service.specs.View.{tree_of, trees_of}
use Rattle.type_rules.specs.declared.error.TypeError.TheVariants.{ArgCount}
use Rattle.type_rules.specs.declared.meant.Callee.TheVariants as callee
use Rattle.type_rules.specs.Demands.{first_wrong, Fails}
use Rattle.type_rules.specs.Known.{method_named}
use Rattle.type_rules.specs.Here.{callee_named}
use Rattle.type_rules.specs.Exprs.{count, demands, of_kind, kind_asks, args_demands, call_demands, child_demands, call_gives, call_tree, child_gives, child_tree, resolve, resolve_all}
use Rattle.type_rules.proofs.First.{fails_at, fails_past, fails_same, fails_front, fails_behind, told_past}
use Rattle.type_tables.proofs.Walks.{differ}
use Rattle.context_types.specs.inner.Places.{here_of}
use Rattle.context_types.proofs.Arms.{unary_arm, binary_arm, index_arm, above_index_arm, as_arm, as_fails, worth, place_node}
use Rattle.context_types.proofs.CallArms.{args_asks, call_same, builtin_called, method_called, child_same, child_called, child_holds, child_fails, child_is, key_fails}
use Rattle.context_types.proofs.Exits.{exit, exit_front}
use Rattle.context_types.proofs.Lists.{next_number, at_number, arg_asks, arg_made, args_made, args_walk, count_args}
use Rattle.context_types.proofs.SyntaxNodes.{index_node, above_index_node, call_node, child_call_node, unary_node, binary_node, answers_as}
use Rattle.context_types.proofs.Walking.{walk, walk_more, walk_fails, walk_whole, makes, made_more}
use Rattle.context_types.proofs.here.Here.+expr.Goals as goal

-- ---- arguments

pub args-returns-then-kinds-args : goal.args-returns-then-kinds-args
args-returns-then-kinds-args t c =
    let given = exprs_of (map expr_tree c.args.args.now) in
    fails_at (length c.args.kinds.now == count given) (ArgCount c.args.at) (args_demands (here_of c.args.self.now) c.args.kinds.now given)
    (differ _ _ (λ l. c.if-kinds-args.true (l ∙ count_args c.args.args.now)))

pub args-returns-in_err-tree : goal.args-returns-in_err-tree
args-returns-in_err-tree t c =
    let h = here_of c.args.self.now in
    let kinds = c.args.kinds.now in
    let es = c.args.args.now in
    let given = exprs_of (map expr_tree es) in
    let i = c.each.i in
    let a = c.index-args-i.result in
    exit _ _ _ (err_from_is_err_and c.from_residual.result c.from_residual.ensures.1) (args_asks h c.args.at kinds given)
    (fails_past (length kinds == count given) (ArgCount c.args.at) (args_demands h kinds given) _ (eq-eqb _ _ (c.if-kinds-args.false ∙ sym (count_args es)))
    (fails_same (args_demands h kinds given) (walk next_number (arg_asks h kinds) 0 es) _ (ap first_wrong (args_walk h kinds es c.if-kinds-args.false))
    (walk_fails next_number (arg_asks h kinds) 0 es i a _ c.each-test.true c.index-args-i.is c.each.invariant.holds
    (subst (λ n. Fails (arg_asks h kinds n a) c.in_err-tree.field-0.0) (sym (at_number es i c.each-test.true)) c.in_err-tree.ensures))))

pub args-each-preserved : goal.args-each-preserved
args-each-preserved t c =
    let h = here_of c.args.self.now in
    let kinds = c.args.kinds.now in
    let es = c.args.args.now in
    let i = c.each.i in
    let a = c.index-args-i.result in
    record {
      holds = walk_more next_number (arg_asks h kinds) 0 es i a c.each-test.true c.index-args-i.is c.each.invariant.holds
          (ap (λ n. first_wrong (arg_asks h kinds n a)) (at_number es i c.each-test.true) ∙ c.in_ok-tree.ensures.0);
      made = made_more next_number (arg_made h kinds) tree_of 0 es i a c.each.trees.items c.push.new.items.items c.in_ok-tree.tree c.each-test.true c.index-args-i.is c.each.invariant.made c.in_ok-tree.ensures.1 c.in_ok-push.ensures.items;
    }

pub args-returns : goal.args-returns
args-returns t c =
    let h = here_of c.args.self.now in
    let kinds = c.args.kinds.now in
    let es = c.args.args.now in
    let given = exprs_of (map expr_tree es) in
    let whole = walk_whole next_number (arg_asks h kinds) 0 es c.each.i c.each-test.false c.each.invariant.holds in (
      told_past (length kinds == count given) (ArgCount c.args.at) (args_demands h kinds given) (eq-eqb _ _ (c.if-kinds-args.false ∙ sym (count_args es)))
          ∙ ap first_wrong (args_walk h kinds es c.if-kinds-args.false) ∙ whole,
      args_made h kinds 0 es ∙ ap (λ xs. trees_of (makes next_number (arg_made h kinds) 0 xs)) (sym (take_all c.each.i es c.each-test.false)) ∙ ap trees_of c.each.invariant.made,
    )

-- ---- calls

pub call-returns-in_ok-args-in-Some-Builtin : goal.call-returns-in_ok-args-in-Some-Builtin
call-returns-in_ok-args-in-Some-Builtin t c =
    let h = here_of c.args.self.now in
    let given = exprs_of (map expr_tree c.args.args.now) in
    let row = c.in-Some-Builtin.row in
    let found : callee_named h c.args.name.now ≡ Some (callee.Builtin row) = sym c.callee_named.ensures.found ∙ c.in-Some-Builtin.is ∙ ap Some c.in-Some-Builtin.field-0-is in
    let made = c.in_ok-args-in-Some-Builtin.ensures in (
      call_same h c.args.at c.args.name.now given (callee.Builtin row) found refl ∙ ap (λ ks. first_wrong (args_asks h c.args.at ks given)) (sym c.takes-len.ensures.kinds) ∙ made.0,
      builtin_called h c.args.at c.args.name.now given row c.gives.result c.in_ok-args-in-Some-Builtin.args c.new.result found made.1 c.gives.ensures c.new.ensures.gives c.new.ensures.tree,
    )

pub call-returns-in_ok-args-in-Some-Method : goal.call-returns-in_ok-args-in-Some-Method
call-returns-in_ok-args-in-Some-Method t c =
    let h = here_of c.args.self.now in
    let given = exprs_of (map expr_tree c.args.args.now) in
    let m = c.in-Some-Method.method in
    let found : callee_named h c.args.name.now ≡ Some (callee.Method m) = sym c.callee_named.ensures.found ∙ c.in-Some-Method.is ∙ ap Some c.in-Some-Method.field-0-is in
    let made = c.in_ok-args-in-Some-Method.ensures in
    let params = c.as_slice.ensures ∙ ap (λ s. s.params) c.signature-signature.ensures in (
      call_same h c.args.at c.args.name.now given (callee.Method m) found (lt-ltb m c.args.self.now.function c.if-method-self.false) ∙ ap (λ ks. first_wrong (args_asks h c.args.at ks given)) (sym params) ∙ made.0,
      method_called h c.args.at c.args.name.now given m c.in_ok-args-in-Some-Method.args c.new-in-Some-Method.result found made.1 (c.new-in-Some-Method.ensures.gives ∙ ap (λ s. s.result) c.signature-signature.ensures) c.new-in-Some-Method.ensures.tree,
    )

pub child_call-returns : goal.child_call-returns
child_call-returns t c =
    let h = here_of c.args.self.now in
    let given = exprs_of (map expr_tree c.args.args.now) in
    let found = sym c.method.ensures.found ∙ c.in-Some.is in
    let made = c.in_ok-args.ensures in
    let method = method_named c.args.self.now.known.now c.args.class c.args.name.now in
    let params = c.as_slice.ensures ∙ ap (λ s. s.params) c.signature-signature.ensures in (
      child_same h c.args.at method given c.in-Some.method found ∙ ap (λ ks. first_wrong (args_asks h c.args.at ks given)) (sym params) ∙ made.0,
      child_called h c.args.at method given c.args.class c.in-Some.method (record { 0 = c.args.class }) c.in_ok-key.key c.args.key c.in_ok-args.args c.new.result found refl c.in_ok-key.ensures made.1
          (c.new.ensures.gives ∙ ap (λ s. s.result) c.signature-signature.ensures) c.new.ensures.tree,
    )

-- ---- expressions

pub expr-returns-in_err-key-in-Index : goal.expr-returns-in_err-key-in-Index
expr-returns-in_err-key-in-Index t c =
    let h = here_of c.args.self.now in
    let at = c.args.e.now.at in
    let a = expr_tree c.deref.result.now in
    let whole = e.Index at c.in-Index.name a in
    answers_as h _ whole _ (ap (λ n. node_tree n at) c.in-Index.is ∙ index_node c.in-Index.name c.in-Index.key at ∙ ap (λ x. e.Index at c.in-Index.name (expr_tree x)) (sym c.deref.ensures))
    (exit _ _ _ (err_from_is_err_and c.from_residual-in_err-key-in-Index.result c.from_residual-in_err-key-in-Index.ensures.1) (demands h whole)
    (fails_behind (demands h (e.Read at c.in-Index.name)) (demands h a ++ kind_asks h whole) _ c.in_ok-map-in-Index.ensures.0 (fails_front (demands h a) (kind_asks h whole) _ c.in_err-key-in-Index.ensures)))

pub expr-returns-in_err-key-in-AboveIndex : goal.expr-returns-in_err-key-in-AboveIndex
expr-returns-in_err-key-in-AboveIndex t c =
    let h = here_of c.args.self.now in
    let at = c.args.e.now.at in
    let a = expr_tree c.deref-in-AboveIndex.result.now in
    let whole = e.AboveIndex at c.in-AboveIndex.class c.in-AboveIndex.name a in
    answers_as h _ whole _
    (ap (λ n. node_tree n at) c.in-AboveIndex.is ∙ above_index_node c.in-AboveIndex.class c.in-AboveIndex.name c.in-AboveIndex.key at ∙ ap (λ x. e.AboveIndex at c.in-AboveIndex.class c.in-AboveIndex.name (expr_tree x)) (sym c.deref-in-AboveIndex.ensures))
    (exit _ _ _ (err_from_is_err_and c.from_residual-in_err-key-in-AboveIndex.result c.from_residual-in_err-key-in-AboveIndex.ensures.1) (demands h whole)
    (fails_behind (demands h (e.Above at c.in-AboveIndex.class c.in-AboveIndex.name)) (demands h a ++ kind_asks h whole) _ c.in_ok-map-in-AboveIndex.ensures.0 (fails_front (demands h a) (kind_asks h whole) _ c.in_err-key-in-AboveIndex.ensures)))

pub expr-returns-in_err-called-in-Call : goal.expr-returns-in_err-called-in-Call
expr-returns-in_err-called-in-Call t c =
    let h = here_of c.args.self.now in
    let at = c.args.e.now.at in
    let given = exprs_of (map expr_tree c.deref-in-Call.result.now) in
    let whole = e.Call at c.in-Call.name given in
    answers_as h _ whole _ (ap (λ n. node_tree n at) c.in-Call.is ∙ call_node c.in-Call.name c.in-Call.args at ∙ ap (λ l. e.Call at c.in-Call.name (exprs_of (map expr_tree l))) (sym c.deref-in-Call.ensures.value))
    (exit _ _ _ (err_from_is_err_and c.from_residual-in_err-called-in-Call.result c.from_residual-in_err-called-in-Call.ensures.1) (demands h whole)
    (fails_front (call_demands h at c.in-Call.name given) (kind_asks h whole) _ c.in_err-called-in-Call.ensures))

pub expr-returns-in_err-key-in-ChildCall : goal.expr-returns-in_err-key-in-ChildCall
expr-returns-in_err-key-in-ChildCall t c =
    let h = here_of c.args.self.now in
    let at = c.args.e.now.at in
    let class = c.in-ChildCall.class in
    let name = c.in-ChildCall.name in
    let a = expr_tree c.deref-in-ChildCall.result.now in
    let given = exprs_of (map expr_tree c.in-ChildCall.args.items) in
    let whole = e.ChildCall at class a name given in
    answers_as h _ whole _ (ap (λ n. node_tree n at) c.in-ChildCall.is ∙ child_call_node class c.in-ChildCall.key name c.in-ChildCall.args at ∙ ap (λ x. e.ChildCall at class (expr_tree x) name given) (sym c.deref-in-ChildCall.ensures))
    (exit _ _ _ (err_from_is_err_and c.from_residual-in_err-key-in-ChildCall.result c.from_residual-in_err-key-in-ChildCall.ensures.1) (demands h whole)
    (fails_front (child_demands h at class a name given) (kind_asks h whole) _ (key_fails h at class a name given _ c.in_ok-class-in-ChildCall.ensures.0 c.in_err-key-in-ChildCall.ensures)))

pub expr-returns-in_err-called-in-ChildCall : goal.expr-returns-in_err-called-in-ChildCall
expr-returns-in_err-called-in-ChildCall t c =
    let h = here_of c.args.self.now in
    let at = c.args.e.now.at in
    let class = c.in-ChildCall.class in
    let name = c.in-ChildCall.name in
    let a = expr_tree c.deref-in-ChildCall.result.now in
    let given = exprs_of (map expr_tree c.deref-in-ChildCall-2.result.now) in
    let whole = e.ChildCall at class a name given in
    answers_as h _ whole _
    (ap (λ n. node_tree n at) c.in-ChildCall.is ∙ child_call_node class c.in-ChildCall.key name c.in-ChildCall.args at
    ∙ (λ i. e.ChildCall at class (expr_tree (sym c.deref-in-ChildCall.ensures i)) name (exprs_of (map expr_tree (sym c.deref-in-ChildCall-2.ensures.value i)))))
    (exit _ _ _ (err_from_is_err_and c.from_residual-in_err-called-in-ChildCall.result c.from_residual-in_err-called-in-ChildCall.ensures.1) (demands h whole)
    (fails_front (child_demands h at class a name given) (kind_asks h whole) _
    (child_fails h at class a name given c.in_ok-class-in-ChildCall.class c.in_ok-class-in-ChildCall.ensures.1 _ c.in_ok-class-in-ChildCall.ensures.0 c.in_ok-key-in-ChildCall.ensures.0 c.in_err-called-in-ChildCall.ensures)))

pub expr-returns-in_err-operand-in-Unary : goal.expr-returns-in_err-operand-in-Unary
expr-returns-in_err-operand-in-Unary t c =
    let h = here_of c.args.self.now in
    let at = c.args.e.now.at in
    let a = expr_tree c.deref-in-Unary.result.now in
    let whole = e.Unary at c.in-Unary.op a in
    answers_as h _ whole _ (ap (λ n. node_tree n at) c.in-Unary.is ∙ unary_node c.in-Unary.op c.in-Unary.operand at ∙ ap (λ x. e.Unary at c.in-Unary.op (expr_tree x)) (sym c.deref-in-Unary.ensures))
    (exit_front _ _ _ (err_from_is_err_and c.from_residual-in_err-operand-in-Unary.result c.from_residual-in_err-operand-in-Unary.ensures.1) (demands h a) (kind_asks h whole) c.in_err-operand-in-Unary.ensures)

pub expr-returns-in_err-left-in-Binary : goal.expr-returns-in_err-left-in-Binary
expr-returns-in_err-left-in-Binary t c =
    let h = here_of c.args.self.now in
    let at = c.args.e.now.at in
    let a = expr_tree c.deref-in-Binary.result.now in
    let b = expr_tree c.in-Binary.right.value in
    let whole = e.Binary at c.in-Binary.op a b in
    answers_as h _ whole _ (ap (λ n. node_tree n at) c.in-Binary.is ∙ binary_node c.in-Binary.op c.in-Binary.left c.in-Binary.right at ∙ ap (λ x. e.Binary at c.in-Binary.op (expr_tree x) b) (sym c.deref-in-Binary.ensures))
    (exit_front _ _ _ (err_from_is_err_and c.from_residual-in_err-left-in-Binary.result c.from_residual-in_err-left-in-Binary.ensures.1) (demands h a) (demands h b ++ kind_asks h whole) c.in_err-left-in-Binary.ensures)

pub expr-returns-in_err-right-in-Binary : goal.expr-returns-in_err-right-in-Binary
expr-returns-in_err-right-in-Binary t c =
    let h = here_of c.args.self.now in
    let at = c.args.e.now.at in
    let a = expr_tree c.deref-in-Binary.result.now in
    let b = expr_tree c.deref-in-Binary-2.result.now in
    let whole = e.Binary at c.in-Binary.op a b in
    answers_as h _ whole _
    (ap (λ n. node_tree n at) c.in-Binary.is ∙ binary_node c.in-Binary.op c.in-Binary.left c.in-Binary.right at ∙ (λ i. e.Binary at c.in-Binary.op (expr_tree (sym c.deref-in-Binary.ensures i)) (expr_tree (sym c.deref-in-Binary-2.ensures i))))
    (exit _ _ _ (err_from_is_err_and c.from_residual-in_err-right-in-Binary.result c.from_residual-in_err-right-in-Binary.ensures.1) (demands h whole)
    (fails_behind (demands h a) (demands h b ++ kind_asks h whole) _ c.in_ok-left-in-Binary.ensures.0 (fails_front (demands h b) (kind_asks h whole) _ c.in_err-right-in-Binary.ensures)))

pub expr-returns-in_ok-key-in-Index : goal.expr-returns-in_ok-key-in-Index
expr-returns-in_ok-key-in-Index t c =
    let h = here_of c.args.self.now in
    let at = c.args.e.now.at in
    let a = expr_tree c.deref.result.now in
    answers_as h _ (e.Index at c.in-Index.name a) _ (ap (λ n. node_tree n at) c.in-Index.is ∙ index_node c.in-Index.name c.in-Index.key at ∙ ap (λ x. e.Index at c.in-Index.name (expr_tree x)) (sym c.deref.ensures))
    (index_arm h at c.in-Index.name a c.in_ok-map-in-Index.map c.in_ok-key-in-Index.key c.index.result c.in_ok-map-in-Index.ensures c.in_ok-key-in-Index.ensures c.index.ensures)

pub expr-returns-in_ok-key-in-AboveIndex : goal.expr-returns-in_ok-key-in-AboveIndex
expr-returns-in_ok-key-in-AboveIndex t c =
    let h = here_of c.args.self.now in
    let at = c.args.e.now.at in
    let a = expr_tree c.deref-in-AboveIndex.result.now in
    answers_as h _ (e.AboveIndex at c.in-AboveIndex.class c.in-AboveIndex.name a) _
    (ap (λ n. node_tree n at) c.in-AboveIndex.is ∙ above_index_node c.in-AboveIndex.class c.in-AboveIndex.name c.in-AboveIndex.key at ∙ ap (λ x. e.AboveIndex at c.in-AboveIndex.class c.in-AboveIndex.name (expr_tree x)) (sym c.deref-in-AboveIndex.ensures))
    (above_index_arm h at c.in-AboveIndex.class c.in-AboveIndex.name a c.in_ok-map-in-AboveIndex.map c.in_ok-key-in-AboveIndex.key c.index-in-AboveIndex.result c.in_ok-map-in-AboveIndex.ensures c.in_ok-key-in-AboveIndex.ensures c.index-in-AboveIndex.ensures)

pub expr-returns-in_ok-called-in-Call : goal.expr-returns-in_ok-called-in-Call
expr-returns-in_ok-called-in-Call t c =
    let h = here_of c.args.self.now in
    let at = c.args.e.now.at in
    let name = c.in-Call.name in
    let given = exprs_of (map expr_tree c.deref-in-Call.result.now) in
    answers_as h _ (e.Call at name given) _ (ap (λ n. node_tree n at) c.in-Call.is ∙ call_node name c.in-Call.args at ∙ ap (λ l. e.Call at name (exprs_of (map expr_tree l))) (sym c.deref-in-Call.ensures.value))
    (worth h (call_demands h at name given) at (call_gives h name) (call_tree at (callee_named h name) (resolve_all h given)) c.in_ok-called-in-Call.called c.worth.result c.in_ok-called-in-Call.ensures.0 c.in_ok-called-in-Call.ensures.1 c.worth.ensures)

pub expr-returns-in_ok-called-in-ChildCall : goal.expr-returns-in_ok-called-in-ChildCall
expr-returns-in_ok-called-in-ChildCall t c =
    let h = here_of c.args.self.now in
    let at = c.args.e.now.at in
    let class = c.in-ChildCall.class in
    let name = c.in-ChildCall.name in
    let a = expr_tree c.deref-in-ChildCall.result.now in
    let given = exprs_of (map expr_tree c.deref-in-ChildCall-2.result.now) in
    let n = c.in_ok-class-in-ChildCall.class in
    let class_is = c.in_ok-class-in-ChildCall.ensures.1 in
    answers_as h _ (e.ChildCall at class a name given) _
    (ap (λ n. node_tree n at) c.in-ChildCall.is ∙ child_call_node class c.in-ChildCall.key name c.in-ChildCall.args at
    ∙ (λ i. e.ChildCall at class (expr_tree (sym c.deref-in-ChildCall.ensures i)) name (exprs_of (map expr_tree (sym c.deref-in-ChildCall-2.ensures.value i)))))
    (worth h (child_demands h at class a name given) at (child_gives h class name) (child_tree h at class name (resolve h a) (resolve_all h given)) c.in_ok-called-in-ChildCall.called c.worth-in-ChildCall.result
    (child_holds h at class a name given n class_is c.in_ok-class-in-ChildCall.ensures.0 c.in_ok-key-in-ChildCall.ensures.0 c.in_ok-called-in-ChildCall.ensures.0)
    (child_is h at class a name given n class_is (tree_of c.in_ok-key-in-ChildCall.key) c.in_ok-called-in-ChildCall.called c.in_ok-key-in-ChildCall.ensures.1 c.in_ok-called-in-ChildCall.ensures.1)
    c.worth-in-ChildCall.ensures)

pub expr-returns-in_ok-operand-in-Unary : goal.expr-returns-in_ok-operand-in-Unary
expr-returns-in_ok-operand-in-Unary t c =
    let h = here_of c.args.self.now in
    let at = c.args.e.now.at in
    let a = expr_tree c.deref-in-Unary.result.now in
    answers_as h _ (e.Unary at c.in-Unary.op a) _ (ap (λ n. node_tree n at) c.in-Unary.is ∙ unary_node c.in-Unary.op c.in-Unary.operand at ∙ ap (λ x. e.Unary at c.in-Unary.op (expr_tree x)) (sym c.deref-in-Unary.ensures))
    (unary_arm h at c.in-Unary.op a c.in_ok-operand-in-Unary.operand c.unary.result c.in_ok-operand-in-Unary.ensures c.unary.ensures)

pub expr-returns-in_ok-right-in-Binary : goal.expr-returns-in_ok-right-in-Binary
expr-returns-in_ok-right-in-Binary t c =
    let h = here_of c.args.self.now in
    let at = c.args.e.now.at in
    let a = expr_tree c.deref-in-Binary.result.now in
    let b = expr_tree c.deref-in-Binary-2.result.now in
    answers_as h _ (e.Binary at c.in-Binary.op a b) _
    (ap (λ n. node_tree n at) c.in-Binary.is ∙ binary_node c.in-Binary.op c.in-Binary.left c.in-Binary.right at ∙ (λ i. e.Binary at c.in-Binary.op (expr_tree (sym c.deref-in-Binary.ensures i)) (expr_tree (sym c.deref-in-Binary-2.ensures i))))
    (binary_arm h at c.in-Binary.op a b c.in_ok-left-in-Binary.left c.in_ok-right-in-Binary.right c.binary.result c.in_ok-left-in-Binary.ensures c.in_ok-right-in-Binary.ensures c.binary.ensures)

pub expr_of-returns-in_err-judged : goal.expr_of-returns-in_err-judged
expr_of-returns-in_err-judged t c =
    let h = here_of c.args.self.now in
    let a = expr_tree c.args.e.now in
    exit_front _ _ _ (err_from_is_err_and c.from_residual.result c.from_residual.ensures.1) (demands h a) (of_kind h c.args.kind a) c.in_err-judged.ensures

pub expr_of-returns-then-same_kind : goal.expr_of-returns-then-same_kind
expr_of-returns-then-same_kind t c =
    as_arm (here_of c.args.self.now) c.args.kind (expr_tree c.args.e.now) c.in_ok-judged.judged c.in_ok-judged.ensures (sym c.same_kind.ensures ∙ c.if-same_kind.true)

pub expr_of-returns-else-same_kind : goal.expr_of-returns-else-same_kind
expr_of-returns-else-same_kind t c =
    as_fails (here_of c.args.self.now) c.args.kind (expr_tree c.args.e.now) c.in_ok-judged.judged c.args.e.now.at c.in_ok-judged.ensures (sym c.same_kind.ensures ∙ c.if-same_kind.false) (place_node c.args.e.now.node c.args.e.now.at)
