use Rattle.std.proofs.Common.{◌≡◌, map, get_or, inl, inr, sym, ap, subst, ◌∙◌}
use Rattle.context_tree.specs.Contexts.{tree_of as shown}
use Rattle.resolved_service.specs.Meaning.{value, call_act, Done}
use Rattle.resolved_service.specs.World.{read_field, read_above, nothing}
use Rattle.wave_base.specs.declared.limits.TheConstants.{TICKS}
use Rattle.wave_base.specs.Starts.{shown_fields}
use Rattle.service_eval.proofs.LookLemmas.{decided_true, decided_false, is_false, holds, one, two, three}
use Rattle.resolved_service.specs.View as r
use Rattle.resolved_service.specs.View.{Tree, node_tree, tree_of, trees_of}
use Rattle.service_eval.specs.inner.Answers.{Looks}
use Rattle.service_eval.specs.inner.Machines.{state_of}
use Rattle.service_eval.specs.inner.Wants.{WhereWanting, MayWant}
use Rattle.service_eval.proofs.WantLemmas.{for_made, said_of}
use Rattle.service_eval.proofs.TreeRows.{op_node}
use Rattle.service_eval.proofs.look.+look.Goals as goal

pub look-returns-in-Field-clause-sees : goal.look-returns-in-Field-clause-sees
unfolding read_field
look-returns-in-Field-clause-sees t c =
    let st = state_of (shown c.args.view.code.shape.now c.args.view.contexts.now) c.args.view.m.now in
    ap (λ n. value (call_act c.args.view.code.methods.now TICKS) c.args.view.m.now.path (node_tree n c.args.e.now.at) st) c.in-Field.is
    ∙ ap (λ v. Done v st) (sym c.field.ensures)

pub look-returns-in-Above-clause-sees : goal.look-returns-in-Above-clause-sees
unfolding read_field read_above
look-returns-in-Above-clause-sees t c =
    let st = state_of (shown c.args.view.code.shape.now c.args.view.contexts.now) c.args.view.m.now in
    ap (λ n. value (call_act c.args.view.code.methods.now TICKS) c.args.view.m.now.path (node_tree n c.args.e.now.at) st) c.in-Above.is
    ∙ ap (λ v. Done v st) (sym (c.field-in-Above.ensures ∙ ap (λ p. get_or (shown_fields c.args.view.code.shape.now c.args.view.contexts.now.shots p) c.in-Above.f nothing) c.above-path.ensures))

pub look-returns-in-Op : goal.look-returns-in-Op
look-returns-in-Op t c =
    let st = state_of (shown c.args.view.code.shape.now c.args.view.contexts.now) c.args.view.m.now in
    let e = c.args.e.now in
    let is : tree_of e ≡ r.Op e.at c.in-Op.row (trees_of (map tree_of c.as_slice-in-Op.result.now)) =
    ap (λ n. node_tree n e.at) c.in-Op.is ∙ op_node c.in-Op.row c.in-Op.args e.at ∙ ap (λ l. r.Op e.at c.in-Op.row (trees_of (map tree_of l))) (sym c.as_slice-in-Op.ensures.value) in
    record {
      sees = subst (λ (t : Tree). Looks (value (call_act c.args.view.code.methods.now TICKS) c.args.view.m.now.path t st) st c.look_row.result) (sym is) c.look_row.ensures.sees;
      memory = subst (λ (t : Tree). WhereWanting c.look_row.result (MayWant t)) (sym is) c.look_row.ensures.memory;
    }

pub look_and-returns-then-is_true : goal.look_and-returns-then-is_true
look_and-returns-then-is_true t c =
    let found = rw c.in-Ok-Some.field-0-is at c.in-Ok-Some.ensures.sees in
    record {
      sees = decided_true _ _ _ _ c.value.result.now _ _ found c.value.ensures (sym c.is_true.ensures ∙ c.if-is_true.true) c.look-then-is_true.ensures.sees;
      memory = said_of c.look-then-is_true.result inr c.look-then-is_true.ensures.memory;
    }

pub look_or-returns-in-Ok-Some : goal.look_or-returns-in-Ok-Some
look_or-returns-in-Ok-Some t c =
    let found = rw c.in-Ok-Some.field-0-is at c.in-Ok-Some.ensures.sees in
    record {
      sees = decided_false _ _ _ _ c.value.result.now _ _ found c.value.ensures (sym c.is_true.ensures ∙ c.if-is_true.false) c.look-else-is_true.ensures.sees;
      memory = said_of c.look-else-is_true.result inr c.look-else-is_true.ensures.memory;
    }

pub look_and-returns-in-Ok-Some-clause-sees : goal.look_and-returns-in-Ok-Some-clause-sees
look_and-returns-in-Ok-Some-clause-sees t c =
    let found = rw c.in-Ok-Some.field-0-is at c.in-Ok-Some.ensures.sees in
    is_false _ _ _ c.value.result.now _ found c.value.ensures (sym c.is_true.ensures ∙ c.if-is_true.false)

pub look_or-returns-then-is_true-clause-sees : goal.look_or-returns-then-is_true-clause-sees
look_or-returns-then-is_true-clause-sees t c =
    let found = rw c.in-Ok-Some.field-0-is at c.in-Ok-Some.ensures.sees in
    holds _ _ _ c.value.result.now _ found c.value.ensures (sym c.is_true.ensures ∙ c.if-is_true.true)

pub look_one-returns-in-Ok-Some-clause-sees : goal.look_one-returns-in-Ok-Some-clause-sees
look_one-returns-in-Ok-Some-clause-sees t c =
    let st = state_of (shown c.args.view.code.shape.now c.args.view.contexts.now) c.args.view.m.now in
    let found_a = rw c.in-Ok-Some.field-0-is at c.in-Ok-Some.ensures.sees in
    subst (Looks (value (call_act c.args.view.code.methods.now TICKS) c.args.view.m.now.path (r.Op c.args.at c.args.row (r.tree (tree_of c.args.a.now) r.no_trees)) st) st) (sym c.made_operand.ensures)
    (one (call_act c.args.view.code.methods.now TICKS) c.args.view.m.now.path c.args.at c.args.row st c.apply_one.result (tree_of c.args.a.now) _ c.value-first.result.now found_a c.value-first.ensures c.apply_one.ensures)

pub look_one-returns-in-Ok-Some-clause-memory : goal.look_one-returns-in-Ok-Some-clause-memory
look_one-returns-in-Ok-Some-clause-memory t c =
    let P = MayWant (r.Op c.args.at c.args.row (r.tree (tree_of c.args.a.now) r.no_trees)) in
    subst (λ o. WhereWanting o P) (sym c.made_operand.ensures) (for_made c.args.row _ {P = P} c.args.at c.apply_one.result inl c.apply_one.ensures)

pub look_two-returns-in-Ok-Some-operand-clause-sees : goal.look_two-returns-in-Ok-Some-operand-clause-sees
look_two-returns-in-Ok-Some-operand-clause-sees t c =
    let st = state_of (shown c.args.view.code.shape.now c.args.view.contexts.now) c.args.view.m.now in
    let found_a = rw c.in-Ok-Some.field-0-is at c.in-Ok-Some.ensures.sees in
    let found_b = rw c.in-Ok-Some-operand.field-0-is at c.in-Ok-Some-operand.ensures.sees in
    subst (Looks (value (call_act c.args.view.code.methods.now TICKS) c.args.view.m.now.path (r.Op c.args.at c.args.row (r.tree (tree_of c.args.a.now) (r.tree (tree_of c.args.b.now) r.no_trees))) st) st) (sym c.made_operand.ensures)
    (two (call_act c.args.view.code.methods.now TICKS) c.args.view.m.now.path c.args.at c.args.row st c.apply_two.result (tree_of c.args.a.now) (tree_of c.args.b.now) _ _ c.value-first.result.now c.value-second.result.now found_a found_b c.value-first.ensures c.value-second.ensures c.apply_two.ensures)

pub look_two-returns-in-Ok-Some-operand-clause-memory : goal.look_two-returns-in-Ok-Some-operand-clause-memory
look_two-returns-in-Ok-Some-operand-clause-memory t c =
    let P = MayWant (r.Op c.args.at c.args.row (r.tree (tree_of c.args.a.now) (r.tree (tree_of c.args.b.now) r.no_trees))) in
    subst (λ o. WhereWanting o P) (sym c.made_operand.ensures) (for_made c.args.row _ {P = P} c.args.at c.apply_two.result inl c.apply_two.ensures)

pub look_three-returns-in-Ok-Some-look-2-clause-sees : goal.look_three-returns-in-Ok-Some-look-2-clause-sees
look_three-returns-in-Ok-Some-look-2-clause-sees t c =
    let st = state_of (shown c.args.view.code.shape.now c.args.view.contexts.now) c.args.view.m.now in
    let found_a = rw c.in-Ok-Some.field-0-is at c.in-Ok-Some.ensures.sees in
    let found_b = rw c.in-Ok-Some-look.field-0-is at c.in-Ok-Some-look.ensures.sees in
    let found_c = rw c.in-Ok-Some-look-2.field-0-is at c.in-Ok-Some-look-2.ensures.sees in
    subst (Looks (value (call_act c.args.view.code.methods.now TICKS) c.args.view.m.now.path (r.Op c.args.at c.args.row (r.tree (tree_of c.args.a.now) (r.tree (tree_of c.args.b.now) (r.tree (tree_of c.args.c.now) r.no_trees)))) st) st) (sym c.made_operand.ensures)
    (three (call_act c.args.view.code.methods.now TICKS) c.args.view.m.now.path c.args.at c.args.row st c.apply_three-given.result (tree_of c.args.a.now) (tree_of c.args.b.now) (tree_of c.args.c.now) _ _ _ c.value-first.result.now c.value-second.result.now c.value-third.result.now found_a found_b found_c c.value-first.ensures c.value-second.ensures c.value-third.ensures c.apply_three-given.ensures)

pub look_three-returns-in-Ok-Some-look-2-clause-memory : goal.look_three-returns-in-Ok-Some-look-2-clause-memory
look_three-returns-in-Ok-Some-look-2-clause-memory t c =
    let P = MayWant (r.Op c.args.at c.args.row (r.tree (tree_of c.args.a.now) (r.tree (tree_of c.args.b.now) (r.tree (tree_of c.args.c.now) r.no_trees)))) in
    subst (λ o. WhereWanting o P) (sym c.made_operand.ensures) (for_made c.args.row _ {P = P} c.args.at c.apply_three-given.result inl c.apply_three-given.ensures)
