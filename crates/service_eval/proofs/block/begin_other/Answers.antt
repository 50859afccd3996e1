use Rattle.std.proofs.Common.{map, length, refl, sym, ap, subst, ◌∙◌, ◌<◌}
use Rattle.resolved_service.specs.Steps as s
use Rattle.resolved_service.specs.Steps.{action_step, step_of, steps_in, else_in}
use Rattle.resolved_service.specs.View.{tree_of, trees_of}
use Rattle.service_eval.specs.inner.Items as i
use Rattle.service_eval.specs.inner.Items.{Eval, Evals, Block, Begin, Finish, Turns, Counts, else_steps}
use Rattle.service_eval.specs.inner.Machines.{on_top, comes_to}
use Rattle.service_eval.specs.inner.Turns.{mach, IsNext, Goes}
use Rattle.resolved_service.specs.Fits.{FitsSteps}
use Rattle.wave_base.specs.Shapes.{class_of}
use Rattle.service_eval.specs.inner.Weight.{load}
use Rattle.service_eval.proofs.LighterTurns.{if_lighter, one_lighter, while_lighter, spawn_lighter}
use Rattle.service_eval.proofs.BlockLemmas as l
use Rattle.service_eval.proofs.ElseLemmas.{fits_else}
use Rattle.service_eval.proofs.BlockTurns.{step_turn, at_step, to_parts, from_parts}
use Rattle.service_eval.proofs.ReadyLemmas.{ready_with}
use Rattle.service_eval.proofs.StepRows.{if_step, while_step, for_step, spawn_step}
use Rattle.service_eval.proofs.block.begin_other.Goals as goal

pub begin_one-requires : goal.begin_one-requires
begin_one-requires c =
    let at = c.args.stmt.now.at in
    to_parts c.args.code c.args.contexts.now c.args.m.now (length c.args.m.now.values.items) (step_of c.args.stmt.now) (s.If at (tree_of c.in-If.test) (steps_in c.as_slice.result.now) (else_in c.in-If.other)) (ap (λ a. action_step a at) c.in-If.is ∙ if_step c.in-If.test c.in-If.body c.in-If.other at ∙ ap (λ b. s.If at (tree_of c.in-If.test) (steps_in b) (else_in c.in-If.other)) (sym c.as_slice.ensures.value))
    (λ h x. on_top (Eval (tree_of c.in-If.test)) (on_top (Finish at (i.Branch (steps_in c.as_slice.result.now) (steps_in c.else_of.result.now)) h) x)) refl
    (λ next. ready_with _ _ _ _ _ next (next.items.0.0, ((next.items.0.1, subst (FitsSteps c.args.code.shape.now c.args.code.methods.now (class_of c.args.m.now.path)) (sym c.else_of.ensures) (fits_else c.args.code.shape.now c.args.code.methods.now (class_of c.args.m.now.path) (else_in c.in-If.other) next.items.0.2)), next.items.1))) c.requires.next

pub returns-in-If : goal.returns-in-If
returns-in-If c =
    let at = c.args.stmt.now.at in
    from_parts c.args.code c.args.contexts.now c.args.m.now (length c.args.m.now.values.items) (step_of c.args.stmt.now) (s.If at (tree_of c.in-If.test) (steps_in c.as_slice.result.now) (else_in c.in-If.other)) (ap (λ a. action_step a at) c.in-If.is ∙ if_step c.in-If.test c.in-If.body c.in-If.other at ∙ ap (λ b. s.If at (tree_of c.in-If.test) (steps_in b) (else_in c.in-If.other)) (sym c.as_slice.ensures.value))
    (λ h x. on_top (Eval (tree_of c.in-If.test)) (on_top (Finish at (i.Branch (steps_in c.as_slice.result.now) (steps_in c.else_of.result.now)) h) x)) refl c.begin_one.new.contexts c.begin_one.new.m c.begin_one.result
    (l.if_parts c.args.code.methods.now (mach c.args.code c.args.contexts.now c.args.m.now) at (tree_of c.in-If.test) (steps_in c.as_slice.result.now) (else_in c.in-If.other) ∙ ap (λ b. comes_to c.args.code.methods.now (on_top (Eval (tree_of c.in-If.test)) (on_top (Finish at (i.Branch (steps_in c.as_slice.result.now) b) (length c.args.m.now.values.items)) (mach c.args.code c.args.contexts.now c.args.m.now)))) (sym c.else_of.ensures))
    (subst (λ b. load c.args.code.methods.now (on_top (Eval (tree_of c.in-If.test)) (on_top (Finish at (i.Branch (steps_in c.as_slice.result.now) b) (length c.args.m.now.values.items)) (mach c.args.code c.args.contexts.now c.args.m.now))) < load c.args.code.methods.now (on_top (Begin (s.If at (tree_of c.in-If.test) (steps_in c.as_slice.result.now) (else_in c.in-If.other))) (mach c.args.code c.args.contexts.now c.args.m.now))) (sym c.else_of.ensures)
    (if_lighter c.args.code.methods.now (mach c.args.code c.args.contexts.now c.args.m.now) at (tree_of c.in-If.test) (steps_in c.as_slice.result.now) (else_in c.in-If.other) (length c.args.m.now.values.items))) c.begin_one.ensures

pub begin_one-requires-in-Require : goal.begin_one-requires-in-Require
begin_one-requires-in-Require c =
    let at = c.args.stmt.now.at in
    to_parts c.args.code c.args.contexts.now c.args.m.now (length c.args.m.now.values.items) (step_of c.args.stmt.now) (s.Require at (tree_of c.in-Require.e)) (ap (λ a. action_step a at) c.in-Require.is)
    (λ h x. on_top (Eval (tree_of c.in-Require.e)) (on_top (Finish at i.Require h) x)) refl
    (λ next. ready_with _ _ _ _ _ next (next.items.0, (tt, next.items.1))) c.requires.next

pub returns-in-Require : goal.returns-in-Require
returns-in-Require c =
    let at = c.args.stmt.now.at in
    from_parts c.args.code c.args.contexts.now c.args.m.now (length c.args.m.now.values.items) (step_of c.args.stmt.now) (s.Require at (tree_of c.in-Require.e)) (ap (λ a. action_step a at) c.in-Require.is)
    (λ h x. on_top (Eval (tree_of c.in-Require.e)) (on_top (Finish at i.Require h) x)) refl c.begin_one-in-Require.new.contexts c.begin_one-in-Require.new.m c.begin_one-in-Require.result
    (l.require_parts c.args.code.methods.now (mach c.args.code c.args.contexts.now c.args.m.now) at (tree_of c.in-Require.e))
    (one_lighter c.args.code.methods.now (mach c.args.code c.args.contexts.now c.args.m.now) (s.Require at (tree_of c.in-Require.e)) (tree_of c.in-Require.e) at i.Require (length c.args.m.now.values.items) (λ n. refl) (λ n. refl)) c.begin_one-in-Require.ensures

pub begin_one-requires-in-Send : goal.begin_one-requires-in-Send
begin_one-requires-in-Send c =
    let at = c.args.stmt.now.at in
    to_parts c.args.code c.args.contexts.now c.args.m.now (length c.args.m.now.values.items) (step_of c.args.stmt.now) (s.Send at c.in-Send.label (tree_of c.in-Send.e)) (ap (λ a. action_step a at) c.in-Send.is)
    (λ h x. on_top (Eval (tree_of c.in-Send.e)) (on_top (Finish at (i.Send c.in-Send.label) h) x)) refl
    (λ next. ready_with _ _ _ _ _ next (next.items.0, (tt, next.items.1))) c.requires.next

pub returns-in-Send : goal.returns-in-Send
returns-in-Send c =
    let at = c.args.stmt.now.at in
    from_parts c.args.code c.args.contexts.now c.args.m.now (length c.args.m.now.values.items) (step_of c.args.stmt.now) (s.Send at c.in-Send.label (tree_of c.in-Send.e)) (ap (λ a. action_step a at) c.in-Send.is)
    (λ h x. on_top (Eval (tree_of c.in-Send.e)) (on_top (Finish at (i.Send c.in-Send.label) h) x)) refl c.begin_one-in-Send.new.contexts c.begin_one-in-Send.new.m c.begin_one-in-Send.result
    (l.send_parts c.args.code.methods.now (mach c.args.code c.args.contexts.now c.args.m.now) at c.in-Send.label (tree_of c.in-Send.e))
    (one_lighter c.args.code.methods.now (mach c.args.code c.args.contexts.now c.args.m.now) (s.Send at c.in-Send.label (tree_of c.in-Send.e)) (tree_of c.in-Send.e) at (i.Send c.in-Send.label) (length c.args.m.now.values.items) (λ n. refl) (λ n. refl)) c.begin_one-in-Send.ensures

pub returns-in-While : goal.returns-in-While
returns-in-While c =
    let at = c.args.stmt.now.at in
    at_step c.args.code c.args.contexts.now c.args.m.now c.push.new.self c.push.result (step_of c.args.stmt.now) (s.While at (tree_of c.in-While.test) (steps_in c.as_slice-in-While.result.now)) (ap (λ a. action_step a at) c.in-While.is ∙ while_step c.in-While.test c.in-While.body at ∙ ap (λ b. s.While at (tree_of c.in-While.test) (steps_in b)) (sym c.as_slice-in-While.ensures.value))
    (λ next. step_turn c.args.code c.args.contexts.now c.args.m.now c.push.new.self c.push.result c.height-base.result (s.While at (tree_of c.in-While.test) (steps_in c.as_slice-in-While.result.now)) (λ h x. on_top (Turns at (tree_of c.in-While.test) (steps_in c.as_slice-in-While.result.now)) x) c.height-base.ensures
    (refl) (ready_with _ _ _ _ _ next (next.items.0, next.items.1)) (c.push.ensures.ok) c.push.ensures.err (while_lighter c.args.code.methods.now (mach c.args.code c.args.contexts.now c.args.m.now) at (tree_of c.in-While.test) (steps_in c.as_slice-in-While.result.now)) next) c.requires.next

pub returns-in-Spawn : goal.returns-in-Spawn
returns-in-Spawn c =
    let at = c.args.stmt.now.at in
    at_step c.args.code c.args.contexts.now c.args.m.now c.push_two.new.self c.push_two.result (step_of c.args.stmt.now) (s.Spawn at c.in-Spawn.event (trees_of (map tree_of c.as_slice-in-Spawn.result.now))) (ap (λ a. action_step a at) c.in-Spawn.is ∙ spawn_step c.in-Spawn.event c.in-Spawn.args at ∙ ap (λ l. s.Spawn at c.in-Spawn.event (trees_of (map tree_of l))) (sym c.as_slice-in-Spawn.ensures.value))
    (λ next. step_turn c.args.code c.args.contexts.now c.args.m.now c.push_two.new.self c.push_two.result c.height-base.result (s.Spawn at c.in-Spawn.event (trees_of (map tree_of c.as_slice-in-Spawn.result.now))) (λ h x. on_top (Evals (trees_of (map tree_of c.as_slice-in-Spawn.result.now))) (on_top (Finish at (i.Spawn c.in-Spawn.event) h) x)) c.height-base.ensures
    (l.spawn_parts c.args.code.methods.now (mach c.args.code c.args.contexts.now c.args.m.now) at c.in-Spawn.event (trees_of (map tree_of c.as_slice-in-Spawn.result.now))) (ready_with _ _ _ _ _ next (next.items.0, (tt, next.items.1))) (c.push_two.ensures.ok) c.push_two.ensures.err (spawn_lighter c.args.code.methods.now (mach c.args.code c.args.contexts.now c.args.m.now) at c.in-Spawn.event (trees_of (map tree_of c.as_slice-in-Spawn.result.now)) (length c.args.m.now.values.items)) next) c.requires.next

pub returns-in-Do : goal.returns-in-Do
returns-in-Do c =
    let at = c.args.stmt.now.at in
    at_step c.args.code c.args.contexts.now c.args.m.now c.push_two-in-Do.new.self c.push_two-in-Do.result (step_of c.args.stmt.now) (s.Do at (tree_of c.in-Do.e)) (ap (λ a. action_step a at) c.in-Do.is)
    (λ next. step_turn c.args.code c.args.contexts.now c.args.m.now c.push_two-in-Do.new.self c.push_two-in-Do.result c.height-base.result (s.Do at (tree_of c.in-Do.e)) (λ h x. on_top (Eval (tree_of c.in-Do.e)) (on_top (Finish at i.Drop h) x)) c.height-base.ensures
    (l.do_parts c.args.code.methods.now (mach c.args.code c.args.contexts.now c.args.m.now) at (tree_of c.in-Do.e)) (ready_with _ _ _ _ _ next (next.items.0, (tt, next.items.1))) (c.push_two-in-Do.ensures.ok) c.push_two-in-Do.ensures.err (one_lighter c.args.code.methods.now (mach c.args.code c.args.contexts.now c.args.m.now) (s.Do at (tree_of c.in-Do.e)) (tree_of c.in-Do.e) at i.Drop (length c.args.m.now.values.items) (λ n. refl) (λ n. refl)) next) c.requires.next

pub begin_for-requires : goal.begin_for-requires
begin_for-requires c = subst (λ b. IsNext c.args.code c.args.contexts.now c.args.m.now (Begin b)) (ap (λ a. action_step a c.args.stmt.now.at) c.in-For.is ∙ for_step c.in-For.counter c.in-For.from c.in-For.to c.in-For.body c.args.stmt.now.at ∙ ap (λ b. s.For c.args.stmt.now.at c.in-For.counter (tree_of c.in-For.from) (tree_of c.in-For.to) (steps_in b)) (sym c.as_slice-in-For.ensures.value)) c.requires.next

pub returns-in-For : goal.returns-in-For
returns-in-For c = subst (λ b. Goes c.args.code c.args.contexts.now c.args.m.now (Begin b) c.begin_for.result c.args.contexts.now c.begin_for.new.m) (sym (ap (λ a. action_step a c.args.stmt.now.at) c.in-For.is ∙ for_step c.in-For.counter c.in-For.from c.in-For.to c.in-For.body c.args.stmt.now.at ∙ ap (λ b. s.For c.args.stmt.now.at c.in-For.counter (tree_of c.in-For.from) (tree_of c.in-For.to) (steps_in b)) (sym c.as_slice-in-For.ensures.value))) c.begin_for.ensures
