use Rattle.std.proofs.Common.{◌≤◌, ◌∙◌, length, sym, arith}
use Rattle.checkpoint_store.proofs.PartLemmas.{none_yet, one_more, found, found_low, not_found}
use Rattle.checkpoint_store.proofs.shots.snapshot_parts.Goals as goal

pub loop-after-init : goal.loop-after-init
loop-after-init c = none_yet c.args.text.now

pub overflow_sub-text : goal.overflow_sub-text
overflow_sub-text c =
    let low : length c.in-Some.after.now ≤ length c.args.text.now = found_low c.args.text.now c.loop-after.rest.now _ c.in-Some.after.now c.loop-after.invariant c.in-Some.ensures.some in
    omega arith

pub split_at-requires-then-not-begins_at : goal.split_at-requires-then-not-begins_at
split_at-requires-then-not-begins_at c =
    let low : length c.in-Some.after.now ≤ length c.args.text.now = found_low c.args.text.now c.loop-after.rest.now _ c.in-Some.after.now c.loop-after.invariant c.in-Some.ensures.some in
    omega arith

pub returns-then-not-begins_at-clause-part : goal.returns-then-not-begins_at-clause-part
returns-then-not-begins_at-clause-part c =
    c.split_at-then-not-begins_at.ensures.front ∙ sym (found c.args.text.now c.loop-after.rest.now _ c.in-Some.after.now c.loop-after.invariant c.in-Some.ensures.some (sym c.if-not-begins_at.ensures)).part_is

pub returns-then-not-begins_at-clause-behind : goal.returns-then-not-begins_at-clause-behind
returns-then-not-begins_at-clause-behind c =
    c.split_at-then-not-begins_at.ensures.back ∙ sym (found c.args.text.now c.loop-after.rest.now _ c.in-Some.after.now c.loop-after.invariant c.in-Some.ensures.some (sym c.if-not-begins_at.ensures)).behind_is

pub loop-after-preserved : goal.loop-after-preserved
loop-after-preserved c = one_more c.args.text.now c.loop-after.rest.now _ c.in-Some.after.now c.loop-after.invariant c.in-Some.ensures.some (sym c.if-not-begins_at.ensures)

pub returns-clause-part : goal.returns-clause-part
returns-clause-part c = sym (not_found c.args.text.now c.loop-after.rest.now c.loop-after.invariant c.in_default.ensures.none).part_is

pub returns-clause-behind : goal.returns-clause-behind
returns-clause-behind c = sym (not_found c.args.text.now c.loop-after.rest.now c.loop-after.invariant c.in_default.ensures.none).behind_is
