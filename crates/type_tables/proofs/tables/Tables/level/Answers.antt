use Rattle.std.proofs.Common.{◌==◌, ◌<◌, get_or, subst}
use Rattle.std.proofs.lemmas.Bool.{eq-eqb}
use Rattle.std.proofs.lemmas.List.{get_or_default}
use Rattle.type_tables.proofs.Walks.{found_at, on_at, not_found_at, differ}
use Rattle.type_tables.proofs.tables.Tables.level.Goals as goal

pub returns-then-above-ancestor-clause-found : goal.returns-then-above-ancestor-clause-found
returns-then-above-ancestor-clause-found c =
    found_at (λ x. x == c.args.ancestor) _ _ c.loop-i.i (get_or c.above-above-items.result.now c.loop-i.i 0) c.above-above-items.ensures.above c.loop-i.invariant c.loop-i-test.true (get_or_default _ _ _ _ c.loop-i-test.true) (eq-eqb _ _ c.if-above-ancestor.true)

pub returns-then-above-ancestor-clause-behind : goal.returns-then-above-ancestor-clause-behind
returns-then-above-ancestor-clause-behind c =
    subst (λ a. a < c.args.class) c.if-above-ancestor.true (c.above-above-items.ensures.earlier.earlier c.loop-i.i 0 c.loop-i-test.true)

pub loop-i-preserved : goal.loop-i-preserved
loop-i-preserved c =
    on_at (λ x. x == c.args.ancestor) _ c.loop-i.i (get_or c.above-above-items.result.now c.loop-i.i 0) c.loop-i.invariant c.loop-i-test.true (get_or_default _ _ _ _ c.loop-i-test.true) (differ _ _ c.if-above-ancestor.false)

pub returns-clause-found : goal.returns-clause-found
returns-clause-found c = not_found_at (λ x. x == c.args.ancestor) _ _ c.loop-i.i c.above-above-items.ensures.above c.loop-i.invariant c.loop-i-test.false
