use Rattle.std.proofs.Common.{[], sym, subst, arith}
use Rattle.mace_hints.specs.inner.Fronts.{Tells}
use Rattle.mace_hints.proofs.Turns.{item_again, told_none, one_turn, told_end}
use Rattle.mace_hints.proofs.telling.following.Goals as goal

pub loop-hint-init : goal.loop-hint-init
loop-hint-init c = λ ws f. subst (λ z. Tells ws [] z) (sym c.new-found.ensures.items) (told_none ws)

pub loop-hint-preserved : goal.loop-hint-preserved
loop-hint-preserved c = λ ws f. one_turn ws c.args.table.now c.loop-hint.hint-index _ c.loop-hint.found.items c.loop-hint-test.true (item_again c.args.table.now c.loop-hint.hint-index _ c.loop-hint-test.true) (c.loop-hint.invariant ws f) c.tell.new.found.items (c.in_ok-tell.ensures ws f)

pub returns : goal.returns
returns c = λ ws f. told_end ws c.args.table.now c.loop-hint.hint-index c.loop-hint.found.items (omega arith) (c.loop-hint.invariant ws f)
