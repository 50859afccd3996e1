use Rattle.std.proofs.Common.{sym, ◌∙◌}
use Rattle.std.proofs.lemmas.Bool.{false≢true}
use Rattle.snapshot_text.proofs.PairLemmas.{up, down}
use Rattle.snapshot_text.proofs.pairs.are_pairs_behind.Goals as goal

pub returns-then-not-is_below : goal.returns-then-not-is_below
returns-then-not-is_below c = (
  λ h. absurd (false≢true h),
  λ m. c.if-not-is_below.ensures ∙ (down c.loop-key.last.now c.loop-key.rest.now c.in-Some.key.now c.in-Some.more.now c.in-Some.ensures.some (c.loop-key.invariant.down m)).0,
)

pub loop-key-preserved : goal.loop-key-preserved
loop-key-preserved c = record {
  up = λ m. c.loop-key.invariant.up (up c.loop-key.last.now c.loop-key.rest.now c.in-Some.key.now c.in-Some.more.now c.in-Some.ensures.some (sym c.if-not-is_below.ensures) m);
  down = λ m. (down c.loop-key.last.now c.loop-key.rest.now c.in-Some.key.now c.in-Some.more.now c.in-Some.ensures.some (c.loop-key.invariant.down m)).1;
}
