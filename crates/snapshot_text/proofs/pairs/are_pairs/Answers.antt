use Rattle.snapshot_text.proofs.PairLemmas.{map_more, more_map}
use Rattle.snapshot_text.proofs.pairs.are_pairs.Goals as goal

pub returns-in-Some : goal.returns-in-Some
returns-in-Some c = (
  λ h. map_more c.args.text.now c.in-Some.key.now c.in-Some.more.now c.in-Some.ensures.some (c.are_pairs_behind.ensures.0 h),
  λ m. c.are_pairs_behind.ensures.1 (more_map c.args.text.now c.in-Some.key.now c.in-Some.more.now c.in-Some.ensures.some m),
)
