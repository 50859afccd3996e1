use Rattle.std.proofs.Common.{◌≡◌, ◌++◌, length}
use Rattle.checkpoint_store.specs.Forms.{cut_at}
use Rattle.checkpoint_store.proofs.form.cut_at.Given as goal

abbrev pub invariant-loop-word : goal.invariant-loop-word
invariant-loop-word l = l.words ++ cut_at l.byte l.rest ≡ cut_at l.byte l.text

abbrev pub decreases-loop-word : goal.decreases-loop-word
decreases-loop-word l = length l.rest
