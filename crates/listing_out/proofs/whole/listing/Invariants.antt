use Rattle.std.proofs.Common.{◌≡◌, ◌+◌, ◌++◌, drop}
use Rattle.std.specs.List.{concat}
use Rattle.listing_out.specs.Listing.{lines_from, shown_of}
use Rattle.listing_out.proofs.whole.listing.Given as goal

abbrev pub invariant-loop-i : goal.invariant-loop-i
invariant-loop-i l =
    l.out.items ++ concat (lines_from l.shape (l.first.0 + l.i) (drop l.i (shown_of l.done))) ≡ concat (lines_from l.shape l.first.0 (shown_of l.done))
