use Rattle.std.proofs.Common.{◌≡◌, ◌+◌, ◌++◌, drop}
use Rattle.std.specs.List.{concat}
use Rattle.listing_out.specs.Listing.{lines_from}
use Rattle.listing_out.proofs.write.lines_in_one.Given as goal

abbrev pub invariant-loop-i : goal.invariant-loop-i
invariant-loop-i l = l.bytes.items ++ concat (lines_from l.shape (l.from.0 + l.i) (drop l.i l.part)) ≡ concat (lines_from l.shape l.from.0 l.part)
