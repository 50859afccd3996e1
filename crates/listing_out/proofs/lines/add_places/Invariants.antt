use Rattle.std.proofs.Common.{◌≡◌, ◌++◌, drop, map}
use Rattle.listing_out.specs.LineTexts.{place_line}
use Rattle.listing_out.proofs.lines.add_places.Given as goal

abbrev pub invariant-loop-place : goal.invariant-loop-place
invariant-loop-place l = l.lines.items ++ map (place_line l.shape) (drop l.place-index l.places) ≡ l.fn.lines.items ++ map (place_line l.shape) l.places
