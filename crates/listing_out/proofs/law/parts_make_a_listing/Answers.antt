use Rattle.listing_out.proofs.PartLemmas.{part_on, whole_on}
use Rattle.listing_out.proofs.law.parts_make_a_listing.Goals as goal

pub returns : goal.returns
returns c = record { part = part_on; whole = whole_on }
