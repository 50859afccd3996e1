-- What has no more room is the same too.
use Rattle.std.proofs.Common.{refl, arith}
use Rattle.wave_effects.specs.Machines.{Kept}
use Rattle.wave_effects.specs.Spare.{SameButRooms}

pub same_self : (m : Kept) → SameButRooms m m
same_self m = record {
  plan = refl;
  first = refl;
  head = refl;
  settled = refl;
  hands = refl;
  committed = refl;
  results = refl;
  as_many_cells = refl;
  cells = λ i c e. record { cell = c; there = e; same = record { actor = refl; held = refl; sent = refl; mails = refl; status = refl }; room = omega arith };
  as_many_stores = refl;
  stores = λ h s e. record { stores = s; there = e; store = refl; gone = refl; room = omega arith };
}
