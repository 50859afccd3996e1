-- How many labels a plan has, of moves and a snapshot.
use Rattle.std.proofs.Common.{◌≡◌, [], ◌∷◌, refl}
use Rattle.wave_base.specs.declared.script.Line.TheVariants.{Move, Snapshot}
use Rattle.plan_actors.specs.Efforts.{whole_work, sent_on, least_labels, most_labels}
use Rattle.plan_actors.specs.Plans.{Plan}
use Rattle.script_fold.specs.Lines.{most_events}
use Rattle.service_verify.proofs.Samples.{market}
use Rattle.tests_definitions.proofs.Beginnings.{start}
use Rattle.tests_definitions.proofs.Market.{hall}

-- The root is on host 2 and a hall on host 0. The hall is moved to host 1, and once more, where it is by then; another hall is not there.
abbrev plan : Plan
plan = record {
  program = market;
  script = record { hosts = 3; batches = (Move (hall 3) (record { 0 = 1 }) ∷ Move (hall 3) (record { 0 = 1 }) ∷ Move (hall 9) (record { 0 = 1 }) ∷ Snapshot ∷ []) ∷ [] };
  workers = 2;
}

-- Two segments and two contexts of each move that finds its hall, one of the one that doesn't; three segments and two contexts of the snapshot.
-- One move leads to another host.
work : whole_work plan start ≡ record { tickets = 4; segments = 8; entered = 7; moves = 1 }
unfolding whole_work most_events
work = refl

-- the root, which begins on another host than 0, counts as moved once
sent : sent_on plan start ≡ 2
unfolding whole_work most_events
sent = refl

-- 2 * 4 + 3 * 8 + 2 * 7
least : least_labels plan start ≡ 46
unfolding whole_work most_events
least = refl

-- and 7 * 2
most : most_labels plan start ≡ 60
unfolding whole_work most_events
most = refl
