-- A script with policies as it is run: in pieces, whose lines are all known when they begin.
use Rattle.std.specs.Prelude.{◌≡◌, ◌≤◌, ◌<◌, ◌+◌, ◌^◌, ℕ, List, [], ◌∷◌, length, map, sum, replicate, All, IfSome, Option, Some, None}
use Rattle.std.specs.List.{zip}
use Rattle.std.specs.List.Sorted.{IsStrictlySortedBy}
use Rattle.wave_base.specs.declared.finished.Finished.{Finished}
use Rattle.wave_base.specs.declared.finished.Place.{Place}
use Rattle.wave_base.specs.declared.limits.TheConstants.{HOSTS}
use Rattle.wave_base.specs.declared.policy.Policy.{Policy}
use Rattle.wave_base.specs.declared.script.Line.{Line}
use Rattle.wave_base.specs.declared.script.Script.{Script}
use Rattle.wave_base.specs.declared.shape.Shape.{Shape}
use Rattle.wave_base.specs.declared.start.Start.{Start}
use Rattle.wave_base.specs.Paths.{path_cmp}
use Rattle.wave_base.specs.Scripts.{IsPolicy}
use Rattle.wave_base.specs.Starts.{first_start}
use Rattle.script_fold.specs.Runs.{start_after}
use Rattle.script_reader.specs.declared.elastic.Elastic.{Elastic}
use Rattle.script_reader.specs.declared.elastic.Part.{Part}
use Rattle.elastic_policy.specs.Moves.{policy_moves}

-- how far it has come: what the next piece begins with, how many tickets of the piece before entered each of its contexts, and the parts
-- that are left
pub record Staged : Type 0 where
  pub hosts : ℕ
  pub start : Start
  pub loads : List ℕ
  pub left : List Part

-- no ticket entered any of so many contexts
abbrev pub no_loads : ℕ → List ℕ
no_loads count = replicate count 0

abbrev pub first_staged : Shape → Elastic → Staged
first_staged shape elastic = record {
  hosts = elastic.hosts;
  start = first_start shape;
  loads = no_loads (length (first_start shape).places);
  left = elastic.parts;
}

-- ---- the next piece

-- without its policy, whose moves were run
abbrev pub batches_alone : Part → Part
batches_alone part = record { policy = None; batches = part.batches }

-- a piece, and then the loads and the parts that are left
abbrev pub Turn : Type 0
Turn = Option Script × List ℕ × List Part

-- the batches of a part; where there are none it loads nothing, and the next part has its turn
abbrev pub batches_turn : ℕ → List ℕ → List Part → Turn → List (List Line) → Turn
batches_turn hosts loads left next [] = next
batches_turn hosts loads left next (b ∷ bs) = (Some (record { hosts = hosts; batches = b ∷ bs }), loads, left)

-- its moves, as one batch; where there are none its batches
abbrev pub part_turn : ℕ → List ℕ → Part → List Part → Turn → List Line → Turn
part_turn hosts loads part left next [] = batches_turn hosts loads left next part.batches
part_turn hosts loads part left next (m ∷ ms) = (Some (record { hosts = hosts; batches = (m ∷ ms) ∷ [] }), loads, batches_alone part ∷ left)

abbrev pub next_of : ℕ → List Place → List ℕ → List Part → Turn
next_of hosts places loads [] = (None, loads, [])
next_of hosts places loads (part ∷ left) = part_turn hosts loads part left (next_of hosts places (no_loads (length places)) left) (policy_moves hosts part.policy (zip places loads))

abbrev pub piece_of : Staged → Option Script
piece_of s = (next_of s.hosts s.start.places s.loads s.left).0

-- what is left behind it
abbrev pub stages_left : Staged → Staged
stages_left s = record {
  hosts = s.hosts;
  start = s.start;
  loads = (next_of s.hosts s.start.places s.loads s.left).1;
  left = (next_of s.hosts s.start.places s.loads s.left).2;
}

-- and where it was run
abbrev pub staged_after : Staged → Finished → Staged
staged_after s done = record { hosts = s.hosts; start = start_after s.start done; loads = done.loads; left = s.left }

-- the same where no ticket entered any context yet: a piece that is next runs from there as well, and leaves the same behind it
abbrev pub with_no_loads : Staged → Staged
with_no_loads s = record { hosts = s.hosts; start = s.start; loads = no_loads (length s.start.places); left = s.left }

-- ---- what policies may be asked with

-- contexts in path order, each on one of so many hosts, with their loads
pub record ArePlaced (hosts : ℕ) (places : List Place) (loads : List ℕ) : Type 0 where
  pub paired : length places ≡ length loads
  pub ordered : IsStrictlySortedBy path_cmp (map (λ x. x.path) places)
  pub below : All (λ x. x.host.0 < hosts) places
  pub small : sum loads ≤ 2 ^ 60

abbrev pub FitsHosts : ℕ → Option Policy → Type 0
FitsHosts hosts policy = IfSome policy (IsPolicy hosts)

pub record IsStaged (s : Staged) : Type 0 where
  pub some_host : 1 ≤ s.hosts
  pub few_hosts : s.hosts ≤ HOSTS
  pub placed : ArePlaced s.hosts s.start.places s.loads
  pub policies : All (λ part. FitsHosts s.hosts part.policy) s.left

-- the next piece may begin where this run ended
pub record MayFollow (s : Staged) (done : Finished) : Type 0 where
  pub placed : ArePlaced s.hosts done.places done.loads
  pub few : s.start.next.0 + length done.results < 2 ^ 32
