-- What holds of the moves that a policy asks for.
use Rattle.std.specs.Prelude.{◌≡◌, ◌≤◌, ◌<◌, ℕ, false, List, [], length, map, All, Option, Some, None, count_by}
use Rattle.std.specs.List.{Contains, filter}
use Rattle.wave_base.specs.declared.finished.Place.{Place}
use Rattle.wave_base.specs.declared.limits.TheConstants.{EVENT_LINES}
use Rattle.wave_base.specs.declared.path.Path.{Path}
use Rattle.wave_base.specs.declared.policy.Policy.{Policy}
use Rattle.wave_base.specs.declared.policy.Policy.TheVariants.{Balance, Drain}
use Rattle.wave_base.specs.declared.script.Line.{Line}
use Rattle.wave_base.specs.declared.script.Line.TheVariants.{Request, Move, Snapshot}
use Rattle.wave_base.specs.Paths.{is_above}
use Rattle.wave_base.specs.Places.{places_after}
use Rattle.wave_base.specs.Tree.{Tree, shots}
use Rattle.elastic_policy.specs.Moves.{is_on, spread, places_moved}

-- a move of one of these contexts to one of so many hosts
abbrev pub IsMoveOf : ℕ → List Place → Line → Type 0
IsMoveOf hosts places (Request call) = ⊥
IsMoveOf hosts places (Move path to) = Contains (map (λ x. x.path) places) path × (to.0 < hosts)
IsMoveOf hosts places Snapshot = ⊥

-- such moves alone, and no more of them than a script may have
pub record FitsScript (hosts : ℕ) (places : List Place) (lines : List Line) : Type 0 where
  pub moves : All (IsMoveOf hosts places) lines
  pub few : length lines ≤ EVENT_LINES

-- moves that balance leave the greatest load no further above the least than it was
abbrev pub IsEven : ℕ → Policy → List (Place × ℕ) → List Line → Type 0
IsEven hosts (Balance most) xs moves = spread hosts (places_moved xs moves) ≤ spread hosts xs
IsEven hosts (Drain from to) xs moves = Unit {0}

-- moves that drain a host leave nothing on it, unless more is on it than a script has lines
abbrev pub IsDrained : Policy → List (Place × ℕ) → List Line → Type 0
IsDrained (Balance most) xs moves = Unit {0}
IsDrained (Drain from to) xs moves = count_by (is_on from.0) xs ≤ EVENT_LINES → All (λ x. is_on from.0 x ≡ false) (places_moved xs moves)

-- a move as a job in a tree with these paths: it enters the contexts above its own, and its own, and moves that
abbrev pub job_of : List Path → Line → List Path × Option (Path × ℕ)
job_of paths (Request call) = ([], None)
job_of paths (Move path to) = (filter (λ p. is_above p path) paths, Some (path, to.0))
job_of paths Snapshot = ([], None)

-- the paths of the contexts, each with its host
abbrev pub hosts_in : List (Place × ℕ) → List (Path × ℕ)
hosts_in xs = map (λ x. (x.0.path, x.0.host.0)) xs

-- a tree of hosts that shows these contexts shows them after the moves too, where it makes the moves
abbrev pub FollowsInTree : List (Place × ℕ) → List Line → Type 0
FollowsInTree xs moves = (t : Tree ℕ) → shots t ≡ hosts_in xs → shots (places_after t (map (job_of t.paths) moves)) ≡ hosts_in (places_moved xs moves)
