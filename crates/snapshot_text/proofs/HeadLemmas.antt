-- The head of a snapshot, and the number of lines behind it.
use Rattle.std.proofs.Common.{◌≡◌, List, [], ◌∷◌, length, All, refl, arith}
use Rattle.std.proofs.lemmas.List.Elements.{All-head, All-tail}
use Rattle.wave_base.specs.declared.shape.Shape.{Shape}
use Rattle.wave_base.specs.declared.shot.Shot.{Shot}
use Rattle.wave_base.specs.Names.{HasNames}
use Rattle.path_text.specs.ShotTexts.{shot_text}
use Rattle.wave_text.specs.Counted.{line_count}
use Rattle.wave_text.proofs.CountedLemmas.{line_more}
use Rattle.snapshot_text.specs.Shots.{IsShot}
use Rattle.snapshot_text.specs.SnapshotTexts.{shots_text}
use Rattle.snapshot_text.proofs.ShotLemmas.{shot_no_feed}

-- ---- the lines of shots are as many as these

pub lines_are : (shape : Shape) → HasNames shape → (shots : List Shot) → All (IsShot shape) shots → line_count (shots_text shape shots) ≡ length shots
lines_are shape names [] h = refl
lines_are shape names (s ∷ ss) h =
    let rest = lines_are shape names ss (All-tail (IsShot shape) s ss h) in
    let more = line_more (shot_text shape s) (shots_text shape ss) (shot_no_feed shape names s (All-head (IsShot shape) s ss h)) in
    omega (arith, rest, more)
