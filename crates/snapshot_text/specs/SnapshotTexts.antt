-- The one text of a snapshot: a head that tells how many contexts follow, and a line for each of them.
use Rattle.std.specs.Prelude.{◌≡◌, ℕ, List, [], ◌∷◌, ◌++◌, length, codes}
use Rattle.std.specs.Fmt.{decimal}
use Rattle.wave_base.specs.declared.shape.Shape.{Shape}
use Rattle.wave_base.specs.declared.shot.Shot.{Shot}
use Rattle.path_text.specs.ShotTexts.{shot_text}
use Rattle.snapshot_text.specs.Shots.{AreShots}

-- snapshot k
abbrev pub head_text : ℕ → List ℕ
head_text k = codes "snapshot " ++ decimal k

-- at path name=value .., for each context; each line ends with a line feed
abbrev pub shots_text : Shape → List Shot → List ℕ
shots_text shape [] = []
shots_text shape (s ∷ ss) = shot_text shape s ++ 10 ∷ shots_text shape ss

abbrev pub snapshot_text : Shape → List Shot → List ℕ
snapshot_text shape shots = head_text (length shots) ++ 10 ∷ shots_text shape shots

-- the text is that of these shots
pub record IsSnapshotText (shape : Shape) (text : List ℕ) (shots : List Shot) : Type 0 where
  pub spelled : text ≡ snapshot_text shape shots
  pub shots_are : AreShots shape shots
