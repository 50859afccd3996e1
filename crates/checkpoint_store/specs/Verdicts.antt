-- What a text is to a reader of checkpoints.
use Rattle.std.specs.Prelude.{◌≡◌, ◌+◌, ◌<◌, ◌⊎◌, ◌&&◌, ◌==◌, not, ℕ, suc, Bool, false, if◌then◌else◌, List, [], ◌∷◌, ◌++◌, length, map, All, Result, Ok, Err}
use Rattle.wave_base.specs.declared.finished.Place.{Place}
use Rattle.wave_base.specs.declared.path.Path.{Path}
use Rattle.wave_base.specs.declared.shape.Shape.{Shape}
use Rattle.wave_base.specs.declared.shot.Shot.{Shot}
use Rattle.wave_text.specs.Splits.{HasNone, IsSplit}
use Rattle.wave_text.specs.Verdicts.{IsOnly}
use Rattle.snapshot_text.specs.declared.error.Fault.{Fault as ShotFault}
use Rattle.snapshot_text.specs.declared.error.Fault.TheVariants as snapshot
use Rattle.snapshot_text.specs.Shots.{paths_of}
use Rattle.snapshot_text.specs.SnapshotTexts.{IsSnapshotText}
use Rattle.snapshot_text.specs.Verdicts.{IsRefused as IsRefusedSnapshot}
use Rattle.checkpoint_store.specs.declared.error.CheckError.{CheckError}
use Rattle.checkpoint_store.specs.declared.error.CheckError.TheVariants as error
use Rattle.checkpoint_store.specs.declared.error.Fault.{Fault}
use Rattle.checkpoint_store.specs.declared.error.Fault.TheVariants as fault
use Rattle.checkpoint_store.specs.declared.numbers.Numbers.{Numbers}
use Rattle.checkpoint_store.specs.declared.point.Checkpoint.{Checkpoint}
use Rattle.checkpoint_store.specs.CheckpointTexts.{front_text, tail_text, IsCheckpointText}
use Rattle.checkpoint_store.specs.Dues.{Due, IsDue, IsFault, front_dues, tail_dues}
use Rattle.checkpoint_store.specs.Points.{AreInRange}

-- ---- lines, one after the other

-- the text begins with a line that is as it is to be, and this stands behind it
abbrev pub Begins : Shape → ℕ → Due → List ℕ → List ℕ → Type 0
Begins shape hosts due text rest = (line : List ℕ) × IsSplit 10 text line rest × IsDue shape hosts due line

-- the text begins with a line that has this fault; a line that is missing or has no end has not its form
abbrev pub BeginsWrong : Shape → ℕ → Due → List ℕ → Fault → Type 0
BeginsWrong shape hosts due text f = (HasNone 10 text × (f ≡ fault.Syntax)) ⊎ ((line : List ℕ) × (rest : List ℕ) × IsSplit 10 text line rest × IsFault shape hosts due line f)

-- line n is the first of these that is not as it is to be, and this is wrong with it
abbrev pub StopsAt : Shape → ℕ → List Due → List ℕ → Fault → ℕ → Type 0
StopsAt shape hosts [] text f n = ⊥
StopsAt shape hosts (due ∷ dues) text f n =
    (BeginsWrong shape hosts due text f × (n ≡ 1)) ⊎ ((rest : List ℕ) × (m : ℕ) × Begins shape hosts due text rest × StopsAt shape hosts dues rest f m × (n ≡ suc m))

-- ---- the snapshot within the text

-- with the word `at` and a space
abbrev pub begins_at : List ℕ → Bool
begins_at (a ∷ t ∷ b ∷ bs) = (a == 97) && (t == 116) && (b == 32)
begins_at _ = false

-- the first line, and the lines right behind it that begin so: all up to the first line feed behind which none begins
abbrev pub snapshot_part : List ℕ → List ℕ
snapshot_part [] = []
snapshot_part (b ∷ bs) = b ∷ (if (b == 10) && not (begins_at bs) then [] else snapshot_part bs)

abbrev pub behind_part : List ℕ → List ℕ
behind_part [] = []
behind_part (b ∷ bs) = if (b == 10) && not (begins_at bs) then bs else behind_part bs

-- what the fault of a snapshot's line is here
abbrev pub fault_of : ShotFault → Fault
fault_of snapshot.Syntax = fault.Syntax
fault_of snapshot.Class = fault.Tree
fault_of snapshot.Field = fault.Tree
fault_of snapshot.Order = fault.Tree

-- ---- the text

-- the lines of these numbers and of the service's classes, and this behind them
pub record HasFront (shape : Shape) (n : Numbers) (text rest : List ℕ) : Type 0 where
  pub spelled : text ≡ front_text shape n ++ rest
  pub range : AreInRange n

-- the lines of these places and the last line, and this behind them; the places are of these contexts, on hosts that are there
pub record HasTail (shape : Shape) (hosts : ℕ) (paths : List Path) (places : List Place) (text rest : List ℕ) : Type 0 where
  pub spelled : text ≡ tail_text shape places ++ rest
  pub paths_are : map (λ x. x.path) places ≡ paths
  pub below : All (λ (x : Place). x.host.0 < hosts) places

-- a line behind the snapshot is not as it is to be, or one stands behind the last
abbrev pub IsWrongTail : Shape → ℕ → List Path → List ℕ → Fault → ℕ → Type 0
IsWrongTail shape hosts paths tail f n =
    StopsAt shape hosts (tail_dues paths) tail f n ⊎ ((places : List Place) × (rest : List ℕ) × HasTail shape hosts paths places tail rest × (rest ≡ [] → ⊥) × (f ≡ fault.Syntax) × (n ≡ length paths + 2))

-- behind the front stands a snapshot that is refused
pub record IsRefusedShot (shape : Shape) (text : List ℕ) (f : Fault) (n : ℕ) : Type 0 where
  pub numbers : Numbers
  pub rest : List ℕ
  pub front : HasFront shape numbers text rest
  pub wrong : ShotFault
  pub line : ℕ
  pub refused : IsRefusedSnapshot shape (snapshot_part rest) wrong line
  pub fault_is : f ≡ fault_of wrong
  pub line_is : n ≡ 3 + length shape.classes + line

-- behind the front and the snapshot stands a tail that is refused
pub record IsRefusedTail (shape : Shape) (text : List ℕ) (f : Fault) (n : ℕ) : Type 0 where
  pub numbers : Numbers
  pub rest : List ℕ
  pub front : HasFront shape numbers text rest
  pub shots : List Shot
  pub snapshot : IsSnapshotText shape (snapshot_part rest) shots
  pub line : ℕ
  pub wrong : IsWrongTail shape numbers.hosts (paths_of shots) (behind_part rest) f line
  pub line_is : n ≡ 3 + length shape.classes + 1 + length shots + line

-- line n is the first that is not as it has to be, and this is wrong with it
abbrev pub IsRefused : Shape → List ℕ → Fault → ℕ → Type 0
IsRefused shape text f n = StopsAt shape 0 (front_dues shape) text f n ⊎ (IsRefusedShot shape text f n ⊎ IsRefusedTail shape text f n)

abbrev pub IsVerdict : Shape → List ℕ → Result Checkpoint CheckError → Type 0
IsVerdict shape text (Ok point) = IsCheckpointText shape text point
IsVerdict shape text (Err (error.Syntax n)) = IsRefused shape text fault.Syntax n
IsVerdict shape text (Err (error.Service n)) = IsRefused shape text fault.Service n
IsVerdict shape text (Err (error.Tree n)) = IsRefused shape text fault.Tree n
IsVerdict shape text (Err (error.OutOfMemory _)) = ⊥

-- it says so, and nothing else is to be said; want of memory says nothing
abbrev pub IsOnlyVerdict : Shape → List ℕ → Result Checkpoint CheckError → Type 0
IsOnlyVerdict shape text (Err (error.OutOfMemory _)) = Unit {0}
IsOnlyVerdict shape text r = IsOnly (IsVerdict shape text) r
