-- The one text of a checkpoint.
use Rattle.std.specs.Prelude.{◌≡◌, ℕ, List, [], ◌∷◌, ◌++◌, length, map, Option, Some, None, codes}
use Rattle.std.specs.Fmt.{decimal}
use Rattle.wave_base.specs.declared.finished.Place.{Place}
use Rattle.wave_base.specs.declared.path.Class.{Class}
use Rattle.wave_base.specs.declared.shape.ClassInfo.{ClassInfo}
use Rattle.wave_base.specs.declared.shape.Shape.{Shape}
use Rattle.wave_base.specs.declared.value.Kind.{Kind}
use Rattle.wave_base.specs.declared.value.Kind.TheVariants as k
use Rattle.wave_base.specs.Shapes.{class_name}
use Rattle.path_text.specs.PlaceTexts.{place_text}
use Rattle.snapshot_text.specs.Shots.{AreShots}
use Rattle.snapshot_text.specs.SnapshotTexts.{snapshot_text}
use Rattle.checkpoint_store.specs.declared.numbers.Numbers.{Numbers}
use Rattle.checkpoint_store.specs.declared.point.Checkpoint.{Checkpoint}
use Rattle.checkpoint_store.specs.Points.{IsPoint, numbers_of}

-- ---- the front

abbrev pub first_line : List ℕ
first_line = codes "checkpoint 1"

-- hosts h lines m next t
abbrev pub numbers_text : Numbers → List ℕ
numbers_text n = codes "hosts " ++ (decimal n.hosts ++ (codes " lines " ++ (decimal n.lines ++ (codes " next " ++ decimal n.next))))

-- classes c
abbrev pub count_text : Shape → List ℕ
count_text shape = codes "classes " ++ decimal (length shape.classes)

abbrev pub kind_text : Kind → List ℕ
kind_text k.Int = codes "int"
kind_text k.Bool = codes "bool"
kind_text k.Text = codes "text"
kind_text k.Map = codes "map"

--  field:kind for each field
abbrev pub fields_text : List (List ℕ × Kind) → List ℕ
fields_text [] = []
fields_text (f ∷ fs) = 32 ∷ ((f.0 ++ 58 ∷ kind_text f.1) ++ fields_text fs)

-- the root's is a dash
abbrev pub parent_text : Shape → Option Class → List ℕ
parent_text shape None = codes "-"
parent_text shape (Some c) = class_name shape c.0

-- class name parent field:kind ..
abbrev pub class_text : Shape → ClassInfo → List ℕ
class_text shape c = codes "class " ++ (c.name ++ 32 ∷ (parent_text shape c.parent ++ fields_text (map (λ f. (f.name, f.kind)) c.fields)))

-- each line ends with a line feed
abbrev pub lines_text : List (List ℕ) → List ℕ
lines_text [] = []
lines_text (l ∷ ls) = l ++ 10 ∷ lines_text ls

abbrev pub front_text : Shape → Numbers → List ℕ
front_text shape n = lines_text (first_line ∷ numbers_text n ∷ count_text shape ∷ map (class_text shape) shape.classes)

-- ---- the tail

-- place path h, for each context, and the last line
abbrev pub tail_text : Shape → List Place → List ℕ
tail_text shape places = lines_text (map (place_text shape) places) ++ (codes "end" ++ 10 ∷ [])

-- ---- all of it

abbrev pub checkpoint_text : Shape → Checkpoint → List ℕ
checkpoint_text shape p = front_text shape (numbers_of p) ++ (snapshot_text shape p.start.shots ++ tail_text shape p.start.places)

-- the text is that of this point
pub record IsCheckpointText (shape : Shape) (text : List ℕ) (p : Checkpoint) : Type 0 where
  pub spelled : text ≡ checkpoint_text shape p
  pub point : IsPoint shape p
  pub shots : AreShots shape p.start.shots
