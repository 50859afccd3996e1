-- How the labels of a log are kept.
use Rattle.std.specs.Prelude.{◌≡◌, ◌<◌, ◌++◌, ℕ, List, [], length, slice_get, Option, Some, None, vec_capacity, vec_len}
use Rattle.wave_base.specs.declared.path.Path.{Path}
use Rattle.wave_labels.specs.declared.label.Label.{Label}
use Rattle.label_log.specs.declared.kept.Kept.{Kept}
use Rattle.label_log.specs.declared.kept.Room.{Room}
use Rattle.label_log.specs.declared.kept.Room.TheVariants.{Nothing, Numbered, Whole}
use Rattle.label_log.specs.inner.Entries.{AreNumbered, labels_in, whole_labels}

-- the labels whose paths have numbers, and then those that are kept with their paths
abbrev pub kept_labels : Kept → List Label
kept_labels k = labels_in k.paths.keys k.entries.items ++ whole_labels k.whole.items

abbrev pub IsKept : Kept → Type 0
IsKept k = AreNumbered k.paths.keys k.entries.items

-- room for a label whose path has the number, where none before it is kept with its path; or for one that is kept so
abbrev pub HasRoom : Kept → Room → Type 0
HasRoom k Nothing = Unit {0}
HasRoom k (Numbered n) = (n < length k.paths.keys) × (vec_len k.entries < vec_capacity k.entries) × (k.whole.items ≡ [])
HasRoom k (Whole p) = vec_len k.whole < vec_capacity k.whole

-- the number of a path, which its next label may name
abbrev pub IsNumber : Kept → Path → ℕ → Type 0
IsNumber k p n = (slice_get k.paths.keys n ≡ Some p) × (k.whole.items ≡ [])

-- the path for whose label there is room
abbrev pub ready_in : Kept → Room → Option Path
ready_in k Nothing = None
ready_in k (Numbered n) = slice_get k.paths.keys n
ready_in k (Whole p) = Some p.value
