-- What the stores have while the contexts of a Start are placed.
use Rattle.std.specs.Prelude.{◌≡◌, ℕ, not, ◌&&◌, nat_eq, if◌then◌else◌, List, map, Option, Some, None, option_map, slice_get}
use Rattle.std.specs.List.{list_any}
use Rattle.wave_base.specs.declared.children.Child.{Child}
use Rattle.wave_base.specs.declared.finished.Place.{Place}
use Rattle.wave_base.specs.declared.path.Path.{Path}
use Rattle.wave_base.specs.declared.path.Step.{Step}
use Rattle.wave_base.specs.Paths.{path_eq}
use Rattle.wave_base.specs.Tree.{child_step}
use Rattle.host_map.specs.Stores.{Stores, IsAt}
use Rattle.wave_states.specs.Begins.{Begin, column_at_start, is_root}
use Rattle.wave_states.specs.States.{Column, Entry, set}
use Rattle.code_actor.specs.CodeActors.{Fields}

-- the stores have of each context what its column has
abbrev pub AreAt : List Stores → (Path → Column Fields) → Type 0
AreAt stores columns = (h : ℕ) (x : Stores) → slice_get stores h ≡ Some x → (p : Path) → IsAt x p (columns p) h

-- of a context that is nowhere
abbrev pub no_column : Column Fields
no_column = record { store = λ h. None; gone = λ h. None }

-- of one that begins at its place, with this entry
abbrev pub first_column : Place → Entry Fields → Column Fields
first_column place en = record {
  store = set nat_eq (λ h. None) place.host.0 (Some en);
  gone = if is_root place.path && not (nat_eq place.host.0 0) then set nat_eq (λ h. None) 0 (Some (record { to = place.host.0; number = 1 })) else (λ h. None);
}

-- a place as a child of a context, where it is one
abbrev pub kid_of : Path → Place → Option (Step × Child)
kid_of p x = option_map (λ s. (s, record { given = 0; birth = x.host })) (child_step p x.path)

-- of the contexts at these places, which were placed already
abbrev pub placed_column : Begin Fields → List Place → Path → Column Fields
placed_column b places p = if list_any (path_eq p) (map (λ x. x.path) places) then column_at_start b p else no_column
