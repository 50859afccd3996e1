-- The levels that an event left, from the root: of each the fields that it keeps.
use Rattle.std.specs.Prelude.{◌≡◌, ℕ, suc, Bool, true, false, ◌==◌, if◌then◌else◌, List, [], ◌∷◌, Option, Some, None, slice_get}
use Rattle.std.specs.Option.{option_map, unwrap_or}
use Rattle.wave_base.specs.declared.value.Kind.{Kind}
use Rattle.wave_base.specs.declared.value.Value.{Value}
use Rattle.wave_base.specs.Values.{kind_of}

-- a level, a finite map: fields by their numbers, with their values
abbrev pub Level : Type 0
Level = List (ℕ × Value)

-- the value of a field that it has
abbrev pub value_in : Level → ℕ → Option Value
value_in [] field = None
value_in (c ∷ level) field = if c.0 == field then Some c.1 else value_in level field

abbrev pub field_in : Option Level → ℕ → Option Value
field_in None field = None
field_in (Some level) field = value_in level field

-- the value of a field of a level
abbrev pub field_at : List Level → ℕ → ℕ → Option Value
field_at levels level field = field_in (slice_get levels level) field

-- the level and the field are there, and the field has this kind
abbrev pub HasField : List Level → ℕ → ℕ → Kind → Type 0
HasField levels level field kind = option_map kind_of (field_at levels level field) ≡ Some kind

-- by a truth value for each field, whether it is kept
abbrev pub keeps : List Bool → ℕ → Bool
keeps kept field = unwrap_or (slice_get kept field) false

-- the kept ones of these fields, the first of which has this number
abbrev pub kept_from : ℕ → List Bool → List Value → Level
kept_from field [] xs = []
kept_from field (k ∷ kept) [] = []
kept_from field (true ∷ kept) (x ∷ xs) = (field, x) ∷ kept_from (suc field) kept xs
kept_from field (false ∷ kept) (x ∷ xs) = kept_from (suc field) kept xs

-- exactly the kept fields of a context
abbrev pub kept_level : List Bool → List Value → Level
kept_level kept fields = kept_from 0 kept fields

-- all of these fields, the first of which has this number
abbrev pub whole_from : ℕ → List Value → Level
whole_from field [] = []
whole_from field (x ∷ xs) = (field, x) ∷ whole_from (suc field) xs

-- all fields of a context
abbrev pub whole_level : List Value → Level
whole_level fields = whole_from 0 fields
