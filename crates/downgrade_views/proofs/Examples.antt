-- Two levels, computed: of one field, and of two fields of three.
use Rattle.std.proofs.Common.{◌≡◌, List, [], ◌∷◌, Some, None, Bool, true, false, pos, refl}
use Rattle.wave_base.specs.declared.value.Kind.TheVariants as k
use Rattle.wave_base.specs.declared.value.Value.TheVariants.{Int, Bool as Truth}
use Rattle.downgrade_views.specs.Levels.{Level, field_at, HasField, kept_level, whole_level}

abbrev two : List Level
two =
    whole_level (Int (pos 7) ∷ [])
    ∷ kept_level (true ∷ false ∷ true ∷ []) (Int (pos 3) ∷ Int (pos 4) ∷ Truth true ∷ []) ∷ []

root_field : field_at two 0 0 ≡ Some (Int (pos 7))
root_field = refl

below : HasField two 1 2 k.Bool
below = refl

not_kept : field_at two 1 1 ≡ None
not_kept = refl

no_field : field_at two 0 1 ≡ None
no_field = refl

no_level : field_at two 2 0 ≡ None
no_level = refl
