-- Words, digits, and names of classes, events and fields.
use Rattle.std.specs.Prelude.{◌≡◌, ℕ, Bool, true, false, not, ◌&&◌, ◌||◌, ◌==◌, nat_le, nat_eq, List, [], ◌∷◌, length, map, All}
use Rattle.std.specs.Char.{is_ascii_digit, is_ascii_alphabetic, is_ascii_alphanumeric}
use Rattle.std.specs.List.{list_any, list_all}
use Rattle.std.specs.Cmp.Lexicographic.{pointwise}
use Rattle.wave_base.specs.declared.limits.TheConstants.{NAME_BYTES}
use Rattle.wave_base.specs.declared.shape.ClassInfo.{ClassInfo}
use Rattle.wave_base.specs.declared.shape.Shape.{Shape}

-- one or more digits
abbrev pub is_digits : List ℕ → Bool
is_digits [] = false
is_digits (b ∷ bs) = is_ascii_digit b && list_all is_ascii_digit bs

-- a letter or `_`
abbrev pub is_name_start : ℕ → Bool
is_name_start b = is_ascii_alphabetic b || b == 95

-- a letter, a digit or `_`
abbrev pub is_name_byte : ℕ → Bool
is_name_byte b = is_ascii_alphanumeric b || b == 95

-- a letter or `_`, then letters, digits and `_`, as many as there are
abbrev pub is_word : List ℕ → Bool
is_word [] = false
is_word (b ∷ bs) = is_name_start b && list_all is_name_byte bs

-- a word of at most 64 bytes
abbrev pub is_name : List ℕ → Bool
is_name bs = is_word bs && nat_le (length bs) NAME_BYTES

abbrev pub same_bytes : List ℕ → List ℕ → Bool
same_bytes = pointwise nat_eq

-- no two are the same
abbrev pub all_differ : List (List ℕ) → Bool
all_differ [] = true
all_differ (n ∷ ns) = not (list_any (same_bytes n) ns) && all_differ ns

-- they are names, and no two are the same
pub record AreNames (names : List (List ℕ)) : Type 0 where
  pub names_all : list_all is_name names ≡ true
  pub differ : all_differ names ≡ true

-- what is asked of the names of a shape that is read or written as text
pub record HasNames (shape : Shape) : Type 0 where
  pub classes : AreNames (map (λ c. c.name) shape.classes)
  pub events : AreNames (map (λ e. e.name) shape.events)
  pub fields : All (λ (c : ClassInfo). AreNames (map (λ f. f.name) c.fields)) shape.classes
