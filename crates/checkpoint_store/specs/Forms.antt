-- The forms of the lines, whatever the service declares: words with one space between them.
use Rattle.std.specs.Prelude.{◌≡◌, ℕ, Bool, true, false, ◌&&◌, ◌||◌, ◌==◌, if◌then◌else◌, List, [], ◌∷◌, codes}
use Rattle.std.specs.List.{list_all}
use Rattle.wave_base.specs.Names.{is_word, same_bytes}
use Rattle.wave_text.specs.Lines.{onto_first}
use Rattle.path_text.specs.declared.written.Written.{Written}
use Rattle.path_text.specs.Steps.{written_text}
use Rattle.snapshot_text.specs.Forms.{is_plain_digits, is_plain_step}

-- a text cut at each such byte
abbrev pub cut_at : ℕ → List ℕ → List (List ℕ)
cut_at c [] = [] ∷ []
cut_at c (b ∷ bs) = if b == c then [] ∷ cut_at c bs else onto_first b (cut_at c bs)

-- hosts h lines m next t, the numbers of any length without a zero in front
abbrev pub is_numbers : List (List ℕ) → Bool
is_numbers (a ∷ h ∷ b ∷ m ∷ c ∷ t ∷ []) = same_bytes a (codes "hosts") && is_plain_digits h && same_bytes b (codes "lines") && is_plain_digits m && same_bytes c (codes "next") && is_plain_digits t
is_numbers _ = false

-- classes c
abbrev pub is_count : List (List ℕ) → Bool
is_count (a ∷ c ∷ []) = same_bytes a (codes "classes") && is_plain_digits c
is_count _ = false

-- a word, or the root's dash
abbrev pub is_parent : List ℕ → Bool
is_parent w = same_bytes w (codes "-") || is_word w

abbrev pub is_kind : List ℕ → Bool
is_kind w = same_bytes w (codes "int") || same_bytes w (codes "bool") || same_bytes w (codes "text") || same_bytes w (codes "map")

-- field:kind, cut at the colon
abbrev pub is_named_kind : List (List ℕ) → Bool
is_named_kind (name ∷ kind ∷ []) = is_word name && is_kind kind
is_named_kind _ = false

abbrev pub is_field : List ℕ → Bool
is_field w = is_named_kind (cut_at 58 w)

-- class name parent field:kind ..
abbrev pub is_class_line : List (List ℕ) → Bool
is_class_line (a ∷ name ∷ parent ∷ fields) = same_bytes a (codes "class") && is_word name && is_parent parent && list_all is_field fields
is_class_line _ = false

-- a path's form, with keys without zeros in front
pub record HasPlainSteps (text : List ℕ) : Type 0 where
  pub steps : List Written
  pub spelled : text ≡ written_text steps
  pub plain : list_all is_plain_step steps ≡ true

-- place path h
pub record IsPlaceOf (word path host : List ℕ) : Type 0 where
  pub word_is : word ≡ codes "place"
  pub path_is : HasPlainSteps path
  pub host_is : is_plain_digits host ≡ true

abbrev pub IsPlaceLine : List (List ℕ) → Type 0
IsPlaceLine (word ∷ path ∷ host ∷ []) = IsPlaceOf word path host
IsPlaceLine _ = ⊥
