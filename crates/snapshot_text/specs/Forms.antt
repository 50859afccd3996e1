-- The form of a line: the word `at`, a path, and fields with their values, whatever the service declares.
use Rattle.std.specs.Prelude.{◌≡◌, ℕ, Bool, true, false, not, ◌&&◌, ◌||◌, ◌==◌, nat_le, nat_lt, if◌then◌else◌, List, [], ◌∷◌, ◌++◌, length, codes, All}
use Rattle.std.specs.List.{list_all}
use Rattle.std.specs.Ordering.{nat_cmp}
use Rattle.std.specs.Cmp.Lexicographic.{slice_cmp}
use Rattle.std.specs.Char.{is_ascii_digit}
use Rattle.wave_base.specs.Text.{IsPrintable}
use Rattle.wave_base.specs.Text.{quoted_text}
use Rattle.wave_base.specs.Names.{is_word}
use Rattle.path_text.specs.declared.written.Written.{Written}
use Rattle.path_text.specs.Steps.{is_step, written_text}
use Rattle.snapshot_text.specs.Shots.{is_less}

-- ---- whole numbers, of any length

-- no zero stands in front
abbrev pub is_plain_digits : List ℕ → Bool
is_plain_digits [] = false
is_plain_digits (b ∷ []) = is_ascii_digit b
is_plain_digits (b ∷ c ∷ bs) = (nat_le 49 b && nat_le b 57) && list_all is_ascii_digit (c ∷ bs)

abbrev pub is_zero : List ℕ → Bool
is_zero (b ∷ []) = b == 48
is_zero _ = false

-- an optional minus and digits; there is no minus at 0
abbrev pub is_plain : List ℕ → Bool
is_plain [] = false
is_plain (b ∷ bs) = if b == 45 then is_plain_digits bs && not (is_zero bs) else is_plain_digits (b ∷ bs)

-- of two numbers without a minus the longer one is the greater, and where they are as long the first digit that differs decides
abbrev pub is_fewer : List ℕ → List ℕ → Bool
is_fewer cs ds = nat_lt (length cs) (length ds) || (length cs == length ds && is_less (slice_cmp nat_cmp cs ds))

abbrev pub has_minus : List ℕ → Bool
has_minus [] = false
has_minus (b ∷ bs) = b == 45

-- what a plain number stands for is below what the other does
abbrev pub is_below : List ℕ → List ℕ → Bool
is_below cs ds = if has_minus cs then not (has_minus ds) || is_fewer ds cs else not (has_minus ds) && is_fewer cs ds

-- ---- values

pub data Literal : Type 0 where
  Number : List ℕ → Literal
  Truth : Bool → Literal
  Text : List ℕ → Literal
  Map : List (List ℕ × List ℕ) → Literal

-- 1: 5
abbrev pub pair_text : List ℕ × List ℕ → List ℕ
pair_text p = p.0 ++ 58 ∷ 32 ∷ p.1

abbrev pub pairs_text : List (List ℕ × List ℕ) → List ℕ
pairs_text [] = []
pairs_text (p ∷ []) = pair_text p
pairs_text (p ∷ q ∷ ps) = pair_text p ++ 44 ∷ 32 ∷ pairs_text (q ∷ ps)

abbrev pub literal_text : Literal → List ℕ
literal_text (Number n) = n
literal_text (Truth b) = if b then codes "true" else codes "false"
literal_text (Text t) = quoted_text t
literal_text (Map ps) = 123 ∷ (pairs_text ps ++ 125 ∷ [])

-- plain numbers, the keys in ascending order
abbrev pub are_pairs : List (List ℕ × List ℕ) → Bool
are_pairs [] = true
are_pairs (p ∷ []) = is_plain p.0 && is_plain p.1
are_pairs (p ∷ q ∷ ps) = is_plain p.0 && is_plain p.1 && is_below p.0 q.0 && are_pairs (q ∷ ps)

abbrev pub IsLiteral : Literal → Type 0
IsLiteral (Number n) = is_plain n ≡ true
IsLiteral (Truth b) = Unit {0}
IsLiteral (Text t) = All IsPrintable t
IsLiteral (Map ps) = are_pairs ps ≡ true

-- ---- fields and lines

pub record Field : Type 0 where
  pub name : List ℕ
  pub literal : Literal

--  name=value
abbrev pub field_text : Field → List ℕ
field_text f = 32 ∷ (f.name ++ 61 ∷ literal_text f.literal)

abbrev pub fields_text : List Field → List ℕ
fields_text [] = []
fields_text (f ∷ fs) = field_text f ++ fields_text fs

pub record IsField (f : Field) : Type 0 where
  pub name : is_word f.name ≡ true
  pub literal : IsLiteral f.literal

abbrev pub is_plain_key : Written → Bool
is_plain_key s = is_plain s.key

-- a step whose key is plain
abbrev pub is_plain_step : Written → Bool
is_plain_step s = is_step s && is_plain_key s

-- the line has the form, with these steps of a path
pub record HasForm (line : List ℕ) (steps : List Written) : Type 0 where
  pub fields : List Field
  pub spelled : line ≡ codes "at " ++ (written_text steps ++ fields_text fields)
  pub steps_are : list_all is_plain_step steps ≡ true
  pub fields_are : All IsField fields

abbrev pub HasNoForm : List ℕ → Type 0
HasNoForm line = (steps : List Written) → HasForm line steps → ⊥
