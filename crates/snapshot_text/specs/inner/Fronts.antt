-- What stands at the front of a line's rest, as the reader of its form finds it.
use Rattle.std.specs.Prelude.{◌≡◌, ℕ, Bool, true, ◌||◌, List, [], ◌∷◌, ◌++◌, codes, All}
use Rattle.wave_base.specs.Names.{same_bytes}
use Rattle.path_text.specs.declared.written.Written.{Written}
use Rattle.wave_text.specs.Splits.{HasNone}
use Rattle.snapshot_text.specs.Forms.{Literal, IsLiteral, literal_text, Field, IsField, field_text, fields_text, are_pairs, pairs_text, pair_text, is_plain, is_below, HasForm}

abbrev pub BeginsNot : ℕ → List ℕ → Type 0
BeginsNot b text = (rest : List ℕ) → text ≡ b ∷ rest → ⊥

-- with the word `at` and a space
abbrev pub BeginsNotAt : List ℕ → Type 0
BeginsNotAt text = (rest : List ℕ) → text ≡ 97 ∷ 116 ∷ 32 ∷ rest → ⊥

-- nothing, or a space
abbrev pub Ends : List ℕ → Type 0
Ends [] = Unit {0}
Ends (b ∷ bs) = b ≡ 32

-- the bytes before the first space, and the rest from that space on
pub record IsRun (text front rest : List ℕ) : Type 0 where
  pub spelled : text ≡ front ++ rest
  pub solid : HasNone 32 front
  pub ends : Ends rest

-- ---- maps

-- a pair of plain numbers
pub record IsPair (text key value : List ℕ) : Type 0 where
  pub spelled : text ≡ pair_text (key, value)
  pub key_is : is_plain key ≡ true
  pub value_is : is_plain value ≡ true

abbrev pub IsPairOf : List ℕ → List ℕ → Type 0
IsPairOf text key = (value : List ℕ) × IsPair text key value

abbrev pub IsNoPair : List ℕ → Type 0
IsNoPair text = (key value : List ℕ) → IsPair text key value → ⊥

-- a pair with this key, a comma, a space, and then this
pub record IsFirstPair (text key more : List ℕ) : Type 0 where
  pub value : List ℕ
  pub spelled : text ≡ pair_text (key, value) ++ 44 ∷ 32 ∷ more
  pub key_is : is_plain key ≡ true
  pub value_is : is_plain value ≡ true

abbrev pub IsNoFirstPair : List ℕ → Type 0
IsNoFirstPair text = (key more : List ℕ) → IsFirstPair text key more → ⊥

-- the pairs of a map
pub record ArePairsOf (text : List ℕ) (ps : List (List ℕ × List ℕ)) : Type 0 where
  pub spelled : text ≡ pairs_text ps
  pub pairs_are : are_pairs ps ≡ true

abbrev pub IsMapText : List ℕ → Type 0
IsMapText text = (ps : List (List ℕ × List ℕ)) × ArePairsOf text ps

-- some pairs, the first key of which is above this one
abbrev pub IsMapTextBehind : List ℕ → List ℕ → Type 0
IsMapTextBehind before text = (p : List ℕ × List ℕ) × (ps : List (List ℕ × List ℕ)) × ArePairsOf text (p ∷ ps) × (is_below before p.0 ≡ true)

-- ---- values

-- a number or a truth value
abbrev pub is_bare : List ℕ → Bool
is_bare text = is_plain text || (same_bytes text (codes "true") || same_bytes text (codes "false"))

-- a value stands at the front, with this behind it
pub record HasLiteral (text rest : List ℕ) : Type 0 where
  pub literal : Literal
  pub spelled : text ≡ literal_text literal ++ rest
  pub form : IsLiteral literal

-- nothing else stands behind a value at the front
abbrev pub OnlyBehindLiteral : List ℕ → List ℕ → Type 0
OnlyBehindLiteral text rest = (left : List ℕ) → HasLiteral text left → Ends left → left ≡ rest

abbrev pub HasNoLiteral : List ℕ → Type 0
HasNoLiteral text = (left : List ℕ) → HasLiteral text left → Ends left → ⊥

-- ---- fields

pub record HasField (text rest : List ℕ) : Type 0 where
  pub field : Field
  pub spelled : text ≡ field_text field ++ rest
  pub form : IsField field

abbrev pub OnlyBehindField : List ℕ → List ℕ → Type 0
OnlyBehindField text rest = (left : List ℕ) → HasField text left → Ends left → left ≡ rest

abbrev pub HasNoField : List ℕ → Type 0
HasNoField text = (left : List ℕ) → HasField text left → Ends left → ⊥

abbrev pub IsFieldsText : List ℕ → Type 0
IsFieldsText text = (fs : List Field) × (text ≡ fields_text fs) × All IsField fs

-- ---- the line

pub record HasOnlyForm (line : List ℕ) (steps : List Written) : Type 0 where
  pub form : HasForm line steps
  pub only : (others : List Written) → HasForm line others → others ≡ steps
