-- What a reader takes a part of a line for: where the part is written so, it can be nothing else.
use Rattle.std.specs.Prelude.{◌≡◌, ℕ, ℤ, Bool, true, false, if◌then◌else◌, List, [], ◌∷◌, ◌++◌, length, map, Option, Some, None, FitsSigned, All, codes}
use Rattle.std.specs.Int.{w64}
use Rattle.std.specs.Fmt.{signed_decimal}
use Rattle.wave_base.specs.declared.shape.FieldInfo.{FieldInfo}
use Rattle.wave_base.specs.declared.shape.Shape.{Shape}
use Rattle.wave_base.specs.declared.shot.Shot.{Shot}
use Rattle.wave_base.specs.declared.value.Kind.{Kind}
use Rattle.wave_base.specs.declared.value.Value.{Value}
use Rattle.wave_base.specs.declared.value.Value.TheVariants as value
use Rattle.wave_base.specs.Names.{same_bytes}
use Rattle.wave_base.specs.Values.{kind_of}
use Rattle.wave_text.specs.ValueTexts.{value_text, pair_text, pairs_text}
use Rattle.path_text.specs.ShotTexts.{fields_text}
use Rattle.snapshot_text.specs.Shots.{IsValue}
use Rattle.snapshot_text.specs.Verdicts.{IsLineOf}
use Rattle.snapshot_text.specs.inner.Fronts.{Ends}

abbrev pub behind_first : List ℕ → List ℕ
behind_first [] = []
behind_first (b ∷ bs) = bs

-- ---- numbers and maps

abbrev pub IsNumberOf : List ℕ → Option ℤ → Type 0
IsNumberOf text o = (z : ℤ) → FitsSigned w64 z → text ≡ signed_decimal z → o ≡ Some z

-- both fit
pub record AreNumbers (p : ℤ × ℤ) : Type 0 where
  pub key : FitsSigned w64 p.0
  pub value : FitsSigned w64 p.1

abbrev pub IsPairAtOf : List ℕ → Option (ℤ × ℤ) → Type 0
IsPairAtOf text o = (p : ℤ × ℤ) → AreNumbers p → text ≡ pair_text p → o ≡ Some p

abbrev pub IsTableOf : List ℕ → Option (List (ℤ × ℤ)) → Type 0
IsTableOf text o = (ps : List (ℤ × ℤ)) → IsValue (value.Map ps) → text ≡ pairs_text ps → o ≡ Some ps

-- ---- values

abbrev pub truth_of : List ℕ → Option Bool
truth_of text = if same_bytes text (codes "true") then Some true else if same_bytes text (codes "false") then Some false else None

-- the text begins with a value of the kind
pub record IsFrontOf (kind : Kind) (text : List ℕ) (v : Value) (left : List ℕ) : Type 0 where
  pub spelled : text ≡ value_text v ++ left
  pub fits : IsValue v
  pub kind_is : kind_of v ≡ kind
  pub ends : Ends left

-- with no other than this one; this stands behind the space that follows it
pub record IsSeen (kind : Kind) (text : List ℕ) (v : Value) (rest : List ℕ) : Type 0 where
  pub fits : IsValue v
  pub kind_is : kind_of v ≡ kind
  pub only : (other : Value) (left : List ℕ) → IsFrontOf kind text other left → (other ≡ v) × (rest ≡ behind_first left)

-- with none
abbrev pub IsUnseen : Kind → List ℕ → Type 0
IsUnseen kind text = (v : Value) (left : List ℕ) → IsFrontOf kind text v left → ⊥

-- ---- the values of fields

pub record AreGoodFor (fields : List FieldInfo) (vs : List Value) : Type 0 where
  pub kinds : map kind_of vs ≡ map (λ f. f.kind) fields
  pub values : All IsValue vs

-- without the space before the first one
abbrev pub AreValuesOf : List FieldInfo → List ℕ → Option (List Value) → Type 0
AreValuesOf fields text o = (vs : List Value) → AreGoodFor fields vs → text ≡ behind_first (fields_text fields vs) → o ≡ Some vs

-- ---- shots

abbrev pub IsShotOf : Shape → List ℕ → Option Shot → Type 0
IsShotOf shape line o = (s : Shot) → IsLineOf shape line s → o ≡ Some s

-- the line is that of this shot, and of no other
pub record IsOnlyLineOf (shape : Shape) (line : List ℕ) (s : Shot) : Type 0 where
  pub line_of : IsLineOf shape line s
  pub only : (other : Shot) → IsLineOf shape line other → other ≡ s
