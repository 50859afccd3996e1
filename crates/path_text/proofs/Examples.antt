-- Paths of a small shape, computed.
use Rattle.std.proofs.Common.{◌≡◌, ℕ, pos, negsuc, true, false, List, [], ◌∷◌, ◌++◌, Option, Some, None, refl}
use Rattle.std.specs.Prelude.{codes}
use Rattle.std.specs.Fmt.{digits}
use Rattle.wave_base.specs.declared.path.Class.{Class}
use Rattle.wave_base.specs.declared.path.Step.{Step}
use Rattle.wave_base.specs.declared.shape.ClassInfo.{ClassInfo}
use Rattle.wave_base.specs.declared.shape.FieldInfo.{FieldInfo}
use Rattle.wave_base.specs.declared.shape.Shape.{Shape}
use Rattle.wave_base.specs.declared.value.Kind.TheVariants as kind
use Rattle.wave_base.specs.declared.value.Value.TheVariants.{Int, Str}
use Rattle.path_text.specs.declared.written.Written.{Written}
use Rattle.path_text.specs.Paths.{path_of}
use Rattle.path_text.specs.PathTexts.{path_text}
use Rattle.path_text.specs.ShotTexts.{shot_text}
use Rattle.path_text.specs.Steps.{is_step, written_text}

abbrev field : List ℕ → FieldInfo
field name = record { name = name; kind = kind.Int; initial = Int (pos 0) }

abbrev class : List ℕ → Option Class → List FieldInfo → ClassInfo
class name parent fields = record { name = name; parent = parent; fields = fields }

-- Market, with Hall in it, with Stall in that
abbrev market : Shape
market = record {
  classes =
      class (codes "Market") None []
      ∷ class (codes "Hall") (Some (record { 0 = 0 })) (field (codes "count") ∷ field (codes "b") ∷ [])
      ∷ class (codes "Stall") (Some (record { 0 = 1 })) []
      ∷ [];
  events = [];
}

abbrev written : List ℕ → List ℕ → Written
written name key = record { name = name; key = key }

abbrev step : ℕ → Step
step c = record { class = record { 0 = c }; key = negsuc 1 }

root_text : written_text [] ≡ codes "/"
root_text = refl

two_steps : written_text (written (codes "Hall") (codes "01") ∷ written (codes "x") (codes "-2") ∷ []) ≡ codes "/Hall[01]/x[-2]"
two_steps = refl

key_of_20_digits : is_step (written (codes "Hall") (codes "12345678901234567890")) ≡ false
key_of_20_digits = refl

key_of_19_digits : is_step (written (codes "Hall") (codes "-1234567890123456789")) ≡ true
key_of_19_digits = refl

stall : path_of market (written (codes "Hall") (codes "-02") ∷ written (codes "Stall") (codes "-2") ∷ []) ≡ Some (step 1 ∷ step 2 ∷ [])
stall = refl

no_child_class : path_of market (written (codes "Stall") (codes "-2") ∷ []) ≡ None
no_child_class = refl

root_is_no_child : path_of market (written (codes "Market") (codes "1") ∷ []) ≡ None
root_is_no_child = refl

past_64_bits : path_of market (written (codes "Hall") (codes "9223372036854775808") ∷ []) ≡ None
past_64_bits = refl

stall_text : path_text market (step 1 ∷ step 2 ∷ []) ≡ codes "/Hall[-2]/Stall[-2]"
unfolding digits
stall_text = refl

hall_shot : shot_text market (record { path = step 1 ∷ []; fields = Int (pos 7) ∷ Str [] ∷ [] }) ≡ codes "at /Hall[-2] count=7 b=" ++ 34 ∷ 34 ∷ []
unfolding digits
hall_shot = refl

no_fields : shot_text market (record { path = []; fields = [] }) ≡ codes "at /"
no_fields = refl
