-- A context with its fields, as one line shows it.
use Rattle.std.specs.Prelude.{ℕ, List, [], ◌∷◌, ◌++◌, codes}
use Rattle.wave_base.specs.declared.shape.FieldInfo.{FieldInfo}
use Rattle.wave_base.specs.declared.shape.Shape.{Shape}
use Rattle.wave_base.specs.declared.shot.Shot.{Shot}
use Rattle.wave_base.specs.declared.value.Value.{Value}
use Rattle.wave_base.specs.Shapes.{class_of, declared_fields}
use Rattle.wave_text.specs.ValueTexts.{value_text}
use Rattle.path_text.specs.PathTexts.{path_text}

--  name=value
abbrev pub field_text : FieldInfo → Value → List ℕ
field_text f v = codes " " ++ f.name ++ codes "=" ++ value_text v

-- each field with its value
abbrev pub fields_text : List FieldInfo → List Value → List ℕ
fields_text [] vs = []
fields_text (f ∷ fs) [] = []
fields_text (f ∷ fs) (v ∷ vs) = field_text f v ++ fields_text fs vs

-- at path name=value ..
abbrev pub shot_text : Shape → Shot → List ℕ
shot_text shape s = codes "at " ++ path_text shape s.path ++ fields_text (declared_fields shape (class_of s.path)) s.fields
