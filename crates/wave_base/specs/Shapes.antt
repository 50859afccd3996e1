-- Shapes: what is asked of one, and what it says of a path.
use Rattle.std.specs.Prelude.{◌≡◌, ◌≤◌, ◌<◌, ◌^◌, ◌==◌, ◌&&◌, ℕ, zero, suc, Bool, true, false, List, [], ◌∷◌, length, map, Option, Some, None, slice_get, All}
use Rattle.wave_base.specs.declared.limits.TheConstants.{CLASS_DEPTH}
use Rattle.wave_base.specs.declared.path.Class.{Class}
use Rattle.wave_base.specs.declared.path.Step.{Step}
use Rattle.wave_base.specs.declared.shape.FieldInfo.{FieldInfo}
use Rattle.wave_base.specs.declared.shape.ClassInfo.{ClassInfo}
use Rattle.wave_base.specs.declared.shape.Shape.{Shape}
use Rattle.wave_base.specs.declared.value.Kind.{Kind}
use Rattle.wave_base.specs.declared.value.Value.{Value}
use Rattle.wave_base.specs.Values.{kind_of}

-- the class of the context at a path that goes on from a class: that of the last step
abbrev pub class_from : ℕ → List Step → ℕ
class_from c [] = c
class_from c (s ∷ p) = class_from s.class.0 p

-- the root's class is 0
abbrev pub class_of : List Step → ℕ
class_of p = class_from 0 p

abbrev pub name_in : Option ClassInfo → List ℕ
name_in None = []
name_in (Some c) = c.name

-- the name of a class
abbrev pub class_name : Shape → ℕ → List ℕ
class_name shape c = name_in (slice_get shape.classes c)

abbrev pub parent_in : Option ClassInfo → Option Class
parent_in None = None
parent_in (Some c) = c.parent

-- the class that a class stands in
abbrev pub parent_class : Shape → ℕ → Option Class
parent_class shape c = parent_in (slice_get shape.classes c)

abbrev pub is_class : ℕ → Option Class → Bool
is_class c None = false
is_class c (Some d) = d.0 == c

-- the class that the child stands in is this one
abbrev pub is_child_class : Shape → ℕ → ℕ → Bool
is_child_class shape c child = is_class c (parent_class shape child)

-- each step's class is a child class of the class before it
abbrev pub is_path_from : Shape → ℕ → List Step → Bool
is_path_from shape c [] = true
is_path_from shape c (s ∷ p) = is_child_class shape c s.class.0 && is_path_from shape s.class.0 p

abbrev pub is_path : Shape → List Step → Bool
is_path shape p = is_path_from shape 0 p

abbrev pub fields_in : Option ClassInfo → List FieldInfo
fields_in None = []
fields_in (Some c) = c.fields

-- the fields that a class declares
abbrev pub declared_fields : Shape → ℕ → List FieldInfo
declared_fields shape c = fields_in (slice_get shape.classes c)

-- the values that a context of a class begins with
abbrev pub fields_of_class : Shape → ℕ → List Value
fields_of_class shape c = map (λ f. f.initial) (declared_fields shape c)

abbrev pub initial_fields : Shape → List Step → List Value
initial_fields shape p = fields_of_class shape (class_of p)

abbrev pub kinds_of_class : Shape → ℕ → List Kind
kinds_of_class shape c = map (λ f. f.kind) (declared_fields shape c)

-- so many steps up from a class lead past the root
abbrev pub passes_root : Shape → ℕ → Option Class → Bool
passes_root shape levels None = true
passes_root shape zero (Some c) = false
passes_root shape (suc levels) (Some c) = passes_root shape levels (parent_class shape c.0)

-- the class lies at most so many levels below the root
abbrev pub is_within : Shape → ℕ → ℕ → Bool
is_within shape levels c = passes_root shape levels (parent_class shape c)

-- each initial value has its kind
abbrev pub HasInitials : ClassInfo → Type 0
HasInitials c = All (λ (f : FieldInfo). kind_of f.initial ≡ f.kind) c.fields

-- what is asked of every shape
pub record IsShape (shape : Shape) : Type 0 where
  pub root : (c : ClassInfo) × (slice_get shape.classes 0 ≡ Some c) × (c.parent ≡ None)
  pub parents : (n : ℕ) → suc n < length shape.classes → (d : Class) × (parent_class shape (suc n) ≡ Some d) × (d.0 ≤ n)
  pub depth : (n : ℕ) → n < length shape.classes → is_within shape CLASS_DEPTH n ≡ true
  pub initials : All HasInitials shape.classes
  pub few_classes : length shape.classes < 2 ^ 16
  pub few_events : length shape.events < 2 ^ 16
