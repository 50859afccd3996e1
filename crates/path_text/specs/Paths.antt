-- The path of a shape that written steps stand for.
use Rattle.std.specs.Prelude.{ℕ, ℤ, Bool, ◌&&◌, nat_le, if◌then◌else◌, List, [], ◌∷◌, length, position, Option, Some, None, option_map}
use Rattle.std.specs.Option.{option_and_then}
use Rattle.wave_base.specs.declared.limits.TheConstants.{CLASS_DEPTH}
use Rattle.wave_base.specs.declared.path.Path.{Path}
use Rattle.wave_base.specs.declared.path.Step.{Step}
use Rattle.wave_base.specs.declared.shape.ClassInfo.{ClassInfo}
use Rattle.wave_base.specs.declared.shape.Shape.{Shape}
use Rattle.wave_base.specs.Names.{same_bytes}
use Rattle.wave_base.specs.Shapes.{is_class}
use Rattle.wave_text.specs.Numbers.{whole_of}
use Rattle.path_text.specs.declared.written.Written.{Written}

-- it has the name, and stands in class c
abbrev pub is_child : ℕ → List ℕ → ClassInfo → Bool
is_child c name info = is_class c info.parent && same_bytes info.name name

-- the class of that name that stands in class c
abbrev pub child_class : Shape → ℕ → List ℕ → Option ℕ
child_class shape c name = position (is_child c name) shape.classes

abbrev pub step_with : ℕ → Option ℤ → Option Step
step_with class key = option_map (λ k. record { class = record { 0 = class }; key = k }) key

-- the step from a context of class c: its class is a child class of c, and its key fits 64 bits
abbrev pub step_below : Shape → ℕ → Written → Option Step
step_below shape c s = option_and_then (λ class. step_with class (whole_of s.key)) (child_class shape c s.name)

-- the steps that go on from a context of class c, each from the one before it
abbrev pub steps_below : Shape → ℕ → List Written → Option (List Step)
steps_below shape c [] = Some []
steps_below shape c (s ∷ ss) = option_and_then (λ t. option_map (λ ts. t ∷ ts) (steps_below shape t.class.0 ss)) (step_below shape c s)

-- the path; none where a class is not a child class of the one before it, a key does not fit, or there are more than 8 steps
abbrev pub path_of : Shape → List Written → Option Path
path_of shape steps = if nat_le (length steps) CLASS_DEPTH then steps_below shape 0 steps else None
