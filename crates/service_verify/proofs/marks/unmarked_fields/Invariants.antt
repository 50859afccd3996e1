use Rattle.std.proofs.Common.{◌≡◌, map, take}
use Rattle.service_verify.specs.inner.Surveys.{unmarked_fields}
use Rattle.service_verify.proofs.marks.unmarked_fields.Given as goal

-- the classes so far
abbrev pub invariant-loop-class : goal.invariant-loop-class
invariant-loop-class l = l.marks.items ≡ map unmarked_fields (take l.class-index l.fn.shape.classes)
