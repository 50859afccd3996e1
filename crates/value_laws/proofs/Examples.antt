-- Small examples: which numbers and texts are within the limits, and what is bounded of a service that sends one.
use Rattle.std.proofs.Common.{pos, negsuc, [], arith}
use Rattle.std.proofs.lemmas.List.Elements.{All-nil}
use Rattle.wave_base.specs.declared.span.Span.{Span}
use Rattle.wave_base.specs.declared.value.Value.TheVariants.{Int}
use Rattle.wave_base.specs.Text.{IsPrintable}
use Rattle.resolved_service.specs.Steps.{Send}
use Rattle.resolved_service.specs.View.{Const}
use Rattle.snapshot_text.specs.Shots.{IsValue}
use Rattle.value_laws.specs.Services.{BoundedStep}

at : Span
at = record { line = 1; col = 1 }

-- the greatest and the least number, and one past each
greatest : IsValue (Int (pos 9223372036854775807))
greatest = record { sfits = omega arith }

least : IsValue (Int (negsuc 9223372036854775807))
least = record { sfits = omega arith }

past_greatest : IsValue (Int (pos 9223372036854775808)) → ⊥
past_greatest h = absurd (omega (arith, h.sfits))

past_least : IsValue (Int (negsuc 9223372036854775808)) → ⊥
past_least h = absurd (omega (arith, h.sfits))

-- a statement that sends a number is bounded where the number is
sends : BoundedStep (Send at [] (Const at (Int (pos 7))))
sends = (record { printable = All-nil IsPrintable; short = omega arith }, record { sfits = omega arith })

sends_too_much : BoundedStep (Send at [] (Const at (Int (pos 9223372036854775808)))) → ⊥
sends_too_much h = past_greatest h.1
