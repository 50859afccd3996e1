-- Which instructions, wherever they stand, leave the fields of their context as they are and call into no child.
use Rattle.std.specs.Prelude.{◌≡◌, ◌↔◌, true, List}
use Rattle.wave_base.specs.declared.pause.Pause.TheVariants as pause
use Rattle.wave_base.specs.declared.span.Span.{Span}
use Rattle.wave_base.specs.declared.value.Value.{Value}
use Rattle.downgrade_views.specs.Levels.{Level}
use Rattle.service_code.specs.declared.instr.Instr.{Instr}
use Rattle.service_code.specs.declared.program.Program.{Program}
use Rattle.service_verify.specs.Boxes.{Box, Frame}
use Rattle.service_verify.specs.Looks.{is_quiet}
use Rattle.service_verify.specs.Steps.{Move, Runs, Paused, Lost, act_move}

-- it leaves these fields, and does not pause to call into a child
abbrev pub Leaves : List Value → Move → Type 0
Leaves fields (Runs b fields') = fields' ≡ fields
Leaves fields (Paused b fields' (pause.Down s)) = ⊥
Leaves fields (Paused b fields' _) = fields' ≡ fields
Leaves fields Lost = Unit {0}

-- in each program, on top of any frames, with any fields
abbrev pub IsHarmless : Instr → Type 0
IsHarmless i = (program : Program) (levels : List Level) (at : Span) (f : Frame) (below : List Frame) (b : Box) (fields : List Value) → Leaves fields (act_move program levels i at f below b fields)

-- Quiet ones are harmless. But for what a call may do later, an instruction is quiet exactly where it is harmless.
abbrev pub QuietOnesAreHarmless : Type 0
QuietOnesAreHarmless = (i : Instr) → (is_quiet (λ g. true) i ≡ true) ↔ IsHarmless i
