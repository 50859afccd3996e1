-- A program by hand, for tests and benchmarks: an event that counts to a number, a tick each.
-- event spin(n: int): int { let i = 0; while i < n { i = i + 1; } reply i; }
use Rattle.std.specs.Prelude.{true, List, [], ◌∷◌, Some, None, pos, codes, replicate}
use Rattle.wave_base.specs.declared.shape.Shape.{Shape}
use Rattle.wave_base.specs.declared.span.Span.{Span}
use Rattle.wave_base.specs.declared.value.Kind.TheVariants as k
use Rattle.service_code.specs.declared.instr.Instr.{Instr}
use Rattle.service_code.specs.declared.instr.Instr.TheVariants.{PushInt, Load, Store, Op, Jump, JumpFalse, Tick, Reply}
use Rattle.service_code.specs.declared.program.Function.{Function}
use Rattle.service_code.specs.declared.program.Program.{Program}

abbrev pub spin_code : List Instr
spin_code =
    Load 1 ∷ Load 0 ∷ Op 9 ∷ JumpFalse 10
    ∷ Tick ∷ Load 1 ∷ PushInt (pos 1) ∷ Op 0 ∷ Store 1 ∷ Jump 0
    ∷ Load 1 ∷ Reply ∷ []

abbrev pub spin_place : Span
spin_place = record { line = 1; col = 1 }

abbrev pub spin_function : Function
spin_function = record {
  name = codes "spin";
  class = record { 0 = 0 };
  is_event = true;
  args = k.Int ∷ [];
  result = Some k.Int;
  locals = k.Int ∷ k.Int ∷ [];
  stack = 2;
  code = spin_code;
  places = replicate 12 spin_place;
}

abbrev pub spin_shape : Shape
spin_shape = record {
  classes = record { name = codes "Spin"; parent = None; fields = [] } ∷ [];
  events = record { name = codes "spin"; params = k.Int ∷ []; reply = Some k.Int } ∷ [];
}

abbrev pub spin : Program
spin = record { shape = spin_shape; functions = spin_function ∷ []; texts = []; events = 0 ∷ [] }
