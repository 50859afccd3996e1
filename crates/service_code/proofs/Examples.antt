-- The listing of a counter's code, computed: the service `service Tick { var n: int = 0; event hit(): int { here { n = n + 1; } reply n; } }`.
use Rattle.std.proofs.Common.{◌≡◌, ℕ, true, false, [], ◌∷◌, ◌++◌, Some, None, pos, refl}
use Rattle.std.specs.Prelude.{codes}
use Rattle.std.specs.Fmt.{digits}
use Rattle.wave_base.specs.declared.shape.Shape.{Shape}
use Rattle.wave_base.specs.declared.span.Span.{Span}
use Rattle.wave_base.specs.declared.value.Kind.TheVariants as k
use Rattle.wave_base.specs.declared.value.Value.TheVariants as v
use Rattle.service_code.specs.declared.instr.Instr.TheVariants.{PushInt, Field, SetField, Op, Reply}
use Rattle.service_code.specs.declared.program.Function.{Function}
use Rattle.service_code.specs.Listing.{program_text, function_name}

abbrev at : ℕ → Span
at c = record { line = 1; col = c }

abbrev tick_shape : Shape
tick_shape = record {
  classes = record { name = codes "Tick"; parent = None; fields = record { name = codes "n"; kind = k.Int; initial = v.Int (pos 0) } ∷ [] } ∷ [];
  events = record { name = codes "hit"; params = []; reply = Some k.Int } ∷ [];
}

abbrev hit : Function
hit = record {
  name = codes "hit";
  class = record { 0 = 0 };
  is_event = true;
  args = [];
  result = Some k.Int;
  locals = [];
  stack = 2;
  code = Field 0 ∷ PushInt (pos 1) ∷ Op 0 ∷ SetField 0 ∷ Field 0 ∷ Reply ∷ [];
  places = at 62 ∷ at 66 ∷ at 62 ∷ at 58 ∷ at 77 ∷ at 71 ∷ [];
}

tick_listing :
    program_text (record { shape = tick_shape; functions = hit ∷ []; texts = []; events = 0 ∷ [] })
    ≡ codes "function 0 hit args 0 locals 0 stack 2" ++ 10 ∷ []
    ++ codes "0 Field 0 @1:62" ++ 10 ∷ []
    ++ codes "1 PushInt 1 @1:66" ++ 10 ∷ []
    ++ codes "2 Op add @1:62" ++ 10 ∷ []
    ++ codes "3 SetField 0 @1:58" ++ 10 ∷ []
    ++ codes "4 Field 0 @1:77" ++ 10 ∷ []
    ++ codes "5 Reply @1:71" ++ 10 ∷ []
unfolding digits
tick_listing = refl

-- a method goes by its class
tick_method : function_name tick_shape (record hit { is_event = false }) ≡ codes "Tick.hit"
tick_method = refl
