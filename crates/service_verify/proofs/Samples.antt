-- Programs by hand: a counter, and a market with halls and stalls.
use Rattle.std.proofs.Common.{ℕ, Bool, true, false, List, [], ◌∷◌, Some, None, pos}
use Rattle.std.specs.Prelude.{codes, replicate, length, Option}
use Rattle.wave_base.specs.declared.path.Class.{Class}
use Rattle.wave_base.specs.declared.shape.FieldInfo.{FieldInfo}
use Rattle.wave_base.specs.declared.shape.Shape.{Shape}
use Rattle.wave_base.specs.declared.span.Span.{Span}
use Rattle.wave_base.specs.declared.value.Kind.{Kind}
use Rattle.wave_base.specs.declared.value.Kind.TheVariants as k
use Rattle.wave_base.specs.declared.value.Value.TheVariants as v
use Rattle.service_code.specs.declared.instr.Instr.{Instr}
use Rattle.service_code.specs.declared.instr.Instr.TheVariants.{PushInt, Load, Store, Field, SetField, Above, Op, Tick, Call, CallDown, Return, Send, Go, Reply}
use Rattle.service_code.specs.declared.program.Function.{Function}
use Rattle.service_code.specs.declared.program.Program.{Program}

abbrev pub at : ℕ → Span
at c = record { line = 1; col = c }

abbrev pub class : ℕ → Class
class c = record { 0 = c }

-- an event without locals of its own but its parameters, or a method; its places are all one
abbrev pub function : List ℕ → ℕ → Bool → List Kind → Option Kind → List Kind → ℕ → List Instr → Function
function name c is_event args result locals stack code = record {
  name = name;
  class = class c;
  is_event = is_event;
  args = args;
  result = result;
  locals = locals;
  stack = stack;
  code = code;
  places = replicate (length code) (at 1);
}

abbrev pub one_int : List ℕ → ℕ → FieldInfo
one_int name n = record { name = name; kind = k.Int; initial = v.Int (pos n) }

-- service Tick { var n: int = 0; event hit(): int { here { n = n + 1; } reply n; } }
abbrev pub tick : Program
tick = record {
  shape = record {
    classes = record { name = codes "Tick"; parent = None; fields = one_int (codes "n") 0 ∷ [] } ∷ [];
    events = record { name = codes "hit"; params = []; reply = Some k.Int } ∷ [];
  };
  functions = function (codes "hit") 0 true [] (Some k.Int) [] 2 (Field 0 ∷ PushInt (pos 1) ∷ Op 0 ∷ SetField 0 ∷ Field 0 ∷ Reply ∷ []) ∷ [];
  texts = [];
  events = 0 ∷ [];
}

-- method take(n: int): int { stock = stock - n; return stock; }
abbrev pub take_code : List Instr
take_code = Field 0 ∷ Load 0 ∷ Op 1 ∷ SetField 0 ∷ Field 0 ∷ Return ∷ []

-- method both(a: int, b: int): int { return Stall[a].take(1) + Stall[b].take(1); }
abbrev pub both_code : List Instr
both_code =
    Load 0 ∷ PushInt (pos 1) ∷ Tick ∷ CallDown (class 2) 0
    ∷ Load 1 ∷ PushInt (pos 1) ∷ Tick ∷ CallDown (class 2) 0 ∷ Op 0 ∷ Return ∷ []

-- event buy(h: int, s: int, n: int): int { here { seen = seen + 1; } down Hall[h] { count = count + n; }
-- down Stall[s] { let left = take(n); send "till", Hall.count; } reply left; }
abbrev pub buy_code : List Instr
buy_code =
    Field 0 ∷ PushInt (pos 1) ∷ Op 0 ∷ SetField 0
    ∷ Load 0 ∷ Go (class 1) ∷ Field 0 ∷ Load 2 ∷ Op 0 ∷ SetField 0
    ∷ Load 1 ∷ Go (class 2) ∷ Load 2 ∷ Tick ∷ Call 0 ∷ Store 3 ∷ Above 1 0 ∷ Send 0
    ∷ Load 3 ∷ Reply ∷ []

-- event pair(h: int): int { down Hall[h] { let t = both(1, 2); } reply t; }
abbrev pub pair_code : List Instr
pair_code = Load 0 ∷ Go (class 1) ∷ PushInt (pos 1) ∷ PushInt (pos 2) ∷ Tick ∷ Call 1 ∷ Store 1 ∷ Load 1 ∷ Reply ∷ []

abbrev pub market_shape : Shape
market_shape = record {
  classes =
      record { name = codes "Market"; parent = None; fields = one_int (codes "seen") 0 ∷ [] }
      ∷ record { name = codes "Hall"; parent = Some (class 0); fields = one_int (codes "count") 0 ∷ [] }
      ∷ record { name = codes "Stall"; parent = Some (class 1); fields = one_int (codes "stock") 10 ∷ [] } ∷ [];
  events =
      record { name = codes "buy"; params = k.Int ∷ k.Int ∷ k.Int ∷ []; reply = Some k.Int }
      ∷ record { name = codes "pair"; params = k.Int ∷ []; reply = Some k.Int } ∷ [];
}

abbrev pub market : Program
market = record {
  shape = market_shape;
  functions =
      function (codes "take") 2 false (k.Int ∷ []) (Some k.Int) (k.Int ∷ []) 2 take_code
      ∷ function (codes "both") 1 false (k.Int ∷ k.Int ∷ []) (Some k.Int) (k.Int ∷ k.Int ∷ []) 3 both_code
      ∷ function (codes "buy") 0 true (k.Int ∷ k.Int ∷ k.Int ∷ []) (Some k.Int) (k.Int ∷ k.Int ∷ k.Int ∷ k.Int ∷ []) 2 buy_code
      ∷ function (codes "pair") 0 true (k.Int ∷ []) (Some k.Int) (k.Int ∷ k.Int ∷ []) 2 pair_code ∷ [];
  texts = codes "till" ∷ [];
  events = 2 ∷ 3 ∷ [];
}
