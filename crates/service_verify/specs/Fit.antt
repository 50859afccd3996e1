-- What makes a program fit.
use Rattle.std.specs.Prelude.{◌≡◌, ◌<◌, ◌≤◌, ◌⊎◌, ℕ, suc, ◌^◌, Bool, true, false, List, ◌++◌, length, All, Option, Some, None, slice_get, option_and_then}
use Rattle.wave_base.specs.declared.limits.TheConstants.{INSTRUCTIONS}
use Rattle.wave_base.specs.declared.shape.EventInfo.{EventInfo}
use Rattle.wave_base.specs.declared.shape.Shape.{Shape}
use Rattle.wave_base.specs.declared.value.Kind.{Kind}
use Rattle.wave_base.specs.Shapes.{IsShape}
use Rattle.service_code.specs.declared.instr.Instr.{Instr}
use Rattle.service_code.specs.declared.instr.Instr.TheVariants.{Jump, JumpFalse, Tick, CallDown}
use Rattle.service_code.specs.declared.program.Function.{Function}
use Rattle.service_code.specs.declared.program.Program.{Program}

-- where an instruction may jump
abbrev pub jump_of : Instr → Option ℕ
jump_of (Jump i) = Some i
jump_of (JumpFalse i) = Some i
jump_of _ = None

abbrev pub is_tick : Instr → Bool
is_tick Tick = true
is_tick _ = false

abbrev pub is_call_down : Instr → Bool
is_call_down (CallDown c f) = true
is_call_down _ = false

-- there is a jump from j to i
abbrev pub Jumps : List Instr → ℕ → ℕ → Type 0
Jumps code j i = option_and_then jump_of (slice_get code j) ≡ Some i

-- a tick stands at k
abbrev pub TicksAt : List Instr → ℕ → Type 0
TicksAt code k = (i : Instr) × (slice_get code k ≡ Some i) × (is_tick i ≡ true)

-- A loop, from a jump at j back to i, has a tick at k that no way round passes by: no jump at i to k - 1 goes to k + 1 to j,
-- and no jump that lies outside i to j goes to i + 1 to j.
pub record IsTicked (code : List Instr) (j i k : ℕ) : Type 0 where
  pub from : i ≤ k
  pub to : k ≤ j
  pub tick : TicksAt code k
  pub passes : (p q : ℕ) → Jumps code p q → i ≤ p → p < k → q ≤ k ⊎ j < q
  pub enters : (p q : ℕ) → Jumps code p q → p < i ⊎ j < p → q ≤ i ⊎ j < q

-- directly before each call into a child stands a tick, and no jump goes to that call
pub record IsTickedCall (code : List Instr) (n : ℕ) : Type 0 where
  pub tick : (k : ℕ) × (n ≡ suc k) × TicksAt code k
  pub no_jump : (j : ℕ) → Jumps code j n → ⊥

pub record FitsFunction (shape : Shape) (f : Function) : Type 0 where
  pub some : 0 < length f.code
  pub places : length f.places ≡ length f.code
  pub class : f.class.0 < length shape.classes
  pub root : f.is_event ≡ true → f.class.0 ≡ 0
  pub locals : (more : List Kind) × (f.locals ≡ f.args ++ more)
  pub loops : (j i : ℕ) → Jumps f.code j i → i ≤ j → (k : ℕ) × IsTicked f.code j i k
  pub calls : (n : ℕ) (i : Instr) → slice_get f.code n ≡ Some i → is_call_down i ≡ true → IsTickedCall f.code n

-- the function with this number is the event's
pub record FitsEvent (program : Program) (event : EventInfo) (number : ℕ) : Type 0 where
  pub function : Function
  pub is_there : slice_get program.functions number ≡ Some function
  pub is_event : function.is_event ≡ true
  pub args : function.args ≡ event.params
  pub result : function.result ≡ event.reply

pub record IsFit (program : Program) : Type 0 where
  pub shape : IsShape program.shape
  pub functions : All (FitsFunction program.shape) program.functions
  pub events : length program.events ≡ length program.shape.events
  pub each : (n : ℕ) (e : EventInfo) (number : ℕ) → slice_get program.shape.events n ≡ Some e → slice_get program.events n ≡ Some number → FitsEvent program e number

-- the numbers of functions and of instructions are in their range
pub record IsSmall (program : Program) : Type 0 where
  pub functions : length program.functions < 2 ^ 16
  pub code : All (λ (f : Function). length f.code ≤ INSTRUCTIONS) program.functions
