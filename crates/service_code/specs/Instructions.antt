-- The instructions' names and operands, as the code listing shows them.
use Rattle.std.specs.Prelude.{◌<◌, ℕ, Bool, if◌then◌else◌, List, [], ◌∷◌, codes}
use Rattle.std.specs.Fmt.{decimal, signed_decimal}
use Rattle.wave_base.specs.declared.operators.TheConstants.{OPERATORS}
use Rattle.wave_base.specs.Operators.{name_of_operator}
use Rattle.service_code.specs.declared.instr.Instr.{Instr}
use Rattle.service_code.specs.declared.instr.Instr.TheVariants.{PushInt, PushBool, PushText, PushEmpty, Load, Store, Field, SetField, Above, Op, PutLocal, PutField, CutLocal, CutField, Jump, JumpFalse, Tick, Call, CallDown, Return, Pop, Require, Send, Spawn, Go, Reply, End}

abbrev pub name_of : Instr → List ℕ
name_of (PushInt n) = codes "PushInt"
name_of (PushBool b) = codes "PushBool"
name_of (PushText i) = codes "PushText"
name_of PushEmpty = codes "PushEmpty"
name_of (Load s) = codes "Load"
name_of (Store s) = codes "Store"
name_of (Field f) = codes "Field"
name_of (SetField f) = codes "SetField"
name_of (Above l f) = codes "Above"
name_of (Op r) = codes "Op"
name_of (PutLocal s) = codes "PutLocal"
name_of (PutField f) = codes "PutField"
name_of (CutLocal s) = codes "CutLocal"
name_of (CutField f) = codes "CutField"
name_of (Jump i) = codes "Jump"
name_of (JumpFalse i) = codes "JumpFalse"
name_of Tick = codes "Tick"
name_of (Call f) = codes "Call"
name_of (CallDown c f) = codes "CallDown"
name_of Return = codes "Return"
name_of Pop = codes "Pop"
name_of Require = codes "Require"
name_of (Send i) = codes "Send"
name_of (Spawn e) = codes "Spawn"
name_of (Go c) = codes "Go"
name_of Reply = codes "Reply"
name_of End = codes "End"

abbrev pub truth_text : Bool → List ℕ
truth_text b = if b then codes "true" else codes "false"

-- numbers in decimal, and an operator by its name
abbrev pub operands_of : Instr → List (List ℕ)
operands_of (PushInt n) = signed_decimal n ∷ []
operands_of (PushBool b) = truth_text b ∷ []
operands_of (PushText i) = decimal i ∷ []
operands_of PushEmpty = []
operands_of (Load s) = decimal s ∷ []
operands_of (Store s) = decimal s ∷ []
operands_of (Field f) = decimal f ∷ []
operands_of (SetField f) = decimal f ∷ []
operands_of (Above l f) = decimal l ∷ decimal f ∷ []
operands_of (Op r) = name_of_operator r ∷ []
operands_of (PutLocal s) = decimal s ∷ []
operands_of (PutField f) = decimal f ∷ []
operands_of (CutLocal s) = decimal s ∷ []
operands_of (CutField f) = decimal f ∷ []
operands_of (Jump i) = decimal i ∷ []
operands_of (JumpFalse i) = decimal i ∷ []
operands_of Tick = []
operands_of (Call f) = decimal f ∷ []
operands_of (CallDown c f) = decimal c.0 ∷ decimal f ∷ []
operands_of Return = []
operands_of Pop = []
operands_of Require = []
operands_of (Send i) = decimal i ∷ []
operands_of (Spawn e) = decimal e ∷ []
operands_of (Go c) = decimal c.0 ∷ []
operands_of Reply = []
operands_of End = []

-- an operator that is named is one of the table's
abbrev pub HasOperator : Instr → Type 0
HasOperator (Op r) = r < OPERATORS
HasOperator _ = Unit {0}
