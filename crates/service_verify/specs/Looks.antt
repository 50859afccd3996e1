-- Events that only look: from a place on they change no field and go into no child.
use Rattle.std.specs.Prelude.{ℕ, zero, suc, Bool, true, false, ◌&&◌, nat_le, if◌then◌else◌, List, [], ◌∷◌, length, drop, Option, Some, None, slice_get}
use Rattle.std.specs.List.{list_all, list_any}
use Rattle.service_code.specs.declared.instr.Instr.{Instr}
use Rattle.service_code.specs.declared.instr.Instr.TheVariants.{SetField, PutField, CutField, Call, CallDown, Go}
use Rattle.service_code.specs.declared.program.Function.{Function}
use Rattle.service_code.specs.declared.program.Program.{Program}
use Rattle.service_verify.specs.Boxes.{Frame, Box}
use Rattle.service_verify.specs.Fit.{jump_of}
use Rattle.service_verify.specs.Steps.{code_of}

-- An instruction is quiet that changes no field and calls into no child; and a call of a method where `quiet` says it of the method.
abbrev pub is_quiet : (ℕ → Bool) → Instr → Bool
is_quiet quiet (SetField f) = false
is_quiet quiet (PutField f) = false
is_quiet quiet (CutField f) = false
is_quiet quiet (CallDown c f) = false
is_quiet quiet (Call f) = quiet f
is_quiet quiet _ = true

abbrev pub is_go : Instr → Bool
is_go (Go c) = true
is_go _ = false

-- the place after the last Go of a code, and its first place where it has none
abbrev pub after_go : List Instr → ℕ
after_go [] = 0
after_go (i ∷ is) = if list_any is_go (i ∷ is) then suc (after_go is) else 0

abbrev pub goes_to : ℕ → Option ℕ → Bool
goes_to place None = true
goes_to place (Some i) = nat_le place i

-- no jump, or one to this place or behind it
abbrev pub stays_behind : ℕ → Instr → Bool
stays_behind place i = goes_to place (jump_of i)

module _ (program : Program) where
  -- all instructions of a function are quiet, down to this depth of calls
  abbrev pub quiet_to : ℕ → ℕ → Bool
  quiet_to zero number = false
  quiet_to (suc depth) number = list_all (is_quiet (quiet_to depth)) (code_of (slice_get program.functions number))

  -- all instructions of a function are quiet; a call goes to a lower number, so calls are no deeper than there are functions
  unfoldable pub is_quiet_function : ℕ → Bool
  is_quiet_function number = quiet_to (length program.functions) number

  -- from a place of a code on, all is quiet, and no jump goes before that place
  abbrev pub only_looks : ℕ → List Instr → Bool
  only_looks place code = list_all (λ i. is_quiet is_quiet_function i && stays_behind place i) (drop place code)

  abbrev pub function_peeks : Option Function → Bool
  function_peeks None = false
  function_peeks (Some f) = f.is_event && only_looks (after_go f.code) f.code

  -- an event's function that after its last Go only looks
  unfoldable pub peeks : ℕ → Bool
  peeks number = function_peeks (slice_get program.functions number)

  -- the place from which on an event's function only looks, where it peeks
  abbrev pub looks_from : ℕ → Option ℕ
  looks_from number = if peeks number then Some (after_go (code_of (slice_get program.functions number))) else None

  abbrev pub is_behind : Option ℕ → ℕ → Bool
  is_behind None place = false
  is_behind (Some start) place = nat_le start place

  abbrev pub frames_peek : List Frame → Bool
  frames_peek [] = false
  frames_peek (f ∷ below) = is_behind (looks_from f.function) f.place

  -- the event's function peeks, and the event stands after its last Go
  abbrev pub is_peeking : Box → Bool
  is_peeking b = frames_peek b.frames
