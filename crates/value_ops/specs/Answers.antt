-- What a call answers where an operator gives a value or traps.
use Rattle.std.specs.Prelude.{◌≡◌, Result, Ok, Err}
use Rattle.wave_base.specs.declared.value.Value.{Value}
use Rattle.wave_base.specs.declared.value.Value.TheVariants.{Str, Map}
use Rattle.value_ops.specs.declared.error.OpError.{OpError}
use Rattle.value_ops.specs.declared.error.OpError.TheVariants.{Trap, OutOfMemory}
use Rattle.value_ops.specs.Kinds.{Answer}

-- memory may be wanting for a text or a map that is to be given, and for nothing else
abbrev pub MayWantMemory : Answer Value → Type 0
MayWantMemory (Ok (Str t)) = Unit {0}
MayWantMemory (Ok (Map m)) = Unit {0}
MayWantMemory _ = ⊥

-- the value that is given, or the trap, or that memory was wanting
abbrev pub Answers : Answer Value → Result Value OpError → Type 0
Answers answer (Ok value) = answer ≡ Ok value
Answers answer (Err (Trap trap)) = answer ≡ Err trap
Answers answer (Err (OutOfMemory _)) = MayWantMemory answer
