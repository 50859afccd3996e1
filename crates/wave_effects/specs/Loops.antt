-- Programs some jump of which goes back, so that a segment may take any number of ticks.
use Rattle.std.specs.Prelude.{suc, ℕ, Bool, false, ◌||◌, nat_le, List, [], ◌∷◌}
use Rattle.std.specs.List.{list_any}
use Rattle.service_code.specs.declared.instr.Instr.{Instr}
use Rattle.service_code.specs.declared.instr.Instr.TheVariants.{Jump, JumpFalse}
use Rattle.service_code.specs.declared.program.Program.{Program}

-- an instruction at this place jumps to it, or to one before it
abbrev pub jumps_back : ℕ → Instr → Bool
jumps_back place (Jump to) = nat_le to place
jumps_back place (JumpFalse to) = nat_le to place
jumps_back place _ = false

-- some instruction does, where the first one is at this place
abbrev pub has_loop : ℕ → List Instr → Bool
has_loop place [] = false
has_loop place (i ∷ is) = jumps_back place i || has_loop (suc place) is

-- some instruction of some function does
abbrev pub has_loops : Program → Bool
has_loops program = list_any (λ f. has_loop 0 f.code) program.functions
