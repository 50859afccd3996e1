-- Pieces of a script that only one worker could ever run at a time.
use Rattle.std.specs.Prelude.{Bool, true, false, not, ◌&&◌, ◌||◌, nat_le, nat_lt, List, count_by}
use Rattle.std.specs.List.{list_any, list_all}
use Rattle.wave_base.specs.declared.script.Line.{Line}
use Rattle.wave_base.specs.declared.script.Line.TheVariants.{Move}
use Rattle.service_code.specs.declared.instr.Instr.{Instr}
use Rattle.service_code.specs.declared.instr.Instr.TheVariants.{Spawn}
use Rattle.service_code.specs.declared.program.Program.{Program}
use Rattle.wave_effects.specs.Loops.{has_loops}
use Rattle.plan_actors.specs.Plans.{Plan}
use Rattle.elastic_policy.specs.Stages.{Staged}

-- an instruction creates an event
abbrev pub is_spawn : Instr → Bool
is_spawn (Spawn event) = true
is_spawn _ = false

-- some instruction does
abbrev pub has_spawn : List Instr → Bool
has_spawn code = list_any is_spawn code

-- some instruction of some function does
abbrev pub has_spawns : Program → Bool
has_spawns program = list_any (λ f. has_spawn f.code) program.functions

abbrev pub is_no_move : Line → Bool
is_no_move (Move path to) = false
is_no_move _ = true

-- a batch has one line at most that is no move
abbrev pub is_single : List Line → Bool
is_single batch = nat_le (count_by is_no_move batch) 1

abbrev pub are_single : List (List Line) → Bool
are_single batches = list_all is_single batches

-- no batch has two events, and none creates another
abbrev pub never_has_two : Plan → Bool
never_has_two plan = are_single plan.script.batches && not (has_spawns plan.program)

-- No gate may hold a worker; and no segment takes long, so that no other worker is called, or the piece stands behind another and never has two events.
abbrev pub is_light : Bool → Bool → Plan → Bool
is_light may_hold begun plan = not may_hold && (not (has_loops plan.program) || (begun && never_has_two plan))

-- some piece gave a ticket before
abbrev pub has_begun : Staged → Bool
has_begun s = nat_lt 1 s.start.next.0
