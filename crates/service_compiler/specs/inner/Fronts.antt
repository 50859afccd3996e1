-- The code of an event's phases, without what ends it; what ends a function; and of loops, the way back, the count and the turns.
use Rattle.std.specs.Prelude.{ℕ, ◌+◌, Bool, true, false, pos, List, [], ◌∷◌, ◌++◌, length, Option, Some, None}
use Rattle.resolved_service.specs.declared.service.Last.{Last}
use Rattle.resolved_service.specs.declared.service.Method.{Method}
use Rattle.resolved_service.specs.declared.service.Phase.{Phase}
use Rattle.resolved_service.specs.Meaning.{row_add}
use Rattle.resolved_service.specs.Steps.{Steps, steps_in, surely_ends}
use Rattle.resolved_service.specs.View.{tree_of}
use Rattle.wave_base.specs.declared.span.Span.{Span}
use Rattle.service_code.specs.declared.instr.Instr.{Instr}
use Rattle.service_code.specs.declared.instr.Instr.TheVariants as i
use Rattle.code_scheme.specs.declared.line.Line.{Line}
use Rattle.code_scheme.specs.Scheme.{line, test_code, turn_code, while_code, block_at, tree_code, steps_code}
use Rattle.code_scheme.specs.Texts.{Text}

module _ (methods : List Method) (texts : List Text) where
  abbrev pub phase_code : ℕ → Phase → List Line
  phase_code n f =
      tree_code methods texts n (tree_of f.key) ++ line (i.Go f.class) f.at
      ∷ steps_code methods texts (n + length (tree_code methods texts n (tree_of f.key)) + 1) (steps_in f.body)

  abbrev pub phases_front : ℕ → List Phase → List Line
  phases_front n [] = []
  phases_front n (f ∷ fs) = phase_code n f ++ phases_front (n + length (phase_code n f)) fs

  -- how a function ends: with its value and what takes it; or with a bare line, unless the statements before surely end
  abbrev pub last_code : Instr → Line → ℕ → Bool → Option Last → List Line
  last_code taken bare n true None = []
  last_code taken bare n false None = bare ∷ []
  last_code taken bare n ended (Some last) = tree_code methods texts n (tree_of last.value) ++ line taken last.at ∷ []

  -- a loop over numbers, behind its bounds
  abbrev pub loop_code : ℕ → ℕ → Span → Steps → List Line
  loop_code n counter at body =
      let ended = surely_ends body in
      while_code n at (test_code counter at) ended (turn_code counter at ended (steps_code methods texts (block_at n) body))

-- whether the last phase surely ends
abbrev pub ended_behind : Bool → List Phase → Bool
ended_behind ended [] = ended
ended_behind ended (f ∷ fs) = ended_behind (surely_ends (steps_in f.body)) fs

-- behind a block that surely ends there is no way back
abbrev pub back_code : Bool → ℕ → Span → List Line
back_code true n at = []
back_code false n at = line (i.Jump n) at ∷ []

-- how a loop over numbers counts on
abbrev pub next_code : ℕ → Span → List Line
next_code counter at = line (i.Load counter) at ∷ line (i.PushInt (pos 1)) at ∷ line (i.Op row_add) at ∷ line (i.Store counter) at ∷ []
