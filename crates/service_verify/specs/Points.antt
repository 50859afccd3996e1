-- What a verified function has before each of its instructions: the first arrival in code order fixes it, and a later one must agree.
use Rattle.std.specs.Prelude.{◌≡◌, ◌<◌, ℕ, suc, Bool, true, false, ◌==◌, ◌||◌, not, nat_le, List, [], ◌∷◌, ◌++◌, length, replicate, Option, Some, None, option_to_list, Result, Ok, Err, slice_get, slice_set}
use Rattle.std.specs.Cmp.Lexicographic.{pointwise}
use Rattle.wave_base.specs.declared.value.Kind.{Kind}
use Rattle.service_code.specs.declared.instr.Instr.{Instr}
use Rattle.service_code.specs.declared.program.Function.{Function}
use Rattle.service_code.specs.declared.program.Program.{Program}
use Rattle.service_verify.specs.declared.error.Rule.{Rule}
use Rattle.service_verify.specs.declared.error.Rule.TheVariants as rule
use Rattle.service_verify.specs.declared.point.Point.{Point}
use Rattle.service_verify.specs.Rules.{Judged, judged_item, must, judged_then, kind_eq, effect_of, left_below, ends, class_after, next_of}

-- for each instruction what was fixed so far
abbrev pub Table : Type 0
Table = List (Option Point)

-- the instruction that breaks a rule
pub record Fault : Type 0 where
  pub rule : Rule
  pub instruction : ℕ

abbrev pub is_empty : List Kind → Bool
is_empty [] = true
is_empty (k ∷ ks) = false

-- the stack is not higher than the function says, and it is empty where the function ends
abbrev pub kept_stack : Function → Instr → List Kind → Judged (List Kind)
kept_stack function i ks =
    must rule.Stack (nat_le (length ks) function.stack) (must rule.Stack (not (ends i) || is_empty ks) (Ok ks))

-- two arrivals have the same height, and the same class and kinds
abbrev pub agreement : Point → Point → Table → Judged Table
agreement p q t =
    must rule.Stack (length p.stack == length q.stack)
    (must rule.Kind (p.class.0 == q.class.0) (must rule.Kind (pointwise kind_eq p.stack q.stack) (Ok t)))

abbrev pub arrived_at : ℕ → Point → Option Point → Table → Judged Table
arrived_at n p None t = Ok (slice_set t n (Some p))
arrived_at n p (Some q) t = agreement p q t

-- an arrival at an instruction, which must be there
abbrev pub arrival : ℕ → Point → Table → Judged Table
arrival n p t = judged_item rule.Jump (slice_get t n) (λ q. arrived_at n p q t)

abbrev pub arrivals : List ℕ → Point → Table → Judged Table
arrivals [] p t = Ok t
arrivals (n ∷ ns) p t = judged_then (arrival n p t) (λ u. arrivals ns p u)

abbrev pub visited_then : ℕ → Judged Table → (Table → Result Table Fault) → Result Table Fault
visited_then n (Ok t) go = go t
visited_then n (Err r) go = Err (record { rule = r; instruction = n })

-- the first instruction is reached with an empty stack
abbrev pub first_point : Function → Point
first_point function = record { class = function.class; stack = [] }

abbrev pub first_table : Function → Table
first_table function = slice_set (replicate (length function.code) None) 0 (Some (first_point function))

module _ (program : Program) (number : ℕ) (function : Function) where
  -- the point after an instruction
  unfoldable pub point_after : Instr → Point → Judged Point
  point_after i p =
      judged_then (effect_of program number function p.class.0 i) (λ e.
      judged_then (left_below e.takes p.stack) (λ below.
      judged_then (kept_stack function i (option_to_list e.gives ++ below)) (λ stack.
      Ok (record { class = class_after i p.class; stack = stack }))))

  -- an instruction, which an earlier one must have reached
  unfoldable pub visit : ℕ → Instr → Table → Judged Table
  visit n i t =
      judged_item rule.Jump (slice_get t n) (λ q.
      judged_item rule.Jump q (λ p.
      judged_then (point_after i p) (λ after. arrivals (next_of i n) after t)))

  -- the instructions from number n on
  unfoldable pub judged_from : ℕ → List Instr → Table → Result Table Fault
  judged_from n [] t = Ok t
  judged_from n (i ∷ is) t = visited_then n (visit n i t) (λ u. judged_from (suc n) is u)

  -- the points of all instructions, or the first one that breaks a rule
  unfoldable pub judged_function : Result Table Fault
  judged_function = judged_from 0 function.code (first_table function)

abbrev pub table_in : Result Table Fault → Table
table_in (Ok t) = t
table_in (Err e) = []

-- what the verifier fixed for the instructions of a function
abbrev pub points_of : Program → ℕ → Function → Table
points_of program number f = table_in (judged_function program number f)

abbrev pub point_in : Option (Option Point) → Option Point
point_in None = None
point_in (Some p) = p

-- what the verifier fixed for an instruction
unfoldable pub point_at : Program → ℕ → Function → ℕ → Option Point
point_at program number f place = point_in (slice_get (points_of program number f) place)

-- no instruction breaks a rule
pub record IsVerified (program : Program) : Type 0 where
  pub each : (n : ℕ) (f : Function) → slice_get program.functions n ≡ Some f → (points : Table) × (judged_function program n f ≡ Ok points)

-- this instruction of this function breaks this rule, and no function before it has one that does
pub record Breaks (program : Program) (r : Rule) (number instruction : ℕ) : Type 0 where
  pub function : Function
  pub is_there : slice_get program.functions number ≡ Some function
  pub before : (n : ℕ) (f : Function) → n < number → slice_get program.functions n ≡ Some f → (points : Table) × (judged_function program n f ≡ Ok points)
  pub breaks : judged_function program number function ≡ Err (record { rule = r; instruction = instruction })
