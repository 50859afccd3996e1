-- The code listing: a line per function, and then one per instruction.
use Rattle.std.specs.Prelude.{◌≡◌, ◌<◌, ℕ, suc, if◌then◌else◌, List, [], ◌∷◌, ◌++◌, length, codes, All}
use Rattle.std.specs.Fmt.{decimal}
use Rattle.wave_base.specs.Shapes.{class_name}
use Rattle.wave_base.specs.declared.shape.Shape.{Shape}
use Rattle.wave_base.specs.declared.span.Span.{Span}
use Rattle.wave_text.specs.Places.{place_text}
use Rattle.service_code.specs.declared.instr.Instr.{Instr}
use Rattle.service_code.specs.declared.program.Function.{Function}
use Rattle.service_code.specs.declared.program.Program.{Program}
use Rattle.service_code.specs.Instructions.{name_of, operands_of, HasOperator}

-- one space before each word
abbrev pub spaced_words : List (List ℕ) → List ℕ
spaced_words [] = []
spaced_words (w ∷ ws) = 32 ∷ (w ++ spaced_words ws)

-- an instruction's number, its name, its operands, and `@` before its place
abbrev pub line_text : ℕ → Instr → Span → List ℕ
line_text n i p = decimal n ++ spaced_words (name_of i ∷ operands_of i) ++ spaced_words ((codes "@" ++ place_text p) ∷ []) ++ 10 ∷ []

-- the instructions from number n on
abbrev pub lines_text : ℕ → List Instr → List Span → List ℕ
lines_text n [] ps = []
lines_text n (i ∷ is) [] = []
lines_text n (i ∷ is) (p ∷ ps) = line_text n i p ++ lines_text (suc n) is ps

-- an event's name, or `Class.method`
abbrev pub function_name : Shape → Function → List ℕ
function_name shape f = if f.is_event then f.name else class_name shape f.class.0 ++ codes "." ++ f.name

abbrev pub head_words : Shape → ℕ → Function → List (List ℕ)
head_words shape n f =
    decimal n ∷ function_name shape f
    ∷ codes "args" ∷ decimal (length f.args)
    ∷ codes "locals" ∷ decimal (length f.locals)
    ∷ codes "stack" ∷ decimal f.stack ∷ []

-- the function with number n
abbrev pub function_text : Shape → ℕ → Function → List ℕ
function_text shape n f = codes "function" ++ spaced_words (head_words shape n f) ++ 10 ∷ [] ++ lines_text 0 f.code f.places

-- the functions from number n on
abbrev pub functions_text : Shape → ℕ → List Function → List ℕ
functions_text shape n [] = []
functions_text shape n (f ∷ fs) = function_text shape n f ++ functions_text shape (suc n) fs

abbrev pub program_text : Program → List ℕ
program_text program = functions_text program.shape 0 program.functions

-- what the listing asks of a function: a class of the shape, a place per instruction, and operators of the table
pub record CanList (shape : Shape) (f : Function) : Type 0 where
  pub class : f.class.0 < length shape.classes
  pub places : length f.places ≡ length f.code
  pub operators : All HasOperator f.code
