-- The code of a program in the making, and what it is for a call to add to it.
use Rattle.std.specs.Prelude.{◌≡◌, ◌<◌, ◌≤◌, ◌^◌, ◌*◌, ◌+◌, ℕ, List, [], ◌++◌, length}
use Rattle.wave_base.specs.declared.limits.TheConstants.{INSTRUCTIONS}
use Rattle.resolved_service.specs.declared.service.Method.{Method}
use Rattle.resolved_service.specs.Steps.{Step, Steps}
use Rattle.resolved_service.specs.View.{Tree, Trees}
use Rattle.service_code.specs.declared.program.Function.{Function}
use Rattle.code_scheme.specs.declared.line.Line.{Line}
use Rattle.code_scheme.specs.Programs.{told_length}
use Rattle.code_scheme.specs.Scheme.{tree_code, trees_code, step_code, steps_code}
use Rattle.code_scheme.specs.Texts.{Text, with_texts, tree_uses, trees_uses, step_uses, steps_uses}

-- the functions that are done, the texts so far, and the lines of the function that comes next, with their number
pub record Draft : Type 0 where
  pub functions : List Function
  pub texts : List Text
  pub lines : List Line
  pub count : ℕ

-- a function begins
abbrev pub new_draft : List Function → List Text → Draft
new_draft functions texts = record { functions = functions; texts = texts; lines = []; count = 0 }

-- numbers of 16 bits are enough for functions and lines, and of 32 bits for texts
pub record HasRoom (functions : List Function) (texts : List Text) (lines : List Line) : Type 0 where
  pub few_functions : length functions < 2 ^ 16
  pub few_lines : length lines ≤ INSTRUCTIONS
  pub few_texts : length texts ≤ INSTRUCTIONS * length functions + length lines

-- What is due is held: where there are not too many lines, the texts and the lines; and in any case how many lines there are.
pub record Holds (d : Draft) (texts : List Text) (lines : List Line) : Type 0 where
  pub count_is : d.count ≡ told_length (length lines)
  pub texts_are : length lines ≤ INSTRUCTIONS → d.texts ≡ texts
  pub lines_are : length lines ≤ INSTRUCTIONS → d.lines ≡ lines

-- all texts of a program, of which the first ones are known
pub record GoOn (texts all : List Text) : Type 0 where
  pub more : List Text
  pub are : all ≡ with_texts texts more

-- Lines are added that use these texts, behind whatever lines there are. Which they are goes by all texts of the program and by the
-- number of the first.
pub record Emits (old new : Draft) (uses : List Text) (piece : List Text → ℕ → List Line) : Type 0 where
  pub functions : new.functions ≡ old.functions
  pub holds : (all texts : List Text) (lines : List Line) → GoOn (with_texts texts uses) all → Holds old texts lines → Holds new (with_texts texts uses) (lines ++ piece all (length lines))

-- lines that use no text
abbrev pub Puts : Draft → Draft → List Line → Type 0
Puts old new lines = Emits old new [] (λ all n. lines)

-- the code of a tree, of trees, of a statement and of statements
module _ (methods : List Method) (old new : Draft) where
  abbrev pub EmitsTree : Tree → Type 0
  EmitsTree t = Emits old new (tree_uses t) (λ all n. tree_code methods all n t)

  abbrev pub EmitsTrees : Trees → Type 0
  EmitsTrees ts = Emits old new (trees_uses ts) (λ all n. trees_code methods all n ts)

  abbrev pub EmitsStep : Step → Type 0
  EmitsStep s = Emits old new (step_uses s) (λ all n. step_code methods all n s)

  abbrev pub EmitsSteps : Steps → Type 0
  EmitsSteps ss = Emits old new (steps_uses ss) (λ all n. steps_code methods all n ss)
