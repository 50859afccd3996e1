-- The code of what a statement works on, in front of what takes it, and the texts that it uses. A statement with a test has it among its
-- jumps.
use Rattle.std.specs.Prelude.{ℕ, ◌+◌, List, [], ◌∷◌, ◌++◌, length}
use Rattle.wave_base.specs.declared.span.Span.{Span}
use Rattle.resolved_service.specs.declared.service.Method.{Method}
use Rattle.resolved_service.specs.Steps.{Step, SetLocal, SetField, PutLocal, PutField, CutLocal, CutField, If, While, For, Require, Send, Spawn, Do, Return, Finish}
use Rattle.resolved_service.specs.View.{Tree}
use Rattle.code_scheme.specs.declared.line.Line.{Line}
use Rattle.service_code.specs.declared.instr.Instr.TheVariants as i
use Rattle.code_scheme.specs.Scheme.{line, tree_code, trees_code, maybe_code}
use Rattle.code_scheme.specs.Texts.{Text, tree_uses, step_uses}

module _ (methods : List Method) (texts : List Text) where
  abbrev pub both_code : ℕ → Tree → Tree → List Line
  both_code n a b = tree_code methods texts n a ++ tree_code methods texts (n + length (tree_code methods texts n a)) b

  -- the bounds of a loop over numbers, and the slots that keep them
  abbrev pub bounds_code : ℕ → ℕ → Span → Tree → Tree → List Line
  bounds_code n counter at from to =
      let first = tree_code methods texts n from in
      first ++ line (i.Store counter) at ∷ (tree_code methods texts (n + length first + 1) to ++ line (i.Store (counter + 1)) at ∷ [])

  abbrev pub operands_code : ℕ → Step → List Line
  operands_code n (SetLocal at slot e) = tree_code methods texts n e
  operands_code n (SetField at f e) = tree_code methods texts n e
  operands_code n (PutLocal at slot key e) = both_code n key e
  operands_code n (PutField at f key e) = both_code n key e
  operands_code n (CutLocal at slot key) = tree_code methods texts n key
  operands_code n (CutField at f key) = tree_code methods texts n key
  operands_code n (If at test body other) = []
  operands_code n (While at test body) = []
  operands_code n (For at counter from to body) = bounds_code n counter at from to
  operands_code n (Require at e) = tree_code methods texts n e
  operands_code n (Send at label e) = tree_code methods texts n e
  operands_code n (Spawn at event args) = trees_code methods texts n args
  operands_code n (Do at e) = tree_code methods texts n e
  operands_code n (Return at e) = maybe_code methods texts n e
  operands_code n (Finish at e) = maybe_code methods texts n e

-- a statement's own text, its label, and those of its blocks come behind
abbrev pub operands_uses : Step → List Text
operands_uses (If at test body other) = []
operands_uses (While at test body) = []
operands_uses (For at counter from to body) = tree_uses from ++ tree_uses to
operands_uses (Send at label e) = tree_uses e
operands_uses s = step_uses s
