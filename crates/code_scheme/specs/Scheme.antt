-- The scheme: the instructions of a resolved tree with their places, the first of them at a given number.
use Rattle.std.specs.Prelude.{ℕ, ◌+◌, Bool, true, false, pos, List, [], ◌∷◌, ◌++◌, length, slice_get, Option, Some, None, is_some}
use Rattle.wave_base.specs.declared.span.Span.{Span}
use Rattle.wave_base.specs.declared.value.Value.{Value}
use Rattle.wave_base.specs.declared.value.Value.TheVariants as v
use Rattle.resolved_service.specs.declared.service.Event.{Event}
use Rattle.resolved_service.specs.declared.service.Last.{Last}
use Rattle.resolved_service.specs.declared.service.Method.{Method}
use Rattle.resolved_service.specs.declared.service.Phase.{Phase}
use Rattle.resolved_service.specs.Meaning.{row_add, row_lt}
use Rattle.resolved_service.specs.Steps.{Step, SetLocal, SetField, PutLocal, PutField, CutLocal, CutField, If, While, For, Require, Send, Spawn, Do, Return, Finish, Steps, no_steps, step, Else, no_else, otherwise, steps_in, surely_ends}
use Rattle.resolved_service.specs.View.{Tree, Const, Local, Field, Above, Op, And, Or, Call, Child, Trees, no_trees, tree, tree_of}
use Rattle.service_code.specs.declared.instr.Instr.{Instr}
use Rattle.service_code.specs.declared.instr.Instr.TheVariants as i
pub use Rattle.code_scheme.specs.declared.line.Line.{Line}
use Rattle.code_scheme.specs.Texts.{Text, place_of_text}

abbrev pub line : Instr → Span → Line
line i at = record { instr = i; place = at }

-- what puts a literal on the stack
abbrev pub literal_instr : List Text → Value → Instr
literal_instr texts (v.Int n) = i.PushInt n
literal_instr texts (v.Bool b) = i.PushBool b
literal_instr texts (v.Str t) = i.PushText (place_of_text texts t)
literal_instr texts (v.Map m) = i.PushEmpty

-- how a `finish` ends its event
abbrev pub finish_instr : Option Tree → Instr
finish_instr None = i.End
finish_instr (Some e) = i.Reply

-- whether a call of a method gives a value
abbrev pub gives_in : Option Method → Bool
gives_in None = false
gives_in (Some m) = is_some m.result

-- whether an expression leaves a value: a call of a method without a result does not
abbrev pub leaves_value : List Method → Tree → Bool
leaves_value methods (Call at method args) = gives_in (slice_get methods method)
leaves_value methods (Child at class method key args) = gives_in (slice_get methods method)
leaves_value methods _ = true

-- a value that nothing takes
abbrev pub pop_code : Bool → Span → List Line
pop_code true at = line i.Pop at ∷ []
pop_code false at = []

-- `&&`: where the left operand is false, so is the whole
abbrev pub and_code : ℕ → Span → List Line → List Line → List Line
and_code n at ca cb =
    let other = n + length ca + 1 + length cb + 1 in
    let end = other + 1 in
    ca ++ line (i.JumpFalse other) at ∷ (cb ++ line (i.Jump end) at ∷ line (i.PushBool false) at ∷ [])

-- `||`: where the left operand is true, so is the whole
abbrev pub or_code : ℕ → Span → List Line → List Line → List Line
or_code n at ca cb =
    let other = n + length ca + 3 in
    let end = other + length cb in
    ca ++ line (i.JumpFalse other) at ∷ line (i.PushBool true) at ∷ line (i.Jump end) at ∷ cb

abbrev pub if_code : ℕ → Span → List Line → List Line → List Line
if_code n at ct ca =
    let end = n + length ct + 1 + length ca in
    ct ++ line (i.JumpFalse end) at ∷ ca

-- behind a block that surely ends no Jump stands: the number of what comes then
abbrev pub behind : Bool → ℕ → ℕ
behind true n = n
behind false n = n + 1

abbrev pub else_code : ℕ → Span → List Line → Bool → List Line → List Line → List Line
else_code n at ct true ca cb =
    let other = n + length ct + 1 + length ca in
    ct ++ line (i.JumpFalse other) at ∷ (ca ++ cb)
else_code n at ct false ca cb =
    let other = n + length ct + 1 + length ca + 1 in
    let end = other + length cb in
    ct ++ line (i.JumpFalse other) at ∷ (ca ++ line (i.Jump end) at ∷ cb)

abbrev pub while_code : ℕ → Span → List Line → Bool → List Line → List Line
while_code n at ct true ca =
    let end = n + length ct + 1 + 1 + length ca in
    ct ++ line (i.JumpFalse end) at ∷ line i.Tick at ∷ ca
while_code n at ct false ca =
    let end = n + length ct + 1 + 1 + length ca + 1 in
    ct ++ line (i.JumpFalse end) at ∷ line i.Tick at ∷ (ca ++ line (i.Jump n) at ∷ [])

-- a loop over numbers has three slots: the counter's, and behind it those of the bound and the name
abbrev pub test_code : ℕ → Span → List Line
test_code counter at = line (i.Load counter) at ∷ line (i.Load (counter + 1)) at ∷ line (i.Op row_lt) at ∷ []

-- a turn of it, which counts on unless its block surely ends
abbrev pub turn_code : ℕ → Span → Bool → List Line → List Line
turn_code counter at true cb = line (i.Load counter) at ∷ line (i.Store (counter + 2)) at ∷ cb
turn_code counter at false cb =
    line (i.Load counter) at ∷ line (i.Store (counter + 2)) at
    ∷ (cb ++ line (i.Load counter) at ∷ line (i.PushInt (pos 1)) at ∷ line (i.Op row_add) at ∷ line (i.Store counter) at ∷ [])

-- the number of such a loop's first instruction, behind the code of both bounds
abbrev pub loop_at : ℕ → ℕ → ℕ → ℕ
loop_at n a b = n + a + 1 + b + 1

-- the number of its block's first instruction
abbrev pub block_at : ℕ → ℕ
block_at n = n + 3 + 1 + 1 + 1 + 1

-- a body, and what comes after it
abbrev pub body_then : List Line → (ℕ → List Line) → List Line
body_then body rest = body ++ rest (length body)

-- the code of a service with these methods and texts
module _ (methods : List Method) (texts : List Text) where
  abbrev mutual
    pub tree_code : ℕ → Tree → List Line
    tree_code n (Const at literal) = line (literal_instr texts literal) at ∷ []
    tree_code n (Local at slot) = line (i.Load slot) at ∷ []
    tree_code n (Field at f) = line (i.Field f) at ∷ []
    tree_code n (Above at level f) = line (i.Above level f) at ∷ []
    tree_code n (Op at row args) = trees_code n args ++ line (i.Op row) at ∷ []
    tree_code n (And at a b) =
        let left = tree_code n a in
        and_code n at left (tree_code (n + length left + 1) b)
    tree_code n (Or at a b) =
        let left = tree_code n a in
        or_code n at left (tree_code (n + length left + 3) b)
    tree_code n (Call at method args) = trees_code n args ++ line i.Tick at ∷ line (i.Call method) at ∷ []
    tree_code n (Child at class method key args) =
        let child = tree_code n key in
        child ++ (trees_code (n + length child) args ++ line i.Tick at ∷ line (i.CallDown (record { 0 = class }) method) at ∷ [])

    pub trees_code : ℕ → Trees → List Line
    trees_code n no_trees = []
    trees_code n (tree t ts) =
        let first = tree_code n t in
        first ++ trees_code (n + length first) ts

  -- two operands, and what takes them
  abbrev pub two_code : ℕ → Tree → Tree → Line → List Line
  two_code n a b last =
      let first = tree_code n a in
      first ++ (tree_code (n + length first) b ++ last ∷ [])

  -- a value that may be left out
  abbrev pub maybe_code : ℕ → Option Tree → List Line
  maybe_code n None = []
  maybe_code n (Some e) = tree_code n e

  abbrev mutual
    pub step_code : ℕ → Step → List Line
    step_code n (SetLocal at slot e) = tree_code n e ++ line (i.Store slot) at ∷ []
    step_code n (SetField at f e) = tree_code n e ++ line (i.SetField f) at ∷ []
    step_code n (PutLocal at slot key e) = two_code n key e (line (i.PutLocal slot) at)
    step_code n (PutField at f key e) = two_code n key e (line (i.PutField f) at)
    step_code n (CutLocal at slot key) = tree_code n key ++ line (i.CutLocal slot) at ∷ []
    step_code n (CutField at f key) = tree_code n key ++ line (i.CutField f) at ∷ []
    step_code n (If at test body other) =
        let asked = tree_code n test in
        let block = steps_code (n + length asked + 1) body in
        test_then n at asked (surely_ends body) block other
    step_code n (While at test body) =
        let asked = tree_code n test in
        let block = steps_code (n + length asked + 1 + 1) body in
        while_code n at asked (surely_ends body) block
    step_code n (For at counter from to body) =
        let first = tree_code n from in
        let bound = tree_code (n + length first + 1) to in
        let loop = loop_at n (length first) (length bound) in
        let block = steps_code (block_at loop) body in
        let turn = turn_code counter at (surely_ends body) block in
        first ++ line (i.Store counter) at
        ∷ (bound ++ line (i.Store (counter + 1)) at
        ∷ while_code loop at (test_code counter at) (surely_ends body) turn)
    step_code n (Require at e) = tree_code n e ++ line i.Require at ∷ []
    step_code n (Send at label e) = tree_code n e ++ line (i.Send (place_of_text texts label)) at ∷ []
    step_code n (Spawn at event args) = trees_code n args ++ line (i.Spawn event) at ∷ []
    step_code n (Do at e) = tree_code n e ++ pop_code (leaves_value methods e) at
    step_code n (Return at e) = maybe_code n e ++ line i.Return at ∷ []
    step_code n (Finish at e) = maybe_code n e ++ line (finish_instr e) at ∷ []

    pub steps_code : ℕ → Steps → List Line
    steps_code n no_steps = []
    steps_code n (step s ss) =
        let first = step_code n s in
        first ++ steps_code (n + length first) ss

    pub test_then : ℕ → Span → List Line → Bool → List Line → Else → List Line
    test_then n at ct ended ca no_else = if_code n at ct ca
    test_then n at ct ended ca (otherwise ss) =
        let other = behind ended (n + length ct + 1 + length ca) in
        else_code n at ct ended ca (steps_code other ss)

  -- how a method ends, and an event: at the word that gives its value, or at its own; and not at all where its statements surely end
  abbrev pub return_code : ℕ → Span → Bool → Option Last → List Line
  return_code n at true None = []
  return_code n at false None = line i.Return at ∷ []
  return_code n at ended (Some last) = tree_code n (tree_of last.value) ++ line i.Return last.at ∷ []

  abbrev pub reply_code : ℕ → Span → Bool → Option Last → List Line
  reply_code n at true None = []
  reply_code n at false None = line i.End at ∷ []
  reply_code n at ended (Some last) = tree_code n (tree_of last.value) ++ line i.Reply last.at ∷ []

  unfoldable pub method_code : Method → List Line
  method_code m = body_then (steps_code 0 (steps_in m.body)) (λ n. return_code n m.at (surely_ends (steps_in m.body)) m.last)

  -- each phase: its key, the way into the child, and its block; of the last block it is told whether it surely ends
  abbrev pub phases_code : ℕ → Bool → List Phase → Span → Option Last → List Line
  phases_code n ended [] at last = reply_code n at ended last
  phases_code n ended (f ∷ fs) at last =
      let key = tree_code n (tree_of f.key) in
      let body = n + length key + 1 in
      let block = steps_code body (steps_in f.body) in
      let rest = phases_code (body + length block) (surely_ends (steps_in f.body)) fs at last in
      key ++ line (i.Go f.class) f.at ∷ (block ++ rest)

  unfoldable pub event_code : Event → List Line
  event_code e = body_then (steps_code 0 (steps_in e.here)) (λ n. phases_code n (surely_ends (steps_in e.here)) e.phases e.at e.last)
