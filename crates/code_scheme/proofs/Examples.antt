-- Small code, computed.
use Rattle.std.proofs.Common.{◌≡◌, ℕ, pos, true, false, [], ◌∷◌, Some, None, refl}
use Rattle.wave_base.specs.declared.span.Span.{Span}
use Rattle.wave_base.specs.declared.value.Kind.TheVariants as k
use Rattle.wave_base.specs.declared.value.Value.{Value}
use Rattle.wave_base.specs.declared.value.Value.TheVariants as v
use Rattle.resolved_service.specs.declared.expr.Node.TheVariants as node
use Rattle.resolved_service.specs.declared.service.Last.{Last}
use Rattle.resolved_service.specs.declared.service.Method.{Method}
use Rattle.resolved_service.specs.Steps.{Steps, no_steps, step, SetField, If, While, For, Require, Send, Do, Return, Finish, no_else, otherwise}
use Rattle.resolved_service.specs.View.{Tree, Trees, no_trees, tree, Const, Local, Field, Op, And, Or, Call, Child}
use Rattle.service_code.specs.declared.instr.Instr.TheVariants as i
use Rattle.code_scheme.specs.Heights.{steps_height}
use Rattle.code_scheme.specs.Scheme.{line, tree_code, step_code, steps_code, reply_code, body_then}
use Rattle.code_scheme.specs.Texts.{steps_uses, with_texts}

abbrev at : ℕ → Span
at c = record { line = 1; col = c }

abbrev num : ℕ → Value
num n = v.Int (pos n)

abbrev two : Tree → Tree → Trees
two a b = tree a (tree b no_trees)

-- n = n + 1; and then: reply n;
abbrev counts : Steps
counts = step (SetField (at 58) 0 (Op (at 62) 0 (two (Field (at 62) 0) (Const (at 66) (num 1))))) no_steps

abbrev reply_n : Last
reply_n = record { at = at 71; value = record { at = at 77; node = node.Field 0 } }

hit : body_then (steps_code [] [] 0 counts) (λ n. reply_code [] [] n (at 32) false (Some reply_n))
    ≡ line (i.Field 0) (at 62) ∷ line (i.PushInt (pos 1)) (at 66) ∷ line (i.Op 0) (at 62) ∷ line (i.SetField 0) (at 58) ∷ line (i.Field 0) (at 77) ∷ line (i.Reply) (at 71) ∷ []
hit = refl

hit_height : steps_height [] counts ≡ 2
hit_height = refl

-- if true { return 7; } else { require false; }, where no Jump stands behind the first block; and a method that ends so
abbrev returns : Steps
returns = step (Return (at 40) (Some (Const (at 47) (num 7)))) no_steps

if_return : step_code [] [] 0 (If (at 9) (Const (at 12) (v.Bool true)) returns (otherwise (step (Require (at 20) (Const (at 28) (v.Bool false))) no_steps)))
    ≡ line (i.PushBool true) (at 12) ∷ line (i.JumpFalse 4) (at 9) ∷ line (i.PushInt (pos 7)) (at 47) ∷ line i.Return (at 40) ∷ line (i.PushBool false) (at 28) ∷ line i.Require (at 20) ∷ []
if_return = refl

while_finish : step_code [] [] 0 (While (at 9) (Const (at 15) (v.Bool true)) (step (Finish (at 21) None) no_steps))
    ≡ line (i.PushBool true) (at 15) ∷ line (i.JumpFalse 4) (at 9) ∷ line i.Tick (at 9) ∷ line i.End (at 21) ∷ []
while_finish = refl

for_return : step_code [] [] 0 (For (at 9) 4 (Const (at 18) (num 2)) (Const (at 23) (num 5)) returns)
    ≡ line (i.PushInt (pos 2)) (at 18) ∷ line (i.Store 4) (at 9) ∷ line (i.PushInt (pos 5)) (at 23) ∷ line (i.Store 5) (at 9)
    ∷ line (i.Load 4) (at 9) ∷ line (i.Load 5) (at 9) ∷ line (i.Op 9) (at 9) ∷ line (i.JumpFalse 13) (at 9) ∷ line i.Tick (at 9)
    ∷ line (i.Load 4) (at 9) ∷ line (i.Store 6) (at 9) ∷ line (i.PushInt (pos 7)) (at 47) ∷ line i.Return (at 40) ∷ []
for_return = refl

-- from instruction 10 on: both operands, and what `&&` and `||` leave out
abbrev yes : Tree
yes = Const (at 1) (v.Bool true)

abbrev no : Tree
no = Const (at 2) (v.Bool false)

both : tree_code [] [] 10 (And (at 1) yes no)
    ≡ line (i.PushBool true) (at 1) ∷ line (i.JumpFalse 14) (at 1) ∷ line (i.PushBool false) (at 2) ∷ line (i.Jump 15) (at 1) ∷ line (i.PushBool false) (at 1) ∷ []
both = refl

either : tree_code [] [] 10 (Or (at 1) yes no)
    ≡ line (i.PushBool true) (at 1) ∷ line (i.JumpFalse 14) (at 1) ∷ line (i.PushBool true) (at 1) ∷ line (i.Jump 15) (at 1) ∷ line (i.PushBool false) (at 2) ∷ []
either = refl

-- the key comes before the arguments, and the tick behind them
child_call : tree_code [] [] 0 (Child (at 3) 2 5 (Local (at 8) 1) (tree (Const (at 12) (num 7)) no_trees))
    ≡ line (i.Load 1) (at 8) ∷ line (i.PushInt (pos 7)) (at 12) ∷ line i.Tick (at 3) ∷ line (i.CallDown (record { 0 = 2 }) 5) (at 3) ∷ []
child_call = refl

abbrev one_step : Steps
one_step = step (Require (at 20) yes) no_steps

if_else : step_code [] [] 0 (If (at 9) no one_step (otherwise one_step))
    ≡ line (i.PushBool false) (at 2) ∷ line (i.JumpFalse 5) (at 9) ∷ line (i.PushBool true) (at 1) ∷ line i.Require (at 20) ∷ line (i.Jump 7) (at 9) ∷ line (i.PushBool true) (at 1) ∷ line i.Require (at 20) ∷ []
if_else = refl

if_alone : step_code [] [] 0 (If (at 9) no one_step no_else)
    ≡ line (i.PushBool false) (at 2) ∷ line (i.JumpFalse 4) (at 9) ∷ line (i.PushBool true) (at 1) ∷ line i.Require (at 20) ∷ []
if_alone = refl

loops : step_code [] [] 0 (While (at 9) yes one_step)
    ≡ line (i.PushBool true) (at 1) ∷ line (i.JumpFalse 6) (at 9) ∷ line i.Tick (at 9) ∷ line (i.PushBool true) (at 1) ∷ line i.Require (at 20) ∷ line (i.Jump 0) (at 9) ∷ []
loops = refl

-- for v in 2 to 5 { require true; }, whose slots are 4, 5 and 6
numbers : step_code [] [] 0 (For (at 9) 4 (Const (at 18) (num 2)) (Const (at 23) (num 5)) one_step)
    ≡ line (i.PushInt (pos 2)) (at 18) ∷ line (i.Store 4) (at 9) ∷ line (i.PushInt (pos 5)) (at 23) ∷ line (i.Store 5) (at 9)
    ∷ line (i.Load 4) (at 9) ∷ line (i.Load 5) (at 9) ∷ line (i.Op 9) (at 9) ∷ line (i.JumpFalse 18) (at 9) ∷ line i.Tick (at 9)
    ∷ line (i.Load 4) (at 9) ∷ line (i.Store 6) (at 9) ∷ line (i.PushBool true) (at 1) ∷ line i.Require (at 20)
    ∷ line (i.Load 4) (at 9) ∷ line (i.PushInt (pos 1)) (at 9) ∷ line (i.Op 0) (at 9) ∷ line (i.Store 4) (at 9) ∷ line (i.Jump 4) (at 9) ∷ []
numbers = refl

-- send "a", "b"; the text of the value comes first
abbrev sends : Steps
sends = step (Send (at 1) (97 ∷ []) (Const (at 11) (v.Str (98 ∷ [])))) no_steps

texts_are : with_texts [] (steps_uses sends) ≡ (98 ∷ []) ∷ (97 ∷ []) ∷ []
texts_are = refl

sent : steps_code [] ((98 ∷ []) ∷ (97 ∷ []) ∷ []) 0 sends ≡ line (i.PushText 0) (at 11) ∷ line (i.Send 1) (at 1) ∷ []
sent = refl

-- a call as a statement: Pop where the method has a result, and none where it has none
abbrev silent : Method
silent = record { at = at 1; name = 115 ∷ []; class = record { 0 = 0 }; params = []; result = None; locals = []; body = []; last = None }

abbrev telling : Method
telling = record silent { result = Some k.Int; last = Some (record { at = at 5; value = record { at = at 12; node = node.Const (num 1) } }) }

calls : steps_code (silent ∷ telling ∷ []) [] 0 (step (Do (at 3) (Call (at 3) 0 no_trees)) (step (Do (at 8) (Call (at 8) 1 no_trees)) no_steps))
    ≡ line i.Tick (at 3) ∷ line (i.Call 0) (at 3) ∷ line i.Tick (at 8) ∷ line (i.Call 1) (at 8) ∷ line i.Pop (at 8) ∷ []
calls = refl
