-- Computed examples: which traps can come of expressions, of each kind of statement, and of a whole event and a method; and a service
-- in which none stands nowhere.
use Rattle.std.proofs.Common.{◌≡◌, ◌≢◌, inl, inr, ℕ, zero, suc, ◌+◌, pos, List, [], ◌∷◌, ◌++◌, Some, None, refl, sym, ap, subst, arith}
use Rattle.std.specs.List.{AllByRecursion, Contains}
use Rattle.std.proofs.lemmas.List.Elements.{All-contains, All-from_recursion}
use Rattle.std.specs.Prelude.{codes}
use Rattle.wave_base.specs.declared.span.Span.{Span}
use Rattle.wave_base.specs.declared.trap.Trap.{Trap}
use Rattle.wave_base.specs.declared.trap.TrapKind.{TrapKind}
use Rattle.wave_base.specs.declared.trap.TrapKind.TheVariants as k
use Rattle.wave_base.specs.declared.value.Value.TheVariants.{Int}
use Rattle.resolved_service.specs.declared.expr.Expr.{Expr}
use Rattle.resolved_service.specs.declared.expr.Node.TheVariants as node
use Rattle.resolved_service.specs.declared.service.Event.{Event}
use Rattle.resolved_service.specs.declared.service.Resolved.{Resolved}
use Rattle.resolved_service.specs.declared.stmt.Action.TheVariants as action
use Rattle.resolved_service.specs.declared.stmt.Stmt.{Stmt}
use Rattle.resolved_service.specs.Meaning.{nowhere}
use Rattle.resolved_service.specs.Steps.{SetLocal, SetField, PutLocal, PutField, CutLocal, CutField, If, While, For, Require, Send, Spawn, Do, Return, Finish, Steps, no_steps, step, no_else, otherwise}
use Rattle.resolved_service.specs.View.{Tree, Const, Local, Field, Above, Op, And, Or, Call, Child, Trees, no_trees, tree}
use Rattle.trap_laws.specs.Traps.{ComesOf, event_traps, method_traps, of_operators, traps_at, step_traps, tree_traps}

none_not : {X : Type 0} {x : X} → None ≡ Some x → ⊥
none_not e = cc

some_same : {X : Type 0} (a b : X) → Some a ≡ Some b → a ≡ b
some_same a b e = cc

abbrev at : ℕ → Span
at c = record { line = 1; col = c }

abbrev one : ℕ → Tree
one c = Const (at c) (Int (pos 1))

-- -1, whose operator alone can trap
abbrev minus : ℕ → Tree
minus c = Op (at c) 5 (tree (Const (at (c + 1)) (Int (pos 1))) no_trees)

abbrev args : Tree → Trees
args t = tree t no_trees

abbrev here : ℕ → List TrapKind → List Trap
here c kinds = traps_at (at c) kinds

abbrev op : ℕ → List Trap
op c = here c of_operators

-- ---- expressions

small : tree_traps (one 1) ++ tree_traps (Local (at 2) 0) ++ tree_traps (Field (at 3) 0) ++ tree_traps (Above (at 4) 0 0) ≡ []
small = refl

operator : op 7 ≡ record { kind = k.Overflow; at = at 7 } ∷ record { kind = k.DivZero; at = at 7 } ∷ record { kind = k.Absent; at = at 7 } ∷ record { kind = k.Full; at = at 7 } ∷ record { kind = k.TooLong; at = at 7 } ∷ []
operator = refl

-- in the order of the text, but for an own place before what stands in it
operands : tree_traps (Op (at 1) 0 (tree (minus 2) (tree (Or (at 4) (minus 5) (And (at 7) (minus 8) (minus 10))) no_trees))) ≡ op 1 ++ op 2 ++ op 5 ++ op 8 ++ op 10
operands = refl

own_call : tree_traps (Call (at 1) 0 (args (minus 2))) ≡ here 1 (k.Ticks ∷ []) ++ op 2
own_call = refl

child_call : tree_traps (Child (at 1) 1 0 (minus 2) (args (minus 4))) ≡ here 1 (k.Ticks ∷ k.Reach ∷ []) ++ op 2 ++ op 4
child_call = refl

-- ---- statements

abbrev inner : ℕ → Steps
inner c = step (Do (at c) (Call (at c) 0 no_trees)) no_steps

sets : step_traps (SetLocal (at 1) 0 (minus 2)) ++ step_traps (SetField (at 4) 0 (minus 5)) ++ step_traps (Do (at 7) (minus 8)) ≡ op 2 ++ op 5 ++ op 8
sets = refl

maps : step_traps (PutLocal (at 1) 0 (minus 2) (minus 4)) ++ step_traps (PutField (at 6) 0 (minus 7) (minus 9)) ++ step_traps (CutLocal (at 11) 0 (minus 12)) ++ step_traps (CutField (at 14) 0 (minus 15))
    ≡ op 1 ++ op 2 ++ op 4 ++ op 6 ++ op 7 ++ op 9 ++ op 11 ++ op 12 ++ op 14 ++ op 15
maps = refl

chosen : step_traps (If (at 1) (minus 2) (inner 4) (otherwise (inner 5))) ++ step_traps (If (at 6) (one 7) (inner 8) no_else) ≡ op 2 ++ here 4 (k.Ticks ∷ []) ++ here 5 (k.Ticks ∷ []) ++ here 8 (k.Ticks ∷ [])
chosen = refl

loops : step_traps (While (at 1) (minus 2) (inner 4)) ++ step_traps (For (at 5) 0 (minus 6) (minus 8) (inner 10))
    ≡ here 1 (k.Ticks ∷ []) ++ op 2 ++ here 4 (k.Ticks ∷ []) ++ here 5 (k.Ticks ∷ of_operators) ++ op 6 ++ op 8 ++ here 10 (k.Ticks ∷ [])
loops = refl

effects : step_traps (Require (at 1) (minus 2)) ++ step_traps (Send (at 4) (codes "a") (minus 5)) ++ step_traps (Spawn (at 7) 0 (args (minus 8)))
    ≡ here 1 (k.Require ∷ []) ++ op 2 ++ here 4 (k.Sends ∷ []) ++ op 5 ++ here 7 (k.Generation ∷ k.Spawns ∷ []) ++ op 8
effects = refl

ends : step_traps (Return (at 1) (Some (minus 2))) ++ step_traps (Finish (at 4) (Some (minus 5))) ++ step_traps (Return (at 7) None) ++ step_traps (Finish (at 8) None) ≡ op 2 ++ op 5
ends = refl

-- ---- a whole event and a method: `require` at each of their parts, and a way down at 4

abbrev literal : ℕ → Expr
literal c = record { at = at c; node = node.Const (Int (pos 1)) }

abbrev asks : ℕ → List Stmt
asks c = record { at = at c; action = action.Require (literal (c + 1)) } ∷ []

abbrev visit : Event
visit = record { at = at 1; locals = []; here = asks 2; phases = record { at = at 4; class = record { 0 = 1 }; key = literal 5; body = asks 6 } ∷ []; last = Some (record { at = at 8; value = literal 9 }) }

event : event_traps visit ≡ here 2 (k.Require ∷ []) ++ here 4 (k.Reach ∷ []) ++ here 6 (k.Require ∷ [])
event = refl

method : method_traps (record { at = at 1; name = codes "m"; class = record { 0 = 0 }; params = []; result = None; locals = []; body = asks 2 ++ asks 4; last = None }) ≡ here 2 (k.Require ∷ []) ++ here 4 (k.Require ∷ [])
method = refl

-- a service with that event alone: all that can trap there stands on line 1, so none of its traps stands nowhere
abbrev visits : Resolved
visits = record { methods = []; events = visit ∷ [] }

on_line_1 : AllByRecursion (λ (t : Trap). t.at.line ≡ 1) (event_traps visit)
on_line_1 = (refl, (refl, (refl, tt)))

written : (number : ℕ) (trap : Trap) → ComesOf visits number trap → trap.at ≢ nowhere
written number trap (inr m) at = absurd (none_not m.2)
written zero trap (inl e) at =
    let contained : Contains (event_traps visit) trap = subst (λ v. Contains (event_traps v) trap) (sym (some_same visit e.0 e.1)) e.2 in
    let line : trap.at.line ≡ 1 = All-contains (λ (t : Trap). t.at.line ≡ 1) (event_traps visit) trap (All-from_recursion (λ (t : Trap). t.at.line ≡ 1) (event_traps visit) on_line_1) contained in
    let first : trap.at.line ≡ 0 = ap (λ (x : Span). x.line) at in omega (arith, line, first)
written (suc number) trap (inl e) at = absurd (none_not e.1)
