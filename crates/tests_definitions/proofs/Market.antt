-- A market with halls and stalls, resolved by hand. Its lists and boxes stand anywhere: of `room` only the place is taken.
use Rattle.std.proofs.Common.{ℕ, false, List, [], ◌∷◌, Option, Some, None, pos, refl, arith, Vec, Box, Global}
use Rattle.std.specs.Prelude.{codes}
use Rattle.wave_base.specs.declared.path.Class.{Class}
use Rattle.wave_base.specs.declared.path.Path.{Path}
use Rattle.wave_base.specs.declared.path.Step.{Step}
use Rattle.wave_base.specs.declared.span.Span.{Span}
use Rattle.wave_base.specs.declared.value.Kind.{Kind}
use Rattle.wave_base.specs.declared.value.Kind.TheVariants as k
use Rattle.wave_base.specs.declared.value.Value.{Value}
use Rattle.wave_base.specs.declared.value.Value.TheVariants as v
use Rattle.wave_base.specs.Tree as t
use Rattle.resolved_service.specs.declared.expr.Expr.{Expr}
use Rattle.resolved_service.specs.declared.expr.Node.{Node, end_of-Expr, more_of-Expr}
use Rattle.resolved_service.specs.declared.expr.Node.TheVariants as node
use Rattle.resolved_service.specs.declared.service.Event.{Event}
use Rattle.resolved_service.specs.declared.service.Last.{Last}
use Rattle.resolved_service.specs.declared.service.Method.{Method}
use Rattle.resolved_service.specs.declared.service.Phase.{Phase}
use Rattle.resolved_service.specs.declared.service.Resolved.{Resolved}
use Rattle.resolved_service.specs.declared.stmt.Action.{Action}
use Rattle.resolved_service.specs.declared.stmt.Action.TheVariants as action
use Rattle.resolved_service.specs.declared.stmt.Stmt.{Stmt}

abbrev pub at : ℕ → Span
at c = record { line = 1; col = c }

abbrev pub num : ℕ → Value
num n = v.Int (pos n)

abbrev pub class : ℕ → Class
class c = record { 0 = c }

abbrev pub step : ℕ → ℕ → Step
step c n = record { class = class c; key = pos n }

abbrev pub hall : ℕ → Path
hall n = step 1 n ∷ []

abbrev pub stall : ℕ → ℕ → Path
stall n m = step 1 n ∷ step 2 m ∷ []

-- the root has seen nothing, a hall begins with 20, and a stall with 50
abbrev pub initial : Path → List Value
initial [] = num 0 ∷ []
initial (s ∷ []) = num 20 ∷ []
initial (s ∷ r ∷ p) = num 50 ∷ []

abbrev pub first_tree : t.Tree (List Value)
first_tree = t.bare initial

abbrev pub expr : ℕ → Node → Expr
expr c n = record { at = at c; node = n }

abbrev pub stmt : ℕ → Action → Stmt
stmt c a = record { at = at c; action = a }

abbrev pub literal : ℕ → ℕ → Expr
literal c n = expr c (node.Const (num n))

abbrev pub last : ℕ → Expr → Option Last
last c e = Some (record { at = at c; value = e })

module _ (room : Vec (Unit {0}) Global) where
  abbrev pub none : Vec (Unit {0}) Global
  none = record { items = []; ptr = room.ptr; len = 0; cap = 0; alloc = room.alloc; ok = (refl, omega arith); small = omega arith }

  abbrev pub one : Vec (Unit {0}) Global
  one = record { items = tt ∷ []; ptr = room.ptr; len = 1; cap = 1; alloc = room.alloc; ok = (refl, omega arith); small = omega arith }

  abbrev pub two : Vec (Unit {0}) Global
  two = record { items = tt ∷ tt ∷ []; ptr = room.ptr; len = 2; cap = 2; alloc = room.alloc; ok = (refl, omega arith); small = omega arith }

  abbrev pub boxed : Box (Unit {0}) Global
  boxed = record { value = tt; ptr = room.ptr; alloc = room.alloc }

  abbrev pub one_arg : Expr → Vec Expr Global
  one_arg e = record { items = e ∷ []; ptr = room.ptr; len = 1; cap = 1; alloc = room.alloc; ok = (refl, omega arith); small = omega arith }

  -- an operator of two operands, a call of the context's own, and one of a child's with one argument
  abbrev pub op : ℕ → ℕ → Expr → Expr → Expr
  op c row a b = expr c (node.Op' row two (more_of-Expr a.at a.node (more_of-Expr b.at b.node end_of-Expr)))

  abbrev pub own : ℕ → ℕ → Expr → Expr
  own c method a = expr c (node.Call' method one (more_of-Expr a.at a.node end_of-Expr))

  abbrev pub below : ℕ → ℕ → ℕ → Expr → Expr → Expr
  below c of_class method key a = expr c (node.Child' (class of_class) method boxed key.at key.node one (more_of-Expr a.at a.node end_of-Expr))

  abbrev pub method : ℕ → List Kind → List Kind → List Stmt → Option Last → Method
  method c params locals body last = record { at = at 1; name = codes "m"; class = class c; params = params; result = Some k.Int; locals = locals; body = body; last = last }

  -- 0, of a stall: take(n) { left = left - n; return left; }
  abbrev pub take : Method
  take = method 2 (k.Int ∷ []) (k.Int ∷ []) (stmt 3 (action.SetField 0 (op 4 1 (expr 4 (node.Field 0)) (expr 5 (node.Local 0)))) ∷ []) (last 6 (expr 7 (node.Field 0)))

  -- 1, of a stall: more(n) { return take(n) + 1; }
  abbrev pub more : Method
  more = method 2 (k.Int ∷ []) (k.Int ∷ []) [] (last 10 (op 11 0 (own 11 0 (expr 12 (node.Local 0))) (literal 13 1)))

  -- 2, of a hall: both(a) { let t = Stall[a].take(1); return t + Stall[8].take(3); }
  abbrev pub both : Method
  both = method 1 (k.Int ∷ []) (k.Int ∷ k.Int ∷ []) (stmt 20 (action.SetLocal 1 (below 21 2 0 (expr 22 (node.Local 0)) (literal 23 1))) ∷ [])
      (last 24 (op 25 0 (expr 25 (node.Local 1)) (below 26 2 0 (literal 27 8) (literal 28 3))))

  -- 3, of a stall: early(n) { left = n; return 3; left = 9; return 4; }
  abbrev pub early : Method
  early = method 2 (k.Int ∷ []) (k.Int ∷ []) (stmt 30 (action.SetField 0 (expr 31 (node.Local 0))) ∷ stmt 32 (action.Return (Some (literal 33 3))) ∷ stmt 34 (action.SetField 0 (literal 35 9)) ∷ []) (last 36 (literal 37 4))

  -- 4, of a stall: stop(n) { finish n; return 4; }
  abbrev pub stop : Method
  stop = method 2 (k.Int ∷ []) (k.Int ∷ []) (stmt 40 (action.Finish (Some (expr 41 (node.Local 0)))) ∷ []) (last 42 (literal 43 4))

  -- 5, of a stall: fresh(n) { local = local + 1; return local; }, whose local beside its parameter begins with 0
  abbrev pub fresh : Method
  fresh = method 2 (k.Int ∷ []) (k.Int ∷ k.Int ∷ []) (stmt 50 (action.SetLocal 1 (op 51 0 (expr 51 (node.Local 1)) (literal 52 1))) ∷ []) (last 53 (expr 54 (node.Local 1)))

  abbrev pub methods : List Method
  methods = take ∷ more ∷ both ∷ early ∷ stop ∷ fresh ∷ []

  abbrev pub phase : ℕ → ℕ → Expr → List Stmt → Phase
  phase c of_class key body = record { at = at c; class = class of_class; key = key; body = body }

  abbrev pub event : List Stmt → List Phase → Option Last → Event
  event here phases last = record { at = at 1; locals = k.Int ∷ k.Int ∷ k.Int ∷ []; here = here; phases = phases; last = last }

  -- 0: buy(h, n) { here { seen = seen + 1; left = Hall[9].both(7); } down Hall[h] { count = count + n; left = Stall[8].take(1); }
  -- down Stall[count] { left = take(n); send "a", Hall.count; } reply left + stall's left; }
  abbrev pub buy : Event
  buy = event
      (stmt 3 (action.SetField 0 (op 4 0 (expr 4 (node.Field 0)) (literal 5 1))) ∷ stmt 6 (action.SetLocal 2 (below 7 1 2 (literal 8 9) (literal 9 7))) ∷ [])
      (phase 10 1 (expr 11 (node.Local 0)) (stmt 12 (action.SetField 0 (op 13 0 (expr 13 (node.Field 0)) (expr 14 (node.Local 1)))) ∷ stmt 15 (action.SetLocal 2 (below 16 2 0 (literal 17 8) (literal 18 1))) ∷ [])
      ∷ phase 20 2 (expr 21 (node.Field 0)) (stmt 22 (action.SetLocal 2 (own 23 0 (expr 24 (node.Local 1)))) ∷ stmt 25 (action.Send (97 ∷ []) (expr 26 (node.Above 1 0))) ∷ [])
      ∷ [])
      (last 30 (op 31 0 (expr 31 (node.Local 2)) (expr 32 (node.Field 0))))

  -- 1: fall(n) { here { seen = n; send "a", n; spawn 3(n); } down Hall[n] { count = n; require false; } }
  abbrev pub fall : Event
  fall = event
      (stmt 40 (action.SetField 0 (expr 41 (node.Local 0))) ∷ stmt 42 (action.Send (97 ∷ []) (expr 43 (node.Local 0))) ∷ stmt 44 (action.Spawn 3 (one_arg (expr 45 (node.Local 0)))) ∷ [])
      (phase 50 1 (expr 51 (node.Local 0)) (stmt 52 (action.SetField 0 (expr 53 (node.Local 0))) ∷ stmt 54 (action.Require (expr 55 (node.Const (v.Bool false)))) ∷ []) ∷ [])
      None

  -- 2: leave(n) { here { send "a", n; spawn 3(n); finish 7; seen = n; } down Hall[n] { } reply 8; }
  abbrev pub leave : Event
  leave = event
      (stmt 60 (action.Send (97 ∷ []) (expr 61 (node.Local 0))) ∷ stmt 62 (action.Spawn 3 (one_arg (expr 63 (node.Local 0)))) ∷ stmt 64 (action.Finish (Some (literal 65 7))) ∷ stmt 66 (action.SetField 0 (expr 67 (node.Local 0))) ∷ [])
      (phase 70 1 (expr 71 (node.Local 0)) [] ∷ [])
      (last 72 (literal 73 8))

  -- 3: add(n) { here { seen = seen + n; } }
  abbrev pub add : Event
  add = event (stmt 80 (action.SetField 0 (op 81 0 (expr 81 (node.Field 0)) (expr 82 (node.Local 0)))) ∷ []) [] None

  abbrev pub service : Resolved
  service = record { methods = methods; events = buy ∷ fall ∷ leave ∷ add ∷ [] }
