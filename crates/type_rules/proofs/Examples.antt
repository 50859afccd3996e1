-- A small service, computed.
use Rattle.std.proofs.Common.{◌≡◌, ℕ, ◌+◌, pos, true, List, [], ◌∷◌, Option, Some, None, refl}
use Rattle.wave_base.specs.declared.span.Span.{Span}
use Rattle.wave_base.specs.declared.value.Kind.{Kind}
use Rattle.wave_base.specs.declared.value.Kind.TheVariants as k
use Rattle.wave_base.specs.declared.version.Version.TheVariants as version
use Rattle.value_ops.specs.Operators.{operators, takes_of, gives_of}
use Rattle.value_ops.specs.Rows.{wave_rows, wave_rows_2}
use Rattle.mace_ast.specs.declared.name.Name.{Name}
use Rattle.mace_ast.specs.declared.field.VarDecl.{VarDecl}
use Rattle.mace_ast.specs.declared.field.Literal.TheVariants as lit
use Rattle.mace_ast.specs.declared.expr.BinaryOp.TheVariants as op
use Rattle.mace_ast.specs.declared.stmt.Target.{Target}
use Rattle.mace_ast.specs.Exprs as e
use Rattle.mace_ast.specs.Exprs.{ExprTree, no_exprs, expr_and}
use Rattle.mace_ast.specs.Stmts as s
use Rattle.mace_ast.specs.Stmts.{StmtTree}
use Rattle.mace_ast.specs.Decls.{LastTree, Context, no_contexts, ServiceTree}
use Rattle.resolved_service.specs.Steps as step
use Rattle.resolved_service.specs.View as r
use Rattle.type_rules.specs.declared.error.TypeError.TheVariants as wrong
use Rattle.type_rules.specs.Demands.{first_wrong}
use Rattle.type_rules.specs.Known.{shape_of, known_of}
use Rattle.type_rules.specs.Functions.{MethodView}
use Rattle.type_rules.specs.Services.{service_demands, resolve_service}

abbrev at : ℕ → Span
at c = record { line = 1; col = c }

abbrev name : ℕ → List ℕ → Name
name c bytes = record { at = at c; text = bytes }

-- "S", "A", "f", "g", "m", "e", "p", "z"
abbrev S : List ℕ
S = 83 ∷ []

abbrev A : List ℕ
A = 65 ∷ []

abbrev f : List ℕ
f = 102 ∷ []

abbrev g : List ℕ
g = 103 ∷ []

abbrev m : List ℕ
m = 109 ∷ []

abbrev ev : List ℕ
ev = 101 ∷ []

abbrev p : List ℕ
p = 112 ∷ []

abbrev z : List ℕ
z = 122 ∷ []

abbrev int_field : ℕ → List ℕ → VarDecl
int_field c bytes = record { at = at c; name = name c bytes; kind = k.Int; initial = record { at = at c; value = lit.Number (pos 0) } }

abbrev own : List ℕ → Target
own bytes = record { above = None; name = bytes }

-- service S { var f: int = 0; context A[int] { var g: int = 0; method m(p: int): int { BODY return p + S.f; } }
-- event e(p: int): int { here { f = p; } down A[p] { g = m(f) } reply g; } }
abbrev service : List StmtTree → ExprTree → ServiceTree
service body given = record {
  at = at 1;
  name = name 2 S;
  version = version.First;
  vars = int_field 3 f ∷ [];
  contexts = Context (at 4) (name 5 A) (int_field 6 g ∷ []) no_contexts (record {
    at = at 7;
    name = name 8 m;
    params = record { name = name 9 p; kind = k.Int } ∷ [];
    result = Some k.Int;
    body = body;
    last = Some (record { at = at 10; value = e.Binary (at 11) op.Add (e.Read (at 11) p) (e.Above (at 12) S f) });
  } ∷ []) ∷ [];
  methods = [];
  events = record {
    at = at 13;
    name = name 14 ev;
    params = record { name = name 15 p; kind = k.Int } ∷ [];
    result = Some k.Int;
    here = Some (s.Set (at 16) (own f) None (e.Read (at 17) p) ∷ []);
    phases = record { at = at 18; class = A; key = e.Read (at 19) p; body = s.Set (at 20) (own g) None (e.Call (at 21) m (expr_and given no_exprs)) ∷ [] } ∷ [];
    last = Some (record { at = at 22; value = e.Read (at 23) g });
  } ∷ [];
}

abbrev fine : ServiceTree
fine = service [] (e.Read (at 24) p)

typed : unfold service_demands known_of shape_of wave_rows operators takes_of gives_of in (first_wrong (service_demands fine) ≡ None)
unfolding service_demands known_of shape_of wave_rows operators takes_of gives_of
typed = refl

resolved : unfold resolve_service known_of shape_of wave_rows operators takes_of gives_of in (resolve_service fine ≡ record {
  methods = record {
    at = at 7;
    name = m;
    class = 1;
    params = k.Int ∷ [];
    result = Some k.Int;
    locals = k.Int ∷ [];
    body = step.no_steps;
    last = Some (record { at = at 10; value = r.Op (at 11) 0 (r.tree (r.Local (at 11) 0) (r.tree (r.Above (at 12) 0 0) r.no_trees)) });
  } ∷ [];
  events = record {
    at = at 13;
    locals = k.Int ∷ [];
    here = step.step (step.SetField (at 16) 0 (r.Local (at 17) 0)) step.no_steps;
    phases = record { at = at 18; class = 1; key = r.Local (at 19) 0; body = step.step (step.SetField (at 20) 0 (r.Call (at 21) 0 (r.tree (r.Local (at 24) 0) r.no_trees))) step.no_steps } ∷ [];
    last = Some (record { at = at 22; value = r.Field (at 23) 0 });
  } ∷ [];
})
unfolding resolve_service known_of shape_of wave_rows operators takes_of gives_of
resolved = refl

-- a field of the root isn't known to the class below it, where it isn't written `S.f`
unknown : unfold service_demands known_of shape_of wave_rows operators takes_of gives_of in (first_wrong (service_demands (service [] (e.Read (at 24) f))) ≡ Some (wrong.UnknownName (at 24)))
unfolding service_demands known_of shape_of wave_rows operators takes_of gives_of
unknown = refl

-- a text is no int
mismatch : unfold service_demands known_of shape_of wave_rows operators takes_of gives_of in (first_wrong (service_demands (service [] (e.Text (at 24) []))) ≡ Some (wrong.Mismatch (at 24)))
unfolding service_demands known_of shape_of wave_rows operators takes_of gives_of
mismatch = refl

-- of two faults the earlier one
earlier : unfold service_demands known_of shape_of wave_rows operators takes_of gives_of in (first_wrong (service_demands (service (s.Let (at 30) (name 31 p) (e.Empty (at 32)) ∷ []) (e.Text (at 24) []))) ≡ Some (wrong.Duplicate (at 31)))
unfolding service_demands known_of shape_of wave_rows operators takes_of gives_of
earlier = refl

-- a local ends with its block, and its slot stays given
abbrev blocks : List StmtTree
blocks =
    s.If (at 30) (e.Boolean (at 31) true) (s.stmts_of (s.Let (at 32) (name 33 z) (e.Number (at 34) (pos 1)) ∷ [])) s.no_else
    ∷ s.Let (at 35) (name 36 z) (e.Text (at 37) [])
    ∷ []

abbrev locals_of : List MethodView → List (List Kind)
locals_of [] = []
locals_of (x ∷ xs) = x.locals ∷ locals_of xs

scoped : unfold service_demands known_of shape_of wave_rows operators takes_of gives_of in (first_wrong (service_demands (service blocks (e.Read (at 24) p))) ≡ None)
unfolding service_demands known_of shape_of wave_rows operators takes_of gives_of
scoped = refl

slots : unfold resolve_service known_of shape_of wave_rows operators takes_of gives_of in (locals_of (resolve_service (service blocks (e.Read (at 24) p))).methods ≡ (k.Int ∷ k.Int ∷ k.Text ∷ []) ∷ [])
unfolding resolve_service known_of shape_of wave_rows operators takes_of gives_of
slots = refl

-- ---- version 2: service S 2 { method m(): RESULT { BODY } event e(): REPLY { here { HERE } reply VALUE; } }
abbrev second : Option Kind → List StmtTree → Option Kind → List StmtTree → Option LastTree → ServiceTree
second gives body replies here last = record {
  at = at 1;
  name = name 2 S;
  version = version.Second;
  vars = [];
  contexts = [];
  methods = record { at = at 7; name = name 8 m; params = []; result = gives; body = body; last = None } ∷ [];
  events = record { at = at 13; name = name 14 ev; params = []; result = replies; here = Some here; phases = []; last = last } ∷ [];
}

abbrev number : ℕ → ExprTree
number c = e.Number (at c) (pos 1)

abbrev returns : ℕ → StmtTree
returns c = s.Return (at c) (Some (number (c + 1)))

abbrev finishes : ℕ → StmtTree
finishes c = s.Finish (at c) (Some (number (c + 1)))

-- a method that returns, and an event that finishes, need no end
ends : unfold service_demands known_of shape_of wave_rows wave_rows_2 operators takes_of gives_of in (first_wrong (service_demands (second (Some k.Int) (returns 20 ∷ []) (Some k.Int) (finishes 30 ∷ []) None)) ≡ None)
unfolding service_demands known_of shape_of wave_rows wave_rows_2 operators takes_of gives_of
ends = refl

-- nothing stands behind a `return`, whatever else is wrong with it
behind_return : unfold service_demands known_of shape_of wave_rows wave_rows_2 operators takes_of gives_of in (first_wrong (service_demands (second (Some k.Int) (returns 20 ∷ s.Return (at 22) (Some (e.Read (at 23) z)) ∷ []) None [] None)) ≡ Some (wrong.Unreachable (at 22)))
unfolding service_demands known_of shape_of wave_rows wave_rows_2 operators takes_of gives_of
behind_return = refl

-- an `if` surely ends where both its blocks do
abbrev both_return : StmtTree
both_return = s.If (at 20) (e.Boolean (at 21) true) (s.stmts_of (returns 22 ∷ [])) (s.otherwise (s.stmts_of (returns 24 ∷ [])))

abbrev one_returns : StmtTree
one_returns = s.If (at 20) (e.Boolean (at 21) true) (s.stmts_of (returns 22 ∷ [])) s.no_else

both_ends : unfold service_demands known_of shape_of wave_rows wave_rows_2 operators takes_of gives_of in (first_wrong (service_demands (second (Some k.Int) (both_return ∷ []) None [] None)) ≡ None)
unfolding service_demands known_of shape_of wave_rows wave_rows_2 operators takes_of gives_of
both_ends = refl

one_ends : unfold service_demands known_of shape_of wave_rows wave_rows_2 operators takes_of gives_of in (first_wrong (service_demands (second (Some k.Int) (one_returns ∷ []) None [] None)) ≡ Some (wrong.MissingReply (at 8)))
unfolding service_demands known_of shape_of wave_rows wave_rows_2 operators takes_of gives_of
one_ends = refl

-- a `reply` behind a phase that surely ends
behind_finish : unfold service_demands known_of shape_of wave_rows wave_rows_2 operators takes_of gives_of in (first_wrong (service_demands (second None [] (Some k.Int) (finishes 30 ∷ []) (Some (record { at = at 40; value = number 41 })))) ≡ Some (wrong.Unreachable (at 40)))
unfolding service_demands known_of shape_of wave_rows wave_rows_2 operators takes_of gives_of
behind_finish = refl

-- `return` belongs to methods, and `finish` to events
return_in_event : unfold service_demands known_of shape_of wave_rows wave_rows_2 operators takes_of gives_of in (first_wrong (service_demands (second None [] (Some k.Int) (returns 30 ∷ []) None)) ≡ Some (wrong.Mismatch (at 30)))
unfolding service_demands known_of shape_of wave_rows wave_rows_2 operators takes_of gives_of
return_in_event = refl

finish_in_method : unfold service_demands known_of shape_of wave_rows wave_rows_2 operators takes_of gives_of in (first_wrong (service_demands (second (Some k.Int) (finishes 20 ∷ []) None [] None)) ≡ Some (wrong.Mismatch (at 20)))
unfolding service_demands known_of shape_of wave_rows wave_rows_2 operators takes_of gives_of
finish_in_method = refl

-- a value where the method gives none, none where it gives one, and one of another kind
value_unasked : unfold service_demands known_of shape_of wave_rows wave_rows_2 operators takes_of gives_of in (first_wrong (service_demands (second None (returns 20 ∷ []) None [] None)) ≡ Some (wrong.Mismatch (at 20)))
unfolding service_demands known_of shape_of wave_rows wave_rows_2 operators takes_of gives_of
value_unasked = refl

value_wanting : unfold service_demands known_of shape_of wave_rows wave_rows_2 operators takes_of gives_of in (first_wrong (service_demands (second (Some k.Int) (s.Return (at 20) None ∷ []) None [] None)) ≡ Some (wrong.Mismatch (at 20)))
unfolding service_demands known_of shape_of wave_rows wave_rows_2 operators takes_of gives_of
value_wanting = refl

value_of_another : unfold service_demands known_of shape_of wave_rows wave_rows_2 operators takes_of gives_of in (first_wrong (service_demands (second (Some k.Text) (returns 20 ∷ []) None [] None)) ≡ Some (wrong.Mismatch (at 21)))
unfolding service_demands known_of shape_of wave_rows wave_rows_2 operators takes_of gives_of
value_of_another = refl
