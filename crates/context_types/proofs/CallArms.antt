-- Calls: what the answer to the arguments says of the whole call.
use Rattle.std.proofs.Common.{◌≡◌, ◌==◌, ℕ, true, false, List, [], ◌∷◌, ◌++◌, length, map, Option, Some, None, is_some, option_and_then, sym, ap, ◌∙◌, Vec, Box, Global}
use Rattle.std.specs.Option.{option_map_or}
use Rattle.wave_base.specs.declared.path.Class.{Class}
use Rattle.wave_base.specs.declared.span.Span.{Span}
use Rattle.wave_base.specs.declared.value.Kind.{Kind}
use Rattle.wave_base.specs.declared.value.Kind.TheVariants as k
use Rattle.mace_ast.specs.Exprs.{ExprTree, ExprTrees}
use Rattle.resolved_service.specs.declared.expr.Expr.{Expr}
use Rattle.resolved_service.specs.declared.expr.Node.TheVariants as node
use Rattle.resolved_service.specs.View as r
use Rattle.resolved_service.specs.View.{Tree, tree_of, trees_of}
use Rattle.value_ops.specs.Operators.{gives_of}
use Rattle.type_rules.specs.declared.error.TypeError.{TypeError}
use Rattle.type_rules.specs.declared.error.TypeError.TheVariants.{UnknownName, CalleeLater, ArgCount}
use Rattle.type_rules.specs.declared.meant.Callee.{Callee}
use Rattle.type_rules.specs.declared.meant.Callee.TheVariants as callee
use Rattle.type_rules.specs.Demands.{Demand, ask, first_wrong, Fails}
use Rattle.type_rules.specs.Known.{class_named, method_named, signature_at}
use Rattle.type_rules.specs.Here.{Here, callee_named, takes, gives, is_earlier, method_in}
use Rattle.type_rules.specs.Exprs.{resolve, resolve_all, count, args_demands, call_demands, call_gives, call_tree, class_asks, child_gives, child_tree, child_demands, demands_as, or_zero}
use Rattle.type_rules.proofs.First.{told_past, fails_front, fails_behind, fails_same, holds_both}
use Rattle.context_types.specs.declared.calls.Called.{Called}
use Rattle.context_types.specs.inner.Children.{asks_of_child, gives_of_child, child_tree_of}
use Rattle.context_types.specs.inner.Places.{IsCalled}
use Rattle.context_types.proofs.TreeRows.{op_node, call_node, child_node}

-- the arguments of a call, and their number
abbrev pub args_asks : Here → Span → List Kind → ExprTrees → List Demand
args_asks h at kinds args = ask (length kinds == count args) (ArgCount at) ∷ args_demands h kinds args

module _ (h : Here) (at : Span) (name : List ℕ) (args : ExprTrees) where
  -- what is asked, by what is called
  abbrev Asked : Option Callee → List Demand
  Asked o = ask (is_some o) (UnknownName at) ∷ ask (option_map_or (is_earlier h) o false) (CalleeLater at) ∷ args_asks h at (option_map_or (takes h.known) o []) args

  -- once it is known what is called, and that it is earlier, the arguments decide
  pub call_same : (c : Callee) → callee_named h name ≡ Some c → is_earlier h c ≡ true → first_wrong (call_demands h at name args) ≡ first_wrong (args_asks h at (takes h.known c) args)
  call_same c found earlier = ap (λ o. first_wrong (Asked o)) found ∙ told_past (is_earlier h c) (CalleeLater at) (args_asks h at (takes h.known c) args) earlier

  pub builtin_called : (row : ℕ) (given : Kind) (ts : Vec Expr Global) (x : Called) → callee_named h name ≡ Some (callee.Builtin row) → resolve_all h args ≡ trees_of (map tree_of ts.items) → given ≡ gives_of row
      → x.gives ≡ Some given → x.tree ≡ record { at = at; node = node.Op row ts } → IsCalled (call_gives h name) (call_tree at (callee_named h name) (resolve_all h args)) x
  builtin_called row given ts x found trees is_given given_too made = record {
    gives = ap (option_and_then (gives h.known)) found ∙ sym (given_too ∙ ap Some is_given);
    tree = ap (λ o. call_tree at o (resolve_all h args)) found ∙ ap (r.Op at row) trees ∙ sym (ap tree_of made ∙ op_node row ts at);
  }

  pub method_called : (m : ℕ) (ts : Vec Expr Global) (x : Called) → callee_named h name ≡ Some (callee.Method m) → resolve_all h args ≡ trees_of (map tree_of ts.items)
      → x.gives ≡ (signature_at h.known m).result → x.tree ≡ record { at = at; node = node.Call m ts } → IsCalled (call_gives h name) (call_tree at (callee_named h name) (resolve_all h args)) x
  method_called m ts x found trees is_given made = record {
    gives = ap (option_and_then (gives h.known)) found ∙ sym is_given;
    tree = ap (λ o. call_tree at o (resolve_all h args)) found ∙ ap (r.Call at m) trees ∙ sym (ap tree_of made ∙ call_node m ts at);
  }

-- a method of a child, once it is known whether there is one
module _ (h : Here) (at : Span) (method : Option ℕ) (args : ExprTrees) where
  pub child_same : (m : ℕ) → method ≡ Some m → first_wrong (asks_of_child h at method args) ≡ first_wrong (args_asks h at (signature_at h.known m).params args)
  child_same m found = ap (λ o. first_wrong (asks_of_child h at o args)) found

  pub child_called : (class m : ℕ) (c : Class) (kt : Box Expr Global) (key : Expr) (ts : Vec Expr Global) (x : Called) → method ≡ Some m → c.0 ≡ class → kt.value ≡ key
      → resolve_all h args ≡ trees_of (map tree_of ts.items) → x.gives ≡ (signature_at h.known m).result → x.tree ≡ record { at = at; node = node.Child c m kt ts }
      → IsCalled (gives_of_child h method) (child_tree_of h at class method (tree_of key) args) x
  child_called class m c kt key ts x found number boxed trees is_given made = record {
    gives = ap (gives_of_child h) found ∙ sym is_given;
    tree = (λ i. r.Child at (sym number i) (or_zero (found i)) (tree_of (sym boxed i)) (trees i)) ∙ sym (ap tree_of made ∙ child_node c m kt ts at);
  }

-- the class, then the key, and then the method
module _ (h : Here) (at : Span) (class : List ℕ) (key : ExprTree) (name : List ℕ) (args : ExprTrees) where
  module _ (n : ℕ) (class_is : class_named h.known class ≡ Some n) where
    method_is : method_in h class name ≡ method_named h.known n name
    method_is = ap (option_and_then (λ c. method_named h.known c name)) class_is

    pub child_holds : first_wrong (class_asks h at class) ≡ None → first_wrong (demands_as h k.Int key) ≡ None → first_wrong (asks_of_child h at (method_named h.known n name) args) ≡ None
        → first_wrong (child_demands h at class key name args) ≡ None
    child_holds a b c =
        holds_both (class_asks h at class) (demands_as h k.Int key ++ asks_of_child h at (method_in h class name) args) a
        (holds_both (demands_as h k.Int key) (asks_of_child h at (method_in h class name) args) b (ap (λ m. first_wrong (asks_of_child h at m args)) method_is ∙ c))

    pub child_fails : (e : TypeError) → first_wrong (class_asks h at class) ≡ None → first_wrong (demands_as h k.Int key) ≡ None → Fails (asks_of_child h at (method_named h.known n name) args) e
        → Fails (child_demands h at class key name args) e
    child_fails e a b c =
        fails_behind (class_asks h at class) (demands_as h k.Int key ++ asks_of_child h at (method_in h class name) args) e a
        (fails_behind (demands_as h k.Int key) (asks_of_child h at (method_in h class name) args) e b
        (fails_same (asks_of_child h at (method_in h class name) args) (asks_of_child h at (method_named h.known n name) args) e (ap (λ m. first_wrong (asks_of_child h at m args)) method_is) c))

    pub child_is : (t : Tree) (x : Called) → resolve h key ≡ t → IsCalled (gives_of_child h (method_named h.known n name)) (child_tree_of h at n (method_named h.known n name) t args) x
        → IsCalled (child_gives h class name) (child_tree h at class name (resolve h key) (resolve_all h args)) x
    child_is t x key_is c = record {
      gives = ap (gives_of_child h) method_is ∙ c.gives;
      tree = (λ i. r.Child at (or_zero (class_is i)) (or_zero (method_is i)) (key_is i) (resolve_all h args)) ∙ c.tree;
    }

  pub key_fails : (e : TypeError) → first_wrong (class_asks h at class) ≡ None → Fails (demands_as h k.Int key) e → Fails (child_demands h at class key name args) e
  key_fails e a b =
      fails_behind (class_asks h at class) (demands_as h k.Int key ++ asks_of_child h at (method_in h class name) args) e a
      (fails_front (demands_as h k.Int key) (asks_of_child h at (method_in h class name) args) e b)
