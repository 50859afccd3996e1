-- Expressions at a place of the text: their kinds, what is asked of them, and what they are with each name resolved.
use Rattle.std.specs.Prelude.{ℕ, suc, ◌==◌, ◌&&◌, false, if◌then◌else◌, List, [], ◌∷◌, ◌++◌, length, Option, Some, None, is_some, option_map, option_and_then, unwrap_or}
use Rattle.std.specs.Option.{option_map_or}
use Rattle.wave_base.specs.declared.span.Span.{Span}
use Rattle.wave_base.specs.declared.value.Kind.{Kind}
use Rattle.wave_base.specs.declared.value.Kind.TheVariants as k
use Rattle.wave_base.specs.declared.value.Value.TheVariants as v
use Rattle.mace_ast.specs.declared.expr.BinaryOp.{BinaryOp}
use Rattle.mace_ast.specs.declared.expr.BinaryOp.TheVariants as op
use Rattle.mace_ast.specs.Exprs.{ExprTree, ExprTrees, Number, Text, Boolean, Empty, Read, Above, Index, AboveIndex, Call, ChildCall, Unary, Binary, no_exprs, expr_and, place_of}
use Rattle.value_ops.specs.Operators.{gives_of}
use Rattle.resolved_service.specs.View as r
use Rattle.resolved_service.specs.View.{Tree, Trees, no_trees, tree}
use Rattle.type_rules.specs.declared.error.TypeError.TheVariants.{UnknownName, Mismatch, ArgCount, NotDownward, CalleeLater}
use Rattle.type_rules.specs.declared.meant.Variable.{Variable}
use Rattle.type_rules.specs.declared.meant.Variable.TheVariants as var
use Rattle.type_rules.specs.declared.meant.Callee.{Callee}
use Rattle.type_rules.specs.declared.meant.Callee.TheVariants as callee
use Rattle.type_rules.specs.Demands.{Demand, ask}
use Rattle.type_rules.specs.Kinds.{has_kind, row_of_one, row_of_two, rows_of_sign, rows_before, rows_of_index}
use Rattle.type_rules.specs.Known.{class_named, signature_at}
use Rattle.type_rules.specs.Here.{Here, variable, variable_kind, callee_named, takes, gives, is_earlier, is_child, level_above, field_in, kind_in, method_in}

-- ---- kinds: what a literal, a name, a row or a call gives, if anything

abbrev pub name_kind : Here → List ℕ → Option Kind
name_kind h name = option_map variable_kind (variable h name)

abbrev pub binary_kind : BinaryOp → Option Kind → Option Kind → Option Kind
binary_kind op.Or a b = if has_kind a k.Bool && has_kind b k.Bool then Some k.Bool else None
binary_kind op.And a b = if has_kind a k.Bool && has_kind b k.Bool then Some k.Bool else None
binary_kind sign a b = option_map gives_of (row_of_two (rows_of_sign sign) a b)

-- what a call gives, if anything
abbrev pub call_gives : Here → List ℕ → Option Kind
call_gives h name = option_and_then (gives h.known) (callee_named h name)

abbrev pub child_gives : Here → List ℕ → List ℕ → Option Kind
child_gives h class name = option_and_then (λ m. (signature_at h.known m).result) (method_in h class name)

module _ (h : Here) where
  abbrev pub kind_of : ExprTree → Option Kind
  kind_of (Number at n) = Some k.Int
  kind_of (Text at bytes) = Some k.Text
  kind_of (Boolean at b) = Some k.Bool
  kind_of (Empty at) = Some k.Map
  kind_of (Read at name) = name_kind h name
  kind_of (Above at class name) = kind_in h class name
  kind_of (Index at name key) = option_map gives_of (row_of_two rows_of_index (name_kind h name) (kind_of key))
  kind_of (AboveIndex at class name key) = option_map gives_of (row_of_two rows_of_index (kind_in h class name) (kind_of key))
  kind_of (Call at name args) = call_gives h name
  kind_of (ChildCall at class key name args) = child_gives h class name
  kind_of (Unary at op operand) = option_map gives_of (row_of_one (rows_before op) (kind_of operand))
  kind_of (Binary at op left right) = binary_kind op (kind_of left) (kind_of right)

-- ---- with each name resolved; what is missing is told by a demand, and a number stands in for it

abbrev pub or_zero : Option ℕ → ℕ
or_zero o = unwrap_or o 0

abbrev pub read_tree : Span → Option Variable → Tree
read_tree at (Some (var.Local slot kind)) = r.Local at slot
read_tree at (Some (var.Field field kind)) = r.Field at field
read_tree at None = r.Local at 0

abbrev pub above_tree : Here → Span → List ℕ → List ℕ → Tree
above_tree h at class name = r.Above at (or_zero (level_above h class)) (or_zero (field_in h class name))

abbrev pub row_tree : Span → Option ℕ → Trees → Tree
row_tree at row args = r.Op at (or_zero row) args

abbrev pub one : Tree → Trees
one a = tree a no_trees

abbrev pub two : Tree → Tree → Trees
two a b = tree a (tree b no_trees)

abbrev pub binary_tree : Span → BinaryOp → Option Kind → Option Kind → Tree → Tree → Tree
binary_tree at op.Or ka kb a b = r.Or at a b
binary_tree at op.And ka kb a b = r.And at a b
binary_tree at sign ka kb a b = row_tree at (row_of_two (rows_of_sign sign) ka kb) (two a b)

abbrev pub call_tree : Span → Option Callee → Trees → Tree
call_tree at (Some (callee.Builtin row)) args = r.Op at row args
call_tree at (Some (callee.Method m)) args = r.Call at m args
call_tree at None args = r.Call at 0 args

abbrev pub child_tree : Here → Span → List ℕ → List ℕ → Tree → Trees → Tree
child_tree h at class name key args = r.Child at (or_zero (class_named h.known class)) (or_zero (method_in h class name)) key args

module _ (h : Here) where
  abbrev mutual
    pub resolve : ExprTree → Tree
    resolve (Number at n) = r.Const at (v.Int n)
    resolve (Text at bytes) = r.Const at (v.Str bytes)
    resolve (Boolean at b) = r.Const at (v.Bool b)
    resolve (Empty at) = r.Const at (v.Map [])
    resolve (Read at name) = read_tree at (variable h name)
    resolve (Above at class name) = above_tree h at class name
    resolve (Index at name key) = row_tree at (row_of_two rows_of_index (name_kind h name) (kind_of h key)) (two (read_tree at (variable h name)) (resolve key))
    resolve (AboveIndex at class name key) = row_tree at (row_of_two rows_of_index (kind_in h class name) (kind_of h key)) (two (above_tree h at class name) (resolve key))
    resolve (Call at name args) = call_tree at (callee_named h name) (resolve_all args)
    resolve (ChildCall at class key name args) = child_tree h at class name (resolve key) (resolve_all args)
    resolve (Unary at op operand) = row_tree at (row_of_one (rows_before op) (kind_of h operand)) (one (resolve operand))
    resolve (Binary at op left right) = binary_tree at op (kind_of h left) (kind_of h right) (resolve left) (resolve right)

    pub resolve_all : ExprTrees → Trees
    resolve_all no_exprs = no_trees
    resolve_all (expr_and e es) = tree (resolve e) (resolve_all es)

-- ---- demands: operands from left to right and then the node, unless said otherwise

-- `C.f`
abbrev pub above_asks : Here → Span → List ℕ → List ℕ → List Demand
above_asks h at class name =
    ask (is_some (class_named h.known class)) (UnknownName at)
    ∷ ask (is_some (level_above h class)) (NotDownward at)
    ∷ ask (is_some (field_in h class name)) (UnknownName at)
    ∷ []

abbrev pub count : ExprTrees → ℕ
count no_exprs = 0
count (expr_and e es) = suc (count es)

-- what a call takes
abbrev pub call_takes : Here → List ℕ → List Kind
call_takes h name = option_map_or (takes h.known) (callee_named h name) []

-- of a call, before its arguments
abbrev pub call_asks : Here → Span → List ℕ → ℕ → List Demand
call_asks h at name given =
    ask (is_some (callee_named h name)) (UnknownName at)
    ∷ ask (option_map_or (is_earlier h) (callee_named h name) false) (CalleeLater at)
    ∷ ask (length (call_takes h name) == given) (ArgCount at)
    ∷ []

-- of a child's class, before its key
abbrev pub class_asks : Here → Span → List ℕ → List Demand
class_asks h at class =
    ask (is_some (class_named h.known class)) (UnknownName at)
    ∷ ask (option_map_or (is_child h) (class_named h.known class) false) (NotDownward at)
    ∷ []

abbrev pub child_takes : Here → List ℕ → List ℕ → List Kind
child_takes h class name = option_map_or (λ m. (signature_at h.known m).params) (method_in h class name) []

-- of a child's method, behind the key and before the arguments
abbrev pub method_asks : Here → Span → List ℕ → List ℕ → ℕ → List Demand
method_asks h at class name given =
    ask (is_some (method_in h class name)) (UnknownName at)
    ∷ ask (length (child_takes h class name) == given) (ArgCount at)
    ∷ []

module _ (h : Here) where
  -- the node has a kind
  abbrev pub kind_asks : ExprTree → List Demand
  kind_asks e = ask (is_some (kind_of h e)) (Mismatch (place_of e)) ∷ []

  -- an expression has this kind
  abbrev pub of_kind : Kind → ExprTree → List Demand
  of_kind kind e = ask (has_kind (kind_of h e) kind) (Mismatch (place_of e)) ∷ []

  abbrev mutual
    pub demands : ExprTree → List Demand
    demands (Number at n) = []
    demands (Text at bytes) = []
    demands (Boolean at b) = []
    demands (Empty at) = []
    demands (Read at name) = ask (is_some (variable h name)) (UnknownName at) ∷ []
    demands (Above at class name) = above_asks h at class name
    demands (Index at name key) = ask (is_some (variable h name)) (UnknownName at) ∷ (demands key ++ kind_asks (Index at name key))
    demands (AboveIndex at class name key) = above_asks h at class name ++ (demands key ++ kind_asks (AboveIndex at class name key))
    demands (Call at name args) = (call_asks h at name (count args) ++ args_demands (call_takes h name) args) ++ kind_asks (Call at name args)
    demands (ChildCall at class key name args) =
        (class_asks h at class ++ ((demands key ++ of_kind k.Int key) ++ (method_asks h at class name (count args) ++ args_demands (child_takes h class name) args)))
        ++ kind_asks (ChildCall at class key name args)
    demands (Unary at op operand) = demands operand ++ kind_asks (Unary at op operand)
    demands (Binary at op left right) = demands left ++ (demands right ++ kind_asks (Binary at op left right))

    -- each argument, and then its kind
    pub args_demands : List Kind → ExprTrees → List Demand
    args_demands (kind ∷ kinds) (expr_and e es) = (demands e ++ of_kind kind e) ++ args_demands kinds es
    args_demands _ _ = []

  -- an expression that is to have this kind
  abbrev pub demands_as : Kind → ExprTree → List Demand
  demands_as kind e = demands e ++ of_kind kind e

  -- a call as a statement, which needs no result
  abbrev pub call_demands : Span → List ℕ → ExprTrees → List Demand
  call_demands at name args = call_asks h at name (count args) ++ args_demands (call_takes h name) args

  abbrev pub child_demands : Span → List ℕ → ExprTree → List ℕ → ExprTrees → List Demand
  child_demands at class key name args =
      class_asks h at class ++ (demands_as k.Int key ++ (method_asks h at class name (count args) ++ args_demands (child_takes h class name) args))
