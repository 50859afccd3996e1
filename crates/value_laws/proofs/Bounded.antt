-- Resolved expressions and statements that are bounded, by what is known of the trees that they come of.
use Rattle.std.proofs.Common.{List, [], ◌∷◌, Option, Some, None}
use Rattle.std.specs.Option.{option_map}
use Rattle.wave_base.specs.declared.span.Span.{Span}
use Rattle.wave_base.specs.declared.value.Kind.{Kind}
use Rattle.mace_ast.specs.declared.expr.BinaryOp.{BinaryOp}
use Rattle.mace_ast.specs.declared.expr.BinaryOp.TheVariants as op
use Rattle.mace_ast.specs.Exprs.{ExprTree, exprs_of}
use Rattle.mace_ast.specs.Stmts.{StmtTree, stmts_of, else_of}
use Rattle.resolved_service.specs.View.{Tree, Trees}
use Rattle.type_rules.specs.declared.meant.Callee.{Callee}
use Rattle.type_rules.specs.declared.meant.Callee.TheVariants as callee
use Rattle.type_rules.specs.declared.meant.Variable.{Variable}
use Rattle.type_rules.specs.declared.meant.Variable.TheVariants as var
use Rattle.type_rules.specs.Exprs.{binary_tree, call_tree, read_tree, resolve, resolve_all}
use Rattle.type_rules.specs.Here.{Here}
use Rattle.type_rules.specs.Stmts.{after, cut_step, set_step, resolve_else, resolve_stmt, resolve_stmts}
use Rattle.mace_grammar.proofs.Parts.{Each, IfThere}
use Rattle.value_laws.specs.Services.{BoundedElse, BoundedMaybe, BoundedStep, BoundedSteps, BoundedTree, BoundedTrees}

-- ---- expressions, wherever their names are resolved

pub record IsExpr (e : ExprTree) : Type 0 where
  pub so : (h : Here) → BoundedTree (resolve h e)

pub args_bounded : (h : Here) (es : List ExprTree) → Each IsExpr es → BoundedTrees (resolve_all h (exprs_of es))
args_bounded h [] fs = tt
args_bounded h (e ∷ es) fs = (let f : IsExpr e = fs.0 in (f.so h, args_bounded h es fs.1))

pub maybe_bounded : (h : Here) (o : Option ExprTree) → IfThere IsExpr o → BoundedMaybe (option_map (resolve h) o)
maybe_bounded h None f = tt
maybe_bounded h (Some e) f = f.so h

pub read_bounded : (at : Span) (v : Option Variable) → BoundedTree (read_tree at v)
read_bounded at None = tt
read_bounded at (Some (var.Local slot kind)) = tt
read_bounded at (Some (var.Field field kind)) = tt

pub called_bounded : (at : Span) (c : Option Callee) (args : Trees) → BoundedTrees args → BoundedTree (call_tree at c args)
called_bounded at (Some (callee.Builtin row)) args h = h
called_bounded at (Some (callee.Method m)) args h = h
called_bounded at None args h = h

pub binary_bounded : (at : Span) (o : BinaryOp) (ka kb : Option Kind) (a b : Tree) → BoundedTree a → BoundedTree b → BoundedTree (binary_tree at o ka kb a b)
binary_bounded at op.Or ka kb a b f g = (f, g)
binary_bounded at op.And ka kb a b f g = (f, g)
binary_bounded at sign ka kb a b f g = (f, (g, tt))

-- ---- statements

pub record IsStmt (s : StmtTree) : Type 0 where
  pub so : (h : Here) → BoundedStep (resolve_stmt h s)

pub stmts_bounded : (h : Here) (ss : List StmtTree) → Each IsStmt ss → BoundedSteps (resolve_stmts h (stmts_of ss))
stmts_bounded h [] fs = tt
stmts_bounded h (s ∷ ss) fs = (let f : IsStmt s = fs.0 in (f.so h, stmts_bounded (after h s) ss fs.1))

pub else_bounded : (h : Here) (o : Option (List StmtTree)) → IfThere (Each IsStmt) o → BoundedElse (resolve_else h (else_of o))
else_bounded h None fs = tt
else_bounded h (Some ss) fs = stmts_bounded h ss fs

pub cut_bounded : (at : Span) (v : Option Variable) (key : Tree) → BoundedTree key → BoundedStep (cut_step at v key)
cut_bounded at (Some (var.Local slot kind)) key f = f
cut_bounded at (Some (var.Field field kind)) key f = f
cut_bounded at None key f = f

pub set_bounded : (h : Here) (at : Span) (v : Option Variable) (key : Option ExprTree) (value : Tree) → IfThere IsExpr key → BoundedTree value → BoundedStep (set_step at v (option_map (resolve h) key) value)
set_bounded h at (Some (var.Local slot kind)) None value f g = g
set_bounded h at (Some (var.Local slot kind)) (Some key) value f g = (f.so h, g)
set_bounded h at (Some (var.Field field kind)) None value f g = g
set_bounded h at (Some (var.Field field kind)) (Some key) value f g = (f.so h, g)
set_bounded h at None None value f g = g
set_bounded h at None (Some key) value f g = g
