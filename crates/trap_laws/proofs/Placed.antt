-- Traps that stand at such places: those of resolved expressions and statements, by the places of the trees that they come of.
use Rattle.std.proofs.Common.{List, [], ◌∷◌, ◌++◌, Option, Some, None}
use Rattle.std.specs.Option.{option_map}
use Rattle.wave_base.specs.declared.span.Span.{Span}
use Rattle.wave_base.specs.declared.trap.Trap.{Trap}
use Rattle.wave_base.specs.declared.trap.TrapKind.{TrapKind}
use Rattle.wave_base.specs.declared.trap.TrapKind.TheVariants as k
use Rattle.wave_base.specs.declared.value.Kind.{Kind}
use Rattle.mace_ast.specs.declared.expr.BinaryOp.{BinaryOp}
use Rattle.mace_ast.specs.declared.expr.BinaryOp.TheVariants as op
use Rattle.mace_ast.specs.Exprs.{ExprTree, exprs_of, place_of}
use Rattle.mace_ast.specs.Stmts.{StmtTree, stmts_of, else_of}
use Rattle.resolved_service.specs.View.{Tree, Trees}
use Rattle.type_rules.specs.declared.meant.Callee.{Callee}
use Rattle.type_rules.specs.declared.meant.Callee.TheVariants as callee
use Rattle.type_rules.specs.declared.meant.Variable.{Variable}
use Rattle.type_rules.specs.declared.meant.Variable.TheVariants as var
use Rattle.type_rules.specs.Exprs.{resolve, resolve_all, read_tree, two, call_tree, binary_tree}
use Rattle.type_rules.specs.Here.{Here}
use Rattle.type_rules.specs.Stmts.{after, cut_step, set_step, resolve_else, resolve_stmt, resolve_stmts}
use Rattle.trap_laws.specs.Traps.{of_operators, traps_at, tree_traps, trees_traps, maybe_traps, step_traps, steps_traps, else_traps}
use Rattle.mace_grammar.proofs.Parts.{Each, IfThere, each_append}

module _ (P : Span → Type 0) where
  abbrev pub Placed : List Trap → Type 0
  Placed ts = Each (λ (t : Trap). P t.at) ts

  pub and_then : (xs ys : List Trap) → Placed xs → Placed ys → Placed (xs ++ ys)
  and_then xs ys h g = each_append (λ (t : Trap). P t.at) xs ys h g

  raised_at : (at : Span) (kinds : List TrapKind) → P at → Placed (traps_at at kinds)
  raised_at at [] h = tt
  raised_at at (kind ∷ kinds) h = (h, raised_at at kinds h)

  pub operated : (at : Span) (more : List Trap) → P at → Placed more → Placed (traps_at at of_operators ++ more)
  operated at more h g = and_then (traps_at at of_operators) more (raised_at at of_operators h) g

  -- ---- expressions: where it stands, and what can trap of it, wherever its names are resolved

  pub record ExprPlaced (e : ExprTree) : Type 0 where
    pub place : P (place_of e)
    pub traps : (h : Here) → Placed (tree_traps (resolve h e))

  pub args_placed : (h : Here) (es : List ExprTree) → Each ExprPlaced es → Placed (trees_traps (resolve_all h (exprs_of es)))
  args_placed h [] ps = tt
  args_placed h (e ∷ es) ps = (let p : ExprPlaced e = ps.0 in and_then (tree_traps (resolve h e)) (trees_traps (resolve_all h (exprs_of es))) (p.traps h) (args_placed h es ps.1))

  pub maybe_placed : (h : Here) (o : Option ExprTree) → IfThere ExprPlaced o → Placed (maybe_traps (option_map (resolve h) o))
  maybe_placed h None p = tt
  maybe_placed h (Some e) p = p.traps h

  pub read_placed : (at : Span) (v : Option Variable) → Placed (tree_traps (read_tree at v))
  read_placed at None = tt
  read_placed at (Some (var.Local slot kind)) = tt
  read_placed at (Some (var.Field field kind)) = tt

  pub both_placed : (a b : Tree) → Placed (tree_traps a) → Placed (tree_traps b) → Placed (trees_traps (two a b))
  both_placed a b h g = and_then (tree_traps a) (tree_traps b ++ []) h (and_then (tree_traps b) [] g tt)

  pub called_placed : (at : Span) (c : Option Callee) (args : Trees) → P at → Placed (trees_traps args) → Placed (tree_traps (call_tree at c args))
  called_placed at (Some (callee.Builtin row)) args h g = operated at (trees_traps args) h g
  called_placed at (Some (callee.Method m)) args h g = (h, g)
  called_placed at None args h g = (h, g)

  pub binary_placed : (at : Span) (o : BinaryOp) (ka kb : Option Kind) (a b : Tree) → P at → Placed (tree_traps a) → Placed (tree_traps b) → Placed (tree_traps (binary_tree at o ka kb a b))
  binary_placed at op.Or ka kb a b h f g = and_then (tree_traps a) (tree_traps b) f g
  binary_placed at op.And ka kb a b h f g = and_then (tree_traps a) (tree_traps b) f g
  binary_placed at sign ka kb a b h f g = operated at (trees_traps (two a b)) h (both_placed a b f g)

  -- ---- statements

  pub record StmtPlaced (s : StmtTree) : Type 0 where
    pub traps : (h : Here) → Placed (step_traps (resolve_stmt h s))

  pub stmts_placed : (h : Here) (ss : List StmtTree) → Each StmtPlaced ss → Placed (steps_traps (resolve_stmts h (stmts_of ss)))
  stmts_placed h [] ps = tt
  stmts_placed h (s ∷ ss) ps = (let p : StmtPlaced s = ps.0 in and_then (step_traps (resolve_stmt h s)) (steps_traps (resolve_stmts (after h s) (stmts_of ss))) (p.traps h) (stmts_placed (after h s) ss ps.1))

  pub else_placed : (h : Here) (o : Option (List StmtTree)) → IfThere (Each StmtPlaced) o → Placed (else_traps (resolve_else h (else_of o)))
  else_placed h None ps = tt
  else_placed h (Some ss) ps = stmts_placed h ss ps

  pub cut_placed : (at : Span) (v : Option Variable) (key : Tree) → P at → Placed (tree_traps key) → Placed (step_traps (cut_step at v key))
  cut_placed at (Some (var.Local slot kind)) key h g = operated at (tree_traps key) h g
  cut_placed at (Some (var.Field field kind)) key h g = operated at (tree_traps key) h g
  cut_placed at None key h g = operated at (tree_traps key) h g

  put_placed : (at : Span) (key value : Tree) → P at → Placed (tree_traps key) → Placed (tree_traps value) → Placed (traps_at at of_operators ++ tree_traps key ++ tree_traps value)
  put_placed at key value h f g = operated at (tree_traps key ++ tree_traps value) h (and_then (tree_traps key) (tree_traps value) f g)

  pub set_placed : (h : Here) (at : Span) (v : Option Variable) (key : Option ExprTree) (value : Tree) → P at → IfThere ExprPlaced key → Placed (tree_traps value) → Placed (step_traps (set_step at v (option_map (resolve h) key) value))
  set_placed h at (Some (var.Local slot kind)) None value p f g = g
  set_placed h at (Some (var.Local slot kind)) (Some key) value p f g = put_placed at (resolve h key) value p (f.traps h) g
  set_placed h at (Some (var.Field field kind)) None value p f g = g
  set_placed h at (Some (var.Field field kind)) (Some key) value p f g = put_placed at (resolve h key) value p (f.traps h) g
  set_placed h at None None value p f g = g
  set_placed h at None (Some key) value p f g = g

  pub if_placed : (test : Tree) (body other : List Trap) → Placed (tree_traps test) → Placed body → Placed other → Placed (tree_traps test ++ body ++ other)
  if_placed test body other f g h = and_then (tree_traps test ++ body) other (and_then (tree_traps test) body f g) h

  pub for_placed : (at : Span) (low high : Tree) (body : List Trap) → P at → Placed (tree_traps low) → Placed (tree_traps high) → Placed body → Placed (traps_at at (k.Ticks ∷ of_operators) ++ tree_traps low ++ tree_traps high ++ body)
  for_placed at low high body p f g h = (p, operated at (tree_traps low ++ tree_traps high ++ body) p (if_placed low (tree_traps high) body f g h))
