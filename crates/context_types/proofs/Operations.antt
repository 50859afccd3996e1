-- An operation, once its row is found.
use Rattle.std.proofs.Common.{◌≡◌, ◌≢◌, ℕ, List, [], ◌∷◌, map, Option, Some, None, is_some, refl, sym, ap, ◌∙◌, Vec, Global}
use Rattle.std.specs.Option.{option_map}
use Rattle.wave_base.specs.declared.span.Span.{Span}
use Rattle.wave_base.specs.declared.value.Kind.{Kind}
use Rattle.mace_ast.specs.declared.expr.BinaryOp.{BinaryOp}
use Rattle.mace_ast.specs.declared.expr.BinaryOp.TheVariants as op
use Rattle.value_ops.specs.Operators.{gives_of}
use Rattle.resolved_service.specs.declared.expr.Expr.{Expr}
use Rattle.resolved_service.specs.declared.expr.Node.TheVariants as node
use Rattle.resolved_service.specs.View as r
use Rattle.resolved_service.specs.View.{Tree, Trees, tree_of, trees_of}
use Rattle.type_rules.specs.declared.error.TypeError.TheVariants.{Mismatch}
use Rattle.type_rules.specs.Demands.{ask, first_wrong}
use Rattle.type_rules.specs.Kinds.{row_of_two, rows_of_sign}
use Rattle.type_rules.specs.Exprs.{row_tree, binary_kind, binary_tree, two}
use Rattle.type_rules.proofs.First.{told_past}
use Rattle.context_types.specs.declared.exprs.Judged.{Judged}
use Rattle.context_types.specs.inner.Places.{IsJudged}
use Rattle.context_types.proofs.TreeRows.{op_node}

pub operation : (kind : Option Kind) (whole : Tree) (o : Option ℕ) (row : ℕ) (at : Span) (args : Vec Expr Global) (ts : Trees) (judged : Judged) (gives : Kind)
    → kind ≡ option_map gives_of o → whole ≡ row_tree at o ts → o ≡ Some row → trees_of (map tree_of args.items) ≡ ts
    → gives ≡ gives_of row → judged.kind ≡ gives → judged.tree ≡ record { at = at; node = node.Op row args }
    → (first_wrong (ask (is_some kind) (Mismatch at) ∷ []) ≡ None) × IsJudged kind whole judged
operation kind whole o row at args ts judged gives of_kind of_tree found trees given of_judged made =
    let k : kind ≡ Some (gives_of row) = of_kind ∙ ap (option_map gives_of) found in (
      told_past _ _ [] (ap is_some k),
      record {
        kind = k ∙ ap Some (sym (of_judged ∙ given));
        tree = of_tree ∙ ap (λ o. row_tree at o ts) found ∙ sym (ap tree_of made ∙ op_node row args at ∙ ap (λ l. r.Op at row l) trees);
      },
    )

-- a sign that isn't `&&` or `||` goes by its rows
pub sign_kind : (sign : BinaryOp) (a b : Option Kind) → sign ≢ op.And → sign ≢ op.Or → binary_kind sign a b ≡ option_map gives_of (row_of_two (rows_of_sign sign) a b)
sign_kind op.And a b n m = absurd (n refl)
sign_kind op.Or a b n m = absurd (m refl)
sign_kind _ a b n m = refl

pub sign_tree : (at : Span) (sign : BinaryOp) (ka kb : Option Kind) (a b : Tree) → sign ≢ op.And → sign ≢ op.Or → binary_tree at sign ka kb a b ≡ row_tree at (row_of_two (rows_of_sign sign) ka kb) (two a b)
sign_tree at op.And ka kb a b n m = absurd (n refl)
sign_tree at op.Or ka kb a b n m = absurd (m refl)
sign_tree at _ ka kb a b n m = refl

pub one_of : (args : List Expr) (a : Expr) → args ≡ a ∷ [] → trees_of (map tree_of args) ≡ r.tree (tree_of a) r.no_trees
one_of args a e = ap (λ l. trees_of (map tree_of l)) e

pub two_of : (args : List Expr) (a b : Expr) → args ≡ a ∷ b ∷ [] → trees_of (map tree_of args) ≡ two (tree_of a) (tree_of b)
two_of args a b e = ap (λ l. trees_of (map tree_of l)) e
