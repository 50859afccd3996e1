-- The arms of an expression: what is known of its operands, and what the answer to the node itself is.
use Rattle.std.proofs.Common.{◌≡◌, ℕ, true, false, List, [], ◌∷◌, ◌++◌, Option, Some, None, Result, Ok, is_some, refl, sym, ap, subst, ◌∙◌}
use Rattle.std.specs.Option.{option_map}
use Rattle.wave_base.specs.declared.span.Span.{Span}
use Rattle.wave_base.specs.declared.value.Kind.{Kind}
use Rattle.mace_ast.specs.declared.expr.UnaryOp.{UnaryOp}
use Rattle.mace_ast.specs.declared.expr.BinaryOp.{BinaryOp}
use Rattle.mace_ast.specs.declared.expr.Node.{Node}
use Rattle.mace_ast.specs.declared.expr.Node.TheVariants as node
use Rattle.mace_ast.specs.Exprs as e
use Rattle.mace_ast.specs.Exprs.{ExprTree, ExprTrees, place_of, node_tree}
use Rattle.value_ops.specs.Operators.{gives_of}
use Rattle.resolved_service.specs.View.{Tree, tree_of}
use Rattle.type_rules.specs.declared.error.TypeError.{TypeError}
use Rattle.type_rules.specs.declared.error.TypeError.TheVariants.{Mismatch}
use Rattle.type_rules.specs.Demands.{Demand, ask, first_wrong, Fails, Judges}
use Rattle.type_rules.specs.Kinds.{same_kind, has_kind, row_of_one, row_of_two, rows_of_index, rows_before}
use Rattle.type_rules.specs.Here.{Here}
use Rattle.type_rules.specs.Exprs.{kind_of, resolve, demands, demands_as, of_kind, row_tree, one, two, binary_kind, binary_tree}
use Rattle.type_rules.proofs.First.{told_past, told_here, holds_both, fails_behind, judges_behind}
use Rattle.context_types.specs.declared.exprs.Judged.{Judged}
use Rattle.context_types.specs.declared.calls.Called.{Called}
use Rattle.context_types.specs.inner.Places.{IsJudged, IsCalled}

-- the answer to an expression
abbrev pub Answers : Here → ExprTree → Result Judged TypeError → Type 0
Answers h e r = Judges (demands h e) (IsJudged (kind_of h e) (resolve h e)) r

-- a node of this kind and tree, told by what its operands are
abbrev pub Ends : Span → Option Kind → Tree → Result Judged TypeError → Type 0
Ends at kind whole r = Judges (ask (is_some kind) (Mismatch at) ∷ []) (IsJudged kind whole) r

module _ (h : Here) where
  pub unary_arm : (at : Span) (op : UnaryOp) (a : ExprTree) (x : Judged) (r : Result Judged TypeError)
      → Answers h a (Ok x) → Ends at (option_map gives_of (row_of_one (rows_before op) (Some x.kind))) (row_tree at (row_of_one (rows_before op) (Some x.kind)) (one (tree_of x.tree))) r → Answers h (e.Unary at op a) r
  unary_arm at op a x r ja end =
      subst (λ kind. Judges (demands h a ++ ask (is_some (option_map gives_of (row_of_one (rows_before op) kind))) (Mismatch at) ∷ []) (IsJudged (option_map gives_of (row_of_one (rows_before op) kind)) (row_tree at (row_of_one (rows_before op) kind) (one (resolve h a)))) r) (sym ja.1.kind)
      (subst (λ t. Judges (demands h a ++ ask (is_some (option_map gives_of (row_of_one (rows_before op) (Some x.kind)))) (Mismatch at) ∷ []) (IsJudged (option_map gives_of (row_of_one (rows_before op) (Some x.kind))) (row_tree at (row_of_one (rows_before op) (Some x.kind)) (one t))) r) (sym ja.1.tree)
      (judges_behind (demands h a) _ _ _ r ja.0 (λ j q. q) end))

  pub binary_arm : (at : Span) (op : BinaryOp) (a b : ExprTree) (x y : Judged) (r : Result Judged TypeError)
      → Answers h a (Ok x) → Answers h b (Ok y) → Ends at (binary_kind op (Some x.kind) (Some y.kind)) (binary_tree at op (Some x.kind) (Some y.kind) (tree_of x.tree) (tree_of y.tree)) r → Answers h (e.Binary at op a b) r
  binary_arm at op a b x y r ja jb end =
      let P : Option Kind → Option Kind → Tree → Tree → Type 0 = λ ka kb ta tb. Judges (demands h a ++ (demands h b ++ ask (is_some (binary_kind op ka kb)) (Mismatch at) ∷ [])) (IsJudged (binary_kind op ka kb) (binary_tree at op ka kb ta tb)) r in
      let p0 : P (Some x.kind) (Some y.kind) (tree_of x.tree) (tree_of y.tree) = judges_behind (demands h a) _ _ _ r ja.0 (λ j q. q) (judges_behind (demands h b) _ _ _ r jb.0 (λ j q. q) end) in
      subst (λ t. P (kind_of h a) (kind_of h b) t (resolve h b)) (sym ja.1.tree)
      (subst (λ t. P (kind_of h a) (kind_of h b) (tree_of x.tree) t) (sym jb.1.tree)
      (subst (λ kb. P (kind_of h a) kb (tree_of x.tree) (tree_of y.tree)) (sym jb.1.kind)
      (subst (λ ka. P ka (Some y.kind) (tree_of x.tree) (tree_of y.tree)) (sym ja.1.kind) p0)))

  -- a map that is read, and its key
  index : (at : Span) (front : List Demand) (km : Option Kind) (tm : Tree) (key : ExprTree) (x y : Judged) (r : Result Judged TypeError)
      → first_wrong front ≡ None → km ≡ Some x.kind → tm ≡ tree_of x.tree → Answers h key (Ok y)
      → Ends at (option_map gives_of (row_of_two rows_of_index (Some x.kind) (Some y.kind))) (row_tree at (row_of_two rows_of_index (Some x.kind) (Some y.kind)) (two (tree_of x.tree) (tree_of y.tree))) r
      → Judges (front ++ (demands h key ++ ask (is_some (option_map gives_of (row_of_two rows_of_index km (kind_of h key)))) (Mismatch at) ∷ []))
      (IsJudged (option_map gives_of (row_of_two rows_of_index km (kind_of h key))) (row_tree at (row_of_two rows_of_index km (kind_of h key)) (two tm (resolve h key)))) r
  index at front km tm key x y r holds kind tree jk end =
      let P : Option Kind → Option Kind → Tree → Tree → Type 0 = λ ka kb ta tb. Judges (front ++ (demands h key ++ ask (is_some (option_map gives_of (row_of_two rows_of_index ka kb))) (Mismatch at) ∷ []))
      (IsJudged (option_map gives_of (row_of_two rows_of_index ka kb)) (row_tree at (row_of_two rows_of_index ka kb) (two ta tb))) r in
      let p0 : P (Some x.kind) (Some y.kind) (tree_of x.tree) (tree_of y.tree) = judges_behind front _ _ _ r holds (λ j q. q) (judges_behind (demands h key) _ _ _ r jk.0 (λ j q. q) end) in
      subst (λ t. P km (kind_of h key) t (resolve h key)) (sym tree)
      (subst (λ t. P km (kind_of h key) (tree_of x.tree) t) (sym jk.1.tree)
      (subst (λ kb. P km kb (tree_of x.tree) (tree_of y.tree)) (sym jk.1.kind)
      (subst (λ ka. P ka (Some y.kind) (tree_of x.tree) (tree_of y.tree)) (sym kind) p0)))

  pub index_arm : (at : Span) (name : List ℕ) (key : ExprTree) (x y : Judged) (r : Result Judged TypeError)
      → Answers h (e.Read at name) (Ok x) → Answers h key (Ok y)
      → Ends at (option_map gives_of (row_of_two rows_of_index (Some x.kind) (Some y.kind))) (row_tree at (row_of_two rows_of_index (Some x.kind) (Some y.kind)) (two (tree_of x.tree) (tree_of y.tree))) r
      → Answers h (e.Index at name key) r
  index_arm at name key x y r jm jk end = index at (demands h (e.Read at name)) _ _ key x y r jm.0 jm.1.kind jm.1.tree jk end

  pub above_index_arm : (at : Span) (class name : List ℕ) (key : ExprTree) (x y : Judged) (r : Result Judged TypeError)
      → Answers h (e.Above at class name) (Ok x) → Answers h key (Ok y)
      → Ends at (option_map gives_of (row_of_two rows_of_index (Some x.kind) (Some y.kind))) (row_tree at (row_of_two rows_of_index (Some x.kind) (Some y.kind)) (two (tree_of x.tree) (tree_of y.tree))) r
      → Answers h (e.AboveIndex at class name key) r
  above_index_arm at class name key x y r jm jk end = index at (demands h (e.Above at class name)) _ _ key x y r jm.0 jm.1.kind jm.1.tree jk end

  -- an expression that is to have a kind
  pub as_arm : (kind : Kind) (a : ExprTree) (x : Judged) → Answers h a (Ok x) → same_kind x.kind kind ≡ true
      → (first_wrong (demands_as h kind a) ≡ None) × (resolve h a ≡ tree_of x.tree)
  as_arm kind a x ja same =
      (holds_both (demands h a) (of_kind h kind a) ja.0 (told_past _ _ [] (ap (λ o. has_kind o kind) ja.1.kind ∙ same)), ja.1.tree)

  pub as_fails : (kind : Kind) (a : ExprTree) (x : Judged) (at : Span) → Answers h a (Ok x) → same_kind x.kind kind ≡ false → place_of a ≡ at → Fails (demands_as h kind a) (Mismatch at)
  as_fails kind a x at ja other place =
      fails_behind (demands h a) (of_kind h kind a) (Mismatch at) ja.0
      (λ n. told_here _ _ [] (ap (λ o. has_kind o kind) ja.1.kind ∙ other) ∙ ap (λ s. Some (Mismatch s)) place)

  -- a call as an operand
  pub worth : (asked : List Demand) (at : Span) (gives : Option Kind) (whole : Tree) (x : Called) (r : Result Judged TypeError)
      → first_wrong asked ≡ None → IsCalled gives whole x → Ends at x.gives (tree_of x.tree) r
      → Judges (asked ++ ask (is_some gives) (Mismatch at) ∷ []) (IsJudged gives whole) r
  worth asked at gives whole x r holds is end =
      subst (λ g. Judges (asked ++ ask (is_some g) (Mismatch at) ∷ []) (IsJudged g whole) r) (sym is.gives)
      (subst (λ t. Judges (asked ++ ask (is_some x.gives) (Mismatch at) ∷ []) (IsJudged x.gives t) r) (sym is.tree)
      (judges_behind asked _ _ _ r holds (λ j q. q) end))

-- where a node's tree stands
pub place_node : (n : Node) (at : Span) → place_of (node_tree n at) ≡ at
place_node (node.Number n) at = refl
place_node (node.Text t) at = refl
place_node (node.Bool b) at = refl
place_node node.Empty at = refl
place_node (node.Read x) at = refl
place_node (node.Above c f) at = refl
place_node (node.Index' x p a n) at = refl
place_node (node.AboveIndex' c f p a n) at = refl
place_node (node.Call' f s r) at = refl
place_node (node.ChildCall' c p a n f s r) at = refl
place_node (node.Unary' op p a n) at = refl
place_node (node.Binary' op p a l q b r) at = refl
