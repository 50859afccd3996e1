-- Expressions of a typed service, with their names resolved, have their kinds.
use Rattle.std.proofs.Common.{◌≡◌, ◌==◌, ◌&&◌, ℕ, ◌<◌, Bool, true, false, List, [], ◌∷◌, ◌++◌, length, map, slice_get, find, cond, if◌then◌else◌, Option, Some, None, is_some, option_and_then, refl, sym, ap, subst, ◌∙◌, arith}
use Rattle.std.specs.Option.{option_map, option_map_or}
use Rattle.std.proofs.lemmas.Bool.{eqb-true, ltb-true, and_parts}
use Rattle.std.proofs.lemmas.List.{length-map}
use Rattle.std.proofs.lemmas.List.Quantifiers.{position-Some}
use Rattle.std.proofs.lemmas.Option.{slice_get-get_or}
use Rattle.wave_base.specs.declared.shape.FieldInfo.{FieldInfo}
use Rattle.wave_base.specs.declared.span.Span.{Span}
use Rattle.wave_base.specs.declared.value.Kind.{Kind}
use Rattle.wave_base.specs.declared.value.Kind.TheVariants as k
use Rattle.wave_base.specs.declared.value.Value.TheVariants as v
use Rattle.wave_base.specs.Names.{same_bytes}
use Rattle.wave_base.specs.Shapes.{declared_fields, kinds_of_class}
use Rattle.mace_ast.specs.declared.expr.BinaryOp.{BinaryOp}
use Rattle.mace_ast.specs.declared.expr.BinaryOp.TheVariants as op
use Rattle.mace_ast.specs.Exprs as e
use Rattle.mace_ast.specs.Exprs.{ExprTree, ExprTrees, no_exprs, expr_and}
use Rattle.value_ops.specs.Operators.{gives_of}
use Rattle.value_ops.specs.Rows.{first_builtin}
use Rattle.resolved_service.specs.declared.service.Method.{Method}
use Rattle.resolved_service.specs.View as r
use Rattle.resolved_service.specs.View.{Tree, Trees, no_trees, tree}
use Rattle.service_verify.specs.Rules.{levels_above}
use Rattle.code_scheme.specs.Typed.{IsMethod, HasKind, HaveKinds, IsSilent}
use Rattle.type_rules.specs.declared.error.TypeError.TheVariants.{UnknownName, ArgCount, NotDownward, CalleeLater}
use Rattle.type_rules.specs.declared.known.Known.{Known}
use Rattle.type_rules.specs.declared.known.Signature.{Signature}
use Rattle.type_rules.specs.declared.meant.Local.{Local}
use Rattle.type_rules.specs.declared.meant.Variable.{Variable}
use Rattle.type_rules.specs.declared.meant.Variable.TheVariants as var
use Rattle.type_rules.specs.declared.meant.Callee.{Callee}
use Rattle.type_rules.specs.declared.meant.Callee.TheVariants as callee
use Rattle.type_rules.specs.Demands.{Demand, ask, first_wrong}
use Rattle.type_rules.specs.Kinds.{has_kind, row_of_one, row_of_two, rows_of_sign, rows_of_index, rows_before}
use Rattle.type_rules.specs.Known.{class_named, field_named, field_kind, method_named, level_of, above_of, signature_at, no_signature}
use Rattle.type_rules.specs.Here.{Here, rows_of, local_named, of_local, or_else, variable, variable_kind, callee_named, takes, gives, is_earlier, is_child, kind_in}
use Rattle.type_rules.specs.Exprs.{kind_of, name_kind, binary_kind, child_gives, resolve, resolve_all, or_zero, read_tree, above_tree, row_tree, one, two, binary_tree, call_tree, child_tree, count, above_asks, class_asks, method_asks, child_takes, kind_asks, of_kind, demands, args_demands, demands_as, call_demands, child_demands}
use Rattle.type_rules.proofs.First.{first_wrong_parts}
use Rattle.type_laws.proofs.Sound.{AllHold, all_hold, none_wrong}
use Rattle.type_laws.proofs.Trees.{absent}
use Rattle.typed_code.proofs.Levels.{LevelsAre}
use Rattle.typed_code.proofs.Rows.{kind_is, one_row, two_row, builtin_within}

-- each method that is known is there, as it is declared
abbrev pub Declared : Known → List Method → Type 0
Declared known methods =
    (m : ℕ) → m < length known.methods → (one : Method) × (slice_get methods m ≡ Some one) × (one.class.0 ≡ (signature_at known m).class) × (one.params ≡ (signature_at known m).params) × (one.result ≡ (signature_at known m).result)

-- locals that may be named have their kinds among the slots of a function
abbrev pub Named : List Kind → List Local → Type 0
Named locals [] = Unit {0}
Named locals (l ∷ ls) = (slice_get locals l.slot ≡ Some l.kind) × Named locals ls

pub some_same : {A : Type 0} (a b : A) → Some a ≡ Some b → a ≡ b
some_same a b e = cc

named_found : (locals : List Kind) (p : Local → Bool) (ls : List Local) (l : Local) → Named locals ls → find p ls ≡ Some l → slice_get locals l.slot ≡ Some l.kind
named_found locals p [] l n h = cc
named_found locals p (x ∷ ls) l n h = by (p x) h (λ g. named_found locals p ls l n.1 g)
  where
    by : (b : Bool) → cond b (Some x) (find p ls) ≡ Some l → (find p ls ≡ Some l → slice_get locals l.slot ≡ Some l.kind) → slice_get locals l.slot ≡ Some l.kind
    by true g rest = let same : x ≡ l = cc in subst (λ (y : Local). slice_get locals y.slot ≡ Some y.kind) same n.0
    by false g rest = rest g

field_there : (known : Known) (class : ℕ) (name : List ℕ) (f : ℕ) → field_named known class name ≡ Some f → slice_get (kinds_of_class known.shape class) f ≡ Some (field_kind known class f)
field_there known class name f h =
    let fs = declared_fields known.shape class in
    let p = position-Some (λ (x : FieldInfo). same_bytes x.name name) fs f (record { name = []; kind = k.Int; initial = v.Bool false }) h in
    slice_get-get_or (map (λ (x : FieldInfo). x.kind) fs) f k.Int (omega (arith, p.0, length-map fs (λ (x : FieldInfo). x.kind)))

if_some : (b : Bool) (kind : Kind) → (if b then Some k.Bool else None) ≡ Some kind → (b ≡ true) × (k.Bool ≡ kind)
if_some true kind h = (refl, some_same k.Bool kind h)
if_some false kind h = cc

module _ (h : Here) (methods : List Method) (locals : List Kind) where
  abbrev pub Has : Tree → Kind → Type 0
  Has t kind = HasKind h.known.shape methods h.function locals h.class t kind

  abbrev pub Have : Trees → List Kind → Type 0
  Have ts kinds = HaveKinds h.known.shape methods h.function locals h.class ts kinds

  -- a call that gives this, if anything
  abbrev pub Calls : Tree → Option Kind → Type 0
  Calls t (Some kind) = Has t kind
  Calls t None = IsSilent h.known.shape methods h.function locals h.class t

  -- ---- names

  abbrev pub IsVariable : Option Variable → Type 0
  IsVariable None = Unit {0}
  IsVariable (Some (var.Local slot kind)) = slice_get locals slot ≡ Some kind
  IsVariable (Some (var.Field field kind)) = slice_get (kinds_of_class h.known.shape h.class) field ≡ Some kind

  pub variable_is : Named locals h.locals → (name : List ℕ) → IsVariable (variable h name)
  variable_is named name = by (local_named h name) refl (field_named h.known h.class name) refl
    where
      by : (l : Option Local) → local_named h name ≡ l → (f : Option ℕ) → field_named h.known h.class name ≡ f → IsVariable (or_else (option_map of_local l) (option_map (λ f. var.Field f (field_kind h.known h.class f)) f))
      by (Some l) g f i = named_found locals (λ (l : Local). same_bytes l.name name) h.locals l named g
      by None g (Some f) i = field_there h.known h.class name f i
      by None g None i = tt

  pub read_has : (at : Span) (o : Option Variable) → IsVariable o → (kind : Kind) → option_map variable_kind o ≡ Some kind → Has (read_tree at o) kind
  read_has at None is kind g = cc
  read_has at (Some (var.Local slot x)) is kind g = is ∙ g
  read_has at (Some (var.Field field x)) is kind g = is ∙ g

  level_there : LevelsAre h.known → (c l : ℕ) → level_of h.known h.class c ≡ Some l → slice_get (levels_above h.known.shape h.class) l ≡ Some c
  level_there levels c l g =
      let above = above_of h.known h.class in
      let p = position-Some (λ x. x == c) above l 0 g in
      ap (λ ls. slice_get ls l) (sym (levels h.class)) ∙ slice_get-get_or above l 0 p.0 ∙ ap (λ x. Some x) (eqb-true _ _ p.1)

  above_has : LevelsAre h.known → (at : Span) (class name : List ℕ) (kind : Kind) → first_wrong (above_asks h at class name) ≡ None → kind_in h class name ≡ Some kind → Has (above_tree h at class name) kind
  above_has levels at class name kind d g = by (class_named h.known class) (all_hold (above_asks h at class name) d).1.0 g
    where
      inner : (c : ℕ) (l f : Option ℕ) → level_of h.known h.class c ≡ l → field_named h.known c name ≡ f → is_some l ≡ true → option_map (λ f. field_kind h.known c f) f ≡ Some kind → Has (r.Above at (or_zero l) (or_zero f)) kind
      inner c None f i j a g = absurd (absent a)
      inner c (Some l) None i j a g = cc
      inner c (Some l) (Some f) i j a g = (c, level_there levels c l i, field_there h.known c name f j ∙ g)

      by : (o : Option ℕ) → is_some (option_and_then (λ c. level_of h.known h.class c) o) ≡ true → option_and_then (λ c. option_map (λ f. field_kind h.known c f) (field_named h.known c name)) o ≡ Some kind
          → Has (r.Above at (or_zero (option_and_then (λ c. level_of h.known h.class c) o)) (or_zero (option_and_then (λ c. field_named h.known c name) o))) kind
      by None a g = absurd (absent a)
      by (Some c) a g = inner c (level_of h.known h.class c) (field_named h.known c name) refl refl a g

  -- ---- rows of the operator table

  abbrev HasAs : Option Kind → Tree → Type 0
  HasAs o t = (kind : Kind) → o ≡ Some kind → Has t kind

  one_has : (at : Span) (rows : List ℕ) (o : Option Kind) (a : Tree) → HasAs o a → HasAs (option_map gives_of (row_of_one rows o)) (row_tree at (row_of_one rows o) (one a))
  one_has at rows o a fa kind g = by (row_of_one rows o) refl g
    where
      by : (w : Option ℕ) → row_of_one rows o ≡ w → option_map gives_of w ≡ Some kind → Has (r.Op at (or_zero w) (one a)) kind
      by None i g = cc
      by (Some row) i g = let t = one_row rows o row i in (t.within, some_same (gives_of row) kind g, subst (Have (one a)) (sym t.takes) (fa t.kind t.is, tt))

  two_has : (at : Span) (rows : List ℕ) (o p : Option Kind) (a b : Tree) → HasAs o a → HasAs p b → HasAs (option_map gives_of (row_of_two rows o p)) (row_tree at (row_of_two rows o p) (two a b))
  two_has at rows o p a b fa fb kind g = by (row_of_two rows o p) refl g
    where
      by : (w : Option ℕ) → row_of_two rows o p ≡ w → option_map gives_of w ≡ Some kind → Has (r.Op at (or_zero w) (two a b)) kind
      by None i g = cc
      by (Some row) i g = let t = two_row rows o p row i in (t.within, some_same (gives_of row) kind g, subst (Have (two a b)) (sym t.takes) (fa t.first t.first_is, (fb t.second t.second_is, tt)))

  bools_have : (o p : Option Kind) (a b : Tree) → HasAs o a → HasAs p b → (kind : Kind) → (if has_kind o k.Bool && has_kind p k.Bool then Some k.Bool else None) ≡ Some kind → (k.Bool ≡ kind) × Has a k.Bool × Has b k.Bool
  bools_have o p a b fa fb kind g =
      let both = if_some (has_kind o k.Bool && has_kind p k.Bool) kind g in
      let each = and_parts (has_kind o k.Bool) (has_kind p k.Bool) both.0 in
      (both.1, fa k.Bool (kind_is o k.Bool each.0), fb k.Bool (kind_is p k.Bool each.1))

  binary_has : (at : Span) (sign : BinaryOp) (o p : Option Kind) (a b : Tree) → HasAs o a → HasAs p b → HasAs (binary_kind sign o p) (binary_tree at sign o p a b)
  binary_has at op.Or o p a b fa fb kind g = bools_have o p a b fa fb kind g
  binary_has at op.And o p a b fa fb kind g = bools_have o p a b fa fb kind g
  binary_has at op.Eq o p a b fa fb kind g = two_has at (rows_of_sign op.Eq) o p a b fa fb kind g
  binary_has at op.Ne o p a b fa fb kind g = two_has at (rows_of_sign op.Ne) o p a b fa fb kind g
  binary_has at op.Lt o p a b fa fb kind g = two_has at (rows_of_sign op.Lt) o p a b fa fb kind g
  binary_has at op.Le o p a b fa fb kind g = two_has at (rows_of_sign op.Le) o p a b fa fb kind g
  binary_has at op.Gt o p a b fa fb kind g = two_has at (rows_of_sign op.Gt) o p a b fa fb kind g
  binary_has at op.Ge o p a b fa fb kind g = two_has at (rows_of_sign op.Ge) o p a b fa fb kind g
  binary_has at op.Add o p a b fa fb kind g = two_has at (rows_of_sign op.Add) o p a b fa fb kind g
  binary_has at op.Sub o p a b fa fb kind g = two_has at (rows_of_sign op.Sub) o p a b fa fb kind g
  binary_has at op.Mul o p a b fa fb kind g = two_has at (rows_of_sign op.Mul) o p a b fa fb kind g
  binary_has at op.Div o p a b fa fb kind g = two_has at (rows_of_sign op.Div) o p a b fa fb kind g
  binary_has at op.Rem o p a b fa fb kind g = two_has at (rows_of_sign op.Rem) o p a b fa fb kind g

  -- ---- calls

  module _ (there : Declared h.known methods) where
    abbrev Callable : ℕ → ℕ → Type 0
    Callable class m = (is : IsMethod methods class m (signature_at h.known m).result) × (is.method.params ≡ (signature_at h.known m).params)

    method_there : (class m : ℕ) (name : List ℕ) → method_named h.known class name ≡ Some m → Callable class m
    method_there class m name g =
        let p = position-Some (λ (s : Signature). s.class == class && same_bytes s.name name) h.known.methods m no_signature g in
        let own = eqb-true _ _ (and_parts _ _ p.1).0 in
        let d = there m p.0 in
        (record { method = d.0; is_there = d.1; class_is = d.2 ∙ own; result_is = d.4 }, d.3)

    own_calls : (at : Span) (m : ℕ) (args : Trees) (result : Option Kind) → m < h.function → (is : IsMethod methods h.class m result) → Have args is.method.params → Calls (r.Call at m args) result
    own_calls at m args (Some kind) lt is a = (lt, (is, a))
    own_calls at m args None lt is a = (lt, (is, a))

    below_calls : (at : Span) (c m : ℕ) (key : Tree) (args : Trees) (result : Option Kind) → is_child h c ≡ true → Has key k.Int → (is : IsMethod methods c m result) → Have args is.method.params → Calls (r.Child at c m key args) result
    below_calls at c m key args (Some kind) child has is a = (child, has, (is, a))
    below_calls at c m key args None child has is a = (child, has, (is, a))

    -- arguments that are as many as the kinds have them
    abbrev ArgsHave : ExprTrees → Type 0
    ArgsHave es = (kinds : List Kind) → length kinds ≡ count es → first_wrong (args_demands h kinds es) ≡ None → Have (resolve_all h es) kinds

    -- what is asked of a call, by what is called
    abbrev Asked : Span → ExprTrees → Option Callee → List Demand
    Asked at es o = ask (is_some o) (UnknownName at) ∷ ask (option_map_or (is_earlier h) o false) (CalleeLater at) ∷ ask (length (option_map_or (takes h.known) o []) == count es) (ArgCount at) ∷ args_demands h (option_map_or (takes h.known) o []) es

    abbrev Either : Option ℕ → Option ℕ → Option Callee
    Either b m = or_else (option_map callee.Builtin b) (option_map callee.Method m)

    pub call_calls : (at : Span) (name : List ℕ) (es : ExprTrees) → ArgsHave es → first_wrong (call_demands h at name es) ≡ None → Calls (call_tree at (callee_named h name) (resolve_all h es)) (option_and_then (gives h.known) (callee_named h name))
    call_calls at name es args d = by (first_builtin (rows_of h.known) name) refl (method_named h.known h.class name) refl (all_hold (Asked at es (callee_named h name)) d)
      where
        by : (b : Option ℕ) → first_builtin (rows_of h.known) name ≡ b → (m : Option ℕ) → method_named h.known h.class name ≡ m → AllHold (Asked at es (Either b m)) → Calls (call_tree at (Either b m) (resolve_all h es)) (option_and_then (gives h.known) (Either b m))
        by (Some row) i m j d = (builtin_within h.known name row i, refl, args (takes h.known (callee.Builtin row)) (eqb-true _ _ d.1.1.0) (none_wrong (args_demands h (takes h.known (callee.Builtin row)) es) d.1.1.1))
        by None i (Some m) j d =
            let t = method_there h.class m name j in
            let given = args (takes h.known (callee.Method m)) (eqb-true _ _ d.1.1.0) (none_wrong (args_demands h (takes h.known (callee.Method m)) es) d.1.1.1) in
            own_calls at m (resolve_all h es) (signature_at h.known m).result (ltb-true _ _ d.1.0) t.0 (subst (Have (resolve_all h es)) (sym t.1) given)
        by None i None j d = absurd (absent d.0)

    -- what is asked of a child's method, by which it is
    abbrev AskedChild : Span → ExprTrees → Option ℕ → List Demand
    AskedChild at es m =
        ask (is_some m) (UnknownName at) ∷ ask (length (option_map_or (λ m. (signature_at h.known m).params) m []) == count es) (ArgCount at) ∷ args_demands h (option_map_or (λ m. (signature_at h.known m).params) m []) es

    abbrev AskedClass : Span → Option ℕ → List Demand
    AskedClass at o = ask (is_some o) (UnknownName at) ∷ ask (option_map_or (is_child h) o false) (NotDownward at) ∷ []

    as_has : (kind : Kind) (a : ExprTree) → (first_wrong (demands h a) ≡ None → HasAs (kind_of h a) (resolve h a)) → first_wrong (demands_as h kind a) ≡ None → Has (resolve h a) kind
    as_has kind a has d =
        let p = first_wrong_parts (demands h a) (of_kind h kind a) d in
        has p.0 kind (kind_is (kind_of h a) kind (all_hold (of_kind h kind a) p.1).0)

    pub child_calls : (at : Span) (class : List ℕ) (key : ExprTree) (name : List ℕ) (es : ExprTrees) → (first_wrong (demands h key) ≡ None → HasAs (kind_of h key) (resolve h key)) → ArgsHave es
        → first_wrong (child_demands h at class key name es) ≡ None → Calls (child_tree h at class name (resolve h key) (resolve_all h es)) (child_gives h class name)
    child_calls at class key name es has args d =
        let a = first_wrong_parts (class_asks h at class) (demands_as h k.Int key ++ (method_asks h at class name (count es) ++ args_demands h (child_takes h class name) es)) d in
        let b = first_wrong_parts (demands_as h k.Int key) (method_asks h at class name (count es) ++ args_demands h (child_takes h class name) es) a.1 in
        by (class_named h.known class) (as_has k.Int key has b.0) (all_hold (class_asks h at class) a.0) (all_hold (method_asks h at class name (count es) ++ args_demands h (child_takes h class name) es) b.1)
      where
        inside : (n : ℕ) (m : Option ℕ) → Has (resolve h key) k.Int → is_child h n ≡ true → method_named h.known n name ≡ m → AllHold (AskedChild at es m)
            → Calls (r.Child at n (or_zero m) (resolve h key) (resolve_all h es)) (option_and_then (λ m. (signature_at h.known m).result) m)
        inside n (Some m) key_has child is d =
            let t = method_there n m name is in
            let given = args (signature_at h.known m).params (eqb-true _ _ d.1.0) (none_wrong (args_demands h (signature_at h.known m).params es) d.1.1) in
            below_calls at n m (resolve h key) (resolve_all h es) (signature_at h.known m).result child key_has t.0 (subst (Have (resolve_all h es)) (sym t.1) given)
        inside n None key_has child is d = absurd (absent d.0)

        by : (o : Option ℕ) → Has (resolve h key) k.Int → AllHold (AskedClass at o) → AllHold (AskedChild at es (option_and_then (λ c. method_named h.known c name) o))
            → Calls (r.Child at (or_zero o) (or_zero (option_and_then (λ c. method_named h.known c name) o)) (resolve h key) (resolve_all h es)) (option_and_then (λ m. (signature_at h.known m).result) (option_and_then (λ c. method_named h.known c name) o))
        by (Some n) key_has c d = inside n (method_named h.known n name) key_has c.1.0 refl d
        by None key_has c d = absurd (absent c.0)

    -- ---- all expressions

    module _ (levels : LevelsAre h.known) (named : Named locals h.locals) where
      mutual
        pub expr_has : (a : ExprTree) → first_wrong (demands h a) ≡ None → (kind : Kind) → kind_of h a ≡ Some kind → Has (resolve h a) kind
        expr_has (e.Number at n) d kind g = (some_same k.Int kind g, tt)
        expr_has (e.Text at bytes) d kind g = (some_same k.Text kind g, tt)
        expr_has (e.Boolean at b) d kind g = (some_same k.Bool kind g, tt)
        expr_has (e.Empty at) d kind g = (some_same k.Map kind g, refl)
        expr_has (e.Read at name) d kind g = read_has at (variable h name) (variable_is named name) kind g
        expr_has (e.Above at class name) d kind g = above_has levels at class name kind d g
        expr_has (e.Index at name key) d kind g =
            let a = all_hold (demands h (e.Index at name key)) d in
            let b = first_wrong_parts (demands h key) (kind_asks h (e.Index at name key)) (none_wrong (demands h key ++ kind_asks h (e.Index at name key)) a.1) in
            two_has at rows_of_index (name_kind h name) (kind_of h key) (read_tree at (variable h name)) (resolve h key) (λ x i. read_has at (variable h name) (variable_is named name) x i) (λ x i. expr_has key b.0 x i) kind g
        expr_has (e.AboveIndex at class name key) d kind g =
            let a = first_wrong_parts (above_asks h at class name) (demands h key ++ kind_asks h (e.AboveIndex at class name key)) d in
            let b = first_wrong_parts (demands h key) (kind_asks h (e.AboveIndex at class name key)) a.1 in
            two_has at rows_of_index (kind_in h class name) (kind_of h key) (above_tree h at class name) (resolve h key) (λ x i. above_has levels at class name x a.0 i) (λ x i. expr_has key b.0 x i) kind g
        expr_has (e.Call at name args) d kind g =
            let a = first_wrong_parts (call_demands h at name args) (kind_asks h (e.Call at name args)) d in
            subst (Calls (call_tree at (callee_named h name) (resolve_all h args))) g (call_calls at name args (λ kinds l d. args_have kinds args l d) a.0)
        expr_has (e.ChildCall at class key name args) d kind g =
            let a = first_wrong_parts (child_demands h at class key name args) (kind_asks h (e.ChildCall at class key name args)) d in
            subst (Calls (child_tree h at class name (resolve h key) (resolve_all h args))) g (child_calls at class key name args (λ d x i. expr_has key d x i) (λ kinds l d. args_have kinds args l d) a.0)
        expr_has (e.Unary at sign operand) d kind g =
            let a = first_wrong_parts (demands h operand) (kind_asks h (e.Unary at sign operand)) d in
            one_has at (rows_before sign) (kind_of h operand) (resolve h operand) (λ x i. expr_has operand a.0 x i) kind g
        expr_has (e.Binary at sign left right) d kind g =
            let a = first_wrong_parts (demands h left) (demands h right ++ kind_asks h (e.Binary at sign left right)) d in
            let b = first_wrong_parts (demands h right) (kind_asks h (e.Binary at sign left right)) a.1 in
            binary_has at sign (kind_of h left) (kind_of h right) (resolve h left) (resolve h right) (λ x i. expr_has left a.0 x i) (λ x i. expr_has right b.0 x i) kind g

        pub args_have : (kinds : List Kind) (es : ExprTrees) → length kinds ≡ count es → first_wrong (args_demands h kinds es) ≡ None → Have (resolve_all h es) kinds
        args_have [] no_exprs l d = tt
        args_have (kind ∷ kinds) no_exprs l d = absurd (omega (arith, l))
        args_have [] (expr_and a es) l d = absurd (omega (arith, l))
        args_have (kind ∷ kinds) (expr_and a es) l d =
            let p = first_wrong_parts (demands_as h kind a) (args_demands h kinds es) d in
            let q = first_wrong_parts (demands h a) (of_kind h kind a) p.0 in
            (expr_has a q.0 kind (kind_is (kind_of h a) kind (all_hold (of_kind h kind a) q.1).0), args_have kinds es (omega (arith, l)) p.1)

      pub expr_as : (kind : Kind) (a : ExprTree) → first_wrong (demands_as h kind a) ≡ None → Has (resolve h a) kind
      expr_as kind a d = as_has kind a (λ d x i. expr_has a d x i) d

      pub call_is : (at : Span) (name : List ℕ) (es : ExprTrees) → first_wrong (call_demands h at name es) ≡ None → Calls (call_tree at (callee_named h name) (resolve_all h es)) (option_and_then (gives h.known) (callee_named h name))
      call_is at name es d = call_calls at name es (λ kinds l d. args_have kinds es l d) d

      pub child_is : (at : Span) (class : List ℕ) (key : ExprTree) (name : List ℕ) (es : ExprTrees) → first_wrong (child_demands h at class key name es) ≡ None → Calls (child_tree h at class name (resolve h key) (resolve_all h es)) (child_gives h class name)
      child_is at class key name es d = child_calls at class key name es (λ d x i. expr_has key d x i) (λ kinds l d. args_have kinds es l d) d
