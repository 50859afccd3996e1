-- There are numbers for each declaration, where there are for all.
use Rattle.std.proofs.Common.{◌≡◌, ◌+◌, ◌<◌, ◌≤◌, ◌^◌, ℕ, List, [], ◌∷◌, ◌++◌, length, map, get_or, take, refl, sym, ap, subst, ◌∙◌, arith}
use Rattle.std.specs.List.{sum_by}
use Rattle.std.proofs.lemmas.List.Sums.{sum_by_more_le, sum_by-cons}
use Rattle.wave_base.specs.declared.shape.EventInfo.{EventInfo}
use Rattle.wave_base.specs.declared.span.Span.{Span}
use Rattle.mace_ast.specs.declared.name.Name.{Name}
use Rattle.mace_ast.specs.declared.field.VarDecl.{VarDecl}
use Rattle.mace_ast.specs.declared.context.ContextDecl.{ContextDecl}
use Rattle.mace_ast.specs.Counts.{class_count, classes_count, method_count, methods_count}
use Rattle.mace_ast.specs.Decls.{context_tree, MethodTree, ContextTree, ContextTrees, Context, contexts_of}
use Rattle.type_rules.specs.declared.known.Signature.{Signature}
use Rattle.type_rules.specs.Known.{Entry, classes_in, methods_in}
use Rattle.type_rules.proofs.Counts.{length-classes_in, length-methods_in}
use Rattle.type_tables.specs.declared.gather.Gathered.{Gathered}
use Rattle.type_tables.specs.Indexed.{AreAbove}
use Rattle.type_tables.specs.inner.Gathering.{Gains, HasRoom}
use Rattle.type_tables.proofs.Gathers.{gains_classes, gains_methods}
use Rattle.type_tables.proofs.Indexing.{above_later, above_inside}

classes_sum : (ds : List ContextDecl) → classes_count (contexts_of (map context_tree ds)) ≡ sum_by (λ d. class_count (context_tree d)) ds
classes_sum [] = refl
classes_sum (d ∷ ds) = ap (λ n. class_count (context_tree d) + n) (classes_sum ds) ∙ sym (sum_by-cons (λ d. class_count (context_tree d)) d ds)

methods_sum : (ds : List ContextDecl) → methods_count (contexts_of (map context_tree ds)) ≡ sum_by (λ d. method_count (context_tree d)) ds
methods_sum [] = refl
methods_sum (d ∷ ds) = ap (λ n. method_count (context_tree d) + n) (methods_sum ds) ∙ sym (sum_by-cons (λ d. method_count (context_tree d)) d ds)

-- behind some contexts there are numbers for the next one
pub room_for_next : (g h : Gathered) (above : List ℕ) (parent n : ℕ) (ds : List ContextDecl) (i : ℕ) (d : ContextDecl) → i < length ds → d ≡ get_or ds i d
    → HasRoom g (classes_count (contexts_of (map context_tree ds))) (methods_count (contexts_of (map context_tree ds)))
    → Gains g h (classes_in above parent n (contexts_of (map context_tree (take i ds)))) (methods_in n (contexts_of (map context_tree (take i ds)))) []
    → HasRoom h (class_count (context_tree d)) (method_count (context_tree d))
room_for_next g h above parent n ds i d l is room gains =
    let front = contexts_of (map context_tree (take i ds)) in
    let classes : length h.classes.items ≡ length g.classes.items + classes_count front = gains_classes g h _ _ _ gains ∙ ap (λ m. length g.classes.items + m) (length-classes_in above parent n front) in
    let methods : length h.methods.items ≡ length g.methods.items + methods_count front = gains_methods g h _ _ _ gains ∙ ap (λ m. length g.methods.items + m) (length-methods_in n front) in
    let a = classes_sum ds in
    let b = classes_sum (take i ds) in
    let c = ap (λ x. class_count (context_tree x)) is in
    let more = sum_by_more_le (λ d. class_count (context_tree d)) ds i d l in
    let e = methods_sum ds in
    let f = methods_sum (take i ds) in
    let j = ap (λ x. method_count (context_tree x)) is in
    let many = sum_by_more_le (λ d. method_count (context_tree d)) ds i d l in
    let few = room.classes in
    let short = room.methods in
    record { classes = omega arith; methods = omega arith }

module _ (g h : Gathered) (own : Entry) (gains : Gains g h (own ∷ []) [] []) where
  one_class : length h.classes.items ≡ length g.classes.items + 1
  one_class = gains_classes g h (own ∷ []) [] [] gains

  no_methods : length h.methods.items ≡ length g.methods.items + 0
  no_methods = gains_methods g h (own ∷ []) [] [] gains

  -- the classes that those inside a class lie in
  pub above_next : (above inner : List ℕ) (class : ℕ) → class ≡ length g.classes.items → inner ≡ above ++ class ∷ [] → AreAbove (length g.classes.items) above → AreAbove (length h.classes.items) inner
  above_next above inner class number is earlier =
      let n = length g.classes.items in
      subst (AreAbove (length h.classes.items)) (sym (is ∙ ap (λ c. above ++ c ∷ []) number)) (subst (λ m. AreAbove m (above ++ n ∷ [])) (sym one_class) (above_inside n above earlier))

  module _ (at : Span) (name : Name) (vars : List VarDecl) (cs : ContextTrees) (ms : List MethodTree) (c : ContextTree) (parts : c ≡ Context at name vars cs ms) (room : HasRoom g (class_count c) (method_count c)) where
    -- there are numbers for what stands inside a context
    pub room_inside : HasRoom h (classes_count cs) (methods_count cs)
    room_inside =
        let a = ap class_count parts in
        let b = ap method_count parts in
        let e = one_class in
        let f = no_methods in
        let classes = room.classes in
        let methods = room.methods in
        record { classes = omega arith; methods = omega arith }

    -- and for its methods
    pub room_behind : (j : Gathered) (above : List ℕ) (parent m n : ℕ) → Gains h j (classes_in above parent m cs) (methods_in n cs) [] → length j.methods.items + length ms < 2 ^ 16
    room_behind j above parent m n inner =
        let a = ap method_count parts in
        let f = no_methods in
        let k = gains_methods h j _ _ _ inner in
        let l = length-methods_in n cs in
        let methods = room.methods in
        omega arith

  -- there are numbers for the methods of the root
  pub room_in_root : (j : Gathered) (above : List ℕ) (parent m n own_methods events : ℕ) (cs : ContextTrees) → length g.methods.items ≡ 0 → Gains h j (classes_in above parent m cs) (methods_in n cs) []
      → methods_count cs + own_methods + events < 2 ^ 16 → length j.methods.items + own_methods < 2 ^ 16
  room_in_root j above parent m n own_methods events cs none inner few =
      let f = no_methods in
      let k = gains_methods h j _ _ _ inner in
      let l = length-methods_in n cs in
      omega arith

-- a context has a class
pub some_class : (c : ContextTree) → 1 ≤ class_count c
some_class (Context at name vars cs methods) = omega arith

-- the classes that some contexts lie in come before the next one
pub above_for_next : (g h : Gathered) (a : List Entry) (c : List Signature) (e : List EventInfo) (above : List ℕ) → Gains g h a c e → AreAbove (length g.classes.items) above → AreAbove (length h.classes.items) above
above_for_next g h a c e above gains earlier = let n = gains_classes g h a c e gains in above_later (length g.classes.items) (length h.classes.items) above (omega arith) earlier
