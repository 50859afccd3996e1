-- Classes that are judged have few fields.
use Rattle.std.proofs.Common.{◌≡◌, ◌⊎◌, inl, inr, ◌+◌, ◌<◌, ◌≤◌, ℕ, zero, suc, List, [], ◌∷◌, ◌++◌, length, map, get_or, take, None, refl, sym, ap, subst, ◌∙◌, below_more, arith}
use Rattle.std.proofs.lemmas.Bool.{cases_lt}
use Rattle.std.proofs.lemmas.List.{length-map, get_or_default}
use Rattle.std.proofs.lemmas.Option.{slice_get_past}
use Rattle.wave_base.specs.declared.limits.TheConstants.{FIELDS}
use Rattle.wave_base.specs.declared.shape.Shape.{Shape}
use Rattle.wave_base.specs.Shapes.{declared_fields, fields_in}
use Rattle.mace_ast.specs.Counts.{class_count, classes_count}
use Rattle.mace_ast.specs.Decls.{context_tree, ContextTree, ContextTrees, Context, no_contexts, context_and, contexts_of, ServiceTree}
use Rattle.mace_ast.specs.declared.context.ContextDecl.{ContextDecl}
use Rattle.mace_ast.specs.declared.field.VarDecl.{VarDecl}
use Rattle.type_rules.specs.declared.known.Known.{Known}
use Rattle.type_rules.specs.Demands.{first_wrong}
use Rattle.type_rules.specs.Known.{Entry, entry, field_info, classes_of, classes_in, service_classes, methods_of, methods_in, shape_of, known_of}
use Rattle.type_rules.specs.Services.{name_asks, fields_demands, methods_demands, context_demands, contexts_demands}
use Rattle.type_rules.proofs.Counts.{length-classes_of, length-classes_in}
use Rattle.type_rules.proofs.First.{first_wrong_parts}
use Rattle.type_laws.proofs.Each.{Each, each_first, each_rest, each_front, each_back}
use Rattle.type_laws.proofs.Classes.{blank, fields_at}
use Rattle.type_laws.proofs.Sound.{fields_few}
use Rattle.context_types.specs.inner.Judged.{FewFields, AllFew, StandsAt, StandAt}
use Rattle.context_types.proofs.ServiceArms.{next_context}
use Rattle.context_types.proofs.Walking.{ends}

-- ---- a class more, and then those inside it

module _ (known : Known) where
  pub class_judged : (n : ℕ) (vars : List VarDecl) → length (declared_fields known.shape n) ≡ length vars → first_wrong (fields_demands known n 0 vars) ≡ None → FewFields known n → FewFields known (n + 1)
  class_judged n vars there d few =
      below_more (λ c. length (declared_fields known.shape c) ≤ FIELDS) n few (let l = fields_few known n 0 vars d (omega arith) in omega arith)

  mutual
    pub context_judged : (n m : ℕ) (c : ContextTree) → StandsAt known.shape n c → first_wrong (context_demands known n m c) ≡ None → FewFields known n → FewFields known (n + class_count c)
    context_judged n m (Context at name vars cs methods) there d few =
        let inside = contexts_demands known (n + 1) m cs in
        let own = methods_demands known n (m + length (methods_in (n + 1) cs)) methods in
        let a = first_wrong_parts (name_asks known n name) (fields_demands known n 0 vars ++ (inside ++ own)) d in
        let b = first_wrong_parts (fields_demands known n 0 vars) (inside ++ own) a.1 in
        let e = first_wrong_parts inside own b.1 in
        let count : n + 1 + classes_count cs ≡ n + (1 + classes_count cs) = omega arith in
        subst (FewFields known) count (contexts_judged (n + 1) m cs there.1 e.0 (class_judged n vars there.0 b.0 few))

    pub contexts_judged : (n m : ℕ) (cs : ContextTrees) → StandAt known.shape n cs → first_wrong (contexts_demands known n m cs) ≡ None → FewFields known n → FewFields known (n + classes_count cs)
    contexts_judged n m no_contexts there d few = let same : n ≡ n + 0 = omega arith in subst (FewFields known) same few
    contexts_judged n m (context_and c cs) there d few =
        let a = first_wrong_parts (context_demands known n m c) (contexts_demands known (n + class_count c) (m + length (methods_of n c)) cs) d in
        let count : n + class_count c + classes_count cs ≡ n + (class_count c + classes_count cs) = omega arith in
        subst (FewFields known) count (contexts_judged (n + class_count c) (m + length (methods_of n c)) cs there.1 a.1 (context_judged n m c there.0 a.0 few))

-- ---- one of several contexts

-- where it stands
pub stands_next : (shape : Shape) (at : ℕ × ℕ) (cs : List ContextDecl) (i : ℕ) (x : ContextDecl) → i < length cs → x ≡ get_or cs i x → StandAt shape at.0 (contexts_of (map context_tree cs))
    → StandsAt shape (ends next_context at (take i cs)).0 (context_tree x)
stands_next shape at [] i x l is there = absurd (omega arith)
stands_next shape at (c ∷ cs) zero x l is there = subst (λ y. StandsAt shape at.0 (context_tree y)) (sym is) there.0
stands_next shape at (c ∷ cs) (suc i) x l is there = stands_next shape (next_context at c) cs i x (omega arith) is there.1

-- its classes are some of theirs
pub room_next : (at : ℕ × ℕ) (cs : List ContextDecl) (i : ℕ) (x : ContextDecl) → i < length cs → x ≡ get_or cs i x
    → (ends next_context at (take i cs)).0 + class_count (context_tree x) ≤ at.0 + classes_count (contexts_of (map context_tree cs))
room_next at [] i x l is = absurd (omega arith)
room_next at (c ∷ cs) zero x l is = let e = ap (λ y. class_count (context_tree y)) is in omega arith
room_next at (c ∷ cs) (suc i) x l is = let h = room_next (next_context at c) cs i x (omega arith) is in omega arith

-- ---- a service, whose classes are those of its shape

abbrev HasFields : Shape → ℕ → Entry → Type 0
HasFields shape n e = declared_fields shape n ≡ e.info.fields

module _ (shape : Shape) where
  mutual
    stands : (above : List ℕ) (parent n : ℕ) (c : ContextTree) → Each (HasFields shape) n (classes_of above parent n c) → StandsAt shape n c
    stands above parent n (Context at name vars cs methods) has =
        let rest = classes_in (above ++ n ∷ []) n (n + 1) cs in
        let own : declared_fields shape n ≡ map field_info vars = each_first (HasFields shape) n _ rest has in
        (ap length own ∙ length-map vars field_info, stand (above ++ n ∷ []) n (n + 1) cs (each_rest (HasFields shape) n _ rest has))

    stand : (above : List ℕ) (parent n : ℕ) (cs : ContextTrees) → Each (HasFields shape) n (classes_in above parent n cs) → StandAt shape n cs
    stand above parent n no_contexts has = tt
    stand above parent n (context_and c cs) has =
        let front = classes_of above parent n c in
        let back = classes_in above parent (n + class_count c) cs in
        let count : n + length front ≡ n + class_count c = ap (λ m. n + m) (length-classes_of above parent n c) in (
          stands above parent n c (each_front (HasFields shape) n front back has),
          stand above parent (n + class_count c) cs (subst (λ m. Each (HasFields shape) m back) count (each_back (HasFields shape) n front back has)),
        )

module _ (s : ServiceTree) (known : Known) (is : known ≡ known_of s) where
  has_fields : Each (HasFields (shape_of s)) 0 (service_classes s)
  unfolding shape_of
  has_fields n d l =
      let all = service_classes s in
      let e : n ≡ 0 + n = omega arith in
      subst (λ m. declared_fields (shape_of s) m ≡ (get_or all n d).info.fields) e (fields_at all (shape_of s) refl n l ∙ ap (λ (x : Entry). x.info.fields) (get_or_default all n blank d l))

  same_shape : shape_of s ≡ known.shape
  unfolding known_of
  same_shape = ap (λ (k : Known). k.shape) (sym is)

  class_number : length known.shape.classes ≡ 1 + classes_count (contexts_of s.contexts)
  unfolding shape_of
  class_number =
      let rest = length-classes_in (0 ∷ []) 0 1 (contexts_of s.contexts) in
      let all = length-map (service_classes s) (λ (e : Entry). e.info) in
      let same = ap (λ (x : Shape). length x.classes) same_shape in
      omega arith

  pub service_stands : StandAt known.shape 1 (contexts_of s.contexts)
  service_stands =
      let rest = classes_in (0 ∷ []) 0 1 (contexts_of s.contexts) in
      subst (λ x. StandAt x 1 (contexts_of s.contexts)) same_shape (stand (shape_of s) (0 ∷ []) 0 1 (contexts_of s.contexts) (each_rest (HasFields (shape_of s)) 0 _ rest has_fields))

  pub root_stands : length (declared_fields known.shape 0) ≡ length s.vars
  root_stands =
      let rest = classes_in (0 ∷ []) 0 1 (contexts_of s.contexts) in
      ap (λ x. length (declared_fields x 0)) (sym same_shape) ∙ ap length (each_first (HasFields (shape_of s)) 0 (entry [] None s.name s.vars) rest has_fields) ∙ length-map s.vars field_info

  -- where all classes are judged, there are no others
  pub all_judged : FewFields known (1 + classes_count (contexts_of s.contexts)) → AllFew known
  all_judged few c = by (cases_lt c (1 + classes_count (contexts_of s.contexts)))
    where
      by : (c < 1 + classes_count (contexts_of s.contexts)) ⊎ (1 + classes_count (contexts_of s.contexts) ≤ c) → length (declared_fields known.shape c) ≤ FIELDS
      by (inl l) = few c l
      by (inr past) = let none = ap (λ o. length (fields_in o)) (slice_get_past known.shape.classes c (let count = class_number in omega arith)) in omega arith
