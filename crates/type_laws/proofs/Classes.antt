-- The shape of a typed service is a shape.
use Rattle.std.proofs.Common.{◌≡◌, ℕ, zero, suc, ◌+◌, ◌<◌, ◌≤◌, ◌^◌, true, nat_le, List, [], ◌∷◌, ◌++◌, length, map, get_or, position, slice_get, Some, None, refl, sym, ap, subst, ◌∙◌, arith}
use Rattle.std.specs.Option.{option_map}
use Rattle.std.proofs.lemmas.Bool.{leb-true}
use Rattle.std.proofs.lemmas.List.{length-append, length-map, get_or-map}
use Rattle.std.proofs.lemmas.Option.{slice_get-get_or, slice_get-map}
use Rattle.wave_base.specs.declared.limits.TheConstants.{CLASS_DEPTH}
use Rattle.wave_base.specs.declared.shape.ClassInfo.{ClassInfo}
use Rattle.wave_base.specs.declared.shape.FieldInfo.{FieldInfo}
use Rattle.wave_base.specs.declared.shape.EventInfo.{EventInfo}
use Rattle.wave_base.specs.declared.shape.Shape.{Shape}
use Rattle.wave_base.specs.declared.value.Kind.{Kind}
use Rattle.wave_base.specs.declared.value.Kind.TheVariants as k
use Rattle.wave_base.specs.Names.{all_differ, same_bytes}
use Rattle.wave_base.specs.Shapes.{parent_in, parent_class, passes_root, fields_in, declared_fields, HasInitials, IsShape}
use Rattle.mace_ast.specs.Decls.{EventTree, ContextTree, ContextTrees, Context, no_contexts, context_and, contexts_of, ServiceTree}
use Rattle.type_rules.specs.Kinds.{same_kind}
use Rattle.type_rules.specs.Known.{Entry, entry, event_info, above_of, none_before, classes_of, classes_in, service_classes, shape_of, known_of}
use Rattle.mace_ast.specs.Counts.{class_count}
use Rattle.type_rules.specs.Services.{IsTyped}
use Rattle.type_rules.proofs.Counts.{length-classes_of}
use Rattle.type_laws.specs.Differ.{NamesDiffer}
use Rattle.type_laws.proofs.Each.{Each, each_none, each_first, each_rest, each_cons, each_front, each_back, each_both, each_self, all_of_each}
use Rattle.type_laws.proofs.Names.{names_of_first}
use Rattle.type_laws.proofs.Sound.{Sound, events_sound, parts, classes_sound}

pub blank : Entry
blank = record { info = record { name = []; parent = None; fields = [] }; above = [] }

-- a class in an earlier one, whose parents are those of that one and that one
pub record Under (all : List Entry) (n : ℕ) (e : Entry) : Type 0 where
  pub parent : ℕ
  pub is_parent : e.info.parent ≡ Some (record { 0 = parent })
  pub earlier : parent < n
  pub above : e.above ≡ (get_or all parent blank).above ++ parent ∷ []

module _ (all : List Entry) where
  abbrev Agrees : ℕ → Entry → Type 0
  Agrees i e = get_or all i blank ≡ e

  mutual
    context_under : (above : List ℕ) (parent n : ℕ) (c : ContextTree) → Each Agrees n (classes_of above parent n c) → parent < n → above ≡ (get_or all parent blank).above ++ parent ∷ []
        → Each (Under all) n (classes_of above parent n c)
    context_under above parent n (Context at name vars contexts methods) agrees earlier is =
        let rest = classes_in (above ++ n ∷ []) n (n + 1) contexts in
        let own = entry above (Some (record { 0 = parent })) name vars in
        each_cons (Under all) n own rest (record { parent = parent; is_parent = refl; earlier = earlier; above = is })
        (contexts_under (above ++ n ∷ []) n (n + 1) contexts (each_rest Agrees n own rest agrees) (omega arith) (ap (λ (e : Entry). e.above ++ n ∷ []) (sym (each_first Agrees n own rest agrees))))

    contexts_under : (above : List ℕ) (parent n : ℕ) (cs : ContextTrees) → Each Agrees n (classes_in above parent n cs) → parent < n → above ≡ (get_or all parent blank).above ++ parent ∷ []
        → Each (Under all) n (classes_in above parent n cs)
    contexts_under above parent n no_contexts agrees earlier is = each_none (Under all) n
    contexts_under above parent n (context_and c cs) agrees earlier is =
        let front = classes_of above parent n c in
        let back = classes_in above parent (n + class_count c) cs in
        let count : n + length front ≡ n + class_count c = ap (λ m. n + m) (length-classes_of above parent n c) in
        each_both (Under all) n front back
        (context_under above parent n c (each_front Agrees n front back agrees) earlier is)
        (subst (λ m. Each (Under all) m back) (sym count) (contexts_under above parent (n + class_count c) cs (subst (λ m. Each Agrees m back) count (each_back Agrees n front back agrees)) (omega arith) is))

pub service_under : (s : ServiceTree) (n : ℕ) → suc n < length (service_classes s) → Under (service_classes s) (suc n) (get_or (service_classes s) (suc n) blank)
service_under s n l =
    let all = service_classes s in
    let root = entry [] None s.name s.vars in
    let rest = classes_in (0 ∷ []) 0 1 (contexts_of s.contexts) in
    let under : Each (Under all) 1 rest = contexts_under all (0 ∷ []) 0 1 (contexts_of s.contexts) (each_rest (Agrees all) 0 root rest (each_self blank all)) (omega arith) refl in
    let e : 1 + n ≡ suc n = omega arith in
    subst (λ m. Under all m (get_or rest n blank)) e (under n blank (omega arith))

-- ---- the shape, by the entries

module _ (all : List Entry) (shape : Shape) (is : shape.classes ≡ map (λ e. e.info) all) where
  class_at : (n : ℕ) → n < length all → slice_get shape.classes n ≡ Some (get_or all n blank).info
  class_at n l = ap (λ cs. slice_get cs n) is ∙ slice_get-map (λ (e : Entry). e.info) all n ∙ ap (option_map (λ (e : Entry). e.info)) (slice_get-get_or all n blank l)

  parent_at : (n : ℕ) → n < length all → parent_class shape n ≡ (get_or all n blank).info.parent
  parent_at n l = ap parent_in (class_at n l)

  pub fields_at : (n : ℕ) → n < length all → declared_fields shape n ≡ (get_or all n blank).info.fields
  fields_at n l = ap fields_in (class_at n l)

  count_classes : length shape.classes ≡ length all
  count_classes = ap length is ∙ length-map all (λ (e : Entry). e.info)

  -- from a class on, the parents lead past the root
  climbs : (root : (get_or all 0 blank).info.parent ≡ None) (under : (n : ℕ) → suc n < length all → Under all (suc n) (get_or all (suc n) blank))
      → (bound n levels : ℕ) → n ≤ bound → n < length all → length (get_or all n blank).above ≤ levels → passes_root shape levels (parent_class shape n) ≡ true
  climbs root under bound zero levels b l h = ap (passes_root shape levels) (parent_at 0 l ∙ root) ∙ none levels
    where
      none : (levels : ℕ) → passes_root shape levels None ≡ true
      none zero = refl
      none (suc n) = refl
  climbs root under zero (suc n) levels b l h = absurd (omega arith)
  climbs root under (suc bound) (suc n) zero b l h =
      let u = under n l in
      let e : length (get_or all (suc n) blank).above ≡ length (get_or all u.parent blank).above + 1 = ap length u.above ∙ length-append (get_or all u.parent blank).above (u.parent ∷ []) in
      absurd (omega arith)
  climbs root under (suc bound) (suc n) (suc levels) b l h =
      let u = under n l in
      let earlier : u.parent < suc n = u.earlier in
      let e : length (get_or all (suc n) blank).above ≡ length (get_or all u.parent blank).above + 1 = ap length u.above ∙ length-append (get_or all u.parent blank).above (u.parent ∷ []) in
      ap (passes_root shape (suc levels)) (parent_at (suc n) l ∙ u.is_parent)
      ∙ climbs root under bound u.parent levels (omega arith) (omega arith) (omega arith)

same_kind_true : (a b : Kind) → same_kind a b ≡ true → a ≡ b
same_kind_true k.Int k.Int h = refl
same_kind_true k.Bool k.Bool h = refl
same_kind_true k.Text k.Text h = refl
same_kind_true k.Map k.Map h = refl
same_kind_true k.Int k.Bool h = cc
same_kind_true k.Int k.Text h = cc
same_kind_true k.Int k.Map h = cc
same_kind_true k.Bool k.Int h = cc
same_kind_true k.Bool k.Text h = cc
same_kind_true k.Bool k.Map h = cc
same_kind_true k.Text k.Int h = cc
same_kind_true k.Text k.Bool h = cc
same_kind_true k.Text k.Map h = cc
same_kind_true k.Map k.Int h = cc
same_kind_true k.Map k.Bool h = cc
same_kind_true k.Map k.Text h = cc

pub typed_shape : (s : ServiceTree) → IsTyped s → length (shape_of s).classes < 2 ^ 16 → length (shape_of s).events < 2 ^ 16 → IsShape (shape_of s)
unfolding shape_of known_of
typed_shape s typed few_classes few_events =
    let all = service_classes s in
    let shape = shape_of s in
    let sound = classes_sound s (parts s typed) in
    let count : length shape.classes ≡ length all = count_classes all shape refl in
    record {
      root = ((get_or all 0 blank).info, class_at all shape refl 0 (omega arith), refl);
      parents = λ n l.
          (let u = service_under s n (omega arith) in
          let earlier : u.parent < suc n = u.earlier in
          (record { 0 = u.parent }, parent_at all shape refl (suc n) (omega arith) ∙ u.is_parent, omega arith));
      depth = λ n l.
          (let d = sound n blank (omega arith) in
          let e : 0 + n ≡ n = omega arith in
          let above : above_of (known_of s) n ≡ (get_or all n blank).above = get_or-map (λ (e : Entry). e.above) all n blank [] (omega arith) in
          climbs all shape refl refl (service_under s) n n CLASS_DEPTH (omega arith) (omega arith)
          (leb-true _ CLASS_DEPTH (ap (λ a. nat_le (length a) CLASS_DEPTH) (sym above) ∙ subst (λ m. nat_le (length (above_of (known_of s) m)) CLASS_DEPTH ≡ true) e d.deep)));
      initials = all_of_each (λ (e : Entry). e.info) HasInitials (Sound (known_of s)) 0 blank all (λ i e d. λ j f l. same_kind_true _ _ (d.fields j f l).initial) sound;
      few_classes = few_classes;
      few_events = few_events;
    }

-- ---- names

pub typed_names : (s : ServiceTree) → IsTyped s → NamesDiffer (shape_of s)
unfolding shape_of known_of
typed_names s typed =
    let all = service_classes s in
    let shape = shape_of s in
    let known = known_of s in
    let p = parts s typed in
    let sound = classes_sound s p in
    let count : length shape.classes ≡ length all = count_classes all shape refl in
    let plus : (n : ℕ) → 0 + n ≡ n = λ n. omega arith in
    record {
      classes = names_of_first (λ (c : ClassInfo). c.name) shape.classes
          (λ n d l.
          (let e : get_or shape.classes n d ≡ (get_or all n blank).info = get_or-map (λ (e : Entry). e.info) all n blank d (omega arith) in
          subst (λ (c : ClassInfo). none_before n (position (λ (x : ClassInfo). same_bytes x.name c.name) shape.classes) ≡ true) (sym e)
          (subst (λ m. none_before m (position (λ (x : ClassInfo). same_bytes x.name (get_or all n blank).info.name) shape.classes) ≡ true) (plus n) (sound n blank (omega arith)).new)));
      events = names_of_first (λ (e : EventInfo). e.name) shape.events
          (λ n d l.
          (let short : n < length s.events = subst (λ m. n < m) (length-map s.events event_info) l in
          let none : EventTree = get_or s.events n (no_event s) in
          let e : get_or shape.events n d ≡ event_info (get_or s.events n (no_event s)) = get_or-map event_info s.events n (no_event s) d short in
          subst (λ (c : EventInfo). none_before n (position (λ (x : EventInfo). same_bytes x.name c.name) shape.events) ≡ true) (sym e)
          (subst (λ m. none_before m (position (λ (x : EventInfo). same_bytes x.name (get_or s.events n (no_event s)).name.text) shape.events) ≡ true) (plus n)
          (events_sound known 0 s.events p.events n (no_event s) short))));
      fields = λ n d l.
          (let e : get_or shape.classes n d ≡ (get_or all n blank).info = get_or-map (λ (e : Entry). e.info) all n blank d (omega arith) in
          subst (λ (c : ClassInfo). all_differ (map (λ (f : FieldInfo). f.name) c.fields) ≡ true) (sym e)
          (names_of_first (λ (f : FieldInfo). f.name) (get_or all n blank).info.fields
          (λ j f k.
          (let there = fields_at all shape refl n (omega arith) in
          subst (λ m. none_before m (position (λ (x : FieldInfo). same_bytes x.name (get_or (get_or all n blank).info.fields j f).name) (get_or all n blank).info.fields) ≡ true) (plus j)
          (subst (λ fs. none_before (0 + j) (position (λ (x : FieldInfo). same_bytes x.name (get_or (get_or all n blank).info.fields j f).name) fs) ≡ true) there
          (subst (λ m. none_before (0 + j) (position (λ (x : FieldInfo). same_bytes x.name (get_or (get_or all n blank).info.fields j f).name) (declared_fields shape m)) ≡ true) (plus n)
          ((sound n blank (omega arith)).fields j f k).new))))));
    }
  where
    no_event : ServiceTree → EventTree
    no_event s = record { at = s.at; name = s.name; params = []; result = None; here = None; phases = []; last = None }
