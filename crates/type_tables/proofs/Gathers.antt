-- What is gathered, one declaration after the other.
use Rattle.std.proofs.Common.{◌≡◌, ◌+◌, ◌<◌, ◌^◌, ℕ, List, [], ◌∷◌, ◌++◌, length, map, get_or, Some, None, set, take, refl, sym, ap, subst, ◌∙◌, append_assoc, arith, rules, Result, Ok, Err, OnOk}
use Rattle.std.proofs.lemmas.List.{append-nil, map-append, length-append, length-map, length-set, take_more}
use Rattle.wave_base.specs.declared.shape.ClassInfo.{ClassInfo}
use Rattle.wave_base.specs.declared.shape.EventInfo.{EventInfo}
use Rattle.wave_base.specs.declared.span.Span.{Span}
use Rattle.wave_base.specs.declared.version.Version.{Version}
use Rattle.mace_ast.specs.declared.name.Name.{Name}
use Rattle.mace_ast.specs.declared.field.VarDecl.{VarDecl}
use Rattle.mace_ast.specs.declared.context.ContextDecl.{ContextDecl, ContextDecl', out-ContextDecl, the_lemmas}
use Rattle.mace_ast.proofs.Rows.{row_contexts-items}
use Rattle.mace_ast.specs.Decls.{method_tree, context_tree, MethodTree, ContextTree, ContextTrees, Context, no_contexts, context_and, contexts_of, ServiceTree}
use Rattle.type_rules.specs.declared.known.Known.{Known}
use Rattle.type_rules.specs.declared.known.Signature.{Signature}
use Rattle.type_rules.specs.Known.{Entry, classes_of, classes_in, entry, methods_of, methods_in, signature, event_info, shape_of, known_of}
use Rattle.mace_ast.specs.Counts.{class_count, classes_count}
use Rattle.type_rules.proofs.Counts.{length-classes_in}
use Rattle.type_tables.specs.Indexed.{AreAbove}
use Rattle.type_tables.specs.declared.gather.Gathered.{Gathered}
use Rattle.type_tables.specs.inner.Gathering.{known_in, IsGathered, known_with, Gains}
use Rattle.name_table.specs.Numbers.{numbers_with}
use Rattle.type_tables.proofs.Indexing.{indexed_as, indexed_class, indexed_event, indexed_method}

-- ---- growing

pub grown_twice : (k : Known) (a b : List Entry) (c d : List Signature) (e f : List EventInfo) → known_with (known_with k a c e) b d f ≡ known_with k (a ++ b) (c ++ d) (e ++ f)
grown_twice k a b c d e f =
    (λ i. record {
      version = k.version;
      shape = record { classes = joined (λ (c : Entry). c.info) k.shape.classes a b i; events = append_assoc k.shape.events e f i };
      above = joined (λ (c : Entry). c.above) k.above a b i;
      methods = append_assoc k.methods c d i;
    })
  where
    joined : {X Y : Type 0} (g : X → Y) (ys : List Y) (a b : List X) → (ys ++ map g a) ++ map g b ≡ ys ++ map g (a ++ b)
    joined g ys a b = append_assoc ys (map g a) (map g b) ∙ ap (λ l. ys ++ l) (sym (map-append g a b))

-- first some, and then more
pub gains_twice : (g h j : Gathered) (a b : List Entry) (c d : List Signature) (e f : List EventInfo) → Gains g h a c e → Gains h j b d f → Gains g j (a ++ b) (c ++ d) (e ++ f)
gains_twice g h j a b c d e f first second = record {
  gathered = second.gathered;
  known = second.known ∙ ap (λ k. known_with k b d f) first.known ∙ grown_twice (known_in g) a b c d e f;
}

-- the same under other names
pub gains_as : (g h : Gathered) (a b : List Entry) (c d : List Signature) (e f : List EventInfo) → a ≡ b → c ≡ d → e ≡ f → Gains g h a c e → Gains g h b d f
gains_as g h a b c d e f p q r t = subst (λ x. Gains g h x d f) p (subst (λ x. Gains g h a x f) q (subst (λ x. Gains g h a c x) r t))

-- how many classes there are then
pub gains_classes : (g h : Gathered) (a : List Entry) (c : List Signature) (e : List EventInfo) → Gains g h a c e → length h.classes.items ≡ length g.classes.items + length a
gains_classes g h a c e t =
    ap (λ (k : Known). length k.shape.classes) t.known ∙ length-append g.classes.items (map (λ (c : Entry). c.info) a) ∙ ap (λ n. length g.classes.items + n) (length-map a (λ (c : Entry). c.info))

-- and how many methods
pub gains_methods : (g h : Gathered) (a : List Entry) (c : List Signature) (e : List EventInfo) → Gains g h a c e → length h.methods.items ≡ length g.methods.items + length c
gains_methods g h a c e t = ap (λ (k : Known). length k.methods) t.known ∙ length-append g.methods.items c

-- and how many events
pub gains_events : (g h : Gathered) (a : List Entry) (c : List Signature) (e : List EventInfo) → Gains g h a c e → length h.events.items ≡ length g.events.items + length e
gains_events g h a c e t = ap (λ (k : Known). length k.shape.events) t.known ∙ length-append g.events.items e

-- ---- classes of contexts

add3 : (n a b : ℕ) → n + a + b ≡ n + (a + b)
add3 n a b = omega arith

pub classes_push : (above : List ℕ) (parent n : ℕ) (cs : List ContextTree) (c : ContextTree)
    → classes_in above parent n (contexts_of (cs ++ c ∷ [])) ≡ classes_in above parent n (contexts_of cs) ++ classes_of above parent (n + classes_count (contexts_of cs)) c
classes_push above parent n [] c = append-nil (classes_of above parent n c) ∙ ap (λ m. classes_of above parent m c) (plus n)
  where
    plus : (n : ℕ) → n ≡ n + 0
    plus n = omega arith
classes_push above parent n (d ∷ cs) c =
    ap (λ l. classes_of above parent n d ++ l) (classes_push above parent (n + class_count d) cs c)
    ∙ sym (append_assoc (classes_of above parent n d) (classes_in above parent (n + class_count d) (contexts_of cs)) (classes_of above parent (n + class_count d + classes_count (contexts_of cs)) c))
    ∙ ap (λ m. classes_in above parent n (contexts_of (d ∷ cs)) ++ classes_of above parent m c) (add3 n (class_count d) (classes_count (contexts_of cs)))

pub methods_push : (n : ℕ) (cs : List ContextTree) (c : ContextTree) → methods_in n (contexts_of (cs ++ c ∷ [])) ≡ methods_in n (contexts_of cs) ++ methods_of (n + classes_count (contexts_of cs)) c
methods_push n [] c = append-nil (methods_of n c) ∙ ap (λ m. methods_of m c) (plus n)
  where
    plus : (n : ℕ) → n ≡ n + 0
    plus n = omega arith
methods_push n (d ∷ cs) c =
    ap (λ l. methods_of n d ++ l) (methods_push (n + class_count d) cs c)
    ∙ sym (append_assoc (methods_of n d) (methods_in (n + class_count d) (contexts_of cs)) (methods_of (n + class_count d + classes_count (contexts_of cs)) c))
    ∙ ap (λ m. methods_in n (contexts_of (d ∷ cs)) ++ methods_of m c) (add3 n (class_count d) (classes_count (contexts_of cs)))

-- a list up to an item and that item
pub map_more : {X Y : Type 0} (f : X → Y) (xs : List X) (i : ℕ) (x : X) → i < length xs → x ≡ get_or xs i x → map f (take (i + 1) xs) ≡ map f (take i xs) ++ f x ∷ []
map_more f xs i x l at = ap (map f) (take_more xs i x l) ∙ map-append f (take i xs) (get_or xs i x ∷ []) ∙ ap (λ y. map f (take i xs) ++ f y ∷ []) (sym at)

-- contexts up to one, and that one
pub gains_context : (g h j : Gathered) (above : List ℕ) (parent n : ℕ) (cs ds : List ContextTree) (c : ContextTree) → n ≡ length g.classes.items → ds ≡ cs ++ c ∷ []
    → Gains g h (classes_in above parent n (contexts_of cs)) (methods_in n (contexts_of cs)) []
    → Gains h j (classes_of above parent (length h.classes.items) c) (methods_of (length h.classes.items) c) []
    → Gains g j (classes_in above parent n (contexts_of ds)) (methods_in n (contexts_of ds)) []
gains_context g h j above parent n cs ds c start more first second =
    let number : length h.classes.items ≡ n + classes_count (contexts_of cs) =
    gains_classes g h _ _ _ first ∙ (λ i. sym start i + length-classes_in above parent n (contexts_of cs) i) in
    let both = gains_twice g h j _ _ _ _ _ _ first second in
    gains_as g j _ _ _ _ _ _
    (ap (λ m. classes_in above parent n (contexts_of cs) ++ classes_of above parent m c) number ∙ sym (classes_push above parent n cs c) ∙ ap (λ l. classes_in above parent n (contexts_of l)) (sym more))
    (ap (λ m. methods_in n (contexts_of cs) ++ methods_of m c) number ∙ sym (methods_push n cs c) ∙ ap (λ l. methods_in n (contexts_of l)) (sym more))
    refl both

-- a context by its parts
pub tree_parts : (c : ContextDecl) → context_tree c ≡ Context (out-ContextDecl c).at (out-ContextDecl c).name (out-ContextDecl c).vars (contexts_of (map context_tree (out-ContextDecl c).contexts.items)) (map method_tree (out-ContextDecl c).methods)
tree_parts (ContextDecl' at name vars s inner methods) = search (rules, the_lemmas, row_contexts-items)

-- ---- loops

-- a class, the contexts inside it, and then its methods
pub gains_inside : (g h j k : Gathered) (above inner : List ℕ) (parent n : ℕ) (at : Span) (name : Name) (vars : List VarDecl) (cs : List ContextTree) (ms : List MethodTree) (c : ContextTree)
    → c ≡ Context at name vars (contexts_of cs) ms → n ≡ length g.classes.items → inner ≡ above ++ n ∷ []
    → Gains g h (entry above (Some (record { 0 = parent })) name vars ∷ []) [] []
    → Gains h j (classes_in inner n (length h.classes.items) (contexts_of cs)) (methods_in (length h.classes.items) (contexts_of cs)) []
    → Gains j k [] (map (signature n) ms) []
    → Gains g k (classes_of above parent (length g.classes.items) c) (methods_of (length g.classes.items) c) []
gains_inside g h j k above inner parent n at name vars cs ms c parts start is first second third =
    let number : length h.classes.items ≡ n + 1 = gains_classes g h _ _ _ first ∙ ap (λ m. m + 1) (sym start) in
    let inside : Gains h j (classes_in (above ++ n ∷ []) n (n + 1) (contexts_of cs)) (methods_in (n + 1) (contexts_of cs)) [] =
    gains_as h j _ (classes_in (above ++ n ∷ []) n (n + 1) (contexts_of cs)) _ (methods_in (n + 1) (contexts_of cs)) _ _ (λ i. classes_in (is i) n (number i) (contexts_of cs)) (ap (λ m. methods_in m (contexts_of cs)) number) refl second in
    let all = gains_twice g h k _ _ _ _ _ _ first (gains_twice h j k _ _ _ _ _ _ inside third) in
    gains_as g k _ _ _ _ _ _
    (ap (λ l. entry above (Some (record { 0 = parent })) name vars ∷ l) (append-nil (classes_in (above ++ n ∷ []) n (n + 1) (contexts_of cs))) ∙ (λ i. classes_of above parent (start i) (sym parts i)))
    (λ i. methods_of (start i) (sym parts i))
    refl all

pub on_ok : {A E : Type 0} (P Q : Type 0) (r : Result A E) → (P → Q) → OnOk r P → OnOk r Q
on_ok P Q (Ok a) f p = f p
on_ok P Q (Err e) f p = p

-- ---- one declaration more

blank_more : {X : Type 0} (xs : List X) → xs ≡ xs ++ []
blank_more xs = sym (append-nil xs)

module _ (g h : Gathered) (is : IsGathered g) where
  pub class_gained : (info made : ClassInfo) (above : List ℕ) (name : List ℕ) → info ≡ made → info.name ≡ name → AreAbove (length g.classes.items) above → length g.classes.items + 1 < 2 ^ 16
      → h.version ≡ g.version → h.classes.items ≡ g.classes.items ++ info ∷ [] → h.above.items ≡ g.above.items ++ above ∷ [] → h.methods ≡ g.methods → h.events ≡ g.events
      → h.class_names ≡ numbers_with g.class_names name (length g.classes.items) → h.event_names ≡ g.event_names → h.method_names.items ≡ g.method_names.items ++ [] ∷ []
      → Gains g h (record { info = made; above = above } ∷ []) [] []
  class_gained info made above name same named earlier room version classes aboves methods events cn en mn =
      let known : known_in h ≡ record { version = g.version; shape = record { classes = g.classes.items ++ info ∷ []; events = g.events.items }; above = g.above.items ++ above ∷ []; methods = g.methods.items } =
      (λ i. record { version = version i; shape = record { classes = classes i; events = (events i).items }; above = aboves i; methods = (methods i).items }) in
      let base = indexed_class (known_in g) g.class_names g.event_names g.method_names.items is.indexed info above name named earlier is.aboves room in
      record {
        gathered = record {
          indexed = indexed_as _ _ _ _ _ _ _ _ (sym known) (sym cn) (sym en) (sym mn) base;
          tables = ap length mn ∙ length-append g.method_names.items ([] ∷ []) ∙ ap (λ n. n + 1) is.tables ∙ sym (ap length classes ∙ length-append g.classes.items (info ∷ []));
          aboves = ap length aboves ∙ length-append g.above.items (above ∷ []) ∙ ap (λ n. n + 1) is.aboves ∙ sym (ap length classes ∙ length-append g.classes.items (info ∷ []));
        };
        known = known ∙ (λ i. record { version = g.version; shape = record { classes = g.classes.items ++ same i ∷ []; events = blank_more g.events.items i }; above = g.above.items ++ above ∷ []; methods = blank_more g.methods.items i });
      }

  pub event_gained : (info made : EventInfo) (name : List ℕ) → info ≡ made → info.name ≡ name → length g.events.items + 1 < 2 ^ 16
      → h.version ≡ g.version → h.classes ≡ g.classes → h.above ≡ g.above → h.methods ≡ g.methods → h.events.items ≡ g.events.items ++ info ∷ []
      → h.class_names ≡ g.class_names → h.event_names ≡ numbers_with g.event_names name (length g.events.items) → h.method_names ≡ g.method_names
      → Gains g h [] [] (made ∷ [])
  event_gained info made name same named room version classes aboves methods events cn en mn =
      let known : known_in h ≡ record { version = g.version; shape = record { classes = g.classes.items; events = g.events.items ++ info ∷ [] }; above = g.above.items; methods = g.methods.items } =
      (λ i. record { version = version i; shape = record { classes = (classes i).items; events = events i }; above = (aboves i).items; methods = (methods i).items }) in
      let base = indexed_event (known_in g) g.class_names g.event_names g.method_names.items is.indexed info name named room in
      record {
        gathered = record {
          indexed = indexed_as _ _ _ _ _ _ _ _ (sym known) (sym cn) (sym en) (sym (ap (λ v. v.items) mn)) base;
          tables = ap (λ v. length v.items) mn ∙ is.tables ∙ sym (ap (λ v. length v.items) classes);
          aboves = ap (λ v. length v.items) aboves ∙ is.aboves ∙ sym (ap (λ v. length v.items) classes);
        };
        known = known ∙ (λ i. record { version = g.version; shape = record { classes = blank_more g.classes.items i; events = g.events.items ++ same i ∷ [] }; above = blank_more g.above.items i; methods = blank_more g.methods.items i });
      }

  pub method_gained : (s made : Signature) (class : ℕ) (name : List ℕ) → s ≡ made → s.class ≡ class → s.name ≡ name → class < length g.classes.items → length g.methods.items + 1 < 2 ^ 16
      → h.version ≡ g.version → h.classes ≡ g.classes → h.above ≡ g.above → h.methods.items ≡ g.methods.items ++ s ∷ [] → h.events ≡ g.events
      → h.class_names ≡ g.class_names → h.event_names ≡ g.event_names → h.method_names.items ≡ set g.method_names.items class (numbers_with (get_or g.method_names.items class []) name (length g.methods.items))
      → Gains g h [] (made ∷ []) []
  method_gained s made class name same in_class named there room version classes aboves methods events cn en mn =
      let known : known_in h ≡ record { version = g.version; shape = record { classes = g.classes.items; events = g.events.items }; above = g.above.items; methods = g.methods.items ++ s ∷ [] } =
      (λ i. record { version = version i; shape = record { classes = (classes i).items; events = (events i).items }; above = (aboves i).items; methods = methods i }) in
      let base = indexed_method (known_in g) g.class_names g.event_names g.method_names.items is.indexed s class name in_class named (subst (λ n. class < n) (sym is.tables) there) room in
      record {
        gathered = record {
          indexed = indexed_as _ _ _ _ _ _ _ _ (sym known) (sym cn) (sym en) (sym mn) base;
          tables = ap length mn ∙ length-set g.method_names.items class _ ∙ is.tables ∙ sym (ap (λ v. length v.items) classes);
          aboves = ap (λ v. length v.items) aboves ∙ is.aboves ∙ sym (ap (λ v. length v.items) classes);
        };
        known = known ∙ (λ i. record { version = g.version; shape = record { classes = blank_more g.classes.items i; events = blank_more g.events.items i }; above = blank_more g.above.items i; methods = g.methods.items ++ same i ∷ [] });
      }

-- ---- all of a service

abbrev pub nothing : Version → Known
nothing version = record { version = version; shape = record { classes = []; events = [] }; above = []; methods = [] }

pub service_gathered : (g h j k l : Gathered) (s : ServiceTree) → known_in g ≡ nothing s.version
    → Gains g h (entry [] None s.name s.vars ∷ []) [] []
    → Gains h j (classes_in (0 ∷ []) 0 (length h.classes.items) (contexts_of s.contexts)) (methods_in (length h.classes.items) (contexts_of s.contexts)) []
    → Gains j k [] (map (signature 0) s.methods) []
    → Gains k l [] [] (map event_info s.events)
    → IsGathered l × (known_in l ≡ known_of s)
unfolding known_of shape_of
service_gathered g h j k l s start first second third fourth =
    let cs = contexts_of s.contexts in
    let none : length g.classes.items ≡ 0 = ap (λ (k : Known). length k.shape.classes) start in
    let counted = gains_classes g h _ _ _ first in
    let number : length h.classes.items ≡ 1 = counted ∙ ap (λ n. n + 1) none in
    let inside : Gains h j (classes_in (0 ∷ []) 0 1 cs) (methods_in 1 cs) [] = gains_as h j _ _ _ _ _ _ (ap (λ n. classes_in (0 ∷ []) 0 n cs) number) (ap (λ n. methods_in n cs) number) refl second in
    let all = gains_twice g h l _ _ _ _ _ _ first (gains_twice h j l _ _ _ _ _ _ inside (gains_twice j k l _ _ _ _ _ _ third fourth)) in (
      all.gathered,
      all.known ∙ ap (λ k. known_with k (entry [] None s.name s.vars ∷ (classes_in (0 ∷ []) 0 1 cs ++ [])) (methods_in 1 cs ++ (map (signature 0) s.methods ++ [])) (map event_info s.events)) start
          ∙ (λ i. record {
            version = s.version;
            shape = record { classes = map (λ (c : Entry). c.info) (entry [] None s.name s.vars ∷ append-nil (classes_in (0 ∷ []) 0 1 cs) i); events = map event_info s.events };
            above = map (λ (c : Entry). c.above) (entry [] None s.name s.vars ∷ append-nil (classes_in (0 ∷ []) 0 1 cs) i);
            methods = methods_in 1 cs ++ append-nil (map (signature 0) s.methods) i;
          }),
    )
