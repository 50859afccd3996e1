-- What is known of each class of a typed service.
use Rattle.std.proofs.Common.{◌≡◌, ℕ, ◌+◌, ◌≤◌, ◌<◌, Bool, true, false, nat_le, nat_lt, List, [], ◌∷◌, ◌++◌, length, map, Some, None, refl, sym, ap, subst, ◌∙◌, arith}
use Rattle.std.specs.Prelude.{if◌then◌else◌}
use Rattle.std.proofs.lemmas.Bool.{ltb-true}
use Rattle.wave_base.specs.declared.limits.TheConstants.{CLASS_DEPTH, FIELDS}
use Rattle.wave_base.specs.declared.shape.FieldInfo.{FieldInfo}
use Rattle.wave_base.specs.Values.{kind_of}
use Rattle.mace_ast.specs.declared.field.VarDecl.{VarDecl}
use Rattle.mace_ast.specs.Decls.{EventTree, ContextTree, ContextTrees, Context, no_contexts, context_and, contexts_of, ServiceTree}
use Rattle.type_rules.specs.declared.known.Known.{Known}
use Rattle.type_rules.specs.Demands.{Demand, first_wrong}
use Rattle.type_rules.specs.Kinds.{same_kind}
use Rattle.type_rules.specs.Known.{Entry, field_info, class_named, event_named, field_named, above_of, none_before, classes_of, classes_in, service_classes, methods_of, methods_in, known_of}
use Rattle.mace_ast.specs.Counts.{class_count}
use Rattle.type_rules.specs.Functions.{event_demands}
use Rattle.type_rules.specs.Services.{name_asks, field_asks, fields_demands, methods_demands, context_demands, contexts_demands, events_demands, service_demands, IsTyped}
use Rattle.type_rules.proofs.Counts.{length-classes_of}
use Rattle.type_rules.proofs.First.{first_wrong_parts}
use Rattle.type_laws.proofs.Each.{Each, each_none, each_cons, each_both}

-- each of these demands holds
abbrev pub AllHold : List Demand → Type 0
AllHold [] = Unit {0}
AllHold (d ∷ ds) = (d.holds ≡ true) × AllHold ds

pub all_hold : (ds : List Demand) → first_wrong ds ≡ None → AllHold ds
all_hold [] h = tt
all_hold (d ∷ ds) h = by d.holds refl h (λ k. all_hold ds k)
  where
    by : (b : Bool) → d.holds ≡ b → (if b then first_wrong ds else Some d.wrong) ≡ None → (first_wrong ds ≡ None → AllHold ds) → (d.holds ≡ true) × AllHold ds
    by true e h below = (e, below h)
    by false e h below = cc

pub none_wrong : (ds : List Demand) → AllHold ds → first_wrong ds ≡ None
none_wrong [] h = refl
none_wrong (d ∷ ds) h = ap (λ b. if b then first_wrong ds else Some d.wrong) h.0 ∙ none_wrong ds h.1

-- a field with a number
pub record FieldSound (known : Known) (class field : ℕ) (f : FieldInfo) : Type 0 where
  pub new : none_before field (field_named known class f.name) ≡ true
  pub initial : same_kind (kind_of f.initial) f.kind ≡ true

-- a class with a number
pub record Sound (known : Known) (class : ℕ) (e : Entry) : Type 0 where
  pub new : none_before class (class_named known e.info.name) ≡ true
  pub deep : nat_le (length (above_of known class)) CLASS_DEPTH ≡ true
  pub fields : Each (FieldSound known class) 0 e.info.fields

module _ (known : Known) where
  field_sound : (class field : ℕ) (f : VarDecl) → first_wrong (field_asks known class field f) ≡ None → FieldSound known class field (field_info f)
  field_sound class field f h =
      let a = all_hold (field_asks known class field f) h in record { new = a.0; initial = a.1.1.0 }

  fields_sound : (class n : ℕ) (fs : List VarDecl) → first_wrong (fields_demands known class n fs) ≡ None → Each (FieldSound known class) n (map field_info fs)
  fields_sound class n [] h = each_none (FieldSound known class) n
  fields_sound class n (f ∷ fs) h =
      let p = first_wrong_parts (field_asks known class n f) (fields_demands known class (n + 1) fs) h in
      each_cons (FieldSound known class) n (field_info f) (map field_info fs) (field_sound class n f p.0) (fields_sound class (n + 1) fs p.1)

  -- the number of each field is below their limit
  pub fields_few : (class n : ℕ) (fs : List VarDecl) → first_wrong (fields_demands known class n fs) ≡ None → n ≤ FIELDS → n + length fs ≤ FIELDS
  fields_few class n [] h few = omega arith
  fields_few class n (f ∷ fs) h few =
      let p = first_wrong_parts (field_asks known class n f) (fields_demands known class (n + 1) fs) h in
      let l = ltb-true n FIELDS (all_hold (field_asks known class n f) p.0).1.0 in
      let rest = fields_few class (n + 1) fs p.1 (omega arith) in
      omega arith

module _ (known : Known) where
  mutual
    pub context_sound : (above : List ℕ) (parent class method : ℕ) (c : ContextTree) → first_wrong (context_demands known class method c) ≡ None → Each (Sound known) class (classes_of above parent class c)
    context_sound above parent class method (Context at name vars contexts methods) h =
        let own = methods_demands known class (method + length (methods_in (class + 1) contexts)) methods in
        let a = first_wrong_parts (name_asks known class name) (fields_demands known class 0 vars ++ (contexts_demands known (class + 1) method contexts ++ own)) h in
        let b = first_wrong_parts (fields_demands known class 0 vars) (contexts_demands known (class + 1) method contexts ++ own) a.1 in
        let d = first_wrong_parts (contexts_demands known (class + 1) method contexts) own b.1 in
        let n = all_hold (name_asks known class name) a.0 in
        each_cons (Sound known) class _ (classes_in (above ++ class ∷ []) class (class + 1) contexts)
        (record { new = n.0; deep = n.1.0; fields = fields_sound known class 0 vars b.0 })
        (contexts_sound (above ++ class ∷ []) class (class + 1) method contexts d.0)

    pub contexts_sound : (above : List ℕ) (parent class method : ℕ) (cs : ContextTrees) → first_wrong (contexts_demands known class method cs) ≡ None → Each (Sound known) class (classes_in above parent class cs)
    contexts_sound above parent class method no_contexts h = each_none (Sound known) class
    contexts_sound above parent class method (context_and c cs) h =
        let a = first_wrong_parts (context_demands known class method c) (contexts_demands known (class + class_count c) (method + length (methods_of class c)) cs) h in
        each_both (Sound known) class (classes_of above parent class c) (classes_in above parent (class + class_count c) cs)
        (context_sound above parent class method c a.0)
        (subst (λ n. Each (Sound known) n (classes_in above parent (class + class_count c) cs)) (ap (λ n. class + n) (sym (length-classes_of above parent class c)))
        (contexts_sound above parent (class + class_count c) _ cs a.1))

  -- an event with a number
  abbrev pub EventSound : ℕ → EventTree → Type 0
  EventSound n e = none_before n (event_named known e.name.text) ≡ true

  pub events_sound : (n : ℕ) (es : List EventTree) → first_wrong (events_demands known n es) ≡ None → Each EventSound n es
  events_sound n [] h = each_none EventSound n
  events_sound n (e ∷ es) h =
      let p = first_wrong_parts (event_demands known n e) (events_demands known (n + 1) es) h in
      each_cons EventSound n e es (all_hold (event_demands known n e) p.0).0 (events_sound (n + 1) es p.1)

-- ---- all of a service

pub record Parts (known : Known) (s : ServiceTree) : Type 0 where
  pub name : first_wrong (name_asks known 0 s.name) ≡ None
  pub fields : first_wrong (fields_demands known 0 0 s.vars) ≡ None
  pub contexts : first_wrong (contexts_demands known 1 0 (contexts_of s.contexts)) ≡ None
  pub methods : first_wrong (methods_demands known 0 (length (methods_in 1 (contexts_of s.contexts))) s.methods) ≡ None
  pub events : first_wrong (events_demands known 0 s.events) ≡ None

pub parts : (s : ServiceTree) → IsTyped s → Parts (known_of s) s
unfolding service_demands
parts s h =
    let known = known_of s in
    let own = methods_demands known 0 (length (methods_in 1 (contexts_of s.contexts))) s.methods in
    let contexts = contexts_demands known 1 0 (contexts_of s.contexts) in
    let events = events_demands known 0 s.events in
    let a = first_wrong_parts (name_asks known 0 s.name) (fields_demands known 0 0 s.vars ++ (contexts ++ (own ++ events))) h in
    let b = first_wrong_parts (fields_demands known 0 0 s.vars) (contexts ++ (own ++ events)) a.1 in
    let c = first_wrong_parts contexts (own ++ events) b.1 in
    let d = first_wrong_parts own events c.1 in
    record { name = a.0; fields = b.0; contexts = c.0; methods = d.0; events = d.1 }

pub classes_sound : (s : ServiceTree) → Parts (known_of s) s → Each (Sound (known_of s)) 0 (service_classes s)
classes_sound s p =
    let known = known_of s in
    let n = all_hold (name_asks known 0 s.name) p.name in
    each_cons (Sound known) 0 _ _
    (record { new = n.0; deep = n.1.0; fields = fields_sound known 0 0 s.vars p.fields })
    (contexts_sound known (0 ∷ []) 0 1 0 (contexts_of s.contexts) p.contexts)
