-- The names of a tree whose words can stand in a text are words of at most 64 bytes.
use Rattle.std.proofs.Common.{◌≡◌, ℕ, ◌+◌, true, List, [], ◌∷◌, ◌++◌, length, map, Some, None, refl, ap, subst}
use Rattle.std.specs.Cmp.Derive.{both_true}
use Rattle.std.specs.List.{list_all}
use Rattle.std.proofs.lemmas.Bool.{le-leb}
use Rattle.wave_base.specs.declared.shape.ClassInfo.{ClassInfo}
use Rattle.wave_base.specs.Names.{is_name}
use Rattle.mace_lexer.specs.declared.token.Word.{Word}
use Rattle.mace_lexer.specs.declared.token.Word.TheVariants as word
use Rattle.mace_lexer.specs.declared.sign.Sign.TheVariants as s
use Rattle.mace_ast.specs.Counts.{class_count}
use Rattle.mace_ast.specs.declared.field.VarDecl.{VarDecl}
use Rattle.mace_ast.specs.Decls.{EventTree, ContextTree, ContextTrees, Context, no_contexts, context_and, contexts_of, ServiceTree}
use Rattle.mace_printer.specs.Canon.{all_of, var_words, method_words, event_words, context_words, contexts_words, version_words, service_words}
use Rattle.mace_printer.proofs.Standing.{CanStand, Stand}
use Rattle.type_rules.specs.Known.{Entry, entry, field_info, event_info, classes_of, classes_in, service_classes}
use Rattle.type_laws.proofs.Each.{Each, each_none, each_first, each_rest, each_cons, each_both}

-- ---- words

stand_front : (us vs : List Word) → Stand (us ++ vs) → Stand us
stand_front [] vs h = tt
stand_front (u ∷ us) vs h = (h.0, stand_front us vs h.1)

stand_back : (us vs : List Word) → Stand (us ++ vs) → Stand vs
stand_back [] vs h = h
stand_back (u ∷ us) vs h = stand_back us vs h.1

standing_name : (t : List ℕ) → CanStand (word.Name t) → is_name t ≡ true
standing_name t h = both_true h.0 (le-leb (length t) 64 h.1)

-- ---- fields and events

fields_named : (vs : List VarDecl) → Stand (all_of var_words vs) → list_all is_name (map (λ f. f.name) (map field_info vs)) ≡ true
fields_named [] h = refl
fields_named (v ∷ vs) h = both_true (standing_name v.name.text h.1.0) (fields_named vs (stand_back (var_words v) (all_of var_words vs) h))

events_named : (es : List EventTree) → Stand (all_of event_words es) → list_all is_name (map (λ e. e.name) (map event_info es)) ≡ true
events_named [] h = refl
events_named (e ∷ es) h = both_true (standing_name e.name.text h.1.0) (events_named es (stand_back (event_words e) (all_of event_words es) h))

-- ---- classes

-- a class and its fields, whatever its number
pub record Named (e : Entry) : Type 0 where
  pub own : is_name e.info.name ≡ true
  pub fields : list_all is_name (map (λ f. f.name) e.info.fields) ≡ true

abbrev pub Is : ℕ → Entry → Type 0
Is n e = Named e

mutual
  context_named : (above : List ℕ) (parent n : ℕ) (c : ContextTree) → Stand (context_words c) → Each Is n (classes_of above parent n c)
  context_named above parent n (Context at x vars contexts methods) h =
      let ends : List Word = all_of method_words methods ++ word.Sign s.RightBrace ∷ [] in
      let fields : List Word = all_of var_words vars in
      let inner : List Word = contexts_words contexts in
      let inside : Stand (fields ++ (inner ++ ends)) = h.1.1.1.1.1.1 in
      each_cons Is n (entry above (Some (record { 0 = parent })) x vars) (classes_in (above ++ n ∷ []) n (n + 1) contexts)
      (record { own = standing_name x.text h.1.0; fields = fields_named vars (stand_front fields (inner ++ ends) inside) })
      (contexts_named (above ++ n ∷ []) n (n + 1) contexts (stand_front inner ends (stand_back fields (inner ++ ends) inside)))

  contexts_named : (above : List ℕ) (parent n : ℕ) (cs : ContextTrees) → Stand (contexts_words cs) → Each Is n (classes_in above parent n cs)
  contexts_named above parent n no_contexts h = each_none Is n
  contexts_named above parent n (context_and c cs) h =
      each_both Is n (classes_of above parent n c) (classes_in above parent (n + class_count c) cs)
      (context_named above parent n c (stand_front (context_words c) (contexts_words cs) h))
      (contexts_named above parent (n + class_count c) cs (stand_back (context_words c) (contexts_words cs) h))

pub class_names : (es : List Entry) → Each Is 0 es → list_all is_name (map (λ (c : ClassInfo). c.name) (map (λ (e : Entry). e.info) es)) ≡ true
class_names [] h = refl
class_names (e ∷ es) h = both_true (each_first Is 0 e es h).own (class_names es (each_rest Is 0 e es h))

-- ---- all of a service

all_contexts : (cs : List ContextTree) → all_of context_words cs ≡ contexts_words (contexts_of cs)
all_contexts [] = refl
all_contexts (c ∷ cs) = ap (λ ws. context_words c ++ ws) (all_contexts cs)

-- its classes with their fields, and its events
pub record AreNamed (t : ServiceTree) : Type 0 where
  pub classes : Each Is 0 (service_classes t)
  pub events : list_all is_name (map (λ e. e.name) (map event_info t.events)) ≡ true

pub names_stand : (t : ServiceTree) → Stand (service_words t) → AreNamed t
unfolding service_words
names_stand t h =
    let events : List Word = all_of event_words t.events ++ word.Sign s.RightBrace ∷ [] in
    let methods : List Word = all_of method_words t.methods ++ events in
    let contexts : List Word = all_of context_words t.contexts in
    let fields : List Word = all_of var_words t.vars in
    let behind : Stand (version_words t.version ++ word.Sign s.LeftBrace ∷ (fields ++ (contexts ++ methods))) = h.1.1 in
    let members : Stand (fields ++ (contexts ++ methods)) = (stand_back (version_words t.version) (word.Sign s.LeftBrace ∷ (fields ++ (contexts ++ methods))) behind).1 in
    let rest : Stand (contexts ++ methods) = stand_back fields (contexts ++ methods) members in
    let last : Stand events = stand_back (all_of method_words t.methods) events (stand_back contexts methods rest) in
    record {
      classes = each_cons Is 0 (entry [] None t.name t.vars) (classes_in (0 ∷ []) 0 1 (contexts_of t.contexts))
          (record { own = standing_name t.name.text h.1.0; fields = fields_named t.vars (stand_front fields (contexts ++ methods) members) })
          (contexts_named (0 ∷ []) 0 1 (contexts_of t.contexts) (subst Stand (all_contexts t.contexts) (stand_front contexts methods rest)));
      events = events_named t.events (stand_front (all_of event_words t.events) (word.Sign s.RightBrace ∷ []) last);
    }
