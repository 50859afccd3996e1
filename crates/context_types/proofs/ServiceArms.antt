-- Contexts one after the other, and a context by its parts.
use Rattle.std.proofs.Common.{◌≡◌, ◌<◌, ◌+◌, ℕ, List, [], ◌∷◌, ◌++◌, length, map, get_or, take, None, refl, sym, ap, ◌∙◌, append_assoc, arith}
use Rattle.std.proofs.lemmas.List.{append-nil, length-append, length-map}
use Rattle.mace_ast.specs.declared.context.ContextDecl.{ContextDecl}
use Rattle.mace_ast.specs.declared.field.VarDecl.{VarDecl}
use Rattle.mace_ast.specs.declared.name.Name.{Name}
use Rattle.mace_ast.specs.Decls.{context_tree, ContextTree, ContextTrees, MethodTree, contexts_of}
use Rattle.resolved_service.specs.declared.service.Method.{Method}
use Rattle.type_rules.specs.declared.error.TypeError.{TypeError}
use Rattle.type_rules.specs.declared.known.Known.{Known}
use Rattle.type_rules.specs.declared.known.Signature.{Signature}
use Rattle.type_rules.specs.Demands.{Demand, first_wrong, Fails}
use Rattle.type_rules.specs.Known.{methods_of, methods_in}
use Rattle.mace_ast.specs.Counts.{class_count, classes_count}
use Rattle.type_rules.specs.Functions.{MethodView}
use Rattle.type_rules.specs.Services.{name_asks, fields_demands, methods_demands, context_demands, contexts_demands, resolve_context, resolve_contexts}
use Rattle.type_rules.specs.Views.{method_view}
use Rattle.type_rules.proofs.First.{holds_both, fails_front, fails_behind}
use Rattle.type_laws.proofs.Services.{context_signed, contexts_signed}
use Rattle.context_types.proofs.Walking.{ends, walk, makes, makes_more}

-- where a context stands: the number of its class, and of the first method in it
abbrev pub next_context : ℕ × ℕ → ContextDecl → ℕ × ℕ
next_context at c = (at.0 + class_count (context_tree c), at.1 + length (methods_of at.0 (context_tree c)))

abbrev pub joined : List (List MethodView) → List MethodView
joined [] = []
joined (vs ∷ vss) = vs ++ joined vss

joined_more : (vss : List (List MethodView)) (vs : List MethodView) → joined (vss ++ vs ∷ []) ≡ joined vss ++ vs
joined_more [] vs = append-nil vs
joined_more (us ∷ vss) vs = ap (λ l. us ++ l) (joined_more vss vs) ∙ sym (append_assoc us (joined vss) vs)

module _ (known : Known) where
  abbrev pub context_asks : ℕ × ℕ → ContextDecl → List Demand
  context_asks at c = context_demands known at.0 at.1 (context_tree c)

  abbrev pub context_made : ℕ × ℕ → ContextDecl → List MethodView
  context_made at c = resolve_context known at.0 at.1 (context_tree c)

  pub contexts_walk : (class n : ℕ) (cs : List ContextDecl) → contexts_demands known class n (contexts_of (map context_tree cs)) ≡ walk next_context context_asks (class, n) cs
  contexts_walk class n [] = refl
  contexts_walk class n (c ∷ cs) = ap (λ ds. context_asks (class, n) c ++ ds) (contexts_walk (class + class_count (context_tree c)) (n + length (methods_of class (context_tree c))) cs)

  pub contexts_made : (class n : ℕ) (cs : List ContextDecl) → resolve_contexts known class n (contexts_of (map context_tree cs)) ≡ joined (makes next_context context_made (class, n) cs)
  contexts_made class n [] = refl
  contexts_made class n (c ∷ cs) = ap (λ l. context_made (class, n) c ++ l) (contexts_made (class + class_count (context_tree c)) (n + length (methods_of class (context_tree c))) cs)

  -- one context more
  pub contexts_made_more : (at : ℕ × ℕ) (cs : List ContextDecl) (i : ℕ) (c : ContextDecl) (old made more : List MethodView) → i < length cs → c ≡ get_or cs i c
      → made ≡ old ++ joined (makes next_context context_made at (take i cs)) → more ≡ made ++ context_made (ends next_context at (take i cs)) c
      → more ≡ old ++ joined (makes next_context context_made at (take (i + 1) cs))
  contexts_made_more at cs i c old made more l is so_far pushed =
      let so = makes next_context context_made at (take i cs) in
      let new = context_made (ends next_context at (take i cs)) c in
      pushed ∙ ap (λ m. m ++ new) so_far ∙ append_assoc old (joined so) new ∙ ap (λ m. old ++ m) (sym (joined_more so new)) ∙ ap (λ m. old ++ joined m) (sym (makes_more next_context context_made at cs i c l is))

  -- how many methods are made
  pub count_context : (class n : ℕ) (c : ContextTree) (old new : List Method) → map method_view new ≡ map method_view old ++ resolve_context known class n c → length new ≡ length old + length (methods_of class c)
  count_context class n c old new made =
      sym (length-map new method_view) ∙ ap length made ∙ length-append (map method_view old) (resolve_context known class n c)
      ∙ (λ i. length-map old method_view i + (sym (length-map (resolve_context known class n c) signed) ∙ ap length (context_signed known class n c)) i)
    where
      signed : MethodView → Signature
      signed v = record { class = v.class; name = v.name; params = v.params; result = v.result }

  pub count_contexts : (class n : ℕ) (cs : ContextTrees) (old new : List Method) → map method_view new ≡ map method_view old ++ resolve_contexts known class n cs → length new ≡ length old + length (methods_in class cs)
  count_contexts class n cs old new made =
      sym (length-map new method_view) ∙ ap length made ∙ length-append (map method_view old) (resolve_contexts known class n cs)
      ∙ (λ i. length-map old method_view i + (sym (length-map (resolve_contexts known class n cs) signed) ∙ ap length (contexts_signed known class n cs)) i)
    where
      signed : MethodView → Signature
      signed v = record { class = v.class; name = v.name; params = v.params; result = v.result }

-- ---- numbers of classes

pub class_at : (at : ℕ × ℕ) (cs : List ContextDecl) → (ends next_context at cs).0 ≡ at.0 + classes_count (contexts_of (map context_tree cs))
class_at at [] = omega arith
class_at at (c ∷ cs) = let e = class_at (next_context at c) cs in omega arith

-- ---- a context by its parts

module _ (known : Known) (class n : ℕ) (name : Name) (vars : List VarDecl) (cs : ContextTrees) (ms : List MethodTree) where
  abbrev Own : List Demand
  Own = methods_demands known class (n + length (methods_in (class + 1) cs)) ms

  abbrev Inside : List Demand
  Inside = contexts_demands known (class + 1) n cs

  abbrev Fields : List Demand
  Fields = fields_demands known class 0 vars

  abbrev Named : List Demand
  Named = name_asks known class name

  abbrev pub Parts : List Demand
  Parts = Named ++ (Fields ++ (Inside ++ Own))

  pub name_fails : (e : TypeError) → Fails Named e → Fails Parts e
  name_fails e f = fails_front Named (Fields ++ (Inside ++ Own)) e f

  module _ (named : first_wrong Named ≡ None) where
    pub fields_fail : (e : TypeError) → Fails Fields e → Fails Parts e
    fields_fail e f = fails_behind Named (Fields ++ (Inside ++ Own)) e named (fails_front Fields (Inside ++ Own) e f)

    module _ (fields : first_wrong Fields ≡ None) where
      pub inside_fails : (e : TypeError) → Fails Inside e → Fails Parts e
      inside_fails e f = fails_behind Named (Fields ++ (Inside ++ Own)) e named (fails_behind Fields (Inside ++ Own) e fields (fails_front Inside Own e f))

      module _ (inner : first_wrong Inside ≡ None) where
        pub own_fails : (e : TypeError) → Fails Own e → Fails Parts e
        own_fails e f = fails_behind Named (Fields ++ (Inside ++ Own)) e named (fails_behind Fields (Inside ++ Own) e fields (fails_behind Inside Own e inner f))

        pub parts_hold : first_wrong Own ≡ None → first_wrong Parts ≡ None
        parts_hold own = holds_both Named (Fields ++ (Inside ++ Own)) named (holds_both Fields (Inside ++ Own) fields (holds_both Inside Own inner own))
