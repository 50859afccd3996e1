-- The methods and events that tokens spell are bounded where the numbers and texts of the tokens are within the limits, and so is what
-- fields begin with.
use Rattle.std.proofs.Common.{◌≡◌, ℕ, ◌+◌, List, [], ◌∷◌, ◌++◌, length, map, Option, Some, None, FitsSigned, w64, subst, sym}
use Rattle.std.specs.Option.{option_map, option_map_or}
use Rattle.std.specs.Int.{int_wrapping_neg}
use Rattle.std.proofs.lemmas.Int.{SFits-int_wrap, wrapping_neg_is}
use Rattle.std.proofs.lemmas.List.Elements.{All-from_recursion, All-nil}
use Rattle.wave_base.proofs.Places.{table_none}
use Rattle.wave_base.specs.declared.path.Class.{Class}
use Rattle.wave_base.specs.declared.shape.FieldInfo.{FieldInfo}
use Rattle.wave_base.specs.declared.span.Span.{Span}
use Rattle.wave_base.specs.declared.version.Version.{Version}
use Rattle.mace_lexer.specs.declared.keyword.Keyword.{Keyword}
use Rattle.mace_lexer.specs.declared.keyword.Keyword.TheVariants as k
use Rattle.mace_lexer.specs.declared.sign.Sign.TheVariants as s
use Rattle.mace_lexer.specs.declared.token.Word.{Word}
use Rattle.mace_lexer.specs.declared.token.Word.TheVariants as word
use Rattle.mace_ast.specs.declared.field.Initial.{Initial}
use Rattle.mace_ast.specs.declared.field.Literal.TheVariants as lit
use Rattle.mace_ast.specs.declared.field.VarDecl.{VarDecl}
use Rattle.mace_ast.specs.declared.name.Name.{Name}
use Rattle.mace_ast.specs.Counts.{class_count}
use Rattle.mace_ast.specs.Decls.{LastTree, MethodTree, PhaseTree, EventTree, ContextTree, Context, contexts_of, ServiceTree}
use Rattle.mace_ast.specs.Stmts.{StmtTree, no_stmts, stmts_of}
use Rattle.mace_grammar.specs.Grammar as g
use Rattle.mace_grammar.specs.Part.{Part}
use Rattle.mace_grammar.specs.Words as w
use Rattle.mace_grammar.specs.Words.{Edition, edition_of}
use Rattle.type_rules.specs.declared.known.Known.{Known}
use Rattle.type_rules.specs.Functions.{LastView, MethodView, PhaseView, EventView, event_end, event_start, here_end, phase_here, method_end, method_start, phase_end, resolve_event, resolve_last, resolve_phases}
use Rattle.type_rules.specs.Here.{Here}
use Rattle.type_rules.specs.Known.{Entry, classes_in, classes_of, entry, field_info, known_of, methods_in, methods_of, service_classes, value_of}
use Rattle.type_rules.specs.Services.{ResolvedView, resolve_context, resolve_contexts, resolve_methods, resolve_service}
use Rattle.type_rules.specs.Stmts.{resolve_stmts}
use Rattle.snapshot_text.specs.Shots.{IsValue}
use Rattle.value_laws.proofs.Bounded.{IsExpr, IsStmt, stmts_bounded}
use Rattle.value_laws.proofs.Exprs.{IsToken, IsWord, any_expr, any_key}
use Rattle.mace_grammar.proofs.Parts.{Each, Gives, IfThere, any, down, each, each_append, either, next, none_not, perhaps, some_same, token, whole}
use Rattle.value_laws.proofs.Stmts.{any_block, stmts}
use Rattle.value_laws.specs.Services.{BoundedSteps, BoundedTree}
use Rattle.value_laws.specs.Values.{BoundedClass}

-- ---- methods and events with their names resolved

abbrev pub LastIs : Option LastView → Type 0
LastIs None = Unit {0}
LastIs (Some l) = BoundedTree l.value

pub record MethodIs (m : MethodView) : Type 0 where
  pub body : BoundedSteps m.body
  pub last : LastIs m.last

pub record PhaseIs (f : PhaseView) : Type 0 where
  pub key : BoundedTree f.key
  pub body : BoundedSteps f.body

pub record EventIs (e : EventView) : Type 0 where
  pub here : BoundedSteps e.here
  pub phases : Each PhaseIs e.phases
  pub last : LastIs e.last

pub record ServiceIs (v : ResolvedView) : Type 0 where
  pub methods : Each MethodIs v.methods
  pub events : Each EventIs v.events

abbrev pub EntryIs : Entry → Type 0
EntryIs c = BoundedClass c.info

-- ---- what stands in fields, methods, phases, events, contexts and a service

abbrev IsLast : LastTree → Type 0
IsLast l = IsExpr l.value

abbrev IsInitial : Initial → Type 0
IsInitial i = IsValue (value_of i.value)

abbrev IsVar : VarDecl → Type 0
IsVar f = IsInitial f.initial

record IsMethod (m : MethodTree) : Type 0 where
  body : Each IsStmt m.body
  last : IfThere IsLast m.last

record IsPhase (p : PhaseTree) : Type 0 where
  key : IsExpr p.key
  body : Each IsStmt p.body

record IsEvent (v : EventTree) : Type 0 where
  here : IfThere (Each IsStmt) v.here
  phases : Each IsPhase v.phases
  last : IfThere IsLast v.last

-- the methods of a context and of those in it, and what their fields begin with
record IsContext (c : ContextTree) : Type 0 where
  methods : (known : Known) (class number : ℕ) → Each MethodIs (resolve_context known class number c)
  classes : (above : List ℕ) (parent n : ℕ) → Each EntryIs (classes_of above parent n c)

pub record IsService (t : ServiceTree) : Type 0 where
  vars : Each IsVar t.vars
  contexts : Each IsContext t.contexts
  methods : Each IsMethod t.methods
  events : Each IsEvent t.events

-- ---- and what comes of them

last_is : (h : Here) (o : Option LastTree) → IfThere IsLast o → LastIs (option_map (resolve_last h) o)
last_is h None f = tt
last_is h (Some l) f = f.so h

methods_are : (known : Known) (class number : ℕ) (ms : List MethodTree) → Each IsMethod ms → Each MethodIs (resolve_methods known class number ms)
methods_are known class number [] fs = tt
methods_are known class number (m ∷ ms) fs =
    let f : IsMethod m = fs.0 in
    (record { body = stmts_bounded (method_start known class number m) m.body f.body; last = last_is (method_end known class number m) m.last f.last }, methods_are known class (number + 1) ms fs.1)

phases_are : (h : Here) (ps : List PhaseTree) → Each IsPhase ps → Each PhaseIs (resolve_phases h ps)
phases_are h [] fs = tt
phases_are h (p ∷ ps) fs =
    let f : IsPhase p = fs.0 in
    let q : IsExpr p.key = f.key in
    (record { key = q.so h; body = stmts_bounded (phase_here h p) p.body f.body }, phases_are (phase_end h p) ps fs.1)

here_is : (h : Here) (o : Option (List StmtTree)) → IfThere (Each IsStmt) o → BoundedSteps (resolve_stmts h (option_map_or stmts_of o no_stmts))
here_is h None f = tt
here_is h (Some ss) f = stmts_bounded h ss f

events_are : (known : Known) (es : List EventTree) → Each IsEvent es → Each EventIs (map (resolve_event known) es)
events_are known [] fs = tt
events_are known (v ∷ vs) fs =
    let f : IsEvent v = fs.0 in (
      record { here = here_is (event_start known v) v.here f.here; phases = phases_are (here_end known v) v.phases f.phases; last = last_is (event_end (here_end known v) v.phases) v.last f.last },
      events_are known vs fs.1,
    )

contexts_are : (known : Known) (class number : ℕ) (cs : List ContextTree) → Each IsContext cs → Each MethodIs (resolve_contexts known class number (contexts_of cs))
contexts_are known class number [] fs = tt
contexts_are known class number (c ∷ cs) fs =
    let f : IsContext c = fs.0 in
    each_append MethodIs (resolve_context known class number c) (resolve_contexts known (class + class_count c) (number + length (methods_of class c)) (contexts_of cs))
    (f.methods known class number) (contexts_are known (class + class_count c) (number + length (methods_of class c)) cs fs.1)

vars_are : (vs : List VarDecl) → Each IsVar vs → Each (λ (f : FieldInfo). IsValue f.initial) (map field_info vs)
vars_are [] fs = tt
vars_are (v ∷ vs) fs = (fs.0, vars_are vs fs.1)

entry_is : (above : List ℕ) (parent : Option Class) (n : Name) (vs : List VarDecl) → Each IsVar vs → EntryIs (entry above parent n vs)
entry_is above parent n vs fs = All-from_recursion (λ (f : FieldInfo). IsValue f.initial) (map field_info vs) (vars_are vs fs)

classes_are : (above : List ℕ) (parent n : ℕ) (cs : List ContextTree) → Each IsContext cs → Each EntryIs (classes_in above parent n (contexts_of cs))
classes_are above parent n [] fs = tt
classes_are above parent n (c ∷ cs) fs =
    let f : IsContext c = fs.0 in
    each_append EntryIs (classes_of above parent n c) (classes_in above parent (n + class_count c) (contexts_of cs)) (f.classes above parent n) (classes_are above parent (n + class_count c) cs fs.1)

pub service_is : (t : ServiceTree) → IsService t → ServiceIs (resolve_service t)
unfolding resolve_service
service_is t f = (let known = known_of t in record {
  methods = each_append MethodIs (resolve_contexts known 1 0 (contexts_of t.contexts)) (resolve_methods known 0 (length (methods_in 1 (contexts_of t.contexts))) t.methods)
      (contexts_are known 1 0 t.contexts f.contexts) (methods_are known 0 (length (methods_in 1 (contexts_of t.contexts))) t.methods f.methods);
  events = events_are known t.events f.events;
})

pub entries_are : (t : ServiceTree) → IsService t → Each EntryIs (service_classes t)
entries_are t f = (entry_is [] None t.name t.vars f.vars, classes_are (0 ∷ []) 0 1 t.contexts f.contexts)

-- ---- words

minus_is : (n : _) → FitsSigned w64 n → FitsSigned w64 (int_wrapping_neg w64 n)
minus_is n f = subst (FitsSigned w64) (sym (wrapping_neg_is w64 n f)) (SFits-int_wrap w64 _)

one_initial : (x y : Initial) → Some x ≡ Some y → IsInitial x → IsInitial y
one_initial x y e f = subst IsInitial (some_same x y e) f

initial_key : (at : Span) (j : Keyword) (x : Initial) → w.initial_of_key at j ≡ Some x → IsInitial x
initial_key at k.True x e = one_initial _ x e tt
initial_key at k.False x e = one_initial _ x e tt
initial_key at k.Empty x e = one_initial _ x e (table_none, All-nil (λ p. FitsSigned w64 p.0 × FitsSigned w64 p.1))
initial_key at _ x e = absurd (none_not e)

initial_word : (at : Span) (v : Word) (x : Initial) → IsWord v → w.initial_word at v ≡ Some x → IsInitial x
initial_word at (word.Number n) x f e = one_initial _ x e f
initial_word at (word.Text t) x f e = one_initial _ x e f
initial_word at (word.Key j) x f e = initial_key at j x e
initial_word at (word.Name t) x f e = absurd (none_not e)
initial_word at (word.Sign j) x f e = absurd (none_not e)

number_word : (v : Word) (n : _) → IsWord v → w.number_word v ≡ Some n → FitsSigned w64 n
number_word (word.Number m) n f e = subst (FitsSigned w64) (some_same m n e) f
number_word (word.Text t) n f e = absurd (none_not e)
number_word (word.Key j) n f e = absurd (none_not e)
number_word (word.Name t) n f e = absurd (none_not e)
number_word (word.Sign j) n f e = absurd (none_not e)

number : Gives IsToken (FitsSigned w64) w.number
number = token (λ t. w.number_word t.word) (λ t n f e. number_word t.word n f e)

-- ---- productions

minus_number : Gives IsToken IsInitial g.minus_number
minus_number = next (any (w.sign s.Minus)) (λ at _. next number (λ n f. whole (record { at = at; value = lit.Minus n }) (minus_is n f)))

initial : Gives IsToken IsInitial g.initial
initial = either (token (λ t. w.initial_word t.span t.word) (λ t x f e. initial_word t.span t.word x f e)) minus_number

module _ (edition : Edition) where
  var : Gives IsToken IsVar (g.var edition)
  var =
      next (any (w.key k.Var))
      (λ at _. next (any (w.name edition))
      (λ n _. next (any (w.sign s.Colon))
      (λ a _. next (any w.type)
      (λ kind _. next (any (w.sign s.Equals))
      (λ b _. next initial
      (λ value f. next (any (w.sign s.Semicolon))
      (λ c _. whole (record { at = at; name = n; kind = kind; initial = value }) f)))))))

  last : (keyword : Part Span) → Gives IsToken IsLast (g.last edition keyword)
  last keyword = next (any keyword) (λ at _. next (any_expr edition) (λ value f. next (any (w.sign s.Semicolon)) (λ end _. whole (record { at = at; value = value }) f)))

  method : Gives IsToken IsMethod (g.method edition)
  method =
      next (any (w.key k.Method))
      (λ at _. next (any (w.name edition))
      (λ n _. next (any (g.params edition))
      (λ ps _. next (any g.result)
      (λ kind _. next (any (w.sign s.LeftBrace))
      (λ from _. next (stmts edition)
      (λ body b. next (perhaps (last (w.end edition)))
      (λ end l. next (any (w.sign s.RightBrace))
      (λ to _. whole (record { at = at; name = n; params = ps; result = kind; body = body; last = end }) (record { body = b; last = l })))))))))

  phase : Gives IsToken IsPhase (g.down edition)
  phase =
      next (any (w.key k.Down))
      (λ at _. next (any (w.name edition))
      (λ c _. next (any_key edition)
      (λ place f. next (any_block edition)
      (λ body b. whole (record { at = at; class = c.text; key = place; body = body }) (record { key = f; body = b })))))

  event : Gives IsToken IsEvent (g.event edition)
  event =
      next (any (w.key k.Event))
      (λ at _. next (any (w.name edition))
      (λ n _. next (any (g.params edition))
      (λ ps _. next (any g.result)
      (λ kind _. next (any (w.sign s.LeftBrace))
      (λ from _. next (perhaps (next (any (w.key k.Here)) (λ x _. any_block edition)))
      (λ here h. next (each phase)
      (λ phases fs. next (perhaps (last (w.key k.Reply)))
      (λ end l. next (any (w.sign s.RightBrace))
      (λ to _. whole (record { at = at; name = n; params = ps; result = kind; here = here; phases = phases; last = end }) (record { here = h; phases = fs; last = l }))))))))))

  one_context : (p : Part ContextTree) → Gives IsToken IsContext p → Gives IsToken IsContext (g.one_context edition p)
  one_context p F =
      next (any (w.key k.Context))
      (λ at _. next (any (w.name edition))
      (λ n _. next (any (w.sign s.LeftBracket))
      (λ a _. next (any (w.key k.Int))
      (λ b _. next (any (w.sign s.RightBracket))
      (λ c _. next (any (w.sign s.LeftBrace))
      (λ d _. next (each var)
      (λ vars vs. next (each F)
      (λ contexts cs. next (each method)
      (λ methods ms. next (any (w.sign s.RightBrace))
      (λ to _. whole (Context at n vars (contexts_of contexts) methods) (record {
        methods = λ known class number.
            each_append MethodIs (resolve_contexts known (class + 1) number (contexts_of contexts)) (resolve_methods known class (number + length (methods_in (class + 1) (contexts_of contexts))) methods)
            (contexts_are known (class + 1) number contexts cs) (methods_are known class (number + length (methods_in (class + 1) (contexts_of contexts))) methods ms);
        classes = λ above parent m. (entry_is above (Some (record { 0 = parent })) n vars vs, classes_are (above ++ m ∷ []) m (m + 1) contexts cs);
      })))))))))))

  context : Gives IsToken IsContext (g.context edition)
  context = down one_context

members : (version : Version) (at : Span) (n : Name) → Gives IsToken IsService (g.members version at n)
unfolding g.members
members version at n =
    next (any (w.sign s.LeftBrace))
    (λ from _. next (each (var (edition_of version)))
    (λ vars vs. next (each (context (edition_of version)))
    (λ contexts cs. next (each (method (edition_of version)))
    (λ methods ms. next (each (event (edition_of version)))
    (λ events es. next (any (w.sign s.RightBrace))
    (λ to _. whole (record { at = at; name = n; version = version; vars = vars; contexts = contexts; methods = methods; events = events }) (record { vars = vs; contexts = cs; methods = ms; events = es })))))))

pub service : Gives IsToken IsService g.service
unfolding g.service
service = next (any (w.key k.Service)) (λ at _. next (any (w.name w.first)) (λ n _. next (any w.version_number) (λ version _. members version at n)))
