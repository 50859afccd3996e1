-- The traps of the methods and events that tokens spell stand where tokens do.
use Rattle.std.proofs.Common.{ℕ, ◌+◌, List, [], ◌∷◌, ◌++◌, length, map, Option, Some, None}
use Rattle.std.specs.Option.{option_map, option_map_or}
use Rattle.wave_base.specs.declared.span.Span.{Span}
use Rattle.wave_base.specs.declared.version.Version.{Version}
use Rattle.mace_lexer.specs.declared.keyword.Keyword.TheVariants as k
use Rattle.mace_lexer.specs.declared.sign.Sign.TheVariants as s
use Rattle.mace_ast.specs.declared.name.Name.{Name}
use Rattle.mace_ast.specs.Counts.{class_count}
use Rattle.mace_ast.specs.Decls.{LastTree, MethodTree, PhaseTree, EventTree, ContextTree, Context, contexts_of, ServiceTree}
use Rattle.mace_ast.specs.Stmts.{StmtTree, no_stmts, stmts_of}
use Rattle.mace_grammar.proofs.Parts.{Each, Gives, IfThere, any, down, each, each_append, next, perhaps, whole}
use Rattle.mace_grammar.specs.Grammar as g
use Rattle.mace_grammar.specs.Part.{Part, many}
use Rattle.mace_grammar.specs.Words as w
use Rattle.mace_grammar.specs.Words.{Edition, edition_of}
use Rattle.type_rules.specs.declared.known.Known.{Known}
use Rattle.type_rules.specs.Exprs.{resolve}
use Rattle.type_rules.specs.Functions.{event_end, event_start, here_body, here_end, phase_here, method_body, method_end, method_start, phase_body, phase_end, resolve_event, resolve_last, resolve_phases}
use Rattle.type_rules.specs.Here.{Here}
use Rattle.type_rules.specs.Known.{known_of, methods_in, methods_of}
use Rattle.type_rules.specs.Services.{resolve_context, resolve_contexts, resolve_methods, resolve_service}
use Rattle.type_rules.specs.Stmts.{resolve_stmts}
use Rattle.trap_laws.specs.Traps.{steps_traps}
use Rattle.trap_laws.proofs.Exprs.{any_expr, any_key}
use Rattle.trap_laws.proofs.Stmts.{any_block, stmts}
use Rattle.trap_laws.proofs.Placed.{ExprPlaced, Placed, StmtPlaced, and_then, if_placed, stmts_placed}
use Rattle.trap_laws.proofs.Words.{Stands, key}
use Rattle.trap_laws.proofs.Views.{EventPlaced, MethodPlaced, ServicePlaced, last_of, phases_of}

module _ (P : Span → Type 0) where
  -- ---- what stands in a method, a phase, an event and a service

  abbrev IsLast : LastTree → Type 0
  IsLast l = ExprPlaced P l.value

  record IsMethod (m : MethodTree) : Type 0 where
    body : Each (StmtPlaced P) m.body
    last : IfThere IsLast m.last

  record IsPhase (p : PhaseTree) : Type 0 where
    place : P p.at
    key : ExprPlaced P p.key
    body : Each (StmtPlaced P) p.body

  record IsEvent (v : EventTree) : Type 0 where
    here : IfThere (Each (StmtPlaced P)) v.here
    phases : Each IsPhase v.phases
    last : IfThere IsLast v.last

  -- the methods of a context and of those in it
  record IsContext (c : ContextTree) : Type 0 where
    methods : (known : Known) (class number : ℕ) → Each (MethodPlaced P) (resolve_context known class number c)

  pub record IsService (t : ServiceTree) : Type 0 where
    contexts : Each IsContext t.contexts
    methods : Each IsMethod t.methods
    events : Each IsEvent t.events

  -- ---- and what can trap of them

  last_placed : (h : Here) (o : Option LastTree) → IfThere IsLast o → Placed P (last_of (option_map (resolve_last h) o))
  last_placed h None f = tt
  last_placed h (Some l) f = f.traps h

  methods_placed : (known : Known) (class number : ℕ) (ms : List MethodTree) → Each IsMethod ms → Each (MethodPlaced P) (resolve_methods known class number ms)
  methods_placed known class number [] fs = tt
  methods_placed known class number (m ∷ ms) fs =
      let f : IsMethod m = fs.0 in (
        and_then P (steps_traps (method_body known class number m)) (last_of (option_map (resolve_last (method_end known class number m)) m.last))
            (stmts_placed P (method_start known class number m) m.body f.body) (last_placed (method_end known class number m) m.last f.last),
        methods_placed known class (number + 1) ms fs.1,
      )

  phases_placed : (h : Here) (ps : List PhaseTree) → Each IsPhase ps → Placed P (phases_of (resolve_phases h ps))
  phases_placed h [] fs = tt
  phases_placed h (p ∷ ps) fs =
      let f : IsPhase p = fs.0 in
      let q : ExprPlaced P p.key = f.key in (
        f.place,
        if_placed P (resolve h p.key) (steps_traps (phase_body h p)) (phases_of (resolve_phases (phase_end h p) ps))
            (q.traps h) (stmts_placed P (phase_here h p) p.body f.body) (phases_placed (phase_end h p) ps fs.1),
      )

  here_placed : (h : Here) (o : Option (List StmtTree)) → IfThere (Each (StmtPlaced P)) o → Placed P (steps_traps (resolve_stmts h (option_map_or stmts_of o no_stmts)))
  here_placed h None f = tt
  here_placed h (Some ss) f = stmts_placed P h ss f

  events_placed : (known : Known) (es : List EventTree) → Each IsEvent es → Each (EventPlaced P) (map (resolve_event known) es)
  events_placed known [] fs = tt
  events_placed known (v ∷ vs) fs =
      let f : IsEvent v = fs.0 in
      let end = event_end (here_end known v) v.phases in (
        and_then P (steps_traps (here_body known v) ++ phases_of (resolve_phases (here_end known v) v.phases)) (last_of (option_map (resolve_last end) v.last))
            (and_then P (steps_traps (here_body known v)) (phases_of (resolve_phases (here_end known v) v.phases)) (here_placed (event_start known v) v.here f.here) (phases_placed (here_end known v) v.phases f.phases))
            (last_placed end v.last f.last),
        events_placed known vs fs.1,
      )

  contexts_placed : (known : Known) (class number : ℕ) (cs : List ContextTree) → Each IsContext cs → Each (MethodPlaced P) (resolve_contexts known class number (contexts_of cs))
  contexts_placed known class number [] fs = tt
  contexts_placed known class number (c ∷ cs) fs =
      let f : IsContext c = fs.0 in
      each_append (MethodPlaced P) (resolve_context known class number c) (resolve_contexts known (class + class_count c) (number + length (methods_of class c)) (contexts_of cs))
      (f.methods known class number) (contexts_placed known (class + class_count c) (number + length (methods_of class c)) cs fs.1)

  pub service_placed : (t : ServiceTree) → IsService t → ServicePlaced P (resolve_service t)
  unfolding resolve_service
  service_placed t f = (let known = known_of t in record {
    methods = each_append (MethodPlaced P) (resolve_contexts known 1 0 (contexts_of t.contexts)) (resolve_methods known 0 (length (methods_in 1 (contexts_of t.contexts))) t.methods)
        (contexts_placed known 1 0 t.contexts f.contexts) (methods_placed known 0 (length (methods_in 1 (contexts_of t.contexts))) t.methods f.methods);
    events = events_placed known t.events f.events;
  })

  -- ---- productions

  module _ (edition : Edition) where
    last : (keyword : Part Span) → Gives (Stands P) IsLast (g.last edition keyword)
    last keyword = next (any keyword) (λ at _. next (any_expr P edition) (λ value f. next (any (w.sign s.Semicolon)) (λ end _. whole (record { at = at; value = value }) f)))

    method : Gives (Stands P) IsMethod (g.method edition)
    method =
        next (any (w.key k.Method))
        (λ at _. next (any (w.name edition))
        (λ n _. next (any (g.params edition))
        (λ ps _. next (any g.result)
        (λ kind _. next (any (w.sign s.LeftBrace))
        (λ from _. next (stmts P edition)
        (λ body b. next (perhaps (last (w.end edition)))
        (λ end l. next (any (w.sign s.RightBrace))
        (λ to _. whole (record { at = at; name = n; params = ps; result = kind; body = body; last = end }) (record { body = b; last = l })))))))))

    phase : Gives (Stands P) IsPhase (g.down edition)
    phase =
        next (key P k.Down)
        (λ at p. next (any (w.name edition))
        (λ c _. next (any_key P edition)
        (λ place f. next (any_block P edition)
        (λ body b. whole (record { at = at; class = c.text; key = place; body = body }) (record { place = p; key = f; body = b })))))

    event : Gives (Stands P) IsEvent (g.event edition)
    event =
        next (any (w.key k.Event))
        (λ at _. next (any (w.name edition))
        (λ n _. next (any (g.params edition))
        (λ ps _. next (any g.result)
        (λ kind _. next (any (w.sign s.LeftBrace))
        (λ from _. next (perhaps (next (any (w.key k.Here)) (λ x _. any_block P edition)))
        (λ here h. next (each phase)
        (λ phases fs. next (perhaps (last (w.key k.Reply)))
        (λ end l. next (any (w.sign s.RightBrace))
        (λ to _. whole (record { at = at; name = n; params = ps; result = kind; here = here; phases = phases; last = end }) (record { here = h; phases = fs; last = l }))))))))))

    one_context : (p : Part ContextTree) → Gives (Stands P) IsContext p → Gives (Stands P) IsContext (g.one_context edition p)
    one_context p F =
        next (any (w.key k.Context))
        (λ at _. next (any (w.name edition))
        (λ n _. next (any (w.sign s.LeftBracket))
        (λ a _. next (any (w.key k.Int))
        (λ b _. next (any (w.sign s.RightBracket))
        (λ c _. next (any (w.sign s.LeftBrace))
        (λ d _. next (any (many (g.var edition)))
        (λ vars _. next (each F)
        (λ contexts cs. next (each method)
        (λ methods ms. next (any (w.sign s.RightBrace))
        (λ to _. whole (Context at n vars (contexts_of contexts) methods) (record {
          methods = λ known class number.
              each_append (MethodPlaced P) (resolve_contexts known (class + 1) number (contexts_of contexts)) (resolve_methods known class (number + length (methods_in (class + 1) (contexts_of contexts))) methods)
              (contexts_placed known (class + 1) number contexts cs) (methods_placed known class (number + length (methods_in (class + 1) (contexts_of contexts))) methods ms);
        })))))))))))

    context : Gives (Stands P) IsContext (g.context edition)
    context = down one_context

  members : (version : Version) (at : Span) (n : Name) → Gives (Stands P) IsService (g.members version at n)
  unfolding g.members
  members version at n =
      next (any (w.sign s.LeftBrace))
      (λ from _. next (any (many (g.var (edition_of version))))
      (λ vars _. next (each (context (edition_of version)))
      (λ contexts cs. next (each (method (edition_of version)))
      (λ methods ms. next (each (event (edition_of version)))
      (λ events es. next (any (w.sign s.RightBrace))
      (λ to _. whole (record { at = at; name = n; version = version; vars = vars; contexts = contexts; methods = methods; events = events }) (record { contexts = cs; methods = ms; events = es })))))))

  pub service : Gives (Stands P) IsService g.service
  unfolding g.service
  service = next (any (w.key k.Service)) (λ at _. next (any (w.name w.first)) (λ n _. next (any w.version_number) (λ version _. members version at n)))
