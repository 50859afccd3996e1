-- The canonical words of declarations spell them.
use Rattle.std.proofs.Common.{◌≡◌, ℕ, zero, suc, ◌+◌, ◌≤◌, ◌⊎◌, inl, inr, pos, subst, List, [], ◌∷◌, ◌++◌, map, Option, Some, None, refl, sym, ap, arith, append-nil}
use Rattle.std.specs.Option.{option_map}
use Rattle.std.proofs.lemmas.List.{map-append}
use Rattle.wave_base.specs.declared.span.Span.{Span}
use Rattle.wave_base.specs.declared.version.Version.{Version}
use Rattle.wave_base.specs.declared.version.Version.TheVariants.{First, Second}
use Rattle.mace_lexer.specs.declared.token.Word.{Word}
use Rattle.mace_lexer.specs.declared.token.Word.TheVariants as word
use Rattle.mace_lexer.specs.declared.keyword.Keyword.TheVariants as k
use Rattle.mace_lexer.specs.declared.sign.Sign.TheVariants as s
use Rattle.mace_ast.specs.declared.name.Name.{Name}
use Rattle.mace_ast.specs.declared.field.VarDecl.{VarDecl}
use Rattle.mace_ast.specs.Exprs.{bare_expr, nowhere}
use Rattle.mace_ast.specs.Stmts.{StmtTree, bare_stmt}
use Rattle.mace_ast.specs.Decls.{LastTree, MethodTree, PhaseTree, EventTree, ContextTree, ContextTrees, Context, no_contexts, context_and, contexts_of, ServiceTree, bare_var, bare_param, bare_last, bare_method, bare_phase, bare_event, bare_context, bare_contexts, bare_service}
use Rattle.mace_grammar.specs.Part.{Part, ◌>>◌, many, maybe, nested_part}
use Rattle.mace_grammar.specs.Words as w
use Rattle.mace_grammar.specs.Words.{Edition, first, edition_of}
use Rattle.mace_grammar.specs.Fits.{Each, IfThere, ExprFits, StmtFits, LastFits, MethodFits, PhaseFits, EventFits, ContextFits, ContextsFit, MembersFit, ServiceFits}
use Rattle.mace_grammar.specs.Grammar as g
use Rattle.mace_grammar.specs.Spelled.{plain_token, Spelled}
use Rattle.mace_printer.specs.Canon.{whole_words, index_words, all_of, var_words, params_words, result_words, last_words, body_words, braced_words, method_words, phase_words, here_words, event_words, context_words, contexts_words, version_words, service_words}
use Rattle.mace_printer.proofs.Says.{Says, key_says, sign_says, end_says, named, name_says, all_say}
use Rattle.mace_printer.proofs.ExprSays.{expr_says, any_key_says}
use Rattle.mace_printer.proofs.StmtSays.{stmts_say, any_block_says}
use Rattle.mace_printer.proofs.FieldSays.{brace, semicolon}
use Rattle.mace_printer.proofs.FieldSays

module _ (edition : Edition) where
  -- behind its keyword
  ended_says : (word : Word) (keyword : Part Span) (l : LastTree) → Says keyword nowhere (word ∷ []) → ExprFits edition l.value → Says (g.last edition keyword) (bare_last l) (word ∷ (whole_words l.value ++ semicolon))
  ended_says word keyword l h f = (
    nowhere,
    plain_token word ∷ [],
    _,
    refl,
    h,
    (
      bare_expr l.value,
      map plain_token (whole_words l.value),
      _,
      map-append plain_token (whole_words l.value) semicolon,
      expr_says edition l.value f,
      (nowhere, map plain_token semicolon, [], refl, sign_says s.Semicolon, (refl, refl)),
    ),
  )

  returned_says : (o : Option LastTree) → IfThere (LastFits edition) o → Says (maybe (g.last edition (w.end edition))) (option_map bare_last o) (last_words k.Return o)
  returned_says None f = refl
  returned_says (Some l) f = ended_says (word.Key k.Return) (w.end edition) l (end_says edition f.0) f.1

  replied_says : (o : Option LastTree) → IfThere (λ l. ExprFits edition l.value) o → Says (maybe (g.last edition (w.key k.Reply))) (option_map bare_last o) (last_words k.Reply o)
  replied_says None f = refl
  replied_says (Some l) f = ended_says (word.Key k.Reply) (w.key k.Reply) l (key_says k.Reply) f

  method_says : (m : MethodTree) → MethodFits edition m → Says (g.method edition) (bare_method m) (method_words m)
  method_says m f =
      let ends : List Word = last_words k.Return m.last ++ brace in
      let body : List Word = word.Sign s.LeftBrace ∷ (body_words m.body ++ ends) in (
        nowhere,
        plain_token (word.Key k.Method) ∷ [],
        _,
        refl,
        key_says k.Method,
        (
          named m.name.text,
          plain_token (word.Name m.name.text) ∷ [],
          _,
          refl,
          name_says edition m.name.text f.0,
          (
            map bare_param m.params,
            map plain_token (params_words m.params),
            map plain_token (result_words m.result ++ body),
            map-append plain_token (params_words m.params) (result_words m.result ++ body),
            FieldSays.params_say edition m.params f.1,
            (
              m.result,
              map plain_token (result_words m.result),
              map plain_token body,
              map-append plain_token (result_words m.result) body,
              FieldSays.result_says edition m.result,
              (
                nowhere,
                plain_token (word.Sign s.LeftBrace) ∷ [],
                _,
                refl,
                sign_says s.LeftBrace,
                (
                  map bare_stmt m.body,
                  map plain_token (body_words m.body),
                  map plain_token ends,
                  map-append plain_token (body_words m.body) ends,
                  stmts_say edition m.body f.2,
                  (
                    option_map bare_last m.last,
                    map plain_token (last_words k.Return m.last),
                    map plain_token brace,
                    map-append plain_token (last_words k.Return m.last) brace,
                    returned_says m.last f.3,
                    (nowhere, map plain_token brace, [], refl, sign_says s.RightBrace, (refl, refl)),
                  ),
                ),
              ),
            ),
          ),
        ),
      )

  methods_say : (ms : List MethodTree) → Each (MethodFits edition) ms → Says (many (g.method edition)) (map bare_method ms) (all_of method_words ms)
  methods_say ms f = all_say (g.method edition) bare_method method_words (MethodFits edition) method_says ms f

  phase_says : (p : PhaseTree) → PhaseFits edition p → Says (g.down edition) (bare_phase p) (phase_words p)
  phase_says p f = (
    nowhere,
    plain_token (word.Key k.Down) ∷ [],
    _,
    refl,
    key_says k.Down,
    (
      named p.class,
      plain_token (word.Name p.class) ∷ [],
      _,
      refl,
      name_says edition p.class f.0,
      (
        bare_expr p.key,
        map plain_token (index_words p.key),
        map plain_token (braced_words p.body),
        map-append plain_token (index_words p.key) (braced_words p.body),
        any_key_says edition p.key f.1,
        (map bare_stmt p.body, map plain_token (braced_words p.body), [], sym (append-nil (map plain_token (braced_words p.body))), any_block_says edition p.body f.2, (refl, refl)),
      ),
    ),
  )

  here_says : (o : Option (List StmtTree)) → IfThere (Each (StmtFits edition)) o → Says (maybe (w.key k.Here >> (g.any_block edition))) (option_map (map bare_stmt) o) (here_words o)
  here_says None f = refl
  here_says (Some body) f = (nowhere, plain_token (word.Key k.Here) ∷ [], _, refl, key_says k.Here, any_block_says edition body f)

  event_says : (v : EventTree) → EventFits edition v → Says (g.event edition) (bare_event v) (event_words v)
  event_says v f =
      let ends : List Word = last_words k.Reply v.last ++ brace in
      let phases : List Word = all_of phase_words v.phases ++ ends in
      let body : List Word = word.Sign s.LeftBrace ∷ (here_words v.here ++ phases) in (
        nowhere,
        plain_token (word.Key k.Event) ∷ [],
        _,
        refl,
        key_says k.Event,
        (
          named v.name.text,
          plain_token (word.Name v.name.text) ∷ [],
          _,
          refl,
          name_says edition v.name.text f.0,
          (
            map bare_param v.params,
            map plain_token (params_words v.params),
            map plain_token (result_words v.result ++ body),
            map-append plain_token (params_words v.params) (result_words v.result ++ body),
            FieldSays.params_say edition v.params f.1,
            (
              v.result,
              map plain_token (result_words v.result),
              map plain_token body,
              map-append plain_token (result_words v.result) body,
              FieldSays.result_says edition v.result,
              (
                nowhere,
                plain_token (word.Sign s.LeftBrace) ∷ [],
                _,
                refl,
                sign_says s.LeftBrace,
                (
                  option_map (map bare_stmt) v.here,
                  map plain_token (here_words v.here),
                  map plain_token phases,
                  map-append plain_token (here_words v.here) phases,
                  here_says v.here f.2,
                  (
                    map bare_phase v.phases,
                    map plain_token (all_of phase_words v.phases),
                    map plain_token ends,
                    map-append plain_token (all_of phase_words v.phases) ends,
                    all_say (g.down edition) bare_phase phase_words (PhaseFits edition) phase_says v.phases f.3,
                    (
                      option_map bare_last v.last,
                      map plain_token (last_words k.Reply v.last),
                      map plain_token brace,
                      map-append plain_token (last_words k.Reply v.last) brace,
                      replied_says v.last f.4,
                      (nowhere, map plain_token brace, [], refl, sign_says s.RightBrace, (refl, refl)),
                    ),
                  ),
                ),
              ),
            ),
          ),
        ),
      )

  -- ---- contexts and the service

  abbrev list_of : ContextTrees → List ContextTree
  list_of no_contexts = []
  list_of (context_and x xs) = x ∷ list_of xs

  list_back : (xs : ContextTrees) → contexts_of (list_of xs) ≡ xs
  list_back no_contexts = refl
  list_back (context_and x xs) = ap (λ l. context_and x l) (list_back xs)

  one_says : (context : Part ContextTree) (at : Span) (x : Name) (vars : List VarDecl) (inner : ContextTrees) (methods : List MethodTree) → Says (many context) (list_of (bare_contexts inner)) (contexts_words inner) → ContextFits edition (Context at x vars inner methods) → Says (g.one_context edition context) (bare_context (Context at x vars inner methods)) (context_words (Context at x vars inner methods))
  one_says context at x vars inner methods h f =
      let ends : List Word = all_of method_words methods ++ brace in
      let behind : List Word = contexts_words inner ++ ends in (
        nowhere,
        plain_token (word.Key k.Context) ∷ [],
        _,
        refl,
        key_says k.Context,
        (
          named x.text,
          plain_token (word.Name x.text) ∷ [],
          _,
          refl,
          name_says edition x.text f.0,
          (
            nowhere,
            plain_token (word.Sign s.LeftBracket) ∷ [],
            _,
            refl,
            sign_says s.LeftBracket,
            (
              nowhere,
              plain_token (word.Key k.Int) ∷ [],
              _,
              refl,
              key_says k.Int,
              (
                nowhere,
                plain_token (word.Sign s.RightBracket) ∷ [],
                _,
                refl,
                sign_says s.RightBracket,
                (
                  nowhere,
                  plain_token (word.Sign s.LeftBrace) ∷ [],
                  _,
                  refl,
                  sign_says s.LeftBrace,
                  (
                    map bare_var vars,
                    map plain_token (all_of var_words vars),
                    map plain_token behind,
                    map-append plain_token (all_of var_words vars) behind,
                    FieldSays.vars_say edition vars f.1,
                    (
                      list_of (bare_contexts inner),
                      map plain_token (contexts_words inner),
                      map plain_token ends,
                      map-append plain_token (contexts_words inner) ends,
                      h,
                      (
                        map bare_method methods,
                        map plain_token (all_of method_words methods),
                        map plain_token brace,
                        map-append plain_token (all_of method_words methods) brace,
                        methods_say methods f.3,
                        (nowhere, map plain_token brace, [], refl, sign_says s.RightBrace, (ap (λ l. Context nowhere (named x.text) (map bare_var vars) l (map bare_method methods)) (sym (list_back (bare_contexts inner))), refl)),
                      ),
                    ),
                  ),
                ),
              ),
            ),
          ),
        ),
      )

  abbrev mutual
    inside : ContextTree → ℕ
    inside (Context at x vars inner methods) = suc (all_inside inner)

    all_inside : ContextTrees → ℕ
    all_inside no_contexts = 0
    all_inside (context_and x xs) = inside x + all_inside xs

  mutual
    said : (x : ContextTree) (n : ℕ) → inside x ≤ n → ContextFits edition x → Says (nested_part (g.one_context edition) n) (bare_context x) (context_words x)
    said (Context at x vars inner methods) zero h f = absurd (omega arith)
    said (Context at x vars inner methods) (suc m) h f = one_says (nested_part (g.one_context edition) m) at x vars inner methods (all_said inner m (omega arith) f.2) f

    all_said : (xs : ContextTrees) (n : ℕ) → all_inside xs ≤ n → ContextsFit edition xs → Says (many (nested_part (g.one_context edition) n)) (list_of (bare_contexts xs)) (contexts_words xs)
    all_said no_contexts n h f = refl
    all_said (context_and x xs) n h f = (map plain_token (context_words x), map plain_token (contexts_words xs), map-append plain_token (context_words x) (contexts_words xs), said x n (omega arith) f.0, all_said xs n (omega arith) f.1)

  context_says : (x : ContextTree) → ContextFits edition x → Says (g.context edition) (bare_context x) (context_words x)
  context_says x f = (inside x, said x (inside x) (omega arith) f)

-- ---- the service, in its version

version_says : (version : Version) → Says w.version_number version (version_words version)
unfolding w.version_number
version_says First = (None, [], [], refl, refl, (refl, refl))
version_says Second = (Some Second, plain_token (word.Number (pos 2)) ∷ [], [], refl, (plain_token (word.Number (pos 2)), refl, refl), (refl, refl))

abbrev behind_version : ServiceTree → List Word
behind_version t = word.Sign s.LeftBrace ∷ (all_of var_words t.vars ++ (all_of context_words t.contexts ++ (all_of method_words t.methods ++ (all_of event_words t.events ++ brace))))

members_say : (t : ServiceTree) → MembersFit (edition_of t.version) t → Says (g.members t.version nowhere (named t.name.text)) (bare_service t) (behind_version t)
unfolding g.members
members_say t f =
    let own : Edition = edition_of t.version in
    let events : List Word = all_of event_words t.events ++ brace in
    let methods : List Word = all_of method_words t.methods ++ events in
    let contexts : List Word = all_of context_words t.contexts ++ methods in (
      nowhere,
      plain_token (word.Sign s.LeftBrace) ∷ [],
      _,
      refl,
      sign_says s.LeftBrace,
      (
        map bare_var t.vars,
        map plain_token (all_of var_words t.vars),
        map plain_token contexts,
        map-append plain_token (all_of var_words t.vars) contexts,
        FieldSays.vars_say own t.vars f.0,
        (
          map bare_context t.contexts,
          map plain_token (all_of context_words t.contexts),
          map plain_token methods,
          map-append plain_token (all_of context_words t.contexts) methods,
          all_say (g.context own) bare_context context_words (ContextFits own) (context_says own) t.contexts f.1,
          (
            map bare_method t.methods,
            map plain_token (all_of method_words t.methods),
            map plain_token events,
            map-append plain_token (all_of method_words t.methods) events,
            methods_say own t.methods f.2,
            (
              map bare_event t.events,
              map plain_token (all_of event_words t.events),
              map plain_token brace,
              map-append plain_token (all_of event_words t.events) brace,
              all_say (g.event own) bare_event event_words (EventFits own) (event_says own) t.events f.3,
              (nowhere, map plain_token brace, [], refl, sign_says s.RightBrace, (refl, refl)),
            ),
          ),
        ),
      ),
    )

-- the canonical words spell the service
pub service_says : (t : ServiceTree) → ServiceFits t → Spelled t (service_words t)
unfolding g.service service_words
service_says t f = (
  nowhere,
  plain_token (word.Key k.Service) ∷ [],
  _,
  refl,
  key_says k.Service,
  (
    named t.name.text,
    plain_token (word.Name t.name.text) ∷ [],
    _,
    refl,
    name_says first t.name.text refl,
    (t.version, map plain_token (version_words t.version), map plain_token (behind_version t), map-append plain_token (version_words t.version) (behind_version t), version_says t.version, members_say t f),
  ),
)
