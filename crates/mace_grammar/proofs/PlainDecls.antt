-- The readers of declarations and of the service read erased tokens as they read the tokens, but for the places.
use Rattle.std.proofs.Common.{◌≡◌, ℕ, List, [], ◌∷◌, map, unwrap_or, Option, Some, None, refl, sym, ap}
use Rattle.std.specs.Option.{option_map}
use Rattle.wave_base.specs.declared.span.Span.{Span}
use Rattle.wave_base.specs.declared.version.Version.{Version}
use Rattle.wave_base.specs.declared.version.Version.TheVariants.{First}
use Rattle.mace_lexer.specs.declared.token.Word.{Word}
use Rattle.mace_lexer.specs.declared.token.Word.TheVariants as word
use Rattle.mace_lexer.specs.declared.keyword.Keyword.{Keyword}
use Rattle.mace_lexer.specs.declared.keyword.Keyword.TheVariants as k
use Rattle.mace_lexer.specs.declared.sign.Sign.TheVariants as s
use Rattle.mace_ast.specs.declared.name.Name.{Name}
use Rattle.mace_ast.specs.declared.field.Initial.{Initial}
use Rattle.mace_ast.specs.declared.field.Literal.TheVariants as literal
use Rattle.mace_ast.specs.Exprs.{bare_expr, nowhere}
use Rattle.mace_ast.specs.Stmts.{bare_stmt, bare_name}
use Rattle.mace_ast.specs.Decls.{ContextTree, Context, contexts_of, context_and, bare_var, bare_param, bare_last, bare_method, bare_phase, bare_event, bare_context, bare_contexts, bare_service}
use Rattle.mace_grammar.specs.inner.Run.{Reader}
use Rattle.mace_grammar.specs.declared.class.TheConstants.{INITIALS}
use Rattle.mace_grammar.specs.declared.class.Class.TheVariants as class
use Rattle.mace_grammar.specs.Words as w
use Rattle.mace_grammar.specs.Words.{Edition, first, edition_of}
use Rattle.mace_grammar.specs.inner.Readers as r
use Rattle.mace_grammar.proofs.Plain.{Natural, natural_give, natural_then, natural_word, natural_choice, natural_each_of, natural_maybe, natural_deeper}
use Rattle.mace_grammar.proofs.PlainTokens.{no_place, itself, same_option, key, sign, two, number, type, name, separated}
use Rattle.mace_grammar.proofs.PlainExprs.{any_expr, any_key}
use Rattle.mace_grammar.proofs.PlainStmts.{stmts, any_block}

abbrev bare_initial : Initial → Initial
bare_initial i = record { at = nowhere; value = i.value }

initial_key : (at : Span) (j : Keyword) → w.initial_of_key nowhere j ≡ option_map bare_initial (w.initial_of_key at j)
initial_key at k.True = refl
initial_key at k.False = refl
initial_key at k.Empty = refl
initial_key at _ = refl

initial_place : (at : Span) (v : Word) → w.initial_word nowhere v ≡ option_map bare_initial (w.initial_word at v)
initial_place at (word.Number n) = refl
initial_place at (word.Text t) = refl
initial_place at (word.Key j) = initial_key at j
initial_place at (word.Name t) = refl
initial_place at (word.Sign j) = refl

minus_number : Natural bare_initial r.minus_number_at r.minus_number_at
unfolding r.minus_number_at
minus_number = natural_then _ (sign s.Minus) (λ at. natural_then _ number (λ n. natural_give bare_initial (record { at = at; value = literal.Minus n }) (record { at = nowhere; value = literal.Minus n }) refl))

initial_node : Natural bare_initial r.literal_initial_at r.literal_initial_at
initial_node = natural_word bare_initial _ _ (λ t. initial_place t.span t.word)

module _ (edition : Edition) where
  -- ---- fields

  initial : Natural bare_initial (r.initial_at edition) (r.initial_at edition)
  unfolding r.initial_at
  initial = natural_choice edition INITIALS initial_node minus_number

  var : Natural bare_var (r.var_at edition) (r.var_at edition)
  unfolding r.var_at
  var =
      natural_then _ (key k.Var)
      (λ at. natural_then _ (name edition)
      (λ n. natural_then _ (sign s.Colon)
      (λ _. natural_then _ type
      (λ t. natural_then _ (sign s.Equals)
      (λ _. natural_then _ initial
      (λ v. natural_then _ (sign s.Semicolon)
      (λ _. natural_give bare_var (record { at = at; name = n; kind = t; initial = v }) (record { at = nowhere; name = bare_name n; kind = t; initial = bare_initial v }) refl)))))))

  vars : Natural (map bare_var) (r.vars_at edition) (r.vars_at edition)
  unfolding r.vars_at
  vars = natural_each_of edition (r.if_key k.Var) var

  -- ---- declarations

  param : Natural bare_param (r.param_at edition) (r.param_at edition)
  unfolding r.param_at
  param = natural_then _ (name edition) (λ n. natural_then _ (sign s.Colon) (λ _. natural_then _ type (λ t. natural_give bare_param (record { name = n; kind = t }) (record { name = bare_name n; kind = t }) refl)))

  params : Natural (map bare_param) (r.params_at edition) (r.params_at edition)
  unfolding r.params_at
  params = separated edition bare_param (r.param_at edition) param (class.Name ∷ [])

  result : Natural (option_map itself) (r.result_at edition) (r.result_at edition)
  unfolding r.result_at
  result = natural_maybe edition (r.if_sign s.Colon) (natural_then _ (sign s.Colon) (λ _. type))

  module _ (n : ℕ) where
    last : (run : Reader Span) → Natural no_place run run → Natural bare_last (r.last_at edition run n) (r.last_at edition run n)
    unfolding r.last_at
    last run K = natural_then _ K (λ at. natural_then _ (any_expr edition n) (λ value. natural_then _ (sign s.Semicolon) (λ _. natural_give bare_last (record { at = at; value = value }) (record { at = nowhere; value = bare_expr value }) refl)))

    maybe_last : (want : Keyword) → Natural (option_map bare_last) (r.maybe_last_at edition want n) (r.maybe_last_at edition want n)
    unfolding r.maybe_last_at
    maybe_last want = natural_maybe edition (r.if_key want) (last (r.key_at want) (key want))

    method : Natural bare_method (r.method_at edition n) (r.method_at edition n)
    unfolding r.method_at
    method =
        natural_then _ (key k.Method)
        (λ at. natural_then _ (name edition)
        (λ x. natural_then _ params
        (λ ps. natural_then _ result
        (λ t. natural_then _ (sign s.LeftBrace)
        (λ _. natural_then _ (stmts edition n)
        (λ body. natural_then _ (maybe_last k.Return)
        (λ end. natural_then _ (sign s.RightBrace)
        (λ _. natural_give bare_method
        (record { at = at; name = x; params = ps; result = t; body = body; last = end })
        (record { at = nowhere; name = bare_name x; params = map bare_param ps; result = option_map itself t; body = map bare_stmt body; last = option_map bare_last end })
        (ap (λ o. record { at = nowhere; name = bare_name x; params = map bare_param ps; result = o; body = map bare_stmt body; last = option_map bare_last end }) (sym (same_option t)))))))))))

    methods : Natural (map bare_method) (r.methods_at edition n) (r.methods_at edition n)
    unfolding r.methods_at
    methods = natural_each_of edition (r.if_key k.Method) method

    down : Natural bare_phase (r.down_at edition n) (r.down_at edition n)
    unfolding r.down_at
    down =
        natural_then _ (key k.Down)
        (λ at. natural_then _ (name edition)
        (λ c. natural_then _ (any_key edition n)
        (λ place. natural_then _ (any_block edition n)
        (λ body. natural_give bare_phase (record { at = at; class = c.text; key = place; body = body }) (record { at = nowhere; class = c.text; key = bare_expr place; body = map bare_stmt body }) refl))))

    phases : Natural (map bare_phase) (r.phases_at edition n) (r.phases_at edition n)
    unfolding r.phases_at
    phases = natural_each_of edition (r.if_key k.Down) down

    here : Natural (option_map (map bare_stmt)) (r.here_at edition n) (r.here_at edition n)
    unfolding r.here_at
    here = natural_maybe edition (r.if_key k.Here) (natural_then _ (key k.Here) (λ _. any_block edition n))

    event : Natural bare_event (r.event_at edition n) (r.event_at edition n)
    unfolding r.event_at
    event =
        natural_then _ (key k.Event)
        (λ at. natural_then _ (name edition)
        (λ x. natural_then _ params
        (λ ps. natural_then _ result
        (λ t. natural_then _ (sign s.LeftBrace)
        (λ _. natural_then _ here
        (λ h. natural_then _ phases
        (λ found. natural_then _ (maybe_last k.Reply)
        (λ end. natural_then _ (sign s.RightBrace)
        (λ _. natural_give bare_event
        (record { at = at; name = x; params = ps; result = t; here = h; phases = found; last = end })
        (record { at = nowhere; name = bare_name x; params = map bare_param ps; result = option_map itself t; here = option_map (map bare_stmt) h; phases = map bare_phase found; last = option_map bare_last end })
        (ap (λ o. record { at = nowhere; name = bare_name x; params = map bare_param ps; result = o; here = option_map (map bare_stmt) h; phases = map bare_phase found; last = option_map bare_last end }) (sym (same_option t))))))))))))

    events : Natural (map bare_event) (r.events_at edition n) (r.events_at edition n)
    unfolding r.events_at
    events = natural_each_of edition (r.if_key k.Event) event

  bare_contexts_of : (cs : List ContextTree) → contexts_of (map bare_context cs) ≡ bare_contexts (contexts_of cs)
  bare_contexts_of [] = refl
  bare_contexts_of (c ∷ cs) = ap (λ l. context_and (bare_context c) l) (bare_contexts_of cs)

  module _ (n : ℕ) (run : Reader ContextTree) (P : Natural bare_context run run) where
    contexts_in : Natural (map bare_context) (r.contexts_in edition run) (r.contexts_in edition run)
    unfolding r.contexts_in
    contexts_in = natural_each_of edition (r.if_key k.Context) P

    one_context : Natural bare_context (r.one_context_at edition n run) (r.one_context_at edition n run)
    unfolding r.one_context_at
    one_context =
        natural_then _ (key k.Context)
        (λ at. natural_then _ (name edition)
        (λ x. natural_then _ (sign s.LeftBracket)
        (λ _. natural_then _ (key k.Int)
        (λ _. natural_then _ (sign s.RightBracket)
        (λ _. natural_then _ (sign s.LeftBrace)
        (λ _. natural_then _ vars
        (λ vs. natural_then _ contexts_in
        (λ cs. natural_then _ (methods n)
        (λ ms. natural_then _ (sign s.RightBrace)
        (λ _. natural_give bare_context (Context at x vs (contexts_of cs) ms) (Context nowhere (bare_name x) (map bare_var vs) (contexts_of (map bare_context cs)) (map bare_method ms)) (ap (λ l. Context nowhere (bare_name x) (map bare_var vs) l (map bare_method ms)) (bare_contexts_of cs))))))))))))

  context : (n : ℕ) → Natural bare_context (r.context_at edition n) (r.context_at edition n)
  context = natural_deeper bare_context (r.one_context_at edition) one_context

-- ---- the service, which reads what stands behind the version by it

number_part : Natural itself r.version_at r.version_at
unfolding r.version_at
number_part = natural_then _ (natural_maybe first (class.Number ∷ []) two) (λ number. natural_give itself (unwrap_or number First) (unwrap_or (option_map itself number) First) (same number))
  where
    same : (o : Option Version) → unwrap_or (option_map itself o) First ≡ unwrap_or o First
    same (Some v) = refl
    same None = refl

members : (n : ℕ) (version : Version) (at : Span) (x : Name) → Natural bare_service (r.members_at n version at x) (r.members_at n version nowhere (bare_name x))
unfolding r.members_at
members n version at x =
    let own : Edition = edition_of version in
    natural_then _ (sign s.LeftBrace)
    (λ _. natural_then _ (vars own)
    (λ vs. natural_then _ (contexts_in own n (r.context_at own n) (context own n))
    (λ cs. natural_then _ (methods own n)
    (λ ms. natural_then _ (events own n)
    (λ es. natural_then _ (sign s.RightBrace)
    (λ _. natural_give bare_service
    (record { at = at; name = x; version = version; vars = vs; contexts = cs; methods = ms; events = es })
    (record { at = nowhere; name = bare_name x; version = version; vars = map bare_var vs; contexts = map bare_context cs; methods = map bare_method ms; events = map bare_event es })
    refl))))))

pub service : (n : ℕ) → Natural bare_service (r.service_at n) (r.service_at n)
unfolding r.service_at
service n =
    natural_then _ (key k.Service)
    (λ at. natural_then _ (name first)
    (λ x. natural_then _ number_part
    (λ version. members n version at x)))
