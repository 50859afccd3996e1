-- Fields, methods, events, contexts and the service lead on.
use Rattle.wave_base.specs.declared.span.Span.{Span}
use Rattle.wave_base.specs.declared.version.Version.{Version}
use Rattle.wave_base.specs.declared.version.Version.TheVariants.{First}
use Rattle.mace_lexer.specs.declared.keyword.Keyword.TheVariants as k
use Rattle.mace_lexer.specs.declared.sign.Sign.TheVariants as s
use Rattle.mace_ast.specs.declared.name.Name.{Name}
use Rattle.mace_ast.specs.declared.field.Literal.TheVariants as lit
use Rattle.mace_ast.specs.Decls.{ContextTree, Context, contexts_of}
use Rattle.mace_grammar.specs.Part.{Part}
use Rattle.mace_grammar.specs.Words as w
use Rattle.mace_grammar.specs.Words.{Edition, edition_of}
use Rattle.mace_grammar.specs.Grammar as g
use Rattle.mace_hints.proofs.Leads.{Leads, Live, leads_never, leads_then, live_pure, live_then, live_or, live_maybe, live_many, live_deep, same_then}
use Rattle.mace_hints.proofs.Tokens.{key, sign, name, end, number, type, literal_initial, version_stays}
use Rattle.mace_hints.proofs.Tokens as tokens
use Rattle.mace_hints.proofs.Exprs.{in_parens, any_expr, any_key}
use Rattle.mace_hints.proofs.Stmts.{stmts, any_block}

minus_number : Live g.minus_number g.minus_number
minus_number = live_then (sign s.Minus) (λ a b. live_then number (λ c d. live_pure (record { at = a; value = lit.Minus c }) (record { at = b; value = lit.Minus d })))

initial : Live g.initial g.initial
initial = live_or literal_initial minus_number

result : Live g.result g.result
result = live_maybe (live_then (sign s.Colon) (λ _ _. type)).leads

module _ (version : Version) where
  abbrev edition : Edition
  edition = edition_of version

  var : Live (g.var edition) (g.var edition)
  var = live_then (key k.Var) (λ a a'. live_then (name version) (λ n n'. live_then (sign s.Colon) (λ _ _. live_then type (λ t t'. live_then (sign s.Equals) (λ _ _. live_then initial (λ v v'. live_then (sign s.Semicolon) (λ _ _. live_pure (record { at = a; name = n; kind = t; initial = v }) (record { at = a'; name = n'; kind = t'; initial = v' }))))))))

  param : Live (g.param edition) (g.param edition)
  param = live_then (name version) (λ n n'. live_then (sign s.Colon) (λ _ _. live_then type (λ t t'. live_pure (record { name = n; kind = t }) (record { name = n'; kind = t' }))))

  params : Live (g.params edition) (g.params edition)
  params = in_parens param

  last : (p : Part Span) → Leads p p → Leads (g.last edition p) (g.last edition p)
  last p P = leads_then P (λ a a'. live_then (any_expr version) (λ v v'. live_then (sign s.Semicolon) (λ _ _. live_pure (record { at = a; value = v }) (record { at = a'; value = v' }))))

  method : Live (g.method edition) (g.method edition)
  method =
      live_then (key k.Method)
      (λ a a'. live_then (name version)
      (λ n n'. live_then params
      (λ ps ps'. live_then result
      (λ t t'. live_then (sign s.LeftBrace)
      (λ _ _. live_then (stmts version)
      (λ b b'. live_then (live_maybe (last (w.end edition) (end version)))
      (λ l l'. live_then (sign s.RightBrace)
      (λ _ _. live_pure (record { at = a; name = n; params = ps; result = t; body = b; last = l }) (record { at = a'; name = n'; params = ps'; result = t'; body = b'; last = l' })))))))))

  down : Live (g.down edition) (g.down edition)
  down = live_then (key k.Down) (λ a a'. live_then (name version) (λ n n'. live_then (any_key version) (λ i i'. live_then (any_block version) (λ b b'. live_pure (record { at = a; class = n.text; key = i; body = b }) (record { at = a'; class = n'.text; key = i'; body = b' })))))

  event : Live (g.event edition) (g.event edition)
  event =
      live_then (key k.Event)
      (λ a a'. live_then (name version)
      (λ n n'. live_then params
      (λ ps ps'. live_then result
      (λ t t'. live_then (sign s.LeftBrace)
      (λ _ _. live_then (live_maybe (live_then (key k.Here) (λ _ _. any_block version)).leads)
      (λ h h'. live_then (live_many down.leads)
      (λ d d'. live_then (live_maybe (last (w.key k.Reply) (key k.Reply).leads))
      (λ l l'. live_then (sign s.RightBrace)
      (λ _ _. live_pure (record { at = a; name = n; params = ps; result = t; here = h; phases = d; last = l }) (record { at = a'; name = n'; params = ps'; result = t'; here = h'; phases = d'; last = l' }))))))))))

  one_context : (p q : Part ContextTree) → Leads p q → Live (g.one_context edition p) (g.one_context edition q)
  one_context p q P =
      live_then (key k.Context)
      (λ a a'. live_then (name version)
      (λ n n'. live_then (sign s.LeftBracket)
      (λ _ _. live_then (key k.Int)
      (λ _ _. live_then (sign s.RightBracket)
      (λ _ _. live_then (sign s.LeftBrace)
      (λ _ _. live_then (live_many var.leads)
      (λ vs vs'. live_then (live_many P)
      (λ cs cs'. live_then (live_many method.leads)
      (λ ms ms'. live_then (sign s.RightBrace)
      (λ _ _. live_pure (Context a n vs (contexts_of cs) ms) (Context a' n' vs' (contexts_of cs') ms')))))))))))

  context : Live (g.context edition) (g.context edition)
  context = live_deep (g.one_context edition) (λ p q P x. (one_context p q P).leads) (λ p. (one_context _ p (leads_never p)).some)

  members : (at at' : Span) (n n' : Name) → Live (g.members version at n) (g.members version at' n')
  unfolding g.members
  members at at' n n' =
      live_then (sign s.LeftBrace)
      (λ _ _. live_then (live_many var.leads)
      (λ vs vs'. live_then (live_many context.leads)
      (λ cs cs'. live_then (live_many method.leads)
      (λ ms ms'. live_then (live_many event.leads)
      (λ es es'. live_then (sign s.RightBrace)
      (λ _ _. live_pure (record { at = at; name = n; version = version; vars = vs; contexts = cs; methods = ms; events = es }) (record { at = at'; name = n'; version = version; vars = vs'; contexts = cs'; methods = ms'; events = es' })))))))

pub service : Live g.service g.service
unfolding g.service
service =
    live_then (key k.Service)
    (λ at at'. live_then (name First)
    (λ n n'. same_then w.version_number (λ v. g.members v at n) (λ v. g.members v at' n') tokens.version version_stays (λ v. members v at at' n n')))
