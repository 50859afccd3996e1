-- The canonical words of declarations that tokens spell can stand in a text.
use Rattle.std.proofs.Common.{◌≡◌, ℕ, List, [], ◌∷◌, ◌++◌, Option, Some, None, Bool, true, false, pos, refl, subst, arith}
use Rattle.std.specs.Prelude.{ℤ, ◌==◌, if◌then◌else◌}
use Rattle.wave_base.specs.declared.span.Span.{Span}
use Rattle.wave_base.specs.declared.value.Kind.{Kind}
use Rattle.wave_base.specs.declared.version.Version.{Version}
use Rattle.wave_base.specs.declared.version.Version.TheVariants.{First, Second}
use Rattle.mace_lexer.specs.declared.token.Word.{Word}
use Rattle.mace_lexer.specs.declared.token.Word.TheVariants as word
use Rattle.mace_lexer.specs.declared.keyword.Keyword.{Keyword}
use Rattle.mace_lexer.specs.declared.keyword.Keyword.TheVariants as k
use Rattle.mace_lexer.specs.declared.sign.Sign.TheVariants as s
use Rattle.mace_ast.specs.declared.name.Name.{Name}
use Rattle.mace_ast.specs.declared.field.Initial.{Initial}
use Rattle.mace_ast.specs.declared.field.VarDecl.{VarDecl}
use Rattle.mace_ast.specs.declared.field.Literal.TheVariants as lit
use Rattle.mace_ast.specs.declared.method.Param.{Param}
use Rattle.mace_ast.specs.Exprs as e
use Rattle.mace_ast.specs.Stmts.{StmtTree}
use Rattle.mace_ast.specs.Decls.{LastTree, MethodTree, PhaseTree, EventTree, ContextTree, Context, contexts_of, ServiceTree}
use Rattle.mace_grammar.specs.Part.{Part}
use Rattle.mace_lexer.specs.Words.{keyword}
use Rattle.mace_grammar.specs.Words as w
use Rattle.mace_grammar.specs.Words.{Edition, first, edition_of}
use Rattle.mace_grammar.specs.Fits.{Each, IfThere}
use Rattle.mace_grammar.specs.Grammar as g
use Rattle.mace_printer.specs.Canon.{index_words, listed_words, stmt_words, body_words, braced_words, literal_words, var_words, param_words, params_words, result_words, last_words, method_words, phase_words, here_words, event_words, context_words, contexts_words, number, version_words, service_words, all_of}
use Rattle.mace_printer.specs.Written.{IsParsed}
use Rattle.mace_printer.proofs.Standing.{CanStand, Stand}
use Rattle.mace_printer.proofs.Holds.{Holds, any, pure_holds, word_holds, then_holds, or_holds, many_holds, maybe_holds, deep_holds, Named, name_holds, in_parens_hold, all_stand, listed_stand, stand_both, cuts_good}
use Rattle.mace_printer.proofs.Fine.{Fine, index_fine}
use Rattle.mace_printer.proofs.Fine

abbrev FineVar : VarDecl → Type 0
FineVar v = Stand (var_words v)

abbrev FineMethod : MethodTree → Type 0
FineMethod m = Stand (method_words m)

abbrev FineEvent : EventTree → Type 0
FineEvent v = Stand (event_words v)

abbrev FineContext : ContextTree → Type 0
FineContext x = Stand (context_words x)

module _ (edition : Edition) where
  -- ---- statements

  abbrev Stands : StmtTree → Type 0
  Stands x = Stand (stmt_words x)

  -- ---- fields

  abbrev FineInitial : Initial → Type 0
  FineInitial i = Stand (literal_words i.value)

  initial_key_fine : (at : Span) (j : Keyword) (i : Initial) → w.initial_of_key at j ≡ Some i → FineInitial i
  initial_key_fine at k.True i h = let same : record { at = at; value = lit.Bool true } ≡ i = cc in subst FineInitial same (tt, tt)
  initial_key_fine at k.False i h = let same : record { at = at; value = lit.Bool false } ≡ i = cc in subst FineInitial same (tt, tt)
  initial_key_fine at k.Empty i h = let same : record { at = at; value = lit.Empty } ≡ i = cc in subst FineInitial same (tt, tt)
  initial_key_fine at _ i h = cc

  initial_fine : (at : Span) (v : Word) (i : Initial) → CanStand v → w.initial_word at v ≡ Some i → FineInitial i
  initial_fine at (word.Number n) i c h = let same : record { at = at; value = lit.Number n } ≡ i = cc in subst FineInitial same (c, tt)
  initial_fine at (word.Text b) i c h = let same : record { at = at; value = lit.Text b } ≡ i = cc in subst FineInitial same (c, tt)
  initial_fine at (word.Key j) i c h = initial_key_fine at j i h
  initial_fine at (word.Name n) i c h = cc
  initial_fine at (word.Sign j) i c h = cc

  abbrev Writable : ℤ → Type 0
  Writable n = CanStand (word.Number n)

  number_stands : (v : Word) (n : ℤ) → CanStand v → w.number_word v ≡ Some n → Writable n
  number_stands (word.Number m) n h e = let same : m ≡ n = cc in subst Writable same h
  number_stands (word.Name b) n h e = cc
  number_stands (word.Text b) n h e = cc
  number_stands (word.Key j) n h e = cc
  number_stands (word.Sign j) n h e = cc

  initial_holds : Holds FineInitial g.initial
  initial_holds = or_holds (word_holds FineInitial (λ t. w.initial_word t.span t.word) (λ t x h e. initial_fine t.span t.word x h e))
      (then_holds (any (w.sign s.Minus)) (λ at _. then_holds (word_holds Writable (λ t. w.number_word t.word) (λ t x h e. number_stands t.word x h e)) (λ n hn. pure_holds FineInitial (record { at = at; value = lit.Minus n }) (tt, (hn, tt)))))

  var_holds : Holds FineVar (g.var edition)
  var_holds = then_holds (any (w.key k.Var)) (λ at _. then_holds (name_holds edition) (λ n hn. then_holds (any (w.sign s.Colon)) (λ _ _. then_holds (any w.type) (λ j _. then_holds (any (w.sign s.Equals)) (λ _ _. then_holds initial_holds (λ i hi. then_holds (any (w.sign s.Semicolon)) (λ _ _. pure_holds FineVar (record { at = at; name = n; kind = j; initial = i })
      (tt, (hn, (tt, (tt, (tt, Fine.ended edition (literal_words i.value) hi))))))))))))

  -- ---- methods and events

  abbrev FineParam : Param → Type 0
  FineParam p = Stand (param_words p)

  param_holds : Holds FineParam (g.param edition)
  param_holds = then_holds (name_holds edition) (λ n hn. then_holds (any (w.sign s.Colon)) (λ _ _. then_holds (any w.type) (λ j _. pure_holds FineParam (record { name = n; kind = j }) (hn, (tt, (tt, tt))))))

  params_hold : Holds (Each FineParam) (g.params edition)
  params_hold = in_parens_hold param_holds

  params_fine : (ps : List Param) → Each FineParam ps → Stand (params_words ps)
  params_fine ps h = (tt, stand_both (listed_words param_words ps) (word.Sign s.RightParen ∷ []) (listed_stand FineParam param_words (λ p hp. hp) ps h) (tt, tt))

  result_fine : (o : Option Kind) → Stand (result_words o)
  result_fine None = tt
  result_fine (Some j) = (tt, (tt, tt))

  abbrev FineLast : LastTree → Type 0
  FineLast l = Fine l.value

  last_holds : (keyword : Part Span) → Holds FineLast (g.last edition keyword)
  last_holds keyword = then_holds (any keyword) (λ at _. then_holds (Fine.any_expr_fine edition) (λ v hv. then_holds (any (w.sign s.Semicolon)) (λ _ _. pure_holds FineLast (record { at = at; value = v }) hv)))

  last_fine : (want : Keyword) (o : Option LastTree) → IfThere FineLast o → Stand (last_words want o)
  last_fine want None h = tt
  last_fine want (Some l) h = (tt, Fine.value_ended edition l.value h)

  abbrev brace : List Word
  brace = word.Sign s.RightBrace ∷ []

  method_holds : Holds FineMethod (g.method edition)
  method_holds = then_holds (any (w.key k.Method)) (λ at _. then_holds (name_holds edition) (λ n hn. then_holds params_hold (λ ps hp. then_holds (any g.result) (λ r _. then_holds (any (w.sign s.LeftBrace)) (λ _ _. then_holds (Fine.stmts_hold edition) (λ body hb. then_holds (maybe_holds (last_holds (w.end edition))) (λ end he. then_holds (any (w.sign s.RightBrace)) (λ _ _. pure_holds FineMethod (record { at = at; name = n; params = ps; result = r; body = body; last = end })
      (let ends : List Word = last_words k.Return end ++ brace in
      let rest : List Word = word.Sign s.LeftBrace ∷ (body_words body ++ ends) in
      (tt, (hn, stand_both (params_words ps) (result_words r ++ rest) (params_fine ps hp) (stand_both (result_words r) rest (result_fine r) (tt, stand_both (body_words body) ends (Fine.body_stands edition body hb) (stand_both (last_words k.Return end) brace (last_fine k.Return end he) (tt, tt)))))))))))))))

  abbrev FinePhase : PhaseTree → Type 0
  FinePhase p = Stand (phase_words p)

  phase_holds : Holds FinePhase (g.down edition)
  phase_holds = then_holds (any (w.key k.Down)) (λ at _. then_holds (name_holds edition) (λ c hc. then_holds (Fine.any_key_fine edition) (λ place hp. then_holds (Fine.any_block_holds edition) (λ body hb. pure_holds FinePhase (record { at = at; class = c.text; key = place; body = body })
      (tt, (hc, stand_both (index_words place) (braced_words body) (index_fine place hp) (Fine.braced_stand edition body hb)))))))

  here_fine : (o : Option (List StmtTree)) → IfThere (Each Stands) o → Stand (here_words o)
  here_fine None h = tt
  here_fine (Some xs) h = (tt, Fine.braced_stand edition xs h)

  event_holds : Holds FineEvent (g.event edition)
  event_holds = then_holds (any (w.key k.Event)) (λ at _. then_holds (name_holds edition) (λ n hn. then_holds params_hold (λ ps hp. then_holds (any g.result) (λ r _. then_holds (any (w.sign s.LeftBrace)) (λ _ _. then_holds (maybe_holds (then_holds (any (w.key k.Here)) (λ _ _. Fine.any_block_holds edition))) (λ here hh. then_holds (many_holds phase_holds) (λ phases hq. then_holds (maybe_holds (last_holds (w.key k.Reply))) (λ end he. then_holds (any (w.sign s.RightBrace)) (λ _ _. pure_holds FineEvent (record { at = at; name = n; params = ps; result = r; here = here; phases = phases; last = end })
      (let ends : List Word = last_words k.Reply end ++ brace in
      let downs : List Word = all_of phase_words phases ++ ends in
      let rest : List Word = word.Sign s.LeftBrace ∷ (here_words here ++ downs) in
      (tt, (hn, stand_both (params_words ps) (result_words r ++ rest) (params_fine ps hp) (stand_both (result_words r) rest (result_fine r) (tt, stand_both (here_words here) downs (here_fine here hh) (stand_both (all_of phase_words phases) ends (all_stand FinePhase phase_words (λ p hp. hp) phases hq) (stand_both (last_words k.Reply end) brace (last_fine k.Reply end he) (tt, tt)))))))))))))))))

  -- ---- contexts and the service

  contexts_fine : (xs : List ContextTree) → Each FineContext xs → Stand (contexts_words (contexts_of xs))
  contexts_fine [] h = tt
  contexts_fine (x ∷ xs) h = stand_both (context_words x) (contexts_words (contexts_of xs)) h.0 (contexts_fine xs h.1)

  vars_fine : (vs : List VarDecl) → Each FineVar vs → Stand (all_of var_words vs)
  vars_fine vs h = all_stand FineVar var_words (λ v hv. hv) vs h

  methods_fine : (ms : List MethodTree) → Each FineMethod ms → Stand (all_of method_words ms)
  methods_fine ms h = all_stand FineMethod method_words (λ m hm. hm) ms h

  one_holds : (context : Part ContextTree) → Holds FineContext context → Holds FineContext (g.one_context edition context)
  one_holds context H = then_holds (any (w.key k.Context)) (λ at _. then_holds (name_holds edition) (λ n hn. then_holds (any (w.sign s.LeftBracket)) (λ _ _. then_holds (any (w.key k.Int)) (λ _ _. then_holds (any (w.sign s.RightBracket)) (λ _ _. then_holds (any (w.sign s.LeftBrace)) (λ _ _. then_holds (many_holds var_holds) (λ vs hv. then_holds (many_holds H) (λ cs hc. then_holds (many_holds method_holds) (λ ms hm. then_holds (any (w.sign s.RightBrace)) (λ _ _. pure_holds FineContext (Context at n vs (contexts_of cs) ms)
      (let ends : List Word = all_of method_words ms ++ brace in
      let rest : List Word = contexts_words (contexts_of cs) ++ ends in
      (tt, (hn, (tt, (tt, (tt, (tt, stand_both (all_of var_words vs) rest (vars_fine vs hv) (stand_both (contexts_words (contexts_of cs)) ends (contexts_fine cs hc) (stand_both (all_of method_words ms) brace (methods_fine ms hm) (tt, tt))))))))))))))))))))

  context_holds : Holds FineContext (g.context edition)
  context_holds = deep_holds FineContext (g.one_context edition) one_holds

abbrev FineService : ServiceTree → Type 0
FineService t = Stand (service_words t)

version_fine : (version : Version) → Stand (version_words version)
version_fine First = tt
version_fine Second = ((2, omega arith, refl), tt)

members_hold : (version : Version) (at : Span) (n : Name) → Named n → Holds FineService (g.members version at n)
unfolding g.members service_words
members_hold version at n hn =
    let own : Edition = edition_of version in
    then_holds (any (w.sign s.LeftBrace)) (λ _ _. then_holds (many_holds (var_holds own)) (λ vs hv. then_holds (many_holds (context_holds own)) (λ cs hc. then_holds (many_holds (method_holds own)) (λ ms hm. then_holds (many_holds (event_holds own)) (λ es he. then_holds (any (w.sign s.RightBrace)) (λ _ _. pure_holds FineService (record { at = at; name = n; version = version; vars = vs; contexts = cs; methods = ms; events = es })
    (let events : List Word = all_of event_words es ++ (word.Sign s.RightBrace ∷ []) in
    let methods : List Word = all_of method_words ms ++ events in
    let contexts : List Word = all_of context_words cs ++ methods in
    let rest : List Word = word.Sign s.LeftBrace ∷ (all_of var_words vs ++ contexts) in (
      tt,
      (
        hn,
        stand_both (version_words version) rest (version_fine version)
            (tt, stand_both (all_of var_words vs) contexts (all_stand FineVar var_words (λ v hv. hv) vs hv) (stand_both (all_of context_words cs) methods (all_stand FineContext context_words (λ c hc. hc) cs hc) (stand_both (all_of method_words ms) events (all_stand FineMethod method_words (λ m hm. hm) ms hm) (stand_both (all_of event_words es) (word.Sign s.RightBrace ∷ []) (all_stand FineEvent event_words (λ v hv. hv) es he) (tt, tt))))),
      ),
    ))))))))

service_holds : Holds FineService g.service
unfolding g.service
service_holds = then_holds (any (w.key k.Service)) (λ at _. then_holds (name_holds first) (λ n hn. then_holds (any w.version_number) (λ version _. members_hold version at n hn)))

-- the canonical words of a service that was read can stand
pub parsed_stand : (t : ServiceTree) → IsParsed t → Stand (service_words t)
parsed_stand t h = let (text, tokens, cut, spelled) = h in service_holds.of t tokens (cuts_good cut) spelled
