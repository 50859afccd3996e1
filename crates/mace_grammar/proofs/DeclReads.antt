-- The readers of declarations read their productions.
use Rattle.std.proofs.Common.{◌≡◌, ℕ, suc, List, [], ◌∷◌, None, Bool, true, false, refl, sym, ◌∙◌, ap, arith, unwrap_or}
use Rattle.std.proofs.lemmas.Bool.Decides.{nat_tests}
use Rattle.std.specs.Prelude.{◌==◌, ◌&&◌, if◌then◌else◌}
use Rattle.wave_base.specs.declared.span.Span.{Span}
use Rattle.wave_base.specs.declared.version.Version.{Version}
use Rattle.wave_base.specs.declared.version.Version.TheVariants.{First}
use Rattle.mace_lexer.specs.declared.token.Token.{Token}
use Rattle.mace_lexer.specs.declared.token.Word.{Word}
use Rattle.mace_lexer.specs.declared.token.Word.TheVariants as word
use Rattle.mace_lexer.specs.declared.keyword.Keyword.{Keyword}
use Rattle.mace_lexer.specs.declared.keyword.Keyword.TheVariants as k
use Rattle.mace_lexer.specs.declared.sign.Sign.TheVariants as s
use Rattle.mace_lexer.specs.Codes.{key_code}
use Rattle.mace_ast.specs.declared.name.Name.{Name}
use Rattle.mace_ast.specs.Decls.{ContextTree, Context, contexts_of}
use Rattle.mace_grammar.specs.Part.{Part, ◌>>◌, many, maybe}
use Rattle.mace_grammar.specs.inner.Run.{Reader, word as token, has, sees, choice, some, give}
use Rattle.mace_grammar.specs.declared.class.Class.{Class}
use Rattle.mace_grammar.specs.declared.class.Class.TheVariants as class
use Rattle.mace_grammar.specs.inner.Classes as classes
use Rattle.mace_grammar.specs.Words as w
use Rattle.mace_grammar.specs.Grammar as g
use Rattle.mace_grammar.specs.inner.Readers as r
use Rattle.mace_grammar.specs.Words.{Edition, first, edition_of}
use Rattle.mace_grammar.proofs.Versions.{IsSound, first_sound, edition_sound}
use Rattle.mace_grammar.proofs.Outcomes.{chosen_false}
use Rattle.mace_grammar.proofs.Reading.{Reads, another, reads_classed}
use Rattle.mace_grammar.proofs.InTurn.{reads_pure, next_part, inside}
use Rattle.mace_grammar.proofs.Choices.{optional}
use Rattle.mace_grammar.proofs.Repeats.{repeated}
use Rattle.mace_grammar.proofs.Nests.{reads_deep}
use Rattle.mace_grammar.proofs.Productions.{key, sign, name, end, two, type, vars, brace_same}
use Rattle.mace_grammar.proofs.ExprReads.{any_expr, any_key}
use Rattle.mace_grammar.proofs.StmtReads.{stmts, any_block}

module _ (edition : Edition) (sound : IsSound edition) where
  abbrev kind : Token → Class
  kind = classes.kind edition

  -- the reader of the keyword `return` where it ends a method
  abbrev ending : Reader Span
  ending = token (λ t. w.end_word edition t.span t.word)

  -- where `return` begins a statement, no word has the class of that keyword
  module _ (early : edition.early ≡ true) where
    no_name : (b : Bool) → has (r.if_key k.Return) (if b then class.Name else class.Finish) ≡ false
    no_name true = refl
    no_name false = refl

    no_key : (j : Keyword) (b : Bool) → (key_code j == key_code k.Return) ≡ b → has (r.if_key k.Return) (if b && true then class.Leave else class.Key j) ≡ false
    no_key j true e = refl
    no_key j false e = grind (arith, nat_tests)

    no_return : (v : Word) → has (r.if_key k.Return) (classes.class_of edition v) ≡ false
    no_return (word.Name t) = no_name (edition.is_name t)
    no_return (word.Number n) = refl
    no_return (word.Text t) = refl
    no_return (word.Key j) =
        ap (λ b. has (r.if_key k.Return) (if (key_code j == key_code k.Return) && b then class.Leave else class.Key j)) early
        ∙ no_key j (key_code j == key_code k.Return) refl
    no_return (word.Sign j) = refl

    none_next : (ts : List Token) → sees kind (r.if_key k.Return) ts ≡ false
    none_next [] = refl
    none_next (t ∷ ts) = no_return t.word

  -- so it makes no difference that the reader does not look at the version
  same_ending : (m : ℕ) (ts : List Token) → choice kind (r.if_key k.Return) (some (r.last_at edition ending m)) (give None) ts ≡ choice kind (r.if_key k.Return) (some (r.last_at edition (r.key_at k.Return) m)) (give None) ts
  same_ending m ts = by edition.early refl
    where
      by : (b : Bool) → edition.early ≡ b → choice kind (r.if_key k.Return) (some (r.last_at edition ending m)) (give None) ts ≡ choice kind (r.if_key k.Return) (some (r.last_at edition (r.key_at k.Return) m)) (give None) ts
      by true e = let none = none_next e ts in chosen_false (sees kind (r.if_key k.Return) ts) _ _ none ∙ sym (chosen_false (sees kind (r.if_key k.Return) ts) _ _ none)
      by false e = ap (λ b. choice kind (r.if_key k.Return) (some (r.last_at edition (token (λ t. if b then None else w.key_word k.Return t.span t.word)) m)) (give None) ts) e

  module _ (m : ℕ) where
    param : Reads kind m (g.param edition) (g.param edition) (r.param_at edition) (class.Name ∷ []) false []
    unfolding r.param_at
    param =
        next_part kind (name edition sound m)
        (λ n. next_part kind (sign edition sound m s.Colon)
        (λ _. next_part kind (type edition sound m) (λ t. reads_pure kind m (record { name = n; kind = t })) refl) refl) refl

    params : Reads kind m (g.params edition) (g.params edition) (r.params_at edition) (r.if_sign s.LeftParen) false []
    unfolding r.params_at r.separated_at r.list_at r.next_at
    params =
        next_part kind (sign edition sound m s.LeftParen)
        (λ _. next_part kind
        (optional kind (next_part kind param (λ first. next_part kind (repeated kind (next_part kind (sign edition sound m s.Comma) (λ _. param) refl) refl) (λ others. reads_pure kind m (first ∷ others)) refl) refl))
        (λ found. next_part kind (sign edition sound m s.RightParen) (λ _. reads_pure kind m (unwrap_or found [])) refl)
        refl)
        refl

    result : Reads kind m g.result g.result (r.result_at edition) (r.if_sign s.Colon) true (r.if_sign s.Colon)
    unfolding r.result_at
    result = optional kind (next_part kind (sign edition sound m s.Colon) (λ _. type edition sound m) refl)

    last : (want : Keyword) (keyword : Part Span) (run : Reader Span) → Reads kind m keyword keyword run (r.if_key want) false [] → Reads kind m (g.last edition keyword) (g.last edition keyword) (r.last_at edition run m) (r.if_key want) false []
    unfolding r.last_at
    last want keyword run K =
        next_part kind K
        (λ at. next_part kind (any_expr edition sound m)
        (λ value. next_part kind (sign edition sound m s.Semicolon) (λ _. reads_pure kind m (record { at = at; value = value })) refl) refl) refl

    method_end : Reads kind m (maybe (g.last edition (w.end edition))) (maybe (g.last edition (w.end edition))) (r.maybe_last_at edition k.Return m) (r.if_key k.Return) true (r.if_key k.Return)
    unfolding r.maybe_last_at
    method_end = another kind (optional kind (last k.Return (w.end edition) ending (end edition sound m))) (same_ending m)

    event_end : Reads kind m (maybe (g.last edition (w.key k.Reply))) (maybe (g.last edition (w.key k.Reply))) (r.maybe_last_at edition k.Reply m) (r.if_key k.Reply) true (r.if_key k.Reply)
    unfolding r.maybe_last_at
    event_end = optional kind (last k.Reply (w.key k.Reply) (r.key_at k.Reply) (key edition sound m k.Reply refl))

    method : Reads kind m (g.method edition) (g.method edition) (r.method_at edition m) (r.if_key k.Method) false []
    unfolding r.method_at
    method =
        next_part kind (key edition sound m k.Method refl)
        (λ at. next_part kind (name edition sound m)
        (λ n. next_part kind params
        (λ ps. next_part kind result
        (λ t. next_part kind (sign edition sound m s.LeftBrace)
        (λ _. next_part kind (stmts edition sound m)
        (λ body. next_part kind method_end
        (λ end. next_part kind (sign edition sound m s.RightBrace)
        (λ _. reads_pure kind m (record { at = at; name = n; params = ps; result = t; body = body; last = end }))
        refl) refl) refl) refl) refl) refl) refl) refl

    methods : Reads kind m (many (g.method edition)) (many (g.method edition)) (r.methods_at edition m) (r.if_key k.Method) true (r.if_key k.Method)
    unfolding r.methods_at
    methods = repeated kind method refl

    down : Reads kind m (g.down edition) (g.down edition) (r.down_at edition m) (r.if_key k.Down) false []
    unfolding r.down_at
    down =
        next_part kind (key edition sound m k.Down refl)
        (λ at. next_part kind (name edition sound m)
        (λ c. next_part kind (any_key edition sound m)
        (λ place. next_part kind (any_block edition sound m)
        (λ body. reads_pure kind m (record { at = at; class = c.text; key = place; body = body }))
        refl) refl) refl) refl

    phases : Reads kind m (many (g.down edition)) (many (g.down edition)) (r.phases_at edition m) (r.if_key k.Down) true (r.if_key k.Down)
    unfolding r.phases_at
    phases = repeated kind down refl

    here : Reads kind m (maybe (w.key k.Here >> (g.any_block edition))) (maybe (w.key k.Here >> (g.any_block edition))) (r.here_at edition m) (r.if_key k.Here) true (r.if_key k.Here)
    unfolding r.here_at
    here = optional kind (next_part kind (key edition sound m k.Here refl) (λ _. any_block edition sound m) refl)

    event : Reads kind m (g.event edition) (g.event edition) (r.event_at edition m) (r.if_key k.Event) false []
    unfolding r.event_at
    event =
        next_part kind (key edition sound m k.Event refl)
        (λ at. next_part kind (name edition sound m)
        (λ n. next_part kind params
        (λ ps. next_part kind result
        (λ t. next_part kind (sign edition sound m s.LeftBrace)
        (λ _. next_part kind here
        (λ h. next_part kind phases
        (λ found. next_part kind event_end
        (λ end. next_part kind (sign edition sound m s.RightBrace)
        (λ _. reads_pure kind m (record { at = at; name = n; params = ps; result = t; here = h; phases = found; last = end }))
        refl) refl) refl) refl) refl) refl) refl) refl) refl

    events : Reads kind m (many (g.event edition)) (many (g.event edition)) (r.events_at edition m) (r.if_key k.Event) true (r.if_key k.Event)
    unfolding r.events_at
    events = repeated kind event refl

  module _ (m : ℕ) (p p' : Part ContextTree) (run : Reader ContextTree) (P : Reads kind m p p' run (r.if_key k.Context) false []) where
    contexts_in : Reads kind m (many p) (many p') (r.contexts_in edition run) (r.if_key k.Context) true (r.if_key k.Context)
    unfolding r.contexts_in
    contexts_in = repeated kind P refl

    one_context : Reads kind (suc m) (g.one_context edition p) (g.one_context edition p') (r.one_context_at edition m run) (r.if_key k.Context) false []
    unfolding r.one_context_at
    one_context =
        inside kind (key edition sound (suc m) k.Context refl)
        (λ at. next_part kind (name edition sound m)
        (λ n. next_part kind (sign edition sound m s.LeftBracket)
        (λ _. next_part kind (key edition sound m k.Int refl)
        (λ _. next_part kind (sign edition sound m s.RightBracket)
        (λ _. next_part kind (sign edition sound m s.LeftBrace)
        (λ _. next_part kind (vars edition sound m)
        (λ vs. next_part kind contexts_in
        (λ cs. next_part kind (methods m)
        (λ ms. next_part kind (sign edition sound m s.RightBrace)
        (λ _. reads_pure kind m (Context at n vs (contexts_of cs) ms))
        refl) refl) refl) refl) refl) refl) refl) refl) refl) refl

  context : (m : ℕ) → Reads kind m (g.context edition) (g.context edition) (r.context_at edition m) (r.if_key k.Context) false []
  context m = reads_deep kind (g.one_context edition) (r.one_context_at edition) (r.if_key k.Context) [] one_context m

-- ---- the service, which reads what stands behind the version by it

abbrev plainly : Token → Class
plainly = classes.kind first

number_part : (m : ℕ) → Reads plainly m w.version_number w.version_number r.version_at (class.Number ∷ []) true (class.Number ∷ [])
unfolding w.version_number r.version_at
number_part m = next_part plainly (optional plainly (two first first_sound m)) (λ number. reads_pure plainly m (unwrap_or number First)) refl

module _ (m : ℕ) (version : Version) (at : Span) (n : Name) where
  abbrev own : Edition
  own = edition_of version

  abbrev told : Token → Class
  told = classes.kind own

  abbrev own_sound : IsSound own
  own_sound = edition_sound version

  members : Reads plainly m (g.members version at n) (g.members version at n) (r.members_at m version at n) (r.if_sign s.LeftBrace) false []
  unfolding g.members r.members_at
  members =
      reads_classed told plainly m (g.members version at n) (g.members version at n) (r.members_at m version at n) (r.if_sign s.LeftBrace) (brace_same own first)
      (next_part told (sign own own_sound m s.LeftBrace)
      (λ _. next_part told (vars own own_sound m)
      (λ vs. next_part told (contexts_in own own_sound m (g.context own) (g.context own) (r.context_at own m) (context own own_sound m))
      (λ cs. next_part told (methods own own_sound m)
      (λ ms. next_part told (events own own_sound m)
      (λ es. next_part told (sign own own_sound m s.RightBrace)
      (λ _. reads_pure told m (record { at = at; name = n; version = version; vars = vs; contexts = cs; methods = ms; events = es }))
      refl) refl) refl) refl) refl) refl)

pub service : (m : ℕ) → Reads plainly m g.service g.service (r.service_at m) (r.if_key k.Service) false []
unfolding g.service r.service_at
service m =
    next_part plainly (key first first_sound m k.Service refl)
    (λ at. next_part plainly (name first first_sound m)
    (λ n. next_part plainly (number_part m)
    (λ version. members m version at n)
    refl) refl) refl
