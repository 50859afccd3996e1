-- How many tokens a reader leaves: an item takes at least one.
use Rattle.std.proofs.Common.{◌≡◌, ℕ, zero, suc, ◌<◌, ◌≤◌, List, [], ◌∷◌, length, Option, Some, None, Ok, Err, Bool, true, false, refl, ap, arith, length-append}
use Rattle.std.specs.Prelude.{if◌then◌else◌}
use Rattle.wave_base.specs.declared.span.Span.{Span}
use Rattle.wave_base.specs.declared.version.Version.{Version}
use Rattle.mace_lexer.specs.declared.token.Token.{Token}
use Rattle.mace_lexer.specs.declared.keyword.Keyword.{Keyword}
use Rattle.mace_lexer.specs.declared.keyword.Keyword.TheVariants as k
use Rattle.mace_lexer.specs.declared.sign.Sign.{Sign}
use Rattle.mace_lexer.specs.declared.sign.Sign.TheVariants as s
use Rattle.mace_ast.specs.Decls.{ContextTree}
use Rattle.mace_grammar.specs.Part.{Part}
use Rattle.mace_grammar.specs.Words as w
use Rattle.mace_grammar.specs.Words.{Edition, edition_of}
use Rattle.mace_grammar.specs.declared.class.Class.{Class}
use Rattle.mace_grammar.specs.declared.class.Class.TheVariants as class
use Rattle.mace_grammar.specs.inner.Classes as classes
use Rattle.mace_grammar.specs.inner.Run.{Outcome, Reader, and_then, give, after, outcome_of, word, sees, choice, each, each_of, with_front, some}
use Rattle.mace_grammar.specs.inner.Readers as reader
use Rattle.mace_grammar.proofs.Outcomes.{left}
use Rattle.mace_grammar.proofs.Reading.{Reads, Heads, shorter}
use Rattle.mace_grammar.proofs.Versions.{IsSound, edition_sound}
use Rattle.mace_grammar.proofs.Productions as plain
use Rattle.mace_grammar.proofs.ExprReads as exprs
use Rattle.mace_grammar.proofs.StmtReads as stmts

-- no more tokens are left than there were
pub record Leaves {A : Type 0} (run : Reader A) : Type 0 where
  pub most : (ts : List Token) → left (run ts) ≤ length ts

-- behind what was read there are fewer
pub record Takes {A : Type 0} (run : Reader A) : Type 0 where
  pub fewer : (ts rest : List Token) (a : A) → run ts ≡ Ok (a, rest) → length rest < length ts
  pub stuck : (ts rest : List Token) → run ts ≡ Err rest → length rest ≤ length ts

some_left : {A : Type 0} {run : Reader A} → Takes run → Leaves run
some_left {A = A} {run = run} T = record { most = λ ts. of ts (run ts) refl }
  where
    of : (ts : List Token) (o : Outcome A) → run ts ≡ o → left o ≤ length ts
    of ts (Ok x) e = let h = T.fewer ts x.1 x.0 e in omega arith
    of ts (Err r) e = T.stuck ts r e

given : {A : Type 0} {a : A} → Leaves (give a)
given = record { most = λ ts. omega arith }

takes_word : {A : Type 0} (f : Token → Option A) → Takes (word f)
takes_word {A = A} f = record { fewer = fewer; stuck = stuck }
  where
    some_fewer : (t : Token) (ts rest : List Token) (a : A) (o : Option A) → outcome_of (t ∷ ts) ts o ≡ Ok (a, rest) → length rest < length (t ∷ ts)
    some_fewer t ts rest a (Some b) e = omega (arith, ap left e)
    some_fewer t ts rest a None e = cc

    fewer : (ts rest : List Token) (a : A) → word f ts ≡ Ok (a, rest) → length rest < length ts
    fewer [] rest a e = cc
    fewer (t ∷ ts) rest a e = some_fewer t ts rest a (f t) e

    none_stuck : (t : Token) (ts rest : List Token) (o : Option A) → outcome_of (t ∷ ts) ts o ≡ Err rest → length rest ≤ length (t ∷ ts)
    none_stuck t ts rest (Some b) e = cc
    none_stuck t ts rest None e = omega (arith, ap left e)

    stuck : (ts rest : List Token) → word f ts ≡ Err rest → length rest ≤ length ts
    stuck [] rest e = omega (arith, ap left e)
    stuck (t ∷ ts) rest e = none_stuck t ts rest (f t) e

then_left : {A B : Type 0} {p : Reader A} {q : A → Reader B} → Leaves p → ((a : A) → Leaves (q a)) → Leaves (after p q)
then_left {A = A} {p = p} {q = q} P Q = record { most = λ ts. of ts (p ts) (P.most ts) }
  where
    of : (ts : List Token) (o : Outcome A) → left o ≤ length ts → left (and_then o q) ≤ length ts
    of ts (Ok x) h = omega (arith, (Q x.0).most x.1)
    of ts (Err r) h = h

takes_then : {A B : Type 0} {p : Reader A} {q : A → Reader B} → Takes p → ((a : A) → Leaves (q a)) → Takes (after p q)
takes_then {A = A} {B = B} {p = p} {q = q} P Q = record { fewer = λ ts rest b e. ok ts rest b (p ts) refl e; stuck = λ ts rest e. err ts rest (p ts) refl e }
  where
    ok : (ts rest : List Token) (b : B) (o : Outcome A) → p ts ≡ o → and_then o q ≡ Ok (b, rest) → length rest < length ts
    ok ts rest b (Ok x) h e = omega (arith, P.fewer ts x.1 x.0 h, (Q x.0).most x.1, ap left e)
    ok ts rest b (Err r) h e = cc

    err : (ts rest : List Token) (o : Outcome A) → p ts ≡ o → and_then o q ≡ Err rest → length rest ≤ length ts
    err ts rest (Ok x) h e = omega (arith, P.fewer ts x.1 x.0 h, (Q x.0).most x.1, ap left e)
    err ts rest (Err r) h e = let fewer = P.stuck ts r h in let same : length r ≡ length rest = ap left e in omega arith

-- what reads a part of the grammar
part_left : {A : Type 0} {class : Token → Class} {m : ℕ} {p p' : Part A} {run : Reader A} {f g : List Class} {e : Bool} → Reads class m p p' run f e g → Leaves run
part_left {class = class} R = record { most = shorter class _ _ _ _ _ _ _ R }

takes_part : {A : Type 0} {class : Token → Class} {m : ℕ} {p : Part A} {run : Reader A} {f g : List Class} → Reads class m p p run f false g → Takes run
takes_part {A = A} {class = class} {run = run} {f = f} R = record { fewer = fewer; stuck = λ ts rest e. let h : left (run ts) ≤ length ts = shorter class _ _ _ _ _ _ _ R ts in omega (arith, h, ap left e) }
  where
    nonempty : (front : List Token) → Heads class f false front → 0 < length front
    nonempty [] h = cc
    nonempty (t ∷ ts) h = omega arith

    fewer : (ts rest : List Token) (a : A) → run ts ≡ Ok (a, rest) → length rest < length ts
    fewer ts rest a e =
        let s = R.sound ts rest a e in
        omega (arith, nonempty s.0 (R.heads a s.0 s.2), ap length s.1, length-append s.0 rest)

module _ (class : Token → Class) where
  choice_left : {A : Type 0} (set : List Class) {p q : Reader A} → Leaves p → Leaves q → Leaves (choice class set p q)
  choice_left set {p = p} {q = q} P Q = record { most = λ ts. of (sees class set ts) ts }
    where
      of : (b : Bool) (ts : List Token) → left (if b then p ts else q ts) ≤ length ts
      of true ts = P.most ts
      of false ts = Q.most ts

  maybe_left : {A : Type 0} (set : List Class) {run : Reader A} → Leaves run → Leaves (choice class set (some run) (give None))
  maybe_left set R = choice_left set (then_left R (λ a. given)) given

  turn_left : {A : Type 0} {run : Reader A} {others : Reader (List A)} → Leaves run → Leaves others → (b : Bool) (ts : List Token) → left (if b then and_then (run ts) (λ a r. and_then (others r) (with_front a)) else Ok ([], ts)) ≤ length ts
  turn_left {others = others} R O true ts = (then_left {q = λ a r. and_then (others r) (with_front a)} R (λ a. then_left {q = with_front a} O (λ l. record { most = λ ts. omega arith }))).most ts
  turn_left R O false ts = omega arith

  each_left : {A : Type 0} (set : List Class) {run : Reader A} → Leaves run → (n : ℕ) → Leaves (each class set run n)
  each_left set R zero = record { most = λ ts. omega arith }
  each_left set R (suc n) = record { most = λ ts. turn_left R (each_left set R n) (sees class set ts) ts }

  each_of_left : {A : Type 0} (set : List Class) {run : Reader A} → Leaves run → Leaves (each_of class set run)
  each_of_left set R = record { most = λ ts. (each_left set R (length ts)).most ts }

  same_turn : {A : Type 0} {run : Reader A} {p q : Reader (List A)} → Takes run → (ts : List Token) → ((rest : List Token) → length rest < length ts → p rest ≡ q rest) → (o : Outcome A) → run ts ≡ o → and_then o (λ a r. and_then (p r) (with_front a)) ≡ and_then o (λ a r. and_then (q r) (with_front a))
  same_turn T ts h (Ok x) e = ap (λ o. and_then o (with_front x.0)) (h x.1 (T.fewer ts x.1 x.0 e))
  same_turn T ts h (Err r) e = refl

  -- more turns than tokens make no difference
  pub enough : {A : Type 0} (set : List Class) {run : Reader A} → Takes run → (m n : ℕ) (ts : List Token) → length ts ≤ m → length ts ≤ n → each class set run m ts ≡ each class set run n ts
  enough set T zero zero ts h k = refl
  enough set T zero (suc n) [] h k = refl
  enough set T zero (suc n) (t ∷ ts) h k = absurd (omega arith)
  enough set T (suc m) zero [] h k = refl
  enough set T (suc m) zero (t ∷ ts) h k = absurd (omega arith)
  enough {A = A} set {run = run} T (suc m) (suc n) ts h k =
      let same = same_turn {p = each class set run m} {q = each class set run n} T ts (λ rest l. enough set T m n rest (omega arith) (omega arith)) (run ts) refl in
      ap (λ o. if sees class set ts then o else Ok ([], ts)) same

-- ---- the parts

key : (want : Keyword) → Takes (reader.key_at want)
key want = takes_word (λ t. w.key_word want t.span t.word)

sign : (want : Sign) → Leaves (reader.sign_at want)
sign want = some_left (takes_word (λ t. w.sign_word want t.span t.word))

kind_word : Leaves reader.type_at
kind_word = some_left (takes_word (λ t. w.kind_word t.word))

module _ (version : Version) where
  abbrev edition : Edition
  edition = edition_of version

  abbrev kind : Token → Class
  kind = classes.kind edition

  abbrev sound : IsSound edition
  sound = edition_sound version

  name : Leaves (reader.name_at edition)
  name = some_left (takes_word (λ t. w.name_word edition t.span t.word))

  pub takes_var : Takes (reader.var_at edition)
  takes_var = takes_part (plain.var edition sound 0)

  pub takes_next : {A : Type 0} {item : Reader A} → Leaves item → Takes (reader.next_at edition item)
  unfolding reader.next_at
  takes_next I = takes_then (takes_word (λ t. w.sign_word s.Comma t.span t.word)) (λ _. I)

  pub takes_next_expr : (n : ℕ) → Takes (reader.next_at edition (reader.expr_at edition (reader.unary_at edition n)))
  takes_next_expr n = takes_next (part_left (exprs.expr edition sound n _ _ _ (exprs.unary edition sound n)))

  pub takes_stmt : (n : ℕ) → Takes (reader.stmt_at edition n)
  takes_stmt n = takes_part (stmts.stmt edition sound n)

  param : Leaves (reader.param_at edition)
  unfolding reader.param_at
  param = then_left name (λ n. then_left (sign s.Colon) (λ _. then_left kind_word (λ t. given)))

  pub takes_next_param : Takes (reader.next_at edition (reader.param_at edition))
  takes_next_param = takes_next param

  param_list : Leaves (reader.list_at edition (reader.param_at edition))
  unfolding reader.list_at
  param_list = then_left param (λ p. then_left (each_of_left kind (reader.if_sign s.Comma) (some_left takes_next_param)) (λ others. given))

  params : Leaves (reader.params_at edition)
  unfolding reader.params_at reader.separated_at
  params = then_left (sign s.LeftParen) (λ _. then_left (maybe_left kind (class.Name ∷ []) param_list) (λ found. then_left (sign s.RightParen) (λ _. given)))

  result : Leaves (reader.result_at edition)
  unfolding reader.result_at
  result = maybe_left kind (reader.if_sign s.Colon) (then_left (sign s.Colon) (λ _. kind_word))

  last : (keyword : Reader Span) (n : ℕ) → Leaves keyword → Leaves (reader.last_at edition keyword n)
  unfolding reader.last_at
  last keyword n K = then_left K (λ at. then_left (part_left (exprs.any_expr edition sound n)) (λ value. then_left (sign s.Semicolon) (λ _. given)))

  maybe_last : (want : Keyword) (n : ℕ) → Leaves (reader.maybe_last_at edition want n)
  unfolding reader.maybe_last_at
  maybe_last want n = maybe_left kind (reader.if_key want) (last (reader.key_at want) n (some_left (key want)))

  pub takes_method : (n : ℕ) → Takes (reader.method_at edition n)
  unfolding reader.method_at
  takes_method n =
      takes_then (key k.Method)
      (λ at. then_left name
      (λ x. then_left params
      (λ ps. then_left result
      (λ t. then_left (sign s.LeftBrace)
      (λ _. then_left (part_left (stmts.stmts edition sound n))
      (λ body. then_left (maybe_last k.Return n)
      (λ last. then_left (sign s.RightBrace) (λ _. given))))))))

  pub takes_phase : (n : ℕ) → Takes (reader.down_at edition n)
  unfolding reader.down_at
  takes_phase n =
      takes_then (key k.Down)
      (λ at. then_left name
      (λ c. then_left (part_left (exprs.any_key edition sound n))
      (λ place. then_left (part_left (stmts.any_block edition sound n)) (λ body. given))))

  here : (n : ℕ) → Leaves (reader.here_at edition n)
  unfolding reader.here_at
  here n = maybe_left kind (reader.if_key k.Here) (then_left (some_left (key k.Here)) (λ _. part_left (stmts.any_block edition sound n)))

  phases : (n : ℕ) → Leaves (reader.phases_at edition n)
  unfolding reader.phases_at
  phases n = each_of_left kind (reader.if_key k.Down) (some_left (takes_phase n))

  pub takes_event : (n : ℕ) → Takes (reader.event_at edition n)
  unfolding reader.event_at
  takes_event n =
      takes_then (key k.Event)
      (λ at. then_left name
      (λ x. then_left params
      (λ ps. then_left result
      (λ t. then_left (sign s.LeftBrace)
      (λ _. then_left (here n)
      (λ root. then_left (phases n)
      (λ below. then_left (maybe_last k.Reply n)
      (λ last. then_left (sign s.RightBrace) (λ _. given)))))))))

  methods : (n : ℕ) → Leaves (reader.methods_at edition n)
  unfolding reader.methods_at
  methods n = each_of_left kind (reader.if_key k.Method) (some_left (takes_method n))

  contexts : {context : Reader ContextTree} → Takes context → Leaves (reader.contexts_in edition context)
  unfolding reader.contexts_in
  contexts C = each_of_left kind (reader.if_key k.Context) (some_left C)

  takes_one_context : (n : ℕ) {context : Reader ContextTree} → Takes context → Takes (reader.one_context_at edition n context)
  unfolding reader.one_context_at
  takes_one_context n C =
      takes_then (key k.Context)
      (λ at. then_left name
      (λ x. then_left (sign s.LeftBracket)
      (λ _. then_left (some_left (key k.Int))
      (λ _. then_left (sign s.RightBracket)
      (λ _. then_left (sign s.LeftBrace)
      (λ _. then_left (part_left (plain.vars edition sound 0))
      (λ vars. then_left (contexts C)
      (λ inner. then_left (methods n)
      (λ own. then_left (sign s.RightBrace) (λ _. given))))))))))

  pub takes_context : (n : ℕ) → Takes (reader.context_at edition n)
  takes_context zero = record { fewer = λ ts rest a e. cc; stuck = λ ts rest e. let same : length ts ≡ length rest = ap left e in omega arith }
  takes_context (suc n) = let one = takes_one_context n (takes_context n) in record { fewer = one.fewer; stuck = one.stuck }
