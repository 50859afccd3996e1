-- Each production's reader reads the production.
use Rattle.std.proofs.Common.{◌≡◌, ℕ, ◌⊎◌, inl, inr, ⊎_elim, List, [], ◌∷◌, ◌++◌, Option, Some, None, IsSome, Bool, true, false, refl, sym, ap, subst, ◌∙◌, eqb-true, eq-eqb}
use Rattle.std.specs.Prelude.{◌==◌, ◌||◌, ◌&&◌, if◌then◌else◌}
use Rattle.mace_lexer.specs.declared.token.Token.{Token}
use Rattle.wave_base.specs.declared.span.Span.{Span}
use Rattle.mace_lexer.specs.declared.token.Word.{Word}
use Rattle.mace_lexer.specs.declared.token.Word.TheVariants as word
use Rattle.mace_lexer.specs.declared.keyword.Keyword.{Keyword}
use Rattle.mace_lexer.specs.declared.keyword.Keyword.TheVariants as k
use Rattle.mace_lexer.specs.declared.sign.Sign.{Sign}
use Rattle.mace_lexer.specs.declared.sign.Sign.TheVariants as s
use Rattle.mace_lexer.specs.Codes.{key_code, sign_code}
use Rattle.mace_ast.specs.declared.expr.BinaryOp.{BinaryOp}
use Rattle.mace_ast.specs.declared.field.Literal.TheVariants as literal
use Rattle.mace_grammar.specs.Part.{one, many}
use Rattle.mace_grammar.specs.inner.Run.{word as token, has, each}
use Rattle.mace_grammar.specs.declared.class.TheConstants.{INITIALS, UNARY_OPS}
use Rattle.mace_grammar.specs.declared.class.Class.{Class}
use Rattle.mace_grammar.specs.declared.class.Class.TheVariants as class
use Rattle.mace_grammar.specs.inner.Classes as classes
use Rattle.mace_grammar.specs.inner.Classes.{class_eq}
use Rattle.mace_grammar.specs.Words as w
use Rattle.mace_grammar.specs.Grammar as g
use Rattle.mace_grammar.specs.inner.Readers as r
use Rattle.mace_grammar.proofs.Versions.{IsSound}
use Rattle.mace_grammar.specs.Words.{Edition}
use Rattle.mace_grammar.proofs.Reading.{Reads, wider}
use Rattle.mace_grammar.proofs.OneToken.{reads_word}
use Rattle.mace_grammar.proofs.InTurn.{reads_pure, next_part}
use Rattle.mace_grammar.proofs.Choices.{either}
use Rattle.mace_grammar.proofs.Repeats.{repeated}

-- ---- one token

has_one : (a b : Class) → class_eq a b ≡ true → has (a ∷ []) b ≡ true
has_one a b h = ap (λ t. t || false) h

if_some : {A : Type 0} (b : Bool) (a : A) → IsSome (if b then Some a else None) → b ≡ true
if_some true a h = refl
if_some false a h = cc

module _ (edition : Edition) (sound : IsSound edition) where
  abbrev class_of : Word → Class
  class_of = classes.class_of edition

  abbrev kind : Token → Class
  kind = classes.kind edition

  -- a keyword that is not `return` has a class of its own, and so has `return` in version 1
  own_class : (j : Keyword) → (key_code j == key_code k.Return) ≡ false → class_of (word.Key j) ≡ class.Key j
  own_class j e = ap (λ b. if b && edition.early then class.Leave else class.Key j) e

  late_class : (j : Keyword) → edition.early ≡ false → class_of (word.Key j) ≡ class.Key j
  late_class j e = ap (λ b. if (key_code j == key_code k.Return) && b then class.Leave else class.Key j) e ∙ none (key_code j == key_code k.Return)
    where
      none : (b : Bool) → (if b && false then class.Leave else class.Key j) ≡ class.Key j
      none true = refl
      none false = refl

  early_class : (j : Keyword) → edition.early ≡ true → key_code k.Return ≡ key_code j → class_of (word.Key j) ≡ class.Leave
  early_class j e same = ap (λ b. if (key_code j == key_code k.Return) && b then class.Leave else class.Key j) e ∙ ap (λ b. if b && true then class.Leave else class.Key j) (eq-eqb (key_code j) (key_code k.Return) (sym same))

  same_key : (want j : Keyword) (at : Span) → IsSome (w.key_word want at (word.Key j)) → key_code want ≡ key_code j
  same_key want j at h = eqb-true (key_code want) (key_code j) (if_some (key_code want == key_code j) at h)

  key_class_has : (want j : Keyword) → key_code want ≡ key_code j → has (r.if_key want) (class.Key j) ≡ true
  key_class_has want j same = has_one (class.Key want) (class.Key j) (eq-eqb (key_code want) (key_code j) same)

  key_has : (want : Keyword) → (key_code want == key_code k.Return) ≡ false → (at : Span) (v : Word) → IsSome (w.key_word want at v) → has (r.if_key want) (class_of v) ≡ true
  key_has want other at (word.Key j) h =
      let same = same_key want j at h in
      subst (λ n. has (r.if_key want) n ≡ true) (sym (own_class j (ap (λ n. n == key_code k.Return) (sym same) ∙ other))) (key_class_has want j same)
  key_has want other at (word.Name t) h = cc
  key_has want other at (word.Number n) h = cc
  key_has want other at (word.Text t) h = cc
  key_has want other at (word.Sign j) h = cc

  -- what a test guards
  guarded : {A : Type 0} (b : Bool) (a d : Option A) → IsSome (if b then a else d) → ((b ≡ true) × IsSome a) ⊎ ((b ≡ false) × IsSome d)
  guarded true a d h = inl (refl, h)
  guarded false a d h = inr (refl, h)

  end_has : (at : Span) (v : Word) → IsSome (w.end_word edition at v) → has (r.if_key k.Return) (class_of v) ≡ true
  end_has at v h = ⊎_elim (λ l. cc) (λ l. of v l.0 l.1) (guarded edition.early None (w.key_word k.Return at v) h)
    where
      of : (v : Word) → edition.early ≡ false → IsSome (w.key_word k.Return at v) → has (r.if_key k.Return) (class_of v) ≡ true
      of (word.Key j) e h = subst (λ n. has (r.if_key k.Return) n ≡ true) (sym (late_class j e)) (key_class_has k.Return j (same_key k.Return j at h))
      of (word.Name t) e h = cc
      of (word.Number n) e h = cc
      of (word.Text t) e h = cc
      of (word.Sign j) e h = cc

  leave_has : (at : Span) (v : Word) → IsSome (w.leave_word edition at v) → has (class.Leave ∷ []) (class_of v) ≡ true
  leave_has at v h = ⊎_elim (λ l. of v l.0 l.1) (λ l. cc) (guarded edition.early (w.key_word k.Return at v) None h)
    where
      of : (v : Word) → edition.early ≡ true → IsSome (w.key_word k.Return at v) → has (class.Leave ∷ []) (class_of v) ≡ true
      of (word.Key j) e h = subst (λ n. has (class.Leave ∷ []) n ≡ true) (sym (early_class j e (same_key k.Return j at h))) refl
      of (word.Name t) e h = cc
      of (word.Number n) e h = cc
      of (word.Text t) e h = cc
      of (word.Sign j) e h = cc

  finish_has : (at : Span) (v : Word) → IsSome (w.finish_word edition at v) → has (class.Finish ∷ []) (class_of v) ≡ true
  finish_has at (word.Name t) h = subst (λ b. has (class.Finish ∷ []) (if b then class.Name else class.Finish) ≡ true) (sym (sound.apart t (if_some (edition.early && w.is_finish t) at h))) refl
  finish_has at (word.Number n) h = cc
  finish_has at (word.Text t) h = cc
  finish_has at (word.Key j) h = cc
  finish_has at (word.Sign j) h = cc

  sign_has : (want : Sign) (at : Span) (v : Word) → IsSome (w.sign_word want at v) → has (r.if_sign want) (class_of v) ≡ true
  sign_has want at (word.Sign j) h = let same : sign_code want ≡ sign_code j = eqb-true (sign_code want) (sign_code j) (if_some (sign_code want == sign_code j) at h) in has_one (class.Sign want) (class.Sign j) (eq-eqb (sign_code want) (sign_code j) same)
  sign_has want at (word.Name t) h = cc
  sign_has want at (word.Number n) h = cc
  sign_has want at (word.Text t) h = cc
  sign_has want at (word.Key j) h = cc

  name_has : (at : Span) (v : Word) → IsSome (w.name_word edition at v) → has (class.Name ∷ []) (class_of v) ≡ true
  name_has at (word.Name t) h = subst (λ b. has (class.Name ∷ []) (if b then class.Name else class.Finish) ≡ true) (sym (if_some (edition.is_name t) _ h)) refl
  name_has at (word.Number n) h = cc
  name_has at (word.Text t) h = cc
  name_has at (word.Key j) h = cc
  name_has at (word.Sign j) h = cc

  number_has : (v : Word) → IsSome (w.number_word v) → has (class.Number ∷ []) (class_of v) ≡ true
  number_has (word.Number n) h = refl
  number_has (word.Name t) h = cc
  number_has (word.Text t) h = cc
  number_has (word.Key j) h = cc
  number_has (word.Sign j) h = cc

  two_has : (v : Word) → IsSome (w.two_word v) → has (class.Number ∷ []) (class_of v) ≡ true
  two_has (word.Number n) h = refl
  two_has (word.Name t) h = cc
  two_has (word.Text t) h = cc
  two_has (word.Key j) h = cc
  two_has (word.Sign j) h = cc

  text_has : (v : Word) → IsSome (w.text_word v) → has (class.Text ∷ []) (class_of v) ≡ true
  text_has (word.Text t) h = refl
  text_has (word.Name t) h = cc
  text_has (word.Number n) h = cc
  text_has (word.Key j) h = cc
  text_has (word.Sign j) h = cc

  abbrev kinds : List Class
  kinds = class.Key k.Int ∷ class.Key k.Bool ∷ class.Key k.Text ∷ class.Key k.Map ∷ []

  kind_key_has : (j : Keyword) → IsSome (w.kind_of_key j) → has kinds (class_of (word.Key j)) ≡ true
  kind_key_has k.Int h = refl
  kind_key_has k.Bool h = refl
  kind_key_has k.Text h = refl
  kind_key_has k.Map h = refl
  kind_key_has _ h = cc

  kind_has : (v : Word) → IsSome (w.kind_word v) → has kinds (class_of v) ≡ true
  kind_has (word.Key j) h = kind_key_has j h
  kind_has (word.Name t) h = cc
  kind_has (word.Number n) h = cc
  kind_has (word.Text t) h = cc
  kind_has (word.Sign j) h = cc

  initial_key_has : (at : Span) (j : Keyword) → IsSome (w.initial_of_key at j) → has INITIALS (class_of (word.Key j)) ≡ true
  initial_key_has at k.True h = refl
  initial_key_has at k.False h = refl
  initial_key_has at k.Empty h = refl
  initial_key_has at _ h = cc

  initial_has : (at : Span) (v : Word) → IsSome (w.initial_word at v) → has INITIALS (class_of v) ≡ true
  initial_has at (word.Number n) h = refl
  initial_has at (word.Text t) h = refl
  initial_has at (word.Key j) h = initial_key_has at j h
  initial_has at (word.Name t) h = cc
  initial_has at (word.Sign j) h = cc

  literal_key_has : (at : Span) (j : Keyword) → IsSome (w.literal_of_key at j) → has INITIALS (class_of (word.Key j)) ≡ true
  literal_key_has at k.True h = refl
  literal_key_has at k.False h = refl
  literal_key_has at k.Empty h = refl
  literal_key_has at _ h = cc

  literal_has : (at : Span) (v : Word) → IsSome (w.literal_word at v) → has INITIALS (class_of v) ≡ true
  literal_has at (word.Number n) h = refl
  literal_has at (word.Text t) h = refl
  literal_has at (word.Key j) h = literal_key_has at j h
  literal_has at (word.Name t) h = cc
  literal_has at (word.Sign j) h = cc

  unary_sign_has : (at : Span) (j : Sign) → IsSome (w.unary_word at (word.Sign j)) → has UNARY_OPS (class.Sign j) ≡ true
  unary_sign_has at s.Minus h = refl
  unary_sign_has at s.Bang h = refl
  unary_sign_has at _ h = cc

  unary_has : (at : Span) (v : Word) → IsSome (w.unary_word at v) → has UNARY_OPS (class_of v) ≡ true
  unary_has at (word.Sign j) h = unary_sign_has at j h
  unary_has at (word.Name t) h = cc
  unary_has at (word.Number n) h = cc
  unary_has at (word.Text t) h = cc
  unary_has at (word.Key j) h = cc

  pub product_has : (j : Sign) → IsSome (w.product_op j) → has (r.operators_of 0) (class.Sign j) ≡ true
  product_has s.Star h = refl
  product_has s.Slash h = refl
  product_has s.Percent h = refl
  product_has _ h = cc

  pub sum_has : (j : Sign) → IsSome (w.sum_op j) → has (r.operators_of 1) (class.Sign j) ≡ true
  sum_has s.Plus h = refl
  sum_has s.Minus h = refl
  sum_has _ h = cc

  pub comparison_has : (j : Sign) → IsSome (w.comparison_op j) → has (r.operators_of 2) (class.Sign j) ≡ true
  comparison_has s.EqualsEquals h = refl
  comparison_has s.BangEquals h = refl
  comparison_has s.Less h = refl
  comparison_has s.LessEquals h = refl
  comparison_has s.Greater h = refl
  comparison_has s.GreaterEquals h = refl
  comparison_has _ h = cc

  pub and_has : (j : Sign) → IsSome (w.and_op j) → has (r.operators_of 3) (class.Sign j) ≡ true
  and_has s.AndAnd h = refl
  and_has _ h = cc

  pub or_has : (j : Sign) → IsSome (w.or_op j) → has (r.operators_of 4) (class.Sign j) ≡ true
  or_has s.OrOr h = refl
  or_has _ h = cc

  op_has : (f : Sign → Option BinaryOp) (set : List Class) → ((j : Sign) → IsSome (f j) → has set (class.Sign j) ≡ true) → (v : Word) → IsSome (w.op_word f v) → has set (class_of v) ≡ true
  op_has f set each (word.Sign j) h = each j h
  op_has f set each (word.Name t) h = cc
  op_has f set each (word.Number n) h = cc
  op_has f set each (word.Text t) h = cc
  op_has f set each (word.Key j) h = cc

  module _ (m : ℕ) where
    pub key : (want : Keyword) → (key_code want == key_code k.Return) ≡ false → Reads kind m (w.key want) (w.key want) (r.key_at want) (r.if_key want) false []
    key want other = reads_word kind m _ _ (λ t. key_has want other t.span t.word)

    pub end : Reads kind m (w.end edition) (w.end edition) (token (λ t. w.end_word edition t.span t.word)) (r.if_key k.Return) false []
    end = reads_word kind m _ _ (λ t. end_has t.span t.word)

    pub leave : Reads kind m (w.leave edition) (w.leave edition) (r.leave_at edition) (class.Leave ∷ []) false []
    leave = reads_word kind m _ _ (λ t. leave_has t.span t.word)

    pub finish : Reads kind m (w.finish edition) (w.finish edition) (r.finish_at edition) (class.Finish ∷ []) false []
    finish = reads_word kind m _ _ (λ t. finish_has t.span t.word)

    pub sign : (want : Sign) → Reads kind m (w.sign want) (w.sign want) (r.sign_at want) (r.if_sign want) false []
    sign want = reads_word kind m _ _ (λ t. sign_has want t.span t.word)

    pub name : Reads kind m (w.name edition) (w.name edition) (r.name_at edition) (class.Name ∷ []) false []
    name = reads_word kind m _ _ (λ t. name_has t.span t.word)

    pub number : Reads kind m w.number w.number r.number_at (class.Number ∷ []) false []
    number = reads_word kind m _ _ (λ t. number_has t.word)

    pub two : Reads kind m (one (λ t. w.two_word t.word)) (one (λ t. w.two_word t.word)) (token (λ t. w.two_word t.word)) (class.Number ∷ []) false []
    two = reads_word kind m _ _ (λ t. two_has t.word)

    pub text : Reads kind m w.text w.text r.text_at (class.Text ∷ []) false []
    text = reads_word kind m _ _ (λ t. text_has t.word)

    pub type : Reads kind m w.type w.type r.type_at kinds false []
    type = reads_word kind m _ _ (λ t. kind_has t.word)

    pub literal_node : Reads kind m w.literal w.literal r.literal_at INITIALS false []
    literal_node = reads_word kind m _ _ (λ t. literal_has t.span t.word)

    pub unary_op : Reads kind m w.unary_op w.unary_op r.unary_op_at UNARY_OPS false []
    unary_op = reads_word kind m _ _ (λ t. unary_has t.span t.word)

    pub operator : (f : Sign → Option BinaryOp) (set : List Class) → ((j : Sign) → IsSome (f j) → has set (class.Sign j) ≡ true) → Reads kind m (w.operator f) (w.operator f) (token (λ t. w.op_word f t.word)) set false []
    operator f set each = reads_word kind m _ _ (λ t. op_has f set each t.word)

    pub field : Reads kind m (g.field edition) (g.field edition) (r.field_at edition) (r.if_sign s.Dot) false []
    field = next_part kind (sign s.Dot) (λ _. name) refl

    -- ---- fields

    pub minus_number : Reads kind m g.minus_number g.minus_number r.minus_number_at (r.if_sign s.Minus) false []
    unfolding r.minus_number_at
    minus_number = next_part kind (sign s.Minus) (λ at. next_part kind number (λ n. reads_pure kind m (record { at = at; value = literal.Minus n })) refl) refl

    initial_node : Reads kind m (one (λ t. w.initial_word t.span t.word)) (one (λ t. w.initial_word t.span t.word)) r.literal_initial_at INITIALS false []
    initial_node = reads_word kind m _ _ (λ t. initial_has t.span t.word)

    pub initial : Reads kind m g.initial g.initial (r.initial_at edition) (INITIALS ++ r.if_sign s.Minus) false []
    unfolding r.initial_at
    initial = either kind initial_node minus_number refl

    pub var : Reads kind m (g.var edition) (g.var edition) (r.var_at edition) (r.if_key k.Var) false []
    unfolding r.var_at
    var =
        next_part kind (key k.Var refl)
        (λ at. next_part kind name
        (λ n. next_part kind (sign s.Colon)
        (λ _. next_part kind type
        (λ t. next_part kind (sign s.Equals)
        (λ _. next_part kind initial
        (λ v. next_part kind (sign s.Semicolon)
        (λ _. reads_pure kind m (record { at = at; name = n; kind = t; initial = v }))
        refl) refl) refl) refl) refl) refl) refl

    pub vars : Reads kind m (many (g.var edition)) (many (g.var edition)) (r.vars_at edition) (r.if_key k.Var) true (r.if_key k.Var)
    unfolding r.vars_at
    vars = wider kind (repeated kind var refl) refl refl

-- a brace is told apart alike in each version
pub brace_same : (v v' : Edition) (t : Token) → has (r.if_sign s.LeftBrace) (classes.kind v t) ≡ has (r.if_sign s.LeftBrace) (classes.kind v' t)
brace_same v v' t = of t.word
  where
    name_no : (b : Bool) → has (r.if_sign s.LeftBrace) (if b then class.Name else class.Finish) ≡ false
    name_no true = refl
    name_no false = refl

    key_no : (j : Keyword) (b : Bool) → has (r.if_sign s.LeftBrace) (if b then class.Leave else class.Key j) ≡ false
    key_no j true = refl
    key_no j false = refl

    of : (x : Word) → has (r.if_sign s.LeftBrace) (classes.class_of v x) ≡ has (r.if_sign s.LeftBrace) (classes.class_of v' x)
    of (word.Name x) = name_no (v.is_name x) ∙ sym (name_no (v'.is_name x))
    of (word.Key j) = key_no j ((key_code j == key_code k.Return) && v.early) ∙ sym (key_no j ((key_code j == key_code k.Return) && v'.early))
    of (word.Number n) = refl
    of (word.Text x) = refl
    of (word.Sign j) = refl
