-- The words of the grammar lead on: whether a part takes a word is told by the word's hint.
use Rattle.std.proofs.Common.{◌≡◌, pos, List, [], ◌∷◌, Option, Some, None, IsSome, Bool, true, false, ◌&&◌, refl, sym, ◌∙◌, ap, subst, eq-eqb}
use Rattle.std.specs.Prelude.{◌==◌, not, is_some, if◌then◌else◌, codes, unwrap_or}
use Rattle.std.specs.Option.{option_map}
use Rattle.std.specs.Ordering.{int_eq}
use Rattle.wave_base.specs.declared.span.Span.{Span}
use Rattle.wave_base.specs.declared.version.Version.{Version}
use Rattle.wave_base.specs.declared.version.Version.TheVariants.{First, Second}
use Rattle.mace_lexer.specs.declared.token.Token.{Token}
use Rattle.mace_lexer.specs.declared.token.Word.{Word}
use Rattle.mace_lexer.specs.declared.token.Word.TheVariants as word
use Rattle.mace_lexer.specs.declared.keyword.Keyword.{Keyword}
use Rattle.mace_lexer.specs.declared.keyword.Keyword.TheVariants as k
use Rattle.mace_lexer.specs.declared.sign.Sign.{Sign}
use Rattle.mace_lexer.specs.declared.sign.Sign.TheVariants as s
use Rattle.mace_lexer.specs.Codes.{key_code, sign_code}
use Rattle.mace_ast.specs.declared.name.Name.{Name}
use Rattle.mace_ast.specs.declared.expr.BinaryOp.{BinaryOp}
use Rattle.mace_ast.specs.Exprs.{nowhere}
use Rattle.mace_grammar.specs.Part.{one, SpellsMaybe}
use Rattle.mace_grammar.specs.Words as w
use Rattle.mace_grammar.specs.Words.{edition_of}
use Rattle.mace_grammar.specs.Spelled.{plain_token}
use Rattle.mace_hints.specs.declared.hint.Hint.{Hint}
use Rattle.mace_hints.specs.declared.hint.Hint.TheVariants as h
use Rattle.mace_hints.specs.Hints.{hint_of}
use Rattle.mace_hints.proofs.Leads.{Alike, alike_nil, alike_split, Leads, Live, leads_one, some_one, live_pure, live_maybe, live_then}

-- ---- what a hint tells

some_of : {A : Type 0} (o : Option A) → is_some o ≡ true → IsSome o
some_of (Some a) e = refl
some_of None e = cc

of_some : {A : Type 0} (o : Option A) → IsSome o → is_some o ≡ true
of_some (Some a) e = refl
of_some None e = cc

if_some : {A : Type 0} (b : Bool) (a : A) → is_some (if b then Some a else None) ≡ b
if_some true a = refl
if_some false a = refl

named : (g : Hint → Bool) (b t : Bool) → g h.Name ≡ t → g h.Finish ≡ t → t ≡ g (if b then h.Finish else h.Name)
named g true t e f = sym f
named g false t e f = sym e

numbered : (g : Hint → Bool) (b t : Bool) → g h.Number ≡ t → g h.Two ≡ t → t ≡ g (if b then h.Two else h.Number)
numbered g true t e f = sym f
numbered g false t e f = sym e

module _ {A : Type 0} (f : Span → Word → Option A) (g : Hint → Bool) (same : (at : Span) (v : Word) → is_some (f at v) ≡ g (hint_of v)) where
  keeps : (at at' : Span) (v w : Word) → hint_of v ≡ hint_of w → IsSome (f at v) → IsSome (f at' w)
  keeps at at' v w e x = some_of (f at' w) (same at' w ∙ ap g (sym e) ∙ sym (same at v) ∙ of_some (f at v) x)

  pub leads_word : Leads (one (λ t. f t.span t.word)) (one (λ t. f t.span t.word))
  leads_word = leads_one (λ t. f t.span t.word) (λ t. f t.span t.word) (λ t u e x. keeps t.span u.span t.word u.word e x)

  pub live_word : (v : Word) → is_some (f nowhere v) ≡ true → Live (one (λ t. f t.span t.word)) (one (λ t. f t.span t.word))
  live_word v e = record { leads = leads_word; some = some_one (λ t. f t.span t.word) (plain_token v) (some_of (f nowhere v) e) }

-- ---- keywords and signs

key_test : Keyword → Hint → Bool
key_test want (h.Key j) = key_code want == key_code j
key_test want _ = false

key_same : (want : Keyword) (at : Span) (v : Word) → is_some (w.key_word want at v) ≡ key_test want (hint_of v)
unfolding key_test
key_same want at (word.Name t) = named (key_test want) (w.is_finish t) false refl refl
key_same want at (word.Number n) = numbered (key_test want) (int_eq n (pos 2)) false refl refl
key_same want at (word.Text t) = refl
key_same want at (word.Key j) = if_some (key_code want == key_code j) at
key_same want at (word.Sign j) = refl

pub key : (want : Keyword) → Live (w.key want) (w.key want)
key want = live_word (w.key_word want) (key_test want) (key_same want) (word.Key want) (if_some (key_code want == key_code want) nowhere ∙ eq-eqb (key_code want) (key_code want) refl)

sign_test : Sign → Hint → Bool
sign_test want (h.Sign j) = sign_code want == sign_code j
sign_test want _ = false

sign_same : (want : Sign) (at : Span) (v : Word) → is_some (w.sign_word want at v) ≡ sign_test want (hint_of v)
unfolding sign_test
sign_same want at (word.Name t) = named (sign_test want) (w.is_finish t) false refl refl
sign_same want at (word.Number n) = numbered (sign_test want) (int_eq n (pos 2)) false refl refl
sign_same want at (word.Text t) = refl
sign_same want at (word.Key j) = refl
sign_same want at (word.Sign j) = if_some (sign_code want == sign_code j) at

pub sign : (want : Sign) → Live (w.sign want) (w.sign want)
sign want = live_word (w.sign_word want) (sign_test want) (sign_same want) (word.Sign want) (if_some (sign_code want == sign_code want) nowhere ∙ eq-eqb (sign_code want) (sign_code want) refl)

-- ---- what the version changes

abbrev is_first : Version → Bool
is_first First = true
is_first Second = false

abbrev is_second : Version → Bool
is_second First = false
is_second Second = true

abbrev name_test : Version → Hint → Bool
name_test version h.Name = true
name_test version h.Finish = is_first version
name_test version _ = false

name_same : (version : Version) (at : Span) (v : Word) → is_some (w.name_word (edition_of version) at v) ≡ name_test version (hint_of v)
name_same First at (word.Name t) = named (name_test First) (w.is_finish t) true refl refl
name_same Second at (word.Name t) = second (w.is_finish t)
  where
    second : (b : Bool) → is_some {T = Name} (if not b then Some (record { at = at; text = t }) else None) ≡ name_test Second (if b then h.Finish else h.Name)
    second true = refl
    second false = refl
name_same version at (word.Number n) = numbered (name_test version) (int_eq n (pos 2)) false refl refl
name_same version at (word.Text t) = refl
name_same version at (word.Key j) = refl
name_same version at (word.Sign j) = refl

pub name : (version : Version) → Live (w.name (edition_of version)) (w.name (edition_of version))
name version = live_word (w.name_word (edition_of version)) (name_test version) (name_same version) (word.Name (codes "a")) (plain_name version)
  where
    plain_name : (version : Version) → is_some (w.name_word (edition_of version) nowhere (word.Name (codes "a"))) ≡ true
    plain_name First = refl
    plain_name Second = refl

abbrev return_test : Bool → Hint → Bool
return_test b (h.Key j) = b && (key_code k.Return == key_code j)
return_test b _ = false

end_same : (version : Version) (at : Span) (v : Word) → is_some (w.end_word (edition_of version) at v) ≡ return_test (is_first version) (hint_of v)
end_same First at (word.Key j) = if_some (key_code k.Return == key_code j) at
end_same Second at (word.Key j) = refl
end_same First at (word.Name t) = named (return_test true) (w.is_finish t) false refl refl
end_same Second at (word.Name t) = named (return_test false) (w.is_finish t) false refl refl
end_same First at (word.Number n) = numbered (return_test true) (int_eq n (pos 2)) false refl refl
end_same Second at (word.Number n) = numbered (return_test false) (int_eq n (pos 2)) false refl refl
end_same First at (word.Text t) = refl
end_same Second at (word.Text t) = refl
end_same First at (word.Sign j) = refl
end_same Second at (word.Sign j) = refl

pub end : (version : Version) → Leads (w.end (edition_of version)) (w.end (edition_of version))
end version = leads_word (w.end_word (edition_of version)) (return_test (is_first version)) (end_same version)

leave_same : (version : Version) (at : Span) (v : Word) → is_some (w.leave_word (edition_of version) at v) ≡ return_test (is_second version) (hint_of v)
leave_same Second at (word.Key j) = if_some (key_code k.Return == key_code j) at
leave_same First at (word.Key j) = refl
leave_same First at (word.Name t) = named (return_test false) (w.is_finish t) false refl refl
leave_same Second at (word.Name t) = named (return_test true) (w.is_finish t) false refl refl
leave_same First at (word.Number n) = numbered (return_test false) (int_eq n (pos 2)) false refl refl
leave_same Second at (word.Number n) = numbered (return_test true) (int_eq n (pos 2)) false refl refl
leave_same First at (word.Text t) = refl
leave_same Second at (word.Text t) = refl
leave_same First at (word.Sign j) = refl
leave_same Second at (word.Sign j) = refl

pub leave : (version : Version) → Leads (w.leave (edition_of version)) (w.leave (edition_of version))
leave version = leads_word (w.leave_word (edition_of version)) (return_test (is_second version)) (leave_same version)

abbrev finish_test : Version → Hint → Bool
finish_test version h.Finish = is_second version
finish_test version _ = false

finish_same : (version : Version) (at : Span) (v : Word) → is_some (w.finish_word (edition_of version) at v) ≡ finish_test version (hint_of v)
finish_same First at (word.Name t) = named (finish_test First) (w.is_finish t) false refl refl
finish_same Second at (word.Name t) = second (w.is_finish t)
  where
    second : (b : Bool) → is_some (if true && b then Some at else None) ≡ finish_test Second (if b then h.Finish else h.Name)
    second true = refl
    second false = refl
finish_same version at (word.Number n) = numbered (finish_test version) (int_eq n (pos 2)) false refl refl
finish_same version at (word.Text t) = refl
finish_same version at (word.Key j) = refl
finish_same version at (word.Sign j) = refl

pub finish : (version : Version) → Leads (w.finish (edition_of version)) (w.finish (edition_of version))
finish version = leads_word (w.finish_word (edition_of version)) (finish_test version) (finish_same version)

-- ---- numbers, texts, types and literals

abbrev number_test : Hint → Bool
number_test h.Number = true
number_test h.Two = true
number_test _ = false

number_same : (at : Span) (v : Word) → is_some (w.number_word v) ≡ number_test (hint_of v)
number_same at (word.Name t) = named number_test (w.is_finish t) false refl refl
number_same at (word.Number n) = numbered number_test (int_eq n (pos 2)) true refl refl
number_same at (word.Text t) = refl
number_same at (word.Key j) = refl
number_same at (word.Sign j) = refl

pub number : Live w.number w.number
number = live_word (λ at v. w.number_word v) number_test number_same (word.Number (pos 1)) refl

abbrev text_test : Hint → Bool
text_test h.Text = true
text_test _ = false

text_same : (at : Span) (v : Word) → is_some (w.text_word v) ≡ text_test (hint_of v)
text_same at (word.Name t) = named text_test (w.is_finish t) false refl refl
text_same at (word.Number n) = numbered text_test (int_eq n (pos 2)) false refl refl
text_same at (word.Text t) = refl
text_same at (word.Key j) = refl
text_same at (word.Sign j) = refl

pub text : Live w.text w.text
text = live_word (λ at v. w.text_word v) text_test text_same (word.Text []) refl

abbrev type_test : Hint → Bool
type_test (h.Key j) = is_some (w.kind_of_key j)
type_test _ = false

type_same : (at : Span) (v : Word) → is_some (w.kind_word v) ≡ type_test (hint_of v)
type_same at (word.Name t) = named type_test (w.is_finish t) false refl refl
type_same at (word.Number n) = numbered type_test (int_eq n (pos 2)) false refl refl
type_same at (word.Text t) = refl
type_same at (word.Key j) = refl
type_same at (word.Sign j) = refl

pub type : Live w.type w.type
type = live_word (λ at v. w.kind_word v) type_test type_same (word.Key k.Int) refl

abbrev literal_test : Hint → Bool
literal_test h.Number = true
literal_test h.Two = true
literal_test h.Text = true
literal_test (h.Key k.True) = true
literal_test (h.Key k.False) = true
literal_test (h.Key k.Empty) = true
literal_test _ = false

initial_same : (at : Span) (v : Word) → is_some (w.initial_word at v) ≡ literal_test (hint_of v)
initial_same at (word.Name t) = named literal_test (w.is_finish t) false refl refl
initial_same at (word.Number n) = numbered literal_test (int_eq n (pos 2)) true refl refl
initial_same at (word.Text t) = refl
initial_same at (word.Key k.True) = refl
initial_same at (word.Key k.False) = refl
initial_same at (word.Key k.Empty) = refl
initial_same at (word.Key _) = refl
initial_same at (word.Sign j) = refl

pub literal_initial : Live (one (λ t. w.initial_word t.span t.word)) (one (λ t. w.initial_word t.span t.word))
literal_initial = live_word w.initial_word literal_test initial_same (word.Text []) refl

literal_same : (at : Span) (v : Word) → is_some (w.literal_word at v) ≡ literal_test (hint_of v)
literal_same at (word.Name t) = named literal_test (w.is_finish t) false refl refl
literal_same at (word.Number n) = numbered literal_test (int_eq n (pos 2)) true refl refl
literal_same at (word.Text t) = refl
literal_same at (word.Key k.True) = refl
literal_same at (word.Key k.False) = refl
literal_same at (word.Key k.Empty) = refl
literal_same at (word.Key _) = refl
literal_same at (word.Sign j) = refl

pub literal : Live w.literal w.literal
literal = live_word w.literal_word literal_test literal_same (word.Text []) refl

-- ---- operators

abbrev operator_test : (Sign → Option BinaryOp) → Hint → Bool
operator_test f (h.Sign j) = is_some (f j)
operator_test f _ = false

operator_same : (f : Sign → Option BinaryOp) (at : Span) (v : Word) → is_some (w.op_word f v) ≡ operator_test f (hint_of v)
operator_same f at (word.Name t) = named (operator_test f) (w.is_finish t) false refl refl
operator_same f at (word.Number n) = numbered (operator_test f) (int_eq n (pos 2)) false refl refl
operator_same f at (word.Text t) = refl
operator_same f at (word.Key j) = refl
operator_same f at (word.Sign j) = refl

pub operator : (f : Sign → Option BinaryOp) (j : Sign) → is_some (f j) ≡ true → Live (w.operator f) (w.operator f)
operator f j e = live_word (λ at v. w.op_word f v) (operator_test f) (operator_same f) (word.Sign j) e

abbrev unary_test : Hint → Bool
unary_test (h.Sign j) = is_some (w.unary_of j)
unary_test _ = false

mapped : {A B : Type 0} (g : A → B) (o : Option A) → is_some (option_map g o) ≡ is_some o
mapped g (Some a) = refl
mapped g None = refl

unary_same : (at : Span) (v : Word) → is_some (w.unary_word at v) ≡ unary_test (hint_of v)
unary_same at (word.Name t) = named unary_test (w.is_finish t) false refl refl
unary_same at (word.Number n) = numbered unary_test (int_eq n (pos 2)) false refl refl
unary_same at (word.Text t) = refl
unary_same at (word.Key j) = refl
unary_same at (word.Sign j) = mapped (λ o. (at, o)) (w.unary_of j)

pub unary_op : Live w.unary_op w.unary_op
unary_op = live_word w.unary_word unary_test unary_same (word.Sign s.Minus) refl

-- ---- the number of the version, which stays

abbrev two_test : Hint → Option Version
two_test h.Two = Some Second
two_test _ = None

two_same : (v : Word) → w.two_word v ≡ two_test (hint_of v)
two_same (word.Number n) = of_number (int_eq n (pos 2))
  where
    of_number : (b : Bool) → (if b then Some Second else None) ≡ two_test (if b then h.Two else h.Number)
    of_number true = refl
    of_number false = refl
two_same (word.Name t) = of_name (w.is_finish t)
  where
    of_name : (b : Bool) → None ≡ two_test (if b then h.Finish else h.Name)
    of_name true = refl
    of_name false = refl
two_same (word.Text t) = refl
two_same (word.Key j) = refl
two_same (word.Sign j) = refl

two_keeps : (t u : Token) → hint_of t.word ≡ hint_of u.word → w.two_word t.word ≡ w.two_word u.word
two_keeps t u e = two_same t.word ∙ ap two_test e ∙ sym (two_same u.word)

two : Leads (one (λ t. w.two_word t.word)) (one (λ t. w.two_word t.word))
two = leads_one (λ t. w.two_word t.word) (λ t. w.two_word t.word) (λ t u e x. subst (λ o. IsSome o) (two_keeps t u e) x)

pub version : Live w.version_number w.version_number
unfolding w.version_number
version = live_then (live_maybe two) (λ a b. live_pure (unwrap_or a First) (unwrap_or b First))

two_stays : (o : Option Version) (ts us : List Token) → SpellsMaybe (one (λ t. w.two_word t.word)) o ts → Alike ts us → SpellsMaybe (one (λ t. w.two_word t.word)) o us
two_stays None ts us x l = alike_nil us (subst (λ z. Alike z us) x l)
two_stays (Some v) ts us x l = let (t, e, y) = x in one_two t us (subst (λ z. Alike z us) e l) y
  where
    one_two : (t : Token) (us : List Token) → Alike (t ∷ []) us → w.two_word t.word ≡ Some v → (one (λ t. w.two_word t.word)).Spells v us
    one_two t [] l y = absurd l
    one_two t (u ∷ []) l y = (u, refl, sym (two_keeps t u l.0) ∙ y)
    one_two t (u ∷ u' ∷ us) l y = absurd l.1

pub version_stays : (v : Version) (ts us : List Token) → w.version_number.Spells v ts → Alike ts us → w.version_number.Spells v us
unfolding w.version_number
version_stays v ts us x l =
    let (o, f, b, e, y, z) = x in
    let (f', b', e', lf, lb) = alike_split f b us (subst (λ z. Alike z us) e l) in
    (o, f', b', e', two_stays o f f' y lf, (z.0, alike_nil b' (subst (λ z. Alike z b') z.1 lb)))
