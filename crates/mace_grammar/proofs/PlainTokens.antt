-- The readers of tokens and of lists read erased tokens as they read the tokens, but for the places.
use Rattle.std.proofs.Common.{◌≡◌, List, [], ◌∷◌, map, unwrap_or, Option, Some, None, Bool, true, false, refl}
use Rattle.std.specs.Prelude.{◌==◌, ◌&&◌, if◌then◌else◌}
use Rattle.std.specs.Option.{option_map}
use Rattle.wave_base.specs.declared.span.Span.{Span}
use Rattle.mace_lexer.specs.declared.token.Word.{Word}
use Rattle.mace_lexer.specs.declared.token.Word.TheVariants as word
use Rattle.mace_lexer.specs.declared.keyword.Keyword.{Keyword}
use Rattle.mace_lexer.specs.declared.keyword.Keyword.TheVariants as k
use Rattle.mace_lexer.specs.declared.sign.Sign.{Sign}
use Rattle.mace_lexer.specs.declared.sign.Sign.TheVariants as s
use Rattle.mace_lexer.specs.Codes.{key_code, sign_code}
use Rattle.mace_ast.specs.Exprs.{nowhere}
use Rattle.mace_ast.specs.Stmts.{bare_name}
use Rattle.mace_grammar.specs.inner.Run.{Reader, word as token}
use Rattle.mace_grammar.specs.declared.class.Class.{Class}
use Rattle.mace_grammar.specs.Words as w
use Rattle.mace_grammar.specs.Words.{Edition, first}
use Rattle.mace_grammar.specs.inner.Readers as r
use Rattle.mace_grammar.proofs.Plain.{Natural, natural_give, natural_then, natural_word, natural_each_of, natural_maybe}

abbrev pub no_place : Span → Span
no_place at = nowhere

abbrev pub itself : {A : Type 0} → A → A
itself a = a

if_place : (b : Bool) (at : Span) → (if b then Some nowhere else None) ≡ option_map no_place (if b then Some at else None)
if_place true at = refl
if_place false at = refl

key_place : (want : Keyword) (at : Span) (v : Word) → w.key_word want nowhere v ≡ option_map no_place (w.key_word want at v)
key_place want at (word.Key j) = if_place (key_code want == key_code j) at
key_place want at (word.Name t) = refl
key_place want at (word.Number n) = refl
key_place want at (word.Text t) = refl
key_place want at (word.Sign j) = refl

sign_place : (want : Sign) (at : Span) (v : Word) → w.sign_word want nowhere v ≡ option_map no_place (w.sign_word want at v)
sign_place want at (word.Sign j) = if_place (sign_code want == sign_code j) at
sign_place want at (word.Name t) = refl
sign_place want at (word.Number n) = refl
sign_place want at (word.Text t) = refl
sign_place want at (word.Key j) = refl

pub same_option : {A : Type 0} (o : Option A) → o ≡ option_map itself o
same_option (Some a) = refl
same_option None = refl

pub key : (want : Keyword) → Natural no_place (r.key_at want) (r.key_at want)
key want = natural_word no_place _ _ (λ t. key_place want t.span t.word)

pub sign : (want : Sign) → Natural no_place (r.sign_at want) (r.sign_at want)
sign want = natural_word no_place _ _ (λ t. sign_place want t.span t.word)

pub two : Natural itself (token (λ t. w.two_word t.word)) (token (λ t. w.two_word t.word))
two = natural_word itself _ _ (λ t. same_option (w.two_word t.word))

pub number : Natural itself r.number_at r.number_at
number = natural_word itself _ _ (λ t. same_option (w.number_word t.word))

pub text : Natural itself r.text_at r.text_at
text = natural_word itself _ _ (λ t. same_option (w.text_word t.word))

pub type : Natural itself r.type_at r.type_at
type = natural_word itself _ _ (λ t. same_option (w.kind_word t.word))

guarded : {A B : Type 0} (h : A → B) (b : Bool) (o o' : Option A) (p p' : Option B) → p ≡ option_map h o → p' ≡ option_map h o' → (if b then p else p') ≡ option_map h (if b then o else o')
guarded h true o o' p p' e e' = e
guarded h false o o' p p' e e' = e'

module _ (edition : Edition) where
  name_place : (at : Span) (v : Word) → w.name_word edition nowhere v ≡ option_map bare_name (w.name_word edition at v)
  name_place at (word.Name t) = guarded bare_name (edition.is_name t) (Some (record { at = at; text = t })) None _ None refl refl
  name_place at (word.Number n) = refl
  name_place at (word.Text t) = refl
  name_place at (word.Key j) = refl
  name_place at (word.Sign j) = refl

  leave_place : (at : Span) (v : Word) → w.leave_word edition nowhere v ≡ option_map no_place (w.leave_word edition at v)
  leave_place at v = guarded no_place edition.early (w.key_word k.Return at v) None (w.key_word k.Return nowhere v) None (key_place k.Return at v) refl

  finish_place : (at : Span) (v : Word) → w.finish_word edition nowhere v ≡ option_map no_place (w.finish_word edition at v)
  finish_place at (word.Name t) = if_place (edition.early && w.is_finish t) at
  finish_place at (word.Number n) = refl
  finish_place at (word.Text t) = refl
  finish_place at (word.Key j) = refl
  finish_place at (word.Sign j) = refl

  pub name : Natural bare_name (r.name_at edition) (r.name_at edition)
  name = natural_word bare_name _ _ (λ t. name_place t.span t.word)

  pub leave : Natural no_place (r.leave_at edition) (r.leave_at edition)
  leave = natural_word no_place _ _ (λ t. leave_place t.span t.word)

  pub finish : Natural no_place (r.finish_at edition) (r.finish_at edition)
  finish = natural_word no_place _ _ (λ t. finish_place t.span t.word)

  pub field : Natural bare_name (r.field_at edition) (r.field_at edition)
  field = natural_then _ (sign s.Dot) (λ _. name)

  pub maybe_field : Natural (option_map bare_name) (r.maybe_field_at edition) (r.maybe_field_at edition)
  maybe_field = natural_maybe edition (r.if_sign s.Dot) field

  -- ---- lists with commas

  module _ {A : Type 0} (h : A → A) (item : Reader A) (I : Natural h item item) where
    next : Natural h (r.next_at edition item) (r.next_at edition item)
    unfolding r.next_at
    next = natural_then _ (sign s.Comma) (λ _. I)

    list : Natural (map h) (r.list_at edition item) (r.list_at edition item)
    unfolding r.list_at
    list = natural_then _ I (λ first. natural_then _ (natural_each_of edition (r.if_sign s.Comma) next) (λ others. natural_give (map h) (first ∷ others) (map h (first ∷ others)) refl))

    unwrapped : (o : Option (List A)) → unwrap_or (option_map (map h) o) [] ≡ map h (unwrap_or o [])
    unwrapped (Some l) = refl
    unwrapped None = refl

    pub separated : (set : List Class) → Natural (map h) (r.separated_at edition set item) (r.separated_at edition set item)
    unfolding r.separated_at
    separated set = natural_then _ (sign s.LeftParen) (λ _. natural_then _ (natural_maybe edition set list) (λ found. natural_then _ (sign s.RightParen) (λ _. natural_give (map h) (unwrap_or found []) (unwrap_or (option_map (map h) found) []) (unwrapped found))))
