-- Words that spell parts of the grammar.
use Rattle.std.proofs.Common.{◌≡◌, ℕ, ℤ, List, [], ◌∷◌, ◌++◌, map, Some, None, refl, sym, ap, append-nil}
use Rattle.std.specs.Prelude.{◌==◌, ◌&&◌, if◌then◌else◌, codes, true, false}
use Rattle.std.proofs.lemmas.Bool.{eq-eqb}
use Rattle.std.proofs.lemmas.List.{map-append}
use Rattle.wave_base.specs.declared.span.Span.{Span}
use Rattle.wave_base.specs.declared.value.Kind.{Kind}
use Rattle.wave_base.specs.declared.value.Kind.TheVariants as kind
use Rattle.mace_lexer.specs.declared.token.Word.{Word}
use Rattle.mace_lexer.specs.declared.token.Word.TheVariants as word
use Rattle.mace_lexer.specs.declared.keyword.Keyword.{Keyword}
use Rattle.mace_lexer.specs.declared.keyword.Keyword.TheVariants as k
use Rattle.mace_lexer.specs.declared.sign.Sign.{Sign}
use Rattle.mace_lexer.specs.declared.sign.Sign.TheVariants as s
use Rattle.mace_lexer.specs.Codes.{key_code, sign_code}
use Rattle.mace_ast.specs.declared.name.Name.{Name}
use Rattle.mace_ast.specs.Exprs.{nowhere}
use Rattle.mace_grammar.specs.Part.{Part, ◌>>◌, many}
use Rattle.mace_grammar.specs.Words as w
use Rattle.mace_grammar.specs.Words.{Edition}
use Rattle.mace_grammar.specs.Fits.{IsName, Each}
use Rattle.mace_grammar.specs.Grammar as g
use Rattle.mace_grammar.specs.Spelled.{plain_token}
use Rattle.mace_printer.specs.Canon.{kind_key, all_of, further_words, listed_words}

-- the words spell this value of the part
abbrev pub Says : {A : Type 0} → Part A → A → List Word → Type 0
Says p a ws = p.Spells a (map plain_token ws)

chosen : (n : ℕ) (at : Span) → (if n == n then Some at else None) ≡ Some at
chosen n at = ap (λ b. if b then Some at else None) (eq-eqb n n refl)

pub key_says : (want : Keyword) → Says (w.key want) nowhere (word.Key want ∷ [])
key_says want = (plain_token (word.Key want), refl, chosen (key_code want) nowhere)

pub sign_says : (want : Sign) → Says (w.sign want) nowhere (word.Sign want ∷ [])
sign_says want = (plain_token (word.Sign want), refl, chosen (sign_code want) nowhere)

abbrev pub named : List ℕ → Name
named t = record { at = nowhere; text = t }

pub name_says : (edition : Edition) (t : List ℕ) → IsName edition t → Says (w.name edition) (named t) (word.Name t ∷ [])
name_says edition t h = (plain_token (word.Name t), refl, ap (λ b. if b then Some (named t) else None) h)

pub number_says : (n : ℤ) → Says w.number n (word.Number n ∷ [])
number_says n = (plain_token (word.Number n), refl, refl)

pub text_says : (t : List ℕ) → Says w.text t (word.Text t ∷ [])
text_says t = (plain_token (word.Text t), refl, refl)

kind_of_its_key : (j : Kind) → w.kind_of_key (kind_key j) ≡ Some j
kind_of_its_key kind.Int = refl
kind_of_its_key kind.Bool = refl
kind_of_its_key kind.Text = refl
kind_of_its_key kind.Map = refl

pub type_says : (j : Kind) → Says w.type j (word.Key (kind_key j) ∷ [])
type_says j = (plain_token (word.Key (kind_key j)), refl, kind_of_its_key j)

pub field_says : (edition : Edition) (t : List ℕ) → IsName edition t → Says (g.field edition) (named t) (word.Sign s.Dot ∷ word.Name t ∷ [])
field_says edition t h = (nowhere, plain_token (word.Sign s.Dot) ∷ [], _, refl, sign_says s.Dot, name_says edition t h)

-- the words that end a method or an event early
pub end_says : (edition : Edition) → edition.early ≡ false → Says (w.end edition) nowhere (word.Key k.Return ∷ [])
end_says edition h = (plain_token (word.Key k.Return), refl, ap (λ b. if b then None else Some nowhere) h)

pub leave_says : (edition : Edition) → edition.early ≡ true → Says (w.leave edition) nowhere (word.Key k.Return ∷ [])
leave_says edition h = (plain_token (word.Key k.Return), refl, ap (λ b. if b then Some nowhere else None) h)

pub finish_says : (edition : Edition) → edition.early ≡ true → Says (w.finish edition) nowhere (word.Name (codes "finish") ∷ [])
finish_says edition h = (plain_token (word.Name (codes "finish")), refl, ap (λ b. if b && true then Some nowhere else None) h)

-- ---- lists

module _ {X A : Type 0} (item : Part A) (value : X → A) (words : X → List Word) (P : X → Type 0) (says : (x : X) → P x → Says item (value x) (words x)) where
  pub all_say : (xs : List X) → Each P xs → Says (many item) (map value xs) (all_of words xs)
  all_say [] h = refl
  all_say (x ∷ xs) h = (map plain_token (words x), _, map-append plain_token (words x) (all_of words xs), says x h.0, all_say xs h.1)

  further_say : (xs : List X) → Each P xs → Says (many (w.sign s.Comma >> item)) (map value xs) (further_words words xs)
  further_say [] h = refl
  further_say (x ∷ xs) h = (
    plain_token (word.Sign s.Comma) ∷ map plain_token (words x),
    _,
    ap (λ l. plain_token (word.Sign s.Comma) ∷ l) (map-append plain_token (words x) (further_words words xs)),
    (nowhere, plain_token (word.Sign s.Comma) ∷ [], _, refl, sign_says s.Comma, says x h.0),
    further_say xs h.1,
  )

  pub listed_says : (x : X) (xs : List X) → P x → Each P xs → Says (g.comma_list item) (value x ∷ map value xs) (listed_words words (x ∷ xs))
  listed_says x xs h k = (value x, map plain_token (words x), _, map-append plain_token (words x) (further_words words xs), says x h, (map value xs, map plain_token (further_words words xs), [], sym (append-nil (map plain_token (further_words words xs))), further_say xs k, (refl, refl)))

  pub parens_say : (xs : List X) → Each P xs → Says (g.in_parens item) (map value xs) (word.Sign s.LeftParen ∷ (listed_words words xs ++ word.Sign s.RightParen ∷ []))
  parens_say [] h = (nowhere, plain_token (word.Sign s.LeftParen) ∷ [], _, refl, sign_says s.LeftParen, (None, [], _, refl, refl, (nowhere, plain_token (word.Sign s.RightParen) ∷ [], [], refl, sign_says s.RightParen, (refl, refl))))
  parens_say (x ∷ xs) h = (
    nowhere,
    plain_token (word.Sign s.LeftParen) ∷ [],
    _,
    refl,
    sign_says s.LeftParen,
    (
      Some (value x ∷ map value xs),
      map plain_token (listed_words words (x ∷ xs)),
      _,
      map-append plain_token (listed_words words (x ∷ xs)) (word.Sign s.RightParen ∷ []),
      listed_says x xs h.0 h.1,
      (nowhere, plain_token (word.Sign s.RightParen) ∷ [], [], refl, sign_says s.RightParen, (refl, refl)),
    ),
  )
