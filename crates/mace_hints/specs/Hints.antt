-- What could stand next: words that go on to be a service, and what a hint tells apart of them.
use Rattle.std.specs.Prelude.{◌≡◌, ℕ, pos, if◌then◌else◌, List, [], ◌∷◌, ◌++◌, codes}
use Rattle.std.specs.Ordering.{int_eq}
use Rattle.mace_lexer.specs.declared.token.Word.{Word}
use Rattle.mace_lexer.specs.declared.token.Word.TheVariants as word
use Rattle.mace_lexer.specs.declared.token.Token.{Token}
use Rattle.mace_lexer.specs.Lexed.{AreTokens}
use Rattle.mace_ast.specs.Decls.{ServiceTree}
use Rattle.mace_grammar.specs.Words.{is_finish}
use Rattle.mace_grammar.specs.Spelled.{Spelled}
use Rattle.mace_grammar.specs.Nest.{IsShallow}
use Rattle.mace_hints.specs.declared.hint.Hint.{Hint}
use Rattle.mace_hints.specs.declared.hint.Hint.TheVariants.{Name, Finish, Number, Two, Text, Key, Sign}

-- each keyword and each sign, the word `finish`, the number 2, and else names, numbers and texts
abbrev pub hint_of : Word → Hint
hint_of (word.Name t) = if is_finish t then Finish else Name
hint_of (word.Number n) = if int_eq n (pos 2) then Two else Number
hint_of (word.Text t) = Text
hint_of (word.Key j) = Key j
hint_of (word.Sign j) = Sign j

-- a word of this hint
abbrev pub word_of : Hint → Word
word_of Name = word.Name (codes "a")
word_of Finish = word.Name (codes "finish")
word_of Number = word.Number (pos 1)
word_of Two = word.Number (pos 2)
word_of Text = word.Text []
word_of (Key j) = word.Key j
word_of (Sign j) = word.Sign j

-- hints don't tell these words apart, one by one
abbrev pub AreAlike : List Word → List Word → Type 0
AreAlike [] [] = Unit {0}
AreAlike (w ∷ ws) (v ∷ vs) = (hint_of w ≡ hint_of v) × AreAlike ws vs
AreAlike _ _ = ⊥

-- with some words behind these they are a service
abbrev pub GoesOn : List Word → Type 0
GoesOn ws = (more : List Word) × (s : ServiceTree) × Spelled s (ws ++ more)

-- Behind these words a word of this hint can stand: some words go on from there, and nothing is nested too deep.
pub record CanFollow (ws : List Word) (h : Hint) : Type 0 where
  pub next : Word
  pub told : hint_of next ≡ h
  pub goes_on : GoesOn (ws ++ next ∷ [])
  pub shallow : IsShallow (ws ++ next ∷ [])

-- the tokens of some text
abbrev pub IsRead : List Token → Type 0
IsRead tokens = (text : List ℕ) × AreTokens text tokens
