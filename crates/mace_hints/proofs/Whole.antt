-- The front of a text in its layout.
use Rattle.std.proofs.Common.{◌≡◌, ℕ, List, [], ◌++◌, take, refl, sym, ◌∙◌, ap}
use Rattle.std.proofs.lemmas.List.{take-map}
use Rattle.mace_lexer.specs.declared.token.Token.{Token}
use Rattle.mace_grammar.specs.Spelled.{words}
use Rattle.mace_printer.specs.Layout.{layout}
use Rattle.mace_hints.specs.Hints.{IsRead}
use Rattle.mace_hints.specs.inner.Fronts.{IsFront}

pub front_laid : (tokens : List Token) (k : ℕ) (none bytes : List ℕ) → none ≡ [] → bytes ≡ none ++ layout (words (take k tokens)) → bytes ≡ layout (take k (words tokens))
front_laid tokens k none bytes e put = put ∙ ap (λ z. z ++ layout (words (take k tokens))) e ∙ ap layout (sym (take-map (λ t. t.word) k tokens))

pub front_is : (tokens : List Token) (k : ℕ) (bytes : List ℕ) → IsRead tokens → bytes ≡ layout (take k (words tokens)) → IsFront bytes (take k (words tokens))
front_is tokens k bytes read laid = record { tokens = tokens; read = read; size = k; front = refl; laid = laid }
