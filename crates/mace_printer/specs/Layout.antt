-- The canonical layout: each word as it is written, and behind it a line feed after a brace or a semicolon, and else a space.
use Rattle.std.specs.Prelude.{ℕ, List, [], ◌∷◌, ◌++◌}
use Rattle.std.specs.Fmt.{signed_decimal}
use Rattle.mace_lexer.specs.declared.token.Word.{Word}
use Rattle.mace_lexer.specs.declared.token.Word.TheVariants as word
use Rattle.mace_lexer.specs.declared.sign.Sign.{Sign}
use Rattle.mace_lexer.specs.declared.sign.Sign.TheVariants as s
use Rattle.mace_lexer.specs.Words.{keyword_bytes, sign_bytes}
use Rattle.wave_base.specs.Text.{quoted_text}

-- a name as it is, a number in decimal, a text in its quotes, with an escape only where it must stand
abbrev pub spelling : Word → List ℕ
spelling (word.Name t) = t
spelling (word.Key k) = keyword_bytes k
spelling (word.Number n) = signed_decimal n
spelling (word.Text t) = quoted_text t
spelling (word.Sign j) = sign_bytes j

abbrev pub gap_of : Sign → ℕ
gap_of s.LeftBrace = 10
gap_of s.RightBrace = 10
gap_of s.Semicolon = 10
gap_of _ = 32

-- the byte behind a word
abbrev pub gap_behind : Word → ℕ
gap_behind (word.Sign j) = gap_of j
gap_behind _ = 32

abbrev pub line_of : Word → List ℕ
line_of w = spelling w ++ gap_behind w ∷ []

unfoldable pub layout : List Word → List ℕ
layout [] = []
layout (w ∷ ws) = line_of w ++ layout ws
