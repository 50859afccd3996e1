-- Which bytes make a blank, a comment, a keyword and a sign, and the number that digits make.
use Rattle.std.specs.Prelude.{ℕ, ◌+◌, ◌-◌, ◌*◌, Bool, false, not, ◌&&◌, ◌||◌, ◌==◌, if◌then◌else◌, List, [], ◌∷◌, map, fold, get_or, Option, Some, None}
use Rattle.std.specs.List.{list_all}
use Rattle.std.specs.Str.{bytes_eq}
use Rattle.mace_lexer.specs.Codes.{key_code, sign_code}
use Rattle.mace_lexer.specs.declared.keyword.Keyword.{Keyword}
use Rattle.mace_lexer.specs.declared.sign.Sign.{Sign}
use Rattle.mace_lexer.specs.Spellings.{keywords, signs}

-- ---- blanks and comments

-- a space, a tab, a line feed, or a carriage return with the line feed behind it
abbrev pub is_blank : List ℕ → Bool
is_blank [] = false
is_blank (a ∷ []) = a == 32 || a == 9 || a == 10
is_blank (a ∷ b ∷ []) = a == 13 && b == 10
is_blank (a ∷ b ∷ c ∷ bs) = false

abbrev pub is_inside_line : ℕ → Bool
is_inside_line b = not (b == 10)

-- two slashes, and then any bytes but a line feed
abbrev pub is_comment : List ℕ → Bool
is_comment [] = false
is_comment (a ∷ []) = false
is_comment (a ∷ b ∷ bs) = a == 47 && b == 47 && list_all is_inside_line bs

-- ---- numbers

abbrev pub with_digit : ℕ → ℕ → ℕ
with_digit value digit = 10 * value + (digit - 48)

abbrev pub value_of : List ℕ → ℕ
value_of digits = fold with_digit 0 digits

-- the greatest number that can be written
abbrev pub greatest : ℕ
greatest = 9223372036854775807

-- ---- keywords and signs, by their spellings

abbrev pub entry_of : {A : Type 0} → List (List ℕ × A) → List ℕ → Option A
entry_of [] bs = None
entry_of (e ∷ es) bs = if bytes_eq e.0 bs then Some e.1 else entry_of es bs

abbrev pub spelling_at : {A : Type 0} → List (List ℕ × A) → ℕ → List ℕ
spelling_at entries place = get_or (map (λ e. e.0) entries) place []

-- the keyword that these bytes spell
unfoldable pub keyword : List ℕ → Option Keyword
keyword = entry_of keywords

-- how a keyword is written
unfoldable pub keyword_bytes : Keyword → List ℕ
keyword_bytes k = spelling_at keywords (key_code k)

-- the sign that these bytes spell
unfoldable pub sign : List ℕ → Option Sign
sign = entry_of signs

-- how a sign is written
unfoldable pub sign_bytes : Sign → List ℕ
sign_bytes s = spelling_at signs (sign_code s)
