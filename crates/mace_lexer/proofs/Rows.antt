-- The definitions on small texts.
use Rattle.std.proofs.Common.{◌≡◌, [], ◌∷◌, true, false, Some, None, refl}
use Rattle.wave_base.specs.Names.{is_word}
use Rattle.mace_lexer.specs.declared.keyword.Keyword.TheVariants as k
use Rattle.mace_lexer.specs.declared.sign.Sign.TheVariants as s
use Rattle.mace_lexer.specs.declared.quoted.Inside.TheVariants.{Byte, Open, Bad}
use Rattle.mace_lexer.specs.Words.{is_blank, value_of, keyword, sign}
use Rattle.mace_lexer.specs.Texts.{inside_of}
use Rattle.wave_base.specs.Text.{quoted_text}
use Rattle.mace_lexer.specs.Cuts.{past}
use Rattle.mace_lexer.specs.Lexed.{start}

-- "if" is a keyword and "iff" is none; "<=" is one sign
if_keyword : keyword (105 ∷ 102 ∷ []) ≡ Some k.If
unfolding keyword
if_keyword = refl

iff_name : keyword (105 ∷ 102 ∷ 102 ∷ []) ≡ None
unfolding keyword
iff_name = refl

less_equals : sign (60 ∷ 61 ∷ []) ≡ Some s.LessEquals
unfolding sign
less_equals = refl

-- a carriage return is a blank with its line feed alone
line_end : is_blank (13 ∷ 10 ∷ []) ≡ true
line_end = refl

lone_return : is_blank (13 ∷ []) ≡ false
lone_return = refl

-- "_1" is a name, "1_" is none, and "007" is 7
underscore_name : is_word (95 ∷ 49 ∷ []) ≡ true
underscore_name = refl

digit_first : is_word (49 ∷ 95 ∷ []) ≡ false
digit_first = refl

seven : value_of (48 ∷ 48 ∷ 55 ∷ []) ≡ 7
seven = refl

-- a"b is written "a\"b"
quote_inside : quoted_text (97 ∷ 34 ∷ 98 ∷ []) ≡ 34 ∷ 97 ∷ 92 ∷ 34 ∷ 98 ∷ 34 ∷ []
quote_inside = refl

-- behind a backslash a quote is meant, the line's end leaves the text open, and an n is bad
escaped_quote : inside_of (92 ∷ 34 ∷ []) ≡ Byte 34
escaped_quote = refl

escaped_end : inside_of (92 ∷ 10 ∷ []) ≡ Open
escaped_end = refl

escaped_letter : inside_of (92 ∷ 110 ∷ []) ≡ Bad
escaped_letter = refl

-- behind a line feed the line is the next one, and the column the first
second_line : past start (97 ∷ 10 ∷ []) ≡ record { line = 2; col = 1 }
second_line = refl
