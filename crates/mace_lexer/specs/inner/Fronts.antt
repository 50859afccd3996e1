-- The front of a text: the form of the piece there, and what the lexer's parts find.
use Rattle.std.specs.Prelude.{◌≡◌, ℕ, suc, ◌<◌, ◌≤◌, Bool, false, ◌&&◌, ◌||◌, ◌==◌, if◌then◌else◌, List, ◌∷◌, ◌++◌, length, drop, slice_index, All}
use Rattle.std.specs.Char.{is_ascii_digit}
use Rattle.wave_base.specs.Names.{is_name_start, is_name_byte}
use Rattle.wave_base.specs.Text.{IsPrintable, escaped_text}
use Rattle.mace_lexer.specs.declared.cut.Class.{Class}
use Rattle.mace_lexer.specs.declared.cut.Class.TheVariants as class
use Rattle.mace_lexer.specs.declared.cut.Cut.{Cut}
use Rattle.mace_lexer.specs.declared.cut.Cut.TheVariants as cut
use Rattle.mace_lexer.specs.declared.cut.Form.{Form}
use Rattle.mace_lexer.specs.declared.cut.Form.TheVariants as form
use Rattle.mace_lexer.specs.Words.{is_inside_line}
use Rattle.mace_lexer.specs.Texts.{inside_of, is_byte}
use Rattle.mace_lexer.specs.Pieces.{Gap, Spell, IsLongest}
use Rattle.mace_lexer.specs.Cuts.{Fails}

-- which bytes go on with a comment, a name and a number
abbrev pub is_in : Class → ℕ → Bool
is_in class.Line b = is_inside_line b
is_in class.Name b = is_name_byte b
is_in class.Digit b = is_ascii_digit b

-- the form of a piece, by its first two bytes
abbrev pub form_by : ℕ → ℕ → Form
form_by a b =
    if a == 32 || a == 9 || a == 10 then form.Blank
    else if a == 13 && b == 10 then form.LineEnd
    else if a == 47 && b == 47 then form.Comment
    else if a == 34 then form.Text
    else if is_name_start a then form.Name
    else if is_ascii_digit a then form.Number
    else form.Sign

abbrev pub form_of : List ℕ → Form
form_of bs = form_by (slice_index bs 0) (slice_index bs 1)

-- the longest piece, or the fault that is found so far behind the front
abbrev pub IsCut : List ℕ → Cut → Type 0
IsCut text (cut.Gap n) = (0 < n) × IsLongest text n Gap
IsCut text (cut.Spell n w) = (0 < n) × IsLongest text n (Spell w)
IsCut text (cut.Fault e n) = (n ≤ length text) × Fails text e n

-- a text's inside: behind the quote these bytes are meant, they reach to byte n, and no more of them stand there
pub record IsBody (text t : List ℕ) (n : ℕ) : Type 0 where
  pub split : text ≡ 34 ∷ (escaped_text t ++ drop n text)
  pub printable : All IsPrintable t
  pub reach : n ≡ suc (length (escaped_text t))
  pub within : n ≤ length text
  pub ends : is_byte (inside_of (drop n text)) ≡ false
