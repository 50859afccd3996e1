-- What can stand next inside a text.
use Rattle.std.specs.Prelude.{ℕ, Bool, true, false, ◌&&◌, ◌||◌, ◌==◌, nat_le, if◌then◌else◌, List, [], ◌∷◌, ◌++◌}
use Rattle.mace_lexer.specs.declared.quoted.Inside.{Inside}
use Rattle.mace_lexer.specs.declared.quoted.Inside.TheVariants.{Byte, Close, Open, Bad}

-- ---- a byte that is meant, the closing quote, the end of a line or of all, or what may not stand there

-- behind a backslash
abbrev pub escape_of : List ℕ → Inside
escape_of [] = Open
escape_of (b ∷ rest) =
    if b == 34 || b == 92 then Byte b
    else if b == 10 || b == 13 then Open
    else Bad

abbrev pub inside_of : List ℕ → Inside
inside_of [] = Open
inside_of (b ∷ rest) =
    if b == 10 || b == 13 then Open
    else if b == 34 then Close
    else if b == 92 then escape_of rest
    else if nat_le 32 b && nat_le b 126 then Byte b
    else Bad

abbrev pub is_byte : Inside → Bool
is_byte (Byte b) = true
is_byte Close = false
is_byte Open = false
is_byte Bad = false
