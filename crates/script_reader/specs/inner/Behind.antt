-- What the reader of a line says of what stands behind a literal.
use Rattle.std.specs.Prelude.{List}
use Rattle.script_reader.specs.declared.piece.Piece.{Piece}
use Rattle.script_reader.specs.declared.spelling.Behind.{Behind}
use Rattle.script_reader.specs.declared.spelling.Behind.TheVariants as b
use Rattle.script_reader.specs.inner.Parts.{Next, More, End, Wrong}

-- with these pieces behind a comma
abbrev pub behind_of : Behind → List Piece → Next
behind_of b.More rest = More rest
behind_of b.End rest = End
behind_of b.Wrong rest = Wrong
