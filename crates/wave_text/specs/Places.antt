-- Where something stands in a text, as it is written.
use Rattle.std.specs.Prelude.{ℕ, List, ◌++◌, codes}
use Rattle.std.specs.Fmt.{decimal}
use Rattle.wave_base.specs.declared.span.Span.{Span}

-- line:column
abbrev pub place_text : Span → List ℕ
place_text at = decimal at.line ++ codes ":" ++ decimal at.col
