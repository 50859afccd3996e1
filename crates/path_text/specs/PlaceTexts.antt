-- A context with its host, as one line shows it.
use Rattle.std.specs.Prelude.{ℕ, List, ◌++◌, codes}
use Rattle.std.specs.Fmt.{decimal}
use Rattle.wave_base.specs.declared.finished.Place.{Place}
use Rattle.wave_base.specs.declared.shape.Shape.{Shape}
use Rattle.path_text.specs.PathTexts.{path_text}

-- place path host
abbrev pub place_text : Shape → Place → List ℕ
place_text shape x = codes "place " ++ path_text shape x.path ++ codes " " ++ decimal x.host.0
