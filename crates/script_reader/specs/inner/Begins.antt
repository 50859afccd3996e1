-- The words that lines of some form begin with.
use Rattle.std.specs.Prelude.{ℕ, Bool, ◌||◌, List, take, codes}
use Rattle.std.specs.List.{prefix_len}
use Rattle.wave_base.specs.Names.{same_bytes}
use Rattle.script_reader.specs.Pieces.{is_solid}

-- the solid bytes in front
abbrev pub first_run : List ℕ → List ℕ
first_run text = take (prefix_len is_solid text) text

abbrev pub is_form_word : List ℕ → Bool
is_form_word word = same_bytes word (codes "hosts") || (same_bytes word (codes "request") || (same_bytes word (codes "move") || (same_bytes word (codes "snapshot") || same_bytes word (codes "settle"))))
