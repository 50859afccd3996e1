-- Who is next in a line, where that is another ticket than one whose slots are listed anew anyway.
use Rattle.std.specs.Prelude.{◌==◌, ℕ, if◌then◌else◌, Option, Some, None}

abbrev pub but : ℕ → Option ℕ → Option ℕ
but t None = None
but t (Some u) = if u == t then None else Some u
