-- Scripts without policies.
use Rattle.std.specs.Prelude.{ℕ, List, All, IfSome}
use Rattle.wave_text.specs.Lines.{lines_of}
use Rattle.input_parts.specs.Parts.{script_of}
use Rattle.script_reader.specs.Policies.{HasNoPolicyForm}

-- no line of a text has a policy's form
abbrev pub HasNoPolicy : List ℕ → Type 0
HasNoPolicy text = All HasNoPolicyForm (lines_of text)

-- of the bytes of a service and a script, where there is one
abbrev pub HasPlainScript : List ℕ → Type 0
HasPlainScript bytes = IfSome (script_of bytes) HasNoPolicy
