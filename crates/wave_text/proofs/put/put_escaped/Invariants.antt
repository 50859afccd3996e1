use Rattle.std.proofs.Common.{◌≡◌, ◌++◌, drop}
use Rattle.wave_base.specs.Text.{escaped_text}
use Rattle.wave_text.proofs.put.put_escaped.Given as goal

abbrev pub invariant-loop-b : goal.invariant-loop-b
invariant-loop-b l = l.out.items ++ escaped_text (drop l.b-index l.text) ≡ l.fn.out.items ++ escaped_text l.text
