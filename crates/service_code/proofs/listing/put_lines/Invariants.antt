use Rattle.std.proofs.Common.{◌≡◌, ◌++◌, drop}
use Rattle.service_code.specs.Listing.{lines_text}
use Rattle.service_code.proofs.listing.put_lines.Given as goal

-- what is written and what is left are the whole
abbrev pub invariant-loop-number : goal.invariant-loop-number
invariant-loop-number l =
    l.text.items ++ lines_text l.number (drop l.number l.function.code) (drop l.number l.function.places) ≡ l.initial.text.items ++ lines_text 0 l.function.code l.function.places
