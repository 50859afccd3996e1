use Rattle.std.proofs.Common.{◌≡◌, ◌++◌, drop}
use Rattle.service_code.specs.Listing.{functions_text}
use Rattle.service_code.proofs.listing.code_listing.Given as goal

-- what is written and what is left are the whole
abbrev pub invariant-loop-number : goal.invariant-loop-number
invariant-loop-number l =
    l.text.items ++ functions_text l.program.shape l.number (drop l.number l.program.functions) ≡ functions_text l.program.shape 0 l.program.functions
