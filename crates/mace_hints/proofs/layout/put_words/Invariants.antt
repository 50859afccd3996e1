use Rattle.std.proofs.Common.{◌≡◌, ◌++◌, take}
use Rattle.mace_grammar.specs.Spelled.{words}
use Rattle.mace_printer.specs.Layout.{layout}
use Rattle.mace_hints.proofs.layout.put_words.Given as goal

abbrev pub invariant-loop-token : goal.invariant-loop-token
invariant-loop-token l = l.out.items ≡ l.fn.out.items ++ layout (words (take l.token-index l.tokens))
