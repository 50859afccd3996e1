use Rattle.std.proofs.Common.{sym, ◌∙◌}
use Rattle.std.proofs.lemmas.Bool.{false≢true}
use Rattle.snapshot_text.proofs.LiteralLemmas.{map_is, map_only, no_map}
use Rattle.snapshot_text.proofs.literal.behind_map.Goals as goal

pub returns-then-are_pairs-clause-some : goal.returns-then-are_pairs-clause-some
returns-then-are_pairs-clause-some c = map_is c.args.text.now c.in_ok-pairs.pairs.now c.in_ok-pairs.rest.now c.in_ok-pairs.ensures.some (c.are_pairs.ensures.0 c.if-are_pairs.true)

pub returns-then-are_pairs-clause-only : goal.returns-then-are_pairs-clause-only
returns-then-are_pairs-clause-only c left h ends = map_only c.args.text.now c.in_ok-pairs.pairs.now c.in_ok-pairs.rest.now c.in_ok-pairs.ensures.some left h ends

pub returns-else-are_pairs-clause-none : goal.returns-else-are_pairs-clause-none
returns-else-are_pairs-clause-none c left h ends =
    no_map c.args.text.now c.in_ok-pairs.pairs.now c.in_ok-pairs.rest.now c.in_ok-pairs.ensures.some (λ m. false≢true (sym c.if-are_pairs.false ∙ c.are_pairs.ensures.1 m)) left h ends
