use Rattle.std.proofs.Common.{sym, ◌∙◌}
use Rattle.std.proofs.lemmas.Bool.{false≢true}
use Rattle.snapshot_text.proofs.LiteralLemmas.{bare_is, bare_parts}
use Rattle.snapshot_text.proofs.literal.behind_bare.Goals as goal

pub returns-then-is_bare-clause-some : goal.returns-then-is_bare-clause-some
returns-then-is_bare-clause-some c = bare_is c.args.text.now c.run_of.result.0.now c.run_of.result.1.now c.run_of.ensures (sym c.is_bare.ensures ∙ c.if-is_bare.true)

pub returns-then-is_bare-clause-only : goal.returns-then-is_bare-clause-only
returns-then-is_bare-clause-only c left h ends = (bare_parts c.args.text.now c.run_of.result.0.now c.run_of.result.1.now c.run_of.ensures c.requires.quote c.requires.brace left h ends).1

pub returns-else-is_bare-clause-none : goal.returns-else-is_bare-clause-none
returns-else-is_bare-clause-none c left h ends =
    let p = bare_parts c.args.text.now c.run_of.result.0.now c.run_of.result.1.now c.run_of.ensures c.requires.quote c.requires.brace left h ends in
    false≢true (sym (sym c.is_bare.ensures ∙ c.if-is_bare.false) ∙ p.0)
