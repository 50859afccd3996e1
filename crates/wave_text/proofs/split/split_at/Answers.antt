use Rattle.wave_text.proofs.SplitLemmas.{is_split, is_nowhere}
use Rattle.wave_text.proofs.split.split_at.Goals as goal

pub returns-then-n-text-clause-none : goal.returns-then-n-text-clause-none
returns-then-n-text-clause-none c = is_nowhere c.args.end c.count_before-n.result c.args.text.now c.count_before-n.ensures.count c.if-n-text.true

pub returns-clause-some : goal.returns-clause-some
returns-clause-some c = is_split c.args.end c.count_before-n.result c.args.text.now c.count_before-n.ensures.count c.if-n-text.false c.count_before-n.ensures.within
