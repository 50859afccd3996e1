use Rattle.wave_text.proofs.LineLemmas.{more_lines, last_line}
use Rattle.wave_text.proofs.lines.first_line.Goals as goal

pub returns-then-len-text-clause-last : goal.returns-then-len-text-clause-last
returns-then-len-text-clause-last c =
    last_line c.args.text.now c.without_return-line.result.now c.count_before-len.result c.count_before-len.ensures.count c.if-len-text.true c.without_return-line.ensures

pub returns-clause-more : goal.returns-clause-more
returns-clause-more c =
    more_lines c.args.text.now c.without_return-line.result.now c.count_before-len.result c.count_before-len.ensures.count c.if-len-text.false c.count_before-len.ensures.within c.without_return-line.ensures
