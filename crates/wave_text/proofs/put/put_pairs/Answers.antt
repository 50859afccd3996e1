use Rattle.std.proofs.Common.{◌++◌, pos, get_or, ◌∙◌, ap, arith}
use Rattle.wave_text.specs.ValueTexts.{pair_text}
use Rattle.wave_text.proofs.PairLemmas.{pairs_more, at_place}
use Rattle.wave_text.proofs.put.put_pairs.Goals as goal

pub loop-i-preserved : goal.loop-i-preserved
loop-i-preserved c =
    let at = at_place c.args.pairs.now c.loop-i.i (pos 0, pos 0) (omega arith) in
    pairs_more c.args.out.now.items c.loop-i.out.items c.put_pair.new.out.items c.args.pairs.now c.loop-i.i _ at c.loop-i.invariant
    (c.in_ok-put_pair.ensures ∙ ap (λ z. z ++ pair_text (get_or c.args.pairs.now c.loop-i.i (pos 0, pos 0))) c.in_ok-put_comma.ensures)
