use Rattle.std.proofs.Common.{◌≡◌, ◌∙◌, Some, IfSome, slice_get, subst, ap, map}
use Rattle.command_words.proofs.ReadingLemmas.{texts_more}
use Rattle.command_words.proofs.reading.texts.Goals as goal

pub loop-i-preserved : goal.loop-i-preserved
loop-i-preserved c =
    let words = c.args.words.now in
    let here : slice_get words c.loop-i.i ≡ Some c.unwrap.result.now = subst (λ o. IfSome o (λ w. slice_get words c.loop-i.i ≡ Some w.now)) c.unwrap.ensures c.get.ensures.some in
    ap (map (λ w. w.now)) c.in_ok-push.ensures.items ∙ texts_more words c.loop-i.texts.items c.unwrap.result c.loop-i.i here c.loop-i.invariant
