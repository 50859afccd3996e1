use Rattle.checkpoint_store.proofs.CutLemmas.{word_cut, all_cut}
use Rattle.checkpoint_store.proofs.form.cut_at.Goals as goal

pub loop-word-preserved : goal.loop-word-preserved
loop-word-preserved c =
    word_cut c.args.byte c.loop-word.words c.add.new.self c.args.text.now c.loop-word.rest.now c.in-Some.word.now c.in-Some.after.now c.in_ok-copy.copy c.loop-word.invariant c.in-Some.ensures.some c.in_ok-copy.ensures c.in_ok-add.ensures.ok

pub returns : goal.returns
returns c =
    all_cut c.args.byte c.loop-word.words c.add-2.new.self c.args.text.now c.loop-word.rest.now c.in_ok-last.last c.loop-word.invariant c.in_default.ensures.none c.in_ok-last.ensures c.in_ok-add-2.ensures.ok
