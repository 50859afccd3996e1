use Rattle.std.proofs.Common.{subst}
use Rattle.std.proofs.lemmas.List.Elements.{All-more}
use Rattle.journal_text.specs.Fits.{IsLabel}
use Rattle.journal_text.specs.JournalTexts.{journal_text}
use Rattle.journal_text.proofs.WriteLemmas.{line_put, all_put, label_fits}
use Rattle.journal_text.proofs.write.write_journal.Goals as goal

pub loop-i-preserved : goal.loop-i-preserved
loop-i-preserved c =
    let fits : IsLabel c.args.shape.now c.index-labels-i.result = record {
      worker = c.in_ok-put_line.ensures.worker;
      host = c.in_ok-put_line.ensures.host;
      path = label_fits c.args.shape.now c.as_slice-labels.result.now c.args.journal.now c.loop-i.i c.index-labels-i.result c.loop-i-test.true c.as_slice-labels.ensures c.index-labels-i.is c.requires;
      numbers = c.in_ok-put_line.ensures.numbers;
    } in record {
      text = line_put c.args.shape.now c.loop-i.out.items c.put_line.new.out.items c.push-in-loop-i.new.self.items (journal_text c.args.shape.now c.as_slice-labels.result.now) c.as_slice-labels.result.now c.loop-i.i c.index-labels-i.result
          c.loop-i-test.true c.index-labels-i.is c.in_ok-put_line.ensures.text c.in_ok-push-2.ensures.items c.loop-i.invariant.text;
      fit = All-more (IsLabel c.args.shape.now) c.as_slice-labels.result.now c.loop-i.i c.index-labels-i.result c.loop-i-test.true c.loop-i.invariant.fit (subst (IsLabel c.args.shape.now) c.index-labels-i.is fits);
    }

pub returns : goal.returns
returns c =
    all_put c.args.shape.now c.loop-i.out.items c.from_vec.result c.as_slice-labels.result.now c.args.journal.now c.loop-i.i c.loop-i-test.false c.as_slice-labels.ensures c.from_vec.ensures c.loop-i.invariant.text c.loop-i.invariant.fit
