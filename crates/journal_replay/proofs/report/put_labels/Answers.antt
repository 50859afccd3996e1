use Rattle.std.proofs.Common.{◌≡◌, ◌++◌, Some, refl}
use Rattle.std.specs.Prelude.{slice_get}
use Rattle.std.proofs.lemmas.Option.{slice_get_read}
use Rattle.journal_text.specs.LabelTexts.{label_text}
use Rattle.journal_replay.specs.Reports.{lines_of}
use Rattle.journal_replay.proofs.Written.{all_put, line_put}
use Rattle.journal_replay.proofs.report.put_labels.Goals as goal

pub loop-label-preserved : goal.loop-label-preserved
loop-label-preserved c =
    let labels = c.args.labels.now in
    let i = c.loop-label.label-index in
    let x = c.label-item.result in
    let line = label_text c.args.shape.now in
    let at : slice_get labels i ≡ Some x = slice_get_read labels _ i x refl c.loop-label-test.true c.label-item.is in
    line_put line labels i x c.loop-label.out.items c.put_label.new.out.items c.put_bytes.new.out.items (c.args.out.now.items ++ lines_of line labels) at c.loop-label.invariant c.in_ok-put_label.ensures.text c.in_ok-put_bytes.ensures

pub returns : goal.returns
returns c =
    let labels = c.args.labels.now in
    let line = label_text c.args.shape.now in
    all_put line labels c.loop-label.label-index c.loop-label.out.items (c.args.out.now.items ++ lines_of line labels) c.loop-label-test.false c.loop-label.invariant
