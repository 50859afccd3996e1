use Rattle.std.proofs.Common.{◌≡◌, ◌++◌, drop}
use Rattle.journal_text.specs.LabelTexts.{label_text}
use Rattle.journal_replay.specs.Reports.{lines_of}
use Rattle.journal_replay.proofs.report.put_labels.Given as goal

abbrev pub invariant-loop-label : goal.invariant-loop-label
invariant-loop-label l = l.out.items ++ lines_of (label_text l.shape) (drop l.label-index l.labels) ≡ l.fn.out.items ++ lines_of (label_text l.shape) l.labels
