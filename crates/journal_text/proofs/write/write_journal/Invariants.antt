use Rattle.std.proofs.Common.{◌≡◌, ◌+◌, ◌++◌, ◌∷◌, drop, take, length, All}
use Rattle.journal_text.specs.Fits.{IsLabel}
use Rattle.journal_text.specs.JournalTexts.{head_text, labels_text}
use Rattle.journal_text.proofs.write.write_journal.Given as goal

abbrev pub invariant-loop-i : goal.invariant-loop-i
invariant-loop-i l = record {
  text : l.out.items ++ labels_text l.shape (l.i + 1) (drop l.i l.labels) ≡ head_text (length l.labels) ++ 10 ∷ labels_text l.shape 1 l.labels;
  fit : All (IsLabel l.shape) (take l.i l.labels);
}
