use Rattle.std.proofs.Common.{sym, ap, ◌∙◌}
use Rattle.std.proofs.lemmas.Bool.{false≢true}
use Rattle.wave_text.specs.Numbers.{whole_of}
use Rattle.wave_text.specs.Words.{is_whole}
use Rattle.wave_text.proofs.ReadBack.{whole_again}
use Rattle.snapshot_text.proofs.value.number_of.Goals as goal

pub returns-then-is_whole-clause-only : goal.returns-then-is_whole-clause-only
returns-then-is_whole-clause-only c z f e = c.whole_of.ensures ∙ ap whole_of e ∙ (whole_again z f).1

pub returns-else-is_whole-clause-only : goal.returns-else-is_whole-clause-only
returns-else-is_whole-clause-only c z f e = absurd (false≢true (sym (sym c.is_whole.ensures ∙ c.if-is_whole.false) ∙ ap is_whole e ∙ (whole_again z f).0))
