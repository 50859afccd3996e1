use Rattle.journal_text.proofs.WordLemmas.{word_parts}
use Rattle.journal_text.proofs.word.word_of.Goals as goal

pub returns : goal.returns
returns c = word_parts c.args.text.now c.parts_at.result.0.now c.parts_at.result.1.now c.parts_at.ensures.parts
