use Rattle.script_reader.proofs.FrontLemmas.{blanks_dropped}
use Rattle.script_reader.proofs.pieces.without_blanks.Goals as goal

pub returns-clause-rest : goal.returns-clause-rest
returns-clause-rest c = blanks_dropped c.blanks_before.result c.args.text.now c.blanks_before.ensures.count
