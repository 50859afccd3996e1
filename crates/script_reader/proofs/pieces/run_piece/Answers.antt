use Rattle.std.proofs.Common.{refl}
use Rattle.script_reader.proofs.FrontLemmas.{run_found}
use Rattle.script_reader.proofs.pieces.run_piece.Goals as goal

pub returns-clause-some : goal.returns-clause-some
returns-clause-some c = run_found c.args.text.now c.of-bytes.result _ c.run_len-len.result c.run_len-len.ensures.count c.if-len-eq0.false c.of-bytes.ensures refl
