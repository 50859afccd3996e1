use Rattle.listing_out.proofs.SinkLemmas.{nothing_written, written_front, on_err}
use Rattle.listing_out.proofs.write.write_lines.Goals as goal

pub returns-in_err-bytes-clause-err : goal.returns-in_err-bytes-clause-err
returns-in_err-bytes-clause-err g c = on_err c.from_residual.result (written_front _ _ _ _ (nothing_written _ _))
