use Rattle.listing_out.proofs.SinkLemmas.{nothing_written, written_front, on_err}
use Rattle.listing_out.proofs.write.write_last.Goals as goal

pub returns-in_err-lines-clause-err : goal.returns-in_err-lines-clause-err
returns-in_err-lines-clause-err g c = on_err c.from_residual.result (written_front _ _ _ _ (nothing_written _ _))

pub returns-in_err-put_lines-clause-err : goal.returns-in_err-put_lines-clause-err
returns-in_err-put_lines-clause-err g c = on_err c.from_residual-in_err-put_lines.result (written_front _ _ _ _ (nothing_written _ _))
