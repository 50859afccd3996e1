use Rattle.listing_out.proofs.SinkLemmas.{nothing_written, on_err, written_front}
use Rattle.host_workers.proofs.run.run_workers.Goals as goal

pub returns-in_err-helpers-clause-front : goal.returns-in_err-helpers-clause-front
returns-in_err-helpers-clause-front g c = on_err c.from_residual.result (written_front _ _ _ _ (nothing_written _ _))
