use Rattle.host_workers.proofs.Rounding as rounding
use Rattle.host_workers.proofs.working.run_out.Goals as goal

pub returns : goal.returns
returns g c = rounding.paused _ _ _ _ c.requires.leased _ c.requires.plan _ _ c.in_ok-reply.ensures.worker c.in_ok-reply.ensures.segment
