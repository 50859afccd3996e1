use Rattle.host_workers.specs.Runs.{IsWholeRun}
use Rattle.host_workers.proofs.Closing as closing
use Rattle.host_workers.proofs.run.parts_of.Goals as goal

pub into_parts-requires : goal.into_parts-requires
into_parts-requires g c = record { finished = closing.can_part _ _ _ c.close.ensures.stands c.requires.finished c.close.ensures.agrees.0 }

pub returns-in-Ok : goal.returns-in-Ok
unfolding IsWholeRun
returns-in-Ok g c = closing.is_run _ _ c.close.ensures.stands.0 c.close.ensures.stands.1 _ c.requires.finished c.close.ensures.agrees.0 c.runs_are_measured.ensures.finished c.finished_states_tell.ensures c.plans_have_owners.ensures c.plans_are_serial.ensures _ c.in-Ok.ensures.journal c.in-Ok.ensures.told
