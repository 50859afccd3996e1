use Rattle.wave_machine.proofs.listed.Listed.is_finished.Goals as goal

pub is_finished_past-requires : goal.is_finished_past-requires
is_finished_past-requires c = record { within = c.requires.done.within; each = c.requires.done.each }
