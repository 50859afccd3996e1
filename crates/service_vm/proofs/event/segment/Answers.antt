use Rattle.service_vm.proofs.Doing.{if_ok}
use Rattle.service_vm.proofs.Events.{left_stands}
use Rattle.service_vm.proofs.event.segment.Goals as goal

pub returns-clause-leaves : goal.returns-clause-leaves
returns-clause-leaves c = if_ok c.run_to_pause.result _ _ (λ why is. left_stands c.args.program.now c.requires.fit c.run_to_pause.ensures.verified c.args.event.now.event c.run_to_pause.new.event.event c.args.body.now.fields c.run_to_pause.new.body.fields why is) c.run_to_pause.ensures.segment
