use Rattle.std.proofs.Common.{Ok, Err}
use Rattle.std.specs.Prelude.{Result, OnOk}
use Rattle.wave_base.specs.declared.memory.OutOfMemory.{OutOfMemory}
use Rattle.service_vm.proofs.DoingFrames.{call_did}
use Rattle.service_vm.proofs.run.Run.call.Goals as goal

-- what follows from a fact on success
on_ok : {A B : Type 0} (r : Result (Unit {0}) OutOfMemory) → (A → B) → OnOk r A → OnOk r B
on_ok (Ok u) f a = f a
on_ok (Err e) f a = tt

pub returns-clause-did : goal.returns-clause-did
returns-clause-did c = on_ok c.begin.result (λ begins. call_did c.args.self.now c.args.number c.args.function.now c.begin.new.self c.requires.args begins) c.begin.ensures
