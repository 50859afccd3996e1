use Rattle.std.proofs.Common.{sym, subst}
use Rattle.std.specs.Prelude.{OnOk}
use Rattle.wave_labels.specs.declared.label.Act.{Act}
use Rattle.wave_labels.specs.Labels.{act_of}
use Rattle.wave_drives.specs.Walks.{Leads}
use Rattle.wave_drives.proofs.walk.Walk.take.Goals as goal

pub returns-in-Stop-clause-leads : goal.returns-in-Stop-clause-leads
returns-in-Stop-clause-leads c =
    let label = c.args.label.now in
    let w = c.args.self.now in
    subst (λ (a : Act). OnOk c.stop.result (Leads w.machine.kept w.ends.items (record { worker = label.worker.0; host = label.host.0; act = act_of a }) c.stop.new.self.machine.kept c.stop.new.self.ends.items)) (sym c.in-Stop.is) c.stop.ensures.leads
