use Rattle.std.proofs.Common.{◌-◌, length, map}
use Rattle.wave_labels.specs.Labels.{label_of}
use Rattle.plan_actors.specs.Efforts.{most_labels}
use Rattle.wave_effects.specs.Plans.{plan_of}
use Rattle.wave_drives.specs.inner.Driving.{IsDriving}
use Rattle.wave_drives.proofs.drives.drive_on.Given as goal

abbrev pub invariant-loop-labels : goal.invariant-loop-labels
invariant-loop-labels l = IsDriving l.walk.machine.kept (plan_of l.fn.plan) l.fn.start l.fn.rule l.draw (map label_of l.labels.items) l.walk.ends.items

abbrev pub decreases-loop-labels : goal.decreases-loop-labels
decreases-loop-labels l = most_labels (plan_of l.fn.plan) l.fn.start - length l.labels.items
