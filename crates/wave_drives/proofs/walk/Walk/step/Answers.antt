use Rattle.std.proofs.Common.{◌∙◌}
use Rattle.wave_labels.specs.Labels.{label_of}
use Rattle.wave_drives.proofs.Driven.{calm_leads, enabled_of, keeps_enabled, keeps_takes, step_is_calm}
use Rattle.wave_drives.proofs.walk.Walk.step.Goals as goal

pub reserve-requires : goal.reserve-requires
reserve-requires c = enabled_of c.args.self.now.machine.kept c.args.self.now.ends.items (label_of c.args.label.now) c.requires.taking

pub step-requires-clause-enabled : goal.step-requires-clause-enabled
step-requires-clause-enabled c =
    let m = c.args.self.now.machine.kept in
    let l = label_of c.args.label.now in
    keeps_enabled m c.reserve.new.self.kept c.reserve.ensures.keeps c.reserve.ensures.plan l (enabled_of m c.args.self.now.ends.items l c.requires.taking)

pub returns-clause-leads : goal.returns-clause-leads
returns-clause-leads c =
    let m = c.args.self.now.machine.kept in
    let m' = c.step.new.self.kept in
    let l = label_of c.args.label.now in
    calm_leads m m' c.args.self.now.ends.items l (step_is_calm c.args.label.now.act c.requires.kind) (keeps_takes m c.reserve.new.self.kept c.reserve.ensures.keeps c.reserve.ensures.plan l m' c.step.ensures.takes) (c.step.ensures.plan ∙ c.reserve.ensures.plan)
