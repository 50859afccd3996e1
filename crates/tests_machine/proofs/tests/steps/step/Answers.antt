use Rattle.wave_labels.specs.Labels.{label_of}
use Rattle.wave_drives.proofs.Driven.{keeps_enabled}
use Rattle.tests_machine.proofs.tests.steps.step.Goals as goal

pub step-requires-clause-enabled : goal.step-requires-clause-enabled
step-requires-clause-enabled c = keeps_enabled c.args.machine.now.kept c.reserve.new.self.kept c.reserve.ensures.keeps c.reserve.ensures.plan (label_of c.args.label.now) c.requires.enabled
