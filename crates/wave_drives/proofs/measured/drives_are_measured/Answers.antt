use Rattle.std.proofs.Common.{List, sym, subst}
use Rattle.wave_states.specs.Labels.{Label}
use Rattle.wave_effects.specs.Lengths.{IsMeasured}
use Rattle.wave_drives.specs.Rules.{rule_number, rule_of}
use Rattle.wave_drives.proofs.Driven.{picks_of}
use Rattle.wave_drives.proofs.measured.drives_are_measured.Goals as goal

pub returns : goal.returns
returns c = λ plan start fits begins rule labels is_drive.
    let d = c.plans_drive.ensures plan start fits begins (rule_of rule) (picks_of c.rules_pick.ensures rule) (rule_number rule) in
    subst (λ (ls : List Label). IsMeasured plan start ls) (sym (d.only labels is_drive)) (c.runs_are_measured.ensures.finished plan start fits begins d.labels d.state d.is_run d.finished)
