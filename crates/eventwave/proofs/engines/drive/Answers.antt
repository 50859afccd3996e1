use Rattle.std.proofs.Common.{◌∙◌, map, subst, sym}
use Rattle.wave_labels.specs.Labels.{label_of}
use Rattle.wave_effects.specs.Plans.{plan_of}
use Rattle.due_parts.specs.Runs.{IsDriveBy}
use Rattle.due_parts.proofs.RunLemmas.{drive_finished}
use Rattle.eventwave.proofs.engines.drive.Goals as goal

pub returns : goal.returns
returns c =
    let plan = plan_of c.args.plan.now in
    let driven = subst (λ ls. IsDriveBy c.args.rule plan c.args.start.now (map label_of ls)) (sym (c.in_ok-journal.ensures ∙ c.as_slice.ensures)) c.in_ok-done.ensures.driven in
    λ workers. record {
      done = c.in_ok-done.ensures.told;
      journal = driven;
      run = drive_finished c.rules_pick.ensures c.plans_drive.ensures plan c.args.start.now c.requires.fits c.requires.begins c.args.rule (map label_of c.in_ok-journal.journal) driven;
    }
