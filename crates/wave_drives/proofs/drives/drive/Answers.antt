use Rattle.std.proofs.Common.{◌≡◌, ◌∙◌, sym, ap, subst}
use Rattle.std.specs.Prelude.{IfOk, map}
use Rattle.wave_base.specs.Starts.{IsStart, first_start}
use Rattle.wave_base.specs.declared.start.Start.{Start}
use Rattle.script_fold.proofs.StartLemmas.{first_fits}
use Rattle.script_fold.specs.Runs.{finished_of}
use Rattle.service_code.specs.declared.program.Program.{Program}
use Rattle.wave_labels.specs.Labels.{label_of}
use Rattle.wave_states.specs.Begins.{start_state}
use Rattle.wave_states.specs.Runs.{IsDrive}
use Rattle.plan_actors.specs.Calls.{code_ran}
use Rattle.plan_actors.specs.PlanActors.{plan_actors}
use Rattle.plan_actors.specs.Plans.{begin_in}
use Rattle.wave_effects.specs.Lengths.{IsMeasured}
use Rattle.wave_effects.specs.Plans.{plan_of}
use Rattle.wave_drives.specs.Rules.{rule_of}
use Rattle.wave_drives.specs.declared.rules.PickRule.TheVariants.{Seed}
use Rattle.wave_drives.proofs.drives.drive.Goals as goal

pub drive_at-requires-clause-begins : goal.drive_at-requires-clause-begins
drive_at-requires-clause-begins c =
    let shape = c.args.plan.now.program.shape in
    let start_is : c.in_ok-start.start ≡ first_start shape = c.in_ok-start.ensures ∙ ap (λ (p : Program). first_start p.shape) c.program.ensures.program in
    subst (IsStart shape c.args.plan.now.script.hosts) (sym start_is) (first_fits shape c.args.plan.now.script.hosts (c.trees_that_fit.ensures.first shape c.requires.fit.shape) c.requires.script.some_host)

pub returns-clause-told : goal.returns-clause-told
returns-clause-told c =
    let plan = c.args.plan.now in
    let start_is : c.in_ok-start.start ≡ first_start plan.program.shape = c.in_ok-start.ensures ∙ ap (λ (p : Program). first_start p.shape) c.program.ensures.program in
    subst (λ (st : Start). IfOk c.drive_at.result (λ r. r.0 ≡ finished_of (code_ran plan.program) plan.program.shape st plan.script)) start_is c.drive_at.ensures.told

pub returns-clause-driven : goal.returns-clause-driven
returns-clause-driven c =
    let plan = c.args.plan.now in
    let start_is : c.in_ok-start.start ≡ first_start plan.program.shape = c.in_ok-start.ensures ∙ ap (λ (p : Program). first_start p.shape) c.program.ensures.program in
    subst
    (λ (st : Start). IfOk c.drive_at.result (λ r. IsDrive (plan_actors plan.program) plan.workers plan.script.hosts (rule_of (Seed c.args.seed)) c.args.seed (start_state (begin_in (plan_of plan) st) plan.script.batches) (map label_of r.1)))
    start_is c.drive_at.ensures.driven

pub returns-clause-measured : goal.returns-clause-measured
returns-clause-measured c =
    let plan = c.args.plan.now in
    let start_is : c.in_ok-start.start ≡ first_start plan.program.shape = c.in_ok-start.ensures ∙ ap (λ (p : Program). first_start p.shape) c.program.ensures.program in
    subst (λ (st : Start). IfOk c.drive_at.result (λ r. IsMeasured (plan_of plan) st (map label_of r.1))) start_is c.drive_at.ensures.measured
