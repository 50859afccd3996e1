use Rattle.std.proofs.Common.{◌≡◌, ◌∙◌, sym, ap, subst}
use Rattle.std.specs.Prelude.{IfOk}
use Rattle.wave_base.specs.declared.start.Start.{Start}
use Rattle.wave_base.specs.Starts.{IsStart, first_start}
use Rattle.script_fold.proofs.StartLemmas.{first_fits}
use Rattle.service_code.specs.declared.program.Program.{Program}
use Rattle.wave_states.specs.Begins.{start_state}
use Rattle.plan_actors.specs.Plans.{begin_in}
use Rattle.wave_effects.specs.Machines.{Stands}
use Rattle.wave_effects.specs.Plans.{plan_of}
use Rattle.wave_machine.specs.Prepared.{Shown}
use Rattle.wave_machine.proofs.machine.Machine.new.Goals as goal

pub new_at-requires-clause-begins : goal.new_at-requires-clause-begins
new_at-requires-clause-begins c =
    let shape = c.args.plan.now.program.shape in
    let start_is : c.in_ok-start.start ≡ first_start shape = c.in_ok-start.ensures ∙ ap (λ (p : Program). first_start p.shape) c.program.ensures.program in
    subst (IsStart shape c.args.plan.now.script.hosts) (sym start_is) (first_fits shape c.args.plan.now.script.hosts (c.trees_that_fit.ensures.first shape c.requires.fit.shape) c.requires.script.some_host)

pub returns-clause-stands : goal.returns-clause-stands
returns-clause-stands c =
    let shape = c.args.plan.now.program.shape in
    let start_is : c.in_ok-start.start ≡ first_start shape = c.in_ok-start.ensures ∙ ap (λ (p : Program). first_start p.shape) c.program.ensures.program in
    subst (λ (st : Start). IfOk c.new_at.result (λ (m : Shown). Stands m.kept st (start_state (begin_in (plan_of c.args.plan.now) st) c.args.plan.now.script.batches))) start_is c.new_at.ensures.stands
