use Rattle.std.proofs.Common.{◌≡◌, ℕ, suc, ◌<◌, List, [], ◌∷◌, ◌++◌, Some, arith}
use Rattle.wave_base.specs.declared.start.Start.{Start}
use Rattle.wave_states.specs.Begins.{start_state}
use Rattle.wave_states.specs.Labels.{Label}
use Rattle.wave_states.specs.Runs.{run}
use Rattle.wave_states.specs.Owes.{IsPlan}
use Rattle.plan_actors.specs.PlanActors.{plan_actors, plan_kind}
use Rattle.plan_actors.specs.Plans.{Plan, Fits, FitsStart, Setting, begin_in}
use Rattle.plan_actors.proofs.Meeting.{plan_fits, begin_fits}
use Rattle.plan_actors.proofs.Owing.{setting_of}
use Rattle.wave_effects.specs.Machines.{TheState}
use Rattle.wave_machine.specs.inner.Listable.{CanList}
use Rattle.wave_effects.proofs.Taking.{run_more}
use Rattle.wave_machine.proofs.Widened.{run_wider, with_workers}
use Rattle.wave_machine.proofs.listable.states_list.Goals as goal

pub returns : goal.returns
returns c = record {
  can = λ plan start labels s fits begins reached. by plan start fits begins plan.workers fits.some_worker labels s reached;
  more = λ plan start labels s fits begins reached. by plan start fits begins (suc plan.workers) (omega arith) labels s (run_wider (plan_actors plan.program) plan.workers labels (start_state (begin_in plan start) plan.script.batches) s reached);
}
  where
    -- the laws hold for each number of workers
    by : (plan : Plan) (start : Start) → Fits plan → FitsStart plan start → (n : ℕ) → 0 < n → (labels : List Label) (s : TheState) → run (plan_actors plan.program) n (start_state (begin_in plan start) plan.script.batches) labels ≡ Some s → CanList (with_workers plan n) start s
    by plan start fits begins n some labels s reached =
        let k : Setting = setting_of plan.program fits.fit fits.verified plan.script.hosts in
        let b = begin_in plan start in
        let is_begin = begin_fits plan fits start begins in
        let jobs = plan_fits plan fits in
        let is_plan : IsPlan (plan_kind plan.program plan.script.hosts) n plan.script.batches = record { some_host = jobs.some_host; some_worker = some; jobs = jobs.jobs } in
        record {
          doable = c.doable.ensures k n b plan.script.batches is_begin is_plan labels s reached;
          stoppable = c.stoppable.ensures k n b plan.script.batches is_begin is_plan labels s reached;
          owner = c.one_owner.ensures k n b plan.script.batches is_begin is_plan labels s reached;
          trails = c.trails.ensures k n b plan.script.batches is_begin is_plan labels s reached;
          known = record {
            bounds = c.bounds.ensures k n b plan.script.batches is_begin is_plan labels s reached;
            agree = c.agree.ensures k n b plan.script.batches is_begin is_plan labels s reached;
          };
          next = λ l s' e.
              let further = run_more (plan_actors plan.program) n labels (start_state b plan.script.batches) s s' l reached e in
              record {
                bounds = c.bounds.ensures k n b plan.script.batches is_begin is_plan (labels ++ l ∷ []) s' further;
                agree = c.agree.ensures k n b plan.script.batches is_begin is_plan (labels ++ l ∷ []) s' further;
              };
        }
