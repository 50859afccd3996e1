use Rattle.std.proofs.Common.{◌∙◌, suc, sym, ap, subst}
use Rattle.std.specs.Prelude.{All, length, sum_by, ◌+◌, ◌≤◌, ◌^◌}
use Rattle.wave_base.specs.declared.script.Line.{Line}
use Rattle.wave_base.specs.Fold.{Head}
use Rattle.script_fold.specs.Lines.{FitsJob}
use Rattle.code_actor.specs.CodeActors as code
use Rattle.wave_states.specs.Begins.{start_state}
use Rattle.plan_actors.specs.PlanActors.{plan_actors}
use Rattle.plan_actors.specs.Plans.{Setting, begin_in}
use Rattle.plan_actors.proofs.Meeting.{plan_fits, begin_fits, folds_meet, good, one_before}
use Rattle.plan_actors.proofs.Owing.{setting_of}
use Rattle.wave_effects.proofs.Before.{run_before}
use Rattle.wave_effects.proofs.known.heads_are_known.Goals as goal

pub returns : goal.returns
returns c = λ plan start labels s fits begins reached.
    let k : Setting = setting_of plan.program fits.fit fits.verified plan.script.hosts in
    let law = c.tickets.ensures k plan.workers (begin_in plan start) plan.script.batches (begin_fits plan fits start begins) (plan_fits plan fits) labels s reached in
    let same = ap (λ w. w.head) (folds_meet plan fits start begins s.head.done) in
    record {
      first = ap suc (run_before (plan_actors plan.program) plan.workers labels (start_state (begin_in plan start) plan.script.batches) s reached) ∙ one_before start.next.0 begins.first_next;
      head = law.head_is;
      in_time = law.in_time;
      jobs = subst (λ (h : Head Line). All (FitsJob (code.IsJob plan.program)) h.known) (sym (law.head_is ∙ same)) (good plan fits start begins s.head.done).known;
      room = subst (λ (h : Head Line). start.next.0 + length h.known + sum_by length h.later ≤ 2 ^ 32) (sym law.head_is) (c.tickets_fit.ensures plan start s.head.done fits begins);
    }
