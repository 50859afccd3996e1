use Rattle.std.proofs.Common.{◌≡◌, ◌<◌, inl, inr, None, refl, sym, ◌∙◌, ap, subst}
use Rattle.wave_states.specs.Canonical.{enabled_labels}
use Rattle.wave_states.specs.Labels.{Label}
use Rattle.wave_states.specs.Runs.{Finished}
use Rattle.wave_states.specs.Steps.{step}
use Rattle.plan_actors.specs.PlanActors.{plan_actors}
use Rattle.plan_actors.specs.Plans.{Plan, Setting, Fits, FitsStart, begin_in}
use Rattle.plan_actors.proofs.Meeting.{plan_fits, begin_fits}
use Rattle.plan_actors.proofs.Owing.{setting_of}
use Rattle.wave_theory.proofs.Basics.{none_not}
use Rattle.wave_effects.specs.Machines.{IsReached}
use Rattle.wave_board.specs.Always.{the_plan}
use Rattle.wave_board.specs.Boards.{labels_of}
use Rattle.wave_board.proofs.Segments.{not_enabled, some_out}
use Rattle.wave_board.proofs.always.workers_wait_for_segments.Goals as goal

pub returns : goal.returns
returns c = λ o b s worker h may unfinished nothing.
    let p = the_plan o in
    let fits = subst Fits h.plan h.fits in
    let begins = subst (λ (q : Plan). FitsStart q o.start.now) h.plan h.begins in
    let reached = subst (λ (q : Plan). IsReached q o.start.now (labels_of b) s) h.plan h.reached in
    let k : Setting = setting_of p.program fits.fit fits.verified p.script.hosts in
    let from = begin_in p o.start.now in
    let starts = begin_fits p fits o.start.now begins in
    let jobs = plan_fits p fits in
    let own : worker.0 < p.workers = subst (λ (q : Plan). worker.0 < q.workers) h.plan may.is_worker in
    let idle : s.hands worker.0 ≡ None = c.idle_hands_are_empty.ensures b o s worker.0 h may.gave in
    let none : (l : Label) → l.worker ≡ worker.0 → step (plan_actors p.program) p.workers s l ≡ None =
    subst (λ (q : Plan). (l : Label) → l.worker ≡ worker.0 → step (plan_actors q.program) q.workers s l ≡ None) h.plan nothing in
    let ends = c.empty_at_end.ensures k p.workers from p.script.batches starts jobs (labels_of b) s reached in
    let lists = c.lists_are_exact.ensures k p.workers from p.script.batches starts jobs (labels_of b) s reached in
    let stuck = c.never_stuck.ensures k p.workers from p.script.batches starts jobs (labels_of b) s reached in
    let out = some_out (plan_actors p.program) p.workers s worker.0 own idle none (enabled_labels (plan_actors p.program) p.workers p.script.hosts s)
    (λ l i. ((lists l).0 i).0)
    (λ empty. unfinished (subst (λ (q : Plan). Finished (plan_actors q.program) q.workers s) (sym h.plan) (ends.0 empty))) in
    record {
      someone = (out.1.ticket, record { out = record { worker = out.0; hand = out.1; there = out.2; of_ticket = refl }; other = λ same. none_not (sym idle ∙ ap s.hands (sym same) ∙ out.2) });
      none_younger = λ n uncommitted.
          let x = stuck worker.0 n own idle uncommitted in
          elim x.2 [
            | inl can ↦ absurd (not_enabled (plan_actors p.program) p.workers s worker.0 own idle none (record { worker = worker.0; host = can.host; act = can.act }) refl can.enabled)
            | inr there ↦ (x.0, x.1, record { out = there; other = λ same. none_not (sym idle ∙ ap s.hands (sym same) ∙ there.there) })
          ];
    }
