use Rattle.std.proofs.Common.{length, refl, subst, take}
use Rattle.std.specs.Prelude.{◌↔◌, IsTrue}
use Rattle.std.proofs.Math.Seq.{take-length}
use Rattle.wave_base.specs.Starts.{first_start}
use Rattle.wave_states.specs.Runs.{Finished}
use Rattle.plan_actors.specs.PlanActors.{plan_actors}
use Rattle.plan_actors.specs.Plans.{Plan}
use Rattle.wave_effects.specs.Plans.{plan_of}
use Rattle.journal_replay.specs.declared.replaying.Replayed.{Replayed}
use Rattle.journal_replay.specs.Replays.{IsReplay, LeadsTo}
use Rattle.journal_replay.specs.inner.Walks.{IsWalking}
use Rattle.journal_replay.proofs.Unique.{replay_is_one}
use Rattle.journal_replay.proofs.replaying.walk_through.Goals as goal

pub returns-clause-only : goal.returns-clause-only
returns-clause-only c =
    let p = plan_of c.args.plan.now in
    let start = first_start p.program.shape in
    let journal = c.args.journal.now in
    let count = length journal in
    let shown = c.min-shown.result in
    let seen : IsWalking p (take shown journal) c.go.new.walk = c.in_ok-go.ensures.walking in
    let done : IsWalking p (take count journal) c.go-2.new.walk = c.in_ok-go-2.ensures.walking in
    let r : Replayed = record { steps = count; finished = c.is_finished.result; shown = shown; glance = c.in_ok-glance.glance } in
    let whole : LeadsTo p journal done.state = subst (λ ls. LeadsTo p ls done.state) (take-length journal) done.run in
    let ended = subst (λ (q : Plan). IsTrue c.is_finished.result ↔ Finished (plan_actors q.program) q.workers done.state) done.same (c.is_finished.ensures start done.state done.under.stands) in
    let h : IsReplay p journal c.args.show r = record {
      steps = refl;
      last = done.state;
      run = whole;
      finished = ended;
      shown = c.min-shown.ensures;
      state = seen.state;
      seen = seen.run;
      glance = c.in_ok-glance.ensures start seen.state seen.under.stands;
    } in
    (h, replay_is_one p journal c.args.show r h (c.contexts_have_owners.ensures.one c.go.new.walk.machine.kept start seen.state seen.under.stands).one)
