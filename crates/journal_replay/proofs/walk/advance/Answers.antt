use Rattle.std.proofs.Common.{◌≡◌, ◌∙◌, List, suc, Some, drop, length, map, refl, sym, subst, take, true≢false, arith}
use Rattle.std.specs.Prelude.{min, slice_get}
use Rattle.std.proofs.lemmas.List.{length-take}
use Rattle.std.proofs.lemmas.Option.{slice_get_read}
use Rattle.wave_base.specs.Starts.{first_start}
use Rattle.wave_labels.specs.declared.label.Label.{Label}
use Rattle.wave_labels.specs.Labels.{label_of}
use Rattle.wave_states.specs.Canonical.{enabled_labels}
use Rattle.plan_actors.specs.PlanActors.{plan_actors}
use Rattle.plan_actors.specs.Plans.{Plan}
use Rattle.wave_effects.specs.Plans.{plan_of}
use Rattle.wave_effects.proofs.Placing.{take_next}
use Rattle.journal_replay.specs.inner.Walks.{IsWalking}
use Rattle.journal_replay.proofs.Walking.{is_taking, no_step, parts_at, walks_on}
use Rattle.journal_replay.proofs.walk.advance.Goals as goal

pub take-requires-clause-taking : goal.take-requires-clause-taking
take-requires-clause-taking c =
    let p = plan_of c.args.plan.now in
    let d = c.requires.walking in
    is_taking p c.args.walk.now (take c.args.i c.args.journal.now) d c.index-journal-i.result ((c.can_take.ensures (first_start p.program.shape) d.state d.under.stands).0 c.if-can_take.true)

pub returns-then-can_take-clause-walking : goal.returns-then-can_take-clause-walking
returns-then-can_take-clause-walking c =
    let p = plan_of c.args.plan.now in
    let d = c.requires.walking in
    let journal = c.args.journal.now in
    let label = c.index-journal-i.result in
    let at : slice_get journal c.args.i ≡ Some label = slice_get_read journal _ c.args.i label refl c.requires.within c.index-journal-i.is in
    subst (λ (ls : List Label). IsWalking p ls c.take.new.self) (sym (take_next journal c.args.i label at))
    (walks_on p c.args.walk.now (take c.args.i journal) d label ((c.can_take.ensures (first_start p.program.shape) d.state d.under.stands).0 c.if-can_take.true) c.take.new.self c.in_ok-take.ensures.leads c.take.ensures.plan)

pub returns-clause-stops : goal.returns-clause-stops
returns-clause-stops c =
    let p = plan_of c.args.plan.now in
    let d = c.requires.walking in
    let journal = c.args.journal.now in
    let i = c.args.i in
    let label = c.index-journal-i.result in
    let at : slice_get journal i ≡ Some label = slice_get_read journal _ i label refl c.requires.within c.index-journal-i.is in
    let short : length (take i journal) ≡ min i (length journal) = length-take i journal in
    record {
      before = take i journal;
      after = drop (suc i) journal;
      parts = parts_at journal i label at;
      place = omega (arith, short, c.requires.within);
      state = d.state;
      run = d.run;
      refused = no_step p c.args.walk.now (take i journal) d label (λ e. true≢false (sym ((c.can_take.ensures (first_start p.program.shape) d.state d.under.stands).1 e) ∙ c.if-can_take.false));
      listed = subst (λ (q : Plan). map label_of c.in_ok-enabled.enabled ≡ enabled_labels (plan_actors q.program) q.workers q.script.hosts d.state) d.same (c.in_ok-enabled.ensures (first_start p.program.shape) d.state d.under.stands);
    }
