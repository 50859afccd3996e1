use Rattle.std.proofs.Common.{◌≡◌, ◌∙◌, ◌++◌, ◌-◌, ◌<◌, List, ◌∷◌, [], length, map, sym, ap, subst, arith}
use Rattle.std.specs.Prelude.{option_map}
use Rattle.std.proofs.lemmas.List.{length-append, length-map, map-append}
use Rattle.wave_states.specs.Canonical.{enabled_labels}
use Rattle.wave_states.specs.Labels.{Label}
use Rattle.wave_states.specs.Runs.{Finished}
use Rattle.wave_labels.specs.Labels.{label_of}
use Rattle.plan_actors.specs.Efforts.{most_labels}
use Rattle.plan_actors.specs.Plans.{Fits, FitsStart, Plan, Setting, begin_in}
use Rattle.plan_actors.specs.PlanActors.{plan_actors}
use Rattle.plan_actors.proofs.Meeting.{plan_fits, begin_fits}
use Rattle.plan_actors.proofs.Owing.{setting_of}
use Rattle.wave_effects.specs.Plans.{plan_of}
use Rattle.wave_drives.specs.Rules.{rule_number, rule_of}
use Rattle.wave_drives.specs.inner.Driving.{IsDriving, first_state}
use Rattle.wave_drives.proofs.Driven.{drive_done, drive_run, driving_more, next_taking, nothing_left}
use Rattle.wave_drives.proofs.drives.drive_on.Goals as goal

pub take-requires-clause-taking : goal.take-requires-clause-taking
take-requires-clause-taking c =
    let d = c.loop-labels.invariant in
    let m = c.loop-labels.walk.machine.kept in
    let st = d.under.stands in
    let can = c.states_drive.ensures m.plan c.args.start.now st.labels d.state st.fits st.begins st.reached in
    let picks = c.in_ok-label.ensures c.args.start.now d.state st ∙ ap (λ o. (c.next.new.draw, option_map label_of o)) c.in-Some.is in
    next_taking c.rules_pick.ensures m c.loop-labels.walk.ends.items c.args.start.now c.args.rule c.loop-labels.draw c.next.new.draw d.state d.under can (label_of c.in-Some.label) picks

pub take-requires-clause-plan : goal.take-requires-clause-plan
take-requires-clause-plan c = c.loop-labels.invariant.same

pub loop-labels-preserved : goal.loop-labels-preserved
loop-labels-preserved c =
    let d = c.loop-labels.invariant in
    let m = c.loop-labels.walk.machine.kept in
    let st = d.under.stands in
    let can = c.states_drive.ensures m.plan c.args.start.now st.labels d.state st.fits st.begins st.reached in
    let picks = c.in_ok-label.ensures c.args.start.now d.state st ∙ ap (λ o. (c.next.new.draw, option_map label_of o)) c.in-Some.is in
    let before = map label_of c.loop-labels.labels.items in
    let l = label_of c.in-Some.label in
    let more = driving_more c.rules_pick.ensures m c.take.new.self.machine.kept (plan_of c.args.plan.now) c.args.start.now c.args.rule c.loop-labels.draw c.next.new.draw before c.loop-labels.walk.ends.items c.take.new.self.ends.items l d can picks c.in_ok-take.ensures.leads c.take.ensures.plan in
    let same : map label_of c.push.new.labels.items ≡ before ++ l ∷ [] = ap (map label_of) c.in_ok-push.ensures ∙ map-append label_of c.loop-labels.labels.items (c.in-Some.label ∷ []) in
    subst (λ (ls : List Label). IsDriving c.take.new.self.machine.kept (plan_of c.args.plan.now) c.args.start.now c.args.rule c.next.new.draw ls c.take.new.self.ends.items) (sym same) more

pub returns-clause-driven : goal.returns-clause-driven
returns-clause-driven c =
    let d = c.loop-labels.invariant in
    let m = c.loop-labels.walk.machine.kept in
    let st = d.under.stands in
    let p = (plan_of c.args.plan.now) in
    let can = c.states_drive.ensures m.plan c.args.start.now st.labels d.state st.fits st.begins st.reached in
    let picks = c.in_ok-label.ensures c.args.start.now d.state st ∙ ap (λ o. (c.next.new.draw, option_map label_of o)) c.in_default.is in
    let none = nothing_left c.rules_pick.ensures m c.loop-labels.walk.ends.items c.args.start.now c.args.rule c.loop-labels.draw c.next.new.draw d.state d.under can picks in
    drive_done (plan_actors p.program) p.workers p.script.hosts (rule_of c.args.rule) (map label_of c.loop-labels.labels.items) (rule_number c.args.rule) (first_state p c.args.start.now) c.loop-labels.draw d.state d.drives
    (subst (λ (q : Plan). enabled_labels (plan_actors q.program) q.workers q.script.hosts d.state ≡ []) d.same none)

pub returns-clause-finished : goal.returns-clause-finished
returns-clause-finished c =
    let d = c.loop-labels.invariant in
    let m = c.loop-labels.walk.machine.kept in
    let st = d.under.stands in
    let p = (plan_of c.args.plan.now) in
    let can = c.states_drive.ensures m.plan c.args.start.now st.labels d.state st.fits st.begins st.reached in
    let picks = c.in_ok-label.ensures c.args.start.now d.state st ∙ ap (λ o. (c.next.new.draw, option_map label_of o)) c.in_default.is in
    let none = nothing_left c.rules_pick.ensures m c.loop-labels.walk.ends.items c.args.start.now c.args.rule c.loop-labels.draw c.next.new.draw d.state d.under can picks in
    let k : Setting = setting_of m.plan.program st.fits.fit st.fits.verified m.plan.script.hosts in
    let done = (c.empty_at_end.ensures k m.plan.workers (begin_in m.plan c.args.start.now) m.plan.script.batches (begin_fits m.plan st.fits c.args.start.now st.begins) (plan_fits m.plan st.fits) st.labels d.state st.reached).0 none in
    (d.state, st, subst (λ (q : Plan). Finished (plan_actors q.program) q.workers d.state) d.same done)

pub returns-clause-plan : goal.returns-clause-plan
returns-clause-plan c = c.loop-labels.invariant.same

pub loop-labels-smaller : goal.loop-labels-smaller
loop-labels-smaller c =
    let p = (plan_of c.args.plan.now) in
    let start = c.args.start.now in
    let before = map label_of c.loop-labels.labels.items in
    let l = label_of c.in-Some.label in
    let d = c.loop-labels.invariant in
    let m = c.loop-labels.walk.machine.kept in
    let st = d.under.stands in
    let can = c.states_drive.ensures m.plan start st.labels d.state st.fits st.begins st.reached in
    let picks = c.in_ok-label.ensures start d.state st ∙ ap (λ o. (c.next.new.draw, option_map label_of o)) c.in-Some.is in
    let more = driving_more c.rules_pick.ensures m c.take.new.self.machine.kept p start c.args.rule c.loop-labels.draw c.next.new.draw before c.loop-labels.walk.ends.items c.take.new.self.ends.items l d can picks c.in_ok-take.ensures.leads c.take.ensures.plan in
    let all = before ++ l ∷ [] in
    let runs = drive_run (plan_actors p.program) p.workers p.script.hosts (rule_of c.args.rule) all (rule_number c.args.rule) (first_state p start) c.next.new.draw more.state more.drives in
    let fits = subst (λ (q : Plan). Fits q) c.requires.plan c.requires.under.stands.fits in
    let begins = subst (λ (q : Plan). FitsStart q start) c.requires.plan c.requires.under.stands.begins in
    let most = c.runs_are_short.ensures.most p start fits begins all more.state runs in
    let old = length-map c.loop-labels.labels.items label_of in
    let long = length-append before (l ∷ []) in
    let new = ap length c.in_ok-push.ensures ∙ length-append c.loop-labels.labels.items (c.in-Some.label ∷ []) in
    let smaller : most_labels p start - length c.push.new.labels.items < most_labels p start - length c.loop-labels.labels.items = omega (arith, most, old, long, new) in
    smaller
