use Rattle.std.proofs.Common.{◌∙◌, sym, ap, subst}
use Rattle.wave_labels.specs.Labels.{label_of}
use Rattle.wave_effects.specs.declared.engine.Engine.{Engine}
use Rattle.wave_effects.specs.Actors.{MayRun}
use Rattle.wave_effects.specs.Keeping.{kept_of}
use Rattle.wave_effects.specs.Machines.{Takes}
use Rattle.wave_machine.proofs.Births.{begins_not}
use Rattle.wave_machine.proofs.Comings.{alone_here}
use Rattle.wave_machine.proofs.Grows.{admit_grows}
use Rattle.wave_machine.proofs.KeptMails.{mails_taken, numbered_stood}
use Rattle.wave_effects.proofs.Labelled.{stood_after}
use Rattle.wave_machine.proofs.Untouched.{taken_done}
use Rattle.wave_machine.proofs.listed.Listed.act_start.Goals as goal

pub update-requires : goal.update-requires
update-requires c =
    let x = c.args.self.now in
    let m = kept_of x.engine in
    let m' = kept_of c.act_start-lease.new.self in
    let l = label_of c.args.label.now in
    let on = c.requires.enabled in
    let stood = stood_after m m' c.args.label.now on c.act_start-lease.ensures.takes in (
      m,
      0,
      record {
        taken = record {
          stands = (stood.start, stood.state, stood.stands);
          moves = c.act_start-lease.ensures.moves;
          mails = mails_taken c.states_are_known.ensures m m' l on c.act_start-lease.ensures.takes;
          numbered = numbered_stood c.states_are_known.ensures m (record { start = on.start; state = on.state; stands = on.stands });
          grows = admit_grows m l on;
          sees = c.look_at-seen.ensures;
          alone = alone_here c.states_list.ensures.can m m' l 0 (record { start = on.start; state = on.state; stands = on.stands }) stood c.act_start-lease.ensures.moves;
          born = λ queue. absurd (begins_not c.args.label.now.act c.requires.kind queue);
        };
        index = c.requires.listed.index;
        done = taken_done c.done_stays.ensures m m' x.done c.requires.listed.done l on c.act_start-lease.ensures.takes;
        weight = c.requires.listed.weight;
        room = record { room = c.requires.room.room; fits = c.requires.room.fits };
      },
    )

pub returns-clause-takes : goal.returns-clause-takes
returns-clause-takes c = subst (λ (e : Engine). Takes (kept_of c.args.self.now.engine) (kept_of e) (label_of c.args.label.now)) (sym c.update.ensures.engine) c.act_start-lease.ensures.takes

pub returns-clause-plan : goal.returns-clause-plan
returns-clause-plan c = ap (λ (e : Engine). e.plan) c.update.ensures.engine ∙ c.act_start-lease.ensures.plan

pub returns-clause-leases : goal.returns-clause-leases
returns-clause-leases c = c.act_start-lease.ensures.leases

pub returns-clause-may_run : goal.returns-clause-may_run
returns-clause-may_run c = subst (λ (e : Engine). MayRun e.plan.now.program c.act_start-lease.result.actor c.act_start-lease.result.body) (sym c.update.ensures.engine) c.act_start-lease.ensures.may_run
