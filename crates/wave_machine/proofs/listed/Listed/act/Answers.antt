use Rattle.std.proofs.Common.{◌∙◌, sym, ap, subst}
use Rattle.wave_labels.specs.Labels.{label_of}
use Rattle.wave_effects.specs.declared.engine.Engine.{Engine}
use Rattle.wave_effects.specs.Keeping.{kept_of}
use Rattle.wave_effects.specs.Machines.{Takes}
use Rattle.wave_machine.proofs.Births.{queue_born}
use Rattle.wave_machine.proofs.Comings.{alone_here}
use Rattle.wave_machine.proofs.Grows.{admit_grows}
use Rattle.wave_machine.proofs.KeptMails.{mails_taken, numbered_stood}
use Rattle.wave_effects.proofs.Labelled.{stood_after}
use Rattle.wave_machine.proofs.Untouched.{taken_done}
use Rattle.wave_machine.proofs.listed.Listed.act.Goals as goal

pub update-requires : goal.update-requires
update-requires c =
    let x = c.args.self.now in
    let m = kept_of x.engine in
    let m' = kept_of c.act.new.self in
    let l = label_of c.args.label.now in
    let on = c.requires.enabled in
    let stood = stood_after m m' c.args.label.now on c.act.ensures.takes in (
      m,
      0,
      record {
        taken = record {
          stands = (stood.start, stood.state, stood.stands);
          moves = c.act.ensures.moves;
          mails = mails_taken c.states_are_known.ensures m m' l on c.act.ensures.takes;
          numbered = numbered_stood c.states_are_known.ensures m (record { start = on.start; state = on.state; stands = on.stands });
          grows = admit_grows m l on;
          sees = c.look_at-seen.ensures;
          alone = alone_here c.states_list.ensures.can m m' l 0 (record { start = on.start; state = on.state; stands = on.stands }) stood c.act.ensures.moves;
          born = queue_born m m' l 0 on (c.states_list.ensures.can m.plan on.start on.stands.labels on.state on.stands.fits on.stands.begins on.stands.reached) c.act.ensures.takes c.act.ensures.moves;
        };
        index = c.requires.listed.index;
        done = taken_done c.done_stays.ensures m m' x.done c.requires.listed.done l on c.act.ensures.takes;
        weight = c.requires.listed.weight;
        room = record { room = c.requires.room.room; fits = c.requires.room.fits };
      },
    )

pub returns-clause-takes : goal.returns-clause-takes
returns-clause-takes c = subst (λ (e : Engine). Takes (kept_of c.args.self.now.engine) (kept_of e) (label_of c.args.label.now)) (sym c.update.ensures.engine) c.act.ensures.takes

pub returns-clause-plan : goal.returns-clause-plan
returns-clause-plan c = ap (λ (e : Engine). e.plan) c.update.ensures.engine ∙ c.act.ensures.plan
