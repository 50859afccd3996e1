use Rattle.std.proofs.Common.{◌≡◌, ◌∙◌, Some, None, is_none, sym, ap, subst, true≢false}
use Rattle.std.specs.Prelude.{◌↔◌, IsTrue, List, option_map, slice_get}
use Rattle.wave_labels.specs.Labels.{act_of, label_of}
use Rattle.wave_theory.specs.Listed.{IsIn}
use Rattle.wave_machine.specs.declared.ready.Ready.{Ready}
use Rattle.wave_effects.specs.Keeping.{kept_of}
use Rattle.wave_machine.proofs.Halves.{InOrder}
use Rattle.wave_machine.proofs.Offered.{busy_can, idle_can, idle_order, nobody_can}
use Rattle.wave_machine.proofs.listed.Listed.can_take.Goals as goal

pub returns-in-Some-Some : goal.returns-in-Some-Some
returns-in-Some-Some c = λ start s stands.
    let m = kept_of c.args.self.now.engine in
    let l = c.args.label.now in
    let list = c.states_list.ensures.can m.plan start stands.labels s stands.fits stands.begins stands.reached in
    let take = c.states_take.ensures m.plan start stands.labels s stands.fits stands.begins stands.reached in
    let can = busy_can m start s stands.shows list take l.worker.0 l.host.0 c.in-Some-Some.out (sym c.in-Some-Some.ensures ∙ ap Some c.in-Some-Some.field-0-is) (act_of l.act) in
    (λ e. can.0 (sym c.is_stop_of.ensures ∙ e), λ e. c.is_stop_of.ensures ∙ can.1 e)

pub returns-in-Some-None : goal.returns-in-Some-None
returns-in-Some-None c = λ start s stands.
    let m = kept_of c.args.self.now.engine in
    let l = c.args.label.now in
    let list = c.states_list.ensures.can m.plan start stands.labels s stands.fits stands.begins stands.reached in
    let take = c.states_take.ensures m.plan start stands.labels s stands.fits stands.begins stands.reached in
    let index = c.args.self.now.index.items in
    let idle : slice_get m.hands l.worker.0 ≡ Some None = sym c.in-Some-None.ensures ∙ ap Some c.in-Some-None.field-0-is in
    let can = idle_can m start s stands.shows list take c.labels_tell.ensures index c.requires.index l idle in
    let ready : Ready = record { host = l.host; act = l.act } in
    let has : IsTrue c.has.result ↔ IsIn index ready =
    subst (λ (xs : List Ready). InOrder xs → IsTrue c.has.result ↔ IsIn xs ready) c.deref.ensures.value c.has.ensures (idle_order m start s stands.shows list take c.labels_tell.ensures index c.requires.index l idle) in
    (λ e. can.0 (has.0 e), λ e. has.1 (can.1 e))

pub returns-in-None : goal.returns-in-None
returns-in-None c = λ start s stands.
    let m = kept_of c.args.self.now.engine in
    let l = c.args.label.now in
    let list = c.states_list.ensures.can m.plan start stands.labels s stands.fits stands.begins stands.reached in
    let take = c.states_take.ensures m.plan start stands.labels s stands.fits stands.begins stands.reached in
    (λ e. absurd (true≢false (sym e)), λ e. absurd (nobody_can m start s stands.shows list take (label_of l) (ap (option_map is_none) c.in-None.ensures) e))
