use Rattle.std.proofs.Common.{◌≡◌, ◌∙◌, [], map, sym, ap, subst}
use Rattle.wave_labels.specs.Labels.{label_of}
use Rattle.wave_theory.specs.Listed.{IsIn}
use Rattle.wave_machine.specs.declared.ready.Ready.{Ready}
use Rattle.wave_effects.specs.Keeping.{kept_of}
use Rattle.wave_machine.specs.inner.Index.{by_none}
use Rattle.wave_machine.proofs.Bridged.{in_mapped, taken_is, with_worker}
use Rattle.wave_machine.proofs.listed.Listed.some_for.Goals as goal

pub returns-in-Some : goal.returns-in-Some
returns-in-Some c = λ start s stands.
    let m = kept_of c.args.self.now.engine in
    let index = c.args.self.now.index.items in
    let w = c.args.worker.0 in
    let list = c.states_list.ensures.can m.plan start stands.labels s stands.fits stands.begins stands.reached in
    let is = taken_is w m c.requires.idle start s stands.shows list index c.requires.listed.index in
    let picked : IsIn index c.in-Some.ready.now = subst (λ xs. IsIn xs c.in-Some.ready.now) c.deref.ensures.value c.in-Some.ensures in
    subst (λ ls. IsIn ls (label_of c.by.result)) is
    (subst (IsIn (map (λ (r : Ready). with_worker w (by_none r)) index)) (sym (ap label_of c.by.ensures)) (in_mapped (λ (r : Ready). with_worker w (by_none r)) index c.in-Some.ready.now picked))

pub returns-in-None : goal.returns-in-None
returns-in-None c = λ start s stands.
    let m = kept_of c.args.self.now.engine in
    let index = c.args.self.now.index.items in
    let w = c.args.worker.0 in
    let list = c.states_list.ensures.can m.plan start stands.labels s stands.fits stands.begins stands.reached in
    let is = taken_is w m c.requires.idle start s stands.shows list index c.requires.listed.index in
    let none : index ≡ [] = sym c.deref.ensures.value ∙ c.in-None.ensures in
    sym is ∙ ap (map (λ (r : Ready). with_worker w (by_none r))) none
