use Rattle.std.proofs.Common.{◌∙◌, map, ap}
use Rattle.wave_states.specs.Canonical.{taken_as}
use Rattle.wave_machine.specs.declared.ready.Ready.{Ready}
use Rattle.wave_effects.specs.Keeping.{kept_of}
use Rattle.wave_machine.specs.Readies.{choice_of}
use Rattle.wave_machine.proofs.Bridged.{choices_are, taken_is}
use Rattle.wave_machine.proofs.listed.Listed.ready.Goals as goal

pub returns : goal.returns
returns c = record {
  ready = λ start s stands.
      let m = kept_of c.args.self.now.engine in
      let list = c.states_list.ensures.can m.plan start stands.labels s stands.fits stands.begins stands.reached in
      let more = c.states_list.ensures.more m.plan start stands.labels s stands.fits stands.begins stands.reached in
      ap (map choice_of) c.as_slice.ensures.value ∙ choices_are m start s stands.shows list more c.args.self.now.index.items c.requires.index;
  taken = λ w start s idle stands.
      let m = kept_of c.args.self.now.engine in
      let list = c.states_list.ensures.can m.plan start stands.labels s stands.fits stands.begins stands.reached in
      ap (map (λ (r : Ready). taken_as w (choice_of r))) c.as_slice.ensures.value
      ∙ taken_is w m idle start s stands.shows list c.args.self.now.index.items c.requires.index;
}
