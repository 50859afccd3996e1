use Rattle.std.proofs.Common.{◌∙◌, sym, ap}
use Rattle.std.specs.Prelude.{option_map}
use Rattle.wave_labels.specs.Labels.{label_of}
use Rattle.wave_drives.proofs.Picking.{last_is}
use Rattle.wave_drives.proofs.rules.last.Goals as goal

pub returns : goal.returns
returns c = ap (option_map label_of) (c.copied.ensures ∙ c.last.ensures.value) ∙ sym (last_is c.args.labels.now)
