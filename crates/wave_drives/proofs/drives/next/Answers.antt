use Rattle.std.proofs.Common.{◌∙◌, map, sym, ap}
use Rattle.wave_labels.specs.Labels.{label_of}
use Rattle.wave_drives.specs.Rules.{rule_of}
use Rattle.wave_drives.proofs.drives.next.Goals as goal

pub returns : goal.returns
returns c = λ start s stands.
    let same = ap (map label_of) c.as_slice.ensures ∙ c.in_ok-labels.ensures start s stands in
    ap (rule_of c.args.rule c.args.draw.now s) (sym same) ∙ c.pick.ensures start s stands same
