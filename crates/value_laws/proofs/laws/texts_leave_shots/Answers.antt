use Rattle.std.proofs.Common.{subst, sym}
use Rattle.wave_base.specs.Starts.{first_start}
use Rattle.script_reader.specs.Judged.{nothing_earlier}
use Rattle.type_rules.specs.Known.{shape_of}
use Rattle.value_laws.specs.Services.{BoundedService}
use Rattle.value_laws.specs.Values.{BoundedShape}
use Rattle.value_laws.proofs.laws.texts_leave_shots.Goals as goal

pub returns : goal.returns
returns c = λ text lines tree shape service script parses same resolved says fit is.
    let bounded : BoundedShape (shape_of tree) × BoundedService service = c.texts_are_bounded.ensures.services text tree service parses resolved in
    let begins : BoundedShape shape = subst BoundedShape (sym same) bounded.0 in
    c.scripts_leave_shots.ensures shape service (first_start shape) script fit begins bounded.1 (c.scripts_are_bounded.ensures.first shape begins) (c.texts_are_bounded.ensures.scripts shape nothing_earlier lines script says) is
