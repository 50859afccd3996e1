use Rattle.std.proofs.Common.{◌∙◌, ap, sym}
use Rattle.wave_states.specs.Runs.{run}
use Rattle.wave_states.specs.Begins.{start_state}
use Rattle.serial_runs.proofs.Cuts.{cut, taken_by}
use Rattle.serial_runs.proofs.laws.owners_take.Goals as goal

pub returns : goal.returns
returns g c = λ code workers b batches begins plan labels s r before after l e. let k = (g.T.Acting).kind code in
    let x = cut k.system workers (start_state b batches) before l after s (sym (ap (run k.system workers (start_state b batches)) e) ∙ r) in
    taken_by k workers b batches before l after s x (c.by_owners.ensures code workers b batches begins plan before x.found x.reached l x.left x.taken)
