use Rattle.script_fold.specs.Runs.{start_after}
use Rattle.wave_meaning.specs.Meaning.{results_at}
use Rattle.value_laws.proofs.Scripts.{starts_are_shots}
use Rattle.value_laws.specs.Values.{BoundedFinished}
use Rattle.value_laws.proofs.laws.scripts_leave_shots.Goals as goal

pub returns : goal.returns
returns c = λ shape service start script fit bounded says begins lines is.
    let ends : BoundedFinished (results_at shape service start script) = c.scripts_are_bounded.ensures.all shape service bounded says start script begins lines in
    starts_are_shots shape script.hosts (start_after start (results_at shape service start script)) fit is ends.shots
