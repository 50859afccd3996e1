use Rattle.std.proofs.Common.{sym, ◌∙◌}
use Rattle.code_meaning.proofs.Meaning.{plan_means}
use Rattle.code_meaning.proofs.plans.finished_states_mean.Goals as goal

pub returns : goal.returns
returns c = λ service plan start code fits begins labels s run finished f.
    let same = plan_means service plan.program code start plan.script begins fits.script in
    let told = c.finished_states_tell.ensures plan start fits begins labels s run finished f in
    (λ t. told.0 t ∙ same, λ e. told.1 (e ∙ sym same))
