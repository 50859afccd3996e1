use Rattle.std.proofs.Common.{[], ◌∷◌, ◌++◌, sym, subst}
use Rattle.wave_base.specs.declared.outcome.Outcome.{Outcome}
use Rattle.wave_base.specs.Places.{with_contexts, after_job, move_in}
use Rattle.script_fold.specs.inner.Visiting.{IsVisited, IsMoveWithin}
use Rattle.script_fold.proofs.visits.Visits.after_job.Goals as goal

pub returns-in-Moved : goal.returns-in-Moved
returns-in-Moved c =
    λ hosts earlier at h within.
    let known = subst (IsMoveWithin hosts c.args.paths.now) c.in-Moved.is within in
    subst (λ (o : Outcome). IsVisited (after_job hosts c.args.paths.now (move_in o)) (earlier ++ c.args.paths.now ∷ []) [] c.set_host.new.self) (sym c.in-Moved.is)
    (c.set_host.ensures (with_contexts hosts c.args.paths.now) (earlier ++ c.args.paths.now ∷ []) known (c.in_ok-enter_all.ensures hosts earlier at h))
