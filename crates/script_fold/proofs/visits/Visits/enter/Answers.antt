use Rattle.std.proofs.Common.{◌∙◌, ap, is_some, refl, subst, sym, unwrap_or}
use Rattle.wave_base.specs.Places.{with_context}
use Rattle.script_fold.specs.inner.Visiting.{no_load, with_job}
use Rattle.script_fold.proofs.VisitLemmas.{context_there, counted_visited, joined_known, Sets}
use Rattle.script_fold.proofs.visits.Visits.enter.Goals as goal

pub returns-in-Some : goal.returns-in-Some
returns-in-Some c =
    λ hosts earlier now at h.
    let v = c.args.self.now in
    let p = c.args.path.now in
    let some = sym c.in-Some.ensures.value in
    let load = c.with_job.ensures ∙ ap (λ o. with_job c.args.job (unwrap_or o no_load)) (sym some) in
    counted_visited (with_context hosts p) earlier now v _ c.args.job p at (joined_known hosts earlier now v v p h refl refl (h.within p (ap is_some some))) (context_there hosts p) refl
    (subst (Sets v.loads.entries _ p) load ((c.get_mut.follows.holds c.with_job.result).3 (ap is_some some)).0)
