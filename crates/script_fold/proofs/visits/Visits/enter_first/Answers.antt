use Rattle.std.proofs.Common.{◌∙◌, ap, refl, subst, sym}
use Rattle.wave_base.specs.Places.{with_context}
use Rattle.script_fold.specs.inner.Visiting.{load_at, with_job}
use Rattle.script_fold.proofs.VisitLemmas.{context_there, counted_visited, Sets}
use Rattle.script_fold.proofs.visits.Visits.enter_first.Goals as goal

pub returns : goal.returns
returns c =
    λ hosts earlier now at h.
    let p = c.args.path.now in
    let load = c.with_job.ensures ∙ ap (with_job c.args.job) (sym c.requires ∙ (λ i. load_at (sym c.join.ensures.loads i).entries p)) in
    counted_visited (with_context hosts p) earlier now c.join.new.self _ c.args.job p at (c.in_ok-join.ensures.visited hosts earlier now h) (context_there hosts p) refl
    (subst (Sets c.join.new.self.loads.entries c.insert.new.self.entries p) load c.in_ok-insert.ensures.updates.0)
