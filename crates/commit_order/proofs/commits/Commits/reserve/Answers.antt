use Rattle.std.proofs.Common.{◌∙◌, ap}
use Rattle.commit_order.proofs.ResultMaps.{same_results}
use Rattle.commit_order.proofs.commits.Commits.reserve.Goals as goal

pub invariant_of-self-2 : goal.invariant_of-self-2
invariant_of-self-2 c = c.reserve.ensures.entries.2 4294967296 ∙ c.self.invariant

pub returns-clause-results : goal.returns-clause-results
returns-clause-results c = same_results _ _ c.reserve.ensures.entries.2 ∙ ap (λ v. v.results) c.self.view_is
