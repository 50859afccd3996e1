use Rattle.std.proofs.Common.{sym, ◌≤◌, ◌∙◌, Some, subst, arith, IsOk}
use Rattle.std.specs.FinMap.{insert}
use Rattle.std.specs.HashMap.{spare}
use Rattle.commit_order.proofs.ResultMaps.{inserted, absent_above, of_ok}
use Rattle.commit_order.proofs.commits.Commits.add_result.Goals as goal

succeeds : (c : goal.Joined-insert) → IsOk c.insert.result
succeeds c =
    let room : 1 ≤ spare c.self.inside.results = subst (λ v. 1 ≤ v.room) (sym c.self.view_is) c.requires.room in
    c.insert.ensures.succeeds room

pub invariant_of-self : goal.invariant_of-self
invariant_of-self c =
    let h = of_ok c.insert.result (succeeds c) c.insert.ensures.updates in
    absent_above c.from.result 4294967296 (Some c.args.ended) c.self.inside.results.entries c.insert.new.self.entries (omega arith) h.0 c.self.invariant

pub returns-clause-results : goal.returns-clause-results
returns-clause-results c =
    let h = of_ok c.insert.result (succeeds c) c.insert.ensures.updates in
    inserted c.self.inside.results.entries c.insert.new.self.entries c.from.result c.args.ended h.0
    ∙ (λ i. insert (c.self.view_is i).results (c.from.ensures i) c.args.ended)
