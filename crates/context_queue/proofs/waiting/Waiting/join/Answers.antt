use Rattle.std.proofs.Common.{◌≤◌, sym, ap, subst, ◌∙◌}
use Rattle.std.specs.HashMap.{spare}
use Rattle.std.specs.Ordering.{nat_cmp}
use Rattle.std.specs.FinMap as table
use Rattle.context_queue.specs.inner.Kept.{line_in}
use Rattle.context_queue.proofs.QueueMaps.{inserted, of_ok}
use Rattle.context_queue.proofs.waiting.Waiting.join.Goals as goal

pub returns-in-Many-clause-claims : goal.returns-in-Many-clause-claims
returns-in-Many-clause-claims c =
    let n = c.args.number in
    let view = ap line_in (sym c.in-Many.is) ∙ c.self.view_is in
    let room : 1 ≤ spare c.deref_mut.result.now = subst (λ t. 1 ≤ spare t) (sym c.deref_mut.ensures.value) (subst (λ v. 1 ≤ v.room) (sym view) c.requires) in
    let h = of_ok c.insert.result (c.insert.ensures.succeeds room) c.insert.ensures.updates in
    inserted c.deref_mut.result.now.entries c.insert.new.self.entries n c.args.claim h.0
    ∙ ap (λ t. table.insert (table.from_entries {R = nat_cmp} t.entries) n c.args.claim) c.deref_mut.ensures.value
    ∙ ap (λ v. table.insert v.claims n c.args.claim) view
