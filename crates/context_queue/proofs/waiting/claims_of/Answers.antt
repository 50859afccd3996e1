use Rattle.std.proofs.Common.{ap, ◌∙◌}
use Rattle.std.specs.Ordering.{nat_cmp}
use Rattle.std.specs.FinMap as table
use Rattle.context_queue.proofs.QueueMaps.{inserted, same_entries}
use Rattle.context_queue.proofs.waiting.claims_of.Goals as goal

pub returns-clause-one : goal.returns-clause-one
returns-clause-one c =
    let n = c.args.number in
    ap (λ t. table.from_entries {R = nat_cmp} t.entries) c.in_ok-new.ensures.ok
    ∙ same_entries c.insert.new.self.entries c.reserve.new.self.entries c.reserve.ensures.entries.2
    ∙ inserted c.new-claims.result.entries c.insert.new.self.entries n c.args.claim c.in_ok-insert.ensures.updates.0
    ∙ ap (λ es. table.insert (table.from_entries {R = nat_cmp} es) n c.args.claim) c.new-claims.ensures.empty
