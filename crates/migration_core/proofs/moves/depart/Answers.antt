use Rattle.std.proofs.Common.{ap, ◌∙◌, ◌+◌}
use Rattle.std.specs.FinMap as table
use Rattle.migration_core.proofs.Leaving.{gone_away, removed_at, removed_apart, inserted_at, inserted_apart}
use Rattle.migration_core.proofs.moves.depart.Goals as goal

pub returns-clause-here : goal.returns-clause-here
returns-clause-here c = λ column host h.
    gone_away c.mark.new.self c.args.path.now column host (record { to = c.args.to; number = c.unwrap-entry.result.moves + 1 })
    (ap (λ m. table.get m c.args.path.now) (c.mark.ensures.store ∙ c.take.ensures.store) ∙ removed_at c.args.store.now.store c.args.path.now)
    (ap (λ m. table.get m c.args.path.now) c.mark.ensures.gone ∙ inserted_at c.take.new.self.gone c.args.path.now (record { to = c.args.to; number = c.unwrap-entry.result.moves + 1 }))

pub returns-clause-store : goal.returns-clause-store
returns-clause-store c = λ q h. ap (λ m. table.get m q) (c.mark.ensures.store ∙ c.take.ensures.store) ∙ removed_apart c.args.store.now.store c.args.path.now q h

pub returns-clause-gone : goal.returns-clause-gone
returns-clause-gone c = λ q h.
    ap (λ m. table.get m q) c.mark.ensures.gone ∙ inserted_apart c.take.new.self.gone c.args.path.now (record { to = c.args.to; number = c.unwrap-entry.result.moves + 1 }) q h
    ∙ ap (λ m. table.get m q) c.take.ensures.gone
