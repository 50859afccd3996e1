-- Commits in the order of tickets.
use Rattle.std.specs.Prelude.{ℕ, ◌+◌, Option, option_map}
use Rattle.std.specs.Ordering.{nat_cmp}
use Rattle.std.specs.FinMap.{FinMap, get}
use Rattle.wave_base.specs.declared.outcome.EventResult.{EventResult}
use Rattle.commit_order.specs.declared.commits.Committed.{Committed}

-- the last ticket that was committed, the results of those that have one and are not committed, and for how many more
-- there is room
pub record Committing : Type 0 where
  pub committed : ℕ
  pub results : FinMap nat_cmp EventResult
  pub room : ℕ

-- the result of the ticket after the last committed one
abbrev pub ready_result : Committing → Option EventResult
ready_result c = get c.results (c.committed + 1)

-- that ticket with its result
abbrev pub next_committed : Committing → Option Committed
next_committed c = option_map (λ r. record { ticket = record { 0 = c.committed + 1 }; result = r }) (ready_result c)
