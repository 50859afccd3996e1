use Rattle.std.proofs.Common.{subst, rules}
use Rattle.kept_lock.specs.Knowing.{Accounts}
use Rattle.kept_lock.specs.Locks.{knowledge}
use Rattle.kept_lock.proofs.Accounts.{joined_accounts}
use Rattle.lock_counter.proofs.two.add_by_two.Goals as goal

pub returns-clause-second : goal.returns-clause-second
returns-clause-second g c =
    let log = c.close-counter.result.log.items in let done = c.run_two-first.result in
    let accounts = joined_accounts (λ e. e.by) (knowledge done.0.0) (knowledge done.1.0) log (subst (λ k. Accounts (λ e. e.by) k log) c.join-pass.ensures.joined c.close-counter.ensures.accounts) in
    let made = accounts.made in
    search rules
