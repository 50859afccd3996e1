use Rattle.std.proofs.Common.{◌≡◌, ◌+◌, ◌<◌, ℕ, sym, ap, ◌∙◌, arith}
use Rattle.std.specs.Prelude.{nat_eq}
use Rattle.std.specs.Map.{lookup}
use Rattle.std.specs.FinMap as table
use Rattle.context_queue.specs.inner.Kept.{entries_in}
use Rattle.context_queue.proofs.QueueMaps.{none_at}
use Rattle.context_queue.proofs.waiting.Waiting.after.Goals as goal

last : (n : ℕ) → n < 18446744073709551616 → (n + 1 < 18446744073709551616 → ⊥) → n + 1 ≡ 18446744073709551616
last n h k = omega arith

pub returns-in-None-clause-claim : goal.returns-in-None-clause-claim
returns-in-None-clause-claim c =
    let es = entries_in c.self.inside.claims in
    let top : c.args.number + 1 ≡ 18446744073709551616 = last c.args.number c.ranges.number.fits c.in-None.ensures in
    none_at (c.args.number + 1) es (table.get c.args.self.now.claims (c.args.number + 1)) (ap (λ n. lookup (nat_eq n) es) top ∙ c.self.invariant) (ap (λ v. table.get v.claims (c.args.number + 1)) (sym c.self.view_is))
