use Rattle.std.proofs.Common.{◌≡◌, ◌∙◌, ℕ, sym, ap, cond}
use Rattle.std.specs.Prelude.{nat_eq}
use Rattle.std.specs.Cmp.{unsigned_ties}
use Rattle.std.specs.FinMap as table
use Rattle.std.specs.Ordering.{nat_cmp, eq_by_cmp}
use Rattle.std.proofs.lemmas.Cmp.{nat_cmp_total, nat_eq_equiv}
use Rattle.wave_effects.proofs.leaving.settle.Goals as goal

turned : (k q : ℕ) → nat_eq k q ≡ eq_by_cmp nat_cmp q k
turned k q = nat_eq_equiv.symm k q ∙ unsigned_ties q k

pub returns-in-Some-clause-results : goal.returns-in-Some-clause-results
returns-in-Some-clause-results c = λ u.
    ap (λ m. table.get m u) c.add_result.ensures.results ∙ table.get-insert nat_cmp_total c.args.commits.now.results c.args.ticket.0 _ u
    ∙ (λ i. cond (sym (turned c.args.ticket.0 u) i) (sym c.in-Some.is i) (table.get c.args.commits.now.results u))
