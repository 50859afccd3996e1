use Rattle.std.proofs.Common.{◌≡◌, ◌+◌, ◌<◌, ℕ, Option, sym, ◌∙◌, ap, arith}
use Rattle.std.specs.Prelude.{nat_eq, option_map}
use Rattle.std.specs.FinMap.{remove}
use Rattle.std.specs.Map.{lookup}
use Rattle.wave_base.specs.declared.outcome.EventResult.{EventResult}
use Rattle.commit_order.specs.Commits.{Committing, ready_result, next_committed}
use Rattle.commit_order.specs.declared.commits.Commits.TheInside.{Inside}
use Rattle.commit_order.specs.contracts.commits.Commits.{the_view}
use Rattle.commit_order.proofs.ResultMaps.{get_is_lookup, removed, below_all, absent_still}
use Rattle.commit_order.proofs.commits.Commits.commit_next.Goals as goal

-- what the table has at the next ticket
found : (a : Inside) (n : ℕ) (o : Option EventResult) → n ≡ a.committed → o ≡ lookup (nat_eq (n + 1)) a.results.entries → ready_result (the_view a) ≡ o
found a n o e h = get_is_lookup (a.committed + 1) a.results.entries ∙ ap (λ k. lookup (nat_eq (k + 1)) a.results.entries) (sym e) ∙ sym h

next_of : (a : Inside) (v : Committing) (n : ℕ) (o : Option EventResult) → the_view a ≡ v → n ≡ a.committed → o ≡ lookup (nat_eq (n + 1)) a.results.entries
    → option_map (λ r. record { ticket = record { 0 = n + 1 }; result = r }) o ≡ next_committed v
next_of a v n o is e h =
    (λ i. option_map (λ r. record { ticket = record { 0 = e i + 1 }; result = r }) (sym (found a n o e h) i)) ∙ ap next_committed is

pub returns-in_err-result-clause-gives : goal.returns-in_err-result-clause-gives
returns-in_err-result-clause-gives c =
    c.from_residual.ensures ∙ ap (option_map (λ r. record { ticket = record { 0 = c.from.result + 1 }; result = r })) (sym c.in_err-result.was)
    ∙ next_of c.self.inside c.args.self.now c.from.result c.remove.result c.self.view_is c.from.ensures c.remove.ensures.value

pub returns-in_err-result-clause-results : goal.returns-in_err-result-clause-results
returns-in_err-result-clause-results c =
    removed c.self.inside.results.entries c.remove.new.self.entries (c.from.result + 1) c.remove.ensures.updates.0
    ∙ (λ i. remove (c.self.view_is i).results ((c.from.ensures ∙ ap (λ v. v.committed) c.self.view_is) i + 1))

pub overflow_cast-self : goal.overflow_cast-self
overflow_cast-self c =
    let below : c.from.result + 1 < 4294967296 =
    below_all c.from.result c.self.inside.results.entries c.in_ok-result.result (omega arith) c.self.invariant (sym c.remove.ensures.value ∙ c.in_ok-result.was) in
    omega arith

pub invariant_of-self-2 : goal.invariant_of-self-2
invariant_of-self-2 c =
    absent_still (c.from.result + 1) 4294967296 c.self.inside.results.entries c.remove.new.self.entries c.remove.ensures.updates.0 c.self.invariant

pub returns-clause-gives : goal.returns-clause-gives
returns-clause-gives c =
    ap (option_map (λ r. record { ticket = record { 0 = c.from.result + 1 }; result = r })) (sym c.in_ok-result.was)
    ∙ next_of c.self.inside c.args.self.now c.from.result c.remove.result c.self.view_is c.from.ensures c.remove.ensures.value

pub returns-clause-results : goal.returns-clause-results
returns-clause-results c =
    removed c.self.inside.results.entries c.remove.new.self.entries (c.from.result + 1) c.remove.ensures.updates.0
    ∙ (λ i. remove (c.self.view_is i).results ((c.from.ensures ∙ ap (λ v. v.committed) c.self.view_is) i + 1))
