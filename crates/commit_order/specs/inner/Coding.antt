-- How what is kept of commits is stored.
use Rattle.std.specs.Prelude.{ℕ, refl}
use Rattle.std.specs.Coded.{Coded, code_by, coded×, coded_ℕ}
use Rattle.std.specs.Ordering.{nat_cmp}
use Rattle.std.specs.FinMap.{FinMap, code}
use Rattle.wave_base.specs.declared.outcome.EventResult.{EventResult}
use Rattle.wave_base.specs.contracts.outcome.EventResult as outcome
use Rattle.commit_order.specs.Commits.{Committing}

-- it is stored as its parts
abbrev pub committing_code : Coded Committing
committing_code =
    code_by (ℕ × (FinMap nat_cmp EventResult × ℕ)) (coded× coded_ℕ (coded× (code coded_ℕ outcome.the_row.coded) coded_ℕ)) (λ c. (c.committed, (c.results, c.room))) (λ p. record { committed = p.0; results = p.1.0; room = p.1.1 }) (λ _. refl)
