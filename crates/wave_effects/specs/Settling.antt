-- What is kept of the committed tickets, as a plain value.
use Rattle.std.specs.Prelude.{ℕ, List, refl}
use Rattle.std.specs.Coded.{Coded, code_by, coded×, coded_ℕ, coded_list}
use Rattle.wave_effects.specs.declared.kept.Settled.{Settled}
use Rattle.wave_effects.specs.contracts.kept.Settled as settled

-- what is kept of each, in their order; and for how many more there is room
pub record Settling : Type 0 where
  pub items : List Settled
  pub room : ℕ

-- it is stored as its parts
abbrev pub settling_code : Coded Settling
settling_code = code_by (List Settled × ℕ) (coded× (coded_list settled.the_row.coded) coded_ℕ) (λ c. (c.items, c.room)) (λ p. record { items = p.0; room = p.1 }) (λ _. refl)
