-- The line of a context, and those that hold it together.
use Rattle.std.specs.Prelude.{ℕ, Bool, nat_eq, refl}
use Rattle.std.specs.Coded.{Coded, code_by, coded×, coded_ℕ}
use Rattle.std.specs.Ordering.{nat_cmp}
use Rattle.std.specs.FinMap as map
use Rattle.std.specs.FinSet as set
use Rattle.context_queue.specs.declared.waiting.Claim.{Claim}
use Rattle.context_queue.specs.contracts.waiting.Claim as claim

-- who waits under each entry number, and for how many more there is room
pub record Line : Type 0 where
  pub claims : map.FinMap nat_cmp Claim
  pub room : ℕ

-- tickets, and for how many more there is room
pub record Group : Type 0 where
  pub tickets : set.FinSet nat_cmp
  pub room : ℕ

-- it has no tickets
abbrev pub is_nobody : set.FinSet nat_cmp → Bool
is_nobody tickets = nat_eq (set.len tickets) 0

-- both are stored as their parts
abbrev pub line_code : Coded Line
line_code =
    code_by (map.FinMap nat_cmp Claim × ℕ) (coded× (map.code coded_ℕ claim.the_row.coded) coded_ℕ) (λ c. (c.claims, c.room)) (λ p. record { claims = p.0; room = p.1 }) (λ _. refl)

abbrev pub group_code : Coded Group
group_code = code_by (set.FinSet nat_cmp × ℕ) (coded× (set.code coded_ℕ) coded_ℕ) (λ c. (c.tickets, c.room)) (λ p. record { tickets = p.0; room = p.1 }) (λ _. refl)
