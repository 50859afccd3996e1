-- What a visit meets.
use Rattle.std.specs.Prelude.{ℕ, List}
use Rattle.kept_lock.specs.declared.view.Known.{Known}
use Rattle.kept_lock.specs.Knowing.{Agrees, Accounts}

-- the value stands for the name, and its history agrees with the pass and with its accounts
pub record Meets {V N E : Type 0} (history_of : V → List E) (owner : E → ℕ) (stands : V → N → Type 0) (name : N) (pass : Known E) (y : V) : Type 0 where
  pub stands_for_name : stands y name
  pub agrees : Agrees owner pass (history_of y)
  pub accounts : Accounts owner pass (history_of y)
