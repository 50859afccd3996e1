-- How many statements there are in a statement, and in others.
use Rattle.std.specs.Prelude.{ℕ, suc, ◌+◌}
use Rattle.resolved_service.specs.Steps.{Step, If, While, For, Steps, no_steps, step, Else, no_else, otherwise}

abbrev mutual
  pub step_size : Step → ℕ
  step_size (If at test body other) = suc (steps_size body + else_size other)
  step_size (While at test body) = suc (steps_size body)
  step_size (For at counter from to body) = suc (steps_size body)
  step_size _ = 1

  pub steps_size : Steps → ℕ
  steps_size no_steps = 0
  steps_size (step s ss) = step_size s + steps_size ss

  pub else_size : Else → ℕ
  else_size no_else = 0
  else_size (otherwise ss) = steps_size ss
