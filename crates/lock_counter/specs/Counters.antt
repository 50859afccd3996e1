-- What a counter stands for.
use Rattle.std.specs.Prelude.{◌≡◌, ℕ, ◌%◌, ◌^◌, ◌++◌, ◌∷◌, [], Result, MatchResult, sum_by}
use Rattle.wave_base.specs.declared.memory.OutOfMemory.{OutOfMemory}
use denote.Bor.{Bor}
use Rattle.lock_counter.specs.declared.counter.Addition.{Addition}
use Rattle.lock_counter.specs.declared.counter.Counter.{Counter}
use Rattle.lock_counter.specs.declared.counter.Plan.{Plan}

-- one addition
abbrev pub addition : ℕ → ℕ → Addition
addition by amount = record { by = by; amount = amount }

-- the counter is of this plan, and its total is the sum of all additions
abbrev pub StandsFor : Counter → Bor Plan → Type 0
StandsFor counter plan = (counter.plan.now ≡ plan.now) × (counter.total ≡ sum_by (λ e. e.amount) counter.log.items % 2 ^ 64)

-- at `Ok` the counter has one more addition, and else the same ones
abbrev pub Added : Counter → ℕ → ℕ → Result (Unit {0}) OutOfMemory → Counter → Type 0
Added before by amount result after =
    StandsFor after before.plan × MatchResult result (λ _. after.log.items ≡ before.log.items ++ addition by amount ∷ []) (λ _. after.log.items ≡ before.log.items)
