-- The instructions that may come next, as the verifier keeps them.
use Rattle.std.specs.Prelude.{ℕ, List, [], ◌∷◌}
use Rattle.service_verify.specs.declared.judge.Next.{Next}
use Rattle.service_verify.specs.declared.judge.Next.TheVariants.{Nothing, One, Either}

abbrev pub nexts : Next → List ℕ
nexts Nothing = []
nexts (One n) = n ∷ []
nexts (Either n m) = n ∷ m ∷ []
