-- The steps that are left after the first one.
use Rattle.std.specs.Prelude.{List, [], ◌∷◌}
use Rattle.wave_base.specs.declared.path.Step.{Step}

abbrev pub without_first : List Step → List Step
without_first [] = []
without_first (s ∷ ss) = ss
