-- What a script begins with, where it is kept and changed in place by what the script's jobs do.
use Rattle.std.specs.Prelude.{◌≡◌, ◌==◌, ℕ, Bool, nat_lt, List}
use Rattle.wave_base.specs.declared.finished.Finished.{Finished}
use Rattle.wave_base.specs.declared.finished.Place.{Place}
use Rattle.wave_base.specs.declared.start.Start.{Start}
use Rattle.script_fold.specs.declared.told.Told.{Told}

-- a Start, and how many jobs of the script before entered each of its contexts
pub record Live : Type 0 where
  pub start : Start
  pub loads : List ℕ

-- what the jobs of a whole run gave
pub record IsTold (told : Told) (f : Finished) : Type 0 where
  pub results : told.results ≡ f.results
  pub made : told.made ≡ f.made
  pub names : told.names ≡ f.names

-- of contexts, each with its load: one that has any, and one on a host
abbrev pub has_load : Place × ℕ → Bool
has_load x = nat_lt 0 x.1

abbrev pub is_at : ℕ → Place × ℕ → Bool
is_at h x = x.0.host.0 == h
