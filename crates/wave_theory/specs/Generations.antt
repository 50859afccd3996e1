-- How many jobs come of one, where a job creates few, and each of them has fewer generations to come.
use Rattle.std.specs.Prelude.{◌≤◌, ◌<◌, ◌*◌, ℕ, zero, suc, All, length}
use Rattle.std.specs.List.Sorted.{IsStrictlySortedBy}
use Rattle.wave_base.specs.declared.path.Path.{Path}
use Rattle.wave_base.specs.Paths.{path_cmp}
use Rattle.wave_base.specs.Tree.{Tree}
use Rattle.wave_states.specs.Kinds.{Kind}
use Rattle.wave_states.specs.Alone.{run_alone}
use Rattle.wave_theory.specs.Ends.{IsWorth}

-- one, and with a generation to come as many from each of the most that it creates
abbrev pub family : ℕ → ℕ → ℕ
family most zero = 1
family most (suc generations) = suc (most * family most generations)

module _ {A F R J : Type 0} (kind : Kind A F R J) where
  -- A job creates at most so many, each with fewer generations to come, on whatever tree it runs.
  pub record CreatesFew (most : ℕ) (to_come : J → ℕ) (j : J) (ticket : ℕ) (tree : Tree F) : Type 0 where
    pub few : length (kind.system.created (run_alone kind.system ticket tree j).result) ≤ most
    pub fewer : All (λ i. to_come i < to_come j) (kind.system.created (run_alone kind.system ticket tree j).result)

  -- Families. Then so many jobs come of each, itself among them.
  abbrev pub Families : Type 0
  Families = (most : ℕ) (to_come : J → ℕ) →
      ((j : J) (ticket : ℕ) (tree : Tree F) → kind.is_job j → ((p : Path) → kind.fits p (tree.fields p)) → IsStrictlySortedBy path_cmp tree.paths → CreatesFew most to_come j ticket tree) →
      IsWorth kind (λ j. family most (to_come j))
