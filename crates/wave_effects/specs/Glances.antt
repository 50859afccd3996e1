-- What a glance at a machine shows: how far the run has come, and where the contexts are.
use Rattle.std.specs.Prelude.{◌≡◌, ◌+◌, ℕ, true, map, All}
use Rattle.std.specs.List.{list_any}
use Rattle.std.specs.List.Sorted.{IsStrictlySortedBy}
use Rattle.wave_base.specs.declared.path.Path.{Path}
use Rattle.wave_base.specs.Paths.{path_cmp, path_eq}
use Rattle.wave_states.specs.Owners.{IsOwner}
use Rattle.plan_actors.specs.Finishing.{path_of}
use Rattle.wave_effects.specs.declared.glance.Glance.{Glance}
use Rattle.wave_effects.specs.Machines.{TheState}

-- how many tickets were admitted and committed, those before this run too; and in path order each context that has an owner, with it
pub record IsGlance (s : TheState) (g : Glance) : Type 0 where
  pub admitted : g.admitted ≡ s.before + s.admitted
  pub committed : g.committed ≡ s.before + s.head.done
  pub ordered : IsStrictlySortedBy path_cmp (map path_of g.owners)
  pub owned : All (λ x. IsOwner s x.path x.host.0) g.owners
  pub all_there : (p : Path) (host : ℕ) → IsOwner s p host → list_any (path_eq p) (map path_of g.owners) ≡ true
