-- What is known of a call's outcome, whatever the service says.
use Rattle.std.specs.Prelude.{◌≡◌, ◌≤◌, ◌||◌, ℕ, suc, List, length, None, All}
use Rattle.std.specs.List.{list_any}
use Rattle.std.specs.List.Sorted.{IsStrictlySortedBy}
use Rattle.wave_base.specs.declared.limits.TheConstants.{GENERATION, SPAWNS}
use Rattle.wave_base.specs.declared.call.Call.{Call}
use Rattle.wave_base.specs.declared.path.Path.{Path}
use Rattle.wave_base.specs.declared.shape.Shape.{Shape}
use Rattle.wave_base.specs.declared.value.Value.{Value}
use Rattle.wave_base.specs.Paths.{path_eq, path_cmp}
use Rattle.wave_base.specs.Places.{move_of}
use Rattle.wave_base.specs.Tree.{Tree, there}
use Rattle.resolved_service.specs.Jobs.{Meant}
use Rattle.service_eval.specs.Worlds.{Holds}

-- no later than the last generation
abbrev pub IsEarly : Call → Type 0
IsEarly call = call.generation ≤ GENERATION

-- of a call of a generation on a tree
pub record IsKept (shape : Shape) (before : Tree (List Value)) (generation : ℕ) (meant : Meant) : Type 0 where
  pub tree : Holds shape meant.ran.tree
  pub few : length meant.ran.result.created ≤ SPAWNS
  pub later : All (λ (d : Call). d.generation ≡ suc generation) meant.ran.result.created
  pub early : All IsEarly meant.ran.result.created
  -- what is there was there before or was entered, and both stay there; and the paths stay in order
  pub joined : (p : Path) → there meant.ran.tree p ≡ (there before p || list_any (path_eq p) meant.ran.entered)
  pub ordered : IsStrictlySortedBy path_cmp before.paths → IsStrictlySortedBy path_cmp meant.ran.tree.paths
  pub unmoved : move_of meant.ran.result ≡ None
