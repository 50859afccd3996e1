-- What one who runs calls owes: of trees and calls that fit, what a call does is known to do no more than this.
use Rattle.std.specs.Prelude.{◌≡◌, ◌≤◌, ◌||◌, suc, true, List, [], length, None, All}
use Rattle.std.specs.List.{list_any}
use Rattle.std.specs.List.Sorted.{IsStrictlySortedBy}
use Rattle.wave_base.specs.declared.limits.TheConstants.{GENERATION, SPAWNS}
use Rattle.wave_base.specs.declared.call.Call.{Call}
use Rattle.wave_base.specs.declared.path.Path.{Path}
use Rattle.wave_base.specs.declared.shape.Shape.{Shape}
use Rattle.wave_base.specs.declared.value.Value.{Value}
use Rattle.wave_base.specs.Paths.{path_eq, path_cmp}
use Rattle.wave_base.specs.Places.{move_of}
use Rattle.wave_base.specs.Scripts.{IsCall}
use Rattle.wave_base.specs.Tree.{Tree, there}
use Rattle.wave_base.specs.Trees.{FitsShape}
use Rattle.script_fold.specs.Lines.{Meaning}

-- the shape of the trees and calls, what a call does on a tree, and the trees and calls that it is known for
pub record Owed (shape : Shape) (meaning : Meaning) (FitsTree : Tree (List Value) → Type 0) (FitsCall : Call → Type 0) : Type 0 where
  -- a tree of the shape with its root fits, and so does a request of the shape
  pub begins : (t : Tree (List Value)) → FitsShape shape t → there t [] ≡ true → FitsTree t
  pub asked : (c : Call) → IsCall shape c → c.generation ≡ 0 → FitsCall c
  -- the tree after a call fits, and so do the calls that it creates
  pub kept : (t : Tree (List Value)) (c : Call) → FitsTree t → FitsCall c → FitsTree (meaning t c).tree
  pub created : (t : Tree (List Value)) (c : Call) → FitsTree t → FitsCall c → All FitsCall (meaning t c).result.created
  -- at most four, each a generation later; and none is later than the last
  pub few : (t : Tree (List Value)) (c : Call) → FitsTree t → FitsCall c → length (meaning t c).result.created ≤ SPAWNS
  pub later : (t : Tree (List Value)) (c : Call) → FitsTree t → FitsCall c → All (λ (d : Call). d.generation ≡ suc c.generation) (meaning t c).result.created
  pub last : (c : Call) → FitsCall c → c.generation ≤ GENERATION
  -- what is there after it was there before or was entered, and both stay there; and the paths stay in order
  pub joined : (t : Tree (List Value)) (c : Call) (p : Path) → FitsTree t → FitsCall c → there (meaning t c).tree p ≡ (there t p || list_any (path_eq p) (meaning t c).entered)
  pub ordered : (t : Tree (List Value)) (c : Call) → FitsTree t → FitsCall c → IsStrictlySortedBy path_cmp t.paths → IsStrictlySortedBy path_cmp (meaning t c).tree.paths
  -- it moves no context
  pub unmoved : (t : Tree (List Value)) (c : Call) → FitsTree t → FitsCall c → move_of (meaning t c).result ≡ None

-- a call on a tree of the shape leaves one of the shape
abbrev pub KeepsShape : Shape → Meaning → (Tree (List Value) → Type 0) → (Call → Type 0) → Type 0
KeepsShape shape meaning FitsTree FitsCall = (t : Tree (List Value)) (c : Call) → FitsTree t → FitsCall c → FitsShape shape t → FitsShape shape (meaning t c).tree
