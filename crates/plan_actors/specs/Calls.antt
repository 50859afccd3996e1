-- What a call does by its code, the trees that it runs on, and how many segments a job has.
use Rattle.std.specs.Prelude.{◌≡◌, ◌*◌, ◌-◌, ℕ, true, [], length, unwrap_or}
use Rattle.std.specs.List.Sorted.{IsStrictlySortedBy}
use Rattle.wave_base.specs.declared.path.Path.{Path}
use Rattle.wave_base.specs.declared.script.Line.{Line}
use Rattle.wave_base.specs.declared.script.Line.TheVariants.{Request, Move, Snapshot}
use Rattle.wave_base.specs.Paths.{path_cmp, parent_of}
use Rattle.wave_base.specs.Tree.{Tree, there}
use Rattle.resolved_service.specs.Jobs.{move_ran}
use Rattle.script_fold.specs.Lines.{Meaning}
use Rattle.service_code.specs.declared.program.Program.{Program}
use Rattle.service_verify.specs.Standing.{HasTree}
use Rattle.service_verify.specs.Tours.{Tour, code_tour}
use Rattle.code_actor.specs.CodeActors.{Fields, no_result}

-- what a call does on a tree: where its code leads it, segment by segment
abbrev pub code_ran : Program → Meaning
code_ran program tree call = let tour : Tour = code_tour program call tree in record { tree = tour.tree; result = unwrap_or tour.result no_result; entered = tour.entered }

-- The contexts are in path order, each below its parent, the root is there, and fields have the kinds of their class.
pub record IsTree (program : Program) (tree : Tree Fields) : Type 0 where
  pub ordered : IsStrictlySortedBy path_cmp tree.paths
  pub root : there tree [] ≡ true
  pub parents : (p : Path) → there tree p ≡ true → there tree (parent_of p) ≡ true
  pub fields : HasTree program tree

-- the segments of a job on a tree: those of a call's code; one for each context that a move enters; and 2k - 1 for a snapshot of k
abbrev pub segments_on : Program → Tree Fields → Line → ℕ
segments_on program tree (Request call) = (code_tour program call tree).segments
segments_on program tree (Move p h) = length (move_ran tree p h).entered
segments_on program tree Snapshot = 2 * length tree.paths - 1
