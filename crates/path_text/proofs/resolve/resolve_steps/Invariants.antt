use Rattle.std.proofs.Common.{◌≡◌, ◌++◌, length, drop}
use Rattle.std.specs.Prelude.{option_map}
use Rattle.path_text.specs.Paths.{steps_below}
use Rattle.path_text.proofs.resolve.resolve_steps.Given as goal

abbrev pub invariant-loop-written : goal.invariant-loop-written
invariant-loop-written g l =
    let shape = g.C.ChildClasses.shape l.classes in
    record {
      path : option_map (λ ps. l.path ++ ps) (steps_below shape l.class.0 (drop l.written-index l.steps)) ≡ steps_below shape 0 l.steps;
      len : length l.path ≡ l.written-index;
    }
