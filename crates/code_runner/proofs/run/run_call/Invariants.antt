use Rattle.std.proofs.Common.{◌≡◌, ◌-◌, true, None}
use Rattle.context_tree.specs.Contexts.{tree_of, is_there}
use Rattle.wave_base.specs.declared.path.Path.{Path}
use Rattle.service_verify.specs.Copies.{trip_after, first_trip}
use Rattle.service_verify.specs.Points.{IsVerified}
use Rattle.service_verify.specs.Tours.{most_segments}
use Rattle.code_runner.specs.inner.Walks.{trip_of}
use Rattle.code_runner.proofs.run.run_call.Given as goal

-- so far it has gone where its code leads it
abbrev pub invariant-under_way : goal.invariant-under_way
invariant-under_way l = record {
  verified : IsVerified l.program;
  stays : (p : Path) → is_there l.fn.contexts p ≡ true → is_there l.contexts p ≡ true;
  follows : trip_of l.walk (tree_of l.program.shape l.contexts) None ≡ trip_after l.program l.walk.segments (first_trip l.program l.call (tree_of l.program.shape l.fn.contexts));
}

abbrev pub decreases-under_way : goal.decreases-under_way
decreases-under_way l = most_segments l.program - l.walk.segments
