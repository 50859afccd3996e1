use Rattle.std.proofs.Common.{◌≡◌, ◌≤◌}
use Rattle.service_eval.specs.inner.Items.{turns_of}
use Rattle.service_eval.specs.inner.Machines.{on_top, comes_to}
use Rattle.service_eval.specs.inner.Ready.{Ready}
use Rattle.service_eval.specs.inner.Turns.{mach}
use Rattle.service_eval.specs.inner.Weight.{load}
use Rattle.service_eval.proofs.loops.turns.Given as goal

abbrev pub invariant-turns : goal.invariant-turns
invariant-turns l = record {
  same : comes_to l.code.methods.now (on_top (turns_of l.cycle) (mach l.code l.fn.contexts l.fn.m)) ≡ comes_to l.code.methods.now (on_top (turns_of l.cycle) (mach l.code l.contexts l.m));
  less : load l.code.methods.now (on_top (turns_of l.cycle) (mach l.code l.contexts l.m)) ≤ load l.code.methods.now (on_top (turns_of l.cycle) (mach l.code l.fn.contexts l.fn.m));
  ready : Ready l.code.shape.now l.code.methods.now (on_top (turns_of l.cycle) (mach l.code l.contexts l.m));
}

abbrev pub decreases-turns : goal.decreases-turns
decreases-turns l = load l.code.methods.now (on_top (turns_of l.cycle) (mach l.code l.contexts l.m))
