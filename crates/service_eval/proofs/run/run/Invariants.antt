use Rattle.std.proofs.Common.{◌≡◌}
use Rattle.service_eval.specs.inner.Machines.{comes_to}
use Rattle.service_eval.specs.inner.Ready.{Ready}
use Rattle.service_eval.specs.inner.Turns.{mach}
use Rattle.service_eval.specs.inner.Weight.{load}
use Rattle.service_eval.proofs.run.run.Given as goal

abbrev pub invariant-items : goal.invariant-items
invariant-items l = record {
  same : comes_to l.code.methods.now (mach l.code l.fn.contexts l.fn.m) ≡ comes_to l.code.methods.now (mach l.code l.contexts l.m);
  ready : Ready l.code.shape.now l.code.methods.now (mach l.code l.contexts l.m);
}

abbrev pub decreases-items : goal.decreases-items
decreases-items l = load l.code.methods.now (mach l.code l.contexts l.m)
