use Rattle.std.proofs.Common.{◌≡◌, ap, sym, ◌∙◌}
use Rattle.wave_base.specs.Paths.{parent_of}
use Rattle.service_eval.specs.inner.Machines.{mach_of}
use Rattle.service_eval.proofs.PathLemmas.{parent_of-child}
use Rattle.service_eval.proofs.machine.Machine.rise.Goals as goal

pub returns-in-Some : goal.returns-in-Some
returns-in-Some c =
    λ tree.
    let path : c.in-Some.parent ≡ parent_of c.args.self.now.path = sym (parent_of-child c.in-Some.parent c.in-Some.ensures.some.0) ∙ ap parent_of (sym c.in-Some.ensures.some.1) in
    ap (λ p. record (mach_of tree c.args.self.now) { path = p }) path
