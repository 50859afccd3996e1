use Rattle.std.proofs.Common.{◌≡◌, drop, find}
use Rattle.wave_base.specs.Names.{same_bytes}
use Rattle.context_types.proofs.here.Here.local.Given as goal

abbrev pub invariant-loop-local : goal.invariant-loop-local
invariant-loop-local l = find (λ x. same_bytes x.name l.name) l.local-items ≡ find (λ x. same_bytes x.name l.name) (drop l.local-index l.local-items)
