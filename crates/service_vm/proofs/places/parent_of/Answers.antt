use Rattle.std.proofs.Common.{ap, sym, ◌∙◌}
use Rattle.wave_base.specs.Paths.{parent_of}
use Rattle.service_verify.proofs.Classes.{parent_of-child}
use Rattle.service_vm.proofs.places.parent_of.Goals as goal

pub returns-in-Some : goal.returns-in-Some
returns-in-Some c = let h = c.in-Some.ensures.some in sym (ap parent_of h.1 ∙ parent_of-child _ h.0)
