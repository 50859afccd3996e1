use Rattle.std.proofs.Common.{◌∙◌, sym, ap}
use Rattle.wave_base.specs.Paths.{parent_of}
use Rattle.script_fold.proofs.VisitLemmas.{parent_last}
use Rattle.script_fold.proofs.visits.parent.Goals as goal

pub returns-in-Some : goal.returns-in-Some
returns-in-Some c = sym (ap parent_of c.in-Some.ensures.some.1 ∙ parent_last c.in-Some.above c.in-Some.ensures.some.0)
