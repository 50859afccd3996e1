use Rattle.std.proofs.Common.{sym, ap, is_some, refl}
use Rattle.script_fold.proofs.VisitLemmas.{moved_visited, not_found}
use Rattle.script_fold.proofs.visits.Visits.set_host.Goals as goal

pub returns-in-Some : goal.returns-in-Some
returns-in-Some c =
    λ hosts earlier t h.
    moved_visited hosts earlier c.args.self.now _ c.args.path.now c.args.host h refl
    (c.get_mut.follows.holds c.args.host).1 ((c.get_mut.follows.holds c.args.host).3 (ap is_some (sym c.in-Some.ensures.value))).0

pub returns-in-None : goal.returns-in-None
returns-in-None c = λ hosts earlier t h. absurd (not_found hosts earlier c.args.self.now c.args.path.now h t (sym c.in-None.ensures.value))
