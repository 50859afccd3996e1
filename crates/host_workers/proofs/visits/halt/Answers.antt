use Rattle.kept_lock.specs.Locks.{knowledge}
use Rattle.host_workers.proofs.Visited as visited
use Rattle.host_workers.proofs.visits.halt.Goals as goal

pub visit-requires-clause-keeps : goal.visit-requires-clause-keeps
visit-requires-clause-keeps g c = λ y r z meets back. visited.keeps_stopped _ _ _ y back.shown.now back.shows meets c.requires.calm _ z back.left.now back.leaves back.met

pub returns-clause-halted : goal.returns-clause-halted
returns-clause-halted g c =
    let d = c.visit.ensures.done in
    (visited.halts _ _ _ d.0 d.3.shown.now d.3.shows d.2 c.requires.calm _ d.1 d.3.left.now d.3.leaves d.3.met (knowledge c.visit.new.pass) d.4).halted

pub returns-clause-own : goal.returns-clause-own
returns-clause-own g c =
    let d = c.visit.ensures.done in
    (visited.halts _ _ _ d.0 d.3.shown.now d.3.shows d.2 c.requires.calm _ d.1 d.3.left.now d.3.leaves d.3.met (knowledge c.visit.new.pass) d.4).own
