use Rattle.kept_lock.specs.Locks.{knowledge}
use Rattle.host_workers.proofs.Offering as offering
use Rattle.host_workers.proofs.Visited as visited
use Rattle.host_workers.proofs.visits.visit.Goals as goal

pub attempt-left-requires-clause-may : goal.attempt-left-requires-clause-may
attempt-left-requires-clause-may g c = λ y meets shown shows. visited.may_turn _ _ _ y shown.now shows meets c.leases_stay.ensures _ c.requires.brings _ c.requires.committed

pub attempt-left-requires-clause-keeps : goal.attempt-left-requires-clause-keeps
attempt-left-requires-clause-keeps g c =
    let laws : offering.Laws = record { tell = c.finished_states_tell.ensures; heads = c.heads_are_known.ensures; results = c.results_stay.ensures } in
    λ y r z meets back. visited.keeps_turned _ _ _ y back.shown.now back.shows meets c.leases_stay.ensures _ c.requires.brings _ c.requires.committed laws z back.left.now back.leaves _ back.met

pub returns-clause-on : goal.returns-clause-on
returns-clause-on g c =
    let laws : offering.Laws = record { tell = c.finished_states_tell.ensures; heads = c.heads_are_known.ensures; results = c.results_stay.ensures } in
    let d = c.attempt-left.ensures.done in
    (visited.offered _ _ _ d.0 d.3.shown.now d.3.shows d.2 c.leases_stay.ensures _ c.requires.brings _ c.requires.committed laws d.1 d.3.left.now d.3.leaves _ d.3.met (knowledge c.attempt-left.new.pass) d.4).0

pub returns-clause-offered : goal.returns-clause-offered
returns-clause-offered g c =
    let laws : offering.Laws = record { tell = c.finished_states_tell.ensures; heads = c.heads_are_known.ensures; results = c.results_stay.ensures } in
    let d = c.attempt-left.ensures.done in
    (visited.offered _ _ _ d.0 d.3.shown.now d.3.shows d.2 c.leases_stay.ensures _ c.requires.brings _ c.requires.committed laws d.1 d.3.left.now d.3.leaves _ d.3.met (knowledge c.attempt-left.new.pass) d.4).1
