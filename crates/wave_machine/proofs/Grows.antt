-- An Admit brings the cell behind the last one.
use Rattle.std.proofs.Common.{◌≡◌, ◌+◌, length, Some, arith}
use Rattle.wave_states.specs.Labels.{Act, Label, Admit, Queue, Grant, Visit, Start, Stop, Free, Pass, Land, Commit, ticket_of}
use Rattle.wave_states.specs.Steps.{step}
use Rattle.plan_actors.specs.PlanActors.{plan_actors}
use Rattle.wave_effects.specs.Machines.{IsEnabled, Kept}
use Rattle.wave_effects.specs.Apart.{new_cells}
use Rattle.wave_effects.proofs.Headed.{admits}

pub admit_grows : (m : Kept) (l : Label) → IsEnabled m l → new_cells l.act ≡ 1 → ticket_of l.act ≡ m.first + length m.cells
admit_grows m l on one = by_act l.act on.enabled one
  where
    by_act : (a : Act) → step (plan_actors m.plan.program) m.plan.workers on.state (record { worker = l.worker; host = l.host; act = a }) ≡ Some on.next → new_cells a ≡ 1 → ticket_of a ≡ m.first + length m.cells
    by_act (Admit t) e o =
        let it = (admits (plan_actors m.plan.program) m.plan.workers on.state on.next l.worker l.host t e).ticket in
        let h = on.stands.shows.head in
        let before = h.before in
        let admitted = h.admitted in
        let many = on.stands.shows.cells.as_many in
        omega (arith, it, before, admitted, many)
    by_act (Queue t k p) e o = absurd (omega (arith, o))
    by_act (Grant t p) e o = absurd (omega (arith, o))
    by_act (Visit t k p) e o = absurd (omega (arith, o))
    by_act (Start t p) e o = absurd (omega (arith, o))
    by_act (Stop t p) e o = absurd (omega (arith, o))
    by_act (Free t k p) e o = absurd (omega (arith, o))
    by_act (Pass t k p g) e o = absurd (omega (arith, o))
    by_act (Land t k p) e o = absurd (omega (arith, o))
    by_act (Commit t) e o = absurd (omega (arith, o))
