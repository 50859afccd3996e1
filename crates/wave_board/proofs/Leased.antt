-- The lease of a Start, and of a Stop.
use Rattle.std.proofs.Common.{◌≡◌, ◌∙◌, ℕ, true, Option, Some, None, refl, sym, ap, arith}
use Rattle.wave_labels.specs.declared.label.Act.{Act}
use Rattle.wave_labels.specs.declared.label.Act.TheVariants.{Admit, Queue, Grant, Visit, Start, Stop, Free, Pass, Land, Commit}
use Rattle.wave_labels.specs.declared.label.Label.{Label}
use Rattle.wave_labels.specs.Labels.{act_of, label_of}
use Rattle.label_log.specs.Logs.{path_of}
use Rattle.wave_base.specs.declared.numbers.Ticket.{Ticket}
use Rattle.wave_base.specs.declared.path.Path.{Path}
use Rattle.service_code.specs.declared.program.Program.{Program}
use Rattle.code_actor.specs.CodeActors.{Fields}
use Rattle.wave_states.specs.Labels as theory
use Rattle.wave_states.specs.States.{Hand}
use Rattle.wave_states.specs.Steps.{step}
use Rattle.plan_actors.specs.PlanActors as actors
use Rattle.plan_actors.specs.PlanActors.{plan_actors}
use Rattle.wave_effects.specs.declared.lease.Lease.{Lease}
use Rattle.wave_effects.specs.Leases.{StandsFor}
use Rattle.wave_effects.specs.Machines.{TheState}
use Rattle.wave_effects.specs.Acts.{is_start}
use Rattle.wave_effects.specs.Running.{IsInHand, stop_of}
use Rattle.wave_board.proofs.Idle.{begun}

pub record InHand (program : Program) (lease : Lease) (o : Option (Hand actors.Actor Fields)) : Type 0 where
  pub hand : Hand actors.Actor Fields
  pub there : o ≡ Some hand
  pub stands : StandsFor program lease hand

pub in_hand : (program : Program) (lease : Lease) (o : Option (Hand actors.Actor Fields)) → IsInHand program lease o → InHand program lease o
in_hand program lease None h = absurd h
in_hand program lease (Some g) h = record { hand = g; there = refl; stands = h }

module _ (program : Program) (workers : ℕ) (s v : TheState) (w host : ℕ) (lease : Lease) (held : IsInHand program lease (v.hands w)) where
  -- the Start of what is in the hand after it is that of the lease
  pub start_is : (a : Act) → is_start a ≡ true → step (plan_actors program) workers s (record { worker = w; host = host; act = act_of a }) ≡ Some v → a ≡ Start lease.ticket lease.path
  start_is (Start t p) e f =
      let g = in_hand program lease (v.hands w) held in
      let b = begun (plan_actors program) workers s v w host t.0 p f g.hand g.there in
      both t lease.ticket p lease.path (sym b.0 ∙ g.stands.ticket) (sym b.1 ∙ g.stands.path)
    where
      both : (t u : Ticket) (p q : Path) → t.0 ≡ u.0 → p ≡ q → Start t p ≡ Start u q
      both t u p q e f = λ i. Start (record { 0 = e i }) (f i)
  start_is (Stop t p) e f = absurd (grind arith)
  start_is (Admit t) e f = absurd (grind arith)
  start_is (Queue k p) e f = absurd (grind arith)
  start_is (Grant t p) e f = absurd (grind arith)
  start_is (Visit k p) e f = absurd (grind arith)
  start_is (Free k p) e f = absurd (grind arith)
  start_is (Pass k p g) e f = absurd (grind arith)
  start_is (Land k p) e f = absurd (grind arith)
  start_is (Commit t) e f = absurd (grind arith)

path_of_stop : (a : Act) (t : ℕ) (p : Path) → act_of a ≡ theory.Stop t p → path_of a ≡ p
path_of_stop (Stop u q) t p e = cc
path_of_stop (Start u q) t p e = cc
path_of_stop (Admit u) t p e = cc
path_of_stop (Queue k q) t p e = cc
path_of_stop (Grant u q) t p e = cc
path_of_stop (Visit k q) t p e = cc
path_of_stop (Free k q) t p e = cc
path_of_stop (Pass k q g) t p e = cc
path_of_stop (Land k q) t p e = cc
path_of_stop (Commit u) t p e = cc

-- the Stop of a lease is done to the lease's context
pub stop_path : (lease : Lease) (l : Label) → label_of l ≡ stop_of lease l.host.0 → path_of l.act ≡ lease.path
stop_path lease l e = path_of_stop l.act lease.ticket.0 lease.path (ap (λ (x : theory.Label). x.act) e)
