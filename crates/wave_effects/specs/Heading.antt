-- What the labels on the head ask for.
use Rattle.std.specs.Prelude.{◌≡◌, ◌+◌, ◌≤◌, ◌^◌, ℕ, suc, List, length, sum_by, Some, All, vec_len, vec_capacity, ◌<◌}
use Rattle.wave_base.specs.declared.call.Call.{Call}
use Rattle.wave_base.specs.declared.outcome.EventResult.{EventResult}
use Rattle.wave_base.specs.declared.script.Line.{Line}
use Rattle.wave_base.specs.declared.start.Start.{Start}
use Rattle.head_tickets.specs.Heads.{next_line}
use Rattle.commit_order.specs.Commits.{ready_result}
use Rattle.script_fold.specs.Lines.{FitsJob}
use Rattle.service_code.specs.declared.program.Program.{Program}
use Rattle.event_cells.specs.declared.cell.Cell.{Cell}
use Rattle.event_cells.specs.Cells.{StandsFor, first_desk}
use Rattle.wave_states.specs.Alone.{fold_alone}
use Rattle.code_actor.specs.CodeActors as code
use Rattle.plan_actors.specs.PlanActors as theory
use Rattle.plan_actors.specs.Plans.{Plan, begin_in}
use Rattle.wave_effects.specs.declared.actor.Actor.{Actor}
use Rattle.wave_effects.specs.declared.engine.Engine.{Engine}
use Rattle.wave_effects.specs.Actors.{IsActor, peeks_now}
use Rattle.wave_effects.specs.Machines.{Kept, TheState}

-- the cell of a line's job under a ticket, which was just admitted: it has one mail
pub record IsMade (program : Program) (line : Line) (t : ℕ) (c : Cell Actor) : Type 0 where
  pub actor : Actor
  pub there : c.actor ≡ Some actor
  pub made : IsActor program actor (theory.actor_of program line t)
  pub desk : StandsFor c (first_desk actor t (peeks_now actor))
  pub one_mail : length c.outbox.mails ≡ 1

-- the cell of the job that is admitted next
abbrev pub IsNext : Kept → Cell Actor → Type 0
IsNext m c = (line : Line) → next_line m.head ≡ Some line → IsMade m.plan.program line (m.first + m.head.admitted) c

-- the calls that the result creates that is committed next
abbrev pub AreCreated : Kept → List Call → Type 0
AreCreated m calls = (r : EventResult) → ready_result m.commits ≡ Some r → calls ≡ r.created

-- there is room for one more admitted ticket
pub record RoomToAdmit (m : Engine) : Type 0 where
  pub cells : vec_len m.cells < vec_capacity m.cells
  pub kinds : vec_len m.kinds < vec_capacity m.kinds

-- there is room for one more committed ticket, which creates so many calls
pub record RoomToCommit (m : Engine) (calls : ℕ) : Type 0 where
  pub settled : 1 ≤ m.settled.room
  pub head : calls ≤ m.head.room

-- the first ticket of a run is the Start's; the head of a state that is reached is the fold's; its jobs are jobs, and all that have and get
-- tickets have tickets of 32 bits
pub record KnownHead (plan : Plan) (start : Start) (s : TheState) : Type 0 where
  pub first : suc s.before ≡ start.next.0
  pub head : s.head ≡ (fold_alone (theory.plan_actors plan.program) (begin_in plan start) plan.script.batches s.head.done).head
  pub in_time : s.head.done ≤ s.admitted
  pub jobs : All (FitsJob (code.IsJob plan.program)) s.head.known
  pub room : start.next.0 + length s.head.known + sum_by length s.head.later ≤ 2 ^ 32
