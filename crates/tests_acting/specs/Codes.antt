-- Fit verified programs as the codes of a kind of actors, and what their events owe.
use Rattle.std.specs.Prelude.{ℕ, Some, ◌≡◌}
use Rattle.wave_base.specs.declared.outcome.EventResult.{EventResult}
use Rattle.wave_base.specs.declared.call.Call.{Call}
use Rattle.service_code.specs.declared.program.Program.{Program}
use Rattle.service_verify.specs.Fit.{IsFit}
use Rattle.service_verify.specs.Points.{IsVerified}
use Rattle.service_verify.specs.Segments.{Event}
use Rattle.service_verify.specs.Standing.{HasFields, Stands}
use Rattle.wave_states.specs.Begins.{Begin}
use Rattle.wave_states.specs.Owes.{Owes}
use Rattle.wave_states.specs.States.{State, Hand}
use Rattle.code_actor.specs.CodeActors.{Fields, code_kind}
use Rattle.code_actor.proofs.Whole.{owes}

-- a program that is fit and verified, and how many hosts its jobs may name
pub record FitCode : Type 0 where
  pub program : Program
  pub hosts : ℕ
  pub fit : IsFit program
  pub verified : IsVerified program

abbrev pub events_owe : (c : FitCode) → Owes (code_kind c.program c.hosts)
events_owe c = owes c.program c.fit c.verified c.hosts

-- The event and the record in each hand meet the conditions of a segment: the event stands where it runs, and the fields of the
-- record have the kinds of that context's class.
abbrev pub MayRunSegment : Program → State Event Fields EventResult Call → Type 0
MayRunSegment program s = (worker : ℕ) (hand : Hand Event Fields) → s.hands worker ≡ Some hand → ((calls : ℕ) × Stands program hand.path calls hand.actor) × HasFields program.shape hand.path hand.body.fields
