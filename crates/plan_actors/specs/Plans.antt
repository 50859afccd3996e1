-- Plans: what the machine is to run; and that a plan fits.
use Rattle.std.specs.Prelude.{◌≤◌, ℕ}
use Rattle.wave_base.specs.declared.limits.TheConstants.{WORKERS}
use Rattle.wave_base.specs.declared.script.Script.{Script}
use Rattle.wave_base.specs.declared.start.Start.{Start}
use Rattle.wave_base.specs.Scripts.{IsScript}
use Rattle.wave_base.specs.Starts.{IsStart}
use Rattle.service_code.specs.declared.program.Program.{Program}
use Rattle.service_verify.specs.Fit.{IsFit}
use Rattle.service_verify.specs.Points.{IsVerified}
use Rattle.wave_states.specs.Begins.{Begin, begin_of}
use Rattle.wave_states.specs.Owes.{Owes}
use Rattle.code_actor.specs.CodeActors.{Fields}
use Rattle.plan_actors.specs.PlanActors.{plan_kind}

-- a program, a script for its shape, and how many workers there are
pub record Plan : Type 0 where
  pub program : Program
  pub script : Script
  pub workers : ℕ

-- the script names at most 8 hosts, and there are at most 16 workers
pub record Fits (plan : Plan) : Type 0 where
  pub fit : IsFit plan.program
  pub verified : IsVerified plan.program
  pub script : IsScript plan.program.shape plan.script
  pub some_worker : 1 ≤ plan.workers
  pub few_workers : plan.workers ≤ WORKERS

-- a Start of its shape and its hosts
abbrev pub FitsStart : Plan → Start → Type 0
FitsStart plan start = IsStart plan.program.shape plan.script.hosts start

-- what the machine begins with
abbrev pub begin_in : Plan → Start → Begin Fields
begin_in plan start = begin_of plan.program.shape start

-- what the actors of plans run on: a program and a number of hosts, with which they owe what the machine asks
pub record Setting : Type 0 where
  pub program : Program
  pub hosts : ℕ
  pub owed : Owes (plan_kind program hosts)
