-- What a script leaves that began with the root alone can be saved.
use Rattle.std.proofs.Common.{◌≤◌, arith}
use Rattle.wave_base.specs.declared.finished.Finished.{Finished}
use Rattle.wave_base.specs.declared.limits.TheConstants.{SAVED_TICKET}
use Rattle.wave_base.specs.declared.script.Script.{Script}
use Rattle.wave_base.specs.declared.shape.Shape.{Shape}
use Rattle.wave_base.specs.declared.start.Start.{Start}
use Rattle.wave_base.specs.Scripts.{IsScript}
use Rattle.wave_base.specs.Starts.{IsStart, first_start}
use Rattle.script_fold.specs.Runs.{finished_of, start_after, IsFew}
use Rattle.service_code.specs.declared.program.Program.{Program}
use Rattle.service_verify.specs.Fit.{IsFit}
use Rattle.service_verify.specs.Points.{IsVerified}
use Rattle.plan_actors.specs.Calls.{code_ran}
use Rattle.plan_actors.specs.Plans.{Plan, Fits, FitsStart}
use Rattle.fold_laws.specs.Cuts.{start_behind, Comes}
use Rattle.fold_laws.specs.Growth.{StaysFew}
use Rattle.checkpoint_store.specs.Points.{IsPoint}
use Rattle.due_parts.specs.Told.{point_behind}

-- what is known of how much a run adds, and of how it is cut
abbrev pub PlansStayFew : Type 0
PlansStayFew = (plan : Plan) (start : Start) → Fits plan → FitsStart plan start → StaysFew start plan.script.batches (finished_of (code_ran plan.program) plan.program.shape start plan.script)

abbrev pub FewAreSaved : Type 0
FewAreSaved = (shape : Shape) (script : Script) (f : Finished) → IsScript shape script → StaysFew (first_start shape) script.batches f → IsFew (start_after (first_start shape) f) × ((start_after (first_start shape) f).next.0 ≤ SAVED_TICKET)

abbrev pub RunsCome : Type 0
RunsCome = (program : Program) (start : Start) (a : Script) → IsFit program → IsVerified program → IsScript program.shape a → IsStart program.shape a.hosts start → IsFew (start_behind (code_ran program) program.shape start a) → Comes (code_ran program) program.shape start a

module _ (few : PlansStayFew) (saved : FewAreSaved) (come : RunsCome) (plan : Plan) (fits : Fits plan) (begins : FitsStart plan (first_start plan.program.shape)) where
  abbrev start : Start
  start = first_start plan.program.shape

  abbrev done : Finished
  done = finished_of (code_ran plan.program) plan.program.shape start plan.script

  are_few : IsFew (start_after start done) × ((start_after start done).next.0 ≤ SAVED_TICKET)
  are_few = saved plan.program.shape plan.script done fits.script (few plan start fits begins)

  pub can_be_saved : IsPoint plan.program.shape (point_behind start plan.script done)
  can_be_saved = record {
    numbers = record { some_host = fits.script.some_host; few_hosts = fits.script.few_hosts; few_lines = fits.script.few_lines; first_next = omega arith; last_next = are_few.1 };
    fits = (come plan.program start plan.script fits.fit fits.verified fits.script begins are_few.0).begins;
  }
