-- A thread's job, and what it gives back.
use Rattle.std.specs.Prelude.{◌≡◌, Result, OnOk}
use Rattle.wave_base.specs.declared.memory.OutOfMemory.{OutOfMemory}
use denote.Bor.{Bor}
use Rattle.kept_lock.specs.declared.lock.Pass.{Pass}
use Rattle.kept_lock.specs.Locks.{knowledge, IsPassOf}
use Rattle.lock_counter.specs.declared.counter.Addition.{Addition}
use Rattle.lock_counter.specs.declared.counter.Counter.{Counter}
use Rattle.lock_counter.specs.declared.counter.Plan.{Plan}
use Rattle.lock_counter.specs.declared.thread.Job.{Job}
use Rattle.lock_counter.specs.Passes.{IsFresh, HasAdded}

-- the job's pass is of its lock, has its number and has made nothing
abbrev pub IsReady : Job → Type 0
IsReady job = IsPassOf job.lock.now job.pass × IsFresh (knowledge job.pass) job.me

-- the pass is of the job's lock and has its number; at `Ok` it made what the job says, and nothing else
abbrev pub IsDone : Job → Pass Counter (Bor Plan) Addition × Result (Unit {0}) OutOfMemory → Type 0
IsDone job done = IsPassOf job.lock.now done.0 × ((knowledge done.0).number ≡ job.me) × OnOk done.1 (HasAdded (knowledge done.0) job.me job.amount job.times)
