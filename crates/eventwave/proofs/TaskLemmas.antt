-- What is known of the task of a command, and of what runs its script.
use Rattle.std.proofs.Common.{◌≡◌, ℕ, Bool, true, false, Option, None, Some, ap, refl, sym, subst}
use Rattle.std.specs.Prelude.{is_none}
use Rattle.command_words.specs.declared.command.Command.{Command}
use Rattle.command_words.specs.declared.command.Command.TheVariants.{Run, Seq, Trace, Save, Resume, Replay, Check, Print, Code, Gen, Load}
use Rattle.command_words.specs.declared.command.Places.{Places}
use Rattle.command_words.specs.declared.command.Schedule.{Schedule}
use Rattle.command_words.specs.Inputs.{runs_workers}
use Rattle.due_answer.specs.declared.task.Engine.{Engine}
use Rattle.due_answer.specs.declared.task.Engine.TheVariants.{Evaluator, Drive, Workers}
use Rattle.due_answer.specs.declared.task.Task.{Task}
use Rattle.due_answer.specs.Tasks.{engine_by, engine_of, staged_of, task_of, workers_of}
use Rattle.due_parts.specs.declared.telling.Telling.{Telling}
use Rattle.due_parts.specs.declared.telling.Telling.TheVariants.{Reports, Traces}
use Rattle.eventwave.specs.inner.Engines.{is_alone}
use Rattle.eventwave.specs.inner.Tasks.{has_lines}

-- a trace is that of the crew that runs it
abbrev pub Suits : Telling → Engine → Type 0
Suits (Reports report) engine = Unit {0}
Suits (Traces places crew) engine = engine ≡ engine_of crew

-- workers run by workers alone, and what they don't run is run on one thread
abbrev pub RunsBy : Bool → Engine → Type 0
RunsBy true engine = engine ≡ Workers (workers_of engine)
RunsBy false engine = is_alone engine ≡ true

-- and then has lines
abbrev pub Runs : Bool → Task → Type 0
Runs true task = RunsBy true task.engine
Runs false task = RunsBy false task.engine × (has_lines task.telling ≡ true)

some_task : (x y : Task) → Some x ≡ Some y → x ≡ y
some_task x y e = cc

by_some : (P : Task → Type 0) (x task : Task) → Some x ≡ Some task → P x → P task
by_some P x task e p = subst P (some_task x task e) p

no_task : {X : Type 0} (task : Task) → ◌≡◌ {A = Option Task} None (Some task) → X
no_task task e = absurd cc

pub suits : (c : Command) (task : Task) → task_of c ≡ Some task → Suits task.telling task.engine
suits (Run places crew) task e = no_task task e
suits (Seq places) task e = no_task task e
suits (Trace places crew) task e = by_some (λ t. Suits t.telling t.engine) _ task e refl
suits (Save crew) task e = by_some (λ t. Suits t.telling t.engine) _ task e tt
suits (Resume places crew) task e = by_some (λ t. Suits t.telling t.engine) _ task e tt
suits (Load n crew) task e = by_some (λ t. Suits t.telling t.engine) _ task e tt
suits (Replay n crew) task e = no_task task e
suits Check task e = no_task task e
suits Print task e = no_task task e
suits Code task e = no_task task e
suits (Gen n) task e = no_task task e

-- who runs what a crew runs
by_crew : (workers : ℕ) (schedule : Option Schedule) (by_workers : Bool) → is_none schedule ≡ by_workers → RunsBy by_workers (engine_by workers schedule)
by_crew workers (Some schedule) true e = absurd cc
by_crew workers (Some schedule) false e = refl
by_crew workers None true e = refl
by_crew workers None false e = absurd cc

with_lines : (telling : Telling) (engine : Engine) (by_workers : Bool) → RunsBy by_workers engine → has_lines telling ≡ true → Runs by_workers (record { telling = telling; engine = engine })
with_lines telling engine true by lines = by
with_lines telling engine false by lines = (by, lines)

by_workers_alone : (telling : Telling) (workers : ℕ) (by_workers : Bool) → true ≡ by_workers → Runs by_workers (record { telling = telling; engine = Workers workers })
by_workers_alone telling workers true e = refl
by_workers_alone telling workers false e = absurd cc

pub runs : (c : Command) (by_workers : Bool) (task : Task) → runs_workers c ≡ by_workers → task_of c ≡ Some task → Runs by_workers task
runs (Run places crew) b task who e = no_task task e
runs (Seq places) b task who e = no_task task e
runs (Trace places crew) b task who e = by_some (Runs b) _ task e (with_lines _ (engine_of crew) b (by_crew crew.workers crew.schedule b who) refl)
runs (Save crew) b task who e = by_some (Runs b) _ task e (by_workers_alone _ crew.workers b who)
runs (Resume places crew) b task who e = by_some (Runs b) _ task e (with_lines _ (engine_of crew) b (by_crew crew.workers crew.schedule b who) refl)
runs (Load n crew) b task who e = by_some (Runs b) _ task e (by_workers_alone _ crew.workers b who)
runs (Replay n crew) b task who e = no_task task e
runs Check b task who e = no_task task e
runs Print b task who e = no_task task e
runs Code b task who e = no_task task e
runs (Gen n) b task who e = no_task task e

-- ---- scripts with policies

some_staged : (x y : Places × Engine) → Some x ≡ Some y → x ≡ y
some_staged x y e = cc

no_staged : {X : Type 0} (x : Places × Engine) → ◌≡◌ {A = Option (Places × Engine)} None (Some x) → X
no_staged x e = absurd cc

by_staged : (b : Bool) (x : Places × Engine) (places : Places) (engine : Engine) → Some x ≡ Some (places, engine) → RunsBy b x.1 → RunsBy b engine
by_staged b x places engine e by = subst (λ (y : Places × Engine). RunsBy b y.1) (some_staged x (places, engine) e) by

by_evaluator : (by_workers : Bool) → false ≡ by_workers → RunsBy by_workers Evaluator
by_evaluator true e = absurd cc
by_evaluator false e = refl

pub stages_run : (c : Command) (by_workers : Bool) (places : Places) (engine : Engine) → runs_workers c ≡ by_workers → staged_of c ≡ Some (places, engine) → RunsBy by_workers engine
stages_run (Run p crew) b places engine who e = by_staged b (p, engine_of crew) places engine e (by_crew crew.workers crew.schedule b who)
stages_run (Seq p) b places engine who e = by_staged b (p, Evaluator) places engine e (by_evaluator b who)
stages_run (Trace p crew) b places engine who e = no_staged (places, engine) e
stages_run (Save crew) b places engine who e = no_staged (places, engine) e
stages_run (Resume p crew) b places engine who e = no_staged (places, engine) e
stages_run (Load n crew) b places engine who e = no_staged (places, engine) e
stages_run (Replay n crew) b places engine who e = no_staged (places, engine) e
stages_run Check b places engine who e = no_staged (places, engine) e
stages_run Print b places engine who e = no_staged (places, engine) e
stages_run Code b places engine who e = no_staged (places, engine) e
stages_run (Gen n) b places engine who e = no_staged (places, engine) e
