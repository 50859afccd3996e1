-- What the replay of a journal comes to: the run that the journal is, or its first label that can't be taken.
use Rattle.std.specs.Prelude.{◌≡◌, ◌↔◌, ◌+◌, ℕ, List, ◌∷◌, ◌++◌, length, map, min, take, IsTrue, None, Result, Ok, Err}
use Rattle.wave_base.specs.Starts.{first_start}
use Rattle.wave_text.specs.Verdicts.{IsOnly}
use Rattle.wave_labels.specs.declared.label.Label.{Label}
use Rattle.wave_labels.specs.Labels.{label_of}
use Rattle.wave_states.specs.Canonical as canonical
use Rattle.wave_states.specs.Runs as runs
use Rattle.wave_states.specs.Steps as steps
use Rattle.plan_actors.specs.PlanActors.{plan_actors}
use Rattle.plan_actors.specs.Plans.{Plan}
use Rattle.wave_effects.specs.Glances.{IsGlance}
use Rattle.wave_effects.specs.Machines.{IsReached, TheState}
use Rattle.journal_replay.specs.declared.error.ReplayError.{ReplayError}
use Rattle.journal_replay.specs.declared.error.ReplayError.TheVariants.{Refused, OutOfMemory}
use Rattle.journal_replay.specs.declared.replaying.Replayed.{Replayed}

module _ (plan : Plan) where
  -- the labels are a run of the plan, from its first Start to this state
  abbrev pub LeadsTo : List Label → TheState → Type 0
  LeadsTo labels s = IsReached plan (first_start plan.program.shape) (map label_of labels) s

  -- The journal is a run: as many labels as were taken, whether nothing can be done any more, and a glance at the state after the first
  -- `shown` labels, or after the last where there are fewer.
  pub record IsReplay (journal : List Label) (show : ℕ) (r : Replayed) : Type 0 where
    pub steps : r.steps ≡ length journal
    pub last : TheState
    pub run : LeadsTo journal last
    pub finished : IsTrue r.finished ↔ runs.Finished (plan_actors plan.program) plan.workers last
    pub shown : r.shown ≡ min show (length journal)
    pub state : TheState
    pub seen : LeadsTo (take r.shown journal) state
    pub glance : IsGlance state r.glance

  -- The labels before it are a run, and it can't be taken where that leads to; what can be is the canonical list.
  pub record IsRefusal (journal : List Label) (step : ℕ) (label : Label) (enabled : List Label) : Type 0 where
    pub before : List Label
    pub after : List Label
    pub parts : journal ≡ before ++ label ∷ after
    pub place : step ≡ length before + 1
    pub state : TheState
    pub run : LeadsTo before state
    pub refused : steps.step (plan_actors plan.program) plan.workers state (label_of label) ≡ None
    pub listed : map label_of enabled ≡ canonical.enabled_labels (plan_actors plan.program) plan.workers plan.script.hosts state

  abbrev pub IsOutcome : List Label → ℕ → Result Replayed ReplayError → Type 0
  IsOutcome journal show (Ok r) = IsReplay journal show r
  IsOutcome journal show (Err (Refused step label enabled)) = IsRefusal journal step label enabled
  IsOutcome journal show (Err (OutOfMemory _)) = ⊥

  -- it comes to that, and to nothing else; want of memory says nothing
  abbrev pub IsOnlyOutcome : List Label → ℕ → Result Replayed ReplayError → Type 0
  IsOnlyOutcome journal show (Err (OutOfMemory _)) = Unit {0}
  IsOnlyOutcome journal show r = IsOnly (IsOutcome journal show) r
