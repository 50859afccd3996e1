-- Drives are finished runs, and each crew has a run.
use Rattle.std.proofs.Common.{◌≡◌, ◌∙◌, ◌≤◌, ℕ, arith, List, [], ◌∷◌, map, Option, Some, None, refl, sym, ap, subst}
use Rattle.std.specs.Prelude.{max}
use Rattle.std.proofs.Math.Nat.{le-max_right, le-min, min-le_right}
use Rattle.wave_base.specs.declared.limits.TheConstants.{WORKERS}
use Rattle.std.specs.Prelude.{◌↔◌}
use Rattle.wave_base.specs.declared.finished.Finished as declared
use Rattle.wave_base.specs.declared.outcome.EventResult.{EventResult}
use Rattle.wave_base.specs.declared.script.Line.{Line}
use Rattle.wave_base.specs.declared.start.Start.{Start}
use Rattle.resolved_service.specs.declared.service.Resolved.{Resolved}
use Rattle.code_runner.specs.Coded.{IsCode}
use Rattle.wave_meaning.specs.Meaning.{results_at}
use Rattle.command_words.specs.declared.command.Crew.{Crew}
use Rattle.command_words.specs.declared.command.Schedule.{Schedule}
use Rattle.wave_states.specs.Begins.{start_state}
use Rattle.wave_states.specs.Labels as theory
use Rattle.wave_states.specs.Runs.{Finished, Rule, run}
use Rattle.wave_theory.specs.Drives.{HasDrive, Picks, RulesPick}
use Rattle.code_actor.specs.CodeActors.{Fields}
use Rattle.plan_actors.specs.Finishing.{Tells}
use Rattle.plan_actors.specs.PlanActors.{Actor, plan_actors, plan_kind}
use Rattle.plan_actors.specs.Plans.{Plan, Fits, FitsStart, begin_in}
use Rattle.wave_labels.specs.declared.label.Act.{Act}
use Rattle.wave_labels.specs.declared.label.Act.TheVariants as act
use Rattle.wave_labels.specs.declared.label.Label.{Label}
use Rattle.wave_labels.specs.Labels.{act_of, label_of}
use Rattle.wave_drives.specs.declared.rules.PickRule.{PickRule}
use Rattle.wave_drives.specs.declared.rules.PickRule.TheVariants as rule
use Rattle.wave_effects.specs.Kinds.{is_move, job_kind}
use Rattle.wave_effects.specs.Machines.{IsFinishedRun, IsReached, TheState}
use Rattle.wave_drives.specs.Rules.{rule_number, rule_of}
use Rattle.wave_drives.specs.Measured.{DrivesAreMeasured}
use Rattle.wave_effects.specs.Lengths.{FinishedRunsAreMeasured, IsMeasured}
use Rattle.due_parts.specs.Runs.{ComesTo, IsDriveBy, IsRunBy, IsRunOf, nearest_workers, rule_by}

-- ---- the label of a program for each label of the theory

abbrev act_for : theory.Act → Act
act_for (theory.Admit t) = act.Admit (record { 0 = t })
act_for (theory.Queue t k p) = act.Queue (record { ticket = record { 0 = t }; number = k }) p
act_for (theory.Grant t p) = act.Grant (record { 0 = t }) p
act_for (theory.Visit t k p) = act.Visit (record { ticket = record { 0 = t }; number = k }) p
act_for (theory.Start t p) = act.Start (record { 0 = t }) p
act_for (theory.Stop t p) = act.Stop (record { 0 = t }) p
act_for (theory.Free t k p) = act.Free (record { ticket = record { 0 = t }; number = k }) p
act_for (theory.Pass t k p g) = act.Pass (record { ticket = record { 0 = t }; number = k }) p (record { 0 = g })
act_for (theory.Land t k p) = act.Land (record { ticket = record { 0 = t }; number = k }) p
act_for (theory.Commit t) = act.Commit (record { 0 = t })

act_back : (a : theory.Act) → act_of (act_for a) ≡ a
act_back (theory.Admit t) = refl
act_back (theory.Queue t k p) = refl
act_back (theory.Grant t p) = refl
act_back (theory.Visit t k p) = refl
act_back (theory.Start t p) = refl
act_back (theory.Stop t p) = refl
act_back (theory.Free t k p) = refl
act_back (theory.Pass t k p g) = refl
act_back (theory.Land t k p) = refl
act_back (theory.Commit t) = refl

abbrev label_for : theory.Label → Label
label_for l = record { worker = record { 0 = l.worker }; host = record { 0 = l.host }; act = act_for l.act }

label_back : (l : theory.Label) → label_of (label_for l) ≡ l
label_back l = λ i. record { worker = l.worker; host = l.host; act = act_back l.act i }

abbrev journal_for : List theory.Label → List Label
journal_for [] = []
journal_for (l ∷ ls) = label_for l ∷ journal_for ls

journal_back : (ls : List theory.Label) → map label_of (journal_for ls) ≡ ls
journal_back [] = refl
journal_back (l ∷ ls) = ap (λ x. x ∷ map label_of (journal_for ls)) (label_back l) ∙ ap (λ xs. l ∷ xs) (journal_back ls)

-- ---- how many workers a plan has

pub some_nearest : (n : ℕ) → 1 ≤ nearest_workers n
some_nearest n = le-min (le-max_right n 1) (omega arith)

pub few_nearest : (n : ℕ) → nearest_workers n ≤ WORKERS
few_nearest n = min-le_right (max n 1) WORKERS

-- ---- drives

-- what is known of the rules, and of the drives of plans
abbrev pub TheRulesPick : Type 0
TheRulesPick = RulesPick Actor Fields EventResult Line

abbrev pub PlansDrive : Type 0
PlansDrive = (plan : Plan) (start : Start) → Fits plan → FitsStart plan start → (r : Rule Actor Fields EventResult Line) → Picks r → (x : ℕ) → HasDrive (plan_kind plan.program plan.script.hosts) plan.workers (begin_in plan start) plan.script.batches r x

picks : TheRulesPick → (r : PickRule) → Picks (rule_of r)
picks k (rule.Seed x) = k.by_seed
picks k rule.Oldest = k.by_oldest
picks k rule.Newest = k.by_newest
picks k rule.Movers = k.by_movers (λ line. is_move (job_kind line))
picks k rule.MailLast = k.by_mail_last

module _ (rules : TheRulesPick) (drives : PlansDrive) (plan : Plan) (start : Start) (fits : Fits plan) (begins : FitsStart plan start) where
  abbrev drive : (r : PickRule) → HasDrive (plan_kind plan.program plan.script.hosts) plan.workers (begin_in plan start) plan.script.batches (rule_of r) (rule_number r)
  drive r = drives plan start fits begins (rule_of r) (picks rules r) (rule_number r)

  -- the drive of a rule is a finished run
  pub drive_finished : (r : PickRule) (labels : List theory.Label) → IsDriveBy r plan start labels → IsFinishedRun plan start labels
  drive_finished r labels is = record {
    state = (drive r).state;
    reached = subst (λ (ls : List theory.Label). run (plan_actors plan.program) plan.workers (start_state (begin_in plan start) plan.script.batches) ls ≡ Some (drive r).state) (sym ((drive r).only labels is)) (drive r).is_run;
    finished = (drive r).finished;
  }

  -- what a rule drives is a run of a crew whose schedule is that rule, if it has one
  pub drive_of : (crew : Crew) (r : PickRule) (labels : List theory.Label) → ((schedule : Schedule) → crew.schedule ≡ Some schedule → r ≡ rule_by schedule) → IsDriveBy r plan start labels → IsRunOf crew plan start labels
  drive_of crew r labels by is = by_schedule crew.schedule by
    where
      by_schedule : (o : Option Schedule) → ((schedule : Schedule) → o ≡ Some schedule → r ≡ rule_by schedule) → IsRunBy o plan start labels
      by_schedule (Some schedule) by = subst (λ q. IsDriveBy q plan start labels) (by schedule refl) is
      by_schedule None by = drive_finished r labels is

  -- each crew has a run
  pub some_run : (crew : Crew) → (journal : List Label) × IsRunOf crew plan start (map label_of journal)
  some_run crew = by_schedule crew.schedule
    where
      by_schedule : (o : Option Schedule) → (journal : List Label) × IsRunBy o plan start (map label_of journal)
      by_schedule (Some schedule) = (journal_for (drive (rule_by schedule)).labels, subst (IsDriveBy (rule_by schedule) plan start) (sym (journal_back (drive (rule_by schedule)).labels)) (drive (rule_by schedule)).is_drive)
      by_schedule None = (journal_for (drive rule.Oldest).labels, subst (IsFinishedRun plan start) (sym (journal_back (drive rule.Oldest).labels)) (drive_finished rule.Oldest (drive rule.Oldest).labels (drive rule.Oldest).is_drive))

-- ---- how long runs are, and what they come to

run_measured : FinishedRunsAreMeasured → DrivesAreMeasured → (plan : Plan) (start : Start) → Fits plan → FitsStart plan start → (labels : List theory.Label) (o : Option Schedule) → IsRunBy o plan start labels → IsMeasured plan start labels
run_measured finished drives plan start fits begins labels (Some schedule) is = drives plan start fits begins (rule_by schedule) labels is
run_measured finished drives plan start fits begins labels None run = finished plan start fits begins labels run.state run.reached run.finished

-- what is known of finished states
abbrev pub FinishedStatesMean : Type 0
FinishedStatesMean = (service : Resolved) (plan : Plan) (start : Start) → IsCode service plan.program → Fits plan → FitsStart plan start → (labels : List theory.Label) (s : TheState) → IsReached plan start labels s
    → Finished (plan_actors plan.program) plan.workers s → (f : declared.Finished) → Tells s start plan.script.batches f ↔ (f ≡ results_at plan.program.shape service start plan.script)

module _ (rules : TheRulesPick) (drives : PlansDrive) (plan : Plan) (start : Start) (fits : Fits plan) (begins : FitsStart plan start) where
  -- whatever picks them, they are a finished run
  any_finished : (o : Option Schedule) (labels : List theory.Label) → IsRunBy o plan start labels → IsFinishedRun plan start labels
  any_finished (Some schedule) labels is = drive_finished rules drives plan start fits begins (rule_by schedule) labels is
  any_finished None labels run = run

  pub run_comes : FinishedRunsAreMeasured → DrivesAreMeasured → FinishedStatesMean → (service : Resolved) → IsCode service plan.program → (o : Option Schedule) (labels : List theory.Label) → IsRunBy o plan start labels
      → (done : declared.Finished) → done ≡ results_at plan.program.shape service start plan.script → ComesTo plan start labels done
  run_comes measured drives_measured mean service code o labels is done told =
      let run = any_finished o labels is in
      record {
        run = run;
        tells = (mean service plan start code fits begins labels run.state run.reached run.finished done).1 told;
        measured = run_measured measured drives_measured plan start fits begins labels o is;
      }
