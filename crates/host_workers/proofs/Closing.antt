-- The board of a lock that is closed, once worker 0 has seen that all is done.
use Rattle.std.proofs.Common.{◌≡◌, ◌∙◌, ℕ, List, [], ◌∷◌, ◌++◌, map, Option, Some, refl, sym, ap, append-nil, subst}
use Rattle.std.specs.Prelude.{◌↔◌, option_and_then}
use Rattle.std.specs.Io.KnownBytes.{Appends}
use Rattle.wave_base.specs.declared.finished.Finished as declared_finished
use Rattle.wave_base.specs.declared.start.Start.{Start}
use Rattle.kept_lock.specs.History.{StartsWith}
use Rattle.wave_labels.specs.declared.label.Label as declared_label
use Rattle.wave_labels.specs.Labels.{label_of}
use Rattle.wave_states.specs.Actors.{Actors}
use Rattle.wave_states.specs.Begins.{start_state}
use Rattle.wave_states.specs.Labels.{Label}
use Rattle.wave_states.specs.Runs.{Finished, run}
use Rattle.wave_states.specs.States.{State}
use Rattle.wave_states.specs.Steps.{step}
use Rattle.wave_theory.proofs.Basics.{some_same, then_some}
use Rattle.wave_io.specs.Streams.{AppendsFront}
use Rattle.listing_out.proofs.SinkLemmas.{written_front}
use Rattle.script_fold.specs.Runs.{finished_of}
use Rattle.plan_actors.specs.Calls.{code_ran}
use Rattle.plan_actors.specs.Finishing.{Tells}
use Rattle.plan_actors.specs.PlanActors.{plan_actors, plan_kind}
use Rattle.plan_actors.specs.Plans.{Plan, Fits, FitsStart, begin_in}
use Rattle.serial_runs.specs.Journals.{OwnersTake}
use Rattle.serial_runs.specs.Serial.{HasSerial}
use Rattle.wave_effects.specs.declared.plan.Plan as declared_plan
use Rattle.wave_effects.specs.Lengths.{FinishedRunsAreMeasured}
use Rattle.wave_effects.specs.Machines.{IsFinishedRun, IsReached, TheState}
use Rattle.wave_effects.specs.Plans.{plan_of}
use Rattle.wave_board.specs.declared.board.Board.{Board}
use Rattle.wave_board.specs.declared.origin.Origin.{Origin}
use Rattle.wave_board.specs.declared.trail.Trail.{Trail}
use Rattle.wave_board.specs.declared.trail.Trail.TheVariants.{Step, Halt}
use Rattle.wave_board.specs.Boards.{IsAt, StandsFor, history_of, labels_in, labels_of}
use Rattle.wave_board.specs.Taking.{IsFinished}
use Rattle.wave_board.proofs.Staying.{ends_there, labels_are}
use Rattle.host_workers.specs.Lines.{event_lines}
use Rattle.host_workers.specs.Runs.{IsRun}

labels_append : (xs ys : List Trail) → labels_in (xs ++ ys) ≡ labels_in xs ++ labels_in ys
labels_append [] ys = refl
labels_append (Step l ∷ xs) ys = ap (λ z. label_of l ∷ z) (labels_append xs ys)
labels_append (Halt w why ∷ xs) ys = labels_append xs ys

-- what follows a run goes on from where it led
run_on : {A F R J : Type 0} (sys : Actors A F R J) (workers : ℕ) (xs ys : List Label) (s u v : State A F R J) → run sys workers s xs ≡ Some u → run sys workers s (xs ++ ys) ≡ Some v → run sys workers u ys ≡ Some v
unfolding run
run_on sys workers [] ys s u v e f = subst (λ z. run sys workers z ys ≡ Some v) (some_same s u e) f
run_on sys workers (l ∷ xs) ys s u v e f =
    let a = then_some (λ z. run sys workers z xs) (step sys workers s l) u e in
    run_on sys workers xs ys a.0 u v a.2 (subst (λ o. option_and_then (λ z. run sys workers z (xs ++ ys)) o ≡ Some v) a.1 f)

-- what is known of finished states
abbrev FinishedStatesTell : Type 0
FinishedStatesTell = (plan : Plan) (start : Start) → Fits plan → FitsStart plan start → (labels : List Label) (s : TheState) → IsReached plan start labels s
    → Finished (plan_actors plan.program) plan.workers s → (f : declared_finished.Finished) → Tells s start plan.script.batches f ↔ (f ≡ finished_of (code_ran plan.program) plan.program.shape start plan.script)

-- what is known of the labels that lead to a state
abbrev PlansHaveOwners : Type 0
PlansHaveOwners = (plan : Plan) (start : Start) → Fits plan → FitsStart plan start → (labels : List Label) (s : TheState) → IsReached plan start labels s
    → OwnersTake (plan_kind plan.program plan.script.hosts) plan.workers (begin_in plan start) plan.script.batches labels s

-- and of a serial run to a finished state
abbrev PlansAreSerial : Type 0
PlansAreSerial = (plan : Plan) (start : Start) → Fits plan → FitsStart plan start → (labels : List Label) (s : TheState) → IsReached plan start labels s
    → Finished (plan_actors plan.program) plan.workers s → HasSerial (plan_kind plan.program plan.script.hosts) plan.workers (begin_in plan start) plan.script.batches s

module _ (o : Origin) (b : Board) (s : TheState) (at : IsAt b o s) (seen : List Trail) (over : IsFinishedRun (plan_of o.plan.now) o.start.now (labels_in seen)) (begins : StartsWith (history_of b) seen) where
  abbrev pub plan : Plan
  plan = plan_of o.plan.now

  goes_on : labels_of b ≡ labels_in seen ++ labels_in begins.0
  goes_on = sym (labels_are b) ∙ ap labels_in begins.1 ∙ labels_append seen begins.0

  reached : IsReached plan o.start.now (labels_of b) s
  reached = subst (λ p. IsReached p o.start.now (labels_of b) s) at.plan at.reached

  -- it is in the state in which all was done
  same : s ≡ over.state
  same = (ends_there (plan_actors plan.program) plan.workers (labels_in begins.0) over.state s over.finished
      (run_on (plan_actors plan.program) plan.workers (labels_in seen) (labels_in begins.0) (start_state (begin_in plan o.start.now) plan.script.batches) over.state s over.reached
      (subst (λ ls. IsReached plan o.start.now ls s) goes_on reached))).1

  done : Finished (plan_actors plan.program) plan.workers s
  done = subst (Finished (plan_actors plan.program) plan.workers) (sym same) over.finished

  pub is_finished : IsFinished b s
  is_finished = subst (λ (p : Plan). Finished (plan_actors p.program) p.workers s) (sym at.plan) done

  -- and its parts are those of a run
  pub is_run : FinishedRunsAreMeasured → FinishedStatesTell → PlansHaveOwners → PlansAreSerial → (r : declared_finished.Finished × List declared_label.Label) → r.1 ≡ b.journal.labels
      → ((o : Origin) (s : TheState) → IsAt b o s → r.0 ≡ finished_of (code_ran o.plan.now.program) o.plan.now.program.shape o.start.now o.plan.now.script) → IsRun o.plan.now o.start.now r
  is_run measured tell owned serial r journal told =
      let run : IsReached plan o.start.now (map label_of r.1) s = subst (λ js. IsReached plan o.start.now (map label_of js) s) (sym journal) reached in
      let fits : Fits plan = subst Fits at.plan at.fits in
      let starts : FitsStart plan o.start.now = subst (λ (p : Plan). FitsStart p o.start.now) at.plan at.begins in
      record {
        run = record { state = s; reached = run; finished = done };
        tells = (tell plan o.start.now fits starts (map label_of r.1) s run done r.0).1 (told o s at);
        done = told o s at;
        measured = measured plan o.start.now fits starts (map label_of r.1) s run done;
        owned = owned plan o.start.now fits starts (map label_of r.1) s run;
        serial = serial plan o.start.now fits starts (map label_of r.1) s run done;
      }

-- a board that stands for the origin may be taken apart
pub can_part : (o : Origin) (b : Board) (seen : List Trail) → StandsFor b o → IsFinishedRun (plan_of o.plan.now) o.start.now (labels_in seen) → StartsWith (history_of b) seen → (o : Origin) × (s : TheState) × IsAt b o s × IsFinished b s
can_part o b seen stands over begins = (o, stands.0, stands.1, is_finished o b stands.0 stands.1 seen over begins)

-- the lines from the origin are those from its Start: a front of them, or all, which are a front too
module _ (plan : declared_plan.Plan) (start : Start) (o : Origin) (start_is : o.start.now ≡ start) (old new : Option (List ℕ)) where
  pub front_from : AppendsFront old new (event_lines plan o.start.now) → AppendsFront old new (event_lines plan start)
  front_from h = subst (λ (st : Start). AppendsFront old new (event_lines plan st)) start_is h

  pub all_from : Appends old new (event_lines plan o.start.now) → AppendsFront old new (event_lines plan start)
  all_from h = front_from (written_front old new [] (event_lines plan o.start.now) (record { bytes = event_lines plan o.start.now; appended = h; whole = append-nil (event_lines plan o.start.now) }))
