-- A replay, label by label.
use Rattle.std.proofs.Common.{◌≡◌, ◌∙◌, ℕ, zero, suc, ◌+◌, true, List, [], ◌∷◌, ◌++◌, map, take, drop, Option, Some, None, is_some, refl, sym, ap, subst}
use Rattle.std.specs.Prelude.{slice_get}
use Rattle.std.proofs.lemmas.List.{map-append}
use Rattle.wave_base.specs.Starts.{first_start}
use Rattle.wave_labels.specs.declared.label.Label as program
use Rattle.wave_labels.specs.Labels.{label_of}
use Rattle.wave_states.specs.Begins.{start_state}
use Rattle.wave_states.specs.Labels.{Label}
use Rattle.wave_states.specs.Runs.{run}
use Rattle.wave_states.specs.Steps.{step}
use Rattle.wave_theory.proofs.Frames.{option_some}
use Rattle.plan_actors.specs.PlanActors.{plan_actors}
use Rattle.plan_actors.specs.Plans.{Plan, begin_in}
use Rattle.wave_effects.specs.Machines.{IsReached, TheState}
use Rattle.wave_drives.specs.Walks.{IsTaking, Leads}
use Rattle.wave_effects.proofs.Taking.{run_more}
use Rattle.wave_drives.specs.declared.walk.Walk.{Walk}
use Rattle.journal_replay.specs.Replays.{LeadsTo}
use Rattle.journal_replay.specs.inner.Walks.{IsWalking}

-- ---- a list at a place

pub parts_at : {X : Type 0} (xs : List X) (i : ℕ) (x : X) → slice_get xs i ≡ Some x → xs ≡ take i xs ++ x ∷ drop (suc i) xs
parts_at [] i x e = cc
parts_at (y ∷ xs) zero x e = let same : y ≡ x = cc in ap (λ z. z ∷ xs) same
parts_at (y ∷ xs) (suc i) x e = ap (λ ys. y ∷ ys) (parts_at xs i x e)

-- ---- where a run begins

pub at_start : (p : Plan) → LeadsTo p [] (start_state (begin_in p (first_start p.program.shape)) p.script.batches)
unfolding run
at_start p = refl

-- ---- one label more

module _ (plan : Plan) (w : Walk) (labels : List program.Label) (d : IsWalking plan labels w) (l : program.Label) where
  abbrev Can : Type 0
  Can = is_some (step (plan_actors w.machine.kept.plan.program) w.machine.kept.plan.workers d.state (label_of l)) ≡ true

  pub is_taking : Can → IsTaking w.machine.kept w.ends.items (label_of l)
  is_taking e =
      let u = option_some (step (plan_actors w.machine.kept.plan.program) w.machine.kept.plan.workers d.state (label_of l)) e in
      record { start = first_start plan.program.shape; state = d.state; next = u.0; under = d.under; enabled = u.1 }

  pub walks_on : Can → (w' : Walk) → Leads w.machine.kept w.ends.items (label_of l) w'.machine.kept w'.ends.items → w'.machine.kept.plan ≡ w.machine.kept.plan → IsWalking plan (labels ++ l ∷ []) w'
  walks_on e w' leads same =
      let u = option_some (step (plan_actors w.machine.kept.plan.program) w.machine.kept.plan.workers d.state (label_of l)) e in
      let start = first_start plan.program.shape in
      record {
        same = same ∙ d.same;
        state = u.0;
        under = leads start d.state u.0 d.under u.1;
        run = subst (λ ls. IsReached plan start ls u.0) (sym (map-append label_of labels (l ∷ [])))
            (run_more (plan_actors plan.program) plan.workers (map label_of labels) (start_state (begin_in plan start) plan.script.batches) d.state u.0 (label_of l) d.run
            (subst (λ (p : Plan). step (plan_actors p.program) p.workers d.state (label_of l) ≡ Some u.0) d.same u.1));
      }

  -- where it can't be taken the theory has no step
  pub no_step : (Can → ⊥) → step (plan_actors plan.program) plan.workers d.state (label_of l) ≡ None
  no_step not = subst (λ (p : Plan). step (plan_actors p.program) p.workers d.state (label_of l) ≡ None) d.same (none_if (step (plan_actors w.machine.kept.plan.program) w.machine.kept.plan.workers d.state (label_of l)) not)
    where
      none_if : (o : Option TheState) → (is_some o ≡ true → ⊥) → o ≡ None
      none_if None h = refl
      none_if (Some x) h = absurd (h refl)
