-- Only one answer is due for the labels of a journal.
use Rattle.std.proofs.Common.{◌≡◌, ◌≤◌, ◌<◌, ◌^◌, ◌∙◌, ℕ, List, length, Result, Ok, Err, IfOk, ap, arith, refl, subst, sym}
use Rattle.std.specs.Prelude.{min}
use Rattle.wave_base.specs.declared.script.Script.{Script}
use Rattle.wave_base.specs.declared.shape.Shape.{Shape}
use Rattle.mace_ast.specs.Decls.{ServiceTree}
use Rattle.resolved_service.specs.declared.service.Resolved.{Resolved}
use Rattle.type_rules.specs.Known.{shape_of}
use Rattle.type_rules.specs.Services.{resolve_service}
use Rattle.type_rules.specs.Views.{resolved_view}
use Rattle.context_types.specs.declared.Typed.{Typed}
use Rattle.service_code.specs.declared.program.Program.{Program}
use Rattle.code_scheme.specs.Programs.{scheme_program}
use Rattle.code_scheme.proofs.Made.{program_shape}
use Rattle.typed_code.proofs.SameCode.{same_programs}
use Rattle.command_words.specs.declared.command.Crew.{Crew}
use Rattle.plan_actors.specs.Plans.{Plan}
use Rattle.wave_labels.specs.declared.label.Label.{Label}
use Rattle.journal_replay.specs.declared.error.ReplayError.{ReplayError}
use Rattle.journal_replay.specs.declared.error.ReplayError.TheVariants.{Refused, OutOfMemory}
use Rattle.journal_replay.specs.declared.replaying.Replayed.{Replayed}
use Rattle.journal_replay.specs.Replays.{IsOutcome, IsOnlyOutcome}
use Rattle.due_parts.specs.declared.answer.Answer.{Answer}
use Rattle.due_parts.specs.Answers.{Only}
use Rattle.due_parts.specs.Coded.{IsCoded}
use Rattle.due_parts.specs.Runs.{nearest_workers}
use Rattle.due_parts.specs.Served.{IsTypedTree}
use Rattle.due_parts.specs.Told.{plan_for}
use Rattle.due_replay.specs.Replayed.{IsDueOutcome, IsDueReplay, refused_label}
use Rattle.due_replay.specs.inner.Outcomes.{IsOnlyOutcomeOf, IsOutcomeOf}

-- ---- after how many labels the machine is shown

-- as many as a number of 32 bits may tell are as many as there are labels
fewer : (show most n : ℕ) → n ≤ most → min (min show most) n ≡ min show n
fewer show most n few = omega arith

module _ (plan : Plan) (journal : List Label) (show most : ℕ) (few : length journal ≤ most) where
  -- a greater number shows the same
  pub shown_at_most : (r : Result Replayed ReplayError) → IsOutcome plan journal (min show most) r → IsOutcome plan journal show r
  shown_at_most (Ok r) h = record {
    steps = h.steps;
    last = h.last;
    run = h.run;
    finished = h.finished;
    shown = h.shown ∙ fewer show most (length journal) few;
    state = h.state;
    seen = h.seen;
    glance = h.glance;
  }
  shown_at_most (Err (Refused step label enabled)) h = h
  shown_at_most (Err (OutOfMemory e)) h = h

  shown_less : (r : Result Replayed ReplayError) → IsOutcome plan journal show r → IsOutcome plan journal (min show most) r
  shown_less (Ok r) h = record {
    steps = h.steps;
    last = h.last;
    run = h.run;
    finished = h.finished;
    shown = h.shown ∙ sym (fewer show most (length journal) few);
    state = h.state;
    seen = h.seen;
    glance = h.glance;
  }
  shown_less (Err (Refused step label enabled)) h = h
  shown_less (Err (OutOfMemory e)) h = h

  told_one : (r : Result Replayed ReplayError) (due : Answer) → IsOutcome plan journal (min show most) r → ((other : Result Replayed ReplayError) → IsOutcome plan journal (min show most) other → other ≡ r)
      → IsDueOutcome plan.program.shape r due → ((other : Answer) → IsDueOutcome plan.program.shape r other → other ≡ due) → Only (IsOutcomeOf plan journal show) due
  told_one r due h one is only = record {
    is_due = record { outcome = r; comes_to = shown_at_most r h; due_is = is };
    only = λ other k. only other (subst (λ o. IsDueOutcome plan.program.shape o other) (one k.outcome (shown_less k.outcome k.comes_to)) k.due_is);
  }

  -- the outcome is told
  pub only_told : (r : Result Replayed ReplayError) (due : Answer) → IsOnlyOutcome plan journal (min show most) r → IsDueOutcome plan.program.shape r due → Only (IsOutcomeOf plan journal show) due
  only_told (Ok r) due h is = told_one (Ok r) due h.0 h.1 is (λ other k. k ∙ sym is)
  only_told (Err (Refused step label enabled)) due h is = told_one (Err (Refused step label enabled)) due h.0 h.1 is (λ other k. k ∙ sym is)
  only_told (Err (OutOfMemory e)) due h is = absurd is

  -- a label that can't be taken is
  pub refused_told : {E : Type 0} (step : ℕ) (label : Label) (enabled : List Label) (r : Result Answer E) → IsOnlyOutcome plan journal (min show most) (Err (Refused step label enabled)) → IfOk r (λ a. a ≡ refused_label plan.program.shape step enabled)
      → IfOk r (IsOnlyOutcomeOf plan journal show)
  refused_told step label enabled (Ok due) h is = only_told (Err (Refused step label enabled)) due h is
  refused_told step label enabled (Err e) h is = tt

-- ---- of the plan of a typed service's code

module _ (show : ℕ) (crew : Crew) (tree : ServiceTree) (typed : Typed) (program : Program) (script : Script) (journal : List Label) (t : IsTypedTree tree typed) (coded : IsCoded typed.shape typed.resolved program) where
  abbrev of_program : Program → Plan
  of_program p = record { program = p; script = script; workers = nearest_workers crew.workers }

  plan_is : of_program program ≡ plan_for crew (shape_of tree) typed.resolved script
  plan_is = ap of_program (coded.is ∙ ap (λ s. scheme_program s typed.resolved) t.shape_is)

  shape_is : program.shape ≡ shape_of tree
  shape_is = ap (λ (p : Program). p.shape) coded.is ∙ program_shape typed.shape typed.resolved ∙ t.shape_is

  -- another service that is the tree's has the same plan
  same_plan : (s : Resolved) → resolved_view s ≡ resolve_service tree → plan_for crew (shape_of tree) s script ≡ of_program program
  same_plan s e = ap of_program (same_programs (shape_of tree) s typed.resolved (e ∙ sym t.resolved_is)) ∙ sym plan_is

  pub only_replay : (due : Answer) → Only (IsOutcomeOf (of_program program) journal show) due → Only (IsDueReplay show crew tree script journal) due
  only_replay due o = record {
    is_due = record {
      service = typed.resolved;
      resolved = t.resolved_is;
      outcome = o.is_due.outcome;
      comes_to = subst (λ p. IsOutcome p journal show o.is_due.outcome) plan_is o.is_due.comes_to;
      due_is = subst (λ s. IsDueOutcome s o.is_due.outcome due) shape_is o.is_due.due_is;
    };
    only = λ other h. o.only other (record {
      outcome = h.outcome;
      comes_to = subst (λ p. IsOutcome p journal show h.outcome) (same_plan h.service h.resolved) h.comes_to;
      due_is = subst (λ s. IsDueOutcome s h.outcome other) (sym shape_is) h.due_is;
    });
  }
