use Rattle.std.proofs.Common.{◌≡◌, ◌∷◌, [], sym, subst, ◌∙◌, refl}
use Rattle.std.proofs.lemmas.Bool.{false≢true}
use Rattle.path_text.specs.declared.written.Written.{Written}
use Rattle.path_text.specs.inner.Fronts.{IsOnlyFront}
use Rattle.path_text.specs.Steps.{HasSteps, HasOnlySteps}
use Rattle.path_text.proofs.StepLemmas.{step_read, ended}
use Rattle.path_text.proofs.written.written_steps.Goals as goal

pub returns-then-not-has_steps-clause-none : goal.returns-then-not-has_steps-clause-none
returns-then-not-has_steps-clause-none c = λ steps h. false≢true (c.if-not-has_steps.ensures.1 (steps, h))

pub loop-name-preserved : goal.loop-name-preserved
loop-name-preserved c =
    step_read c.args.text.now c.loop-name.rest.now c.in-Some.after.now c.loop-name.steps c.add.new.self c.in_ok-copied_step.field-0 c.loop-name.invariant
    (subst (λ (s : Written). IsOnlyFront c.loop-name.rest.now s c.in-Some.after.now) (sym c.in_ok-copied_step.ensures) c.in-Some.ensures.some) c.in_ok-add.ensures.ok

-- all of the text was read
read : (c : goal.In_default) → HasSteps c.args.text.now c.loop-name.steps × HasOnlySteps c.args.text.now c.loop-name.steps
read c =
    let has = c.if-not-has_steps.ensures.0 refl in
    ended c.args.text.now c.loop-name.rest.now c.loop-name.steps has.0 c.loop-name.invariant c.in_default.ensures.none has.1 (λ e. false≢true (sym c.if-is_root.false ∙ c.is_root.ensures.1 e))

pub returns-clause-some : goal.returns-clause-some
returns-clause-some c = (read c).0

pub returns-clause-only : goal.returns-clause-only
returns-clause-only c = (read c).1
