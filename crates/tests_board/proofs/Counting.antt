-- How many segments the workers got and gave back, over one entry more.
use Rattle.std.proofs.Common.{◌≡◌, ◌∙◌, inl, inr, ℕ, ◌+◌, nat_eq, Bool, true, false, List, [], ◌∷◌, ◌++◌, length, refl, sym, ap, subst, arith}
use Rattle.std.specs.Prelude.{filter, if◌then◌else◌}
use Rattle.wave_base.specs.declared.numbers.Worker.{Worker}
use Rattle.wave_labels.specs.declared.label.Act.{Act}
use Rattle.wave_labels.specs.declared.label.Act.TheVariants.{Admit, Queue, Grant, Visit, Start, Stop, Free, Pass, Land, Commit}
use Rattle.wave_labels.specs.declared.label.Label.{Label}
use Rattle.wave_labels.specs.Labels.{act_of}
use Rattle.wave_states.specs.Labels as theory
use Rattle.wave_theory.proofs.Basics.{number_cases, number_self}
use Rattle.wave_effects.specs.Acts.{is_step}
use Rattle.wave_board.specs.declared.trail.StopCause.{StopCause}
use Rattle.wave_board.specs.declared.trail.Trail.{Trail}
use Rattle.wave_board.specs.declared.trail.Trail.TheVariants.{Step, Halt}
use Rattle.wave_board.specs.Boards.{owner_of}
use Rattle.wave_board.specs.Taking.{begins, ends}
use Rattle.wave_board.proofs.Idle.{count_append, count_own, one}
use Rattle.tests_board.specs.inner.Ready.{GaveAllBut, GaveBack, many}

module _ (p : Trail → Bool) (w : ℕ) (ts : List Trail) (t : Trail) where
  -- an entry of the worker
  grown : owner_of t ≡ w → many p w (ts ++ t ∷ []) ≡ many p w ts + one (p t)
  grown own =
      let e = count_append p w ts (t ∷ []) in
      let f = count_own p w t [] (subst (λ k. nat_eq (owner_of t) k ≡ true) own (number_self (owner_of t))) in
      let none : many p w [] ≡ 0 = refl in
      omega (arith, e, f, none)

  -- an entry of another one
  same : nat_eq (owner_of t) w ≡ false → many p w (ts ++ t ∷ []) ≡ many p w ts
  same other =
      let e = count_append p w ts (t ∷ []) in
      let f : many p w (t ∷ []) ≡ 0 = ap (λ (b : Bool). length (filter p (if b then t ∷ [] else []))) other in
      omega (arith, e, f)

  -- an entry that doesn't pass the test
  unmoved : p t ≡ false → many p w (ts ++ t ∷ []) ≡ many p w ts
  unmoved fails = elim (number_cases (owner_of t) w) [
    | inl own ↦ (let e = grown own in let z : one (p t) ≡ 0 = ap one fails in omega (arith, e, z))
    | inr other ↦ same other
  ]

no_start : (a : Act) → is_step a ≡ true → theory.is_start (act_of a) ≡ false
no_start (Start t p) e = absurd (grind arith)
no_start (Stop t p) e = absurd (grind arith)
no_start (Admit t) e = refl
no_start (Queue k p) e = refl
no_start (Grant t p) e = refl
no_start (Visit k p) e = refl
no_start (Free k p) e = refl
no_start (Pass k p g) e = refl
no_start (Land k p) e = refl
no_start (Commit t) e = refl

no_stop : (a : Act) → is_step a ≡ true → theory.is_stop (act_of a) ≡ false
no_stop (Start t p) e = absurd (grind arith)
no_stop (Stop t p) e = absurd (grind arith)
no_stop (Admit t) e = refl
no_stop (Queue k p) e = refl
no_stop (Grant t p) e = refl
no_stop (Visit k p) e = refl
no_stop (Free k p) e = refl
no_stop (Pass k p g) e = refl
no_stop (Land k p) e = refl
no_stop (Commit t) e = refl

module _ (ts : List Trail) (gave : (w : ℕ) → GaveBack w ts) where
  -- after a label that is neither a Start nor a Stop
  pub gave_step : (l : Label) → is_step l.act ≡ true → (w : ℕ) → GaveBack w (ts ++ Step l ∷ [])
  gave_step l kind w = unmoved begins w ts (Step l) (no_start l.act kind) ∙ gave w ∙ sym (unmoved ends w ts (Step l) (no_stop l.act kind))

  -- after a Halt
  pub gave_halt : (x : Worker) (why : StopCause) (w : ℕ) → GaveBack w (ts ++ Halt x why ∷ [])
  gave_halt x why w = unmoved begins w ts (Halt x why) refl ∙ gave w ∙ sym (unmoved ends w ts (Halt x why) refl)

  -- after a Start
  pub gave_start : (l : Label) → theory.is_start (act_of l.act) ≡ true → theory.is_stop (act_of l.act) ≡ false → GaveAllBut l.worker.0 (ts ++ Step l ∷ [])
  gave_start l start runs_on = record {
    others = λ w other. same begins w ts (Step l) other ∙ gave w ∙ sym (same ends w ts (Step l) other);
    own =
        (let a = grown begins l.worker.0 ts (Step l) refl in
        let b = unmoved ends l.worker.0 ts (Step l) runs_on in
        let x : one (begins (Step l)) ≡ 1 = ap one start in
        let e : many begins l.worker.0 ts ≡ many ends l.worker.0 ts = gave l.worker.0 in
        omega (arith, a, b, x, e));
  }

module _ (worker : ℕ) (ts : List Trail) (gave : GaveAllBut worker ts) where
  -- after the worker's Stop
  pub gave_stop : (l : Label) → l.worker.0 ≡ worker → theory.is_start (act_of l.act) ≡ false → theory.is_stop (act_of l.act) ≡ true → (w : ℕ) → GaveBack w (ts ++ Step l ∷ [])
  gave_stop l own no_start stop w = elim (number_cases worker w) [
    | inl is ↦ (let a = unmoved begins w ts (Step l) no_start in
        let b = grown ends w ts (Step l) (own ∙ is) in
        let y : one (ends (Step l)) ≡ 1 = ap one stop in
        let e : many begins w ts ≡ many ends w ts + 1 = subst (λ k. many begins k ts ≡ many ends k ts + 1) is gave.own in
        omega (arith, a, b, y, e))
    | inr other ↦ (let apart = subst (λ k. nat_eq k w ≡ false) (sym own) other in
        same begins w ts (Step l) apart ∙ gave.others w other ∙ sym (same ends w ts (Step l) apart))
  ]
