-- How far the steps of a text were read.
use Rattle.std.proofs.Common.{◌≡◌, ◌<◌, ℕ, Bool, true, false, List, [], ◌∷◌, ◌++◌, length, refl, sym, ap, subst, ◌∙◌, append_assoc, append-nil, arith}
use Rattle.std.specs.Prelude.{◌&&◌, ◌==◌, not}
use Rattle.std.specs.List.{list_all}
use Rattle.std.proofs.lemmas.Bool.Decides.{nat_tests}
use Rattle.path_text.specs.declared.written.Written.{Written}
use Rattle.path_text.specs.inner.Fronts.{IsFront, IsOnlyFront, HasNoFront}
use Rattle.path_text.specs.Steps.{is_step, step_text, steps_text, HasSteps, HasOnlySteps, HasNoSteps}

-- these steps are all that stands there
pub record AreSteps (text : List ℕ) (steps : List Written) : Type 0 where
  pub spelled : text ≡ steps_text steps
  pub form : list_all is_step steps ≡ true

-- these steps were read, and this is what stands behind them
pub record AreReadTo (text : List ℕ) (front : List Written) (rest : List ℕ) : Type 0 where
  pub sound : (ss : List Written) → AreSteps rest ss → AreSteps text (front ++ ss)
  pub whole : (ss : List Written) → AreSteps text ss → (us : List Written) × (ss ≡ front ++ us) × AreSteps rest us

first_of : (s : Written) (ss : List Written) → list_all is_step (s ∷ ss) ≡ true → (is_step s ≡ true) × (list_all is_step ss ≡ true)
first_of s ss h = elim (is_step s) as (λ t. (t && list_all is_step ss) ≡ true → (t ≡ true) × (list_all is_step ss ≡ true)) [ true ↦ λ k. (refl, k) | false ↦ λ k. cc ] h

front_of : (rest : List ℕ) (s : Written) (ss : List Written) → AreSteps rest (s ∷ ss) → IsFront rest s (steps_text ss)
front_of rest s ss h = record { spelled = h.spelled; form = (first_of s ss h.form).0 }

pub step_read : (text rest after : List ℕ) (front front' : List Written) (s : Written) → AreReadTo text front rest → IsOnlyFront rest s after → front' ≡ front ++ s ∷ [] → AreReadTo text front' after
step_read text rest after front front' s h f e = record {
  sound = λ ss a.
      let longer : AreSteps rest (s ∷ ss) = record {
        spelled = f.front.spelled ∙ ap (λ r. step_text s ++ r) a.spelled;
        form = (λ i. f.front.form i && list_all is_step ss) ∙ a.form;
      } in
      subst (AreSteps text) (sym (append_assoc front (s ∷ []) ss) ∙ ap (λ z. z ++ ss) (sym e)) (h.sound (s ∷ ss) longer);
  whole = λ ss a. (let w = h.whole ss a in by_steps w.0 ss w.1 w.2);
}
  where
    by_steps : (us ss : List Written) → ss ≡ front ++ us → AreSteps rest us → (vs : List Written) × (ss ≡ front' ++ vs) × AreSteps after vs
    by_steps [] ss q a = absurd (cc (sym a.spelled ∙ f.front.spelled))
    by_steps (u ∷ us) ss q a =
        let o = f.only u (steps_text us) (front_of rest u us a) in
        (us, q ∙ ap (λ z. front ++ z ∷ us) o.0 ∙ sym (append_assoc front (s ∷ []) us) ∙ ap (λ z. z ++ us) (sym e), record { spelled = sym o.1; form = (first_of u us a.form).1 })

-- ---- at the end

no_more : (us : List Written) → AreSteps [] us → us ≡ []
no_more [] a = refl
no_more (u ∷ us) a = cc (a.spelled)

pub all_read : (text : List ℕ) (front : List Written) → AreReadTo text front [] → (front ≡ [] → ⊥) → (text ≡ 47 ∷ [] → ⊥) → HasSteps text front × HasOnlySteps text front
all_read text [] h some root = absurd (some refl)
all_read text (s ∷ ss) h some root =
    let nothing : AreSteps [] [] = record { spelled = refl; form = refl } in
    let all : AreSteps text (s ∷ ss) = subst (AreSteps text) (append-nil (s ∷ ss)) (h.sound [] nothing) in
    (record { spelled = all.spelled; form = all.form }, λ others o. by_steps others o)
  where
    by_steps : (others : List Written) → HasSteps text others → others ≡ s ∷ ss
    by_steps [] o = absurd (root o.spelled)
    by_steps (t ∷ ts) o =
        let w = h.whole (t ∷ ts) (record { spelled = o.spelled; form = o.form }) in
        w.1 ∙ ap (λ z. (s ∷ ss) ++ z) (no_more w.0 w.2) ∙ append-nil (s ∷ ss)

-- ---- where no step stands

pub none_there : (text rest : List ℕ) (front : List Written) → AreReadTo text front rest → 0 < length rest → HasNoFront rest → (text ≡ 47 ∷ [] → ⊥) → HasNoSteps text
none_there text rest front h some none root [] o = root o.spelled
none_there text rest front h some none root (t ∷ ts) o = (let w = h.whole (t ∷ ts) (record { spelled = o.spelled; form = o.form }) in by_steps w.0 w.2)
  where
    by_steps : (us : List Written) → AreSteps rest us → ⊥
    by_steps [] a = absurd (omega (arith, ap length a.spelled))
    by_steps (u ∷ us) a = none u (steps_text us) (front_of rest u us a)

-- ---- whether there are steps, without what they are

-- some steps were read, and no more are there than those of the text
pub record AreSomeTo (text rest : List ℕ) : Type 0 where
  pub front : List Written
  pub read : AreReadTo text front rest
  pub begun : front ≡ [] → rest ≡ text

pub none_yet : (text : List ℕ) → AreSomeTo text text
none_yet text = record { front = []; read = record { sound = λ ss a. a; whole = λ ss a. (ss, refl, a) }; begun = λ e. refl }

pub one_more : (text rest after : List ℕ) (s : Written) → AreSomeTo text rest → IsOnlyFront rest s after → AreSomeTo text after
one_more text rest after s h f = record {
  front = h.front ++ s ∷ [];
  read = step_read text rest after h.front (h.front ++ s ∷ []) s h.read f refl;
  begun = λ e. absurd (some_there h.front e);
}
  where
    some_there : (front : List Written) → front ++ s ∷ [] ≡ [] → ⊥
    some_there [] e = cc
    some_there (t ∷ ts) e = cc

pub some_read : (text : List ℕ) → AreSomeTo text [] → (text ≡ [] → ⊥) → (text ≡ 47 ∷ [] → ⊥) → (steps : List Written) × HasSteps text steps
some_read text h some root = (h.front, (all_read text h.front h.read (λ e. some (sym (h.begun e))) root).0)

pub no_text : (steps : List Written) → HasSteps [] steps → ⊥
no_text [] h = cc (h.spelled)
no_text (s ∷ ss) h = cc (h.spelled)

-- ---- where a step stands no more, all steps of the text were read

pub ended : (text rest : List ℕ) (front steps : List Written) → AreReadTo text front rest → HasNoFront rest → HasSteps text steps → (text ≡ 47 ∷ [] → ⊥) → HasSteps text front × HasOnlySteps text front
ended text rest front [] h none has root = absurd (root has.spelled)
ended text rest front (s ∷ ss) h none has root = by_steps w.0 w.1 w.2
  where
    w : (us : List Written) × (s ∷ ss ≡ front ++ us) × AreSteps rest us
    w = h.whole (s ∷ ss) (record { spelled = has.spelled; form = has.form })

    some_there : (xs : List Written) → s ∷ ss ≡ xs ++ [] → xs ≡ [] → ⊥
    some_there [] q e = cc
    some_there (x ∷ xs) q e = cc

    by_steps : (us : List Written) → s ∷ ss ≡ front ++ us → AreSteps rest us → HasSteps text front × HasOnlySteps text front
    by_steps [] q a = all_read text front (subst (AreReadTo text front) a.spelled h) (some_there front q) root
    by_steps (u ∷ us) q a = absurd (none u (steps_text us) (front_of rest u us a))

pub is_nil : {A : Type 0} (xs : List A) → true ≡ (length xs == 0) → xs ≡ []
is_nil [] h = refl
is_nil (x ∷ xs) h = absurd (grind (arith, nat_tests))

-- a text that is not empty
pub filled : (text : List ℕ) (b : Bool) → b ≡ (length text == 0) → not b ≡ true → text ≡ [] → ⊥
filled [] b e h n = cc
filled (x ∷ xs) b e h n = cc

pub is_filled : (text : List ℕ) (b : Bool) → b ≡ (length text == 0) → (text ≡ [] → ⊥) → not b ≡ true
is_filled [] b e f = absurd (f refl)
is_filled (x ∷ xs) b e f =
    let some : (length (x ∷ xs) == 0) ≡ false = grind (arith, nat_tests) in
    ap not (e ∙ some)
