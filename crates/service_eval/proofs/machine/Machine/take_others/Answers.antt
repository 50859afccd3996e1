use Rattle.std.proofs.Common.{◌≡◌, ℕ, zero, suc, ◌+◌, ◌≤◌, List, [], ◌∷◌, length, take, drop, refl, ap, ◌∙◌, arith}
use Rattle.std.proofs.lemmas.Result.{on_ok_weaker, IfOk-weaker}
use Rattle.service_eval.specs.inner.Machines.{mach_of, cut_to}
use Rattle.service_eval.proofs.machine.Machine.take_others.Goals as goal

one_more : (n : ℕ) → n + 1 ≡ suc n
one_more n = omega arith

take_all : {A : Type 0} (xs : List A) (n : ℕ) → length xs ≤ n → take n xs ≡ take (suc n) xs
take_all [] zero h = refl
take_all [] (suc n) h = refl
take_all (x ∷ xs) zero h = absurd (omega arith)
take_all (x ∷ xs) (suc n) h = ap (λ ys. x ∷ ys) (take_all xs n (omega arith))

drop_all : {A : Type 0} (xs : List A) (n : ℕ) → length xs ≤ n → drop n xs ≡ drop (suc n) xs
drop_all [] zero h = refl
drop_all [] (suc n) h = refl
drop_all (x ∷ xs) zero h = absurd (omega arith)
drop_all (x ∷ xs) (suc n) h = drop_all xs n (omega arith)

pub returns-then-base-height-clause-values : goal.returns-then-base-height-clause-values
returns-then-base-height-clause-values c = IfOk-weaker c.take_all.result _ _ (λ v h. h ∙ ap (λ n. drop n c.args.self.now.values.items) (one_more c.args.base)) c.take_all.ensures.values

pub returns-then-base-height-clause-rest : goal.returns-then-base-height-clause-rest
returns-then-base-height-clause-rest c = on_ok_weaker c.take_all.result (λ h tree. h tree ∙ ap (λ n. cut_to n (mach_of tree c.args.self.now)) (one_more c.args.base)) c.take_all.ensures.rest

pub returns-else-base-height-clause-values : goal.returns-else-base-height-clause-values
returns-else-base-height-clause-values c =
    IfOk-weaker c.take_all-else-base-height.result _ _ (λ v h. h ∙ drop_all c.args.self.now.values.items c.args.base (omega (arith, c.if-base-height.false, c.height.ensures))) c.take_all-else-base-height.ensures.values

pub returns-else-base-height-clause-rest : goal.returns-else-base-height-clause-rest
returns-else-base-height-clause-rest c =
    on_ok_weaker c.take_all-else-base-height.result (λ h tree. h tree ∙ ap (λ vs. record (mach_of tree c.args.self.now) { values = vs }) (take_all c.args.self.now.values.items c.args.base (omega (arith, c.if-base-height.false, c.height.ensures)))) c.take_all-else-base-height.ensures.rest
