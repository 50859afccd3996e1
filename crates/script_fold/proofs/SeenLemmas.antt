-- A context that a job enters.
use Rattle.std.proofs.Common.{◌≡◌, ◌≢◌, ◌≤◌, ◌+◌, ◌==◌, ℕ, suc, Bool, true, false, if◌then◌else◌, refl, sym, ap, ◌∙◌, arith, eq-eqb}
use Rattle.std.proofs.lemmas.Bool.{eqb-false}
use Rattle.script_fold.specs.declared.visits.Load.{Load}
use Rattle.script_fold.specs.inner.Visiting.{IsSeen, with_job}

pub seen_counted : (n base : ℕ) (m : Bool) (l : Load) → IsSeen n base m l → IsSeen n base true (with_job (suc n) l)
seen_counted n base m l h = by_last (l.last == suc n) refl
  where
    by_last : (b : Bool) → (l.last == suc n) ≡ b → IsSeen n base true (record { count = if b then l.count else l.count + 1; last = suc n })
    by_last true e =
        let c : l.count ≡ base + 1 = h.count ∙ ap (λ b. base + (if b then 1 else 0)) (h.mark ∙ e) in
        record { count = c; mark = sym (eq-eqb (suc n) (suc n) refl); last = omega arith; few = omega (arith, h.few, h.last) }
    by_last false e =
        let c : l.count ≡ base + 0 = h.count ∙ ap (λ b. base + (if b then 1 else 0)) (h.mark ∙ e) in
        let apart : l.last ≢ suc n = eqb-false l.last (suc n) e in
        record { count = omega (arith, c); mark = sym (eq-eqb (suc n) (suc n) refl); last = omega arith; few = omega (arith, h.few, h.last, apart) }

-- the load is above 0 then
pub some_counted : (n base : ℕ) (l : Load) → IsSeen n base true l → 1 ≤ l.count
some_counted n base l h = let c : l.count ≡ base + 1 = h.count in omega (arith, c)
