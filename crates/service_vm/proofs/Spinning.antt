-- The program that spins is fit.
use Rattle.std.proofs.Common.{◌≡◌, ℕ, zero, suc, ◌<◌, ◌≤◌, ◌⊎◌, inl, inr, [], ◌∷◌, true, Some, None, refl, ap, sym, arith}
use Rattle.std.specs.Prelude.{All, ℤ, codes, slice_get}
use Rattle.std.proofs.lemmas.List.Elements.{All-nil}
use Rattle.wave_base.specs.declared.limits.TheConstants.{CLASS_DEPTH}
use Rattle.wave_base.specs.declared.shape.EventInfo.{EventInfo}
use Rattle.wave_base.specs.declared.value.Kind.TheVariants as k
use Rattle.wave_base.specs.declared.value.Value.TheVariants as v
use Rattle.wave_base.specs.Scripts.{IsCall}
use Rattle.wave_base.specs.Shapes.{IsShape, HasInitials, is_within}
use Rattle.wave_base.specs.Values.{kind_of}
use Rattle.wave_base.specs.declared.shape.FieldInfo.{FieldInfo}
use Rattle.service_code.specs.declared.instr.Instr.{Instr}
use Rattle.service_code.specs.declared.instr.Instr.TheVariants.{Tick}
use Rattle.service_verify.specs.Fit.{Jumps, IsTicked, FitsFunction, FitsEvent, IsFit, is_call_down}
use Rattle.service_verify.proofs.Judged.{some_same}
use Rattle.service_vm.specs.Spin.{spin_code, spin_function, spin_shape, spin}

-- it has two jumps
jumps : (j i : ℕ) → Jumps spin_code j i → ((j ≡ 3) × (i ≡ 10)) ⊎ ((j ≡ 9) × (i ≡ 0))
jumps zero i e = cc
jumps (suc zero) i e = cc
jumps (suc (suc zero)) i e = cc
jumps (suc (suc (suc zero))) i e = inl (refl, cc)
jumps (suc (suc (suc (suc zero)))) i e = cc
jumps (suc (suc (suc (suc (suc zero))))) i e = cc
jumps (suc (suc (suc (suc (suc (suc zero)))))) i e = cc
jumps (suc (suc (suc (suc (suc (suc (suc zero))))))) i e = cc
jumps (suc (suc (suc (suc (suc (suc (suc (suc zero)))))))) i e = cc
jumps (suc (suc (suc (suc (suc (suc (suc (suc (suc zero))))))))) i e = inr (refl, cc)
jumps (suc (suc (suc (suc (suc (suc (suc (suc (suc (suc (zero))))))))))) i e = cc
jumps (suc (suc (suc (suc (suc (suc (suc (suc (suc (suc (suc zero))))))))))) i e = cc
jumps (suc (suc (suc (suc (suc (suc (suc (suc (suc (suc (suc (suc n)))))))))))) i e = cc

one_all : {A : Type 0} (P : A → Type 0) (x : A) → P x → All P (x ∷ [])
one_all P x h zero d lt = h
one_all P x h (suc n) d lt = absurd (omega (arith, lt))

no_call : (n : ℕ) (i : Instr) → slice_get spin_code n ≡ Some i → is_call_down i ≡ true → ⊥
no_call (zero) i is e = cc
no_call (suc (zero)) i is e = cc
no_call (suc (suc (zero))) i is e = cc
no_call (suc (suc (suc (zero)))) i is e = cc
no_call (suc (suc (suc (suc (zero))))) i is e = cc
no_call (suc (suc (suc (suc (suc (zero)))))) i is e = cc
no_call (suc (suc (suc (suc (suc (suc (zero))))))) i is e = cc
no_call (suc (suc (suc (suc (suc (suc (suc (zero)))))))) i is e = cc
no_call (suc (suc (suc (suc (suc (suc (suc (suc (zero))))))))) i is e = cc
no_call (suc (suc (suc (suc (suc (suc (suc (suc (suc (zero)))))))))) i is e = cc
no_call (suc (suc (suc (suc (suc (suc (suc (suc (suc (suc (zero))))))))))) i is e = cc
no_call (suc (suc (suc (suc (suc (suc (suc (suc (suc (suc (suc (zero)))))))))))) i is e = cc
no_call (suc (suc (suc (suc (suc (suc (suc (suc (suc (suc (suc (suc (n))))))))))))) i is e = cc

loop : (j i : ℕ) → j ≡ 9 → i ≡ 0 → IsTicked spin_code j i 4
loop j i ej ei = record {
  from = omega arith;
  to = omega arith;
  tick = (Tick, refl, refl);
  passes = λ p q e low high. out p q (jumps p q e) high;
  enters = λ p q e outside. in_none p q (jumps p q e) outside;
}
  where
    out : (p q : ℕ) → ((p ≡ 3) × (q ≡ 10)) ⊎ ((p ≡ 9) × (q ≡ 0)) → p < 4 → q ≤ 4 ⊎ j < q
    out p q (inl e) high = inr (omega (arith, e.1, ej))
    out p q (inr e) high = absurd (omega (arith, e.0, high))

    in_none : (p q : ℕ) → ((p ≡ 3) × (q ≡ 10)) ⊎ ((p ≡ 9) × (q ≡ 0)) → p < i ⊎ j < p → q ≤ i ⊎ j < q
    in_none p q (inl e) (inl h) = absurd (omega (arith, h, ei))
    in_none p q (inl e) (inr h) = absurd (omega (arith, e.0, h, ej))
    in_none p q (inr e) (inl h) = absurd (omega (arith, h, ei))
    in_none p q (inr e) (inr h) = absurd (omega (arith, e.0, h, ej))

function_fits : FitsFunction spin_shape spin_function
function_fits = record {
  some = omega arith;
  places = refl;
  class = omega arith;
  root = λ e. refl;
  locals = (k.Int ∷ [], refl);
  loops = λ j i e le. back j i (jumps j i e) le;
  calls = λ n i is e. absurd (no_call n i is e);
}
  where
    back : (j i : ℕ) → ((j ≡ 3) × (i ≡ 10)) ⊎ ((j ≡ 9) × (i ≡ 0)) → i ≤ j → (k : ℕ) × IsTicked spin_code j i k
    back j i (inl e) le = absurd (omega (arith, e.0, e.1, le))
    back j i (inr e) le = (4, loop j i e.0 e.1)

shape_is : IsShape spin_shape
shape_is = record {
  root = (_, refl, refl);
  parents = λ n lt. absurd (omega (arith, lt));
  depth = within;
  initials = one_all HasInitials (record { name = codes "Spin"; parent = None; fields = [] }) (All-nil {X = FieldInfo} (λ (f : FieldInfo). kind_of f.initial ≡ f.kind));
  few_classes = omega arith;
  few_events = omega arith;
}
  where
    within : (n : ℕ) → n < 1 → is_within spin_shape CLASS_DEPTH n ≡ true
    within zero lt = refl
    within (suc n) lt = absurd (omega (arith, lt))

pub spin_fits : IsFit spin
spin_fits = record {
  shape = shape_is;
  functions = one_all (FitsFunction spin_shape) spin_function function_fits;
  events = refl;
  each = event;
}
  where
    event : (n : ℕ) (e : EventInfo) (number : ℕ) → slice_get spin.shape.events n ≡ Some e → slice_get spin.events n ≡ Some number → FitsEvent spin e number
    event zero e number he hn =
        let en : 0 ≡ number = some_same 0 number hn in
        let ee = some_same _ e he in
        record {
          function = spin_function;
          is_there = ap (λ m. slice_get spin.functions m) (sym en);
          is_event = refl;
          args = ap (λ (x : EventInfo). x.params) ee;
          result = ap (λ (x : EventInfo). x.reply) ee;
        }
    event (suc n) e number he hn = cc

-- a call of its event, and the fields of its one context
pub spin_call : (n : ℤ) → IsCall spin.shape (record { event = 0; args = v.Int n ∷ []; generation = 0 })
spin_call n = record { event = _; is_event = refl; kinds = refl }
