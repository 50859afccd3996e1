-- Judging one instruction after the other.
use Rattle.std.proofs.Common.{◌≡◌, ℕ, suc, ◌+◌, ◌<◌, ◌≤◌, List, length, drop, get_or, ap, sym, subst, ◌∙◌, arith}
use Rattle.std.specs.Prelude.{Ok, Err}
use Rattle.std.proofs.Math.Seq.{drop-cons}
use Rattle.std.proofs.lemmas.List.{drop_all}
use Rattle.service_code.specs.declared.instr.Instr.{Instr}
use Rattle.service_code.specs.declared.program.Function.{Function}
use Rattle.service_code.specs.declared.program.Program.{Program}
use Rattle.service_verify.specs.declared.error.Refusal.{Refusal}
use Rattle.service_verify.specs.declared.error.Refusal.TheVariants.{Broken, OutOfMemory}
use Rattle.service_verify.specs.declared.error.Rule.{Rule}
use Rattle.service_verify.specs.declared.error.VerifyError.{VerifyError}
use Rattle.service_verify.specs.declared.error.VerifyError.TheVariants as e
use Rattle.service_verify.specs.declared.error.Rule.TheVariants as rule
use Rattle.service_verify.specs.inner.Asks.{Judges}
use Rattle.service_verify.specs.Faults.{Names, IsNamed, Refuses, IsFirst}
use Rattle.service_verify.specs.Points.{Table, visit, visited_then, judged_from, judged_function}

module _ (program : Program) (number : ℕ) (function : Function) where
  -- the next instruction, where there is one
  next_judged : (code : List Instr) (n : ℕ) (i : Instr) (t : Table) → n < length code → judged_from program number function n (drop n code) t ≡ visited_then n (visit program number function n (get_or code n i) t) (λ u. judged_from program number function (n + 1) (drop (n + 1) code) u)
  unfolding judged_from
  next_judged code n i t h =
      let e : suc n ≡ n + 1 = omega arith in
      ap (λ is. judged_from program number function n is t) (drop-cons code n i h)
      ∙ (λ j. visited_then n (visit program number function n (get_or code n i) t) (λ u. judged_from program number function (e j) (drop (e j) code) u))

  pub step_ok : (code : List Instr) (n : ℕ) (i : Instr) (t u : Table) → n < length code → visit program number function n (get_or code n i) t ≡ Ok u → judged_from program number function n (drop n code) t ≡ judged_from program number function (n + 1) (drop (n + 1) code) u
  step_ok code n i t u h v = next_judged code n i t h ∙ ap (λ j. visited_then n j (λ u. judged_from program number function (n + 1) (drop (n + 1) code) u)) v

  pub step_err : (code : List Instr) (n : ℕ) (i : Instr) (t : Table) (r : Rule) → n < length code → visit program number function n (get_or code n i) t ≡ Err r → judged_from program number function n (drop n code) t ≡ Err (record { rule = r; instruction = n })
  step_err code n i t r h v = next_judged code n i t h ∙ ap (λ j. visited_then n j (λ u. judged_from program number function (n + 1) (drop (n + 1) code) u)) v

  pub none_left : (code : List Instr) (n : ℕ) (t : Table) → length code ≤ n → judged_from program number function n (drop n code) t ≡ Ok t
  unfolding judged_from
  none_left code n t h = ap (λ is. judged_from program number function n is t) (drop_all n code h)

pub names_as : {P Q : Rule → ℕ → ℕ → Type 0} → ((r : Rule) (f i : ℕ) → P r f i → Q r f i) → (x : VerifyError) → Names P x → Names Q x
names_as g (e.Stack f i) h = g rule.Stack f i h
names_as g (e.Kind f i) h = g rule.Kind f i h
names_as g (e.Jump f i) h = g rule.Jump f i h
names_as g (e.Call f i) h = g rule.Call f i h
names_as g (e.Field f i) h = g rule.Field f i h
names_as g (e.OutOfMemory _) h = tt

-- the first instruction that breaks a rule, where all before it keep the rules
pub first_fault : (program : Program) (number : ℕ) (function : Function) (items : List Instr) → items ≡ function.code → (n : ℕ) (i : Instr) (t u : Table) (x : Refusal) (e : VerifyError) → judged_function program number function ≡ judged_from program number function n (drop n function.code) t → n < length items → Judges (visit program number function n (get_or items n i) t) u (Err x) → Refuses x number n e → Names (IsFirst program number function) e
first_fault program number function items same n i t u (Broken r) x so_far h v named = names_as {P = IsNamed r number n} {Q = IsFirst program number function} (λ s f k is. record {
  number_is = sym is.function_is;
  breaks = so_far ∙ ap (λ code. judged_from program number function n (drop n code) t) (sym same) ∙ step_err program number function items n i t r h v ∙ (λ j. Err (record { rule = is.rule j; instruction = is.instruction_is j }));
}) x named
first_fault program number function items same n i t u (OutOfMemory _) x so_far h v named = subst (Names (IsFirst program number function)) (sym named) tt
