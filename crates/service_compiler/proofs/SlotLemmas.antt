-- The slots of loops, and how many statements there are, statement by statement.
use Rattle.std.proofs.Common.{◌≡◌, ℕ, zero, suc, ◌+◌, ◌<◌, ◌≤◌, ◌^◌, List, [], ◌∷◌, length, get_or, sym, ap, subst, arith}
use Rattle.wave_base.specs.declared.span.Span.{Span}
use Rattle.resolved_service.specs.declared.stmt.Stmt.{Stmt}
use Rattle.resolved_service.specs.Steps.{Step, If, While, For, Steps, Else, step_of, steps_in}
use Rattle.resolved_service.specs.View.{Tree}
use Rattle.service_compiler.specs.Slots.{HasSlots, HaveSlots, HasElseSlots}
use Rattle.service_compiler.specs.inner.Sizes.{step_size, steps_size}

pub slots_at : (xs : List Stmt) (k : ℕ) (x : Stmt) → HaveSlots (steps_in xs) → k < length xs → x ≡ get_or xs k x → HasSlots (step_of x)
slots_at [] k x h lt at = absurd (omega (arith, lt))
slots_at (y ∷ xs) zero x h lt at = subst (λ s. HasSlots (step_of s)) (sym at) h.0
slots_at (y ∷ xs) (suc k) x h lt at = slots_at xs k x h.1 (omega (arith, lt)) at

pub size_at : (xs : List Stmt) (k : ℕ) (x : Stmt) → k < length xs → x ≡ get_or xs k x → step_size (step_of x) ≤ steps_size (steps_in xs)
size_at [] k x lt at = absurd (omega (arith, lt))
size_at (y ∷ xs) zero x lt at = let e : step_size (step_of x) ≡ step_size (step_of y) = ap (λ s. step_size (step_of s)) at in omega (arith, e)
size_at (y ∷ xs) (suc k) x lt at = let h = size_at xs k x (omega (arith, lt)) at in omega (arith, h)

pub if_slots : {s : Step} {at : Span} {test : Tree} {body : Steps} {other : Else} → s ≡ If at test body other → HasSlots s → HaveSlots body × HasElseSlots other
if_slots is h = subst HasSlots is h

pub while_slots : {s : Step} {at : Span} {test : Tree} {body : Steps} → s ≡ While at test body → HasSlots s → HaveSlots body
while_slots is h = subst HasSlots is h

pub loop_slots : {s : Step} {at : Span} {counter : ℕ} {from to : Tree} {body : Steps} → s ≡ For at counter from to body → HasSlots s → (counter + 2 < 2 ^ 16) × HaveSlots body
loop_slots is h = subst HasSlots is h
