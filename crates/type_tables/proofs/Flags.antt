-- Tests one after the other.
use Rattle.std.proofs.Common.{◌≡◌, Bool, true, false, ◌&&◌, not, is_some, is_none, Option, Some, None, refl, sym, ap, ◌∙◌}

pub all_pass : (p q r x : Bool) → (p && q && r) ≡ x → p ≡ true → q ≡ true → r ≡ x
all_pass p q r x h e f = sym (λ i. e i && f i && r) ∙ h

pub first_fails : (p q r x : Bool) → (p && q && r) ≡ x → p ≡ false → false ≡ x
first_fails p q r x h e = sym (ap (λ t. t && q && r) e) ∙ h

pub second_fails : (p q r x : Bool) → (p && q && r) ≡ x → p ≡ true → q ≡ false → false ≡ x
second_fails p q r x h e f = sym (λ i. e i && f i && r) ∙ h

pub none_from_not : {A : Type 0} (o : Option A) (r : Bool) → is_some o ≡ not r → r ≡ is_none o
none_from_not None true h = refl
none_from_not None false h = cc
none_from_not (Some x) true h = cc
none_from_not (Some x) false h = refl
