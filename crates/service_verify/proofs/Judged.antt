-- What it says that a judgement came out well.
use Rattle.std.proofs.Common.{◌≡◌, Bool, true, false, Option, Some, None, refl}
use Rattle.std.specs.Prelude.{Ok, Err}
use Rattle.service_verify.specs.declared.error.Rule.{Rule}
use Rattle.service_verify.specs.Rules.{Judged, judged_item, must, judged_then}

module _ {A B : Type 0} {P : Type 0} where
  pub then_ok : (o : Judged A) (f : A → Judged B) (y : B) → judged_then o f ≡ Ok y → ((x : A) → o ≡ Ok x → f x ≡ Ok y → P) → P
  then_ok (Ok x) f y e go = go x refl e
  then_ok (Err r) f y e go = cc

  pub found_ok : (r : Rule) (o : Option A) (f : A → Judged B) (y : B) → judged_item r o f ≡ Ok y → ((x : A) → o ≡ Some x → f x ≡ Ok y → P) → P
  found_ok r None f y e go = cc
  found_ok r (Some x) f y e go = go x refl e

module _ {B : Type 0} {P : Type 0} where
  pub must_ok : (r : Rule) (b : Bool) (j : Judged B) (y : B) → must r b j ≡ Ok y → (b ≡ true → j ≡ Ok y → P) → P
  must_ok r true j y e go = go refl e
  must_ok r false j y e go = cc

pub ok_same : {A : Type 0} (x y : A) → ◌≡◌ {A = Judged A} (Ok x) (Ok y) → x ≡ y
ok_same x y e = cc

pub some_same : {A : Type 0} (x y : A) → Some x ≡ Some y → x ≡ y
some_same x y e = cc
