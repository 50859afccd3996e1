-- A program that is fit and verified can be listed.
use Rattle.std.proofs.Common.{◌≡◌, ℕ, suc, ◌<◌, Bool, true, false, nat_lt, List, [], ◌∷◌, All, get_or, Option, Some, None, Ok, Err, refl}
use Rattle.std.specs.Prelude.{slice_get}
use Rattle.std.specs.List.{AllByRecursion}
use Rattle.std.proofs.lemmas.Bool.{ltb-true}
use Rattle.std.proofs.lemmas.List.Elements.{All-from_recursion}
use Rattle.std.proofs.lemmas.Option.{slice_get-get_or}
use Rattle.wave_base.specs.declared.operators.TheConstants.{OPERATORS}
use Rattle.value_ops.specs.Operators.{takes_of, gives_of}
use Rattle.service_code.specs.declared.instr.Instr.{Instr}
use Rattle.service_code.specs.declared.instr.Instr.TheVariants.{Op}
use Rattle.service_code.specs.declared.program.Function.{Function}
use Rattle.service_code.specs.declared.program.Program.{Program}
use Rattle.service_code.specs.Instructions.{HasOperator}
use Rattle.service_code.specs.Listing.{CanList}
use Rattle.service_verify.specs.declared.error.Rule.TheVariants as rule
use Rattle.service_verify.specs.declared.point.Point.{Point}
use Rattle.service_verify.specs.Fit.{IsFit}
use Rattle.service_verify.specs.Points.{Table, arrivals, visited_then, first_table, point_after, visit, judged_from, judged_function, IsVerified}
use Rattle.service_verify.specs.Rules.{Judged, Effect, judged_item, must, judged_then, operands, effect_of, next_of}

then_ok : {A B : Type 0} (a : Judged A) (go : A → Judged B) (b : B) → judged_then a go ≡ Ok b → (x : A) × (a ≡ Ok x)
then_ok (Ok x) go b h = (x, refl)
then_ok (Err r) go b h = cc

module _ (program : Program) (number : ℕ) (function : Function) where
  effect_listed : (class : ℕ) (i : Instr) (e : Effect) → effect_of program number function class i ≡ Ok e → HasOperator i
  unfolding effect_of
  effect_listed class (Op r) e h = by (nat_lt r OPERATORS) refl h
    where
      by : (b : Bool) → nat_lt r OPERATORS ≡ b → must rule.Field b (Ok (record { takes = operands (takes_of r); gives = Some (gives_of r) })) ≡ Ok e → r < OPERATORS
      by true is h = ltb-true r OPERATORS is
      by false is h = cc
  effect_listed class _ e h = tt

  point_listed : (i : Instr) (p q : Point) → point_after program number function i p ≡ Ok q → HasOperator i
  unfolding point_after
  point_listed i p q h = let e = then_ok (effect_of program number function p.class.0 i) _ q h in effect_listed p.class.0 i e.0 e.1

  visit_listed : (n : ℕ) (i : Instr) (t u : Table) → visit program number function n i t ≡ Ok u → HasOperator i
  unfolding visit
  visit_listed n i t u h = by (slice_get t n) h
    where
      inner : (q : Option Point) → judged_item rule.Jump q (λ p. judged_then (point_after program number function i p) (λ after. arrivals (next_of i n) after t)) ≡ Ok u → HasOperator i
      inner None h = cc
      inner (Some p) h = let e = then_ok (point_after program number function i p) (λ after. arrivals (next_of i n) after t) u h in point_listed i p e.0 e.1

      by : (o : Option (Option Point)) → judged_item rule.Jump o (λ q. judged_item rule.Jump q (λ p. judged_then (point_after program number function i p) (λ after. arrivals (next_of i n) after t))) ≡ Ok u → HasOperator i
      by None h = cc
      by (Some q) h = inner q h

  from_listed : (n : ℕ) (is : List Instr) (t u : Table) → judged_from program number function n is t ≡ Ok u → AllByRecursion HasOperator is
  unfolding judged_from
  from_listed n [] t u h = tt
  from_listed n (i ∷ is) t u h = by (visit program number function n i t) refl h (λ w g. from_listed (suc n) is w u g)
    where
      by : (v : Judged Table) → visit program number function n i t ≡ v → visited_then n v (λ w. judged_from program number function (suc n) is w) ≡ Ok u → ((w : Table) → judged_from program number function (suc n) is w ≡ Ok u → AllByRecursion HasOperator is) → AllByRecursion HasOperator (i ∷ is)
      by (Ok w) e h rest = (visit_listed n i t w e, rest w h)
      by (Err r) e h rest = cc

  function_listed : (u : Table) → judged_function program number function ≡ Ok u → All HasOperator function.code
  unfolding judged_function
  function_listed u h = All-from_recursion HasOperator function.code (from_listed 0 function.code (first_table function) u h)

pub can_list : (program : Program) → IsFit program → IsVerified program → All (CanList program.shape) program.functions
can_list program fit verified k d l =
    let f = get_or program.functions k d in
    let fits = fit.functions k d l in
    let points = verified.each k f (slice_get-get_or program.functions k d l) in
    record { class = fits.class; places = fits.places; operators = function_listed program k f points.0 points.1 }
