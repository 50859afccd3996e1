-- What the verifier's tables keep.
use Rattle.std.proofs.Common.{◌≡◌, ℕ, zero, suc, ◌+◌, ◌<◌, List, [], ◌∷◌, length, Bool, true, false, ◌&&◌, Option, Some, None, refl, ap, sym, subst, ◌∙◌, arith}
use Rattle.std.specs.Prelude.{Result, Ok, Err, slice_get, slice_set, replicate, ◌==◌}
use Rattle.std.specs.Cmp.Lexicographic.{pointwise}
use Rattle.std.proofs.lemmas.Bool.Decides.{nat_tests}
use Rattle.std.proofs.lemmas.List.{length-replicate}
use Rattle.wave_base.specs.declared.value.Kind.{Kind}
use Rattle.wave_base.specs.declared.value.Kind.TheVariants as k
use Rattle.service_code.specs.declared.instr.Instr.{Instr}
use Rattle.service_code.specs.declared.program.Function.{Function}
use Rattle.service_code.specs.declared.program.Program.{Program}
use Rattle.service_verify.specs.declared.error.Rule.TheVariants as rule
use Rattle.service_verify.specs.declared.point.Point.{Point}
use Rattle.service_verify.specs.Points.{Table, Fault, point_after, arrived_at, arrival, arrivals, visit, visited_then, judged_from, judged_function, first_point, first_table}
use Rattle.service_verify.specs.Rules.{Judged, kind_eq, next_of}
use Rattle.service_verify.proofs.Judged.{then_ok, found_ok, must_ok, ok_same, some_same}

-- equal kinds
pub kind_eq_same : (a b : Kind) → kind_eq a b ≡ true → a ≡ b
kind_eq_same k.Int k.Int e = refl
kind_eq_same k.Bool k.Bool e = refl
kind_eq_same k.Text k.Text e = refl
kind_eq_same k.Map k.Map e = refl
kind_eq_same k.Int k.Bool e = cc
kind_eq_same k.Int k.Text e = cc
kind_eq_same k.Int k.Map e = cc
kind_eq_same k.Bool k.Int e = cc
kind_eq_same k.Bool k.Text e = cc
kind_eq_same k.Bool k.Map e = cc
kind_eq_same k.Text k.Int e = cc
kind_eq_same k.Text k.Bool e = cc
kind_eq_same k.Text k.Map e = cc
kind_eq_same k.Map k.Int e = cc
kind_eq_same k.Map k.Bool e = cc
kind_eq_same k.Map k.Text e = cc

both : {P : Type 0} (a b : Bool) → (a && b) ≡ true → (a ≡ true → b ≡ true → P) → P
both true true e go = go refl refl
both true false e go = cc
both false b e go = cc

pub kinds_eq_same : (xs ys : List Kind) → pointwise kind_eq xs ys ≡ true → xs ≡ ys
kinds_eq_same [] [] e = refl
kinds_eq_same [] (y ∷ ys) e = cc
kinds_eq_same (x ∷ xs) [] e = cc
kinds_eq_same (x ∷ xs) (y ∷ ys) e = both (kind_eq x y) (pointwise kind_eq xs ys) e (λ a b. let rest = kinds_eq_same xs ys b in let one = kind_eq_same x y a in λ i. one i ∷ rest i)

-- a point is set and stays
pub record Extends (t u : Table) : Type 0 where
  pub long : length u ≡ length t
  pub stays : (n : ℕ) (q : Point) → slice_get t n ≡ Some (Some q) → slice_get u n ≡ Some (Some q)

pub extends_self : (t : Table) → Extends t t
extends_self t = record { long = refl; stays = λ n q h. h }

pub extends_on : (t u v : Table) → Extends t u → Extends u v → Extends t v
extends_on t u v a b = record { long = b.long ∙ a.long; stays = λ n q h. b.stays n q (a.stays n q h) }

-- the point that is fixed at n has the class and the kinds of p
pub record Meets (t : Table) (n : ℕ) (p : Point) : Type 0 where
  pub point : Point
  pub is_there : slice_get t n ≡ Some (Some point)
  pub class_is : point.class.0 ≡ p.class.0
  pub stack_is : point.stack ≡ p.stack

pub meets_on : (t u : Table) (n : ℕ) (p : Point) → Extends t u → Meets t n p → Meets u n p
meets_on t u n p x m = record { point = m.point; is_there = x.stays n m.point m.is_there; class_is = m.class_is; stack_is = m.stack_is }

set_get : (t : Table) (n : ℕ) (o : Option Point) (q : Option Point) → slice_get t n ≡ Some q → slice_get (slice_set t n o) n ≡ Some o
set_get [] n o q h = cc
set_get (x ∷ t) zero o q h = refl
set_get (x ∷ t) (suc n) o q h = set_get t n o q h

set_other : (t : Table) (n m : ℕ) (o : Option Point) (q : Point) → slice_get t n ≡ Some None → slice_get t m ≡ Some (Some q) → slice_get (slice_set t n o) m ≡ Some (Some q)
set_other [] n m o q h g = cc
set_other (x ∷ t) zero zero o q h g = cc
set_other (x ∷ t) zero (suc m) o q h g = g
set_other (x ∷ t) (suc n) zero o q h g = g
set_other (x ∷ t) (suc n) (suc m) o q h g = set_other t n m o q h g

set_long : (t : Table) (n : ℕ) (o : Option Point) → length (slice_set t n o) ≡ length t
set_long [] n o = refl
set_long (x ∷ t) zero o = refl
set_long (x ∷ t) (suc n) o = ap suc (set_long t n o)

-- what an arrival leaves
pub record Arrived (t u : Table) (n : ℕ) (p : Point) : Type 0 where
  pub extends : Extends t u
  pub meets : Meets u n p

arrived : (n : ℕ) (p : Point) (t u : Table) → arrival n p t ≡ Ok u → Arrived t u n p
arrived n p t u e = found_ok rule.Jump (slice_get t n) (λ q. arrived_at n p q t) u e (λ q is. at q is)
  where
    at : (q : Option Point) → slice_get t n ≡ Some q → arrived_at n p q t ≡ Ok u → Arrived t u n p
    at None is e =
        let same : slice_set t n (Some p) ≡ u = ok_same _ _ e in
        subst (λ u. Arrived t u n p) same (record {
          extends = record { long = set_long t n (Some p); stays = λ m q h. set_other t n m (Some p) q is h };
          meets = record { point = p; is_there = set_get t n (Some p) None is; class_is = refl; stack_is = refl };
        })
    at (Some q) is e =
        must_ok rule.Stack (length p.stack == length q.stack) _ u e (λ long e'.
        must_ok rule.Kind (p.class.0 == q.class.0) _ u e' (λ class e''.
        must_ok rule.Kind (pointwise kind_eq p.stack q.stack) (Ok t) u e'' (λ kinds same.
        subst (λ u. Arrived t u n p) (ok_same t u same) (record {
          extends = extends_self t;
          meets = record { point = q; is_there = is; class_is = grind (arith, nat_tests); stack_is = sym (kinds_eq_same p.stack q.stack kinds) };
        }))))

-- each of them is met
abbrev pub EachMeets : Table → List ℕ → Point → Type 0
EachMeets t [] p = Unit {0}
EachMeets t (n ∷ ns) p = Meets t n p × EachMeets t ns p

pub each_on : (t u : Table) (ns : List ℕ) (p : Point) → Extends t u → EachMeets t ns p → EachMeets u ns p
each_on t u [] p x m = tt
each_on t u (n ∷ ns) p x m = (meets_on t u n p x m.0, each_on t u ns p x m.1)

all_arrived : (ns : List ℕ) (p : Point) (t u : Table) → arrivals ns p t ≡ Ok u → Extends t u × EachMeets u ns p
all_arrived [] p t u e = subst (λ u. Extends t u × Unit {0}) (ok_same t u e) (extends_self t, tt)
all_arrived (n ∷ ns) p t u e = then_ok (arrival n p t) (λ v. arrivals ns p v) u e (λ v a b. join v (arrived n p t v a) (all_arrived ns p v u b))
  where
    join : (v : Table) → Arrived t v n p → Extends v u × EachMeets u ns p → Extends t u × (Meets u n p × EachMeets u ns p)
    join v a b = (extends_on t v u a.extends b.0, (meets_on v u n p b.0 a.meets, b.1))

module _ (program : Program) (number : ℕ) (function : Function) where
  -- an instruction keeps the rules in a table: its own point is fixed, and so is each that it leads to
  pub record Fine (t : Table) (n : ℕ) (i : Instr) : Type 0 where
    pub point : Point
    pub is_there : slice_get t n ≡ Some (Some point)
    pub next : Point
    pub leads : point_after program number function i point ≡ Ok next
    pub meets : EachMeets t (next_of i n) next

  fine_on : (t u : Table) (n : ℕ) (i : Instr) → Extends t u → Fine t n i → Fine u n i
  fine_on t u n i x f = record { point = f.point; is_there = x.stays n f.point f.is_there; next = f.next; leads = f.leads; meets = each_on t u (next_of i n) f.next x f.meets }

  visited : (n : ℕ) (i : Instr) (t u : Table) → visit program number function n i t ≡ Ok u → Extends t u × Fine u n i
  unfolding visit
  visited n i t u e =
      found_ok rule.Jump (slice_get t n) _ u e (λ q is e'.
      found_ok rule.Jump q _ u e' (λ p is' e''.
      then_ok (point_after program number function i p) (λ after. arrivals (next_of i n) after t) u e'' (λ next leads e'''.
      join p next (is ∙ ap (λ q. Some q) is') leads (all_arrived (next_of i n) next t u e'''))))
    where
      join : (p next : Point) → slice_get t n ≡ Some (Some p) → point_after program number function i p ≡ Ok next → Extends t u × EachMeets u (next_of i n) next → Extends t u × Fine u n i
      join p next is leads a = (a.0, record { point = p; is_there = a.0.stays n p is; next = next; leads = leads; meets = a.1 })

  -- all instructions from n on keep the rules
  AllFine : Table → ℕ → List Instr → Type 0
  AllFine t n is = (m : ℕ) (i : Instr) → slice_get is m ≡ Some i → Fine t (n + m) i

  judged : (n : ℕ) (is : List Instr) (t u : Table) → judged_from program number function n is t ≡ Ok u → Extends t u × AllFine u n is
  unfolding judged_from AllFine
  judged n [] t u e = (subst (Extends t) (fault_same t u e) (extends_self t), λ m i h. cc)
    where
      fault_same : (x y : Table) → ◌≡◌ {A = Result Table Fault} (Ok x) (Ok y) → x ≡ y
      fault_same x y e = cc
  judged n (i ∷ is) t u e = go (visit program number function n i t) refl e (λ v. judged (suc n) is v u)
    where
      first : (v : Table) → Extends v u → Fine v n i → AllFine u (suc n) is → AllFine u n (i ∷ is)
      first v x f rest zero j h = let e : n ≡ n + 0 = omega arith in subst (λ m. Fine u m j) e (subst (Fine u n) (some_same i j h) (fine_on v u n i x f))
      first v x f rest (suc m) j h = let e : suc n + m ≡ n + suc m = omega arith in subst (λ k. Fine u k j) e (rest m j h)

      go : (o : Judged Table) → visit program number function n i t ≡ o → visited_then n o (λ v. judged_from program number function (suc n) is v) ≡ Ok u → ((v : Table) → judged_from program number function (suc n) is v ≡ Ok u → Extends v u × AllFine u (suc n) is) → Extends t u × AllFine u n (i ∷ is)
      go (Ok v) is_visit e rest =
          let a = visited n i t v is_visit in
          let b = rest v e in
          (extends_on t v u a.0 b.0, first v b.0 a.1 b.1)
      go (Err r) is_visit e rest = cc

  first_long : length (first_table function) ≡ length function.code
  first_long = set_long (replicate (length function.code) None) 0 (Some (first_point function)) ∙ length-replicate (length function.code) None

  first_there : 0 < length function.code → slice_get (first_table function) 0 ≡ Some (Some (first_point function))
  first_there h = go (length function.code) h
    where
      go : (n : ℕ) → 0 < n → slice_get (slice_set (replicate n None) 0 (Some (first_point function))) 0 ≡ Some (Some (first_point function))
      go zero h = absurd (omega arith)
      go (suc n) h = refl

  -- what a function that keeps the rules has: a point for each instruction, the first one with an empty stack
  pub record Keeps (t : Table) : Type 0 where
    pub long : length t ≡ length function.code
    pub first : 0 < length function.code → slice_get t 0 ≡ Some (Some (first_point function))
    pub fine : (n : ℕ) (i : Instr) → slice_get function.code n ≡ Some i → Fine t n i

  pub keeps : (t : Table) → judged_function program number function ≡ Ok t → Keeps t
  unfolding judged_function AllFine
  keeps t e = join (judged 0 function.code (first_table function) t e)
    where
      join : Extends (first_table function) t × AllFine t 0 function.code → Keeps t
      join j = record {
        long = j.0.long ∙ first_long;
        first = λ h. j.0.stays 0 (first_point function) (first_there h);
        fine = λ n i h. let z : 0 + n ≡ n = omega arith in subst (λ m. Fine t m i) z (j.1 n i h);
      }
