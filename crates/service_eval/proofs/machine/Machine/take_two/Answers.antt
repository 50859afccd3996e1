use Rattle.std.proofs.Common.{◌≡◌, ℕ, zero, suc, ◌+◌, List, [], ◌∷◌, take, drop, get_or, refl, ap, ◌∙◌, arith}
use Rattle.wave_base.specs.declared.value.Value.{Value}
use Rattle.wave_base.specs.Tree.{Tree}
use Rattle.resolved_service.specs.World.{nothing}
use Rattle.service_eval.specs.inner.Machines.{Mach, mach_of, cut_to, own}
use Rattle.service_eval.proofs.machine.Machine.take_two.Goals as goal

no_tree : Tree (List Value)
no_tree = record { paths = []; fields = λ _. [] }

one_more : (n : ℕ) → n + 1 ≡ suc n
one_more n = omega arith

module _ {A : Type 0} where
  first_there : (xs : List A) (n : ℕ) (d : A) → get_or (drop n (take (suc n) xs)) 0 d ≡ get_or (drop n xs) 0 d
  first_there [] zero d = refl
  first_there [] (suc n) d = refl
  first_there (x ∷ xs) zero d = refl
  first_there (x ∷ xs) (suc n) d = first_there xs n d

  front_there : (xs : List A) (n : ℕ) → take n (take (suc n) xs) ≡ take n xs
  front_there [] zero = refl
  front_there [] (suc n) = refl
  front_there (x ∷ xs) zero = refl
  front_there (x ∷ xs) (suc n) = ap (λ ys. x ∷ ys) (front_there xs n)

pub returns-clause-first : goal.returns-clause-first
returns-clause-first c =
    let vs = c.args.self.now.values.items in
    let left : c.take-second.new.self.values.items ≡ take (suc c.args.base) vs = ap (λ (m : Mach). m.values) (c.take-second.ensures.rest no_tree) ∙ ap (λ n. take n vs) (one_more c.args.base) in
    c.take-first.ensures.value ∙ ap (λ (xs : List Value). own 0 c.args.base xs) left ∙ first_there vs c.args.base nothing

pub returns-clause-rest : goal.returns-clause-rest
returns-clause-rest c = λ tree.
    let M = mach_of tree c.args.self.now in
    c.take-first.ensures.rest tree ∙ ap (cut_to c.args.base) (c.take-second.ensures.rest tree ∙ ap (λ n. cut_to n M) (one_more c.args.base))
    ∙ ap (λ vs. record M { values = vs }) (front_there c.args.self.now.values.items c.args.base)
