-- A mover's next step, and whether the record has that child.
use Rattle.std.proofs.Common.{◌≡◌, ℕ, zero, suc, ◌+◌, Bool, true, false, List, [], ◌∷◌, Option, Some, None, is_some, cond, ◌||◌, drop, add-one, refl, sym, ap, ◌∙◌}
use Rattle.std.specs.Prelude.{if◌then◌else◌}
use Rattle.std.specs.List.{list_any}
use Rattle.std.specs.BTreeMap.{is_at}
use Rattle.wave_base.specs.declared.path.Step.{Step}
use Rattle.wave_base.specs.declared.children.Child.{Child}
use Rattle.wave_base.specs.Paths.{step_eq, step_cmp}
use Rattle.wave_base.specs.PathLaws.{step_eq_ties}
use Rattle.wave_base.specs.Kids.{child_at}
use Rattle.wave_states.specs.Actors.{Left, Go, Over}
use Rattle.wave_states.specs.Movers.{Move, Mover, MoveEnd, Absent, advance_on}
use Rattle.wave_states.specs.States.{steps_of}
use Rattle.wave_states.specs.Walkers.{first_of}
use Rattle.migration_core.specs.inner.Next.{without_first}

-- a child is there where its step is among the steps
pub child_is : (children : List (Step × Child)) (s : Step) → is_some (child_at children s) ≡ list_any (step_eq s) (steps_of children)
child_is [] s = refl
child_is (c ∷ children) s =
    some_or (is_at (step_cmp s) c.0) c.1 (child_at children s) ∙ (λ i. sym (step_eq_ties s c.0) i || child_is children s i)
  where
    some_or : {X : Type 0} (b : Bool) (x : X) (o : Option X) → is_some (cond b (Some x) o) ≡ (b || is_some o)
    some_or true x o = refl
    some_or false x o = refl

rest : (n : ℕ) (p : List Step) → drop (suc n) p ≡ without_first (drop n p)
rest zero [] = refl
rest zero (s ∷ p) = refl
rest (suc n) [] = refl
rest (suc n) (s ∷ p) = rest n p

pub rest_left : (n : ℕ) (p : List Step) → drop (n + 1) p ≡ without_first (drop n p)
rest_left n p = ap (λ k. drop k p) (add-one n) ∙ rest n p

abbrev step_in : Option Step → Step → Step
step_in None s = s
step_in (Some t) s = t

module _ {F : Type 0} (move : Move) (f : F) (cs : List Step) where
  abbrev on : Step → List Step → Left Mover F MoveEnd
  on s ss = record { actor = record { move = move; rest = ss }; fields = f; pause = Go s }

  abbrev off : List Step → Left Mover F MoveEnd
  off ss = record { actor = record { move = move; rest = ss }; fields = f; pause = Over (Absent move.path) }

  -- where the child is there
  pub there : (left : List Step) (s : Step) → Some s ≡ first_of left → list_any (step_eq s) cs ≡ true → advance_on move f cs left ≡ on s (without_first left)
  there [] s e h = cc
  there (t ∷ ss) s e h =
      let same : s ≡ t = ap (λ o. step_in o s) e in
      ap (λ b. if b then on t ss else off (t ∷ ss)) (ap (λ u. list_any (step_eq u) cs) (sym same) ∙ h) ∙ ap (λ u. on u ss) (sym same)

  -- and where it is not
  pub missed : (left : List Step) (s : Step) → Some s ≡ first_of left → list_any (step_eq s) cs ≡ false → advance_on move f cs left ≡ off left
  missed [] s e h = cc
  missed (t ∷ ss) s e h =
      let same : s ≡ t = ap (λ o. step_in o s) e in
      ap (λ b. if b then on t ss else off (t ∷ ss)) (ap (λ u. list_any (step_eq u) cs) (sym same) ∙ h)
