-- The class of the context at a path.
use Rattle.std.proofs.Common.{◌≡◌, ℕ, ◌-◌, ◌<◌, suc, List, [], ◌∷◌, length, get_or, refl, ap, ◌∙◌, arith}
use Rattle.wave_base.specs.declared.path.Step.{Step}
use Rattle.wave_base.specs.Shapes.{class_from}

-- it is that of the last step
pub last_class : (c : ℕ) (p : List Step) (d : Step) → 0 < length p → (get_or p (length p - 1) d).class.0 ≡ class_from c p
last_class c [] d h = absurd (omega arith)
last_class c (s ∷ []) d h = refl
last_class c (s ∷ t ∷ p) d h =
    let i : length (s ∷ t ∷ p) - 1 ≡ suc (length (t ∷ p) - 1) = omega arith in
    ap (λ n. (get_or (s ∷ t ∷ p) n d).class.0) i ∙ last_class s.class.0 (t ∷ p) d (omega arith)
