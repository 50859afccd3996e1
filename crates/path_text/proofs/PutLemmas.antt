-- Paths and fields as they are written.
use Rattle.std.proofs.Common.{◌≡◌, ◌+◌, drop-cons, ◌<◌, ℕ, suc, List, ◌++◌, length, map, drop, get_or, sym, ap, ◌∙◌, append_assoc, arith}
use Rattle.wave_base.specs.declared.path.Step.{Step}
use Rattle.wave_base.specs.declared.shape.Shape.{Shape}
use Rattle.path_text.specs.PathTexts.{written_step}
use Rattle.path_text.specs.Steps.{step_text, steps_text}

-- a step more is written
pub step_put : (shape : Shape) (out out' whole : List ℕ) (steps : List Step) (i : ℕ) (d : Step) → i < length steps → out' ≡ out ++ step_text (written_step shape (get_or steps i d))
    → out ++ steps_text (map (written_step shape) (drop i steps)) ≡ whole → out' ++ steps_text (map (written_step shape) (drop (i + 1) steps)) ≡ whole
step_put shape out out' whole steps i d below e h =
    let next : i + 1 ≡ suc i = omega arith in
    let s : Step = get_or steps i d in
    ap (λ k. out' ++ steps_text (map (written_step shape) (drop k steps))) next
    ∙ ap (λ z. z ++ steps_text (map (written_step shape) (drop (suc i) steps))) e
    ∙ append_assoc out (step_text (written_step shape s)) (steps_text (map (written_step shape) (drop (suc i) steps)))
    ∙ ap (λ z. out ++ steps_text (map (written_step shape) z)) (sym (drop-cons steps i d below)) ∙ h
