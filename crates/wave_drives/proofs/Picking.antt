-- What a loop over labels has picked.
use Rattle.std.proofs.Common.{◌≡◌, ◌∙◌, ℕ, zero, suc, ◌-◌, ◌%◌, ◌≤◌, Bool, not, List, [], ◌∷◌, length, map, Some, refl, sym, ap, arith}
use Rattle.std.specs.Prelude.{option_map, slice_get}
use Rattle.std.proofs.lemmas.List.{length-map}
use Rattle.wave_labels.specs.declared.label.Label as program
use Rattle.wave_labels.specs.Labels.{label_of}
use Rattle.wave_states.specs.Labels.{Label, takes_mail}
use Rattle.wave_states.specs.Runs.{last_of, seed}
use Rattle.wave_base.specs.Draws.{next_draw, draw_from}
use Rattle.wave_effects.specs.Machines.{TheState}

slice_of_map : {X Y : Type 0} (f : X → Y) (xs : List X) (i : ℕ) → slice_get (map f xs) i ≡ option_map f (slice_get xs i)
slice_of_map f [] i = refl
slice_of_map f (x ∷ xs) zero = refl
slice_of_map f (x ∷ xs) (suc i) = slice_of_map f xs i

pub draw_many : (xs : List program.Label) (l : program.Label) (x : ℕ) (s : TheState) → 2 ≤ length xs → slice_get xs (draw_from x % length xs) ≡ Some l → seed x s (map label_of xs) ≡ (next_draw x, Some (label_of l))
draw_many [] l x s many e = absurd (omega (arith, many))
draw_many (a ∷ []) l x s many e = absurd (omega (arith, many))
draw_many (a ∷ b ∷ xs) l x s many e =
    ap (λ o. (next_draw x, o)) (ap (λ n. slice_get (map label_of (a ∷ b ∷ xs)) (draw_from x % n)) (length-map (a ∷ b ∷ xs) label_of) ∙ slice_of_map label_of (a ∷ b ∷ xs) (draw_from x % length (a ∷ b ∷ xs)) ∙ ap (option_map label_of) e)

-- the last of a list
pub last_is : (xs : List program.Label) → last_of (map label_of xs) ≡ option_map label_of (slice_get xs (length xs - 1))
last_is [] = refl
last_is (x ∷ []) = refl
last_is (x ∷ y ∷ xs) =
    let place : length (x ∷ y ∷ xs) - 1 ≡ suc (length (y ∷ xs) - 1) = omega arith in
    last_is (y ∷ xs) ∙ ap (λ n. option_map label_of (slice_get (x ∷ y ∷ xs) n)) (sym place)

-- the first that takes no mail
abbrev pub calls : Label → Bool
calls l = not (takes_mail l.act)
