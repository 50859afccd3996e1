-- The parts of an input are no longer than the input.
use Rattle.std.proofs.Common.{◌≡◌, ◌≤◌, ◌<◌, ◌+◌, ℕ, true, false, cond, Option, Some, None, IfSome, List, [], ◌∷◌, ◌++◌, length, refl, sym, ap, subst, arith, length-append}
use Rattle.std.specs.List.{join_with_byte}
use Rattle.std.specs.Option.{option_map_or}
use Rattle.wave_text.specs.Lines.{is_inside, onto_first, cut_lines}
use Rattle.input_parts.specs.Parts.{is_dashes, with_first, line_parts, lines_text, service_of, text_behind, script_of}
use Rattle.due_parts.specs.Scripts.{two_parts, with_third}

-- how many bytes lines have, each with one more
abbrev size : List (List ℕ) → ℕ
size [] = 0
size (l ∷ ls) = length l + 1 + size ls

cut_some : (bs : List ℕ) → (l : List ℕ) × (ls : List (List ℕ)) × (cut_lines bs ≡ l ∷ ls)
cut_some [] = ([], [], refl)
cut_some (b ∷ bs) =
    elim (is_inside b) as (λ t. (l : List ℕ) × (ls : List (List ℕ)) × (cond t (onto_first b (cut_lines bs)) ([] ∷ cut_lines bs) ≡ l ∷ ls)) [
      | true ↦ (let w = cut_some bs in (b ∷ w.0, w.1, ap (onto_first b) w.2))
      | false ↦ ([], cut_lines bs, refl)
    ]

onto_size : (b : ℕ) (ls : List (List ℕ)) → (l : List ℕ) × (rest : List (List ℕ)) × (ls ≡ l ∷ rest) → size (onto_first b ls) ≡ size ls + 1
onto_size b ls w = subst (λ xs. size (onto_first b xs) ≡ size xs + 1) (sym w.2) (omega arith)

-- the lines of a text have its bytes, and one more
cut_size : (bs : List ℕ) → size (cut_lines bs) ≡ length bs + 1
cut_size [] = refl
cut_size (b ∷ bs) =
    elim (is_inside b) as (λ t. size (cond t (onto_first b (cut_lines bs)) ([] ∷ cut_lines bs)) ≡ length (b ∷ bs) + 1) [
      | true ↦ omega (arith, onto_size b (cut_lines bs) (cut_some bs), cut_size bs)
      | false ↦ omega (arith, cut_size bs)
    ]

-- the lines before and behind are among them
record AreFew (lines : List (List ℕ)) (x : List (List ℕ) × List (List ℕ)) : Type 0 where
  both : size x.0 + size x.1 < size lines

few_first : (l : List ℕ) (ls : List (List ℕ)) (o : Option (List (List ℕ) × List (List ℕ))) → IfSome o (AreFew ls) → IfSome (with_first l o) (AreFew (l ∷ ls))
few_first l ls None h = tt
few_first l ls (Some x) h = let both = h.both in record { both = omega (arith, both) }

parted_few : (ls : List (List ℕ)) → IfSome (line_parts ls) (AreFew ls)
parted_few [] = tt
parted_few (l ∷ ls) =
    elim (is_dashes l) as (λ t. IfSome (cond t (Some ([], ls)) (with_first l (line_parts ls))) (AreFew (l ∷ ls))) [
      | true ↦ record { both = omega arith }
      | false ↦ few_first l ls (line_parts ls) (parted_few ls)
    ]

ended_size : (ls : List (List ℕ)) → length (lines_text ls) ≡ size ls
ended_size [] = refl
ended_size (l ∷ ls) = omega (arith, ended_size ls, length-append (l ++ 10 ∷ []) (lines_text ls), length-append l (10 ∷ []))

joined_size : (ls : List (List ℕ)) → length (join_with_byte 10 ls) ≤ size ls
joined_size [] = omega arith
joined_size (l ∷ []) = omega arith
joined_size (l ∷ m ∷ ls) = omega (arith, joined_size (m ∷ ls), length-append l (10 ∷ join_with_byte 10 (m ∷ ls)))

service_in : (input : List ℕ) (o : Option (List (List ℕ) × List (List ℕ))) → IfSome o (AreFew (cut_lines input)) → length (option_map_or (λ (x : List (List ℕ) × List (List ℕ)). lines_text x.0) o input) ≤ length input
service_in input None h = omega arith
service_in input (Some x) h = let both = h.both in omega (arith, both, cut_size input, ended_size x.0)

script_in : (input script : List ℕ) (o : Option (List (List ℕ) × List (List ℕ))) → IfSome o (AreFew (cut_lines input)) → text_behind o ≡ Some script → length script ≤ length input
script_in input script None h e = cc
script_in input script (Some x) h e =
    let both = h.both in
    let same : join_with_byte 10 x.1 ≡ script = cc in
    omega (arith, both, cut_size input, joined_size x.1, ap length same)

service_short : (input : List ℕ) → length (service_of input) ≤ length input
service_short input = service_in input (line_parts (cut_lines input)) (parted_few (cut_lines input))

script_short : (input script : List ℕ) → script_of input ≡ Some script → length script ≤ length input
script_short input script e = script_in input script (line_parts (cut_lines input)) (parted_few (cut_lines input)) e

third_in : (rest second third : List ℕ) (o : Option (List ℕ)) → with_third (service_of rest) o ≡ Some (second, third) → (second ≡ service_of rest) × (o ≡ Some third)
third_in rest second third None e = cc
third_in rest second third (Some x) e =
    let same : ◌≡◌ {A = List ℕ × List ℕ} (service_of rest, x) (second, third) = cc in
    (ap (λ p. p.0) (sym same), ap (λ p. Some p.1) same)

parts_in : (input second third : List ℕ) (o : Option (List ℕ)) → script_of input ≡ o → two_parts o ≡ Some (second, third) → (length second ≤ length input) × (length third ≤ length input)
parts_in input second third None is e = cc
parts_in input second third (Some rest) is e =
    let low = script_short input rest is in
    let parts = third_in rest second third (script_of rest) e in
    (omega (arith, low, service_short rest, ap length parts.0), omega (arith, low, script_short rest third parts.1))

-- both parts behind a service
pub parts_short : (input second third : List ℕ) → two_parts (script_of input) ≡ Some (second, third) → (length second ≤ length input) × (length third ≤ length input)
parts_short input second third e = parts_in input second third (script_of input) refl e
