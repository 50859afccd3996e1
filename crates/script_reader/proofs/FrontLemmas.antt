-- The piece at the front of a text.
use Rattle.std.proofs.Common.{◌≡◌, ◌+◌, ◌-◌, ℕ, zero, suc, true, false, cond, List, [], ◌∷◌, ◌++◌, length, take, drop, refl, sym, ap, subst, ◌∙◌, length-drop, arith}
use Rattle.std.specs.Prelude.{◌&&◌}
use Rattle.std.specs.List.{list_all, prefix_len}
use Rattle.std.proofs.lemmas.Bool.{and_parts}
use Rattle.std.proofs.lemmas.List.{take_all, take-append-drop}
use Rattle.wave_text.specs.Words.{is_blank}
use Rattle.script_reader.specs.declared.piece.Piece.{Piece}
use Rattle.script_reader.specs.declared.piece.Piece.TheVariants.{Run, Text, Open, Close, Comma}
use Rattle.script_reader.specs.inner.Begins.{first_run}
use Rattle.script_reader.specs.Pieces.{is_solid, is_run, begins_solid, piece_text, IsPiece, IsFront, IsOnlyFront, without_blanks}

-- ---- blanks

blanks_gone : (xs : List ℕ) → drop (prefix_len is_blank xs) xs ≡ without_blanks xs
blanks_gone [] = refl
blanks_gone (b ∷ bs) =
    elim (is_blank b) as (λ t. drop (cond t (1 + prefix_len is_blank bs) 0) (b ∷ bs) ≡ cond t (without_blanks bs) (b ∷ bs)) [
      | true ↦ (let n : 1 + prefix_len is_blank bs ≡ suc (prefix_len is_blank bs) = omega arith in rw n (blanks_gone bs))
      | false ↦ refl
    ]

rest_from : (n : ℕ) (xs : List ℕ) → take (length xs - n) (drop n xs) ≡ drop n xs
rest_from n xs = take_all (length xs - n) (drop n xs) (omega (arith, length-drop n xs))

pub blanks_dropped : (n : ℕ) (xs : List ℕ) → n ≡ prefix_len is_blank xs → take (length xs - n) (drop n xs) ≡ without_blanks xs
blanks_dropped n xs e = rest_from n xs ∙ ap (λ k. drop k xs) e ∙ blanks_gone xs

-- ---- runs

solid_front : (xs : List ℕ) → list_all is_solid (take (prefix_len is_solid xs) xs) ≡ true
solid_front [] = refl
solid_front (x ∷ xs) =
    elim (is_solid x) as (λ t. is_solid x ≡ t → list_all is_solid (take (cond t (1 + prefix_len is_solid xs) 0) (x ∷ xs)) ≡ true) [
      | true ↦ λ e. (let n : 1 + prefix_len is_solid xs ≡ suc (prefix_len is_solid xs) = omega arith in rw n ((λ i. e i && list_all is_solid (take (prefix_len is_solid xs) xs)) ∙ solid_front xs))
      | false ↦ λ e. refl
    ] refl

solid_end : (xs : List ℕ) → begins_solid (drop (prefix_len is_solid xs) xs) ≡ false
solid_end [] = refl
solid_end (x ∷ xs) =
    elim (is_solid x) as (λ t. is_solid x ≡ t → begins_solid (drop (cond t (1 + prefix_len is_solid xs) 0) (x ∷ xs)) ≡ false) [
      | true ↦ λ e. (let n : 1 + prefix_len is_solid xs ≡ suc (prefix_len is_solid xs) = omega arith in rw n (solid_end xs))
      | false ↦ λ e. e
    ] refl

run_of : (bs : List ℕ) → list_all is_solid bs ≡ true → (bs ≡ [] → ⊥) → is_run bs ≡ true
run_of [] h n = absurd (n refl)
run_of (b ∷ bs) h n = h

all_of : (bs : List ℕ) → is_run bs ≡ true → list_all is_solid bs ≡ true
all_of [] h = refl
all_of (b ∷ bs) h = h

runs_same : (bs cs r s : List ℕ) → list_all is_solid bs ≡ true → list_all is_solid cs ≡ true → begins_solid r ≡ false → begins_solid s ≡ false → bs ++ r ≡ cs ++ s → (bs ≡ cs) × (r ≡ s)
runs_same [] [] r s p q h k e = (refl, e)
runs_same [] (c ∷ cs) r s p q h k e = absurd (cc (sym (ap begins_solid e) ∙ h, (and_parts (is_solid c) (list_all is_solid cs) q).0))
runs_same (b ∷ bs) [] r s p q h k e = absurd (cc (ap begins_solid e ∙ k, (and_parts (is_solid b) (list_all is_solid bs) p).0))
runs_same (b ∷ bs) (c ∷ cs) r s p q h k e =
    let same : b ≡ c = cc in
    let rest : bs ++ r ≡ cs ++ s = cc in
    let w = runs_same bs cs r s (and_parts (is_solid b) (list_all is_solid bs) p).1 (and_parts (is_solid c) (list_all is_solid cs) q).1 h k rest in
    ((λ i. same i ∷ w.0 i), w.1)

-- a text that begins with a sign has no solid byte in front
no_run : (b : ℕ) (bs text : List ℕ) → is_solid b ≡ false → text ≡ b ∷ bs → prefix_len is_solid text ≡ 0
no_run b bs text h e = ap (prefix_len is_solid) e ∙ ap (λ t. cond t (1 + prefix_len is_solid bs) 0) h

some_front : (n : ℕ) (text : List ℕ) → n ≡ prefix_len is_solid text → (n ≡ 0 → ⊥) → take n text ≡ [] → ⊥
some_front n [] e some h = some e
some_front zero (b ∷ bs) e some h = some refl
some_front (suc n) (b ∷ bs) e some h = cc

only_run : (text : List ℕ) (n : ℕ) → n ≡ prefix_len is_solid text → (n ≡ 0 → ⊥) → (other : Piece) (left : List ℕ) → IsFront text other left → (other ≡ Run (take n text)) × (left ≡ drop n text)
only_run text n e some (Run cs) left f =
    let w =
    runs_same cs (take n text) left (drop n text) (all_of cs f.form) (subst (λ k. list_all is_solid (take k text) ≡ true) (sym e) (solid_front text)) f.ends
    (subst (λ k. begins_solid (drop k text) ≡ false) (sym e) (solid_end text)) (sym f.spelled ∙ sym (take-append-drop n text)) in
    (ap (λ z. Run z) w.0, w.1)
only_run text n e some (Text t) left f = absurd (some (e ∙ no_run 34 _ text refl f.spelled))
only_run text n e some Open left f = absurd (some (e ∙ no_run 40 left text refl f.spelled))
only_run text n e some Close left f = absurd (some (e ∙ no_run 41 left text refl f.spelled))
only_run text n e some Comma left f = absurd (some (e ∙ no_run 44 left text refl f.spelled))

run_front : (text : List ℕ) (n : ℕ) → n ≡ prefix_len is_solid text → (n ≡ 0 → ⊥) → IsOnlyFront text (Run (take n text)) (drop n text)
run_front text n e some = record {
  front = record {
    spelled = sym (take-append-drop n text);
    form = run_of (take n text) (subst (λ k. list_all is_solid (take k text) ≡ true) (sym e) (solid_front text)) (some_front n text e some);
    ends = subst (λ k. begins_solid (drop k text) ≡ false) (sym e) (solid_end text);
  };
  only = only_run text n e some;
}

pub run_found : (text bytes rest : List ℕ) (n : ℕ) → n ≡ prefix_len is_solid text → (n ≡ 0 → ⊥) → bytes ≡ take n text → rest ≡ take (length text - n) (drop n text) → IsOnlyFront text (Run bytes) rest
run_found text bytes rest n e some b r =
    subst (λ z. IsOnlyFront text (Run z) rest) (sym b) (subst (λ z. IsOnlyFront text (Run (take n text)) z) (sym (r ∙ rest_from n text)) (run_front text n e some))

-- ---- a piece has bytes

pub some_bytes : (p : Piece) (rest : List ℕ) → IsPiece p → piece_text p ++ rest ≡ [] → ⊥
some_bytes (Run []) rest h e = cc
some_bytes (Run (b ∷ bs)) rest h e = cc
some_bytes (Text t) rest h e = cc
some_bytes Open rest h e = cc
some_bytes Close rest h e = cc
some_bytes Comma rest h e = cc

-- ---- the first run

pub front_run : (text w rest : List ℕ) → IsFront text (Run w) rest → w ≡ first_run text
front_run text w rest f =
    let n : ℕ = prefix_len is_solid text in
    (runs_same w (take n text) rest (drop n text) (all_of w f.form) (solid_front text) f.ends (solid_end text) (sym f.spelled ∙ sym (take-append-drop n text))).0
