-- Lines of an input, and the first one of dashes.
use Rattle.std.proofs.Common.{◌≡◌, ℕ, suc, ◌+◌, ◌-◌, ◌<◌, ◌≤◌, ◌⊎◌, inl, inr, ⊎_elim, Bool, true, false, cond, not, Option, Some, None, List, [], ◌∷◌, ◌++◌, length, take, drop, get_or, refl, sym, ◌∙◌, ap, subst, arith, eqb-true, append_assoc, append-nil, length-append, add-one, drop-cons}
use Rattle.std.specs.Prelude.{◌==◌, nat_lt}
use Rattle.std.specs.List.{join_with_byte, prefix_len}
use Rattle.std.proofs.lemmas.Grind.{flat_map-append}
use Rattle.std.proofs.lemmas.List.{take-append-drop, take_at}
use Rattle.std.proofs.lemmas.List.Sums.{prefix_len_stops, prefix_len-le-length}
use Rattle.std.proofs.lemmas.Bool.Decides.{nat_tests}
use Rattle.wave_text.specs.Splits.{HasNone, ArePartsAt}
use Rattle.wave_text.proofs.SplitLemmas.{front_passes, is_nowhere}
use Rattle.wave_text.specs.Lines.{is_inside, onto_first, cut_lines}
use Rattle.wave_text.proofs.LineLemmas.{cut_first, cut_last}
use Rattle.input_parts.specs.inner.Firsts.{IsFirst}
use Rattle.input_parts.specs.Parts.{is_dashes, with_first, line_parts, lines_text, service_of, script_of}

is_ten : (b : ℕ) → not (b == 10) ≡ false → b ≡ 10
is_ten b h = by (b == 10) refl h
  where
    by : (t : Bool) → (b == 10) ≡ t → not t ≡ false → b ≡ 10
    by true e h = eqb-true b 10 e
    by false e h = cc

-- ---- the first line

whole_of : (text : List ℕ) (n : ℕ) → n ≡ prefix_len is_inside text → n < length text → text ≡ take n text ++ 10 ∷ drop (n + 1) text
whole_of text n e h =
    let stops : is_inside (get_or text n 0) ≡ false = subst (λ k. is_inside (get_or text k 0) ≡ false) (sym e) (prefix_len_stops is_inside text 0 (omega (arith, e))) in
    let cells : drop n text ≡ 10 ∷ drop (n + 1) text = drop-cons text n 0 h ∙ rw (is_ten (get_or text n 0) stops, add-one) refl in
    sym (take-append-drop n text) ∙ ap (λ z. take n text ++ z) cells

ends : (text : List ℕ) (n : ℕ) → n ≡ prefix_len is_inside text → n < length text → IsFirst text (take n text) (drop (n + 1) text)
ends text n e h = inl (record {
  whole = whole_of text n e h;
  lines = cut_first text (omega (arith, e)) ∙ (λ i. take (sym e i) text ∷ cut_lines (drop (suc (sym e i)) text)) ∙ rw add-one refl;
})

is_last : (text : List ℕ) (n : ℕ) → n ≡ prefix_len is_inside text → n ≤ length text → length text ≤ n → IsFirst text text []
is_last text n e within all = inr (record { whole = refl; lines = cut_last text (omega (arith, e)); none = refl })

-- the parts at the first line feed
first_by : (text line rest : List ℕ) (n : ℕ) (t : Bool) → n ≡ prefix_len is_inside text → nat_lt n (length text) ≡ t → ArePartsAt 10 text line rest → IsFirst text line rest
first_by text line rest n true e h p =
    let short : n < length text = grind (arith, nat_tests) in
    let none : HasNone 10 (take n text) = subst (λ k. HasNone 10 (take k text)) (sym e) (front_passes is_inside text) in
    let same = p.cut (take n text) (drop (n + 1) text) none (whole_of text n e short) in
    subst (λ l. IsFirst text l rest) (sym same.0) (subst (λ r. IsFirst text (take n text) r) (sym same.1) (ends text n e short))
first_by text line rest n false e h p =
    let all : length text ≤ n = grind (arith, nat_tests) in
    let within : n ≤ length text = omega (arith, e, prefix_len-le-length is_inside text) in
    let same = p.whole (is_nowhere 10 n text e (omega (arith, within, all))) in
    subst (λ l. IsFirst text l rest) (sym same.0) (subst (λ r. IsFirst text text r) (sym same.1) (is_last text n e within all))

pub is_first : (text line rest : List ℕ) → ArePartsAt 10 text line rest → IsFirst text line rest
is_first text line rest p = first_by text line rest (prefix_len is_inside text) (nat_lt (prefix_len is_inside text) (length text)) refl refl p

-- ---- lines joined again

some_lines : (bs : List ℕ) → 0 < length (cut_lines bs)
some_lines [] = omega arith
some_lines (b ∷ bs) = elim (is_inside b) as (λ t. 0 < length (cond t (onto_first b (cut_lines bs)) ([] ∷ cut_lines bs))) [
  | true ↦ onto (cut_lines bs)
  | false ↦ omega arith
]
  where
    onto : (ls : List (List ℕ)) → 0 < length (onto_first b ls)
    onto [] = omega arith
    onto (l ∷ ls) = omega arith

one_byte : (b : ℕ) (ls : List (List ℕ)) (t : Bool) → is_inside b ≡ t → 0 < length ls → join_with_byte 10 (cond t (onto_first b ls) ([] ∷ ls)) ≡ b ∷ join_with_byte 10 ls
one_byte b [] t e some = absurd (omega arith)
one_byte b (l ∷ []) true e some = refl
one_byte b (l ∷ m ∷ ls) true e some = refl
one_byte b (l ∷ ls) false e some = ap (λ y. y ∷ join_with_byte 10 (l ∷ ls)) (sym (is_ten b e))

joined_again : (bs : List ℕ) → join_with_byte 10 (cut_lines bs) ≡ bs
joined_again [] = refl
joined_again (b ∷ bs) = one_byte b (cut_lines bs) (is_inside b) refl (some_lines bs) ∙ ap (λ l. b ∷ l) (joined_again bs)

-- ---- how far an input has been searched

abbrev pub behind : List (List ℕ) → Option (List (List ℕ) × List (List ℕ)) → Option (List (List ℕ) × List (List ℕ))
behind [] x = x
behind (l ∷ ls) x = with_first l (behind ls x)

behind_one : (before : List (List ℕ)) (l : List ℕ) (x : Option (List (List ℕ) × List (List ℕ))) → behind before (with_first l x) ≡ behind (before ++ l ∷ []) x
behind_one [] l x = refl
behind_one (m ∷ ms) l x = ap (with_first m) (behind_one ms l x)

behind_none : (before : List (List ℕ)) → behind before None ≡ None
behind_none [] = refl
behind_none (l ∷ ls) = ap (with_first l) (behind_none ls)

behind_some : (before after : List (List ℕ)) → behind before (Some ([], after)) ≡ Some (before, after)
behind_some [] after = refl
behind_some (l ∷ ls) after = ap (with_first l) (behind_some ls after)

-- the lines that were passed, none of dashes, and the rest
pub record Passed (input rest : List ℕ) : Type 0 where
  pub before : List (List ℕ)
  pub lines : line_parts (cut_lines input) ≡ behind before (line_parts (cut_lines rest))
  pub whole : (input ≡ lines_text before ++ rest) ⊎ (rest ≡ [])

line_taken : (before : List (List ℕ)) (line rest : List ℕ) → lines_text before ++ (line ++ 10 ∷ rest) ≡ lines_text (before ++ line ∷ []) ++ rest
line_taken before line rest = rw (flat_map-append (λ l. l ++ 10 ∷ []) before (line ∷ []), append-nil) (simp append_assoc)

lines_on : (text line rest : List ℕ) → IsFirst text line rest → is_dashes line ≡ false → line_parts (cut_lines text) ≡ with_first line (line_parts (cut_lines rest))
lines_on text line rest (inl f) h = ap line_parts f.lines ∙ rw h refl
lines_on text line rest (inr f) h = ap line_parts f.lines ∙ rw (h, f.none) refl

pub passed_more : (input text line rest : List ℕ) → Passed input text → 0 < length text → IsFirst text line rest → is_dashes line ≡ false → Passed input rest
passed_more input text line rest p some f h = record {
  before = p.before ++ line ∷ [];
  lines = p.lines ∙ ap (behind p.before) (lines_on text line rest f h) ∙ behind_one p.before line (line_parts (cut_lines rest));
  whole = ⊎_elim (λ whole. ⊎_elim (λ g. inl (whole ∙ ap (λ z. lines_text p.before ++ z) g.whole ∙ line_taken p.before line rest)) (λ g. inr g.none) f) (λ none. absurd (omega (arith, ap length none))) p.whole;
}

-- ---- where the line of dashes is found

record Found (input text : List ℕ) (rest : List ℕ) : Type 0 where
  pub before : List (List ℕ)
  pub after : List (List ℕ)
  pub parts : line_parts (cut_lines input) ≡ Some (before, after)
  pub front : input ≡ lines_text before ++ text
  pub back : join_with_byte 10 after ≡ rest

whole_text : (before : List (List ℕ)) (input text : List ℕ) → 0 < length text → (input ≡ lines_text before ++ text) ⊎ (text ≡ []) → input ≡ lines_text before ++ text
whole_text before input text some (inl e) = e
whole_text before input text some (inr e) = absurd (omega (arith, ap length e))

found : (input text line rest : List ℕ) → Passed input text → 0 < length text → IsFirst text line rest → is_dashes line ≡ true → Found input text rest
found input text line rest p some (inl f) h = record {
  before = p.before;
  after = cut_lines rest;
  parts = p.lines ∙ ap (λ ls. behind p.before (line_parts ls)) f.lines ∙ rw h (behind_some p.before (cut_lines rest));
  front = whole_text p.before input text some p.whole;
  back = joined_again rest;
}
found input text line rest p some (inr f) h = record {
  before = p.before;
  after = [];
  parts = p.lines ∙ ap (λ ls. behind p.before (line_parts ls)) f.lines ∙ rw h (behind_some p.before []);
  front = whole_text p.before input text some p.whole;
  back = sym f.none;
}

pub service_found : (input text line rest : List ℕ) → Passed input text → 0 < length text → IsFirst text line rest → is_dashes line ≡ true
    → take (length input - length text) input ≡ service_of input
service_found input text line rest p some f h =
    let so = found input text line rest p some f h in
    ap (λ z. take (length input - length text) z) so.front
    ∙ take_at (lines_text so.before) text (length input - length text) (omega (arith, ap length so.front, length-append (lines_text so.before) text))
    ∙ rw so.parts refl

pub script_found : (input text line rest : List ℕ) → Passed input text → 0 < length text → IsFirst text line rest → is_dashes line ≡ true
    → script_of input ≡ Some rest
script_found input text line rest p some f h =
    let so = found input text line rest p some f h in
    rw so.parts (ap Some so.back)

pub none_found : (input : List ℕ) → Passed input [] → line_parts (cut_lines input) ≡ None
none_found input p = p.lines ∙ behind_none p.before
