-- The snapshot within a text, and how long it is.
use Rattle.std.proofs.Common.{◌≡◌, ◌≤◌, ◌<◌, ◌+◌, ◌-◌, inl, inr, ℕ, Bool, true, false, if◌then◌else◌, List, [], ◌∷◌, ◌++◌, length, take, drop, All, Err, refl, sym, ap, subst, ◌∙◌, append_assoc, length-append, lit<, arith}
use Rattle.std.specs.Prelude.{◌==◌, ◌&&◌, not, codes}
use Rattle.std.specs.Fmt.{decimal}
use Rattle.std.specs.List.{list_all}
use Rattle.std.proofs.lemmas.Bool.{and_parts}
use Rattle.std.proofs.lemmas.Bool.Decides.{nat_tests}
use Rattle.std.proofs.lemmas.List.Elements.{All-head, All-tail}
use Rattle.wave_base.specs.declared.finished.Place.{Place}
use Rattle.wave_base.specs.declared.shape.Shape.{Shape}
use Rattle.wave_base.specs.declared.shot.Shot.{Shot}
use Rattle.wave_base.specs.Names.{HasNames}
use Rattle.wave_text.specs.Counted.{line_count}
use Rattle.wave_text.specs.Splits.{is_other, HasNone, IsSplit}
use Rattle.wave_text.proofs.SplitLemmas.{none-append}
use Rattle.path_text.specs.ShotTexts.{shot_text}
use Rattle.snapshot_text.specs.declared.error.Fault.{Fault as ShotFault}
use Rattle.snapshot_text.specs.Shots.{IsShot}
use Rattle.snapshot_text.specs.SnapshotTexts.{head_text, shots_text, snapshot_text}
use Rattle.snapshot_text.specs.declared.error.Fault.TheVariants as snapshot
use Rattle.snapshot_text.specs.declared.error.ShotError.{ShotError}
use Rattle.snapshot_text.specs.declared.error.ShotError.TheVariants as shot
use Rattle.snapshot_text.specs.Verdicts.{IsRefused as IsRefusedSnapshot, IsOnlyVerdict as IsOnlySnapshot}
use Rattle.snapshot_text.proofs.ShotLemmas.{shot_no_feed}
use Rattle.checkpoint_store.specs.CheckpointTexts.{tail_text}
use Rattle.checkpoint_store.specs.Verdicts.{begins_at, snapshot_part, behind_part}
use Rattle.checkpoint_store.specs.inner.Steps.{line_in}
use Rattle.checkpoint_store.proofs.LineLemmas.{number_none}

pub part_whole : (text : List ℕ) → snapshot_part text ++ behind_part text ≡ text
part_whole [] = refl
part_whole (b ∷ bs) = ap (λ t. b ∷ t) (by_end ((b == 10) && not (begins_at bs)) (part_whole bs))
  where
    by_end : (t : Bool) → snapshot_part bs ++ behind_part bs ≡ bs → (if t then [] else snapshot_part bs) ++ (if t then bs else behind_part bs) ≡ bs
    by_end true h = refl
    by_end false h = h

-- both, behind a line
pub record AreParts (text part behind : List ℕ) : Type 0 where
  pub part_is : snapshot_part text ≡ part
  pub behind_is : behind_part text ≡ behind

no_feed : (b : ℕ) → is_other 10 b ≡ true → (b == 10) ≡ false
no_feed b h = grind (arith, nat_tests)

-- the first byte does not end it
goes_on : (b : ℕ) (bs part behind : List ℕ) → ((b == 10) && not (begins_at bs)) ≡ false → AreParts bs part behind → AreParts (b ∷ bs) (b ∷ part) behind
goes_on b bs part behind e p = record {
  part_is = ap (λ t. b ∷ (if t then [] else snapshot_part bs)) e ∙ ap (λ t. b ∷ t) p.part_is;
  behind_is = ap (λ t. if t then bs else behind_part bs) e ∙ p.behind_is;
}

line_goes : (line rest part behind : List ℕ) → HasNone 10 line → AreParts rest part behind → AreParts (line ++ rest) (line ++ part) behind
line_goes [] rest part behind h p = p
line_goes (b ∷ bs) rest part behind h p =
    let k = and_parts (is_other 10 b) (list_all (is_other 10) bs) h in
    goes_on b (bs ++ rest) (bs ++ part) behind (ap (λ t. t && not (begins_at (bs ++ rest))) (no_feed b k.0)) (line_goes bs rest part behind k.1 p)

ends_here : (after : List ℕ) → begins_at after ≡ false → AreParts (10 ∷ after) (10 ∷ []) after
ends_here after e = record {
  part_is = ap (λ t. 10 ∷ (if not t then [] else snapshot_part after)) e;
  behind_is = ap (λ t. if not t then after else behind_part after) e;
}

feed_goes : (after part behind : List ℕ) → begins_at after ≡ true → AreParts after part behind → AreParts (10 ∷ after) (10 ∷ part) behind
feed_goes after part behind e p = goes_on 10 after part behind (ap not e) p

pub last_part : (text line after : List ℕ) → IsSplit 10 text line after → begins_at after ≡ false → AreParts text (line ++ 10 ∷ []) after
last_part text line after s e = subst (λ t. AreParts t (line ++ 10 ∷ []) after) (sym s.spelled) (line_goes line (10 ∷ after) (10 ∷ []) after s.first (ends_here after e))

pub more_part : (text line after part behind : List ℕ) → IsSplit 10 text line after → begins_at after ≡ true → AreParts after part behind → AreParts text (line ++ 10 ∷ part) behind
more_part text line after part behind s e p =
    subst (λ t. AreParts t (line ++ 10 ∷ part) behind) (sym s.spelled) (line_goes line (10 ∷ after) (10 ∷ part) behind s.first (feed_goes after part behind e p))

pub open_part : (text : List ℕ) → HasNone 10 text → AreParts text text []
open_part [] h = record { part_is = refl; behind_is = refl }
open_part (b ∷ bs) h =
    let k = and_parts (is_other 10 b) (list_all (is_other 10) bs) h in
    goes_on b bs bs [] (ap (λ t. t && not (begins_at bs)) (no_feed b k.0)) (open_part bs k.1)

-- ---- of a text that was written

module _ (shape : Shape) (names : HasNames shape) where
  shots_part : (ss : List Shot) → All (IsShot shape) ss → (line tail : List ℕ) → HasNone 10 line → begins_at tail ≡ false → AreParts (line ++ 10 ∷ (shots_text shape ss ++ tail)) (line ++ 10 ∷ shots_text shape ss) tail
  shots_part [] h line tail n e = line_goes line (10 ∷ tail) (10 ∷ []) tail n (ends_here tail e)
  shots_part (s ∷ ss) h line tail n e =
      let rest = shots_part ss (All-tail (IsShot shape) s ss h) (shot_text shape s) tail (shot_no_feed shape names s (All-head (IsShot shape) s ss h)) e in
      let same = append_assoc (shot_text shape s) (10 ∷ shots_text shape ss) tail in
      line_goes line (10 ∷ (shots_text shape (s ∷ ss) ++ tail)) (10 ∷ shots_text shape (s ∷ ss)) tail n
      (feed_goes (shots_text shape (s ∷ ss) ++ tail) (shots_text shape (s ∷ ss)) tail refl (subst (λ t. AreParts t (shots_text shape (s ∷ ss)) tail) (sym same) rest))

  pub written_part : (ss : List Shot) → All (IsShot shape) ss → length ss < 18446744073709551616 → (tail : List ℕ) → begins_at tail ≡ false → AreParts (snapshot_text shape ss ++ tail) (snapshot_text shape ss) tail
  written_part ss h few tail e =
      let head : HasNone 10 (head_text (length ss)) = none-append 10 (codes "snapshot ") (decimal (length ss)) refl (number_none 10 (length ss) (lit< tt) few) in
      subst (λ t. AreParts t (snapshot_text shape ss) tail) (sym (append_assoc (head_text (length ss)) (10 ∷ shots_text shape ss) tail)) (shots_part ss h (head_text (length ss)) tail head e)

  pub tail_begins : (places : List Place) → begins_at (tail_text shape places) ≡ false
  tail_begins [] = refl
  tail_begins (x ∷ xs) = refl

-- ---- how long it is

pub shots_few : (shape : Shape) (ss : List Shot) → length ss ≤ length (shots_text shape ss)
shots_few shape [] = omega arith
shots_few shape (s ∷ ss) = (let more = shots_few shape ss in omega (arith, length-append (shot_text shape s) (10 ∷ shots_text shape ss)))

pub snapshot_few : (shape : Shape) (ss : List Shot) → length ss ≤ length (snapshot_text shape ss)
snapshot_few shape ss = (let more = shots_few shape ss in omega (arith, length-append (head_text (length ss)) (10 ∷ shots_text shape ss)))

pub refused_low : (shape : Shape) (text : List ℕ) (f : ShotFault) (n : ℕ) → IsRefusedSnapshot shape text f n → n ≤ length text + 2
refused_low shape text f n (inl h) = omega (arith, h.2)
refused_low shape text f n (inr (inl h)) = omega (arith, h.2)
refused_low shape text f n (inr (inr h)) =
    let few = shots_few shape h.0 in
    omega (arith, h.2, ap length h.1.spelled, length-append (head_text (line_count (shots_text shape h.0 ++ h.1.rest))) (10 ∷ (shots_text shape h.0 ++ h.1.rest)), length-append (shots_text shape h.0) h.1.rest)

pub part_short : (text : List ℕ) → (length (snapshot_part text) ≤ length text) × (length (behind_part text) ≤ length text)
part_short text = (omega (arith, ap length (part_whole text), length-append (snapshot_part text) (behind_part text)), omega (arith, ap length (part_whole text), length-append (snapshot_part text) (behind_part text)))

-- ---- as its end is looked for

-- the part goes on in this rest
pub record IsPartedTo (text rest : List ℕ) : Type 0 where
  pub front : List ℕ
  pub spelled : text ≡ front ++ rest
  pub goes : (part behind : List ℕ) → AreParts rest part behind → AreParts text (front ++ part) behind

pub none_yet : (text : List ℕ) → IsPartedTo text text
none_yet text = record { front = []; spelled = refl; goes = λ part behind p. p }

pub one_more : (text rest line after : List ℕ) → IsPartedTo text rest → IsSplit 10 rest line after → begins_at after ≡ true → IsPartedTo text after
one_more text rest line after h s e = record {
  front = h.front ++ (line ++ 10 ∷ []);
  spelled = h.spelled ∙ ap (λ t. h.front ++ t) (s.spelled ∙ sym (append_assoc line (10 ∷ []) after)) ∙ sym (append_assoc h.front (line ++ 10 ∷ []) after);
  goes = λ part behind p. subst (λ t. AreParts text t behind) (same part) (h.goes (line ++ 10 ∷ part) behind (more_part rest line after part behind s e p));
}
  where
    same : (part : List ℕ) → h.front ++ (line ++ 10 ∷ part) ≡ (h.front ++ (line ++ 10 ∷ [])) ++ part
    same part = ap (λ t. h.front ++ t) (sym (append_assoc line (10 ∷ []) part)) ∙ sym (append_assoc h.front (line ++ 10 ∷ []) part)

cut_behind : (xs ys : List ℕ) → (take (length (xs ++ ys) - length ys) (xs ++ ys) ≡ xs) × (drop (length (xs ++ ys) - length ys) (xs ++ ys) ≡ ys)
cut_behind xs ys =
    let n : length (xs ++ ys) - length ys ≡ length xs = omega (arith, length-append xs ys) in
    (ap (λ k. take k (xs ++ ys)) n ∙ take_front xs, ap (λ k. drop k (xs ++ ys)) n ∙ drop_front xs)
  where
    take_front : (zs : List ℕ) → take (length zs) (zs ++ ys) ≡ zs
    take_front [] = refl
    take_front (z ∷ zs) = ap (λ t. z ∷ t) (take_front zs)

    drop_front : (zs : List ℕ) → drop (length zs) (zs ++ ys) ≡ ys
    drop_front [] = refl
    drop_front (z ∷ zs) = drop_front zs

-- the part ends behind this line
pub found : (text rest line after : List ℕ) → IsPartedTo text rest → IsSplit 10 rest line after → begins_at after ≡ false → AreParts text (take (length text - length after) text) (drop (length text - length after) text)
found text rest line after h s e =
    let whole : text ≡ (h.front ++ (line ++ 10 ∷ [])) ++ after = h.spelled ∙ ap (λ t. h.front ++ t) (s.spelled ∙ sym (append_assoc line (10 ∷ []) after)) ∙ sym (append_assoc h.front (line ++ 10 ∷ []) after) in
    let parts = h.goes (line ++ 10 ∷ []) after (last_part rest line after s e) in
    let cut = cut_behind (h.front ++ (line ++ 10 ∷ [])) after in
    record {
      part_is = parts.part_is ∙ sym (ap (λ t. take (length t - length after) t) whole ∙ cut.0);
      behind_is = parts.behind_is ∙ sym (ap (λ t. drop (length t - length after) t) whole ∙ cut.1);
    }

pub found_low : (text rest line after : List ℕ) → IsPartedTo text rest → IsSplit 10 rest line after → length after ≤ length text
found_low text rest line after h s = omega (arith, ap length h.spelled, length-append h.front rest, ap length s.spelled, length-append line (10 ∷ after))

-- there is no end of it
pub not_found : (text rest : List ℕ) → IsPartedTo text rest → HasNone 10 rest → AreParts text text []
not_found text rest h n = subst (λ t. AreParts text t []) (sym h.spelled) (h.goes rest [] (open_part rest n))

pub error_low : (shape : Shape) (text : List ℕ) (e : ShotError) → IsOnlySnapshot shape text (Err e) → line_in e ≤ length text + 2
error_low shape text (shot.Syntax n) h = refused_low shape text snapshot.Syntax n h.0
error_low shape text (shot.Class n) h = refused_low shape text snapshot.Class n h.0
error_low shape text (shot.Field n) h = refused_low shape text snapshot.Field n h.0
error_low shape text (shot.Order n) h = refused_low shape text snapshot.Order n h.0
error_low shape text (shot.OutOfMemory w) h = omega arith
