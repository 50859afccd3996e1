-- What the reader knows behind the lines that it has gone through.
use Rattle.std.proofs.Common.{◌≡◌, ◌<◌, ◌≤◌, ◌+◌, inl, inr, ℕ, List, [], ◌∷◌, ◌++◌, length, map, take, drop, get_or, All, refl, sym, ap, subst, ◌∙◌, append_assoc, append-nil, arith}
use Rattle.std.specs.Prelude.{codes}
use Rattle.std.proofs.lemmas.List.{map-append, length-map, length-take-le, take-append-drop, take_more, drop_more, take_all}
use Rattle.std.proofs.lemmas.List.Elements.{All-nil, All-cons, All-append}
use Rattle.wave_base.specs.declared.finished.Place.{Place}
use Rattle.wave_base.specs.declared.path.Path.{Path}
use Rattle.wave_base.specs.declared.shape.ClassInfo.{ClassInfo}
use Rattle.wave_base.specs.declared.shape.Shape.{Shape}
use Rattle.wave_base.specs.declared.shot.Shot.{Shot}
use Rattle.wave_text.specs.Splits.{IsSplit}
use Rattle.path_text.specs.PlaceTexts.{place_text}
use Rattle.snapshot_text.specs.Shots.{paths_of}
use Rattle.checkpoint_store.specs.declared.error.CheckError.{CheckError}
use Rattle.checkpoint_store.specs.declared.error.CheckError.TheVariants as error
use Rattle.checkpoint_store.specs.declared.error.Fault.TheVariants as fault
use Rattle.checkpoint_store.specs.declared.form.Form.TheVariants as form
use Rattle.checkpoint_store.specs.declared.numbers.Numbers.{Numbers}
use Rattle.checkpoint_store.specs.CheckpointTexts.{first_line, numbers_text, count_text, class_text, lines_text, front_text}
use Rattle.checkpoint_store.specs.Dues.{Due, First, Counts, Classes, ClassOf, PlaceOf, Last, IsDue, front_dues, tail_dues}
use Rattle.checkpoint_store.specs.Verdicts.{HasFront, HasTail}
use Rattle.checkpoint_store.specs.inner.Steps.{BeginsWithNumbers, IsPlaceLineOf, HasPlaces, IsRefusal, IsRefusalFor, StopsWith, IsTailRefusal, IsLastRefusal}
use Rattle.checkpoint_store.proofs.FrontLemmas.{class_dues, classes_text}
use Rattle.checkpoint_store.proofs.TailLemmas.{place_dues, places_text, paths_in}
use Rattle.checkpoint_store.proofs.StepLemmas.{stops_with, stops_after, stops_before}
use Rattle.checkpoint_store.proofs.StopLemmas.{Passes, passes_append}

-- a list at one of its places
parted_at : {A : Type 0} (xs : List A) (i : ℕ) (x : A) → i < length xs → x ≡ get_or xs i x → xs ≡ take i xs ++ x ∷ drop (i + 1) xs
parted_at xs i x h e = sym (take-append-drop i xs) ∙ ap (λ t. take i xs ++ t) (drop_more xs i x h ∙ ap (λ y. y ∷ drop (i + 1) xs) (sym e))

front_more : {A : Type 0} (xs : List A) (i : ℕ) (x : A) → i < length xs → x ≡ get_or xs i x → take (i + 1) xs ≡ take i xs ++ x ∷ []
front_more xs i x h e = take_more xs i x h ∙ ap (λ y. take i xs ++ y ∷ []) (sym e)

-- ---- the front

module _ (shape : Shape) where
  front_whole : (n : Numbers) (rest : List ℕ) → front_text shape n ++ rest ≡ first_line ++ 10 ∷ (numbers_text n ++ 10 ∷ (count_text shape ++ 10 ∷ (classes_text shape shape.classes ++ rest)))
  front_whole n rest =
      append_assoc first_line (10 ∷ (numbers_text n ++ 10 ∷ (count_text shape ++ 10 ∷ classes_text shape shape.classes))) rest
      ∙ ap (λ t. first_line ++ 10 ∷ t)
      (append_assoc (numbers_text n) (10 ∷ (count_text shape ++ 10 ∷ classes_text shape shape.classes)) rest
      ∙ ap (λ t. numbers_text n ++ 10 ∷ t) (append_assoc (count_text shape) (10 ∷ classes_text shape shape.classes) rest))

  pub front_read : (n : Numbers) (text r1 r2 r3 r4 : List ℕ) → IsSplit 10 text first_line r1 → BeginsWithNumbers r1 n r2 → IsSplit 10 r2 (count_text shape) r3 → r3 ≡ classes_text shape shape.classes ++ r4 → HasFront shape n text r4
  front_read n text r1 r2 r3 r4 p b q e = record {
    spelled =
        p.spelled
        ∙ ap (λ t. first_line ++ 10 ∷ t) (b.split.spelled ∙ (λ i. b.numbers.spelled i ++ 10 ∷ (q.spelled ∙ ap (λ t. count_text shape ++ 10 ∷ t) e) i))
        ∙ sym (front_whole n r4);
    range = b.numbers.range;
  }

  pub stops_first : (text : List ℕ) (e : CheckError) → IsRefusalFor form.Word first_line text 1 e → StopsWith shape 0 (front_dues shape) text 0 e
  stops_first text e r = stops_with shape 0 [] First (Counts ∷ Classes ∷ class_dues shape.classes) text text 0 1 e refl (r shape 0 First refl (λ line h. h)) refl

  pub stops_second : (text r1 : List ℕ) (e : CheckError) → IsSplit 10 text first_line r1 → IsRefusal shape 0 Counts r1 2 e → StopsWith shape 0 (front_dues shape) text 0 e
  stops_second text r1 e p r = stops_with shape 0 (First ∷ []) Counts (Classes ∷ class_dues shape.classes) text r1 0 2 e (r1, (first_line, p, refl), refl) r refl

  pub stops_third : (n : Numbers) (text r1 r2 : List ℕ) (e : CheckError) → IsSplit 10 text first_line r1 → BeginsWithNumbers r1 n r2 → IsRefusal shape 0 Classes r2 3 e → StopsWith shape 0 (front_dues shape) text 0 e
  stops_third n text r1 r2 e p b r =
      stops_with shape 0 (First ∷ Counts ∷ []) Classes (class_dues shape.classes) text r2 0 3 e
      (r1, (first_line, p, refl), (r2, (b.line, b.split, (n, b.numbers.range, b.numbers.spelled)), refl)) r refl

  pub stops_classes : (n : Numbers) (text r1 r2 r3 : List ℕ) (e : CheckError) → IsSplit 10 text first_line r1 → BeginsWithNumbers r1 n r2 → IsSplit 10 r2 (count_text shape) r3 → StopsWith shape 0 (class_dues shape.classes) r3 3 e
      → StopsWith shape 0 (front_dues shape) text 0 e
  stops_classes n text r1 r2 r3 e p b q s =
      stops_after shape 0 (First ∷ Counts ∷ Classes ∷ []) (class_dues shape.classes) text r3 0 e
      (r1, (first_line, p, refl), (r2, (b.line, b.split, (n, b.numbers.range, b.numbers.spelled)), (r3, (count_text shape, q, refl), refl))) s

  -- ---- classes

  pub classes_spelled : (cs : List ClassInfo) (text rest : List ℕ) → Passes shape 0 (class_dues cs) text rest → text ≡ classes_text shape cs ++ rest
  classes_spelled [] text rest p = p
  classes_spelled (c ∷ cs) text rest p =
      p.1.1.spelled ∙ (λ i. p.1.2 i ++ 10 ∷ classes_spelled cs p.0 rest p.2 i) ∙ sym (append_assoc (class_text shape c) (10 ∷ classes_text shape cs) rest)

  pub class_passed : (cs : List ClassInfo) (i : ℕ) (c : ClassInfo) (text rest after : List ℕ) → i < length cs → c ≡ get_or cs i c → Passes shape 0 (class_dues (take i cs)) text rest → IsSplit 10 rest (class_text shape c) after
      → Passes shape 0 (class_dues (take (i + 1) cs)) text after
  class_passed cs i c text rest after h e p s =
      subst (λ ds. Passes shape 0 ds text after) (sym (ap class_dues (front_more cs i c h e) ∙ map-append (λ x. ClassOf x) (take i cs) (c ∷ [])))
      (passes_append shape 0 (class_dues (take i cs)) (ClassOf c ∷ []) text rest after p (after, (class_text shape c, s, refl), refl))

  pub class_stops : (cs : List ClassInfo) (i : ℕ) (c : ClassInfo) (text rest : List ℕ) (n : ℕ) (e : CheckError) → i < length cs → c ≡ get_or cs i c → Passes shape 0 (class_dues (take i cs)) text rest → n ≡ 4 + i → IsRefusal shape 0 (ClassOf c) rest n e
      → StopsWith shape 0 (class_dues cs) text 3 e
  class_stops cs i c text rest n e h at p number r =
      let count : length (class_dues (take i cs)) ≡ i = length-map (take i cs) (λ x. ClassOf x) ∙ length-take-le i cs (omega arith) in
      let line : n ≡ 3 + (length (class_dues (take i cs)) + 1) = omega (arith, number, count) in
      subst (λ ds. StopsWith shape 0 ds text 3 e) (sym (ap class_dues (parted_at cs i c h at) ∙ map-append (λ x. ClassOf x) (take i cs) (c ∷ drop (i + 1) cs)))
      (stops_with shape 0 (class_dues (take i cs)) (ClassOf c) (class_dues (drop (i + 1) cs)) text rest 3 n e p r line)

  pub class_stopped : (cs : List ClassInfo) → cs ≡ shape.classes → (i : ℕ) (c : ClassInfo) (text rest : List ℕ) (n : ℕ) (e : CheckError) → i < length cs → c ≡ get_or cs i c → Passes shape 0 (class_dues (take i cs)) text rest → n ≡ 4 + i
      → IsRefusal shape 0 (ClassOf c) rest n e → StopsWith shape 0 (class_dues shape.classes) text 3 e
  class_stopped cs same i c text rest n e h at p number r = subst (λ ds. StopsWith shape 0 (class_dues ds) text 3 e) same (class_stops cs i c text rest n e h at p number r)

  pub classes_done : (cs : List ClassInfo) → cs ≡ shape.classes → (i : ℕ) (text rest : List ℕ) → length cs ≤ i → Passes shape 0 (class_dues (take i cs)) text rest → text ≡ classes_text shape shape.classes ++ rest
  classes_done cs same i text rest high p = classes_spelled shape.classes text rest (subst (λ ds. Passes shape 0 (class_dues ds) text rest) (take_all i cs high ∙ same) p)

-- ---- places

module _ (shape : Shape) (hosts : ℕ) where
  abbrev IsBelow : Place → Type 0
  IsBelow x = x.host.0 < hosts

  pub none_placed : (text : List ℕ) → HasPlaces shape hosts [] [] text text
  none_placed text = record { spelled = refl; paths_are = refl; below = All-nil IsBelow }

  ended-append : (xs ys : List (List ℕ)) → lines_text (xs ++ ys) ≡ lines_text xs ++ lines_text ys
  ended-append [] ys = refl
  ended-append (x ∷ xs) ys = ap (λ t. x ++ 10 ∷ t) (ended-append xs ys) ∙ sym (append_assoc x (10 ∷ lines_text xs) (lines_text ys))

  same_place : (x : Place) (p : Path) → x.path ≡ p → x ≡ record { path = p; host = x.host }
  same_place x p e = λ i. record { path = e i; host = x.host }

  paths_more : (shots : List Shot) (i : ℕ) (s : Shot) → i < length shots → s ≡ get_or shots i s → paths_of (take (i + 1) shots) ≡ paths_of (take i shots) ++ s.path ∷ []
  paths_more shots i s h e = ap paths_of (front_more shots i s h e) ∙ map-append (λ x. x.path) (take i shots) (s ∷ [])

  pub place_placed : (shots : List Shot) (i : ℕ) (s : Shot) (xs ys : List Place) (x : Place) (text rest line after : List ℕ) → i < length shots → s ≡ get_or shots i s → ys ≡ xs ++ x ∷ [] → HasPlaces shape hosts (paths_of (take i shots)) xs text rest
      → IsSplit 10 rest line after → IsPlaceLineOf shape hosts s.path line x → HasPlaces shape hosts (paths_of (take (i + 1) shots)) ys text after
  place_placed shots i s xs ys x text rest line after h e added p split place = record {
    spelled =
        p.spelled ∙ ap (λ t. places_text shape xs ++ t) (split.spelled ∙ ap (λ l. l ++ 10 ∷ after) place.spelled)
        ∙ ap (λ t. places_text shape xs ++ t) (sym (append_assoc (place_text shape x) (10 ∷ []) after))
        ∙ sym (append_assoc (places_text shape xs) (place_text shape x ++ 10 ∷ []) after)
        ∙ ap (λ t. t ++ after) (sym (ended-append (map (place_text shape) xs) (place_text shape x ∷ [])) ∙ ap lines_text (sym (map-append (place_text shape) xs (x ∷ [])) ∙ ap (map (place_text shape)) (sym added)));
    paths_are = ap paths_in added ∙ map-append (λ y. y.path) xs (x ∷ []) ∙ (λ j. p.paths_are j ++ place.path_is j ∷ []) ∙ sym (paths_more shots i s h e);
    below = subst (All IsBelow) (sym added) (All-append IsBelow xs (x ∷ []) p.below (All-cons IsBelow x [] place.below (All-nil IsBelow)));
  }

  pub place_passed : (shots : List Shot) (i : ℕ) (s : Shot) (x : Place) (text rest line after : List ℕ) → i < length shots → s ≡ get_or shots i s → Passes shape hosts (place_dues (paths_of (take i shots))) text rest → IsSplit 10 rest line after
      → IsPlaceLineOf shape hosts s.path line x → Passes shape hosts (place_dues (paths_of (take (i + 1) shots))) text after
  place_passed shots i s x text rest line after h e p split place =
      let due : IsDue shape hosts (PlaceOf s.path) line = (x.host.0, place.below, place.spelled ∙ ap (place_text shape) (same_place x s.path place.path_is)) in
      subst (λ ds. Passes shape hosts ds text after) (sym (ap place_dues (paths_more shots i s h e) ∙ map-append (λ p. PlaceOf p) (paths_of (take i shots)) (s.path ∷ [])))
      (passes_append shape hosts (place_dues (paths_of (take i shots))) (PlaceOf s.path ∷ []) text rest after p (after, (line, split, due), refl))

  dues_count : (shots : List Shot) (i : ℕ) → i ≤ length shots → length (place_dues (paths_of (take i shots))) ≡ i
  dues_count shots i h = length-map (paths_of (take i shots)) (λ p. PlaceOf p) ∙ length-map (take i shots) (λ s. s.path) ∙ length-take-le i shots h

  -- a stop among the lines is one of the tail
  in_tail : (ps : List Path) (text : List ℕ) (before : ℕ) (e : CheckError) → StopsWith shape hosts (tail_dues ps) text before e → IsTailRefusal shape hosts ps text before e
  in_tail ps text before e (inl w) = inl w
  in_tail ps text before e (inr r) = inr (r.0, r.1, inl r.2, r.3)

  pub place_stops : (shots : List Shot) (i : ℕ) (s : Shot) (text rest : List ℕ) (before n : ℕ) (e : CheckError) → i < length shots → s ≡ get_or shots i s → Passes shape hosts (place_dues (paths_of (take i shots))) text rest → n ≡ before + i + 1
      → IsRefusal shape hosts (PlaceOf s.path) rest n e → IsTailRefusal shape hosts (paths_of shots) text before e
  place_stops shots i s text rest before n e h at p number r =
      let count = dues_count shots i (omega arith) in
      let line : n ≡ before + (length (place_dues (paths_of (take i shots))) + 1) = omega (arith, number, count) in
      let front = place_dues (paths_of (take i shots)) in
      let more = place_dues (paths_of (drop (i + 1) shots)) in
      let parts : place_dues (paths_of shots) ≡ front ++ PlaceOf s.path ∷ more =
      ap (λ ss. place_dues (paths_of ss)) (parted_at shots i s h at) ∙ ap place_dues (map-append (λ x. x.path) (take i shots) (s ∷ drop (i + 1) shots)) ∙ map-append (λ p. PlaceOf p) (paths_of (take i shots)) (s.path ∷ paths_of (drop (i + 1) shots)) in
      in_tail (paths_of shots) text before e
      (stops_before shape hosts (place_dues (paths_of shots)) (Last ∷ []) text before e
      (subst (λ ds. StopsWith shape hosts ds text before e) (sym parts) (stops_with shape hosts front (PlaceOf s.path) more text rest before n e p r line)))

  -- ---- the last line

  pub last_stops : (shots : List Shot) (i : ℕ) (xs : List Place) (text rest : List ℕ) (before n : ℕ) (e : CheckError) → length shots ≤ i → i ≤ length shots → HasPlaces shape hosts (paths_of (take i shots)) xs text rest
      → Passes shape hosts (place_dues (paths_of (take i shots))) text rest → n ≡ before + i → IsLastRefusal rest n e → IsTailRefusal shape hosts (paths_of shots) text before e
  last_stops shots i xs text rest before n e high low h p number (inl r) =
      let count = dues_count shots i low in
      let line : n + 1 ≡ before + (length (place_dues (paths_of (take i shots))) + 1) = omega (arith, number, count) in
      let all : place_dues (paths_of (take i shots)) ≡ place_dues (paths_of shots) = ap (λ ss. place_dues (paths_of ss)) (take_all i shots high) in
      in_tail (paths_of shots) text before e
      (subst (λ ds. StopsWith shape hosts (ds ++ Last ∷ []) text before e) all
      (stops_with shape hosts (place_dues (paths_of (take i shots))) Last [] text rest before (n + 1) e p (r shape hosts Last refl (λ line d. d)) line))
  last_stops shots i xs text rest before n e high low h p number (inr r) =
      let all : paths_of (take i shots) ≡ paths_of shots = ap paths_of (take_all i shots high) in
      let count : length (paths_of shots) ≡ length shots = length-map shots (λ s. s.path) in
      let line : n + 2 ≡ before + (length (paths_of shots) + 2) = omega (arith, number, count) in
      let tail : HasTail shape hosts (paths_of shots) xs text r.0 = record {
        spelled = h.spelled ∙ ap (λ t. places_text shape xs ++ t) r.1.spelled ∙ sym (append_assoc (places_text shape xs) (codes "end" ++ 10 ∷ []) r.0);
        paths_are = h.paths_are ∙ all;
        below = h.below;
      } in
      inr (fault.Syntax, length (paths_of shots) + 2, inr (xs, r.0, tail, r.2, refl, refl), r.3 ∙ ap (λ k. error.Syntax k) line)

  pub tail_read : (shots : List Shot) (i : ℕ) (xs : List Place) (text rest : List ℕ) → length shots ≤ i → HasPlaces shape hosts (paths_of (take i shots)) xs text rest → IsSplit 10 rest (codes "end") [] → HasTail shape hosts (paths_of shots) xs text []
  tail_read shots i xs text rest high h s = record {
    spelled = h.spelled ∙ ap (λ t. places_text shape xs ++ t) s.spelled ∙ sym (append-nil (places_text shape xs ++ (codes "end" ++ 10 ∷ [])));
    paths_are = h.paths_are ∙ ap paths_of (take_all i shots high);
    below = h.below;
  }
