-- The lines behind the snapshot: the places, and the last line.
use Rattle.std.proofs.Common.{◌≡◌, ◌≤◌, ◌<◌, ◌^◌, inl, inr, ℕ, List, [], ◌∷◌, ◌++◌, map, refl, sym, ap, subst, ◌∙◌, append_assoc, arith}
use Rattle.std.specs.Prelude.{codes}
use Rattle.std.specs.List.{AllByRecursion}
use Rattle.std.proofs.lemmas.List.Elements.{recursion_from_All}
use Rattle.wave_base.specs.declared.finished.Place.{Place}
use Rattle.wave_base.specs.declared.path.Path.{Path}
use Rattle.wave_base.specs.declared.shape.Shape.{Shape}
use Rattle.wave_base.specs.Names.{HasNames}
use Rattle.wave_base.specs.Shapes.{IsShape}
use Rattle.wave_text.proofs.SplitLemmas.{one_split}
use Rattle.path_text.specs.Found.{IsPath}
use Rattle.path_text.specs.PlaceTexts.{place_text}
use Rattle.checkpoint_store.specs.declared.error.Fault.{Fault}
use Rattle.checkpoint_store.specs.CheckpointTexts.{lines_text, tail_text}
use Rattle.checkpoint_store.specs.Dues.{Due, PlaceOf, Last, tail_dues}
use Rattle.checkpoint_store.specs.Verdicts.{StopsAt, HasTail, IsWrongTail}
use Rattle.checkpoint_store.proofs.FormLemmas.{Fits, one_host}
use Rattle.checkpoint_store.proofs.LineLemmas.{place_none}
use Rattle.checkpoint_store.proofs.StopLemmas.{Passes, passes_one, passes_append, not_passed, one_stop}

abbrev pub place_dues : List Path → List Due
place_dues ps = map (λ p. PlaceOf p) ps

abbrev pub places_text : Shape → List Place → List ℕ
places_text shape xs = lines_text (map (place_text shape) xs)

abbrev pub paths_in : List Place → List Path
paths_in xs = map (λ x. x.path) xs

module _ (shape : Shape) (names : HasNames shape) (hosts : ℕ) (few : hosts ≤ 256) where
  abbrev pub IsBelow : Place → Type 0
  IsBelow x = x.host.0 < hosts

  -- ---- places

  pub places_pass : (xs : List Place) → AllByRecursion (IsPath shape) (paths_in xs) → AllByRecursion IsBelow xs → (rest : List ℕ) → Passes shape hosts (place_dues (paths_in xs)) (places_text shape xs ++ rest) rest
  places_pass [] h b rest = refl
  places_pass (x ∷ xs) h b rest =
      let below : x.host.0 < hosts = b.0 in
      let wide : x.host.0 < 2 ^ 64 = omega arith in (
        places_text shape xs ++ rest,
        (place_text shape x, record { spelled = append_assoc (place_text shape x) (10 ∷ places_text shape xs) rest; first = place_none shape names x h.0 wide }, (x.host.0, b.0, refl)),
        places_pass xs h.1 b.1 rest,
      )

  one_place : (x y : Place) (more left : List ℕ) → IsPath shape x.path → x.path ≡ y.path → x.host.0 < hosts → y.host.0 < hosts → place_text shape x ++ 10 ∷ more ≡ place_text shape y ++ 10 ∷ left → (x ≡ y) × (more ≡ left)
  one_place x y more left path same below below' e =
      let wide : x.host.0 < 2 ^ 64 = omega arith in
      let wide' : y.host.0 < 2 ^ 64 = omega arith in
      let lines = one_split 10 (place_text shape x) more (place_text shape y) left (place_none shape names x path wide) (place_none shape names y (subst (IsPath shape) same path) wide') e in
      let line : place_text shape x ≡ place_text shape (record { path = x.path; host = y.host }) = lines.0 ∙ ap (λ (p : Path). place_text shape (record { path = p; host = y.host })) (sym same) in
      let host : x.host.0 ≡ y.host.0 = one_host shape names x.path x.host.0 y.host.0 path wide wide' line in
      (λ i. record { path = same i; host = record { 0 = host i } }, lines.1)

  one_places : (xs ys : List Place) (rest left : List ℕ) → AllByRecursion (IsPath shape) (paths_in xs) → paths_in xs ≡ paths_in ys → AllByRecursion IsBelow xs → AllByRecursion IsBelow ys → places_text shape xs ++ rest ≡ places_text shape ys ++ left → xs ≡ ys
  one_places [] [] rest left h same b c e = refl
  one_places [] (y ∷ ys) rest left h same b c e = cc
  one_places (x ∷ xs) [] rest left h same b c e = cc
  one_places (x ∷ xs) (y ∷ ys) rest left h same b c e =
      let first : x.path ≡ y.path = cc in
      let others : paths_in xs ≡ paths_in ys = cc in
      let o = one_place x y (places_text shape xs ++ rest) (places_text shape ys ++ left) h.0 first b.0 c.0 (sym (append_assoc (place_text shape x) (10 ∷ places_text shape xs) rest) ∙ e ∙ append_assoc (place_text shape y) (10 ∷ places_text shape ys) left) in
      let more = one_places xs ys rest left h.1 others b.1 c.1 o.1 in
      λ i. o.0 i ∷ more i

  -- ---- and the last line

  place_fits : (ps : List Path) → AllByRecursion (IsPath shape) ps → AllByRecursion (Fits shape) (tail_dues ps)
  place_fits [] h = (tt, tt)
  place_fits (p ∷ ps) h = (h.0, place_fits ps h.1)

  whole : (xs : List Place) (rest : List ℕ) → tail_text shape xs ++ rest ≡ places_text shape xs ++ (codes "end" ++ 10 ∷ rest)
  whole xs rest = append_assoc (places_text shape xs) (codes "end" ++ 10 ∷ []) rest

  module _ (ps : List Path) (h : AllByRecursion (IsPath shape) ps) where
    pub tail_passes : (xs : List Place) (text rest : List ℕ) → HasTail shape hosts ps xs text rest → Passes shape hosts (tail_dues ps) text rest
    tail_passes xs text rest t =
        let paths : AllByRecursion (IsPath shape) (paths_in xs) = subst (AllByRecursion (IsPath shape)) (sym t.paths_are) h in
        let places : Passes shape hosts (place_dues ps) (places_text shape xs ++ (codes "end" ++ 10 ∷ rest)) (codes "end" ++ 10 ∷ rest) =
        subst (λ qs. Passes shape hosts (place_dues qs) (places_text shape xs ++ (codes "end" ++ 10 ∷ rest)) (codes "end" ++ 10 ∷ rest)) t.paths_are
        (places_pass xs paths (recursion_from_All IsBelow xs t.below) (codes "end" ++ 10 ∷ rest)) in
        let last : Passes shape hosts (Last ∷ []) (codes "end" ++ 10 ∷ rest) rest = (rest, (codes "end", record { spelled = refl; first = refl }, refl), refl) in
        subst (λ s. Passes shape hosts (tail_dues ps) s rest) (sym (t.spelled ∙ whole xs rest))
        (passes_append shape hosts (place_dues ps) (Last ∷ []) (places_text shape xs ++ (codes "end" ++ 10 ∷ rest)) (codes "end" ++ 10 ∷ rest) rest places last)

    pub one_tail : (xs ys : List Place) (text rest left : List ℕ) → HasTail shape hosts ps xs text rest → HasTail shape hosts ps ys text left → (xs ≡ ys) × (rest ≡ left)
    one_tail xs ys text rest left t u = (
      one_places xs ys (codes "end" ++ 10 ∷ rest) (codes "end" ++ 10 ∷ left) (subst (AllByRecursion (IsPath shape)) (sym t.paths_are) h) (t.paths_are ∙ sym u.paths_are) (recursion_from_All IsBelow xs t.below) (recursion_from_All IsBelow ys u.below)
          (sym (whole xs rest) ∙ sym t.spelled ∙ u.spelled ∙ whole ys left),
      passes_one shape hosts (tail_dues ps) text rest left (tail_passes xs text rest t) (tail_passes ys text left u),
    )

    module _ (is : IsShape shape) where
      goes : (xs : List Place) (text rest : List ℕ) (f : Fault) (n : ℕ) → HasTail shape hosts ps xs text rest → StopsAt shape hosts (tail_dues ps) text f n → ⊥
      goes xs text rest f n t s = not_passed shape hosts is names few (tail_dues ps) (place_fits ps h) text rest f n (tail_passes xs text rest t) s

      -- a tail that is right is not wrong
      pub tail_goes : (xs : List Place) (text : List ℕ) (f : Fault) (n : ℕ) → HasTail shape hosts ps xs text [] → IsWrongTail shape hosts ps text f n → ⊥
      tail_goes xs text f n t (inl s) = goes xs text [] f n t s
      tail_goes xs text f n t (inr s) = s.3 (sym (one_tail xs s.0 text [] s.1 t s.2).1)

      pub one_wrong_tail : (text : List ℕ) (f g : Fault) (n m : ℕ) → IsWrongTail shape hosts ps text f n → IsWrongTail shape hosts ps text g m → (f ≡ g) × (n ≡ m)
      one_wrong_tail text f g n m (inl a) (inl b) = one_stop shape hosts is names few (tail_dues ps) (place_fits ps h) text f g n m a b
      one_wrong_tail text f g n m (inl a) (inr b) = absurd (goes b.0 text b.1 f n b.2 a)
      one_wrong_tail text f g n m (inr a) (inl b) = absurd (goes a.0 text a.1 g m a.2 b)
      one_wrong_tail text f g n m (inr a) (inr b) = (a.4 ∙ sym b.4, a.5 ∙ sym b.5)
