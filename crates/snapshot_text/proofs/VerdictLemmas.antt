-- What is said of a whole text, from what is known of its head and of the lines behind it.
use Rattle.std.proofs.Common.{◌≡◌, inl, inr, ◌+◌, ℕ, List, [], ◌∷◌, ◌++◌, length, Result, Ok, Err, refl, sym, ap, subst, ◌∙◌, append-nil}
use Rattle.std.specs.Prelude.{codes}
use Rattle.wave_base.specs.declared.shape.Shape.{Shape}
use Rattle.wave_base.specs.declared.shot.Shot.{Shot}
use Rattle.wave_base.specs.Names.{HasNames}
use Rattle.path_text.specs.ShotTexts.{shot_text}
use Rattle.wave_text.specs.Counted.{HasNoHead, IsBehindHead, line_count}
use Rattle.snapshot_text.specs.declared.error.Fault.{Fault}
use Rattle.snapshot_text.specs.declared.error.Fault.TheVariants as fault
use Rattle.snapshot_text.specs.declared.error.ShotError.{ShotError}
use Rattle.snapshot_text.specs.declared.error.ShotError.TheVariants as error
use Rattle.snapshot_text.specs.Refusals.{error_at}
use Rattle.snapshot_text.specs.SnapshotTexts.{IsSnapshotText, head_text, shots_text}
use Rattle.snapshot_text.specs.Verdicts.{IsEmpty, BeginsWithFault, StopsAfter, IsRefused, IsVerdict, IsOnlyVerdict}
use Rattle.snapshot_text.specs.inner.Tails.{IsParted, IsOnlyParted, StopsWith, AreRead}
use Rattle.snapshot_text.proofs.HeadLemmas.{lines_are}

no_shots : (shape : Shape) (shots : List Shot) → (shots ≡ [] → ⊥) → [] ≡ shots_text shape shots → ⊥
no_shots shape [] some e = some refl
no_shots shape (s ∷ ss) some e = none (shot_text shape s) (shots_text shape ss) e
  where
    none : (xs ys : List ℕ) → [] ≡ xs ++ 10 ∷ ys → ⊥
    none [] ys f = cc
    none (x ∷ xs) ys f = cc

no_rest : (xs ys : List ℕ) → [] ≡ xs ++ ys → [] ≡ ys
no_rest [] ys e = e
no_rest (x ∷ xs) ys e = cc

no_fault : (shape : Shape) (before : List Shot) (f : Fault) → BeginsWithFault shape before [] f → ⊥
no_fault shape before f (inl h) = none h.0 h.1 h.2
  where
    none : (xs ys : List ℕ) → [] ≡ xs ++ 10 ∷ ys → ⊥
    none [] ys e = cc
    none (x ∷ xs) ys e = cc
no_fault shape before f (inr h) = h.1 refl

module _ (shape : Shape) (names : HasNames shape) (text : List ℕ) where
  -- a verdict that refuses, by its fault and its line
  other_errors : (r : Result (List Shot) ShotError) → ((f : Fault) (n : ℕ) → IsRefused shape text f n → ◌≡◌ {A = Result (List Shot) ShotError} (Err (error_at f n)) r) → (e : ShotError) → IsVerdict shape text (Err e) → ◌≡◌ {A = Result (List Shot) ShotError} (Err e) r
  other_errors r h (error.Syntax n) v = h fault.Syntax n v
  other_errors r h (error.Class n) v = h fault.Class n v
  other_errors r h (error.Field n) v = h fault.Field n v
  other_errors r h (error.Order n) v = h fault.Order n v
  other_errors r h (error.OutOfMemory _) v = absurd v

  refused_is : (f : Fault) (n : ℕ) → IsRefused shape text f n → ((other : Result (List Shot) ShotError) → IsVerdict shape text other → other ≡ Err (error_at f n)) → IsOnlyVerdict shape text (Err (error_at f n))
  refused_is fault.Syntax n h only = (h, only)
  refused_is fault.Class n h only = (h, only)
  refused_is fault.Field n h only = (h, only)
  refused_is fault.Order n h only = (h, only)

  snapshot_lines : (shots : List Shot) → IsSnapshotText shape text shots → text ≡ head_text (line_count (shots_text shape shots)) ++ 10 ∷ shots_text shape shots
  snapshot_lines shots s = s.spelled ∙ ap (λ n. head_text n ++ 10 ∷ shots_text shape shots) (sym (lines_are shape names shots s.shots_are.each))

  -- ---- there is no head

  pub headless : HasNoHead (codes "snapshot ") text → IsOnlyVerdict shape text (Err (error.Syntax 1))
  headless none = (inl (none, refl, refl), only)
    where
      refusal : (f : Fault) (n : ℕ) → IsRefused shape text f n → ◌≡◌ {A = Result (List Shot) ShotError} (Err (error_at f n)) (Err (error.Syntax 1))
      refusal f n (inl h) = λ i. Err (error_at (h.1 i) (h.2 i))
      refusal f n (inr (inl h)) = absurd (none [] h.0)
      refusal f n (inr (inr h)) = absurd (none (shots_text shape h.0 ++ h.1.rest) h.1.spelled)

      only : (other : Result (List Shot) ShotError) → IsVerdict shape text other → other ≡ Err (error.Syntax 1)
      only (Ok shots) v = absurd (none (shots_text shape shots) (snapshot_lines shots v))
      only (Err e) v = other_errors (Err (error.Syntax 1)) refusal e v

  module _ (tail : List ℕ) (b : IsBehindHead (codes "snapshot ") text tail) where
    snapshot_tail : (shots : List Shot) → IsSnapshotText shape text shots → shots_text shape shots ≡ tail
    snapshot_tail shots s = b.only (shots_text shape shots) (snapshot_lines shots s)

    stop_parts : (before : List Shot) (f : Fault) (s : StopsAfter shape text before f) → IsParted shape tail before s.rest
    stop_parts before f s = record { spelled = sym (b.only (shots_text shape before ++ s.rest) s.spelled); each = s.each; order = s.order }

    -- ---- no line follows

    pub nothing_follows : tail ≡ [] → IsOnlyVerdict shape text (Err (error.Order 1))
    nothing_follows none = (inr (inl (empty, refl, refl)), only)
      where
        empty : IsEmpty text
        empty = subst (λ t. text ≡ head_text (line_count t) ++ 10 ∷ t) none b.spelled

        stopped : (before : List Shot) (f : Fault) → StopsAfter shape text before f → ⊥
        stopped before f s =
            let p = stop_parts before f s in
            no_fault shape before f (subst (λ t. BeginsWithFault shape before t f) (sym (no_rest (shots_text shape before) s.rest (sym none ∙ p.spelled))) s.wrong)

        refusal : (f : Fault) (n : ℕ) → IsRefused shape text f n → ◌≡◌ {A = Result (List Shot) ShotError} (Err (error_at f n)) (Err (error.Order 1))
        refusal f n (inl h) = absurd (h.0 tail b.spelled)
        refusal f n (inr (inl h)) = λ i. Err (error_at (h.1 i) (h.2 i))
        refusal f n (inr (inr h)) = absurd (stopped h.0 f h.1)

        only : (other : Result (List Shot) ShotError) → IsVerdict shape text other → other ≡ Err (error.Order 1)
        only (Ok shots) v = absurd (no_shots shape shots v.shots_are.some (sym none ∙ sym (snapshot_tail shots v)))
        only (Err e) v = other_errors (Err (error.Order 1)) refusal e v

    -- ---- all lines are those of shots

    module _ (some : tail ≡ [] → ⊥) where
      not_empty : IsEmpty text → ⊥
      not_empty e = some (sym (b.only [] e))

      pub all_shots : (shots : List Shot) → IsOnlyParted shape tail shots [] → IsOnlyVerdict shape text (Ok shots)
      all_shots shots p = (whole, only)
        where
          lines : tail ≡ shots_text shape shots
          lines = p.parted.spelled ∙ append-nil (shots_text shape shots)

          whole : IsSnapshotText shape text shots
          whole = record {
            spelled = b.spelled ∙ ap (λ t. head_text (line_count t) ++ 10 ∷ t) lines ∙ ap (λ n. head_text n ++ 10 ∷ shots_text shape shots) (lines_are shape names shots p.parted.each);
            shots_are = record { some = λ e. some (lines ∙ ap (shots_text shape) e); each = p.parted.each; order = p.parted.order };
          }

          refusal : (f : Fault) (n : ℕ) → IsRefused shape text f n → ◌≡◌ {A = Result (List Shot) ShotError} (Err (error_at f n)) (Ok shots)
          refusal f n (inl h) = absurd (h.0 tail b.spelled)
          refusal f n (inr (inl h)) = absurd (not_empty h.0)
          refusal f n (inr (inr h)) =
              let o = p.only h.0 h.1.rest (stop_parts h.0 f h.1) (inr (f, h.1.wrong)) in
              absurd (no_fault shape h.0 f (subst (λ t. BeginsWithFault shape h.0 t f) o.1 h.1.wrong))

          only : (other : Result (List Shot) ShotError) → IsVerdict shape text other → other ≡ Ok shots
          only (Ok others) v =
              let parted : IsParted shape tail others [] = record { spelled = sym (snapshot_tail others v) ∙ sym (append-nil (shots_text shape others)); each = v.shots_are.each; order = v.shots_are.order } in
              ap (λ ss. Ok ss) (p.only others [] parted (inl refl)).0
          only (Err e) v = other_errors (Ok shots) refusal e v

      -- ---- a line has a fault

      pub some_shots : (before : List Shot) (f : Fault) → StopsWith shape tail before f → IsOnlyVerdict shape text (Err (error_at f (length before + 2)))
      some_shots before f s = refused_is f (length before + 2) (inr (inr (before, stop, refl))) only
        where
          stop : StopsAfter shape text before f
          stop = record {
            rest = s.rest;
            spelled = b.spelled ∙ ap (λ t. head_text (line_count t) ++ 10 ∷ t) s.parted.parted.spelled;
            each = s.parted.parted.each;
            order = s.parted.parted.order;
            wrong = s.wrong;
          }

          refusal : (g : Fault) (n : ℕ) → IsRefused shape text g n → ◌≡◌ {A = Result (List Shot) ShotError} (Err (error_at g n)) (Err (error_at f (length before + 2)))
          refusal g n (inl h) = absurd (h.0 tail b.spelled)
          refusal g n (inr (inl h)) = absurd (not_empty h.0)
          refusal g n (inr (inr h)) =
              let o = s.parted.only h.0 h.1.rest (stop_parts h.0 g h.1) (inr (g, h.1.wrong)) in
              let same : g ≡ f = s.only g (subst (λ ss. BeginsWithFault shape ss s.rest g) o.0 (subst (λ t. BeginsWithFault shape h.0 t g) o.1 h.1.wrong)) in
              let line : n ≡ length before + 2 = h.2 ∙ ap (λ ss. length ss + 2) o.0 in
              λ i. Err (error_at (same i) (line i))

          only : (other : Result (List Shot) ShotError) → IsVerdict shape text other → other ≡ Err (error_at f (length before + 2))
          only (Ok others) v =
              let parted : IsParted shape tail others [] = record { spelled = sym (snapshot_tail others v) ∙ sym (append-nil (shots_text shape others)); each = v.shots_are.each; order = v.shots_are.order } in
              let o = s.parted.only others [] parted (inl refl) in
              absurd (no_fault shape before f (subst (λ t. BeginsWithFault shape before t f) (sym o.1) s.wrong))
          only (Err e) v = other_errors (Err (error_at f (length before + 2))) refusal e v

      pub read_verdict : (r : Result (List Shot) ShotError) → AreRead shape tail r → IsOnlyVerdict shape text r
      read_verdict (Ok shots) h = all_shots shots h
      read_verdict (Err e) (inl h) = subst (λ x. IsOnlyVerdict shape text (Err x)) (sym h) tt
      read_verdict (Err e) (inr h) = subst (λ x. IsOnlyVerdict shape text (Err x)) (sym h.3) (some_shots h.0 h.1 h.2)
