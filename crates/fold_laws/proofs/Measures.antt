-- What is left to do of a head, by a measure of its jobs, and how the next job leaves it.
use Rattle.std.proofs.Common.{◌≡◌, ◌≤◌, ◌<◌, ◌+◌, ℕ, suc, Bool, true, false, if◌then◌else◌, List, [], ◌∷◌, ◌++◌, length, drop, sum_by, Some, slice_get, nat_lt, refl, ap, ◌∙◌, arith, length-append, ltb-false}
use Rattle.std.proofs.lemmas.List.{drop-append-le}
use Rattle.std.proofs.lemmas.List.Sums.{sum_by-append, sum_by-cons}
use Rattle.std.proofs.lemmas.Option.{slice_get_within}
use Rattle.std.proofs.Math.Seq.{drop-append_seam, drop-length}
use Rattle.wave_base.specs.declared.script.Line.{Line}
use Rattle.wave_base.specs.Fold.{Head, begun, next_batch, with_done}
use Rattle.script_fold.proofs.LeftLemmas.{grown, next_is}

module _ (size : Line → ℕ) where
  unfoldable pub left_by : Head Line → ℕ
  left_by h = sum_by size (drop h.done h.known) + sum_by (sum_by size) h.later

  next_left : (h : Head Line) → h.done ≤ length h.known → left_by (next_batch h) ≡ left_by h
  unfolding left_by
  next_left h l = by_test (nat_lt h.done (length h.known)) refl
    where
      by_later : (bs : List (List Line)) → h.later ≡ bs → h.done ≡ length h.known → left_by (begun h bs) ≡ left_by h
      by_later [] e d = refl
      by_later (b ∷ bs) e d =
          let new : drop h.done (h.known ++ b) ≡ b = ap (λ n. drop n (h.known ++ b)) d ∙ drop-append_seam h.known b in
          let old : drop h.done h.known ≡ [] = ap (λ n. drop n h.known) d ∙ drop-length h.known in
          let old_sum : sum_by size (drop h.done h.known) ≡ 0 = ap (sum_by size) old in
          let new_sum : sum_by size (drop h.done (h.known ++ b)) ≡ sum_by size b = ap (sum_by size) new in
          let all : sum_by (sum_by size) h.later ≡ sum_by size b + sum_by (sum_by size) bs = ap (sum_by (sum_by size)) e ∙ sum_by-cons (sum_by size) b bs in
          omega (arith, old_sum, new_sum, all)

      by_test : (t : Bool) → nat_lt h.done (length h.known) ≡ t → left_by (if t then h else begun h h.later) ≡ left_by h
      by_test true e = refl
      by_test false e = by_later h.later refl (omega (arith, l, ltb-false h.done (length h.known) e))

  pub first_left : (batches : List (List Line)) → left_by (next_batch (record { known = []; later = batches; done = 0 })) ≡ sum_by (sum_by size) batches
  unfolding left_by
  first_left batches = next_left (record { known = []; later = batches; done = 0 }) (omega arith) ∙ none (sum_by (sum_by size) batches)
    where
      none : (a : ℕ) → 0 + a ≡ a
      none a = omega arith

  -- one job is done: it leaves the place to those that it creates
  pub done_left : (h : Head Line) (j : Line) (created : List Line) → slice_get h.known h.done ≡ Some j → left_by (with_done h created) + size j ≡ left_by h + sum_by size created
  unfolding left_by
  done_left h j created is =
      let l : h.done < length h.known = slice_get_within h.known h.done j is in
      let rest : drop (suc h.done) (h.known ++ created) ≡ drop (suc h.done) h.known ++ created = drop-append-le (suc h.done) h.known created (omega (arith, l)) in
      let rest_sum : sum_by size (drop (suc h.done) (h.known ++ created)) ≡ sum_by size (drop (suc h.done) h.known) + sum_by size created = ap (sum_by size) rest ∙ sum_by-append size (drop (suc h.done) h.known) created in
      let old_sum : sum_by size (drop h.done h.known) ≡ size j + sum_by size (drop (suc h.done) h.known) = ap (sum_by size) (next_is h.known h.done j is) ∙ sum_by-cons size j (drop (suc h.done) h.known) in
      let next : left_by (with_done h created) ≡ left_by (grown h created) = next_left (grown h created) (omega (arith, l, length-append h.known created)) in
      omega (arith, rest_sum, old_sum, next)
