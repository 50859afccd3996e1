-- What is left to do of a script, and how the next job leaves it.
use Rattle.std.proofs.Common.{◌≡◌, ◌≤◌, ◌<◌, ◌+◌, ◌-◌, ◌*◌, ℕ, zero, suc, Bool, true, false, if◌then◌else◌, List, [], ◌∷◌, ◌++◌, length, drop, sum_by, Some, slice_get, All, nat_lt, refl, ap, subst, ◌∙◌, arith, length-append, ltb-false}
use Rattle.std.proofs.lemmas.List.{drop-append-le}
use Rattle.std.proofs.lemmas.List.Elements.{All-head, All-tail, All-append}
use Rattle.std.proofs.lemmas.List.Sums.{sum_by-append, sum_by-cons, sum_by-le}
use Rattle.std.proofs.lemmas.Option.{slice_get_within}
use Rattle.std.proofs.Math.Seq.{drop-append_seam, drop-length}
use Rattle.wave_base.specs.declared.limits.TheConstants.{GENERATION}
use Rattle.wave_base.specs.declared.script.Line.{Line}
use Rattle.wave_base.specs.declared.script.Line.TheVariants.{Request, Move, Snapshot}
use Rattle.wave_base.specs.Fold.{Head, begun, next_batch, with_done, head_after}
use Rattle.script_fold.specs.Lines.{most_events, most_of, most_jobs}

-- ---- how many jobs a line may make

pub most_some : (n : ℕ) → 1 ≤ most_events n
unfolding most_events
most_some zero = omega arith
most_some (suc n) = omega arith

most_of_some : (l : Line) → 1 ≤ most_of l
most_of_some (Request call) = most_some (GENERATION - call.generation)
most_of_some (Move p h) = omega arith
most_of_some Snapshot = omega arith

most_small : (n : ℕ) → n ≤ 4 → most_events n ≤ 341
unfolding most_events
most_small zero h = omega arith
most_small (suc zero) h = omega arith
most_small (suc (suc zero)) h = omega arith
most_small (suc (suc (suc zero))) h = omega arith
most_small (suc (suc (suc (suc zero)))) h = omega arith
most_small (suc (suc (suc (suc (suc n))))) h = absurd (omega arith)

most_of_small : (l : Line) → most_of l ≤ 341
most_of_small (Request call) = most_small (GENERATION - call.generation) (omega arith)
most_of_small (Move p h) = omega arith
most_of_small Snapshot = omega arith

batch_small : (b : List Line) → sum_by most_of b ≤ length b * 341
batch_small b = sum_by-le most_of 341 b (λ k d l. most_of_small _)

pub most_lines : (batches : List (List Line)) → most_jobs batches ≤ sum_by length batches * 341
most_lines [] = omega arith
most_lines (b ∷ bs) = omega (arith, batch_small b, most_lines bs, sum_by-cons (sum_by most_of) b bs, sum_by-cons (length {A = Line}) b bs)

pub lines_most : (b : List Line) → length b ≤ sum_by most_of b
lines_most [] = omega arith
lines_most (l ∷ b) = omega (arith, lines_most b, most_of_some l, sum_by-cons most_of l b)

pub batches_most : (batches : List (List Line)) → sum_by length batches ≤ most_jobs batches
batches_most [] = omega arith
batches_most (b ∷ bs) = omega (arith, lines_most b, batches_most bs, sum_by-cons (sum_by most_of) b bs, sum_by-cons (length {A = Line}) b bs)

-- ---- heads

unfoldable pub left_in : Head Line → ℕ
left_in h = sum_by most_of (drop h.done h.known) + most_jobs h.later

pub record Next (F : Line → Type 0) (h n : Head Line) : Type 0 where
  pub done : n.done ≡ h.done
  pub within : n.done ≤ length n.known
  pub left : left_in n ≡ left_in h
  pub known : All F h.known → All (All F) h.later → All F n.known
  pub later : All (All F) h.later → All (All F) n.later

pub next_keeps : (F : Line → Type 0) (h : Head Line) → h.done ≤ length h.known → Next F h (next_batch h)
unfolding left_in
next_keeps F h l = by_test (nat_lt h.done (length h.known)) refl
  where
    same : Next F h h
    same = record { done = refl; within = l; left = refl; known = λ k b. k; later = λ b. b }

    by_later : (bs : List (List Line)) → h.later ≡ bs → h.done ≡ length h.known → Next F h (begun h bs)
    by_later [] e d = same
    by_later (b ∷ bs) e d =
        let new : drop h.done (h.known ++ b) ≡ b = ap (λ n. drop n (h.known ++ b)) d ∙ drop-append_seam h.known b in
        let old : drop h.done h.known ≡ [] = ap (λ n. drop n h.known) d ∙ drop-length h.known in
        let old_sum : sum_by most_of (drop h.done h.known) ≡ 0 = ap (sum_by most_of) old in
        let new_sum : sum_by most_of (drop h.done (h.known ++ b)) ≡ sum_by most_of b = ap (sum_by most_of) new in
        let all : most_jobs h.later ≡ sum_by most_of b + most_jobs bs = ap most_jobs e ∙ sum_by-cons (sum_by most_of) b bs in
        record {
          done = refl;
          within = omega (arith, d, length-append h.known b);
          left = omega (arith, old_sum, new_sum, all);
          known = λ k a. All-append F h.known b k (All-head (All F) b bs (subst (All (All F)) e a));
          later = λ a. All-tail (All F) b bs (subst (All (All F)) e a);
        }

    by_test : (t : Bool) → nat_lt h.done (length h.known) ≡ t → Next F h (if t then h else begun h h.later)
    by_test true e = same
    by_test false e = by_later h.later refl (omega (arith, l, ltb-false h.done (length h.known) e))

pub next_is : (xs : List Line) (i : ℕ) (j : Line) → slice_get xs i ≡ Some j → drop i xs ≡ j ∷ drop (suc i) xs
next_is [] i j e = cc
next_is (x ∷ xs) zero j e = let same : x ≡ j = cc in ap (λ y. y ∷ xs) same
next_is (x ∷ xs) (suc i) j e = next_is xs i j e

pub All-drop_head : (F : Line → Type 0) (xs : List Line) (i : ℕ) (j : Line) → slice_get xs i ≡ Some j → All F xs → F j
All-drop_head F [] i j e h = cc
All-drop_head F (x ∷ xs) zero j e h = let same : x ≡ j = cc in subst F same (All-head F x xs h)
All-drop_head F (x ∷ xs) (suc i) j e h = All-drop_head F xs i j e (All-tail F x xs h)

-- one job is done
abbrev pub grown : Head Line → List Line → Head Line
grown h created = record { known = h.known ++ created; later = h.later; done = suc h.done }

module _ (F : Line → Type 0) (h : Head Line) (j : Line) (created : List Line) (is : slice_get h.known h.done ≡ Some j) where
  pub done_next : Next F (grown h created) (with_done h created)
  done_next =
      let l : h.done < length h.known = slice_get_within h.known h.done j is in
      next_keeps F (grown h created) (omega (arith, l, length-append h.known created))

  pub grown_left : left_in (grown h created) + most_of j ≡ left_in h + sum_by most_of created
  unfolding left_in
  grown_left =
      let l : h.done < length h.known = slice_get_within h.known h.done j is in
      let rest : drop (suc h.done) (h.known ++ created) ≡ drop (suc h.done) h.known ++ created = drop-append-le (suc h.done) h.known created (omega (arith, l)) in
      let rest_sum : sum_by most_of (drop (suc h.done) (h.known ++ created)) ≡ sum_by most_of (drop (suc h.done) h.known) + sum_by most_of created = ap (sum_by most_of) rest ∙ sum_by-append most_of (drop (suc h.done) h.known) created in
      let old_sum : sum_by most_of (drop h.done h.known) ≡ most_of j + sum_by most_of (drop (suc h.done) h.known) = ap (sum_by most_of) (next_is h.known h.done j is) ∙ sum_by-cons most_of j (drop (suc h.done) h.known) in
      omega (arith, rest_sum, old_sum)

pub head_push : (h : Head Line) (cs : List (List Line)) (c : List Line) → head_after h (cs ++ c ∷ []) ≡ with_done (head_after h cs) c
head_push h [] c = refl
head_push h (d ∷ cs) c = head_push (with_done h d) cs c
