-- The fold: how its head and its tree go on.
use Rattle.std.proofs.Common.{◌≡◌, ℕ, zero, suc, ◌+◌, ◌≤◌, ◌⊎◌, inl, inr, nat_lt, Bool, true, false, List, [], ◌∷◌, ◌++◌, length, Some, None, refl, sym, ◌∙◌, ap, subst, arith}
use Rattle.std.specs.Prelude.{if◌then◌else◌, slice_get}
use Rattle.wave_base.specs.Fold.{Head, Ran, Progress, next_batch, begun, with_done, next_job, with_job, with_result}
use Rattle.wave_states.specs.Actors.{Actors}
use Rattle.wave_states.specs.Alone.{run_alone, fold_alone, job_after}
use Rattle.wave_states.specs.Begins.{Begin}
use Rattle.wave_theory.proofs.Basics.{none_not, options}

module _ {J : Type 0} where
  -- what is known stays known, in its place
  pub slice_append : (xs ys : List J) (i : ℕ) (j : J) → slice_get xs i ≡ Some j → slice_get (xs ++ ys) i ≡ Some j
  slice_append [] ys i j e = absurd (none_not e)
  slice_append (x ∷ xs) ys zero j e = e
  slice_append (x ∷ xs) ys (suc i) j e = slice_append xs ys i j e

  begun_keeps : (h : Head J) (bs : List (List J)) (i : ℕ) (j : J) → slice_get h.known i ≡ Some j → slice_get (begun h bs).known i ≡ Some j
  begun_keeps h [] i j e = e
  begun_keeps h (b ∷ bs) i j e = slice_append h.known b i j e

  next_keeps : (h : Head J) (i : ℕ) (j : J) → slice_get h.known i ≡ Some j → slice_get (next_batch h).known i ≡ Some j
  next_keeps h i j e = by (nat_lt h.done (length h.known))
    where
      by : (b : Bool) → slice_get (if b then h else begun h h.later).known i ≡ Some j
      by true = e
      by false = begun_keeps h h.later i j e

  pub done_keeps : (h : Head J) (created : List J) (i : ℕ) (j : J) → slice_get h.known i ≡ Some j → slice_get (with_done h created).known i ≡ Some j
  done_keeps h created i j e = next_keeps (record { known = h.known ++ created; later = h.later; done = suc h.done }) i j (slice_append h.known created i j e)

  begun_done : (h : Head J) (bs : List (List J)) → (begun h bs).done ≡ h.done
  begun_done h [] = refl
  begun_done h (b ∷ bs) = refl

  next_done : (h : Head J) → (next_batch h).done ≡ h.done
  next_done h = by (nat_lt h.done (length h.known))
    where
      by : (b : Bool) → (if b then h else begun h h.later).done ≡ h.done
      by true = refl
      by false = begun_done h h.later

  pub with_done_done : (h : Head J) (created : List J) → (with_done h created).done ≡ suc h.done
  with_done_done h created = next_done (record { known = h.known ++ created; later = h.later; done = suc h.done })

module _ {A F R J : Type 0} (sys : Actors A F R J) (b : Begin F) (batches : List (List J)) where
  abbrev pub at : ℕ → Progress F R J
  at n = fold_alone sys b batches n

  abbrev pub ran : ℕ → J → Ran F R
  ran n j = run_alone sys (suc b.before + n) (at n).tree j

  -- the next one, where there is a job
  pub goes_on : (n : ℕ) (j : J) → next_job (at n).head ≡ Some j → (at n).head.done ≡ n → at (suc n) ≡ with_result (suc b.before) (run_alone sys) sys.created (at n) (ran n j)
  goes_on n j e d = ap (λ o. with_job (suc b.before) (run_alone sys) sys.created (at n) o) e ∙ ap (λ i. with_result (suc b.before) (run_alone sys) sys.created (at n) (run_alone sys (suc b.before + i) (at n).tree j)) d

  pub stays : (n : ℕ) → next_job (at n).head ≡ None → at (suc n) ≡ at n
  stays n e = ap (λ o. with_job (suc b.before) (run_alone sys) sys.created (at n) o) e

  first_done : (at 0).head.done ≡ 0
  first_done = next_done (record { known = []; later = batches; done = 0 })

  -- after so many steps so many jobs are done, as long as there are that many
  pub done_is : (n i : ℕ) (j : J) → (at n).head.done ≡ n → slice_get (at n).head.known i ≡ Some j → (m : ℕ) → n ≤ m → m ≤ i → ((at m).head.done ≡ m) × (slice_get (at m).head.known i ≡ Some j)
  done_is n i j d k zero l l' = (let z : n ≡ 0 = omega arith in (subst (λ x. (at x).head.done ≡ x) z d, subst (λ x. slice_get (at x).head.known i ≡ Some j) z k))
  done_is n i j d k (suc m) l l' = elim (at_or_below n m l) [
    | inr z ↦ (subst (λ x. (at x).head.done ≡ x) z d, subst (λ x. slice_get (at x).head.known i ≡ Some j) z k)
    | inl z ↦ (let h = done_is n i j d k m z (omega arith) in
        elim (options (next_job (at m).head)) [
          | inl e ↦ absurd (past m i j (at m).head.known (subst (λ x. slice_get (at m).head.known x ≡ None) h.0 e) h.1 (omega arith))
          | inr e ↦ (
            ap (λ (w : Progress F R J). w.head.done) (goes_on m e.0 e.1 h.0) ∙ with_done_done (at m).head (sys.created (ran m e.0).result) ∙ ap suc h.0,
            ap (λ (w : Progress F R J). slice_get w.head.known i) (goes_on m e.0 e.1 h.0) ∙ done_keeps (at m).head (sys.created (ran m e.0).result) i j h.1,
          )
        ])
  ]
    where
      at_or_below : (a b : ℕ) → a ≤ suc b → (a ≤ b) ⊎ (a ≡ suc b)
      at_or_below a b l = grind arith

      past : (m i : ℕ) (j : J) (xs : List J) → slice_get xs m ≡ None → slice_get xs i ≡ Some j → m ≤ i → ⊥
      past m i j [] e f l = none_not f
      past zero i j (x ∷ xs) e f l = none_not (sym e)
      past (suc m) zero j (x ∷ xs) e f l = omega arith
      past (suc m) (suc i) j (x ∷ xs) e f l = past m i j xs e f (omega arith)

  -- a job that is known after n of them is the one that comes after i of them
  pub known_job : (n i : ℕ) (j : J) → (at n).head.done ≡ n → slice_get (at n).head.known i ≡ Some j → n ≤ i → ((at i).head.done ≡ i) × (job_after sys b batches i ≡ Some j)
  known_job n i j d k l = (let h = done_is n i j d k i l (omega arith) in (h.0, ap (slice_get (at i).head.known) h.0 ∙ h.1))

  pub zero_done : (at 0).head.done ≡ 0
  zero_done = first_done
