-- Heads of batches that have others behind them, and heads behind others.
use Rattle.std.proofs.Common.{◌≡◌, ◌≤◌, ◌<◌, ◌+◌, ◌⊎◌, inl, inr, ℕ, zero, suc, Bool, true, false, if◌then◌else◌, List, [], ◌∷◌, ◌++◌, length, None, slice_get, All, nat_lt, refl, sym, ap, subst, ◌∙◌, arith, append-nil, append_assoc, length-append, ltb-false, lt-ltb, le-ltb}
use Rattle.std.proofs.lemmas.Bool.{ltb-true}
use Rattle.std.proofs.lemmas.List.Elements.{All-head, All-tail}
use Rattle.wave_base.specs.Fold.{Head, begun, next_batch, first_head, with_done, next_job, head_after, tickets_from, tickets_of, created_tickets}

module _ {J : Type 0} where
  abbrev pub Full : List (List J) → Type 0
  Full bs = All (λ b. 0 < length b) bs

  -- with these batches behind its own
  abbrev pub with_later : List (List J) → Head J → Head J
  with_later bs h = record { known = h.known; later = h.later ++ bs; done = h.done }

  -- as it is known: where all its jobs are done, the first of these batches begins
  abbrev pub more : List (List J) → Head J → Head J
  more bs h = next_batch (with_later bs h)

  -- a head behind one whose jobs are all done
  abbrev pub shifted : Head J → Head J → Head J
  shifted v w = record { known = v.known ++ w.known; later = w.later; done = v.done + w.done }

  -- no more is done than known; where all is done, no batch is left; and no batch is empty
  pub record Sound (h : Head J) : Type 0 where
    pub within : h.done ≤ length h.known
    pub either : (h.done < length h.known) ⊎ (h.later ≡ [])
    pub full : Full h.later

  -- ---- where a batch is next

  pub busy : (h : Head J) → h.done < length h.known → next_batch h ≡ h
  busy h l = ap (λ t. if t then h else begun h h.later) (lt-ltb h.done (length h.known) l)

  longer : (h : Head J) (b : List J) → h.done ≤ length h.known → 0 < length b → h.done < length (h.known ++ b)
  longer h b l some = omega (arith, l, some, length-append h.known b)

  pub sound_next : (h : Head J) → h.done ≤ length h.known → Full h.later → Sound (next_batch h)
  sound_next h l full = by_test (nat_lt h.done (length h.known)) refl
    where
      by_later : (bs : List (List J)) → h.later ≡ bs → Sound (begun h bs)
      by_later [] e = record { within = l; either = inr e; full = full }
      by_later (b ∷ bs) e =
          let f : Full (b ∷ bs) = subst Full e full in
          let some = longer h b l (All-head (λ (b : List J). 0 < length b) b bs f) in
          record { within = omega (arith, some); either = inl some; full = All-tail (λ (b : List J). 0 < length b) b bs f }

      by_test : (t : Bool) → nat_lt h.done (length h.known) ≡ t → Sound (if t then h else begun h h.later)
      by_test true e = record { within = l; either = inl (ltb-true h.done (length h.known) e); full = full }
      by_test false e = by_later h.later refl

  pub sound_first : (batches : List (List J)) → Full batches → Sound (first_head batches)
  sound_first batches full = sound_next (record { known = []; later = batches; done = 0 }) (omega arith) full

  pub sound_done : (h : Head J) (created : List J) → Sound h → h.done < length h.known → Sound (with_done h created)
  sound_done h created s l = sound_next (record { known = h.known ++ created; later = h.later; done = suc h.done }) (omega (arith, l, length-append h.known created)) s.full

  -- ---- with more behind

  pub more_next : (bs : List (List J)) (h : Head J) → h.done ≤ length h.known → Full h.later → more bs (next_batch h) ≡ more bs h
  more_next bs h l full = by_test (nat_lt h.done (length h.known)) refl
    where
      by_later : (ls : List (List J)) → h.later ≡ ls → h.done ≡ length h.known → more bs (begun h ls) ≡ begun (with_later bs h) (h.later ++ bs)
      by_later [] e d = ap (λ t. if t then with_later bs h else begun (with_later bs h) (h.later ++ bs)) (le-ltb h.done (length h.known) (omega (arith, d)))
      by_later (b ∷ ls) e d =
          let some = longer h b l (All-head (λ (b : List J). 0 < length b) b ls (subst Full e full)) in
          busy (with_later bs (begun h (b ∷ ls))) some ∙ ap (λ x. begun (with_later bs h) (x ++ bs)) (sym e)

      by_test : (t : Bool) → nat_lt h.done (length h.known) ≡ t → more bs (if t then h else begun h h.later) ≡ (if t then with_later bs h else begun (with_later bs h) (h.later ++ bs))
      by_test true e = busy (with_later bs h) (ltb-true h.done (length h.known) e)
      by_test false e = by_later h.later refl (omega (arith, l, ltb-false h.done (length h.known) e))

  pub more_first : (bs batches : List (List J)) → Full batches → more bs (first_head batches) ≡ first_head (batches ++ bs)
  more_first bs batches full = more_next bs (record { known = []; later = batches; done = 0 }) (omega arith) full

  -- one job more is done
  pub more_done : (bs : List (List J)) (h : Head J) (created : List J) → Sound h → h.done < length h.known → with_done (more bs h) created ≡ more bs (with_done h created)
  more_done bs h created s l =
      ap (λ g. with_done g created) (busy (with_later bs h) l)
      ∙ sym (more_next bs (record { known = h.known ++ created; later = h.later; done = suc h.done }) (omega (arith, l, length-append h.known created)) s.full)

  -- ---- where all is done

  some_there : (xs : List J) (i : ℕ) → i < length xs → slice_get xs i ≡ None → ⊥
  some_there [] i l e = omega (arith, l)
  some_there (x ∷ xs) zero l e = cc
  some_there (x ∷ xs) (suc i) l e = some_there xs i (omega (arith, l)) e

  -- all known jobs are done, and no batch is left
  pub record Over (h : Head J) : Type 0 where
    pub all : h.done ≡ length h.known
    pub none : h.later ≡ []

  pub over_of : (h : Head J) → Sound h → next_job h ≡ None → Over h
  over_of h s e = by s.either
    where
      by : (h.done < length h.known) ⊎ (h.later ≡ []) → Over h
      by (inl l) = absurd (some_there h.known h.done l e)
      by (inr none) = record { all = at_end (cases h.done (length h.known)); none = none }
        where
          cases : (a b : ℕ) → (a < b) ⊎ (b ≤ a)
          cases a b = grind arith

          at_end : (h.done < length h.known) ⊎ (length h.known ≤ h.done) → h.done ≡ length h.known
          at_end (inl l) = absurd (some_there h.known h.done l e)
          at_end (inr l) = omega (arith, l, s.within)

  behind_get : (xs ys : List J) (i : ℕ) → slice_get (xs ++ ys) (length xs + i) ≡ slice_get ys i
  behind_get [] ys i = ap (slice_get ys) (none i)
    where
      none : (a : ℕ) → 0 + a ≡ a
      none a = omega arith
  behind_get (x ∷ xs) ys i = ap (slice_get (x ∷ (xs ++ ys))) (one (length xs) i) ∙ behind_get xs ys i
    where
      one : (a b : ℕ) → suc a + b ≡ suc (a + b)
      one a b = omega arith

  module _ (v : Head J) (over : Over v) where
    pub shifted_job : (w : Head J) → next_job (shifted v w) ≡ next_job w
    shifted_job w = ap (λ n. slice_get (v.known ++ w.known) (n + w.done)) over.all ∙ behind_get v.known w.known w.done

    shifted_test : (w : Head J) → nat_lt (v.done + w.done) (length (v.known ++ w.known)) ≡ nat_lt w.done (length w.known)
    shifted_test w = by (nat_lt w.done (length w.known)) refl
      where
        by : (t : Bool) → nat_lt w.done (length w.known) ≡ t → nat_lt (v.done + w.done) (length (v.known ++ w.known)) ≡ t
        by true e = lt-ltb _ _ (let l = ltb-true w.done (length w.known) e in omega (arith, l, over.all, length-append v.known w.known))
        by false e = le-ltb _ _ (let l = ltb-false w.done (length w.known) e in omega (arith, l, over.all, length-append v.known w.known))

    pub shifted_next : (w : Head J) → next_batch (shifted v w) ≡ shifted v (next_batch w)
    shifted_next w = ap (λ t. if t then shifted v w else begun (shifted v w) w.later) (shifted_test w) ∙ by (nat_lt w.done (length w.known))
      where
        by_later : (bs : List (List J)) → begun (shifted v w) bs ≡ shifted v (begun w bs)
        by_later [] = refl
        by_later (b ∷ bs) = λ i. record { known = append_assoc v.known w.known b i; later = bs; done = v.done + w.done }

        by : (t : Bool) → (if t then shifted v w else begun (shifted v w) w.later) ≡ shifted v (if t then w else begun w w.later)
        by true = refl
        by false = by_later w.later

    pub shifted_done : (w : Head J) (created : List J) → with_done (shifted v w) created ≡ shifted v (with_done w created)
    shifted_done w created =
        let last : suc (v.done + w.done) ≡ v.done + suc w.done = omega arith in
        ap next_batch (λ i. record { known = append_assoc v.known w.known created i; later = w.later; done = last i })
        ∙ shifted_next (record { known = w.known ++ created; later = w.later; done = suc w.done })

    -- what is behind begins
    pub seam : (bs : List (List J)) → more bs v ≡ shifted v (first_head bs)
    seam bs =
        let none : v.done ≡ v.done + 0 = omega arith in
        ap next_batch (λ i. record { known = sym (append-nil v.known) i; later = ap (λ ls. ls ++ bs) over.none i; done = none i })
        ∙ shifted_next (record { known = []; later = bs; done = 0 })

    -- the tickets count on
    pub made_shifted : (first : ℕ) (w : Head J) (cs : List (List J)) → created_tickets first (shifted v w) cs ≡ created_tickets (first + v.done) w cs
    made_shifted first w [] = refl
    made_shifted first w (c ∷ cs) =
        let from : first + length (v.known ++ w.known) ≡ first + v.done + length w.known = omega (arith, over.all, length-append v.known w.known) in
        (λ i. tickets_from (from i) (length c) ∷ created_tickets first (shifted_done w c i) cs) ∙ ap (λ ts. tickets_of (first + v.done) w c ∷ ts) (made_shifted first (with_done w c) cs)

  pub made_append : (first : ℕ) (h : Head J) (cs ds : List (List J)) → created_tickets first h (cs ++ ds) ≡ created_tickets first h cs ++ created_tickets first (head_after h cs) ds
  made_append first h [] ds = refl
  made_append first h (c ∷ cs) ds = ap (λ ts. tickets_of first h c ∷ ts) (made_append first (with_done h c) cs ds)

  pub head_append : (h : Head J) (cs : List (List J)) (c : List J) → head_after h (cs ++ c ∷ []) ≡ with_done (head_after h cs) c
  head_append h [] c = refl
  head_append h (d ∷ cs) c = head_append (with_done h d) cs c
