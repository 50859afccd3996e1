-- The run of two lists of batches, one behind the other, job by job beside the run of each.
use Rattle.std.proofs.Common.{◌≡◌, ◌≤◌, ◌<◌, ◌+◌, ◌-◌, ℕ, zero, suc, List, [], ◌∷◌, ◌++◌, length, map, sum_by, Option, Some, None, refl, sym, ap, subst, ◌∙◌, arith, append-nil, append_assoc, length-append}
use Rattle.std.proofs.lemmas.List.{map-append}
use Rattle.std.proofs.lemmas.List.Sums.{sum_by-append}
use Rattle.std.proofs.lemmas.Option.{slice_get_within}
use Rattle.wave_base.specs.declared.outcome.EventResult.{EventResult}
use Rattle.wave_base.specs.declared.script.Line.{Line}
use Rattle.wave_base.specs.declared.value.Value.{Value}
use Rattle.wave_base.specs.Fold.{Head, Ran, Progress, first_head, with_done, next_job, head_after, created_tickets, tickets_of, first_progress, with_result, with_job, one_more, fold_jobs, created_lines}
use Rattle.wave_base.specs.Tree.{Tree}
use Rattle.wave_theory.proofs.Basics.{none_not}
use Rattle.wave_theory.proofs.Folds.{with_done_done}
use Rattle.script_fold.specs.Lines.{Meaning, line_by, most_of, most_jobs}
use Rattle.script_fold.proofs.StepLemmas.{any_ticket}
use Rattle.fold_laws.specs.Cuts.{joint_progress}
use Rattle.fold_laws.proofs.Heads.{Full, with_later, more, shifted, Sound, busy, sound_first, sound_done, more_first, more_done, Over, over_of, shifted_job, shifted_done, seam, made_shifted, made_append, head_append}

abbrev pub Run : Type 0
Run = Progress (List Value) EventResult Line

abbrev pub created_by : List EventResult → List (List Line)
created_by rs = map created_lines rs

module _ (meaning : Meaning) (first : ℕ) where
  abbrev step : Run → Run
  step w = one_more first (line_by meaning) created_lines w

  -- after so many jobs of these batches on this tree
  abbrev pub at : List (List Line) → Tree (List Value) → ℕ → Run
  at batches tree n = fold_jobs first (line_by meaning) created_lines n (first_progress tree batches)

  -- ---- a run that is over stays so

  pub stays : (w : Run) → next_job w.head ≡ None → step w ≡ w
  stays w e = ap (with_job first (line_by meaning) created_lines w) e

  pub stays_long : (batches : List (List Line)) (tree : Tree (List Value)) (n m : ℕ) → next_job (at batches tree n).head ≡ None → at batches tree (m + n) ≡ at batches tree n
  stays_long batches tree n zero e = ap (at batches tree) (none n)
    where
      none : (a : ℕ) → 0 + a ≡ a
      none a = omega arith
  stays_long batches tree n (suc m) e =
      let before = stays_long batches tree n m e in
      ap (at batches tree) (one m n) ∙ ap step before ∙ stays (at batches tree n) e
    where
      one : (a b : ℕ) → suc a + b ≡ suc (a + b)
      one a b = omega arith

  -- ---- what holds of a run, however far it has come

  pub record Sane (batches : List (List Line)) (w : Run) : Type 0 where
    pub sound : Sound w.head
    pub results : length w.results ≡ w.head.done
    pub entered : length w.entered ≡ w.head.done
    pub heads : head_after (first_head batches) (created_by w.results) ≡ w.head

  first_done : (batches : List (List Line)) → (first_head batches).done ≡ 0
  first_done [] = refl
  first_done (b ∷ bs) = refl

  sane_ran : (batches : List (List Line)) (w : Run) (x : Ran (List Value) EventResult) → Sane batches w → w.head.done < length w.head.known → Sane batches (with_result first (line_by meaning) created_lines w x)
  sane_ran batches w x s l =
      let done = with_done_done w.head (created_lines x.result) in
      record {
        sound = sound_done w.head (created_lines x.result) s.sound l;
        results = omega (arith, done, s.results, length-append w.results (x.result ∷ []));
        entered = omega (arith, done, s.entered, length-append w.entered (x.entered ∷ []));
        heads = ap (head_after (first_head batches)) (map-append created_lines w.results (x.result ∷ [])) ∙ head_append (first_head batches) (created_by w.results) (created_lines x.result) ∙ ap (λ h. with_done h (created_lines x.result)) s.heads;
      }

  pub sane_after : (batches : List (List Line)) (tree : Tree (List Value)) → Full batches → (n : ℕ) → Sane batches (at batches tree n)
  sane_after batches tree full zero = record { sound = sound_first batches full; results = sym (first_done batches); entered = sym (first_done batches); heads = refl }
  sane_after batches tree full (suc n) = by_job (sane_after batches tree full n) (next_job (at batches tree n).head) refl
    where
      by_job : Sane batches (at batches tree n) → (o : Option Line) → next_job (at batches tree n).head ≡ o → Sane batches (with_job first (line_by meaning) created_lines (at batches tree n) o)
      by_job s None e = s
      by_job s (Some j) e = sane_ran batches (at batches tree n) (line_by meaning (first + (at batches tree n).head.done) (at batches tree n).tree j) s (slice_get_within (at batches tree n).head.known (at batches tree n).head.done j e)

  -- no more jobs are done than were to be run
  pub done_few : (batches : List (List Line)) (tree : Tree (List Value)) (n : ℕ) → (at batches tree n).head.done ≤ n
  done_few batches tree zero = let none = first_done batches in omega (arith, none)
  done_few batches tree (suc n) = by_job (at batches tree n) (done_few batches tree n) (next_job (at batches tree n).head)
    where
      by_job : (w : Run) → w.head.done ≤ n → (o : Option Line) → (with_job first (line_by meaning) created_lines w o).head.done ≤ suc n
      by_job w l None = omega (arith, l)
      by_job w l (Some j) = let done = with_done_done w.head (created_lines (line_by meaning (first + w.head.done) w.tree j).result) in omega (arith, l, done)

-- ---- with other batches behind

module _ (meaning : Meaning) (first other : ℕ) (tree : Tree (List Value)) (ls bs : List (List Line)) (full : Full ls) where
  abbrev A : ℕ → Run
  A n = at meaning first ls tree n

  abbrev C : ℕ → Run
  C n = at meaning first (ls ++ bs) tree n

  abbrev B : Tree (List Value) → ℕ → Run
  B t m = at meaning other bs t m

  -- the same run, but that the other batches are behind
  abbrev ext : Run → Run
  ext w = record { head = more bs w.head; tree = w.tree; results = w.results; entered = w.entered }

  -- the tickets of what was created, in both runs
  abbrev Tickets : Run → Type 0
  Tickets w = created_tickets first (first_head (ls ++ bs)) (created_by w.results) ≡ created_tickets first (first_head ls) (created_by w.results)

  -- the head of both, after these results
  abbrev Heads : Run → Head Line → Type 0
  Heads w h = head_after (first_head (ls ++ bs)) (created_by w.results) ≡ h

  -- while the first run has jobs, both are as far; then it is over, and the rest is done of the other
  pub data Along (n : ℕ) : Type 0 where
    before : (j : Line) → next_job (A n).head ≡ Some j → (A n).head.done ≡ n → C n ≡ ext (A n) → Tickets (A n) → Heads (A n) (more bs (A n).head) → Along n
    behind : next_job (A n).head ≡ None → (m : ℕ) → m + (A n).head.done ≡ n → C n ≡ joint_progress (A n) (B (A n).tree m) → Tickets (A n) → Heads (A n) (shifted (A n).head (first_head bs)) → Along n

  over_head : (n : ℕ) → next_job (A n).head ≡ None → Over (A n).head
  over_head n e = over_of (A n).head (sane_after meaning first ls tree full n).sound e

  settle : (n : ℕ) → (A n).head.done ≡ n → C n ≡ ext (A n) → Tickets (A n) → Heads (A n) (more bs (A n).head) → Along n
  settle n done same tickets heads = by_job (next_job (A n).head) refl
    where
      by_job : (o : Option Line) → next_job (A n).head ≡ o → Along n
      by_job (Some j) e = before j e done same tickets heads
      by_job None e =
          let s = seam (A n).head (over_head n e) bs in
          behind e 0 (omega (arith, done))
          (same ∙ (λ i. record { head = s i; tree = (A n).tree; results = sym (append-nil (A n).results) i; entered = sym (append-nil (A n).entered) i }))
          tickets (heads ∙ s)

  -- one job more of the first
  module _ (n : ℕ) (j : Line) (e : next_job (A n).head ≡ Some j) where
    w : Run
    w = A n

    abbrev x : Ran (List Value) EventResult
    x = line_by meaning (first + (A n).head.done) (A n).tree j

    abbrev ran : Run
    ran = with_result first (line_by meaning) created_lines (A n) (line_by meaning (first + (A n).head.done) (A n).tree j)

    ran_is : A (suc n) ≡ ran
    ran_is = ap (with_job first (line_by meaning) created_lines (A n)) e

    l : (A n).head.done < length (A n).head.known
    l = slice_get_within (A n).head.known (A n).head.done j e

    is_busy : more bs (A n).head ≡ with_later bs (A n).head
    is_busy = busy (with_later bs (A n).head) l

    sane : Sane meaning first ls (A n)
    sane = sane_after meaning first ls tree full n

    job_same : next_job (more bs (A n).head) ≡ Some j
    job_same = ap next_job is_busy ∙ e

    ext_ran : one_more first (line_by meaning) created_lines (ext (A n)) ≡ ext ran
    ext_ran =
        ap (with_job first (line_by meaning) created_lines (ext (A n))) job_same
        ∙ ap (λ (h : Head Line). with_result first (line_by meaning) created_lines (ext (A n)) (line_by meaning (first + h.done) (A n).tree j)) is_busy
        ∙ (λ i. record { head = more_done bs (A n).head (created_lines x.result) sane.sound l i; tree = x.tree; results = (A n).results ++ x.result ∷ []; entered = (A n).entered ++ x.entered ∷ [] })

    created_push : created_by ran.results ≡ created_by (A n).results ++ created_lines x.result ∷ []
    created_push = map-append created_lines (A n).results (x.result ∷ [])

    heads_ran : Heads (A n) (more bs (A n).head) → Heads ran (more bs ran.head)
    heads_ran h = ap (head_after (first_head (ls ++ bs))) created_push ∙ head_append (first_head (ls ++ bs)) (created_by (A n).results) (created_lines x.result)
        ∙ ap (λ g. with_done g (created_lines x.result)) h ∙ more_done bs (A n).head (created_lines x.result) sane.sound l

    tickets_ran : Tickets (A n) → Heads (A n) (more bs (A n).head) → Tickets ran
    tickets_ran t h =
        ap (created_tickets first (first_head (ls ++ bs))) created_push
        ∙ made_append first (first_head (ls ++ bs)) (created_by (A n).results) (created_lines x.result ∷ [])
        ∙ (λ i. t i ++ tickets_of first ((h ∙ is_busy) i) (created_lines x.result) ∷ [])
        ∙ ap (λ g. created_tickets first (first_head ls) (created_by (A n).results) ++ tickets_of first g (created_lines x.result) ∷ []) (sym sane.heads)
        ∙ sym (made_append first (first_head ls) (created_by (A n).results) (created_lines x.result ∷ []))
        ∙ sym (ap (created_tickets first (first_head ls)) created_push)

    goes_before : (A n).head.done ≡ n → C n ≡ ext (A n) → Tickets (A n) → Heads (A n) (more bs (A n).head) → Along (suc n)
    goes_before done same tickets heads =
        settle (suc n)
        (ap (λ (w : Run). w.head.done) ran_is ∙ with_done_done (A n).head (created_lines x.result) ∙ ap suc done)
        (ap (one_more first (line_by meaning) created_lines) same ∙ ext_ran ∙ sym (ap ext ran_is))
        (subst Tickets (sym ran_is) (tickets_ran tickets heads))
        (subst (λ w. Heads w (more bs w.head)) (sym ran_is) (heads_ran heads))

  -- one job more of the other
  module _ (v : Run) (over : Over v.head) where
    followed_more : (w : Run) → one_more first (line_by meaning) created_lines (joint_progress v w) ≡ joint_progress v (one_more other (line_by meaning) created_lines w)
    followed_more w = by_job (next_job w.head) refl
      where
        by_job : (o : Option Line) → next_job w.head ≡ o → one_more first (line_by meaning) created_lines (joint_progress v w) ≡ joint_progress v (with_job other (line_by meaning) created_lines w o)
        by_job None e = stays meaning first (joint_progress v w) (shifted_job v.head over w.head ∙ e)
        by_job (Some j) e =
            let y = line_by meaning (other + w.head.done) w.tree j in
            ap (with_job first (line_by meaning) created_lines (joint_progress v w)) (shifted_job v.head over w.head ∙ e)
            ∙ ap (with_result first (line_by meaning) created_lines (joint_progress v w)) (any_ticket meaning (first + (v.head.done + w.head.done)) (other + w.head.done) w.tree j)
            ∙ (λ i. record { head = shifted_done v.head over w.head (created_lines y.result) i; tree = y.tree; results = append_assoc v.results w.results (y.result ∷ []) i; entered = append_assoc v.entered w.entered (y.entered ∷ []) i })

  along : (n : ℕ) → Along n
  along zero =
      let s = more_first bs ls full in
      settle 0 (first_done meaning first ls) (λ i. record { head = sym s i; tree = tree; results = []; entered = [] }) refl (sym s)
  along (suc n) = by (along n)
    where
      by : Along n → Along (suc n)
      by (before j e done same tickets heads) = goes_before n j e done same tickets heads
      by (behind e m count same tickets heads) =
          let stay : A (suc n) ≡ A n = stays meaning first (A n) e in
          behind (ap (λ (w : Run). next_job w.head) stay ∙ e) (suc m)
          (ap (λ (w : Run). suc m + w.head.done) stay ∙ one m (A n).head.done ∙ ap suc count)
          (ap (one_more first (line_by meaning) created_lines) same ∙ followed_more (A n) (over_head n e) (B (A n).tree m) ∙ sym (ap (λ (w : Run). joint_progress w (B w.tree (suc m))) stay))
          (subst Tickets (sym stay) tickets)
          (subst (λ w. Heads w (shifted w.head (first_head bs))) (sym stay) heads)
        where
          one : (a b : ℕ) → suc a + b ≡ suc (a + b)
          one a b = omega arith

  -- ---- whole runs

  -- the first run is over after so many jobs, and the other too
  module _ (na nb : ℕ) (ends : next_job (A na).head ≡ None) (other_ends : next_job (B (A na).tree nb).head ≡ None) where
    pub record Joins : Type 0 where
      pub fold : C (na + nb) ≡ joint_progress (A na) (B (A na).tree nb)
      pub tickets : created_tickets first (first_head (ls ++ bs)) (created_by ((A na).results ++ (B (A na).tree nb).results)) ≡ created_tickets first (first_head ls) (created_by (A na).results) ++ created_tickets (first + (A na).head.done) (first_head bs) (created_by (B (A na).tree nb).results)

    abbrev at_end : A (na + nb) ≡ A na
    at_end = ap A (swap na nb) ∙ stays_long meaning first ls tree na nb ends
      where
        swap : (a b : ℕ) → a + b ≡ b + a
        swap a b = omega arith

    joined : Along (na + nb) → Joins
    joined (before j e done same tickets heads) = absurd (none_not (sym (ap (λ (w : Run). next_job w.head) at_end ∙ ends) ∙ e))
    joined (behind e m count same tickets heads) = record {
      fold = same ∙ ap (λ (w : Run). joint_progress w (B w.tree m)) at_end ∙ ap (joint_progress (A na)) rest;
      tickets =
          ap (created_tickets first (first_head (ls ++ bs))) (map-append created_lines (A na).results (B (A na).tree nb).results)
          ∙ made_append first (first_head (ls ++ bs)) (created_by (A na).results) (created_by (B (A na).tree nb).results)
          ∙ (λ i. subst Tickets at_end tickets i ++ created_tickets first (subst (λ w. Heads w (shifted w.head (first_head bs))) at_end heads i) (created_by (B (A na).tree nb).results))
          ∙ ap (λ ts. created_tickets first (first_head ls) (created_by (A na).results) ++ ts) (made_shifted (A na).head (over_head na ends) first (first_head bs) (created_by (B (A na).tree nb).results));
    }
      where
        enough : nb ≤ m
        enough =
            let few = done_few meaning first ls tree na in
            let same_done = ap (λ (w : Run). w.head.done) at_end in
            omega (arith, few, same_done, count)

        split : (a b : ℕ) → b ≤ a → a ≡ (a - b) + b
        split a b l = omega (arith, l)

        rest : B (A na).tree m ≡ B (A na).tree nb
        rest = ap (B (A na).tree) (split m nb enough) ∙ stays_long meaning other bs (A na).tree nb (m - nb) other_ends

    pub joins : Joins
    joins = joined (along (na + nb))

  pub most_both : most_jobs (ls ++ bs) ≡ most_jobs ls + most_jobs bs
  most_both = sum_by-append (sum_by most_of) ls bs
