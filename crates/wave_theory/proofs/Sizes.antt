-- How many labels a run takes: as many as the work of the fold asks for.
use Rattle.std.proofs.Common.{◌≡◌, ℕ, ◌<◌, ◌≤◌, inl, inr, true, Option, Some, None, List, refl, sym, ◌∙◌, ap, subst, arith, ap₂, zero, suc, ◌+◌, ◌⊎◌, Bool, false, [], ◌∷◌, ◌++◌, length}
use Rattle.wave_base.specs.declared.path.Path.{Path}
use Rattle.wave_states.specs.Actors.{Actors}
use Rattle.wave_states.specs.States.{State}
use Rattle.wave_theory.proofs.Basics.{clash, none_not, options}
use Rattle.wave_theory.proofs.Order.{Way, Done, Stage, Entering, Lined, Coming, There}
use Rattle.wave_theory.proofs.Leaves.{Course}
use Rattle.std.specs.Prelude.{All}
use Rattle.wave_states.specs.Begins.{Begin}
use Rattle.wave_states.specs.Kinds.{Kind}
use Rattle.wave_states.specs.Owes.{Owes, IsBegin}
use Rattle.wave_theory.proofs.Courses.{View, view_real, done_at, entered_after}
use Rattle.wave_theory.proofs.GoodStates.{Good_state}
use Rattle.wave_theory.proofs.Order.{Coming}
use Rattle.wave_states.specs.Labels.{Label}
use Rattle.std.specs.Prelude.{◌*◌}
use Rattle.wave_base.specs.Fold.{next_job, with_job, Progress}
use Rattle.wave_states.specs.Actors.{Pause, Go, Down, Over}
use Rattle.wave_states.specs.Alone.{Alone, into, has, goes_on, next_alone, segment_if, segment_alone, after_segments, segments_of, fold_alone, run_alone, job_after}
use Rattle.wave_states.specs.Work.{work_after, work_of_job}
use Rattle.wave_states.specs.Runs.{Finished}
use Rattle.wave_theory.specs.Counted.{Counted, taken_count, size}
use Rattle.wave_theory.proofs.Ways.{Counts, none_yet, next_is}
use Rattle.wave_theory.proofs.Plans.{first_of, last_of, counts}
use Rattle.wave_theory.proofs.Courses.{view_real, View}
use Rattle.wave_theory.proofs.Tallies.{sum_up, sum_to, sum_zero, sum_more, sum_same, sum_less, over_part, full_part, stage_part, progress, over_parts}
use Rattle.wave_theory.proofs.Live
use Rattle.wave_theory.proofs.Plans
use Rattle.wave_theory.proofs.Folds
use Rattle.wave_theory.proofs.Courses
use Rattle.wave_theory.proofs.GoodStates
use Rattle.wave_theory.proofs.Shows
use Rattle.wave_theory.proofs.Told

sum_suc : (n : ℕ) (f : ℕ → ℕ) → sum_to n (λ i. suc (f i)) + n ≡ sum_to n (λ i. 2 + f i)
sum_suc zero f = ap₂ (λ a c. a + c) (sum_zero (λ i. suc (f i))) (sym (sum_zero (λ i. 2 + f i)) ∙ sum_zero (λ i. 2 + f i)) ∙ sym (sum_zero (λ i. 2 + f i))
sum_suc (suc n) f = (let a = sum_suc n f in let c = sum_more n (λ i. suc (f i)) in let d = sum_more n (λ i. 2 + f i) in omega (arith, a, c, d))

part_less : (f o : Bool) (u : Stage) → stage_part f u o ≤ full_part f
part_less true o Entering = omega arith
part_less true o Lined = omega arith
part_less true o Coming = omega arith
part_less true true There = omega arith
part_less true false There = omega arith
part_less true o Done = omega arith
part_less false o Entering = omega arith
part_less false o Lined = omega arith
part_less false o Coming = omega arith
part_less false true There = omega arith
part_less false false There = omega arith
part_less false o Done = omega arith

over_less : (f h : Bool) → over_part f h ≤ full_part f
over_less true true = omega arith
over_less true false = omega arith
over_less false h = omega arith

over_full : (f h : Bool) → h ≡ false → over_part f h ≡ full_part f
over_full true true e = absurd (clash true refl e)
over_full true false e = refl
over_full false h e = refl

-- a path is entered in a segment just where it is fresh
module _ {A F R J : Type 0} (sys : Actors A F R J) where
  abbrev pub one_if : Bool → ℕ
  one_if true = 1
  one_if false = 0

  length_more : (ps : List Path) (q : Path) → length (ps ++ q ∷ []) ≡ length ps + 1
  length_more [] q = refl
  length_more (p ∷ ps) q = (let a = length_more ps q in omega (arith, a))

  next_entered : (y : Alone A F R) → y.result ≡ None → length (next_alone sys y).entered ≡ length y.entered + one_if (next_alone sys y).fresh
  next_entered y e = subst (λ o. length (segment_if sys y o).entered ≡ length y.entered + one_if (segment_if sys y o).fresh) (sym e) (by (segment_alone sys y).pause)
    where
      none_more : (n : ℕ) → n ≡ n + 0
      none_more n = omega arith

      into_it : (st : Rattle.wave_base.specs.declared.path.Step.Step) (peek : Bool) (kept : List Path) (i : Bool) → length (into y (segment_alone sys y).actor (segment_alone sys y).fields (y.at ++ st ∷ []) peek kept i).entered ≡ length y.entered + one_if (into y (segment_alone sys y).actor (segment_alone sys y).fields (y.at ++ st ∷ []) peek kept i).fresh
      into_it st peek kept true = none_more (length y.entered)
      into_it st peek kept false = length_more y.entered (y.at ++ st ∷ [])

      by : (u : Pause R) → length (goes_on sys y (segment_alone sys y).actor (segment_alone sys y).fields u).entered ≡ length y.entered + one_if (goes_on sys y (segment_alone sys y).actor (segment_alone sys y).fields u).fresh
      by (Go st) = into_it st (sys.peeks (segment_alone sys y).actor) _ (has y.held (y.at ++ st ∷ []))
      by (Down st) = into_it st false y.held (has y.held (y.at ++ st ∷ []))
      by Pause.Back = none_more (length y.entered)
      by (Over r) = none_more (length y.entered)

  over_stale : (y : Alone A F R) (r : R) → y.result ≡ None → (next_alone sys y).result ≡ Some r → (next_alone sys y).fresh ≡ false
  over_stale y r e f = subst (λ o. (segment_if sys y o).result ≡ Some r → (segment_if sys y o).fresh ≡ false) (sym e) (by (segment_alone sys y).pause) f
    where
      into_it : (st : Rattle.wave_base.specs.declared.path.Step.Step) (peek : Bool) (kept : List Path) (i : Bool) → (into y (segment_alone sys y).actor (segment_alone sys y).fields (y.at ++ st ∷ []) peek kept i).result ≡ Some r → (into y (segment_alone sys y).actor (segment_alone sys y).fields (y.at ++ st ∷ []) peek kept i).fresh ≡ false
      into_it st peek kept true k = refl
      into_it st peek kept false k = absurd (none_not k)

      by : (u : Pause R) → (goes_on sys y (segment_alone sys y).actor (segment_alone sys y).fields u).result ≡ Some r → (goes_on sys y (segment_alone sys y).actor (segment_alone sys y).fields u).fresh ≡ false
      by (Go st) k = into_it st (sys.peeks (segment_alone sys y).actor) _ (has y.held (y.at ++ st ∷ [])) k
      by (Down st) k = into_it st false y.held (has y.held (y.at ++ st ∷ [])) k
      by Pause.Back k = refl
      by (Over q) k = refl

  -- of a whole run
  module _ (y : Alone A F R) (n : ℕ) (c : Counts sys y (suc n)) (fresh : y.fresh ≡ true) (one : length y.entered ≡ 1) where
    entered_at : (k : ℕ) → k ≤ n → length (after_segments sys (suc k) y).entered ≡ length (after_segments sys k y).entered + one_if (after_segments sys (suc k) y).fresh
    entered_at k l = subst (λ (z : Alone A F R). length z.entered ≡ length (after_segments sys k y).entered + one_if z.fresh) (sym (next_is sys k y)) (next_entered (after_segments sys k y) (c.under k (omega (arith, l))))

    parts_at : (k : ℕ) → k ≤ n → sum_to (suc k) (λ i. full_part (after_segments sys i y).fresh) ≡ 3 * suc k + 2 * length (after_segments sys k y).entered
    parts_at zero l = sum_more 0 (λ i. full_part (after_segments sys i y).fresh) ∙ ap₂ (λ a d. a + d) (sum_zero (λ i. full_part (after_segments sys i y).fresh)) (ap (λ (z : Alone A F R). full_part z.fresh) (none_yet sys y) ∙ ap full_part fresh)
        ∙ sym (ap (λ m. 3 * 1 + 2 * m) (ap (λ (z : Alone A F R). length z.entered) (none_yet sys y) ∙ one))
    parts_at (suc k) l = (let a = parts_at k (omega (arith, l)) in let d = sum_more (suc k) (λ i. full_part (after_segments sys i y).fresh) in let e = entered_at k (omega (arith, l)) in
        by (after_segments sys (suc k) y).fresh refl _ _ _ _ a d e)
      where
        by : (f : Bool) → (after_segments sys (suc k) y).fresh ≡ f → (s s' a a' : ℕ) → s ≡ 3 * suc k + 2 * a → s' ≡ s + full_part (after_segments sys (suc k) y).fresh → a' ≡ a + one_if (after_segments sys (suc k) y).fresh → s' ≡ 3 * suc (suc k) + 2 * a'
        by true z s s' a a' e d u = (let d' : s' ≡ s + 5 = d ∙ ap (λ i. s + full_part i) z in let u' : a' ≡ a + 1 = u ∙ ap (λ i. a + one_if i) z in omega (arith, e, d', u'))
        by false z s s' a a' e d u = (let d' : s' ≡ s + 3 = d ∙ ap (λ i. s + full_part i) z in let u' : a' ≡ a + 0 = u ∙ ap (λ i. a + one_if i) z in omega (arith, e, d', u'))

    pub last_stale : (after_segments sys (suc n) y).fresh ≡ false
    last_stale = ap (λ (z : Alone A F R). z.fresh) (next_is sys n y) ∙ over_stale (after_segments sys n y) c.result (c.under n (omega arith)) (sym (ap (λ (z : Alone A F R). z.result) (next_is sys n y)) ∙ c.ends)

    none_more : (n : ℕ) → n + 0 ≡ n
    none_more n = omega arith

    all_entered : length (after_segments sys n y).entered ≡ length (after_segments sys (suc n) y).entered
    all_entered = sym (entered_at n (omega arith) ∙ ap (λ f. length (after_segments sys n y).entered + one_if f) last_stale ∙ none_more _)

    pub parts : sum_to (suc n) (λ i. full_part (after_segments sys i y).fresh) ≡ 3 * suc n + 2 * length (after_segments sys (suc n) y).entered
    parts = parts_at n (omega arith) ∙ ap (λ m. 3 * suc n + 2 * m) all_entered

    entries_at : (k : ℕ) → k ≤ n → sum_to (suc k) (λ i. one_if (after_segments sys i y).fresh) ≡ length (after_segments sys k y).entered
    entries_at zero l = sum_more 0 (λ i. one_if (after_segments sys i y).fresh) ∙ ap₂ (λ a d. a + d) (sum_zero (λ i. one_if (after_segments sys i y).fresh)) (ap (λ (z : Alone A F R). one_if z.fresh) (none_yet sys y) ∙ ap one_if fresh)
        ∙ sym (ap (λ (z : Alone A F R). length z.entered) (none_yet sys y) ∙ one)
    entries_at (suc k) l = sum_more (suc k) (λ i. one_if (after_segments sys i y).fresh) ∙ ap (λ m. m + one_if (after_segments sys (suc k) y).fresh) (entries_at k (omega (arith, l))) ∙ sym (entered_at k (omega (arith, l)))

    -- so many contexts it enters
    pub entries : sum_to (suc n) (λ i. one_if (after_segments sys i y).fresh) ≡ length (after_segments sys (suc n) y).entered
    entries = entries_at n (omega arith) ∙ all_entered

module _ {A F R J : Type 0} (kind : Kind A F R J) (owes : Owes kind) (b : Begin F) (batches : List (List J)) (begins : IsBegin kind b) (jobs : All (All kind.is_job) batches) where
  abbrev w : Way
  w = Courses.w kind owes b batches begins jobs

  abbrev course : Course kind.system
  course = Courses.course kind owes b batches begins jobs

  abbrev Is_real : ℕ → Type 0
  Is_real = Courses.Real kind owes b batches begins jobs

  abbrev at : ℕ → Progress F R J
  at n = fold_alone kind.system b batches n

  -- the most that a ticket takes, its Admit and its Commit aside
  abbrev full : ℕ → ℕ
  full i = sum_to (suc (w.last (suc b.before + i))) (λ k. full_part (w.fresh (suc b.before + i) k))

  full_is : (i : ℕ) (j : J) → job_after kind.system b batches i ≡ Some j → full i ≡ 3 * segments_of kind.system (suc b.before + i) (at i).tree j + 2 * length (run_alone kind.system (suc b.before + i) (at i).tree j).entered
  full_is i j e = ap (λ (v : View A F R). sum_to (suc v.one.last) (λ k. full_part (v.one.fresh k))) (view_real kind owes b batches begins jobs i j e)
      ∙ parts kind.system (first_of kind owes b batches begins jobs i j) (last_of kind owes b batches begins jobs i j) (counts kind owes b batches begins jobs i j e) refl refl
      ∙ ap₂ (λ a d. 3 * a + 2 * d) (Plans.segments_is kind owes b batches begins jobs i j e) (ap length (sym (entered_after kind owes b batches begins jobs i j e)))

  -- the work of the first jobs
  size_is : (n : ℕ) → size (work_after kind.system b batches n) ≡ sum_to (at n).head.done (λ i. 2 + full i)
  size_is zero = sym (ap (λ d. sum_to d (λ i. 2 + full i)) (Folds.zero_done kind.system b batches) ∙ sum_zero (λ i. 2 + full i))
  size_is (suc n) = elim (options (job_after kind.system b batches n)) [
    | inl e ↦ ap (λ o. size (work_of_job kind.system b batches n (work_after kind.system b batches n) o)) e ∙ size_is n ∙ ap (λ (v : Progress F R J). sum_to v.head.done (λ i. 2 + full i)) (sym (Folds.stays kind.system b batches n e))
    | inr j ↦ more j.0 j.1 (size_is n)
  ]
    where
      more : (j : J) → job_after kind.system b batches n ≡ Some j → size (work_after kind.system b batches n) ≡ sum_to (at n).head.done (λ i. 2 + full i) → size (work_after kind.system b batches (suc n)) ≡ sum_to (at (suc n)).head.done (λ i. 2 + full i)
      more j e h =
          let d : (at n).head.done ≡ n = done_at kind owes b batches begins jobs n j e in
          let d' : (at (suc n)).head.done ≡ suc n = ap (λ (v : Progress F R J). v.head.done) (Told.goes_on kind owes b batches begins jobs n j e) ∙ Folds.with_done_done (at n).head _ ∙ ap suc d in
          ap (λ o. size (work_of_job kind.system b batches n (work_after kind.system b batches n) o)) e
          ∙ plus (work_after kind.system b batches n).tickets (work_after kind.system b batches n).segments (work_after kind.system b batches n).entered (segments_of kind.system (suc b.before + n) (at n).tree j) (length (run_alone kind.system (suc b.before + n) (at n).tree j).entered) (sum_to n (λ i. 2 + full i)) (full n)
          (h ∙ ap (λ m. sum_to m (λ i. 2 + full i)) d) (full_is n j e)
          ∙ sym (sum_more n (λ i. 2 + full i)) ∙ ap (λ m. sum_to m (λ i. 2 + full i)) (sym d')
        where
          plus : (t s e a d u f : ℕ) → 2 * t + 3 * s + 2 * e ≡ u → f ≡ 3 * a + 2 * d → 2 * suc t + 3 * (s + a) + 2 * (e + d) ≡ u + (2 + f)
          plus t s e a d u f x y = omega (arith, x, y)

  done_up : (i m : ℕ) → (at m).head.done ≤ (at (i + m)).head.done
  done_up zero m = subst (λ n. (at m).head.done ≤ (at n).head.done) (let z : m ≡ 0 + m = omega arith in z) (omega arith)
  done_up (suc i) m = (let a = done_up i m in let d = one (i + m) in subst (λ n. (at m).head.done ≤ (at n).head.done) (let z : suc (i + m) ≡ suc i + m = omega arith in z) (omega (arith, a, d)))
    where
      one : (n : ℕ) → (at n).head.done ≤ (at (suc n)).head.done
      one n = by (next_job (at n).head)
        where
          by : (o : Option J) → (at n).head.done ≤ (with_job (suc b.before) (run_alone kind.system) kind.system.created (at n) o).head.done
          by None = omega arith
          by (Some j) = subst (λ m. (at n).head.done ≤ m) (sym (Folds.with_done_done (at n).head _)) (omega arith)

  pub all_below : (n m : ℕ) → job_after kind.system b batches n ≡ None → (at m).head.done ≤ (at n).head.done
  all_below n m e = elim (either m n) [
    | inl i ↦ subst (λ u. (at m).head.done ≤ (at u).head.done) (sym i.1) (done_up i.0 m)
    | inr i ↦ subst (λ u. (at u).head.done ≤ (at n).head.done) (sym i.1) (subst (λ (v : Progress F R J). v.head.done ≤ (at n).head.done) (sym (Live.over_stays kind owes b batches begins jobs n i.0 e)) (omega arith))
  ]
    where
      either : (m n : ℕ) → ((i : ℕ) × (n ≡ i + m)) ⊎ ((i : ℕ) × (m ≡ i + n))
      either zero n = inl (n, omega arith)
      either (suc m) zero = inr (suc m, omega arith)
      either (suc m) (suc n) = elim (either m n) [ inl i ↦ inl (i.0, omega (arith, i.1)) | inr i ↦ inr (i.0, omega (arith, i.1)) ]

  module _ (s : State A F R J) (labels : List Rattle.wave_states.specs.Labels.Label) (r : GoodStates.Goes kind owes b batches begins jobs s (taken_count labels)) where
    abbrev k : Good_state kind owes b batches begins jobs s
    k = r.good

    x : Shows.Shows kind.system w course b.before Is_real s (r.good).ghost
    x = (r.good).shows

    abbrev g : Shows.Ghost F
    g = (r.good).ghost

    -- no ticket takes more
    most : (t : ℕ) → b.before < t → t ≤ (g).lines.admitted → progress kind.system w course b.before Is_real g t ≤ suc (sum_to (suc (w.last t)) (λ i. full_part (w.fresh t i)))
    most t l m = elim (Live.stage_cases kind owes b batches begins jobs s k ((g).lines.stage t)) [
      | inl e ↦ (let p : (g).lines.pos t ≡ suc (w.last t) = x.good.ended t m e in let a = sums (suc (w.last t)) in
          one_more _ _ _ (subst (λ n. sum_to n (over_parts kind.system w course b.before Is_real g t) ≤ sum_to (suc (w.last t)) (λ i. full_part (w.fresh t i))) (sym p) a) (ap (λ u. stage_part (w.fresh t ((g).lines.pos t)) u ((g).out t)) e))
      | inr e ↦ (let p : (g).lines.pos t ≤ w.last t = x.good.going t m e in let a = sums ((g).lines.pos t) in let d = sum_more ((g).lines.pos t) (λ i. full_part (w.fresh t i)) in let u = sum_up (suc ((g).lines.pos t)) (suc (w.last t)) (λ i. full_part (w.fresh t i)) (omega (arith, p)) in
          let v = part_less (w.fresh t ((g).lines.pos t)) ((g).out t) ((g).lines.stage t) in more_to _ _ _ _ _ _ a d u v)
    ]
      where
        sums : (n : ℕ) → sum_to n (over_parts kind.system w course b.before Is_real g t) ≤ sum_to n (λ i. full_part (w.fresh t i))
        sums n = sum_less n (over_parts kind.system w course b.before Is_real g t) (λ i. full_part (w.fresh t i)) (λ i l. over_less (w.fresh t i) ((g).lines.holds (w.place t i) t))

        one_more : (a d p : ℕ) → a ≤ d → p ≡ 0 → suc (a + p) ≤ suc d
        one_more a d p l e = omega (arith, l, e)

        more_to : (a f d n p q : ℕ) → a ≤ f → n ≡ f + q → n ≤ d → p ≤ q → suc (a + p) ≤ suc d
        more_to a f d n p q l e m v = omega (arith, l, e, m, v)

    job_at : (i : ℕ) → i < s.admitted → (j : J) × (job_after kind.system b batches i ≡ Some j)
    job_at i l = (let y = (x.cells (suc b.before + i) (omega arith) (omega (arith, l, x.admitted))).real in (y.job, subst (λ n. job_after kind.system b batches n ≡ Some y.job) (same_index b.before i y.index y.ticket_is) y.job_is))
      where
        same_index : (a i j : ℕ) → suc a + i ≡ suc a + j → j ≡ i
        same_index a i j e = omega (arith, e)

    admitted_below : (n : ℕ) → job_after kind.system b batches n ≡ None → s.admitted ≤ (at n).head.done
    admitted_below n e = by s.admitted job_at
      where
        by : (m : ℕ) → ((i : ℕ) → i < m → (j : J) × (job_after kind.system b batches i ≡ Some j)) → m ≤ (at n).head.done
        by zero f = omega arith
        by (suc m) f =
            let j = f m (omega arith) in
            let d : (at (suc m)).head.done ≡ suc m = ap (λ (v : Progress F R J). v.head.done) (Told.goes_on kind owes b batches begins jobs m j.0 j.1) ∙ Folds.with_done_done (at m).head _ ∙ ap suc (done_at kind owes b batches begins jobs m j.0 j.1) in
            subst (λ i. i ≤ (at n).head.done) d (all_below n (suc m) e)

    pub counted : (workers : ℕ) → 0 < workers → Counted kind workers b batches labels s
    counted workers some_worker = record {
      within = λ n e.
          let a : sum_to s.admitted (λ i. (k).tally (suc b.before + i)) ≤ sum_to s.admitted (λ i. suc (full i)) = sum_less s.admitted _ _ (λ i l. let lt : b.before < suc b.before + i = omega arith in let la : suc b.before + i ≤ (g).lines.admitted = omega (arith, l, x.admitted) in
          subst (λ u. u ≤ suc (full i)) (sym ((k).tallied.counted (suc b.before + i) lt la)) (most (suc b.before + i) lt la)) in
          let d = sum_suc s.admitted full in
          let u = sum_up s.admitted (at n).head.done (λ i. 2 + full i) (admitted_below n e) in
          at_most _ _ _ _ _ _ _ _ r.counts (size_is n) a d u ((k).heads.few);
      exactly = λ fin.
          let z = Live.admitted_is kind owes b batches begins jobs s k workers some_worker fin in
          let n : s.admitted ≡ s.head.done = (let y = x.admitted in same_admitted b.before s.admitted s.head.done (sym y ∙ z)) in
          let a : sum_to s.admitted (λ i. (k).tally (suc b.before + i)) ≡ sum_to s.admitted (λ i. suc (full i)) = sum_same s.admitted _ _ (λ i l. let lt : b.before < suc b.before + i = omega arith in let la : suc b.before + i ≤ (g).lines.admitted = omega (arith, l, x.admitted) in
          (k).tallied.counted (suc b.before + i) lt la ∙ all_of workers some_worker fin (suc b.before + i) la) in
          sym r.counts ∙ ap₂ (λ p q. p + q) a (sym n) ∙ sum_suc s.admitted full ∙ ap (λ m. sum_to m (λ i. 2 + full i)) (n ∙ Live.done_is kind owes b batches begins jobs s k workers some_worker fin) ∙ sym (size_is s.head.done);
    }
      where
        at_most : (t c a u v q d adm : ℕ) → c + d ≡ t → v ≡ u → c ≤ a → a + adm ≡ q → q ≤ u → d ≤ adm → t ≤ v
        at_most t c a u v q d adm e f l m n o = omega (arith, e, f, l, m, n, o)

        same_admitted : (a m d : ℕ) → a + m ≡ a + d → m ≡ d
        same_admitted a m d e = omega (arith, e)

        all_of : (workers : ℕ) (some_worker : 0 < workers) (fin : Finished kind.system workers s) (t : ℕ) → t ≤ (g).lines.admitted → progress kind.system w course b.before Is_real g t ≡ suc (sum_to (suc (w.last t)) (λ i. full_part (w.fresh t i)))
        all_of workers some_worker fin t m =
            let e = Live.stage_done kind owes b batches begins jobs s k workers some_worker fin t m in
            let p : (g).lines.pos t ≡ suc (w.last t) = x.good.ended t m e in
            ap suc (ap₂ (λ i j. i + j) (ap (λ n. sum_to n (over_parts kind.system w course b.before Is_real g t)) p ∙ sum_same (suc (w.last t)) (over_parts kind.system w course b.before Is_real g t) (λ i. full_part (w.fresh t i)) (λ i l. over_full (w.fresh t i) ((g).lines.holds (w.place t i) t) (off_is _ (Live.unheld kind owes b batches begins jobs s k workers some_worker fin (w.place t i) t))))
            (ap (λ u. stage_part (w.fresh t ((g).lines.pos t)) u ((g).out t)) e) ∙ none_more _)
          where
            off_is : (o : Bool) → (o ≡ true → ⊥) → o ≡ false
            off_is true n = absurd (n refl)
            off_is false n = refl

            none_more : (n : ℕ) → n + 0 ≡ n
            none_more n = omega arith
