-- Where the fold has each context, and how often it moved it.
use Rattle.std.proofs.Common.{◌≡◌, ◌≢◌, ℕ, zero, suc, ◌+◌, ◌≤◌, ◌||◌, ◌&&◌, not, nat_eq, inl, inr, Bool, true, false, Option, Some, None, List, [], ◌∷◌, ◌++◌, length, refl, sym, ◌∙◌, ap, ap₂, subst, arith}
use Rattle.std.specs.Prelude.{All, if◌then◌else◌}
use Rattle.std.specs.List.{list_any}
use Rattle.std.proofs.lemmas.List.{append_assoc}
use Rattle.wave_base.specs.declared.path.Path.{Path}
use Rattle.wave_base.specs.Paths.{path_eq, parent_of}
use Rattle.wave_base.specs.Tree.{Tree, there}
use Rattle.wave_base.specs.Fold.{Progress, Ran, next_job, with_job}
use Rattle.wave_base.specs.Places.{with_contexts, with_move, places_after}
use Rattle.wave_states.specs.Actors.{Pause, Go, Down, Over}
use Rattle.wave_states.specs.Begins.{Begin, has_moved}
use Rattle.wave_states.specs.Kinds.{Kind}
use Rattle.wave_states.specs.Owes.{Owes, IsBegin}
use Rattle.wave_states.specs.Alone.{Alone, after_segments, fold_alone, run_alone, job_after, moves_in, places_alone}
use Rattle.wave_states.specs.Work.{moves_away, work_after, work_of_job}
use Rattle.wave_theory.proofs.Basics.{clash, options, bool_cases, path_cases, path_self}
use Rattle.wave_theory.proofs.Order.{Way, IsWay, visits, rank}
use Rattle.wave_theory.proofs.Ranks.{rank_in, rank_out, rank_up_to}
use Rattle.wave_theory.proofs.Paths.{or_right}
use Rattle.wave_theory.proofs.Leaves.{Course, Follows}
use Rattle.wave_theory.proofs.Courses.{view_real, View, entered_after}
use Rattle.wave_theory.proofs.Courses
use Rattle.wave_theory.proofs.Ways.{next_is}
use Rattle.wave_theory.proofs.Plans.{first_of, last_of, counts}
use Rattle.wave_theory.proofs.Tallies.{sum_to, sum_zero, sum_more, sum_less, sum_up}
use Rattle.wave_theory.proofs.Folds
use Rattle.wave_theory.proofs.Told
use Rattle.wave_theory.proofs.GoodStates
use Rattle.wave_theory.proofs.Places.{after_append, all_there, new_beside, off_same, old_same, shift_by, shift_few}
use Rattle.wave_theory.proofs.Places

module _ {A F R J : Type 0} (kind : Kind A F R J) (owes : Owes kind) (b : Begin F) (batches : List (List J)) (begins : IsBegin kind b) (jobs : All (All kind.is_job) batches) where
  abbrev w : Way
  w = Courses.w kind owes b batches begins jobs

  abbrev course : Course kind.system
  course = Courses.course kind owes b batches begins jobs

  law : IsWay w
  law = Courses.law kind owes b batches begins jobs

  abbrev Is_real : ℕ → Type 0
  Is_real = Courses.Real kind owes b batches begins jobs

  abbrev pub at : ℕ → Progress F R J
  at n = fold_alone kind.system b batches n

  abbrev pub ran : ℕ → J → Ran F R
  ran i j = run_alone kind.system (suc b.before + i) (at i).tree j

  abbrev pub places : ℕ → Tree ℕ
  places i = places_alone kind.system b batches i

  as_many : (n : ℕ) → length (at n).entered ≡ length (at n).results
  as_many zero = refl
  as_many (suc n) = by (next_job (at n).head) (as_many n)
    where
      longer : {X : Type 0} (xs : List X) (x : X) → length (xs ++ x ∷ []) ≡ suc (length xs)
      longer [] x = refl
      longer (y ∷ xs) x = ap suc (longer xs x)

      by : (o : Option J) → length (at n).entered ≡ length (at n).results → length (with_job (suc b.before) (run_alone kind.system) kind.system.created (at n) o).entered ≡ length (with_job (suc b.before) (run_alone kind.system) kind.system.created (at n) o).results
      by None e = e
      by (Some j) e = longer (at n).entered _ ∙ ap suc e ∙ sym (longer (at n).results _)

  abbrev pub entered_by : ℕ → Option J → List Path
  entered_by i None = []
  entered_by i (Some j) = (ran i j).entered

  abbrev pub move_by : ℕ → Option J → Option (Path × ℕ)
  move_by i None = None
  move_by i (Some j) = kind.system.moved (ran i j).result

  -- where the job after i others finds or makes the contexts, and whether it sends one elsewhere
  abbrev pub grown : ℕ → Tree ℕ
  grown i = with_contexts (places i) (entered_by i (job_after kind.system b batches i))

  abbrev pub shift : Path → ℕ → ℕ
  shift p i = shift_by (grown i) (move_by i (job_after kind.system b batches i)) p

  pub places_next : (i : ℕ) → places (suc i) ≡ with_move (grown i) (move_by i (job_after kind.system b batches i))
  places_next i = elim (options (job_after kind.system b batches i)) [
    | inl e ↦ ap (λ (v : Progress F R J). places_after b.places (moves_in kind.system b batches v.entered v.results)) (Folds.stays kind.system b batches i e) ∙ sym (ap (λ o. with_move (with_contexts (places i) (entered_by i o)) (move_by i o)) e)
    | inr j ↦ ap (λ (v : Progress F R J). places_after b.places (moves_in kind.system b batches v.entered v.results)) (Told.goes_on kind owes b batches begins jobs i j.0 j.1)
        ∙ ap (places_after b.places) (Places.moves_append kind.system (at i).entered (at i).results (ran i j.0).entered (ran i j.0).result (as_many i) b batches) ∙ after_append (moves_in kind.system b batches (at i).entered (at i).results) ((ran i j.0).entered, kind.system.moved (ran i j.0).result) b.places
        ∙ sym (ap (λ o. with_move (with_contexts (places i) (entered_by i o)) (move_by i o)) j.1)
  ]

  -- so often the context was sent on in the first jobs
  abbrev pub shifts : Path → ℕ → ℕ
  shifts p i = (if has_moved b p then 1 else 0) + sum_to i (shift p)

  -- the host, and how often it was sent on
  abbrev pub Sits : ℕ × ℕ → ℕ → Path → Type 0
  Sits x i p = (x.0 ≡ (places i).fields p) × (x.1 ≡ shifts p i)

  -- while the job after i others runs
  abbrev pub Stands : ℕ × ℕ → ℕ → Path → Type 0
  Stands x i p = (x.0 ≡ (grown i).fields p) × (x.1 ≡ shifts p i)

  pub shifts_next : (i : ℕ) (p : Path) → shifts p (suc i) ≡ shifts p i + shift p i
  shifts_next i p = (let z = sum_more i (shift p) in plus _ _ _ _ z)
    where
      plus : (a s t c : ℕ) → t ≡ s + c → a + t ≡ (a + s) + c
      plus a s t c e = omega (arith, e)

  -- the ticket comes to a context where its run enters it
  pub comes_is : (i : ℕ) (j : J) (p : Path) → job_after kind.system b batches i ≡ Some j → visits w (suc b.before + i) p ≡ list_any (path_eq p) (ran i j).entered
  comes_is i j p e = Told.visits_is kind owes b batches begins jobs i j p e

  -- a job moves the context of its last segment alone
  module _ (i : ℕ) (j : J) (e : job_after kind.system b batches i ≡ Some j) where
    abbrev t : ℕ
    t = suc b.before + i

    real : Is_real t
    real = record { index = i; job = j; ticket_is = refl; job_is = e }

    last_same : w.last t ≡ last_of kind owes b batches begins jobs i j
    last_same = ap (λ (v : View A F R). v.one.last) (view_real kind owes b batches begins jobs i j e)

    pub result_is : (k : ℕ) (r : R) → k ≤ w.last t → course.result t (suc k) ≡ Some r → (ran i j).result ≡ r
    result_is k r l c = (GoodStates.fold_result kind owes b batches begins jobs i j (suc k) r e (subst (λ n. suc k ≤ suc n) last_same (omega (arith, l))) (sym (ap (λ (v : View A F R). v.result (suc k)) (view_real kind owes b batches begins jobs i j e)) ∙ c)).0

    pub moves_last : (q : Path) (h : ℕ) → kind.system.moved (ran i j).result ≡ Some (q, h) → q ≡ w.place t (w.last t)
    moves_last q h m = by _ seg.follows
      where
        seg : Rattle.wave_theory.proofs.Leaves.Segment kind.system w course t (w.last t)
        seg = (Courses.courses kind owes b batches begins jobs).segment t (w.last t) real (omega arith)

        past : (n : ℕ) → suc n ≤ n → ⊥
        past n l = omega arith

        by : (u : Pause R) → Follows kind.system w course t (w.last t) (kind.system.segment seg.actor (course.leaf t (w.last t) (w.place t (w.last t))).0 (course.leaf t (w.last t) (w.place t (w.last t))).1) u → q ≡ w.place t (w.last t)
        by (Go s) f = absurd (past (w.last t) f.more)
        by (Down s) f = absurd (past (w.last t) f.more)
        by Pause.Back f = absurd (past (w.last t) f.more)
        by (Over r) f = (f.moves q h (ap kind.system.moved (sym (result_is (w.last t) r (omega arith) f.result_is)) ∙ m)).0

    pub comes_last : visits w t (w.place t (w.last t)) ≡ true
    comes_last = Rattle.wave_theory.proofs.Ranks.comes law t (w.last t) (w.place t (w.last t)) (omega arith) (law.held_entered t (w.last t) (w.place t (w.last t)) (law.at_held t (w.last t) (omega arith)))

    -- elsewhere its end changes nothing
    pub elsewhere : (p : Path) → ((h : ℕ) → kind.system.moved (ran i j).result ≡ Some (p, h) → ⊥) → ((places (suc i)).fields p ≡ (grown i).fields p) × (shift p i ≡ 0)
    elsewhere p n = (ap (λ (v : Tree ℕ). v.fields p) (places_next i) ∙ ap (λ o. (with_move (grown i) (move_by i o)).fields p) e ∙ stays (kind.system.moved (ran i j).result) refl, ap (λ o. shift_by (grown i) (move_by i o) p) e ∙ none (kind.system.moved (ran i j).result) refl)
      where
        apart : (x : Path × ℕ) → kind.system.moved (ran i j).result ≡ Some x → path_eq x.0 p ≡ false
        apart x m = elim (path_cases x.0 p) [ inr d ↦ d | inl d ↦ absurd (n x.1 (m ∙ ap Some (λ k. (d k, x.1)))) ]

        stays : (m : Option (Path × ℕ)) → kind.system.moved (ran i j).result ≡ m → (with_move (grown i) m).fields p ≡ (grown i).fields p
        stays None m = refl
        stays (Some x) m = rw (apart x m) refl

        none : (m : Option (Path × ℕ)) → kind.system.moved (ran i j).result ≡ m → shift_by (grown i) m p ≡ 0
        none None m = refl
        none (Some x) m = rw (apart x m) refl

    -- where it moves its context
    pub moved_there : (p : Path) (h : ℕ) → kind.system.moved (ran i j).result ≡ Some (p, h) → ((places (suc i)).fields p ≡ h) × (shift p i ≡ (if nat_eq ((grown i).fields p) h then 0 else 1))
    moved_there p h m = (
      ap (λ (v : Tree ℕ). v.fields p) (places_next i) ∙ ap (λ o. (with_move (grown i) (move_by i o)).fields p) e ∙ ap (λ o. (with_move (grown i) o).fields p) m ∙ rw (path_self p) refl,
      ap (λ o. shift_by (grown i) (move_by i o) p) e ∙ ap (λ o. shift_by (grown i) o p) m ∙ ap (λ u. if u && not (nat_eq ((grown i).fields p) h) then 1 else 0) (path_self p) ∙ flip (nat_eq ((grown i).fields p) h),
    )
      where
        flip : (u : Bool) → ◌≡◌ {A = ℕ} (if true && not u then 1 else 0) (if u then 0 else 1)
        flip true = refl
        flip false = refl

    -- a context that it makes is where its parent is
    pub made_beside : (k : ℕ) (q : Path) → suc k ≤ w.last t → w.fresh t (suc k) ≡ true → w.place t (suc k) ≡ q → there (places i) q ≡ false → (grown i).fields q ≡ (grown i).fields (parent_of q)
    made_beside k q l f pl none =
        let x : Alone A F R = first_of kind owes b batches begins jobs i j in
        let v = view_real kind owes b batches begins jobs i j e in
        let c = counts kind owes b batches begins jobs i j e in
        let l' : suc k ≤ last_of kind owes b batches begins jobs i j = subst (λ n. suc k ≤ n) last_same l in
        let at_is : (after_segments kind.system (suc k) x).at ≡ q = sym (ap (λ (u : View A F R). u.one.place (suc k)) v) ∙ pl in
        let es : (after_segments kind.system (suc k) x).entered ≡ (after_segments kind.system k x).entered ++ q ∷ [] = ap (λ (y : Alone A F R). y.entered) (next_is kind.system k x)
        ∙ Places.fresh_step kind.system (after_segments kind.system k x) (c.under k (omega (arith, l'))) (sym (ap (λ (y : Alone A F R). y.fresh) (next_is kind.system k x)) ∙ sym (ap (λ (u : View A F R). u.one.fresh (suc k)) v) ∙ f)
        ∙ ap (λ r. (after_segments kind.system k x).entered ++ r ∷ []) (sym (ap (λ (y : Alone A F R). y.at) (next_is kind.system k x)) ∙ at_is) in
        let d = difference (suc k) (suc (last_of kind owes b batches begins jobs i j)) (omega (arith, l')) in
        let z = Places.entered_later kind.system d.0 (suc k) x in
        let all : (ran i j).entered ≡ (after_segments kind.system k x).entered ++ q ∷ z.0 = entered_after kind owes b batches begins jobs i j e ∙ ap (λ n. (after_segments kind.system n x).entered) d.1 ∙ z.1 ∙ ap (λ ps. ps ++ z.0) es ∙ append_assoc (after_segments kind.system k x).entered (q ∷ []) z.0 in
        let off : list_any (path_eq q) (after_segments kind.system k x).entered ≡ false = sym (ap (λ (u : View A F R). u.one.entered k q) v) ∙ subst (λ r. w.entered t k r ≡ false) pl (law.once t k l f) in
        let on : list_any (path_eq (parent_of q)) (after_segments kind.system k x).entered ≡ true = sym (ap (λ (u : View A F R). u.one.entered k (parent_of q)) v) ∙ subst (λ r. w.entered t k r ≡ true) (sym (law.below t k l f) ∙ ap parent_of pl) (law.held_entered t k (w.place t k) (law.at_held t k (omega (arith, l)))) in
        ap (λ o. (with_contexts (places i) (entered_by i o)).fields q) e ∙ ap (λ ps. (with_contexts (places i) ps).fields q) all
        ∙ new_beside (after_segments kind.system k x).entered z.0 (places i) q none off on
        ∙ sym (ap (λ ps. (with_contexts (places i) ps).fields (parent_of q)) all) ∙ sym (ap (λ o. (with_contexts (places i) (entered_by i o)).fields (parent_of q)) e)
      where
        difference : (a n : ℕ) → a ≤ n → (d : ℕ) × (n ≡ d + a)
        difference zero n l = (n, omega arith)
        difference (suc a) zero l = absurd (omega (arith, l))
        difference (suc a) (suc n) l = (let r = difference a n (omega (arith, l)) in (r.0, omega (arith, r.1)))

  -- what was there
  pub grown_old : (i : ℕ) (p : Path) → there (places i) p ≡ true → (grown i).fields p ≡ (places i).fields p
  grown_old i p e = old_same (entered_by i (job_after kind.system b batches i)) (places i) p e

  move_there : (t : Tree ℕ) (m : Option (Path × ℕ)) (p : Path) → there (with_move t m) p ≡ there t p
  move_there t None p = refl
  move_there t (Some x) p = refl

  pub there_next : (i : ℕ) (p : Path) → there (places (suc i)) p ≡ (there (places i) p || list_any (path_eq p) (entered_by i (job_after kind.system b batches i)))
  there_next i p = ap (λ (v : Tree ℕ). there v p) (places_next i) ∙ move_there (grown i) (move_by i (job_after kind.system b batches i)) p ∙ all_there (entered_by i (job_after kind.system b batches i)) (places i) p

  pub there_later : (d i : ℕ) (p : Path) → there (places i) p ≡ true → there (places (d + i)) p ≡ true
  there_later zero i p e = subst (λ n. there (places n) p ≡ true) (let z : i ≡ 0 + i = omega arith in z) e
  there_later (suc d) i p e = subst (λ n. there (places n) p ≡ true) (let z : suc (d + i) ≡ suc d + i = omega arith in z) (there_next (d + i) p ∙ ap (λ u. u || list_any (path_eq p) (entered_by (d + i) (job_after kind.system b batches (d + i)))) (there_later d i p e))

  -- what a job enters is there after it
  pub there_entered : (i : ℕ) (j : J) (p : Path) → job_after kind.system b batches i ≡ Some j → visits w (suc b.before + i) p ≡ true → there (places (suc i)) p ≡ true
  there_entered i j p e v = there_next i p ∙ or_right (there (places i) p) _ (ap (λ o. list_any (path_eq p) (entered_by i o)) e ∙ sym (comes_is i j p e) ∙ v)

  -- a job that doesn't come to the context leaves it
  none_comes : (i : ℕ) (p : Path) → visits w (suc b.before + i) p ≡ false → list_any (path_eq p) (entered_by i (job_after kind.system b batches i)) ≡ false
  none_comes i p v = elim (options (job_after kind.system b batches i)) [
    | inl e ↦ ap (λ o. list_any (path_eq p) (entered_by i o)) e
    | inr j ↦ ap (λ o. list_any (path_eq p) (entered_by i o)) j.1 ∙ sym (comes_is i j.0 p j.1) ∙ v
  ]

  passed_by : (i : ℕ) (p : Path) → visits w (suc b.before + i) p ≡ false → ((places (suc i)).fields p ≡ (places i).fields p) × (shift p i ≡ 0)
  passed_by i p v = elim (options (job_after kind.system b batches i)) [
    | inl e ↦ (ap (λ (u : Tree ℕ). u.fields p) (places_next i) ∙ ap (λ o. (with_move (with_contexts (places i) (entered_by i o)) (move_by i o)).fields p) e, ap (λ o. shift_by (grown i) (move_by i o) p) e)
    | inr j ↦ (let s = elsewhere i j.0 j.1 p (λ h m. clash _ (subst (λ q. visits w (suc b.before + i) q ≡ true) (sym (moves_last i j.0 j.1 p h m)) (comes_last i j.0 j.1)) v) in
        (s.0 ∙ off_same (entered_by i (job_after kind.system b batches i)) (places i) p (none_comes i p v), s.1))
  ]

  -- from one job to a later one, where no ticket between comes to the context
  pub between : (d a : ℕ) (p : Path) → rank w p (b.before + (d + a)) ≡ rank w p (b.before + a) → ((places (d + a)).fields p ≡ (places a).fields p) × (shifts p (d + a) ≡ shifts p a) × (there (places (d + a)) p ≡ there (places a) p)
  between zero a p e = (let z : 0 + a ≡ a = omega arith in (ap (λ n. (places n).fields p) z, ap (shifts p) z, ap (λ n. there (places n) p) z))
  between (suc d) a p e = (let z : suc d + a ≡ suc (d + a) = omega arith in
      let y : b.before + (suc d + a) ≡ suc (b.before + (d + a)) = omega arith in
      let y' : suc (b.before + (d + a)) ≡ suc b.before + (d + a) = omega arith in
      let up : rank w p (b.before + a) ≤ rank w p (b.before + (d + a)) = rank_up_to w p (b.before + a) (b.before + (d + a)) (omega arith) in
      let off : visits w (suc (b.before + (d + a))) p ≡ false = elim (bool_cases (visits w (suc (b.before + (d + a))) p)) [
        | inr v ↦ v
        | inl v ↦ absurd (let r = rank_in w p (b.before + (d + a)) v in let e' : rank w p (suc (b.before + (d + a))) ≡ rank w p (b.before + a) = sym (ap (rank w p) y) ∙ e in above _ _ _ e' r up)
      ] in
      let off' : visits w (suc b.before + (d + a)) p ≡ false = subst (λ n. visits w n p ≡ false) y' off in
      let r = between d a p (sym (rank_out w p (b.before + (d + a)) off) ∙ sym (ap (rank w p) y) ∙ e) in
      let s = passed_by (d + a) p off' in (
        ap (λ n. (places n).fields p) z ∙ s.0 ∙ r.0,
        ap (shifts p) z ∙ shifts_next (d + a) p ∙ ap (λ n. shifts p (d + a) + n) s.1 ∙ none_more (shifts p (d + a)) ∙ r.1,
        ap (λ n. there (places n) p) z ∙ there_next (d + a) p ∙ ap (λ u. there (places (d + a)) p || u) (none_comes (d + a) p off') ∙ or_none (there (places (d + a)) p) ∙ r.2,
      ))
    where
      above : (c r u : ℕ) → c ≡ u → c ≡ suc r → u ≤ r → ⊥
      above c r u e f l = omega (arith, e, f, l)

      none_more : (n : ℕ) → n + 0 ≡ n
      none_more n = omega arith

      or_none : (u : Bool) → (u || false) ≡ u
      or_none u = grind arith

  -- a context that isn't there was never sent on
  pub unmoved : (i : ℕ) (p : Path) → p ≢ [] → there (places i) p ≡ false → shifts p i ≡ 0
  unmoved zero p n e = ap (λ u. (if u then 1 else 0) + sum_to 0 (shift p)) (not_root p n) ∙ ap (λ u. 0 + u) (sum_zero (shift p))
    where
      not_root : (p : Path) → p ≢ [] → has_moved b p ≡ false
      not_root [] n = absurd (n refl)
      not_root (s ∷ q) n = refl
  unmoved (suc i) p n e = (let z : (there (places i) p || list_any (path_eq p) (entered_by i (job_after kind.system b batches i))) ≡ false = sym (there_next i p) ∙ e in
      shifts_next i p ∙ ap₂ (λ a c. a + c) (unmoved i p n (first_off _ _ z)) (elim (options (job_after kind.system b batches i)) [
        | inl o ↦ ap (λ u. shift_by (grown i) (move_by i u) p) o
        | inr j ↦ (elsewhere i j.0 j.1 p (λ h m. clash _ (subst (λ q. visits w (suc b.before + i) q ≡ true) (sym (moves_last i j.0 j.1 p h m)) (comes_last i j.0 j.1)) (comes_is i j.0 p j.1 ∙ sym (ap (λ u. list_any (path_eq p) (entered_by i u)) j.1) ∙ second_off _ _ z))).1
      ]))
    where
      first_off : (a c : Bool) → (a || c) ≡ false → a ≡ false
      first_off a c e = grind arith

      second_off : (a c : Bool) → (a || c) ≡ false → c ≡ false
      second_off a c e = grind arith

  -- what only looks moves nothing
  pub looking_stays : (i : ℕ) (j : J) (e : job_after kind.system b batches i ≡ Some j) → w.looks (suc b.before + i) (w.place (suc b.before + i) (w.last (suc b.before + i))) ≡ true → kind.system.moved (ran i j).result ≡ None
  looking_stays i j e on = by _ seg.follows
    where
      seg : Rattle.wave_theory.proofs.Leaves.Segment kind.system w course (suc b.before + i) (w.last (suc b.before + i))
      seg = (Courses.courses kind owes b batches begins jobs).segment (suc b.before + i) (w.last (suc b.before + i)) (real i j e) (omega arith)

      past : (n : ℕ) → suc n ≤ n → ⊥
      past n l = omega arith

      by : (u : Pause R) → Follows kind.system w course (suc b.before + i) (w.last (suc b.before + i)) (kind.system.segment seg.actor (course.leaf (suc b.before + i) (w.last (suc b.before + i)) (w.place (suc b.before + i) (w.last (suc b.before + i)))).0 (course.leaf (suc b.before + i) (w.last (suc b.before + i)) (w.place (suc b.before + i) (w.last (suc b.before + i)))).1) u → kind.system.moved (ran i j).result ≡ None
      by (Go s) f = absurd (past (w.last (suc b.before + i)) f.more)
      by (Down s) f = absurd (past (w.last (suc b.before + i)) f.more)
      by Pause.Back f = absurd (past (w.last (suc b.before + i)) f.more)
      by (Over r) f = ap kind.system.moved (result_is i j e (w.last (suc b.before + i)) r (omega arith) f.result_is) ∙ f.looking on

  -- the moves of the first jobs
  pub moves_is : (n : ℕ) → (work_after kind.system b batches n).moves ≡ sum_to n (λ i. moves_away (grown i) (move_by i (job_after kind.system b batches i)))
  moves_is zero = sym (sum_zero (λ i. moves_away (grown i) (move_by i (job_after kind.system b batches i))))
  moves_is (suc n) = by (moves_is n) (job_after kind.system b batches n) ∙ sym (sum_more n (λ i. moves_away (grown i) (move_by i (job_after kind.system b batches i))))
    where
      none_more : (m : ℕ) → m ≡ m + 0
      none_more m = omega arith

      by : (work_after kind.system b batches n).moves ≡ sum_to n (λ i. moves_away (grown i) (move_by i (job_after kind.system b batches i))) → (o : Option J) → (work_of_job kind.system b batches n (work_after kind.system b batches n) o).moves ≡ sum_to n (λ i. moves_away (grown i) (move_by i (job_after kind.system b batches i))) + moves_away (with_contexts (places n) (entered_by n o)) (move_by n o)
      by h None = h ∙ none_more _
      by h (Some j) = ap (λ m. m + moves_away (with_contexts (places n) (ran n j).entered) (kind.system.moved (ran n j).result)) h

  -- no context is sent on more often
  pub shifts_few : (n m : ℕ) (p : Path) → m ≤ n → shifts p m ≤ (work_after kind.system b batches n).moves + (if has_moved b [] then 1 else 0)
  shifts_few n m p l = (let a = sum_less m (shift p) (λ i. moves_away (grown i) (move_by i (job_after kind.system b batches i))) (λ i k. shift_few (grown i) (move_by i (job_after kind.system b batches i)) p) in
      let c = sum_up m n (λ i. moves_away (grown i) (move_by i (job_after kind.system b batches i))) l in add _ _ _ _ _ _ (root p) a c (moves_is n))
    where
      add : (r r' s t u w : ℕ) → r ≤ r' → s ≤ t → t ≤ u → w ≡ u → r + s ≤ w + r'
      add r r' s t u w l m k e = omega (arith, l, m, k, e)

      root : (p : Path) → (if has_moved b p then 1 else 0) ≤ (if has_moved b [] then 1 else 0)
      root [] = upto (if has_moved b [] then 1 else 0)
        where
          upto : (a : ℕ) → a ≤ a
          upto a = omega arith
      root (s ∷ q) = none (if has_moved b [] then 1 else 0)
        where
          none : (a : ℕ) → 0 ≤ a
          none a = omega arith
