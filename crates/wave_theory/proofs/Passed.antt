-- How often Enters are passed on.
use Rattle.std.proofs.Common.{◌≡◌, ℕ, zero, suc, ◌+◌, ◌<◌, ◌≤◌, ◌⊎◌, nat_eq, nat_lt, inl, inr, Bool, true, false, Option, Some, None, List, [], ◌∷◌, ◌++◌, length, refl, sym, ◌∙◌, ap, subst, arith}
use Rattle.std.specs.Prelude.{All, ◌*◌, if◌then◌else◌}
use Rattle.wave_base.specs.declared.path.Path.{Path}
use Rattle.wave_base.specs.Fold.{Progress}
use Rattle.wave_states.specs.States.{State, Cell, Mail, set}
use Rattle.wave_states.specs.Labels.{Label, Pass, ticket_of, path_of, is_pass}
use Rattle.wave_states.specs.Begins.{Begin, start_state}
use Rattle.wave_states.specs.Kinds.{Kind}
use Rattle.wave_states.specs.Owes.{Owes, IsBegin}
use Rattle.wave_states.specs.Alone.{job_after}
use Rattle.wave_states.specs.Steps.{Bench, step, step_by, act_bench, part_of}
use Rattle.wave_states.specs.Runs.{run}
use Rattle.wave_states.specs.Work.{work_after, work_of_job}
use Rattle.wave_theory.proofs.Basics.{none_not, map_some, if_some, number_cases, not_same, set_at, set_there, differ}
use Rattle.wave_theory.proofs.Order.{Way, Stage, Entering, Lined, Coming, There, Done}
use Rattle.wave_theory.proofs.Leaves.{Course}
use Rattle.wave_theory.proofs.Courses
use Rattle.wave_theory.proofs.Opened.{passes}
use Rattle.wave_theory.proofs.Tallies.{sum_to, sum_zero, sum_more, sum_less, sum_one, sum_up}
use Rattle.wave_theory.proofs.Shows
use Rattle.wave_theory.proofs.Deeds.{Outline, outline, Deed, done_by}
use Rattle.wave_theory.proofs.Deeds
use Rattle.wave_theory.proofs.Homes
use Rattle.wave_theory.proofs.HomesKept
use Rattle.wave_theory.proofs.Sites
use Rattle.wave_theory.proofs.Sizes
use Rattle.wave_theory.proofs.GoodStates.{Good_state}
use Rattle.wave_theory.proofs.GoodStates
use Rattle.wave_theory.proofs.Reached
use Rattle.wave_theory.proofs.Along
use Rattle.wave_theory.specs.Counted.{pass_count, passed_to, most_moves, Bounded}
use Rattle.wave_theory.specs.Numbers.{HasEntry}
use Rattle.wave_theory.proofs.Passing.{all_labels, passed_more, times_up}
use Rattle.wave_theory.proofs.Passing

module _ {A F R J : Type 0} (kind : Kind A F R J) (owes : Owes kind) (b : Begin F) (batches : List (List J)) (begins : IsBegin kind b) (jobs : All (All kind.is_job) batches) where
  abbrev w : Way
  w = Courses.w kind owes b batches begins jobs

  abbrev course : Course kind.system
  course = Courses.course kind owes b batches begins jobs

  abbrev Is_real : ℕ → Type 0
  Is_real = Courses.Real kind owes b batches begins jobs

  abbrev Good : State A F R J → Type 0
  Good s = Good_state kind owes b batches begins jobs s

  abbrev HomesAre : Shows.Ghost F → Type 0
  HomesAre g = Homes.Homes kind owes b batches begins jobs g

  -- how many of the first segments enter a context
  abbrev fresh_to : ℕ → ℕ → ℕ
  fresh_to t k = sum_to k (λ i. Sizes.one_if kind.system (w.fresh t i))

  module _ (top : ℕ) where
    abbrev Bound : Stage → ℕ → ℕ → (ℕ → Option (Mail F)) → ℕ → Type 0
    Bound = Passing.Bound kind owes b batches begins jobs top

    abbrev Passed : (ls : List Label) (s : State A F R J) (k : Good s) → Type 0
    Passed = Passing.Passed kind owes b batches begins jobs top

    abbrev told : Bool → (ℕ → ℕ) → ℕ → ℕ → ℕ
    told true c t = set nat_eq c t (suc (c t))
    told false c t = c

    told_off : (i : Bool) (c : ℕ → ℕ) (t u : ℕ) → nat_eq t u ≡ false → told i c t u ≡ c u
    told_off true c t u n = set_there nat_eq c t (suc (c t)) u n
    told_off false c t u n = refl

    bound_same : (v v' : Stage) (t k k' : ℕ) (mails mails' : ℕ → Option (Mail F)) (c c' : ℕ) → v' ≡ v → k' ≡ k → mails' ≡ mails → c' ≡ c → Bound v t k mails c → Bound v' t k' mails' c'
    bound_same v v' t k k' mails mails' c c' e f m d h = subst (λ i. Bound i t k' mails' c') (sym e) (subst (λ i. Bound v t i mails' c') (sym f) (subst (λ i. Bound v t k i c') (sym m) (subst (λ i. Bound v t k mails i) (sym d) h)))

    pass_rests : (t i : ℕ) (p : Path) (to : ℕ) (d : Deed) → Deeds.Suits (Pass t i p to) d → d ≡ Deeds.Rests
    pass_rests t i p to Deeds.Rests q = refl
    pass_rests t i p to Deeds.Admits q = absurd q
    pass_rests t i p to Deeds.Lines_up q = absurd q
    pass_rests t i p to Deeds.Lets_in q = absurd q
    pass_rests t i p to Deeds.Arrives q = absurd q
    pass_rests t i p to Deeds.Lands q = absurd q
    pass_rests t i p to Deeds.Goes_on q = absurd q
    pass_rests t i p to Deeds.Ends q = absurd q
    pass_rests t i p to (Deeds.Goes_in st r) q = absurd q
    pass_rests t i p to (Deeds.Moves h) q = absurd q

    index_of : (t n : ℕ) → b.before < t → t ≤ b.before + n → (i : ℕ) × (i < n) × (t ≡ suc b.before + i)
    index_of t n l m = by b.before t n l m
      where
        by : (a t n : ℕ) → a < t → t ≤ a + n → (i : ℕ) × (i < n) × (t ≡ suc a + i)
        by a zero n l m = absurd (omega (arith, l))
        by zero (suc t) n l m = (t, omega (arith, m), omega arith)
        by (suc a) (suc t) n l m = (let r = by a t n (omega (arith, l)) (omega (arith, m)) in (r.0, r.1, omega (arith, r.2)))

    module _ (tops : (p : Path) (m i : ℕ) (j : J) → job_after kind.system b batches i ≡ Some j → m ≤ suc i → Sites.shifts kind owes b batches begins jobs p m ≤ top) (some_host : 0 < kind.hosts) (workers : ℕ) where
      -- a Pass is of a ticket that was admitted
      pass_known : (s s' : State A F R J) (k : Good s) (v host t i : ℕ) (p : Path) (to : ℕ) → step_by kind.system s v host (Pass t i p to) ≡ Some s' → (b.before < t) × (t ≤ (k.ghost).lines.admitted)
      pass_known s s' k v host t i p to e = (let y = map_some _ _ s' e in by (s.hands v) y.0 y.1)
        where
          by : (hd : Option (Rattle.wave_states.specs.States.Hand A F)) (y : Bench A F R) → act_bench kind.system (Pass t i p to) host (part_of s t p) hd ≡ Some y → (b.before < t) × (t ≤ (k.ghost).lines.admitted)
          by (Some hd) y e = absurd (none_not e)
          by None y e = (let z = Passing.calm_is kind owes b batches begins jobs top _ y e in let q = passes i to p host (part_of s t p) z.0 z.1 in
              GoodStates.known kind owes b batches begins jobs s (k.ghost) k.shows t (λ n. none_not (sym (ap (λ (u : Cell A F R). u.mails i) n) ∙ q.letter_at.mail_is)))

      pub next : (ls : List Label) (s s' : State A F R J) (k : Good s) (l : Label) → Along.from_start kind owes b batches begins jobs some_host workers ls s → Passed ls s k → step kind.system workers s l ≡ Some s' → (n : Along.Follows kind owes b batches begins jobs some_host workers s s' k l) → Passed (ls ++ l ∷ []) s' n.good
      unfolding step
      next ls s s' k l r h e n = record {
        homes = HomesKept.homes_next kind owes b batches begins jobs s k.ghost (n.good).ghost l.act k.shows n.turn h.homes;
        tally = told (is_pass l.act) h.tally (ticket_of l.act);
        unused = λ u m. unused_now (is_pass l.act) refl u (fewer u m);
        total = passed_more ls l ∙ total_now (is_pass l.act) refl;
        bound = λ u lu mu. elim (number_cases (ticket_of l.act) u) [
          | inr d ↦ bound_same ((k.ghost).lines.stage u) (((n.good).ghost).lines.stage u) u ((k.ghost).lines.pos u) (((n.good).ghost).lines.pos u) (s.cells u).mails (s'.cells u).mails (h.tally u) (told (is_pass l.act) h.tally (ticket_of l.act) u)
              (ap (λ (o : Outline). o.stage u) (n.turn).is ∙ (off u d).0) (ap (λ (o : Outline). o.pos u) (n.turn).is ∙ (off u d).1) (ap (λ (c : Cell A F R). c.mails) (Passing.cells_off kind owes b batches begins jobs top s s' l.worker l.host l.act by_it u d)) (told_off (is_pass l.act) h.tally (ticket_of l.act) u d) (h.bound u lu (not_new u mu d))
          | inl d ↦ subst (λ i. Bound (((n.good).ghost).lines.stage i) i (((n.good).ghost).lines.pos i) (s'.cells i).mails (told (is_pass l.act) h.tally (ticket_of l.act) i)) d (own_now (is_pass l.act) refl (subst (λ i. b.before < i) (sym d) lu) (subst (λ i. i ≤ ((n.good).ghost).lines.admitted) (sym d) mu))
        ];
      }
        where
          by_it : step_by kind.system s l.worker l.host l.act ≡ Some s'
          by_it = (if_some (nat_lt l.worker workers) (step_by kind.system s l.worker l.host l.act) s' e).1

          off : (u : ℕ) → nat_eq (ticket_of l.act) u ≡ false → ((done_by w (outline k.ghost) (ticket_of l.act) (path_of l.act) (n.turn).deed).stage u ≡ (k.ghost).lines.stage u) × ((done_by w (outline k.ghost) (ticket_of l.act) (path_of l.act) (n.turn).deed).pos u ≡ (k.ghost).lines.pos u)
          off u d = Deeds.stays_off kind.system w course b.before Is_real s k.ghost (n.good).ghost (ticket_of l.act) (path_of l.act) (n.turn).deed (n.turn).fits u d

          many : (((n.good).ghost).lines.admitted ≡ (k.ghost).lines.admitted) ⊎ ((((n.good).ghost).lines.admitted ≡ suc (k.ghost).lines.admitted) × (ticket_of l.act ≡ suc (k.ghost).lines.admitted))
          many = elim (Deeds.how_many kind.system w course b.before Is_real s k.ghost (n.good).ghost (ticket_of l.act) (path_of l.act) (n.turn).deed (n.turn).fits) [
            | inl q ↦ inl (ap (λ (o : Outline). o.admitted) (n.turn).is ∙ q)
            | inr q ↦ inr (ap (λ (o : Outline). o.admitted) (n.turn).is ∙ q.0, q.1)
          ]

          fewer : (u : ℕ) → ((n.good).ghost).lines.admitted < u → (k.ghost).lines.admitted < u
          fewer u m = elim many [ inl q ↦ subst (λ i. i < u) q m | inr q ↦ less _ _ _ q.0 m ]
            where
              less : (a c u : ℕ) → a ≡ suc c → a < u → c < u
              less a c u e l = omega (arith, e, l)

          not_new : (u : ℕ) → u ≤ ((n.good).ghost).lines.admitted → nat_eq (ticket_of l.act) u ≡ false → u ≤ (k.ghost).lines.admitted
          not_new u m d = elim many [
            | inl q ↦ subst (λ i. u ≤ i) q m
            | inr q ↦ under _ _ (subst (λ i. u ≤ i) q.0 m) (λ z. not_same (ticket_of l.act) u d (q.1 ∙ sym z))
          ]
            where
              under : (u c : ℕ) → u ≤ suc c → (u ≡ suc c → ⊥) → u ≤ c
              under u c l n = grind arith

          not_pass_of : (t : ℕ) (u : ℕ) → t ≤ (k.ghost).lines.admitted → (k.ghost).lines.admitted < u → nat_eq t u ≡ false
          not_pass_of t u l m = differ t u (λ z. apart _ _ _ l m z)
            where
              apart : (a c d : ℕ) → a ≤ c → c < d → a ≡ d → ⊥
              apart a c d l m e = omega (arith, l, m, e)

          known_pass : is_pass l.act ≡ true → (b.before < ticket_of l.act) × (ticket_of l.act ≤ (k.ghost).lines.admitted)
          known_pass q = (let z = Passing.pass_form kind owes b batches begins jobs top l.act q in subst (λ a. (b.before < ticket_of a) × (ticket_of a ≤ (k.ghost).lines.admitted)) (sym z.4) (pass_known s s' k l.worker l.host z.0 z.1 z.2 z.3 (subst (λ a. step_by kind.system s l.worker l.host a ≡ Some s') z.4 by_it)))

          unused_now : (i : Bool) → is_pass l.act ≡ i → (u : ℕ) → (k.ghost).lines.admitted < u → told i h.tally (ticket_of l.act) u ≡ 0
          unused_now false q u m = h.unused u m
          unused_now true q u m = set_there nat_eq h.tally (ticket_of l.act) _ u (not_pass_of (ticket_of l.act) u (known_pass q).1 m) ∙ h.unused u m

          same_admitted : ((n.good).ghost).lines.admitted ≡ (k.ghost).lines.admitted → s'.admitted ≡ s.admitted
          same_admitted q = eq _ _ _ _ _ (n.good).shows.admitted k.shows.admitted q
            where
              eq : (a c m m' x : ℕ) → a ≡ x + m' → c ≡ x + m → a ≡ c → m' ≡ m
              eq a c m m' x e f g = omega (arith, e, f, g)

          more_admitted : ((n.good).ghost).lines.admitted ≡ suc (k.ghost).lines.admitted → s'.admitted ≡ suc s.admitted
          more_admitted q = eq _ _ _ _ _ (n.good).shows.admitted k.shows.admitted q
            where
              eq : (a c m m' x : ℕ) → a ≡ x + m' → c ≡ x + m → a ≡ suc c → m' ≡ suc m
              eq a c m m' x e f g = omega (arith, e, f, g)

          none_more : (a : ℕ) → a + 0 ≡ a
          none_more a = omega arith

          total_now : (i : Bool) → is_pass l.act ≡ i → pass_count ls + (if i then 1 else 0) ≡ sum_to s'.admitted (λ j. told i h.tally (ticket_of l.act) (suc b.before + j))
          total_now false q = none_more _ ∙ h.total ∙ (elim many [
            | inl z ↦ ap (λ m. sum_to m (λ j. h.tally (suc b.before + j))) (sym (same_admitted z))
            | inr z ↦ sym (ap (λ m. sum_to m (λ j. h.tally (suc b.before + j))) (more_admitted z.0) ∙ sum_more s.admitted (λ j. h.tally (suc b.before + j)) ∙ ap (λ m. sum_to s.admitted (λ j. h.tally (suc b.before + j)) + m) (h.unused (suc b.before + s.admitted) (subst (λ m. m < suc b.before + s.admitted) (sym k.shows.admitted) (above b.before s.admitted))) ∙ none_more _)
          ])
            where
              above : (a m : ℕ) → a + m < suc a + m
              above a m = omega arith
          total_now true q = (let z = known_pass q in let i = index_of (ticket_of l.act) s.admitted z.0 (subst (λ m. ticket_of l.act ≤ m) k.shows.admitted z.1) in
              one_more _ ∙ ap suc h.total ∙ sym (sum_one s.admitted (λ j. h.tally (suc b.before + j)) (λ j. set nat_eq h.tally (ticket_of l.act) (suc (h.tally (ticket_of l.act))) (suc b.before + j)) i.0 i.1
              (subst (λ u. set nat_eq h.tally (ticket_of l.act) (suc (h.tally (ticket_of l.act))) u ≡ suc (h.tally u)) i.2 (set_at h.tally (ticket_of l.act) _))
              (λ j m d. set_there nat_eq h.tally (ticket_of l.act) _ (suc b.before + j) (differ _ _ (λ y. not_same i.0 j d (same_index _ _ _ (sym i.2 ∙ y))))))
              ∙ ap (λ m. sum_to m (λ j. set nat_eq h.tally (ticket_of l.act) (suc (h.tally (ticket_of l.act))) (suc b.before + j))) (sym (same_admitted (pass_same q))))
            where
              one_more : (a : ℕ) → a + 1 ≡ suc a
              one_more a = omega arith

              same_index : (a i j : ℕ) → suc a + i ≡ suc a + j → i ≡ j
              same_index a i j e = omega (arith, e)

              pass_same : is_pass l.act ≡ true → ((n.good).ghost).lines.admitted ≡ (k.ghost).lines.admitted
              pass_same q = elim many [
                | inl z ↦ z
                | inr z ↦ absurd (past _ _ (known_pass q).1 z.1)
              ]
                where
                  past : (a c : ℕ) → a ≤ c → a ≡ suc c → ⊥
                  past a c l e = omega (arith, l, e)

          own_now : (i : Bool) → is_pass l.act ≡ i → b.before < ticket_of l.act → ticket_of l.act ≤ ((n.good).ghost).lines.admitted → Bound (((n.good).ghost).lines.stage (ticket_of l.act)) (ticket_of l.act) (((n.good).ghost).lines.pos (ticket_of l.act)) (s'.cells (ticket_of l.act)).mails (told i h.tally (ticket_of l.act) (ticket_of l.act))
          own_now false q lt la = bound_same _ (((n.good).ghost).lines.stage (ticket_of l.act)) (ticket_of l.act) _ (((n.good).ghost).lines.pos (ticket_of l.act)) (s'.cells (ticket_of l.act)).mails (s'.cells (ticket_of l.act)).mails (h.tally (ticket_of l.act)) (h.tally (ticket_of l.act))
              (ap (λ (o : Outline). o.stage (ticket_of l.act)) (n.turn).is) (ap (λ (o : Outline). o.pos (ticket_of l.act)) (n.turn).is) refl refl
              (Passing.own_rest kind owes b batches begins jobs top tops s k ls h s' (n.good).ghost l.worker l.host l.act by_it q (n.turn).deed (n.turn).suits (n.turn).fits lt (subst (λ m. ticket_of l.act ≤ m) (ap (λ (o : Outline). o.admitted) (n.turn).is) la))
          own_now true q lt la = (let z = Passing.pass_form kind owes b batches begins jobs top l.act q in
              bound_same ((k.ghost).lines.stage (ticket_of l.act)) (((n.good).ghost).lines.stage (ticket_of l.act)) (ticket_of l.act) ((k.ghost).lines.pos (ticket_of l.act)) (((n.good).ghost).lines.pos (ticket_of l.act)) (s'.cells (ticket_of l.act)).mails (s'.cells (ticket_of l.act)).mails (suc (h.tally (ticket_of l.act))) (set nat_eq h.tally (ticket_of l.act) (suc (h.tally (ticket_of l.act))) (ticket_of l.act))
              (ap (λ (o : Outline). o.stage (ticket_of l.act)) ((n.turn).is ∙ ap (done_by w (outline k.ghost) (ticket_of l.act) (path_of l.act)) (rests z))) (ap (λ (o : Outline). o.pos (ticket_of l.act)) ((n.turn).is ∙ ap (done_by w (outline k.ghost) (ticket_of l.act) (path_of l.act)) (rests z))) refl (set_at h.tally (ticket_of l.act) _)
              (subst (λ a. Bound ((k.ghost).lines.stage (ticket_of a)) (ticket_of a) ((k.ghost).lines.pos (ticket_of a)) (s'.cells (ticket_of a)).mails (suc (h.tally (ticket_of a)))) (sym z.4) (Passing.own_pass kind owes b batches begins jobs top tops s k ls h s' l.worker l.host z.0 z.1 z.2 z.3 (subst (λ a. step_by kind.system s l.worker l.host a ≡ Some s') z.4 by_it) (subst (λ a. b.before < ticket_of a) z.4 lt) (subst (λ a. ticket_of a ≤ (k.ghost).lines.admitted) z.4 (known_pass q).1))))
            where
              rests : (z : (t i : ℕ) × (p : Path) × (to : ℕ) × (l.act ≡ Pass t i p to)) → (n.turn).deed ≡ Deeds.Rests
              rests z = pass_rests z.0 z.1 z.2 z.3 (n.turn).deed (subst (λ a. Deeds.Suits a (n.turn).deed) z.4 (n.turn).suits)

      pub first_passed : Passed [] (start_state b batches) (Along.first kind owes b batches begins jobs some_host workers)
      first_passed = record {
        homes = subst HomesAre (sym (Reached.first_ghost kind owes b batches begins jobs some_host)) (HomesKept.homes_first kind owes b batches begins jobs);
        tally = λ t. 0;
        unused = λ t m. refl;
        total = sym (sum_zero (λ i. 0));
        bound = λ t l m. absurd (past b.before t l (subst (λ (u : Shows.Ghost F). t ≤ u.lines.admitted) (Reached.first_ghost kind owes b batches begins jobs some_host) m));
      }
        where
          past : (a t : ℕ) → a < t → t ≤ a → ⊥
          past a t l m = omega (arith, l, m)

      pub passed_along : (ls : List Label) (s : State A F R J) → run kind.system workers (start_state b batches) ls ≡ Some s → Along.Along kind owes b batches begins jobs some_host workers Passed next ls s
      passed_along ls s e = Along.along kind owes b batches begins jobs some_host workers Passed next first_passed ls s e

  -- the work of the fold, counted by contexts entered
  entered_is : (n : ℕ) → (work_after kind.system b batches n).entered ≡ sum_to n (λ i. length (Sites.entered_by kind owes b batches begins jobs i (job_after kind.system b batches i)))
  entered_is zero = sym (sum_zero (λ i. length (Sites.entered_by kind owes b batches begins jobs i (job_after kind.system b batches i))))
  entered_is (suc n) = by (entered_is n) (job_after kind.system b batches n) ∙ sym (sum_more n (λ i. length (Sites.entered_by kind owes b batches begins jobs i (job_after kind.system b batches i))))
    where
      none_more : (m : ℕ) → m ≡ m + 0
      none_more m = omega arith

      by : (work_after kind.system b batches n).entered ≡ sum_to n (λ i. length (Sites.entered_by kind owes b batches begins jobs i (job_after kind.system b batches i))) → (o : Option J) →
          (work_of_job kind.system b batches n (work_after kind.system b batches n) o).entered ≡ sum_to n (λ i. length (Sites.entered_by kind owes b batches begins jobs i (job_after kind.system b batches i))) + length (Sites.entered_by kind owes b batches begins jobs n o)
      by h None = h ∙ none_more _
      by h (Some j) = ap (λ m. m + length (Sites.ran kind owes b batches begins jobs n j).entered) h

  times_sum : (a m : ℕ) (f : ℕ → ℕ) → sum_to m (λ i. a * f i) ≡ a * sum_to m f
  times_sum a zero f = sum_zero (λ i. a * f i) ∙ sym (ap (λ c. a * c) (sum_zero f) ∙ none a)
    where
      none : (a : ℕ) → a * 0 ≡ 0
      none a = grind arith
  times_sum a (suc m) f = sum_more m (λ i. a * f i) ∙ ap (λ c. c + a * f m) (times_sum a m f) ∙ add a (sum_to m f) (f m) ∙ sym (ap (λ c. a * c) (sum_more m f))
    where
      add : (a c d : ℕ) → a * c + a * d ≡ a * (c + d)
      add a c d = grind arith

  -- how many contexts a ticket enters
  fresh_all : (i : ℕ) (j : J) → job_after kind.system b batches i ≡ Some j → fresh_to (suc b.before + i) (suc (w.last (suc b.before + i))) ≡ length (Sites.entered_by kind owes b batches begins jobs i (job_after kind.system b batches i))
  fresh_all i j e = ap (λ (v : Courses.View A F R). sum_to (suc v.one.last) (λ k. Sizes.one_if kind.system (v.one.fresh k))) (Courses.view_real kind owes b batches begins jobs i j e)
      ∙ Sizes.entries kind.system (Rattle.wave_theory.proofs.Plans.first_of kind owes b batches begins jobs i j) (Rattle.wave_theory.proofs.Plans.last_of kind owes b batches begins jobs i j) (Rattle.wave_theory.proofs.Plans.counts kind owes b batches begins jobs i j e) refl refl
      ∙ ap length (sym (Courses.entered_after kind owes b batches begins jobs i j e)) ∙ ap (λ o. length (Sites.entered_by kind owes b batches begins jobs i o)) (sym e)

  -- a job is below where there is none
  job_below : (n i : ℕ) (j : J) → job_after kind.system b batches n ≡ None → job_after kind.system b batches i ≡ Some j → suc i ≤ n
  job_below n i j e f = elim (either n i) [
    | inl l ↦ l
    | inr d ↦ absurd (none_not (sym (ap (job_after kind.system b batches) d.1 ∙ ap (λ (v : Progress F R J). Rattle.wave_base.specs.Fold.next_job v.head) (Rattle.wave_theory.proofs.Live.over_stays kind owes b batches begins jobs n d.0 e) ∙ e) ∙ f))
  ]
    where
      either : (n i : ℕ) → (suc i ≤ n) ⊎ ((d : ℕ) × (i ≡ d + n))
      either zero i = inr (i, omega arith)
      either (suc n) zero = inl (omega arith)
      either (suc n) (suc i) = elim (either n i) [ inl l ↦ inl (omega (arith, l)) | inr d ↦ inr (d.0, omega (arith, d.1)) ]

  -- what is known of the labels that led to a state
  module _ (some_host : 0 < kind.hosts) (workers : ℕ) (some_worker : 0 < workers) (ls : List Label) (s : State A F R J) (r : run kind.system workers (start_state b batches) ls ≡ Some s) where
    module _ (n : ℕ) (over : job_after kind.system b batches n ≡ None) where
      abbrev most : ℕ
      most = most_moves b (work_after kind.system b batches n)

      tops : (p : Path) (m i : ℕ) (j : J) → job_after kind.system b batches i ≡ Some j → m ≤ suc i → Sites.shifts kind owes b batches begins jobs p m ≤ most
      tops p m i j e l = Sites.shifts_few kind owes b batches begins jobs n m p (trans m (suc i) n l (job_below n i j over e))
        where
          trans : (a c d : ℕ) → a ≤ c → c ≤ d → a ≤ d
          trans a c d l m = omega (arith, l, m)

      few : pass_count ls ≤ (work_after kind.system b batches n).entered * most
      few = by (passed_along most tops some_host workers ls s r)
        where
          by : Along.Along kind owes b batches begins jobs some_host workers (Passing.Passed kind owes b batches begins jobs most) (next most tops some_host workers) ls s → pass_count ls ≤ (work_after kind.system b batches n).entered * most
          by a = least _ _ _ _ _ _ _ (a.holds).total (sum_less s.admitted (λ i. (a.holds).tally (suc b.before + i)) (λ i. most * length (Sites.entered_by kind owes b batches begins jobs i (job_after kind.system b batches i))) (λ i l. each i l))
              (times_sum most s.admitted (λ i. length (Sites.entered_by kind owes b batches begins jobs i (job_after kind.system b batches i)))) (times_up most _ _ (sum_up s.admitted n (λ i. length (Sites.entered_by kind owes b batches begins jobs i (job_after kind.system b batches i))) (admitted_few s.admitted (λ i l. job_at i l)))) (entered_is n) (swap most _)
            where
              least : (c d e f g h x : ℕ) → c ≡ d → d ≤ e → e ≡ f → f ≤ g → h ≡ x → g ≡ x * most → c ≤ h * most
              least c d e f g h x p q r s t u = subst (λ y. c ≤ y * most) (sym t) (omega (arith, p, q, r, s, u))

              swap : (a c : ℕ) → a * c ≡ c * a
              swap a c = grind arith

              job_at : (i : ℕ) → i < s.admitted → (j : J) × (job_after kind.system b batches i ≡ Some j)
              job_at i l = (let y = (a.good.shows.cells (suc b.before + i) (later b.before i) (subst (λ m. suc b.before + i ≤ m) (sym a.good.shows.admitted) (within b.before i s.admitted l))).real in (y.job, subst (λ n. job_after kind.system b batches n ≡ Some y.job) (same_index b.before i y.index y.ticket_is) y.job_is))
                where
                  later : (a i : ℕ) → a < suc a + i
                  later a i = omega arith

                  within : (a i n : ℕ) → i < n → suc a + i ≤ a + n
                  within a i n l = omega (arith, l)

                  same_index : (a i j : ℕ) → suc a + i ≡ suc a + j → j ≡ i
                  same_index a i j e = omega (arith, e)

              admitted_few : (m : ℕ) → ((i : ℕ) → i < m → (j : J) × (job_after kind.system b batches i ≡ Some j)) → m ≤ n
              admitted_few zero f = omega arith
              admitted_few (suc m) f = (let j = f m (omega arith) in job_below n m j.0 over j.1)

              each : (i : ℕ) → i < s.admitted → (a.holds).tally (suc b.before + i) ≤ most * length (Sites.entered_by kind owes b batches begins jobs i (job_after kind.system b batches i))
              each i l = (let j = job_at i l in subst (λ m. (a.holds).tally (suc b.before + i) ≤ most * m) (fresh_all i j.0 j.1) (whole (suc b.before + i) (later b.before i) (subst (λ m. suc b.before + i ≤ m) (sym a.good.shows.admitted) (within b.before i s.admitted l))))
                where
                  later : (a i : ℕ) → a < suc a + i
                  later a i = omega arith

                  within : (a i n : ℕ) → i < n → suc a + i ≤ a + n
                  within a i n l = omega (arith, l)

                  whole : (t : ℕ) → b.before < t → t ≤ (a.good.ghost).lines.admitted → (a.holds).tally t ≤ most * fresh_to t (suc (w.last t))
                  whole t lt la = stages ((a.good.ghost).lines.stage t) refl
                    where
                      later_too : (c k m : ℕ) → k ≤ m → c ≤ most * fresh_to t k → c ≤ most * fresh_to t m
                      later_too c k m l u = (let q = times_up most (fresh_to t k) (fresh_to t m) (sum_up k m (λ i. Sizes.one_if kind.system (w.fresh t i)) l) in omega (arith, u, q))

                      bound_is : (v : Stage) → (a.good.ghost).lines.stage t ≡ v → Passing.Bound kind owes b batches begins jobs most v t ((a.good.ghost).lines.pos t) (s.cells t).mails ((a.holds).tally t)
                      bound_is v e = subst (λ u. Passing.Bound kind owes b batches begins jobs most u t ((a.good.ghost).lines.pos t) (s.cells t).mails ((a.holds).tally t)) e ((a.holds).bound t lt la)

                      going : (v : Stage) → (a.good.ghost).lines.stage t ≡ v → (v ≡ Done → ⊥) → suc ((a.good.ghost).lines.pos t) ≤ suc (w.last t)
                      going v e n = (let q = a.good.shows.good.going t la (λ z. n (sym e ∙ z)) in omega (arith, q))

                      stages : (v : Stage) → (a.good.ghost).lines.stage t ≡ v → (a.holds).tally t ≤ most * fresh_to t (suc (w.last t))
                      stages Entering e = later_too _ (suc ((a.good.ghost).lines.pos t)) (suc (w.last t)) (going Entering e (λ z. grind arith)) (Passing.entering_full kind owes b batches begins jobs most tops s a.good ls a.holds t lt la e)
                      stages Lined e = later_too _ (suc ((a.good.ghost).lines.pos t)) (suc (w.last t)) (going Lined e (λ z. grind arith)) (bound_is Lined e)
                      stages Coming e = later_too _ (suc ((a.good.ghost).lines.pos t)) (suc (w.last t)) (going Coming e (λ z. grind arith)) (bound_is Coming e)
                      stages There e = later_too _ (suc ((a.good.ghost).lines.pos t)) (suc (w.last t)) (going There e (λ z. grind arith)) (bound_is There e)
                      stages Done e = subst (λ k. (a.holds).tally t ≤ most * fresh_to t k) (a.good.shows.good.ended t la e) (bound_is Done e)

    pub bounded : ((t : ℕ) (p : Path) (en : Rattle.wave_states.specs.States.Entry F) → HasEntry s p en → passed_to t p ls ≤ en.moves) → Bounded kind workers b batches ls s
    bounded each = (let c = Sizes.counted kind owes b batches begins jobs s ls (Reached.reached_by kind owes b batches begins jobs some_host workers s ls r) workers some_worker in record {
      each = each;
      few_passed = few;
      within = λ n e. both _ _ _ _ _ (all_labels ls) (c.within n e) (few n e);
      exactly = λ f. all_labels ls ∙ ap (λ m. m + pass_count ls) (c.exactly f);
    })
      where
        both : (l t p u v : ℕ) → l ≡ t + p → t ≤ u → p ≤ v → l ≤ u + v
        both l t p u v e m n = omega (arith, e, m, n)
