-- It lies there too where a ticket is over, and where one goes into a child.
use Rattle.std.proofs.Common.{◌≡◌, ◌≢◌, ℕ, suc, ◌+◌, ◌<◌, ◌≤◌, ◌⊎◌, nat_eq, inl, inr, Bool, true, false, Some, List, [], ◌∷◌, ◌++◌, sym, ◌∙◌, ap, subst, arith}
use Rattle.std.specs.Prelude.{All, if◌then◌else◌}
use Rattle.wave_base.specs.declared.path.Step.{Step}
use Rattle.wave_base.specs.declared.path.Path.{Path}
use Rattle.wave_base.specs.declared.children.Child.{Child}
use Rattle.wave_base.specs.Paths.{path_eq}
use Rattle.wave_base.specs.Kids.{child_at}
use Rattle.wave_base.specs.Tree.{Tree, there}
use Rattle.wave_states.specs.States.{State, set}
use Rattle.wave_states.specs.Begins.{Begin, is_root}
use Rattle.wave_states.specs.Kinds.{Kind}
use Rattle.wave_states.specs.Owes.{Owes, IsBegin}
use Rattle.wave_states.specs.Alone.{job_after}
use Rattle.wave_states.specs.Steps.{child_or_new}
use Rattle.wave_theory.proofs.Basics.{clash, none_not, some_same, number_cases, not_same, path_cases, path_self, set_at, set_there, set_at_path, differ}
use Rattle.wave_theory.proofs.Order.{Way, IsWay, visits, rank, Stage, Entering, Done}
use Rattle.wave_theory.proofs.Ranks.{rank_in, rank_same, rank_pos}
use Rattle.wave_theory.proofs.Leaves.{Course}
use Rattle.wave_theory.proofs.Paths.{parent_child, child_not_root}
use Rattle.wave_theory.proofs.Tracks.{Trail, owner, sent_on}
use Rattle.wave_theory.proofs.Courses
use Rattle.wave_theory.proofs.Shows
use Rattle.wave_theory.proofs.Deeds.{Outline, outline, done_by}
use Rattle.wave_theory.proofs.Deeds
use Rattle.wave_theory.proofs.Sites
use Rattle.wave_theory.proofs.Homes.{done_set, is_done, spot_of}
use Rattle.wave_theory.proofs.Homes

module _ {A F R J : Type 0} (kind : Kind A F R J) (owes : Owes kind) (b : Begin F) (batches : List (List J)) (begins : IsBegin kind b) (jobs : All (All kind.is_job) batches) where
  abbrev w : Way
  w = Courses.w kind owes b batches begins jobs

  abbrev course : Course kind.system
  course = Courses.course kind owes b batches begins jobs

  abbrev law : IsWay w
  law = Homes.law kind owes b batches begins jobs

  abbrev Is_real : ℕ → Type 0
  Is_real = Courses.Real kind owes b batches begins jobs

  abbrev Job : ℕ → J → Type 0
  Job i j = job_after kind.system b batches i ≡ Some j

  abbrev places : ℕ → Tree ℕ
  places i = Sites.places kind owes b batches begins jobs i

  abbrev grown : ℕ → Tree ℕ
  grown i = Sites.grown kind owes b batches begins jobs i

  abbrev Sits : ℕ × ℕ → ℕ → Path → Type 0
  Sits x i p = Sites.Sits kind owes b batches begins jobs x i p

  abbrev Stands : ℕ × ℕ → ℕ → Path → Type 0
  Stands x i p = Sites.Stands kind owes b batches begins jobs x i p

  abbrev At : Bool → ℕ × ℕ → ℕ → Path → Type 0
  At true x i p = Sits x (suc i) p
  At false x i p = Stands x i p

  -- served before the run
  abbrev early : Path → ℕ
  early p = if is_root p then b.before else 0

  -- the Enter of the ticket to the context was sent
  abbrev SentTo : Outline → ℕ → Path → Type 0
  SentTo o t p = (t ≤ o.admitted) × (w.entered t (o.pos t) p ≡ true)

  abbrev HomesOf : (o : Outline) → Type 0
  HomesOf = Homes.HomesOf kind owes b batches begins jobs

  abbrev there_same : (p : Path) → there b.places p ≡ there b.tree p
  there_same = Homes.there_same kind owes b batches begins jobs

  module _ (s : State A F R J) (g : Shows.Ghost F) (x : Shows.Shows kind.system w course b.before Is_real s g) (h : HomesOf (outline g)) where
    abbrev o : Outline
    o = outline g

    -- at an end that leaves its context where it is, and at one that sends it on
    module _ (t : ℕ) (p : Path) (stopped : Deeds.Stopped kind.system w course b.before Is_real g t p) (last : g.lines.pos t ≡ w.last t) (result : R) (result_is : course.result t (suc (g.lines.pos t)) ≡ Some result) where
      abbrev rt : Courses.Real kind owes b batches begins jobs t
      rt = Homes.real_t kind owes b batches begins jobs s g x h t p stopped

      same_result : (Sites.ran kind owes b batches begins jobs (rt).index (rt).job).result ≡ result
      same_result = Sites.result_is kind owes b batches begins jobs (rt).index (rt).job (rt).job_is (g.lines.pos t) result (subst (λ u. g.lines.pos t ≤ w.last u) (rt).ticket_is (subst (λ n. g.lines.pos t ≤ n) last (omega arith))) (ap (λ u. course.result u (suc (g.lines.pos t))) (sym (rt).ticket_is) ∙ result_is)

      sent_same : (v : Stage) (u : ℕ) (q : Path) → (u ≤ g.lines.admitted) × (w.entered u (set nat_eq g.lines.pos t (suc (g.lines.pos t)) u) q ≡ true) → SentTo o u q
      sent_same v u q e = Homes.entered_next kind owes b batches begins jobs s g x h t v q (Homes.known_t kind owes b batches begins jobs s g x h t p stopped).1 (subst (λ n. g.lines.pos t ≤ n) last (omega arith)) u (λ m f r k. past _ _ m last) e
        where
          past : (a c : ℕ) → suc a ≤ c → a ≡ c → ⊥
          past a c l e = omega (arith, l, e)

      -- elsewhere
      ends_off : (q : Path) → ((u : ℕ) → kind.system.moved result ≡ Some (q, u) → ⊥) → Stands (spot_of (g.trail q)) (rt).index q → Sits (spot_of (g.trail q)) (suc (rt).index) q
      ends_off q n y = (let z = Sites.elsewhere kind owes b batches begins jobs (rt).index (rt).job (rt).job_is q (λ u m. n u (ap kind.system.moved (sym same_result) ∙ m)) in
          (y.0 ∙ sym z.0, y.1 ∙ none_more _ _ _ (Sites.shifts_next kind owes b batches begins jobs (rt).index q) z.1))
        where
          none_more : (n m k : ℕ) → m ≡ n + k → k ≡ 0 → n ≡ m
          none_more n m k e f = omega (arith, e, f)

      -- where it stays
      ends_here : kind.system.moved result ≡ Some (p, owner (g.trail p)) → Stands (spot_of (g.trail p)) (rt).index p → Sits (spot_of (g.trail p)) (suc (rt).index) p
      ends_here m y = (let z = Sites.moved_there kind owes b batches begins jobs (rt).index (rt).job (rt).job_is p (owner (g.trail p)) (ap kind.system.moved same_result ∙ m) in
          (sym z.0, y.1 ∙ none_more _ _ _ (Sites.shifts_next kind owes b batches begins jobs (rt).index p) (z.1 ∙ ap (λ u. if u then 0 else 1) (subst (λ n. nat_eq n (owner (g.trail p)) ≡ true) y.0 (Rattle.wave_theory.proofs.Basics.number_self (owner (g.trail p)))))))
        where
          none_more : (n m k : ℕ) → m ≡ n + k → k ≡ 0 → n ≡ m
          none_more n m k e f = omega (arith, e, f)

      -- where it is sent on
      ends_there : (to : ℕ) → kind.system.moved result ≡ Some (p, to) → to ≢ owner (g.trail p) → Stands (spot_of (g.trail p)) (rt).index p → Sits (spot_of (sent_on (g.trail p) to)) (suc (rt).index) p
      ends_there to m other y = (let z = Sites.moved_there kind owes b batches begins jobs (rt).index (rt).job (rt).job_is p to (ap kind.system.moved same_result ∙ m) in (
        set_at (g.trail p).at (suc (g.trail p).last) to ∙ sym z.0,
        one_more _ _ _ _ (Sites.shifts_next kind owes b batches begins jobs (rt).index p) (z.1 ∙ ap (λ u. if u then 0 else 1) (subst (λ n. nat_eq n to ≡ false) y.0 (differ (owner (g.trail p)) to (λ e. other (sym e))))) y.1,
      ))
        where
          one_more : (l n m k : ℕ) → m ≡ n + k → k ≡ 1 → l ≡ n → suc l ≡ m
          one_more l n m k e f d = omega (arith, e, f, d)

      -- the last one at a context, when it has ended
      at_end : (i : ℕ) (q : Path) (y : ℕ × ℕ) → (t ≡ suc b.before + i → Sits y (suc i) q) → (nat_eq t (suc b.before + i) ≡ false → At (is_done (g.lines.stage (suc b.before + i))) y i q) → At (is_done (set nat_eq g.lines.stage t Done (suc b.before + i))) y i q
      at_end i q y f n = elim (number_cases t (suc b.before + i)) [
        | inr d ↦ subst (λ u. At (is_done u) y i q) (sym (set_there nat_eq g.lines.stage t Done (suc b.before + i) d)) (n d)
        | inl d ↦ subst (λ u. At (is_done u) y i q) (sym (subst (λ u. set nat_eq g.lines.stage t Done u ≡ Done) d (set_at g.lines.stage t Done))) (f d)
      ]

      index_same : (i : ℕ) → t ≡ suc b.before + i → (rt).index ≡ i
      index_same i e = same _ _ _ (sym (rt).ticket_is ∙ e)
        where
          same : (a c d : ℕ) → suc a + c ≡ suc a + d → c ≡ d
          same a c d e = omega (arith, e)

      -- the ticket's own place at a context where it came last
      own_stands : (i : ℕ) (j : J) (q : Path) → Job i j → visits w (suc b.before + i) q ≡ true → rank w q (suc b.before + i) ≡ g.lines.served q → t ≡ suc b.before + i → Stands (spot_of (g.trail q)) i q
      own_stands i j q e v n d = subst (λ u. At u (spot_of (g.trail q)) i q) (Homes.not_done kind owes b batches begins jobs s g x h (g.lines.stage (suc b.before + i)) (ap g.lines.stage (sym d) ∙ stopped.stage)) (h.last q i j e v n)

      pub ends_homes : Deeds.Stays kind.system w course b.before Is_real g t p result → HomesOf (Deeds.with_segment o t Done g.lines.given g.trail)
      ends_homes move = record {
        old = h.old;
        from = h.from;
        last = λ q i j e v n. at_end i q (spot_of (g.trail q)) (λ d. subst (λ k. Sits (spot_of (g.trail q)) (suc k) q) (index_same i d) (settled q (subst (λ k. Stands (spot_of (g.trail q)) k q) (sym (index_same i d)) (own_stands i j q e v n d)))) (λ d. h.last q i j e v n);
        begun = h.begun;
        new = λ q i j e v n m f k. h.new q i j e v n m f (sent_same Done (suc b.before + i) q k);
      }
        where
          settled : (q : Path) → Stands (spot_of (g.trail q)) (rt).index q → Sits (spot_of (g.trail q)) (suc (rt).index) q
          settled q y = elim move [
            | inl m ↦ ends_off q (λ u k. none_not (sym m ∙ k)) y
            | inr m ↦ elim (path_cases p q) [
              | inl d ↦ subst (λ r. Sits (spot_of (g.trail r)) (suc (rt).index) r) d (ends_here m (subst (λ r. Stands (spot_of (g.trail r)) (rt).index r) (sym d) y))
              | inr d ↦ ends_off q (λ u k. clash _ (subst (λ r. path_eq p r ≡ true) (ap (λ (z : Path × ℕ). z.0) (some_same (p, owner (g.trail p)) (q, u) (sym m ∙ k))) (path_self p)) d) y
            ]
          ]

      pub moves_homes : (to : ℕ) → Deeds.Sends kind.system w course b.before Is_real g t p to result → HomesOf (Deeds.with_segment o t Done g.lines.given (set path_eq g.trail p (sent_on (g.trail p) to)))
      moves_homes to m = record {
        old = h.old;
        from = h.from;
        last = λ q i j e v n. at_end i q (spot_of (set path_eq g.trail p (sent_on (g.trail p) to) q)) (λ d. subst (λ k. Sits (spot_of (set path_eq g.trail p (sent_on (g.trail p) to) q)) (suc k) q) (index_same i d) (settled q (subst (λ k. Stands (spot_of (g.trail q)) k q) (sym (index_same i d)) (own_stands i j q e v n d))))
            (λ d. elim (path_cases p q) [
              | inr k ↦ subst (λ (r : Trail). At (is_done (g.lines.stage (suc b.before + i))) (spot_of r) i q) (sym (set_there path_eq g.trail p _ q k)) (h.last q i j e v n)
              | inl k ↦ absurd (not_same t (suc b.before + i) d (rank_same w p t (suc b.before + i) (Homes.visits_t kind owes b batches begins jobs s g x h t p stopped) (subst (λ r. visits w (suc b.before + i) r ≡ true) (sym k) v) (m.latest ∙ ap g.lines.served k ∙ sym n ∙ ap (λ r. rank w r (suc b.before + i)) (sym k))))
            ]);
        begun = λ q n e. elim (path_cases p q) [
          | inr k ↦ subst (λ (r : Trail). Sits (spot_of r) 0 q) (sym (set_there path_eq g.trail p _ q k)) (h.begun q n e)
          | inl k ↦ absurd (not_early (subst (λ r. g.lines.served r ≡ early r) (sym k) n))
        ];
        new = λ q i j e v n f th k. elim (path_cases p q) [
          | inr d ↦ subst (λ (r : Trail). Stands (spot_of r) i q) (sym (set_there path_eq g.trail p _ q d)) (h.new q i j e v n f th (sent_same Done (suc b.before + i) q k))
          | inl d ↦ absurd (not_early (subst (λ r. g.lines.served r ≡ early r) (sym d) f))
        ];
      }
        where
          not_early : g.lines.served p ≡ early p → ⊥
          not_early z = above _ _ _ (Homes.rank_after kind owes b batches begins jobs (rt).index p (subst (λ i. visits w i p ≡ true) (rt).ticket_is (Homes.visits_t kind owes b batches begins jobs s g x h t p stopped))) (sym (ap (rank w p) (rt).ticket_is) ∙ m.latest) z
            where
              above : (a c d : ℕ) → a < c → c ≡ d → d ≡ a → ⊥
              above a c d l e f = omega (arith, l, e, f)

          settled : (q : Path) → Stands (spot_of (g.trail q)) (rt).index q → Sits (spot_of (set path_eq g.trail p (sent_on (g.trail p) to) q)) (suc (rt).index) q
          settled q y = elim (path_cases p q) [
            | inl d ↦ subst (λ r. Sits (spot_of (set path_eq g.trail p (sent_on (g.trail p) to) r)) (suc (rt).index) r) d (subst (λ (r : Trail). Sits (spot_of r) (suc (rt).index) p) (sym (set_at_path g.trail p _)) (ends_there to m.moved m.other (subst (λ r. Stands (spot_of (g.trail r)) (rt).index r) (sym d) y)))
            | inr d ↦ subst (λ (r : Trail). Sits (spot_of r) (suc (rt).index) q) (sym (set_there path_eq g.trail p _ q d)) (ends_off q (λ u k. clash _ (subst (λ r. path_eq p r ≡ true) (ap (λ (z : Path × ℕ). z.0) (some_same (p, to) (q, u) (sym m.moved ∙ k))) (path_self p)) d) y)
          ]

    -- a segment's end that enters a new child
    module _ (t : ℕ) (p : Path) (g' : Shows.Ghost F) (st : Step) (r : Trail) (f : Deeds.GoesIn kind.system w course b.before Is_real s g g' t p st r) (kids : (q : Path) (u : Step) (c : Child) → child_at (g.body q).children u ≡ Some c → (there b.tree (q ++ u ∷ []) ≡ true) ⊎ (0 < c.given)) where
      abbrev r₀ : Courses.Real kind owes b batches begins jobs t
      r₀ = Homes.real_t kind owes b batches begins jobs s g x h t p f.stopped

      now_t : (b.before < t) × (t ≤ g.lines.admitted)
      now_t = Homes.known_t kind owes b batches begins jobs s g x h t p f.stopped

      pos_in : g.lines.pos t ≤ w.last t
      pos_in = less (g.lines.pos t) (w.last t) f.more
        where
          less : (a c : ℕ) → suc a ≤ c → a ≤ c
          less a c l = omega (arith, l)

      comes_child : visits w t (p ++ st ∷ []) ≡ true
      comes_child = subst (λ u. visits w t u ≡ true) f.next (Rattle.wave_theory.proofs.Ranks.comes law t (suc (g.lines.pos t)) (w.place t (suc (g.lines.pos t))) (upto _ _ f.more) (law.held_entered t (suc (g.lines.pos t)) (w.place t (suc (g.lines.pos t))) (law.at_held t (suc (g.lines.pos t)) f.more)))
        where
          upto : (a c : ℕ) → a ≤ c → a ≤ suc c
          upto a c l = omega (arith, l)

      stage_in : (u : ℕ) → is_done (set nat_eq g.lines.stage t Entering u) ≡ is_done (g.lines.stage u)
      stage_in u = done_set g.lines.stage t Entering (sym (ap is_done f.stopped.stage)) u

      -- for other tickets or contexts
      sent_other : (u : ℕ) (q : Path) → (q ≡ p ++ st ∷ [] → t ≡ u → ⊥) → (u ≤ g.lines.admitted) × (w.entered u (set nat_eq g.lines.pos t (suc (g.lines.pos t)) u) q ≡ true) → SentTo o u q
      sent_other u q n e = Homes.entered_next kind owes b batches begins jobs s g x h t Entering q now_t.1 pos_in u (λ l m k d. n (k ∙ f.next) d) e

      early_child : early (p ++ st ∷ []) ≡ 0
      early_child = ap (λ i. if i then b.before else 0) (Homes.not_child_root kind owes b batches begins jobs p st)

      -- the first one that comes to the child
      first_in : (i : ℕ) (j : J) → Job i j → t ≡ suc b.before + i → rank w (p ++ st ∷ []) (suc b.before + i) ≡ suc (g.lines.served (p ++ st ∷ [])) → g.lines.served (p ++ st ∷ []) ≡ early (p ++ st ∷ []) → there b.places (p ++ st ∷ []) ≡ false → Stands (spot_of r) i (p ++ st ∷ [])
      first_in i j e d n m none = elim f.trail [
        | inl k ↦ absurd (elim (kids p st k.0 k.1) [
          | inl z ↦ clash _ z (sym (there_same (p ++ st ∷ [])) ∙ none)
          | inr z ↦ given_not k.0 k.1 z
        ])
        | inr k ↦ (
          ap (λ (u : ℕ × ℕ). u.0) (ap spot_of k.0) ∙ (Homes.stands_t kind owes b batches begins jobs s g x h t p f.stopped f.latest).0 ∙ ap (λ a. (grown a).fields p) same ∙ ap (λ a. (grown i).fields a) (sym (parent_child p st)) ∙ sym (Sites.made_beside kind owes b batches begins jobs i j e (g.lines.pos t) (p ++ st ∷ [])
              (subst (λ u. suc (g.lines.pos t) ≤ w.last u) d f.more) (subst (λ u. w.fresh u (suc (g.lines.pos t)) ≡ true) d f.fresh) (subst (λ u. w.place u (suc (g.lines.pos t)) ≡ p ++ st ∷ []) d f.next) none_there),
          ap (λ (u : ℕ × ℕ). u.1) (ap spot_of k.0) ∙ sym (Sites.unmoved kind owes b batches begins jobs i (p ++ st ∷ []) (child_not_root p st) none_there),
        )
      ]
        where
          same : (r₀).index ≡ i
          same = index_is _ _ _ (sym (r₀).ticket_is ∙ d)
            where
              index_is : (a c d : ℕ) → suc a + c ≡ suc a + d → c ≡ d
              index_is a c d e = omega (arith, e)

          number_is : rank w (p ++ st ∷ []) (suc b.before + i) ≡ suc (g.lines.given (p ++ st ∷ []))
          number_is = sym (ap (rank w (p ++ st ∷ [])) d) ∙ f.number

          given_not : (c : Child) → child_at (g.body p).children st ≡ Some c → 0 < c.given → ⊥
          given_not c k z = (let y : c.given ≡ g.lines.given (p ++ st ∷ []) = sym (ap (λ u. (child_or_new u 0).given) k) ∙ (x.entries p).given st in none_of _ _ _ _ y (sym number_is ∙ n) m early_child z)
            where
              none_of : (c v s e : ℕ) → c ≡ v → suc v ≡ suc s → s ≡ e → e ≡ 0 → 0 < c → ⊥
              none_of c v s e y n m k z = omega (arith, y, n, m, k, z)

          none_there : there (places i) (p ++ st ∷ []) ≡ false
          none_there = ap (λ a. there (places a) (p ++ st ∷ [])) (let z : i ≡ i + 0 = omega arith in z) ∙ (Sites.between kind owes b batches begins jobs i 0 (p ++ st ∷ []) ranks).2 ∙ none
            where
              up : b.before + (i + 0) ≡ b.before + i
              up = omega arith

              down : b.before ≡ b.before + 0
              down = omega arith

              v : visits w (suc (b.before + i)) (p ++ st ∷ []) ≡ true
              v = subst (λ a. visits w a (p ++ st ∷ []) ≡ true) (d ∙ (let z : suc b.before + i ≡ suc (b.before + i) = omega arith in z)) comes_child

              less_one : (a c d e : ℕ) → c ≡ suc a → c ≡ suc d → d ≡ e → a ≡ e
              less_one a c d e f g h = omega (arith, f, g, h)

              ranks : rank w (p ++ st ∷ []) (b.before + (i + 0)) ≡ rank w (p ++ st ∷ []) (b.before + 0)
              ranks = ap (rank w (p ++ st ∷ [])) up ∙ less_one _ _ _ _ (rank_in w (p ++ st ∷ []) (b.before + i) v) (ap (rank w (p ++ st ∷ [])) (let z : suc (b.before + i) ≡ suc b.before + i = omega arith in z) ∙ n) m ∙ sym (Homes.rank_early kind owes b batches begins jobs (p ++ st ∷ [])) ∙ ap (rank w (p ++ st ∷ [])) down

      -- where nothing was given yet nobody was let in
      none_in : (u : ℕ) → 1 ≤ u → visits w u (p ++ st ∷ []) ≡ true → rank w (p ++ st ∷ []) u ≡ g.lines.served (p ++ st ∷ []) → g.lines.given (p ++ st ∷ []) ≡ 0 → ⊥
      none_in u l v n z = none _ _ (rank_pos w (p ++ st ∷ []) u l v) (Homes.granted_sent kind owes b batches begins jobs s g x h u (p ++ st ∷ []) l v (subst (λ k. rank w (p ++ st ∷ []) u ≤ k) n (upto _))).0 z
        where
          upto : (a : ℕ) → a ≤ a
          upto a = omega arith

          none : (a c : ℕ) → 0 < a → a ≤ c → c ≡ 0 → ⊥
          none a c l m e = omega (arith, l, m, e)

      pub goes_in_homes : HomesOf (done_by w o t p (Deeds.Goes_in st r))
      goes_in_homes = record {
        old = h.old;
        from = h.from;
        last = λ q i j e v n. subst (λ u. At u (spot_of (set path_eq g.trail (p ++ st ∷ []) r q)) i q) (sym (stage_in (suc b.before + i))) (elim (path_cases (p ++ st ∷ []) q) [
          | inr d ↦ subst (λ (a : Trail). At (is_done (g.lines.stage (suc b.before + i))) (spot_of a) i q) (sym (set_there path_eq g.trail (p ++ st ∷ []) r q d)) (h.last q i j e v n)
          | inl d ↦ elim f.trail [
            | inl k ↦ subst (λ (a : Trail). At (is_done (g.lines.stage (suc b.before + i))) (spot_of a) i q) (sym (trail_same k.2 q d)) (h.last q i j e v n)
            | inr k ↦ absurd (none_in (suc b.before + i) (omega arith) (subst (λ a. visits w (suc b.before + i) a ≡ true) (sym d) v) (subst (λ a. rank w a (suc b.before + i) ≡ g.lines.served a) (sym d) n) k.1)
          ]
        ]);
        begun = λ q n e. elim (path_cases (p ++ st ∷ []) q) [
          | inr d ↦ subst (λ (a : Trail). Sits (spot_of a) 0 q) (sym (set_there path_eq g.trail (p ++ st ∷ []) r q d)) (h.begun q n e)
          | inl d ↦ elim f.trail [
            | inl k ↦ subst (λ (a : Trail). Sits (spot_of a) 0 q) (sym (trail_same k.2 q d)) (h.begun q n e)
            | inr k ↦ absurd (clash _ (h.old (p ++ st ∷ []) (sym (there_same (p ++ st ∷ [])) ∙ subst (λ a. there b.places a ≡ true) (sym d) e)) k.2)
          ]
        ];
        new = λ q i j e v n m th k. elim (path_cases (p ++ st ∷ []) q) [
          | inr d ↦ subst (λ (a : Trail). Stands (spot_of a) i q) (sym (set_there path_eq g.trail (p ++ st ∷ []) r q d)) (h.new q i j e v n m th (sent_other (suc b.before + i) q (λ z y. clash _ (subst (λ a. path_eq (p ++ st ∷ []) a ≡ true) (sym z) (path_self (p ++ st ∷ []))) d) k))
          | inl d ↦ subst (λ a. Stands (spot_of (set path_eq g.trail (p ++ st ∷ []) r a)) i a) d (subst (λ (a : Trail). Stands (spot_of a) i (p ++ st ∷ [])) (sym (set_at_path g.trail (p ++ st ∷ []) r))
              (at_child i j e (subst (λ a. visits w (suc b.before + i) a ≡ true) (sym d) v) (subst (λ a. rank w a (suc b.before + i) ≡ suc (g.lines.served a)) (sym d) n) (subst (λ a. g.lines.served a ≡ early a) (sym d) m) (subst (λ a. there b.places a ≡ false) (sym d) th)
              (subst (λ a. (suc b.before + i ≤ g.lines.admitted) × (w.entered (suc b.before + i) (set nat_eq g.lines.pos t (suc (g.lines.pos t)) (suc b.before + i)) a ≡ true)) (sym d) k)))
        ];
      }
        where
          trail_same : r ≡ g.trail (p ++ st ∷ []) → (q : Path) → (p ++ st ∷ []) ≡ q → set path_eq g.trail (p ++ st ∷ []) r q ≡ g.trail q
          trail_same e q d = subst (λ a. set path_eq g.trail (p ++ st ∷ []) r a ≡ g.trail a) d (set_at_path g.trail (p ++ st ∷ []) r ∙ e)

          at_child : (i : ℕ) (j : J) → Job i j → visits w (suc b.before + i) (p ++ st ∷ []) ≡ true → rank w (p ++ st ∷ []) (suc b.before + i) ≡ suc (g.lines.served (p ++ st ∷ [])) → g.lines.served (p ++ st ∷ []) ≡ early (p ++ st ∷ []) → there b.places (p ++ st ∷ []) ≡ false →
              (suc b.before + i ≤ g.lines.admitted) × (w.entered (suc b.before + i) (set nat_eq g.lines.pos t (suc (g.lines.pos t)) (suc b.before + i)) (p ++ st ∷ []) ≡ true) → Stands (spot_of r) i (p ++ st ∷ [])
          at_child i j e v n m th k = elim (number_cases t (suc b.before + i)) [
            | inl d ↦ first_in i j e d n m th
            | inr d ↦ (let k' = sent_other (suc b.before + i) (p ++ st ∷ []) (λ z y. not_same t (suc b.before + i) d y) k in elim f.trail [
              | inl z ↦ subst (λ (a : Trail). Stands (spot_of a) i (p ++ st ∷ [])) (sym z.2) (h.new (p ++ st ∷ []) i j e v n m th k')
              | inr z ↦ absurd (none _ _ (rank_pos w (p ++ st ∷ []) (suc b.before + i) (omega arith) v) ((x.good.sends (suc b.before + i) (p ++ st ∷ []) (omega arith) v).0 (record { known = k'.0; entered = k'.1 })) z.1)
            ])
          ]
            where
              none : (a c : ℕ) → 0 < a → a ≤ c → c ≡ 0 → ⊥
              none a c l m e = omega (arith, l, m, e)
