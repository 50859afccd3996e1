-- Each label keeps where contexts lie, and how often they were sent.
use Rattle.std.proofs.Common.{◌≡◌, ℕ, suc, ◌+◌, ◌<◌, ◌≤◌, ◌⊎◌, nat_eq, inl, inr, Bool, true, false, Some, List, [], ◌∷◌, ◌++◌, refl, sym, ◌∙◌, ap, subst, arith}
use Rattle.std.specs.Prelude.{All, if◌then◌else◌}
use Rattle.wave_base.specs.declared.path.Step.{Step}
use Rattle.wave_base.specs.declared.path.Path.{Path}
use Rattle.wave_base.specs.declared.children.Child.{Child}
use Rattle.wave_base.specs.Paths.{path_eq}
use Rattle.wave_base.specs.Kids.{child_at}
use Rattle.wave_base.specs.Tree.{there}
use Rattle.wave_states.specs.States.{State, set}
use Rattle.wave_states.specs.Labels.{Act, ticket_of, path_of}
use Rattle.wave_states.specs.Begins.{Begin, is_root, has_moved}
use Rattle.wave_states.specs.Kinds.{Kind}
use Rattle.wave_states.specs.Owes.{Owes, IsBegin}
use Rattle.wave_states.specs.Alone.{job_after}
use Rattle.wave_theory.proofs.Basics.{clash, bool_cases, number_cases, not_same, path_cases, set_at, set_there, set_at_path, differ}
use Rattle.wave_theory.proofs.Order.{Way, IsWay, visits, rank, Entering, Lined, Coming, There, here}
use Rattle.wave_theory.proofs.Ranks.{rank_same, rank_up_to, rank_every}
use Rattle.wave_theory.proofs.Leaves.{Course}
use Rattle.wave_theory.proofs.Tracks.{Trail, unborn}
use Rattle.wave_theory.proofs.Frames.{entered_spot, visits_of}
use Rattle.wave_theory.proofs.Courses
use Rattle.wave_theory.proofs.Beginning
use Rattle.wave_theory.proofs.Shows
use Rattle.wave_theory.proofs.Deeds.{Outline, outline, Deed, done_by}
use Rattle.wave_theory.proofs.Deeds
use Rattle.wave_theory.proofs.Sites
use Rattle.wave_theory.proofs.Tallies.{sum_to, sum_zero}
use Rattle.wave_theory.proofs.Stages.{lined_done, there_done}
use Rattle.wave_theory.proofs.Homes.{done_set, is_done, spot_of, spot_set}
use Rattle.wave_theory.proofs.Homes
use Rattle.wave_theory.proofs.HomesOver

module _ {A F R J : Type 0} (kind : Kind A F R J) (owes : Owes kind) (b : Begin F) (batches : List (List J)) (begins : IsBegin kind b) (jobs : All (All kind.is_job) batches) where
  abbrev w : Way
  w = Courses.w kind owes b batches begins jobs

  abbrev course : Course kind.system
  course = Courses.course kind owes b batches begins jobs

  abbrev law : IsWay w
  law = Homes.law kind owes b batches begins jobs

  abbrev Is_real : ℕ → Type 0
  Is_real = Courses.Real kind owes b batches begins jobs

  abbrev Job : ℕ → J → Type 0
  Job i j = job_after kind.system b batches i ≡ Some j

  abbrev shifts : Path → ℕ → ℕ
  shifts p i = Sites.shifts kind owes b batches begins jobs p i

  abbrev Sits : ℕ × ℕ → ℕ → Path → Type 0
  Sits x i p = Sites.Sits kind owes b batches begins jobs x i p

  abbrev Stands : ℕ × ℕ → ℕ → Path → Type 0
  Stands x i p = Sites.Stands kind owes b batches begins jobs x i p

  abbrev At : Bool → ℕ × ℕ → ℕ → Path → Type 0
  At true x i p = Sits x (suc i) p
  At false x i p = Stands x i p

  -- served before the run
  abbrev early : Path → ℕ
  early p = if is_root p then b.before else 0

  -- the Enter of the ticket to the context was sent
  abbrev SentTo : Outline → ℕ → Path → Type 0
  SentTo o t p = (t ≤ o.admitted) × (w.entered t (o.pos t) p ≡ true)

  abbrev HomesOf : (o : Outline) → Type 0
  HomesOf = Homes.HomesOf kind owes b batches begins jobs

  abbrev homes_by : (o o' : Outline) → HomesOf o → ((q : Path) → o.births q ≡ true → o'.births q ≡ true) → ((q : Path) → o'.served q ≡ o.served q) → ((q : Path) → spot_of (o'.trail q) ≡ spot_of (o.trail q)) →
      ((t : ℕ) (q : Path) → 1 ≤ t → visits w t q ≡ true → rank w q t ≡ o.served q → is_done (o'.stage t) ≡ is_done (o.stage t)) →
      ((t : ℕ) (q : Path) → there b.places q ≡ false → SentTo o' t q → SentTo o t q) → HomesOf o'
  homes_by = Homes.homes_by kind owes b batches begins jobs

  abbrev same_stage : (o o' : Outline) → ((t : ℕ) → is_done (o'.stage t) ≡ is_done (o.stage t)) → (t : ℕ) (q : Path) → 1 ≤ t → visits w t q ≡ true → rank w q t ≡ o.served q → is_done (o'.stage t) ≡ is_done (o.stage t)
  same_stage = Homes.same_stage kind owes b batches begins jobs

  abbrev rank_after : (i : ℕ) (p : Path) → visits w (suc b.before + i) p ≡ true → early p < rank w p (suc b.before + i)
  rank_after = Homes.rank_after kind owes b batches begins jobs

  module _ (s : State A F R J) (g : Shows.Ghost F) (x : Shows.Shows kind.system w course b.before Is_real s g) (h : HomesOf (outline g)) where
    abbrev o : Outline
    o = outline g

    abbrev real_of : (t : ℕ) → b.before < t → t ≤ g.lines.admitted → Courses.Real kind owes b batches begins jobs t
    real_of = Homes.real_of kind owes b batches begins jobs s g x h

    -- who is let in
    lets_in_homes : (t : ℕ) (p : Path) → Deeds.LetsIn kind.system w course b.before Is_real g t p → HomesOf (done_by w o t p Deeds.Lets_in)
    lets_in_homes t p f = record {
      old = h.old;
      from = λ q. elim (path_cases (here w g.lines t) q) [
        | inr d ↦ subst (λ n. early q ≤ n) (sym (set_there path_eq g.lines.served (here w g.lines t) _ q d)) (h.from q)
        | inl d ↦ subst (λ r. early r ≤ set path_eq g.lines.served (here w g.lines t) (suc (g.lines.served (here w g.lines t))) r) d (subst (λ n. early (here w g.lines t) ≤ n) (sym (set_at_path g.lines.served (here w g.lines t) _)) (upto _ _ (h.from (here w g.lines t))))
      ];
      last = λ q i j e v n. subst (λ u. At u (spot_of (g.trail q)) i q) (sym (stage_now (suc b.before + i))) (elim (path_cases (here w g.lines t) q) [
        | inr d ↦ h.last q i j e v (n ∙ set_there path_eq g.lines.served (here w g.lines t) _ q d)
        | inl d ↦ at_it i j q e d v (n ∙ sym (ap (set path_eq g.lines.served (here w g.lines t) (suc (g.lines.served (here w g.lines t)))) d) ∙ set_at_path g.lines.served (here w g.lines t) _)
      ]);
      begun = λ q n e. elim (path_cases (here w g.lines t) q) [
        | inr d ↦ h.begun q (sym (set_there path_eq g.lines.served (here w g.lines t) _ q d) ∙ n) e
        | inl d ↦ absurd (past q d n)
      ];
      new = λ q i j e v n m th k. elim (path_cases (here w g.lines t) q) [
        | inr d ↦ h.new q i j e v (n ∙ ap suc (set_there path_eq g.lines.served (here w g.lines t) _ q d)) (sym (set_there path_eq g.lines.served (here w g.lines t) _ q d) ∙ m) th k
        | inl d ↦ absurd (past q d m)
      ];
    }
      where
        upto : (a c : ℕ) → a ≤ c → a ≤ suc c
        upto a c l = omega (arith, l)

        known : (b.before < t) × (t ≤ g.lines.admitted)
        known = Homes.known_by kind owes b batches begins jobs s g x h t (λ e. lined_done (sym f.stage ∙ e))

        entered : w.entered t (g.lines.pos t) p ≡ true
        entered = subst (λ r. w.entered t (g.lines.pos t) r ≡ true) f.place (entered_spot kind.system w law course b.before Is_real g x.good t known.1 (λ e. lined_done (sym f.stage ∙ e)))

        visits_now : visits w t p ≡ true
        visits_now = visits_of kind.system w law course b.before Is_real g x.good t p known.1 entered

        stage_now : (u : ℕ) → is_done (set nat_eq g.lines.stage t There u) ≡ is_done (g.lines.stage u)
        stage_now u = done_set g.lines.stage t There (sym (ap is_done f.stage)) u

        past : (q : Path) → here w g.lines t ≡ q → set path_eq g.lines.served (here w g.lines t) (suc (g.lines.served (here w g.lines t))) q ≡ early q → ⊥
        past q d n = above _ _ _ (h.from q) (sym n ∙ sym (ap (set path_eq g.lines.served (here w g.lines t) (suc (g.lines.served (here w g.lines t)))) d) ∙ set_at_path g.lines.served (here w g.lines t) _) (ap g.lines.served d)
          where
            above : (a c d : ℕ) → a ≤ c → a ≡ suc d → d ≡ c → ⊥
            above a c d l e f = omega (arith, l, e, f)

        at_it : (i : ℕ) (j : J) (q : Path) → Job i j → here w g.lines t ≡ q → visits w (suc b.before + i) q ≡ true → rank w q (suc b.before + i) ≡ suc (g.lines.served (here w g.lines t)) → At (is_done (g.lines.stage (suc b.before + i))) (spot_of (g.trail q)) i q
        at_it i j q e d v n = subst (λ r. At (is_done (g.lines.stage (suc b.before + i))) (spot_of (g.trail r)) i r) pq
            (subst (λ u. At u (spot_of (g.trail p)) i p) (sym (ap is_done (sym (ap g.lines.stage same) ∙ f.stage))) (Homes.let_in_stands kind owes b batches begins jobs s g x h t p f i j e same known.1 visits_now entered))
          where
            pq : p ≡ q
            pq = sym f.place ∙ d

            same : t ≡ suc b.before + i
            same = rank_same w p t (suc b.before + i) visits_now (subst (λ r. visits w (suc b.before + i) r ≡ true) (sym pq) v) (f.number ∙ ap (λ r. suc (g.lines.served r)) (sym f.place) ∙ sym n ∙ ap (λ r. rank w r (suc b.before + i)) (sym pq))

    -- each deed
    by_deed : (g' : Shows.Ghost F) (t : ℕ) (p : Path) (d : Deed) → Deeds.Fits kind.system w course b.before Is_real s g g' t p d → ((q : Path) (u : Step) (c : Child) → child_at (g.body q).children u ≡ Some c → (there b.tree (q ++ u ∷ []) ≡ true) ⊎ (0 < c.given)) → HomesOf (done_by w o t p d)
    by_deed g' t p Deeds.Admits f kids = homes_by o (done_by w o t p Deeds.Admits) h (λ q e. e) (λ q. refl) (λ q. refl)
        (λ u q l v n. ap is_done (set_there nat_eq g.lines.stage (suc g.lines.admitted) Entering u (differ (suc g.lines.admitted) u (λ z. past _ _ (Homes.granted_sent kind owes b batches begins jobs s g x h u q l v (subst (λ k. rank w q u ≤ k) n (upto _))).1 z))))
        (λ u q th k. elim (number_cases (suc g.lines.admitted) u) [
          | inr d ↦ (less u k.0 d, subst (λ i. w.entered u i q ≡ true) (set_there nat_eq g.lines.pos (suc g.lines.admitted) 0 u d) k.1)
          | inl d ↦ absurd (clash _ begins.root (sym (Homes.there_same kind owes b batches begins jobs []) ∙ subst (λ r. there b.places r ≡ false) (law.first_entered u q (subst (λ i. w.entered u i q ≡ true) (subst (λ a. set nat_eq g.lines.pos (suc g.lines.admitted) 0 a ≡ 0) d (set_at g.lines.pos (suc g.lines.admitted) 0)) k.1)) th))
        ])
      where
        upto : (a : ℕ) → a ≤ a
        upto a = omega arith

        past : (a c : ℕ) → a ≤ c → suc c ≡ a → ⊥
        past a c l e = omega (arith, l, e)

        less : (u : ℕ) → u ≤ suc g.lines.admitted → nat_eq (suc g.lines.admitted) u ≡ false → u ≤ g.lines.admitted
        less u l d = less_by (g.lines.admitted) u l (λ e. not_same (suc g.lines.admitted) u d e)
          where
            less_by : (a u : ℕ) → u ≤ suc a → (suc a ≡ u → ⊥) → u ≤ a
            less_by a u l n = grind arith
    by_deed g' t p Deeds.Lines_up f kids = homes_by o (done_by w o t p Deeds.Lines_up) h
        (λ q e. elim (path_cases p q) [ inr d ↦ set_there path_eq g.born p true q d ∙ e | inl d ↦ subst (λ r. set path_eq g.born p true r ≡ true) d (set_at_path g.born p true) ])
        (λ q. refl) (spot_set g.trail p (Deeds.grown (g.born p) (g.trail p)) (same (g.born p) refl)) (same_stage o (done_by w o t p Deeds.Lines_up) (done_set g.lines.stage t Lined (sym (ap is_done f.stage)))) (λ u q th k. k)
      where
        same : (i : Bool) → g.born p ≡ i → spot_of (Deeds.grown i (g.trail p)) ≡ spot_of (g.trail p)
        same true e = refl
        same false e = ap (λ n. ((g.trail p).at n, n)) (sym (f.unborn e))
    by_deed g' t p Deeds.Lets_in f kids = lets_in_homes t p f
    by_deed g' t p Deeds.Arrives f kids = homes_by o (done_by w o t p Deeds.Arrives) h (λ q e. e) (λ q. refl) (λ q. refl) (same_stage o (done_by w o t p Deeds.Arrives) (done_set g.lines.stage t There (sym (ap is_done f)))) (λ u q th k. k)
    by_deed g' t p Deeds.Rests f kids = h
    by_deed g' t p Deeds.Lands f kids = homes_by o (done_by w o t p Deeds.Lands) h (λ q e. e) (λ q. refl) (spot_set g.trail p _ refl) (same_stage o (done_by w o t p Deeds.Lands) (λ u. refl)) (λ u q th k. k)
    by_deed g' t p Deeds.Goes_on f kids = homes_by o (done_by w o t p Deeds.Goes_on) h (λ q e. e) (λ q. refl) (λ q. refl) (same_stage o (done_by w o t p Deeds.Goes_on) (done_set g.lines.stage t Coming (sym (ap is_done f.stopped.stage))))
        (λ u q th k. Homes.entered_next kind owes b batches begins jobs s g x h t Coming q (Homes.known_by kind owes b batches begins jobs s g x h t (λ e. there_done (sym f.stopped.stage ∙ e))).1 (less _ _ f.more) u (λ l m r d. clash _ m f.stale) k)
      where
        less : (a c : ℕ) → suc a ≤ c → a ≤ c
        less a c l = omega (arith, l)
    by_deed g' t p Deeds.Ends f kids = HomesOver.ends_homes kind owes b batches begins jobs s g x h t p f.stopped f.last f.result f.result_is f.move_is
    by_deed g' t p (Deeds.Goes_in st r) f kids = HomesOver.goes_in_homes kind owes b batches begins jobs s g x h t p g' st r f kids
    by_deed g' t p (Deeds.Moves to) f kids = HomesOver.moves_homes kind owes b batches begins jobs s g x h t p f.stopped f.last f.result f.result_is to f.move_is

    -- how often a context was sent on to which a ticket is on its way, or where one was
    pub sent_so_often : ((p : Path) → g.lines.served p ≤ rank w p g.lines.admitted) → (t : ℕ) (p : Path) → b.before < t → t ≤ g.lines.admitted → w.entered t (g.lines.pos t) p ≡ true → (m : ℕ) × (i : ℕ) × (j : J) × Job i j × (m ≤ suc i) × ((g.trail p).last ≡ shifts p m)
    sent_so_often few t p lt la en = by (equal_or (early p) (g.lines.served p) (h.from p))
      where
        equal_or : (a c : ℕ) → a ≤ c → (c ≡ a) ⊎ (a < c)
        equal_or a c l = grind arith

        rt : Courses.Real kind owes b batches begins jobs t
        rt = real_of t lt la

        v : visits w t p ≡ true
        v = visits_of kind.system w law course b.before Is_real g x.good t p la en

        upto : (a : ℕ) → a ≤ a
        upto a = omega arith

        later : (a : ℕ) → early p < rank w p a → b.before < a
        later a m = above b.before a (rank w p a) (rank w p b.before) (early p) (λ l. rank_up_to w p a b.before l) (Homes.rank_early kind owes b batches begins jobs p) m
          where
            above : (c a ra rc e : ℕ) → (a ≤ c → ra ≤ rc) → rc ≡ e → e < ra → c < a
            above c a ra rc e f k m = elim (below_or c a) [ inl z ↦ z | inr z ↦ absurd (let y = f z in omega (arith, y, k, m)) ]
              where
                below_or : (a c : ℕ) → (a < c) ⊎ (c ≤ a)
                below_or a c = grind arith

        at_stage : (d : Bool) (i : ℕ) → At d (spot_of (g.trail p)) i p → (m : ℕ) × (m ≤ suc i) × ((g.trail p).last ≡ shifts p m)
        at_stage true i y = (suc i, upto (suc i), y.1)
        at_stage false i y = (i, less i, y.1)
          where
            less : (a : ℕ) → a ≤ suc a
            less a = omega arith

        by : (g.lines.served p ≡ early p) ⊎ (early p < g.lines.served p) → (m : ℕ) × (i : ℕ) × (j : J) × Job i j × (m ≤ suc i) × ((g.trail p).last ≡ shifts p m)
        by (inl z) = elim (bool_cases (there b.places p)) [
          | inl th ↦ (0, rt.index, rt.job, rt.job_is, (let q : 0 ≤ suc rt.index = omega arith in q), (h.begun p z th).1)
          | inr th ↦ (let a = rank_every w p t (suc (g.lines.served p)) (omega arith) (at_least _ _ _ z (subst (λ u. early p < rank w p u) (sym rt.ticket_is) (rank_after rt.index p (subst (λ u. visits w u p ≡ true) rt.ticket_is v)))) in
              let lb : b.before < a.0 = later a.0 (more _ _ _ z a.4) in
              let ka : a.0 ≤ g.lines.admitted = trans a.0 t g.lines.admitted a.2 la in
              let r = real_of a.0 lb ka in
              let k = (x.good.sends a.0 p a.1 a.3).1 (subst (λ n. n ≤ g.lines.given p) (sym a.4) (trans (suc (g.lines.served p)) (rank w p t) (g.lines.given p) (at_least _ _ _ z (subst (λ u. early p < rank w p u) (sym rt.ticket_is) (rank_after rt.index p (subst (λ u. visits w u p ≡ true) rt.ticket_is v)))) ((x.good.sends t p (first t lt) v).0 (record { known = la; entered = en })))) in (
                r.index,
                r.index,
                r.job,
                r.job_is,
                (let q : r.index ≤ suc r.index = omega arith in q),
                (h.new p r.index r.job r.job_is (subst (λ u. visits w u p ≡ true) r.ticket_is a.3) (sym (ap (rank w p) r.ticket_is) ∙ a.4) z th (subst (λ u. SentTo o u p) r.ticket_is (ka, k.entered))).1,
              ))
        ]
          where
            first : (t : ℕ) → b.before < t → 1 ≤ t
            first t l = omega (arith, l)

            at_least : (e s r : ℕ) → s ≡ e → e < r → suc s ≤ r
            at_least e s r z l = omega (arith, z, l)

            more : (e s r : ℕ) → s ≡ e → r ≡ suc s → e < r
            more e s r z l = omega (arith, z, l)

            trans : (a c d : ℕ) → a ≤ c → c ≤ d → a ≤ d
            trans a c d l m = omega (arith, l, m)
        by (inr l) = (let a = rank_every w p g.lines.admitted (g.lines.served p) (positive _ _ l) (few p) in
            let r = real_of a.0 (later a.0 (subst (λ n. early p < n) (sym a.4) l)) a.2 in
            let y = at_stage (is_done (g.lines.stage (suc b.before + r.index))) r.index (h.last p r.index r.job r.job_is (subst (λ u. visits w u p ≡ true) r.ticket_is a.3) (sym (ap (rank w p) r.ticket_is) ∙ a.4)) in
            (y.0, r.index, r.job, r.job_is, y.1, y.2))
          where
            positive : (a c : ℕ) → a < c → 1 ≤ c
            positive a c l = omega (arith, l)

  pub homes_next : (s : State A F R J) (g g' : Shows.Ghost F) (a : Act) → Shows.Shows kind.system w course b.before Is_real s g → Deeds.Turn kind.system w course b.before Is_real s g g' a → Homes.Homes kind owes b batches begins jobs g → Homes.Homes kind owes b batches begins jobs g'
  homes_next s g g' a x t h = record {
    of = subst HomesOf (sym t.is) (by_deed s g x h.of g' (ticket_of a) (path_of a) t.deed t.fits h.kids);
    kids = λ q st c e. elim (t.kids q st c e) [ inl k ↦ h.kids q st c k | inr k ↦ inr k ];
  }

  pub homes_first : Homes.Homes kind owes b batches begins jobs (Beginning.ghost₀ kind owes b batches begins jobs)
  homes_first = record {
    of = record {
      old = λ p e. e;
      from = λ p. upto (early p);
      last = λ p i j e v n. absurd (past _ _ (rank_after i p v) n);
      begun = λ p n e. at_begin p (sym (Homes.there_same kind owes b batches begins jobs p) ∙ e) (has_moved b p) refl;
      new = λ p i j e v n m f k. absurd (not_yet i k.0);
    };
    kids = λ q st c e. inl (Beginning.kid_there kind owes b batches begins jobs q st c e);
  }
    where
      upto : (a : ℕ) → a ≤ a
      upto a = omega arith

      past : (a c : ℕ) → a < c → c ≡ a → ⊥
      past a c l e = omega (arith, l, e)

      not_yet : (i : ℕ) → suc b.before + i ≤ b.before → ⊥
      not_yet i l = omega (arith, l)

      moved_sits : (p : Path) (i : Bool) → has_moved b p ≡ i → Sits (spot_of (Beginning.moved_trail kind owes b batches begins jobs i p)) 0 p
      moved_sits p true m = (refl, sym (ap (λ i. (if i then 1 else 0) + sum_to 0 (Sites.shift kind owes b batches begins jobs p)) m ∙ ap (λ n. 1 + n) (sum_zero _)))
      moved_sits p false m = (refl, sym (ap (λ i. (if i then 1 else 0) + sum_to 0 (Sites.shift kind owes b batches begins jobs p)) m ∙ ap (λ n. 0 + n) (sum_zero _)))

      at_begin : (p : Path) → there b.tree p ≡ true → (i : Bool) → has_moved b p ≡ i → Sits (spot_of ((Beginning.ghost₀ kind owes b batches begins jobs).trail p)) 0 p
      at_begin p e i m = subst (λ (r : Trail). Sits (spot_of r) 0 p) (sym (ap (λ u. if u then Beginning.moved_trail kind owes b batches begins jobs (has_moved b p) p else unborn 0) e ∙ ap (λ u. Beginning.moved_trail kind owes b batches begins jobs u p) m)) (moved_sits p i m)
