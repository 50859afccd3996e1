-- A context lies where the fold has it after the tickets that came to it.
use Rattle.std.proofs.Common.{◌≡◌, ◌≢◌, ℕ, zero, suc, ◌+◌, ◌<◌, ◌≤◌, ◌⊎◌, nat_eq, inl, inr, Bool, true, false, Some, List, [], ◌∷◌, ◌++◌, refl, sym, ◌∙◌, ap, subst, arith}
use Rattle.std.specs.Prelude.{All, if◌then◌else◌}
use Rattle.wave_base.specs.declared.path.Step.{Step}
use Rattle.wave_base.specs.declared.path.Path.{Path}
use Rattle.wave_base.specs.declared.children.Child.{Child}
use Rattle.wave_base.specs.Paths.{path_eq}
use Rattle.wave_base.specs.Kids.{child_at}
use Rattle.wave_base.specs.Tree.{Tree, there}
use Rattle.std.specs.List.{list_any}
use Rattle.wave_states.specs.States.{State, set}
use Rattle.wave_states.specs.Begins.{Begin, is_root}
use Rattle.wave_states.specs.Kinds.{Kind}
use Rattle.wave_states.specs.Owes.{Owes, IsBegin}
use Rattle.wave_states.specs.Alone.{job_after}
use Rattle.wave_theory.proofs.Basics.{clash, none_not, bool_cases, number_cases, path_cases, set_at, set_there, set_at_path}
use Rattle.wave_theory.proofs.Order.{Way, IsWay, visits, rank, Stage, Entering, Lined, Coming, There, Done, here}
use Rattle.wave_theory.proofs.Ranks.{rank_in, rank_less, rank_up_to, rank_every}
use Rattle.wave_theory.proofs.Leaves.{Course, after_exit}
use Rattle.wave_theory.proofs.Tracks.{Trail, owner}
use Rattle.wave_theory.proofs.Frames.{entered_spot, visits_of}
use Rattle.wave_theory.proofs.Courses
use Rattle.wave_theory.proofs.Beginning
use Rattle.wave_theory.proofs.Shows
use Rattle.wave_theory.proofs.Deeds.{Outline, outline}
use Rattle.wave_theory.proofs.Deeds
use Rattle.wave_theory.proofs.Sites
use Rattle.wave_theory.proofs.Stages.{there_done}

abbrev pub is_done : Stage → Bool
is_done Done = true
is_done Entering = false
is_done Lined = false
is_done Coming = false
is_done There = false

abbrev pub spot_of : Trail → ℕ × ℕ
spot_of r = (owner r, r.last)

pub spot_set : (f : Path → Trail) (p : Path) (r : Trail) → spot_of r ≡ spot_of (f p) → (q : Path) → spot_of (set path_eq f p r q) ≡ spot_of (f q)
spot_set f p r e q = elim (path_cases p q) [
  | inr d ↦ ap spot_of (set_there path_eq f p r q d)
  | inl d ↦ subst (λ u. spot_of (set path_eq f p r u) ≡ spot_of (f u)) d (ap spot_of (set_at_path f p r) ∙ e)
]

pub done_set : (f : ℕ → Stage) (t : ℕ) (v : Stage) → is_done v ≡ is_done (f t) → (u : ℕ) → is_done (set nat_eq f t v u) ≡ is_done (f u)
done_set f t v e u = elim (number_cases t u) [
  | inr d ↦ ap is_done (set_there nat_eq f t v u d)
  | inl d ↦ subst (λ i. is_done (set nat_eq f t v i) ≡ is_done (f i)) d (ap is_done (set_at f t v) ∙ e)
]

module _ {A F R J : Type 0} (kind : Kind A F R J) (owes : Owes kind) (b : Begin F) (batches : List (List J)) (begins : IsBegin kind b) (jobs : All (All kind.is_job) batches) where
  abbrev pub w : Way
  w = Courses.w kind owes b batches begins jobs

  abbrev pub course : Course kind.system
  course = Courses.course kind owes b batches begins jobs

  pub law : IsWay w
  law = Courses.law kind owes b batches begins jobs

  abbrev pub Is_real : ℕ → Type 0
  Is_real = Courses.Real kind owes b batches begins jobs

  abbrev pub Job : ℕ → J → Type 0
  Job i j = job_after kind.system b batches i ≡ Some j

  abbrev places : ℕ → Tree ℕ
  places i = Sites.places kind owes b batches begins jobs i

  abbrev shifts : Path → ℕ → ℕ
  shifts p i = Sites.shifts kind owes b batches begins jobs p i

  abbrev pub Sits : ℕ × ℕ → ℕ → Path → Type 0
  Sits x i p = Sites.Sits kind owes b batches begins jobs x i p

  abbrev pub Stands : ℕ × ℕ → ℕ → Path → Type 0
  Stands x i p = Sites.Stands kind owes b batches begins jobs x i p

  abbrev pub At : Bool → ℕ × ℕ → ℕ → Path → Type 0
  At true x i p = Sits x (suc i) p
  At false x i p = Stands x i p

  -- served before the run
  abbrev pub early : Path → ℕ
  early p = if is_root p then b.before else 0

  pub rank_early : (p : Path) → rank w p b.before ≡ early p
  rank_early p = Beginning.rank_start kind owes b batches begins jobs p

  -- the Enter of the ticket to the context was sent
  abbrev pub SentTo : Outline → ℕ → Path → Type 0
  SentTo o t p = (t ≤ o.admitted) × (w.entered t (o.pos t) p ≡ true)

  pub record HomesOf (o : Outline) : Type 0 where
    pub old : (p : Path) → there b.tree p ≡ true → o.births p ≡ true
    pub from : (p : Path) → early p ≤ o.served p
    -- after the ticket that came last
    pub last : (p : Path) (i : ℕ) (j : J) → Job i j → visits w (suc b.before + i) p ≡ true → rank w p (suc b.before + i) ≡ o.served p → At (is_done (o.stage (suc b.before + i))) (spot_of (o.trail p)) i p
    -- before any came
    pub begun : (p : Path) → o.served p ≡ early p → there b.places p ≡ true → Sits (spot_of (o.trail p)) 0 p
    -- on the way of the first one
    pub new : (p : Path) (i : ℕ) (j : J) → Job i j → visits w (suc b.before + i) p ≡ true → rank w p (suc b.before + i) ≡ suc (o.served p) → o.served p ≡ early p → there b.places p ≡ false → SentTo o (suc b.before + i) p → Stands (spot_of (o.trail p)) i p

  pub record Homes (g : Shows.Ghost F) : Type 0 where
    pub of : HomesOf (outline g)
    pub kids : (q : Path) (st : Step) (c : Child) → child_at (g.body q).children st ≡ Some c → (there b.tree (q ++ st ∷ []) ≡ true) ⊎ (0 < c.given)

  -- where little changes
  pub homes_by : (o o' : Outline) → HomesOf o → ((q : Path) → o.births q ≡ true → o'.births q ≡ true) → ((q : Path) → o'.served q ≡ o.served q) → ((q : Path) → spot_of (o'.trail q) ≡ spot_of (o.trail q)) →
      ((t : ℕ) (q : Path) → 1 ≤ t → visits w t q ≡ true → rank w q t ≡ o.served q → is_done (o'.stage t) ≡ is_done (o.stage t)) →
      ((t : ℕ) (q : Path) → there b.places q ≡ false → SentTo o' t q → SentTo o t q) → HomesOf o'
  homes_by o o' h births served trail stage sent = record {
    old = λ p e. births p (h.old p e);
    from = λ p. subst (λ n. early p ≤ n) (sym (served p)) (h.from p);
    last = λ p i j e v n. let n' = n ∙ served p in subst (λ x. At (is_done (o'.stage (suc b.before + i))) x i p) (sym (trail p)) (subst (λ u. At u (spot_of (o.trail p)) i p) (sym (stage (suc b.before + i) p (omega arith) v n')) (h.last p i j e v n'));
    begun = λ p n e. subst (λ x. Sits x 0 p) (sym (trail p)) (h.begun p (sym (served p) ∙ n) e);
    new = λ p i j e v n m f k. subst (λ x. Stands x i p) (sym (trail p)) (h.new p i j e v (n ∙ ap suc (served p)) (sym (served p) ∙ m) f (sent (suc b.before + i) p f k));
  }

  pub same_stage : (o o' : Outline) → ((t : ℕ) → is_done (o'.stage t) ≡ is_done (o.stage t)) → (t : ℕ) (q : Path) → 1 ≤ t → visits w t q ≡ true → rank w q t ≡ o.served q → is_done (o'.stage t) ≡ is_done (o.stage t)
  same_stage o o' f t q l v e = f t

  -- the ticket of a job has a higher number than was served before the run
  pub rank_after : (i : ℕ) (p : Path) → visits w (suc b.before + i) p ≡ true → early p < rank w p (suc b.before + i)
  rank_after i p v = subst (λ n. n < rank w p (suc b.before + i)) (rank_early p) (rank_less w p b.before (suc b.before + i) (omega arith) v)

  pub there_same : (p : Path) → there b.places p ≡ there b.tree p
  there_same p = ap (λ ps. list_any (path_eq p) ps) begins.places

  pub not_child_root : (p : Path) (st : Step) → is_root (p ++ st ∷ []) ≡ false
  not_child_root [] st = refl
  not_child_root (u ∷ p) st = refl

  -- a ticket that is under way
  pub known_by_shows : (s : State A F R J) (g : Shows.Ghost F) → Shows.Shows kind.system w course b.before Is_real s g → (t : ℕ) → g.lines.stage t ≢ Done → (b.before < t) × (t ≤ g.lines.admitted)
  known_by_shows s g x t n = elim (below_or b.before t) [
    | inr l ↦ absurd (n (x.idle t (λ i m. absurd (omega (arith, i, l)))).0)
    | inl l ↦ elim (below_or g.lines.admitted t) [
      | inr m ↦ (l, m)
      | inl m ↦ absurd (n (x.idle t (λ i k. absurd (omega (arith, k, m)))).0)
    ]
  ]
    where
      below_or : (a c : ℕ) → (a < c) ⊎ (c ≤ a)
      below_or a c = grind arith

  module _ (s : State A F R J) (g : Shows.Ghost F) (x : Shows.Shows kind.system w course b.before Is_real s g) (h : HomesOf (outline g)) where
    abbrev pub o : Outline
    o = outline g

    pub known_by : (t : ℕ) → g.lines.stage t ≢ Done → (b.before < t) × (t ≤ g.lines.admitted)
    known_by t n = known_by_shows s g x t n

    pub real_of : (t : ℕ) → b.before < t → t ≤ g.lines.admitted → Courses.Real kind owes b batches begins jobs t
    real_of t l m = (x.cells t l m).real

    -- a ticket that was let in was sent
    pub granted_sent : (t : ℕ) (q : Path) → 1 ≤ t → visits w t q ≡ true → rank w q t ≤ g.lines.served q → (rank w q t ≤ g.lines.given q) × (t ≤ g.lines.admitted) × (w.entered t (g.lines.pos t) q ≡ true)
    granted_sent t q l v r = (let k = (x.good.grants t q l v).1 r in ((x.good.sends t q l v).0 (record { known = k.known; entered = k.entered }), k.known, k.entered))

    pub not_done : (v : Stage) → v ≡ There → is_done v ≡ false
    not_done v e = ap is_done e

    -- what a segment's end enters
    pub entered_next : (t : ℕ) (v : Stage) (q : Path) → t ≤ g.lines.admitted → g.lines.pos t ≤ w.last t → (u : ℕ) → ((suc (g.lines.pos t) ≤ w.last t) → w.fresh t (suc (g.lines.pos t)) ≡ true → q ≡ w.place t (suc (g.lines.pos t)) → t ≡ u → ⊥) →
        (u ≤ g.lines.admitted) × (w.entered u (set nat_eq g.lines.pos t (suc (g.lines.pos t)) u) q ≡ true) → SentTo o u q
    entered_next t v q la l u other e = elim (number_cases t u) [
      | inr d ↦ (e.0, subst (λ k. w.entered u k q ≡ true) (set_there nat_eq g.lines.pos t _ u d) e.1)
      | inl d ↦ subst (λ i. SentTo o i q) d (
        la,
        elim (law.new t (g.lines.pos t) q l (subst (λ k. w.entered t k q ≡ true) (set_at g.lines.pos t (suc (g.lines.pos t))) (subst (λ i. w.entered i (set nat_eq g.lines.pos t (suc (g.lines.pos t)) i) q ≡ true) (sym d) e.1))) [
          | inl z ↦ z
          | inr z ↦ absurd (other z.0 z.1 z.2 d)
        ],
      )
    ]

    -- the ticket that ends
    module _ (t : ℕ) (p : Path) (stopped : Deeds.Stopped kind.system w course b.before Is_real g t p) where
      pub known_t : (b.before < t) × (t ≤ g.lines.admitted)
      known_t = known_by t (λ e. there_done (sym stopped.stage ∙ e))

      pub real_t : Courses.Real kind owes b batches begins jobs t
      real_t = real_of t known_t.0 known_t.1

      pub visits_t : visits w t p ≡ true
      visits_t = subst (λ r. visits w t r ≡ true) stopped.place (visits_of kind.system w law course b.before Is_real g x.good t (here w g.lines t) known_t.1 (entered_spot kind.system w law course b.before Is_real g x.good t known_t.1 (λ e. there_done (sym stopped.stage ∙ e))))

      -- where it is
      pub stands_t : rank w p t ≡ g.lines.served p → Stands (spot_of (g.trail p)) real_t.index p
      stands_t e = subst (λ u. At u (spot_of (g.trail p)) real_t.index p) (not_done (g.lines.stage (suc b.before + real_t.index)) (ap g.lines.stage (sym real_t.ticket_is) ∙ stopped.stage))
          (h.last p real_t.index real_t.job real_t.job_is (subst (λ i. visits w i p ≡ true) real_t.ticket_is visits_t) (sym (ap (rank w p) real_t.ticket_is) ∙ e))

    -- a ticket that was let in last, and is not over or leaves the context where it is, as the next one finds it
    calm_sits : (p : Path) (i : ℕ) (j : J) → Job i j → visits w (suc b.before + i) p ≡ true → rank w p (suc b.before + i) ≡ g.lines.served p → Shows.IsCalm kind.system w course b.before Is_real g.lines p → suc b.before + i ≤ g.lines.admitted → Sits (spot_of (g.trail p)) (suc i) p
    calm_sits p i j e v n calm la = by (bool_cases (is_done (g.lines.stage (suc b.before + i))))
      where
        t : ℕ
        t = suc b.before + i

        a : At (is_done (g.lines.stage (suc b.before + i))) (spot_of (g.trail p)) i p
        a = h.last p i j e v n

        done_is : (v : Stage) → v ≡ Done → is_done v ≡ true
        done_is v e = ap is_done e

        stays : is_done (g.lines.stage (suc b.before + i)) ≡ false → (u : ℕ) → kind.system.moved (Sites.ran kind owes b batches begins jobs i j).result ≡ Some (p, u) → ⊥
        stays f u m = elim (bool_cases (g.lines.holds p (suc b.before + i))) [
          | inl hd ↦ none_not (sym (Sites.looking_stays kind owes b batches begins jobs i j e (subst (λ r. w.looks (suc b.before + i) r ≡ true) place (calm (suc b.before + i) hd))) ∙ m)
          | inr hd ↦ clash _ (subst (λ r. w.held (suc b.before + i) (w.last (suc b.before + i)) r ≡ true) (sym place) (law.at_held (suc b.before + i) (w.last (suc b.before + i)) (omega arith)))
              (after_exit kind.system law (Courses.courses kind owes b batches begins jobs) (suc b.before + i) (g.lines.pos (suc b.before + i)) (w.last (suc b.before + i)) p going (omega arith) granted.entered (not_held hd)).1
        ]
          where
            place : p ≡ w.place (suc b.before + i) (w.last (suc b.before + i))
            place = Sites.moves_last kind owes b batches begins jobs i j e p u m

            going : g.lines.pos (suc b.before + i) ≤ w.last (suc b.before + i)
            going = x.good.going (suc b.before + i) la (λ z. clash _ (done_is (g.lines.stage (suc b.before + i)) z) f)

            granted : Rattle.wave_theory.proofs.Order.Granted w g.lines (suc b.before + i) p
            granted = (x.good.grants (suc b.before + i) p (omega arith) v).1 (subst (λ k. rank w p (suc b.before + i) ≤ k) n (omega arith))

            not_held : g.lines.holds p (suc b.before + i) ≡ false → w.held (suc b.before + i) (g.lines.pos (suc b.before + i)) p ≡ false
            not_held hd = elim (bool_cases (w.held (suc b.before + i) (g.lines.pos (suc b.before + i)) p)) [ inr z ↦ z | inl z ↦ absurd (clash _ (x.good.keeps (suc b.before + i) p (omega arith) granted z) hd) ]

        by : (is_done (g.lines.stage (suc b.before + i)) ≡ true) ⊎ (is_done (g.lines.stage (suc b.before + i)) ≡ false) → Sits (spot_of (g.trail p)) (suc i) p
        by (inl d) = subst (λ u. At u (spot_of (g.trail p)) i p) d a
        by (inr d) = (let y : Stands (spot_of (g.trail p)) i p = subst (λ u. At u (spot_of (g.trail p)) i p) d a in
            let z = Sites.elsewhere kind owes b batches begins jobs i j e p (stays d) in
            (y.0 ∙ sym z.0, y.1 ∙ none_more _ _ _ (Sites.shifts_next kind owes b batches begins jobs i p) z.1))
          where
            none_more : (n m k : ℕ) → m ≡ n + k → k ≡ 0 → n ≡ m
            none_more n m k e f = omega (arith, e, f)

    -- who is let in finds the context there
    pub let_in_stands : (t : ℕ) (p : Path) → Deeds.LetsIn kind.system w course b.before Is_real g t p → (i : ℕ) (j : J) → Job i j → t ≡ suc b.before + i → t ≤ g.lines.admitted → visits w t p ≡ true → w.entered t (g.lines.pos t) p ≡ true → Stands (spot_of (g.trail p)) i p
    let_in_stands t p f i j e ti la v en = by (equal_or (early p) (g.lines.served p) (h.from p))
      where
        equal_or : (a c : ℕ) → a ≤ c → (c ≡ a) ⊎ (a < c)
        equal_or a c l = grind arith

        v' : visits w (suc b.before + i) p ≡ true
        v' = subst (λ u. visits w u p ≡ true) ti v

        before_t : rank w p (b.before + i) ≡ g.lines.served p
        before_t = less_one _ _ (sym (rank_in w p (b.before + i) (subst (λ n. visits w n p ≡ true) (let z : suc b.before + i ≡ suc (b.before + i) = omega arith in z) v')) ∙ ap (rank w p) (let z : suc (b.before + i) ≡ suc b.before + i = omega arith in z) ∙ sym (ap (rank w p) ti) ∙ f.number)
          where
            less_one : (a c : ℕ) → suc a ≡ suc c → a ≡ c
            less_one a c e = omega (arith, e)

        settle : (a d : ℕ) → i ≡ d + a → rank w p (b.before + a) ≡ g.lines.served p → Sits (spot_of (g.trail p)) a p → there (places a) p ≡ true → Stands (spot_of (g.trail p)) i p
        settle a d ia r y th = (let z = Sites.between kind owes b batches begins jobs d a p (ap (λ n. rank w p (b.before + n)) (sym ia) ∙ before_t ∙ sym r) in
            let th' : there (places i) p ≡ true = ap (λ n. there (places n) p) ia ∙ z.2 ∙ th in
            (y.0 ∙ sym z.0 ∙ ap (λ n. (places n).fields p) (sym ia) ∙ sym (Sites.grown_old kind owes b batches begins jobs i p th'), y.1 ∙ sym z.1 ∙ ap (shifts p) (sym ia)))

        by : (g.lines.served p ≡ early p) ⊎ (early p < g.lines.served p) → Stands (spot_of (g.trail p)) i p
        by (inl z) = elim (bool_cases (there b.places p)) [
          | inl th ↦ settle 0 i (let q : i ≡ i + 0 = omega arith in q) (ap (rank w p) (let q : b.before + 0 ≡ b.before = omega arith in q) ∙ rank_early p ∙ sym z) (h.begun p z th) th
          | inr th ↦ h.new p i j e v' (sym (ap (rank w p) ti) ∙ f.number) z th (subst (λ u. SentTo o u p) ti (la, en))
        ]
        by (inr l) = (let a = rank_every w p t (g.lines.served p) (positive _ _ l) (subst (λ n. g.lines.served p ≤ n) (sym f.number) (omega arith)) in
            let la' : a.0 ≤ g.lines.admitted = trans a.0 t g.lines.admitted a.2 la in
            let lb : b.before < a.0 = later a.0 a.4 in
            let r = real_of a.0 lb la' in
            let vr : visits w (suc b.before + r.index) p ≡ true = subst (λ u. visits w u p ≡ true) r.ticket_is a.3 in
            let nr : rank w p (suc b.before + r.index) ≡ g.lines.served p = sym (ap (rank w p) r.ticket_is) ∙ a.4 in
            let d = difference (suc r.index) i (earlier a.0 r.index r.ticket_is a.2 (λ q. not_itself a.0 q a.4)) in
            settle (suc r.index) d.0 d.1 (ap (rank w p) (let q : b.before + suc r.index ≡ suc b.before + r.index = omega arith in q) ∙ nr)
            (calm_sits p r.index r.job r.job_is vr nr f.calm (subst (λ u. u ≤ g.lines.admitted) r.ticket_is la'))
            (Sites.there_entered kind owes b batches begins jobs r.index r.job p r.job_is vr))
          where
            positive : (a c : ℕ) → a < c → 1 ≤ c
            positive a c l = omega (arith, l)

            trans : (a c d : ℕ) → a ≤ c → c ≤ d → a ≤ d
            trans a c d l m = omega (arith, l, m)

            later : (a : ℕ) → rank w p a ≡ g.lines.served p → b.before < a
            later a r = above b.before a (rank w p a) (rank w p b.before) (early p) (λ m. rank_up_to w p a b.before m) (rank_early p) (subst (λ n. early p < n) (sym r) l)
              where
                above : (c a ra rc e : ℕ) → (a ≤ c → ra ≤ rc) → rc ≡ e → e < ra → c < a
                above c a ra rc e f k m = elim (below_or c a) [ inl z ↦ z | inr z ↦ absurd (let y = f z in omega (arith, y, k, m)) ]
                  where
                    below_or : (a c : ℕ) → (a < c) ⊎ (c ≤ a)
                    below_or a c = grind arith

            not_itself : (a : ℕ) → a ≡ t → rank w p a ≡ g.lines.served p → ⊥
            not_itself a q r = off (g.lines.served p) (sym r ∙ ap (rank w p) q ∙ f.number)
              where
                off : (c : ℕ) → c ≡ suc c → ⊥
                off c e = omega (arith, e)

            earlier : (a k : ℕ) → a ≡ suc b.before + k → a ≤ t → (a ≡ t → ⊥) → suc k ≤ i
            earlier a k e l n = less a t k l n e ti
              where
                less : (a t k : ℕ) → a ≤ t → (a ≡ t → ⊥) → a ≡ suc b.before + k → t ≡ suc b.before + i → suc k ≤ i
                less a t k l n e f = (let m : a < t = strict a t l n in omega (arith, m, e, f))
                  where
                    strict : (a t : ℕ) → a ≤ t → (a ≡ t → ⊥) → a < t
                    strict a t l n = grind arith

            difference : (a n : ℕ) → a ≤ n → (d : ℕ) × (n ≡ d + a)
            difference zero n l = (n, omega arith)
            difference (suc a) zero l = absurd (omega (arith, l))
            difference (suc a) (suc n) l = (let r = difference a n (omega (arith, l)) in (r.0, omega (arith, r.1)))
