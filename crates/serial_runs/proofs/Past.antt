-- Along a run: where each context was before is where the fold had it, and no more numbers were given than tickets come.
use Rattle.std.proofs.Common.{◌≡◌, ℕ, suc, ◌+◌, ◌<◌, ◌≤◌, ◌⊎◌, inl, inr, nat_eq, Bool, true, false, Some, List, [], ◌∷◌, ◌++◌, refl, sym, ◌∙◌, ap, subst, arith}
use Rattle.std.specs.Prelude.{All, if◌then◌else◌}
use Rattle.wave_base.specs.declared.path.Path.{Path}
use Rattle.wave_base.specs.Paths.{path_eq}
use Rattle.wave_base.specs.Tree.{there}
use Rattle.wave_states.specs.States.{State, set}
use Rattle.wave_states.specs.Labels.{Act, Label, ticket_of, path_of}
use Rattle.wave_states.specs.Steps.{step}
use Rattle.wave_states.specs.Runs.{run}
use Rattle.wave_states.specs.Kinds.{Kind}
use Rattle.wave_states.specs.Owes.{Owes, IsBegin}
use Rattle.wave_states.specs.Begins.{Begin, start_state, has_moved}
use Rattle.wave_theory.proofs.Basics.{path_cases, set_at, set_there, set_at_path, differ}
use Rattle.wave_theory.proofs.Order.{Way, IsWay, rank, visits, Done}
use Rattle.wave_theory.proofs.Ranks.{rank_up_to, rank_le}
use Rattle.wave_theory.proofs.Ranks
use Rattle.wave_theory.proofs.NewTickets.{root_number}
use Rattle.wave_theory.proofs.Leaves.{Course}
use Rattle.wave_theory.proofs.Tracks.{Trail, sent_on, arrived, unborn}
use Rattle.wave_theory.proofs.Stages.{there_done}
use Rattle.wave_theory.proofs.Deeds.{Outline, outline, Deed, done_by, grown}
use Rattle.wave_theory.proofs.Deeds
use Rattle.wave_theory.proofs.Shows
use Rattle.wave_theory.proofs.Courses
use Rattle.wave_theory.proofs.Sites
use Rattle.wave_theory.proofs.Homes
use Rattle.wave_theory.proofs.HomesKept
use Rattle.wave_theory.proofs.Beginning
use Rattle.wave_theory.proofs.GoodStates.{Good_state}
use Rattle.wave_theory.proofs.Reached
use Rattle.wave_theory.proofs.Along
use Rattle.serial_runs.proofs.Sited

module _ {A F R J : Type 0} (kind : Kind A F R J) (owes : Owes kind) (b : Begin F) (batches : List (List J)) (begins : IsBegin kind b) (jobs : All (All kind.is_job) batches) where
  abbrev w : Way
  w = Courses.w kind owes b batches begins jobs

  abbrev course : Course kind.system
  course = Courses.course kind owes b batches begins jobs

  law : IsWay w
  law = Courses.law kind owes b batches begins jobs

  abbrev Is_real : ℕ → Type 0
  Is_real = Courses.Real kind owes b batches begins jobs

  abbrev Good : State A F R J → Type 0
  Good s = Good_state kind owes b batches begins jobs s

  abbrev pub Seen : ℕ → ℕ → Path → Type 0
  Seen host i p = Sited.Seen kind owes b batches begins jobs host i p

  abbrev SeenAll : (Path → Trail) → Type 0
  SeenAll f = (p : Path) (i : ℕ) → i < (f p).last → Seen ((f p).at i) i p

  seen_set : (f : Path → Trail) (q : Path) (r : Trail) → SeenAll f → ((i : ℕ) → i < r.last → Seen (r.at i) i q) → SeenAll (set path_eq f q r)
  seen_set f q r h k p i l = elim (path_cases q p) [
    | inr d ↦ subst (λ (u : Trail). Seen (u.at i) i p) (sym (set_there path_eq f q r p d)) (h p i (subst (λ (u : Trail). i < u.last) (set_there path_eq f q r p d) l))
    | inl d ↦ (let e : set path_eq f q r p ≡ r = subst (λ a. set path_eq f q r a ≡ r) d (set_at_path f q r) in
        subst (λ (u : Trail). Seen (u.at i) i p) (sym e) (subst (λ a. Seen (r.at i) i a) d (k i (subst (λ (u : Trail). i < u.last) e l))))
  ]

  -- the numbers that were given for a context
  abbrev Few : Outline → Type 0
  Few o = (p : Path) → o.given p ≤ rank w p o.admitted

  pub record PastOf (g : Shows.Ghost F) : Type 0 where
    pub homes : Homes.Homes kind owes b batches begins jobs g
    pub seen : SeenAll g.trail
    pub few : Few (outline g)

  module _ (s : State A F R J) (g : Shows.Ghost F) (x : Shows.Shows kind.system w course b.before Is_real s g) (h : PastOf g) where
    abbrev o : Outline
    o = outline g

    -- a ticket that is not over was admitted
    known : (t : ℕ) → (g.lines.stage t ≡ Done → ⊥) → (b.before < t) × (t ≤ g.lines.admitted)
    known t n = elim (below_or b.before t) [
      | inr l ↦ absurd (n (x.idle t (λ a m. past _ _ a l)).0)
      | inl l ↦ elim (below_or g.lines.admitted t) [
        | inr m ↦ (l, m)
        | inl m ↦ absurd (n (x.idle t (λ a k. past _ _ m k)).0)
      ]
    ]
      where
        below_or : (a c : ℕ) → (a < c) ⊎ (c ≤ a)
        below_or a c = grind arith

        past : (a c : ℕ) → a < c → c ≤ a → ⊥
        past a c l m = omega (arith, l, m)

    -- a context that is sent on stood where the job found it
    sent_seen : (t : ℕ) (p : Path) (to : ℕ) → Deeds.Fits kind.system w course b.before Is_real s g g t p (Deeds.Moves to) → (i : ℕ) → i < suc (g.trail p).last → Seen ((sent_on (g.trail p) to).at i) i p
    sent_seen t p to f i l = subst (λ n. Seen n i p) (sym (set_there nat_eq (g.trail p).at (suc (g.trail p).last) to i (differ (suc (g.trail p).last) i (λ e. past _ _ e l)))) (elim (less_or i (g.trail p).last l) [
      | inl m ↦ h.seen p i m
      | inr e ↦ subst (λ n. Seen ((g.trail p).at n) n p) (sym e) stood
    ])
      where
        past : (a i : ℕ) → suc a ≡ i → i < suc a → ⊥
        past a i e l = omega (arith, e, l)

        less_or : (i a : ℕ) → i < suc a → (i < a) ⊎ (i ≡ a)
        less_or i a l = grind arith

        n : (b.before < t) × (t ≤ g.lines.admitted)
        n = known t (λ e. there_done (sym f.stopped.stage ∙ e))

        real : Courses.Real kind owes b batches begins jobs t
        real = (x.cells t n.0 n.1).real

        stood : Seen ((g.trail p).at (g.trail p).last) (g.trail p).last p
        stood = by real
          where
            by : Courses.Real kind owes b batches begins jobs t → Seen ((g.trail p).at (g.trail p).last) (g.trail p).last p
            by r = (let v : visits w (suc b.before + r.index) p ≡ true = subst (λ u. visits w u p ≡ true) r.ticket_is (comes t f) in
                let a = h.homes.of.last p r.index r.job r.job_is v (ap (rank w p) (sym r.ticket_is) ∙ f.move_is.latest) in
                let y : Homes.Stands kind owes b batches begins jobs (Homes.spot_of (g.trail p)) r.index p = subst (λ u. Homes.At kind owes b batches begins jobs u (Homes.spot_of (g.trail p)) r.index p) (ap Homes.is_done (ap g.lines.stage (sym r.ticket_is) ∙ f.stopped.stage)) a in
                inr (record { index = r.index; there_then = Sites.there_entered kind owes b batches begins jobs r.index r.job p r.job_is v; host_is = y.0; often = y.1 }))
              where
                comes : (t : ℕ) → Deeds.Fits kind.system w course b.before Is_real s g g t p (Deeds.Moves to) → visits w t p ≡ true
                comes t f = (let pl : w.place t (w.last t) ≡ p = ap (w.place t) (sym f.last) ∙ f.stopped.place in
                    subst (λ q. visits w t q ≡ true) pl (Ranks.comes law t (w.last t) (w.place t (w.last t)) (omega arith) (law.held_entered t (w.last t) (w.place t (w.last t)) (law.at_held t (w.last t) (omega arith)))))

    by_deed : (g' : Shows.Ghost F) (t : ℕ) (p : Path) (d : Deed) → Deeds.Fits kind.system w course b.before Is_real s g g' t p d → SeenAll (done_by w o t p d).trail × Few (done_by w o t p d)
    by_deed g' t p Deeds.Admits f = (
      h.seen,
      λ q. elim (path_cases [] q) [
        | inr d ↦ subst (λ n. n ≤ rank w q (suc g.lines.admitted)) (sym (set_there path_eq g.lines.given [] _ q d)) (through _ _ _ (h.few q) (rank_le w q g.lines.admitted))
        | inl d ↦ subst (λ r. set path_eq g.lines.given [] (suc (g.lines.given [])) r ≤ rank w r (suc g.lines.admitted)) d
            (subst (λ n. n ≤ rank w [] (suc g.lines.admitted)) (sym (set_at_path g.lines.given [] _)) (up _ _ _ _ (h.few []) (root_number law g.lines.admitted) (root_number law (suc g.lines.admitted))))
      ],
    )
      where
        through : (a c d : ℕ) → a ≤ c → c ≤ d → a ≤ d
        through a c d l m = omega (arith, l, m)

        up : (a c n d : ℕ) → a ≤ c → c ≡ n → d ≡ suc n → suc a ≤ d
        up a c n d l e f = omega (arith, l, e, f)
    by_deed g' t p Deeds.Lines_up f = (seen_set g.trail p (grown (g.born p) (g.trail p)) h.seen (λ i l. at (g.born p) i l), h.few)
      where
        at : (j : Bool) (i : ℕ) → i < (grown j (g.trail p)).last → Seen ((grown j (g.trail p)).at i) i p
        at true i l = h.seen p i l
        at false i l = absurd (omega (arith, l))
    by_deed g' t p Deeds.Lets_in f = (h.seen, h.few)
    by_deed g' t p Deeds.Arrives f = (h.seen, h.few)
    by_deed g' t p Deeds.Rests f = (h.seen, h.few)
    by_deed g' t p Deeds.Lands f = (seen_set g.trail p (arrived (g.trail p)) h.seen (λ i l. h.seen p i l), h.few)
    by_deed g' t p Deeds.Goes_on f = (h.seen, h.few)
    by_deed g' t p Deeds.Ends f = (h.seen, h.few)
    by_deed g' t p (Deeds.Goes_in st r) f = (
      seen_set g.trail (p ++ st ∷ []) r h.seen (λ i l. elim f.trail [
        | inl c ↦ subst (λ (u : Trail). Seen (u.at i) i (p ++ st ∷ [])) (sym c.2) (h.seen (p ++ st ∷ []) i (subst (λ (u : Trail). i < u.last) c.2 l))
        | inr c ↦ absurd (none _ (subst (λ (u : Trail). i < u.last) c.0 l))
      ]),
      λ q. elim (path_cases (p ++ st ∷ []) q) [
        | inr d ↦ subst (λ n. n ≤ rank w q g.lines.admitted) (sym (set_there path_eq g.lines.given (p ++ st ∷ []) _ q d)) (h.few q)
        | inl d ↦ subst (λ r. set path_eq g.lines.given (p ++ st ∷ []) (suc (g.lines.given (p ++ st ∷ []))) r ≤ rank w r g.lines.admitted) d
            (subst (λ n. n ≤ rank w (p ++ st ∷ []) g.lines.admitted) (f.number ∙ sym (set_at_path g.lines.given (p ++ st ∷ []) _)) (rank_up_to w (p ++ st ∷ []) t g.lines.admitted (known t (λ e. there_done (sym f.stopped.stage ∙ e))).1))
      ],
    )
      where
        none : (i : ℕ) → i < 0 → ⊥
        none i l = omega (arith, l)
    by_deed g' t p (Deeds.Moves to) f = (seen_set g.trail p (sent_on (g.trail p) to) h.seen (sent_seen t p to f), h.few)

    pub past_next : (g' : Shows.Ghost F) (a : Act) → Deeds.Turn kind.system w course b.before Is_real s g g' a → PastOf g'
    past_next g' a t = (let y = by_deed g' (ticket_of a) (path_of a) t.deed t.fits in record {
      homes = HomesKept.homes_next kind owes b batches begins jobs s g g' a x t h.homes;
      seen = subst (λ (u : Outline). SeenAll u.trail) (sym t.is) y.0;
      few = subst Few (sym t.is) y.1;
    })

  past_first : PastOf (Beginning.ghost₀ kind owes b batches begins jobs)
  past_first = record {
    homes = HomesKept.homes_first kind owes b batches begins jobs;
    seen = λ p i l. at p (there b.tree p) (has_moved b p) refl i l;
    few = λ p. upto _ _ (Beginning.rank_start kind owes b batches begins jobs p);
  }
    where
      upto : (a n : ℕ) → a ≡ n → n ≤ a
      upto a n e = omega (arith, e)

      at : (p : Path) (u m : Bool) → has_moved b p ≡ m → (i : ℕ) → i < (if u then Beginning.moved_trail kind owes b batches begins jobs m p else unborn 0).last → Seen ((if u then Beginning.moved_trail kind owes b batches begins jobs m p else unborn 0).at i) i p
      at p false m e i l = absurd (omega (arith, l))
      at p true false e i l = absurd (omega (arith, l))
      at p true true e i l = (let z : i ≡ 0 = omega (arith, l) in inl (e, z, ap (set nat_eq (λ i. b.places.fields p) 0 0) z ∙ set_at (λ i. b.places.fields p) 0 0))

  module _ (some_host : 0 < kind.hosts) (workers : ℕ) where
    abbrev HasPast : List Label → (s : State A F R J) → Good s → Type 0
    HasPast ls s k = PastOf k.ghost

    keeps_past : (ls : List Label) (s s' : State A F R J) (k : Good s) (l : Label) → Along.from_start kind owes b batches begins jobs some_host workers ls s → HasPast ls s k → step kind.system workers s l ≡ Some s' → (n : Along.Follows kind owes b batches begins jobs some_host workers s s' k l) → HasPast (ls ++ l ∷ []) s' n.good
    keeps_past ls s s' k l r h e n = past_next s k.ghost k.shows h (n.good).ghost l.act n.turn

    pub record Knows (s : State A F R J) : Type 0 where
      pub good : Good s
      pub past : PastOf good.ghost

    pub knows : (ls : List Label) (s : State A F R J) → run kind.system workers (start_state b batches) ls ≡ Some s → Knows s
    knows ls s e = by (Along.along kind owes b batches begins jobs some_host workers HasPast keeps_past (subst PastOf (sym (Reached.first_ghost kind owes b batches begins jobs some_host)) past_first) ls s e)
      where
        by : Along.Along kind owes b batches begins jobs some_host workers HasPast keeps_past ls s → Knows s
        by a = record { good = a.good; past = a.holds }
