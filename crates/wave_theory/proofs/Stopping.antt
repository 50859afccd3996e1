-- A segment's end: what is known of the event that comes to it, and what the state shows whatever changes there.
use Rattle.std.proofs.Common.{◌≡◌, ◌≢◌, ℕ, suc, ◌<◌, ◌≤◌, ◌⊎◌, ◌&&◌, not, inl, inr, nat_eq, Bool, true, false, Option, Some, None, is_some, List, [], ◌∷◌, ◌++◌, refl, sym, ◌∙◌, ap, ap₂, subst, arith, ◌+◌}
use Rattle.std.specs.List.{AllByRecursion}
use Rattle.wave_base.specs.declared.path.Step.{Step}
use Rattle.wave_base.specs.declared.path.Path.{Path}
use Rattle.wave_base.specs.declared.children.Child.{Child}
use Rattle.wave_base.specs.Paths.{path_eq, parent_of}
use Rattle.wave_base.specs.Kids.{child_at}
use Rattle.wave_states.specs.Actors.{Actors, Left}
use Rattle.wave_states.specs.States.{State, Claim, Entry, Event, Hand, Hold, Record, Mail, Travelling, Ended, set, hold_at, holds_as_peek, is_peek_in, steps_of}
use Rattle.wave_states.specs.Steps.{Part, with_bench, after_end, segment_of, cell_of, part_of}
use Rattle.wave_states.specs.Desks.{Desk, send, kept_of, left_of, nothing_kept, with_status, with_held}
use Rattle.wave_theory.proofs.Basics.{bool_cases, clash, some_same, none_not, some_not, number_cases, not_same, path_self, path_cases, set_at, set_there, set_at_path, differ}
use Rattle.wave_theory.proofs.Order.{Way, IsWay, rank, Stage, Entering, Lined, Coming, There, is_pending, here, Good}
use Rattle.wave_theory.proofs.Ranks.{not_again}
use Rattle.wave_theory.proofs.Stops.{not_looking}
use Rattle.wave_theory.proofs.Leaves.{Course, IsCourse, Segment}
use Rattle.wave_theory.proofs.Tracks.{Trail, owner}
use Rattle.wave_theory.proofs.Opened.{Stopping}
use Rattle.wave_theory.proofs.Own.{mail_own}
use Rattle.wave_theory.proofs.Found.{Found, found}
use Rattle.wave_theory.proofs.Frames.{update, holds_of, holds_spot, option_some}
use Rattle.wave_theory.proofs.Desks.{DeskShows, keep_release}
use Rattle.wave_theory.proofs.Alive
use Rattle.wave_theory.proofs.Tallies
use Rattle.wave_theory.proofs.Deeds
use Rattle.wave_theory.proofs.Shows
use Rattle.wave_theory.proofs.Stages.{there_coming, there_done, there_entering, there_lined}

module _ {A F R J : Type 0} (sys : Actors A F R J) (w : Way) (law : IsWay w) (course : Course sys) (low : ℕ) (is_real : ℕ → Type 0) (courses : IsCourse sys w course low is_real) where
  -- what changes at a segment's end
  pub record Change : Type 0 where
    pub stage : Stage
    pub given : Path → ℕ
    pub main : ℕ
    pub parting : Path → ℕ
    pub entry : Entry F
    pub body : Record F
    pub trail : Path → Trail

  abbrev pub changed_by : Shows.Ghost F → ℕ → Path → Change → Shows.Ghost F
  changed_by g t p z = record {
    lines = record { admitted = g.lines.admitted; pos = set nat_eq g.lines.pos t (suc (g.lines.pos t)); stage = set nat_eq g.lines.stage t z.stage; served = g.lines.served; given = z.given; holds = g.lines.holds };
    out = set nat_eq g.out t false;
    worker = g.worker;
    main = set nat_eq g.main t z.main;
    parting = set nat_eq g.parting t z.parting;
    entry = set path_eq g.entry p z.entry;
    body = set path_eq g.body p z.body;
    born = g.born;
    trail = z.trail;
  }

  module _ (s : State A F R J) (g : Shows.Ghost F) (x : Shows.Shows sys w course low is_real s g) (hd : Hand A F) (v h : ℕ) (hand_is : s.hands v ≡ Some hd) (y : Part A F R) (q : Stopping sys hd.ticket hd.path h hd (part_of s hd.ticket hd.path) y) where
    abbrev pub t : ℕ
    t = hd.ticket

    abbrev pub p : Path
    p = hd.path

    abbrev pub k : ℕ
    k = g.lines.pos hd.ticket

    pub hs : Shows.HandShows sys w course low is_real g v hd
    hs = x.hands v hd hand_is

    pub c : Shows.CellShows sys w course low is_real g t (s.cells t)
    c = x.cells t hs.later hs.known

    pub en : Shows.EntryShows sys w course low is_real g p
    en = x.entries p

    pub f : Found sys w course low is_real g p (s.columns p) h q.entry
    f = found sys w course low is_real g p (s.columns p) h q.entry (x.columns p) q.entry_is

    pub same : q.event ≡ c.event
    same = some_same _ _ (sym q.event_is ∙ c.event_is)

    pub going : k ≤ w.last t
    going = x.good.going t hs.known (λ e. there_done (sym hs.stage ∙ e))

    pub held_p : w.held t k p ≡ true
    held_p = subst (λ r. w.held t k r ≡ true) (sym hs.place) (law.at_held t k going)

    pub holds_p : g.lines.holds p t ≡ true
    holds_p = subst (λ r. g.lines.holds r t ≡ true) (sym hs.place) (holds_spot sys w law course low is_real g x.good t (omega (arith, hs.later)) hs.known (λ e. there_done (sym hs.stage ∙ e)) (ap is_pending hs.stage))

    pub in_hand_is : (r : Path) → Shows.in_hand sys w course low is_real g t r ≡ w.held t k r
    in_hand_is r = ap (λ u. w.held t k r && not (is_pending u && path_eq (w.place t k) r)) hs.stage ∙ and_true (w.held t k r)
      where
        and_true : (a : Bool) → (a && true) ≡ a
        and_true a = grind arith

    pub held_is : (r : Path) → is_some (hold_at q.event.held r) ≡ w.held t k r
    held_is r = ap (λ (u : Event A). is_some (hold_at u.held r)) same ∙ c.held r ∙ in_hand_is r

    pub where_held : (r : Path) (i : Hold) → hold_at q.event.held r ≡ Some i → (i.host ≡ owner (g.trail r)) × ((g.trail r).stored ≡ true) × (i.peek ≡ w.looks t r)
    where_held r i e = c.where_held r i (ap (λ (u : Event A). hold_at u.held r) (sym same) ∙ e)

    pub peek_is : holds_as_peek q.event.held p ≡ w.looks t p
    peek_is = (let o = option_some (hold_at q.event.held p) (held_is p ∙ held_p) in ap is_peek_in o.1 ∙ (where_held p o.0 o.1).2)

    pub seg : Segment sys w course t k
    seg = courses.segment t k c.real going

    abbrev pub left : Left A F R
    left = sys.segment (seg).actor (course.leaf t k (w.place t k)).0 (course.leaf t k (w.place t k)).1

    pub like : Shows.Like sys w course low is_real (g.body p) (course.leaf t k p)
    like = x.kept.held p t holds_p

    -- the segment is that of the ticket's own run
    pub segment_is : segment_of sys hd ≡ sys.segment (seg).actor (course.leaf t k (w.place t k)).0 (course.leaf t k (w.place t k)).1
    segment_is = elim (bool_cases (w.looks t p)) [
      | inr e ↦ (let st : steps_of hd.body.children ≡ (course.leaf t k (w.place t k)).1 = ap (λ (u : Record F). steps_of u.children) (hs.whole e) ∙ like.steps ∙ ap (λ r. (course.leaf t k r).1) hs.place in
          λ i. sys.segment (actor_same i) (fields_same i) (st i))
      | inl e ↦ (let st : steps_of hd.body.children ≡ [] = ap steps_of (hs.bare e) in
          (λ i. sys.segment (actor_same i) (fields_same i) (st i)) ∙ sym (seg.blind (subst (λ r. w.looks t r ≡ true) hs.place e)))
    ]
      where
        actor_same : hd.actor ≡ (seg).actor
        actor_same = some_same _ _ (hs.actor ∙ seg.actor_is)

        fields_same : hd.body.fields ≡ (course.leaf t k (w.place t k)).0
        fields_same = hs.fields ∙ like.fields ∙ ap (λ r. (course.leaf t k r).0) hs.place

    -- what is known of a change
    pub record IsChange (z : Change) : Type 0 where
      pub good : Good w (changed_by g t p z).lines
      pub given_ok : (r : Path) (i : Step) → path_eq p r ≡ false → z.given (r ++ i ∷ []) ≡ g.lines.given (r ++ i ∷ [])
      pub trail_ok : (r : Path) → path_eq p r ≡ false → (z.trail r ≡ g.trail r) ⊎ ((g.lines.given r ≡ 0) × (g.born r ≡ false) × (z.trail r).last ≡ 0 × ((parent_of r ≡ p) × (r ≢ [])))
      pub birth_ok : (z.trail p).at 0 ≡ (g.trail p).at 0
      pub longer_ok : (z.trail p ≡ g.trail p) ⊎ ((w.looks t p ≡ false) × ((g.trail p).last ≤ (z.trail p).last) × ((i : ℕ) → i ≤ (g.trail p).last → (z.trail p).at i ≡ (g.trail p).at i))
      pub body_ok : w.looks t p ≡ true → z.body ≡ g.body p
      pub like : Shows.Like sys w course low is_real z.body (course.leaf t (suc k) p)
      pub cell : Shows.CellShows sys w course low is_real (changed_by g t p z) t y.cell
      pub entry : Shows.EntryShows sys w course low is_real (changed_by g t p z) p
      pub column : Shows.ColumnShows sys w course low is_real (g.born p) (changed_by g t p z) p y.column

    module _ (z : Change) (i : IsChange z) where
      abbrev pub g' : Shows.Ghost F
      g' = changed_by g t p z

      others_alone : (b : ℕ) → nat_eq t b ≡ false → g.lines.holds p b ≡ true → w.looks t p ≡ false → ⊥
      others_alone b n m e = not_same t b n (sym (x.good.alone t p holds_p e b m))

      pub frame : Shows.Frame sys w course low is_real g g' t p v
      frame = record {
        admitted = omega arith;
        stage = λ b n. set_there nat_eq g.lines.stage t z.stage b n;
        pos = λ b n. set_there nat_eq g.lines.pos t _ b n;
        out = λ b n. set_there nat_eq g.out t false b n;
        worker = λ b n. refl;
        main = λ b n. set_there nat_eq g.main t z.main b n;
        parting = λ b r n. ap (λ e. e r) (set_there nat_eq g.parting t z.parting b n);
        holds = λ b r n. refl;
        holds_there = λ b r n. refl;
        entry = λ r d. set_there path_eq g.entry p z.entry r d;
        body = λ r d. set_there path_eq g.body p z.body r d;
        born = λ r d. refl;
        served = λ r d. refl;
        given = λ r a d. i.given_ok r a d;
        trail = i.trail_ok;
        birth = i.birth_ok;
        longer = λ b n. elim i.longer_ok [
          | inl e ↦ inl e
          | inr e ↦ elim (bool_cases (g.lines.holds p b)) [ inr m ↦ inr (m, e.1, e.2) | inl m ↦ absurd (others_alone b n m e.0) ]
        ];
        entry_moving = λ b n m e. absurd (clash _ f.stored e);
        body_shared = λ b n m. elim (bool_cases (w.looks t p)) [ inl e ↦ set_at_path g.body p z.body ∙ i.body_ok e | inr e ↦ absurd (others_alone b n m e) ];
        born_known = λ r a e u. subst (λ o. g.born o ≡ false) e ((x.entries r).strangers a u);
        lined = λ r d e u. absurd (there_lined (sym hs.stage ∙ e));
        away = λ r d e u. absurd (clash _ (subst (λ a. path_eq p a ≡ true) (hs.place ∙ u) (path_self p)) d);
        hand = λ u n e a. absurd (not_same v u n (hs.worker ∙ sym a));
      }

      kept : Shows.Kept sys w course low is_real g'
      kept = record {
        held = λ r b e. elim (number_cases t b) [
          | inr n ↦ (let o : Shows.Like sys w course low is_real (g.body r) (course.leaf b ((g').lines.pos b) r) = subst (λ a. Shows.Like sys w course low is_real (g.body r) (course.leaf b a r)) (sym (set_there nat_eq g.lines.pos t _ b n)) (x.kept.held r b e) in
              elim (path_cases p r) [
                | inr d ↦ subst (λ a. Shows.Like sys w course low is_real a (course.leaf b ((g').lines.pos b) r)) (sym (set_there path_eq g.body p z.body r d)) o
                | inl d ↦ elim (bool_cases (w.looks t p)) [
                  | inr l ↦ absurd (others_alone b n (subst (λ a. g.lines.holds a b ≡ true) (sym d) e) l)
                  | inl l ↦ subst (λ a. Shows.Like sys w course low is_real a (course.leaf b ((g').lines.pos b) r)) (sym (subst (λ a. (g').body a ≡ g.body a) d (set_at_path g.body p z.body ∙ i.body_ok l))) o
                ]
              ])
          | inl n ↦ subst (λ a. Shows.Like sys w course low is_real ((g').body r) (course.leaf a ((g').lines.pos a) r)) n (subst (λ a. Shows.Like sys w course low is_real ((g').body r) (course.leaf t a r)) (sym (set_at g.lines.pos t (suc k))) (mine r (subst (λ a. g.lines.holds r a ≡ true) (sym n) e)))
        ];
        calm = λ r m cl e l. elim (path_cases p r) [
          | inr d ↦ subst (λ a. Shows.Like sys w course low is_real a (course.leaf (suc m) 0 r)) (sym (set_there path_eq g.body p z.body r d)) (x.kept.calm r m cl e l)
          | inl d ↦ (let lk : w.looks t p ≡ true = subst (λ a. w.looks t a ≡ true) (sym d) (cl t (subst (λ a. g.lines.holds a t ≡ true) d holds_p)) in
              subst (λ a. Shows.Like sys w course low is_real a (course.leaf (suc m) 0 r)) (sym (subst (λ a. (g').body a ≡ g.body a) d (set_at_path g.body p z.body ∙ i.body_ok lk))) (x.kept.calm r m cl e l))
        ];
      }
        where
          mine : (r : Path) → g.lines.holds r t ≡ true → Shows.Like sys w course low is_real ((g').body r) (course.leaf t (suc k) r)
          mine r e = elim (path_cases p r) [
            | inr d ↦ subst (λ a. Shows.Like sys w course low is_real a (course.leaf t (suc k) r)) (sym (set_there path_eq g.body p z.body r d)) (subst (Shows.Like sys w course low is_real (g.body r)) (sym (courses.own t k r going (subst (λ a. path_eq a r ≡ false) hs.place d))) (x.kept.held r t e))
            | inl d ↦ subst (λ a. Shows.Like sys w course low is_real ((g').body a) (course.leaf t (suc k) a)) d (subst (λ a. Shows.Like sys w course low is_real a (course.leaf t (suc k) p)) (sym (set_at_path g.body p z.body)) i.like)
          ]

      pub stop_shows : Shows.Shows sys w course low is_real (with_bench s t p v (record { part = y; hand = None })) g'
      stop_shows = update sys w law course low is_real s g g' t p v (record { part = y; hand = None }) x frame i.good kept refl hs.later hs.known i.cell i.entry i.column (λ u e. absurd (none_not e)) x.root

    leaves_later : (r : Path) → g.lines.holds r t ≡ true → w.held t k r ≡ false → w.held t (suc k) r ≡ false
    leaves_later r e n = not_again law t k r going (x.good.let_in t r e).entered n

    -- where the children stay
    pub same_kids : (z : Change) → z.body.children ≡ (g.body p).children → Alive.Alive sys w course low is_real s g → Alive.Kids sys w course low is_real (changed_by g t p z) p
    same_kids z e a st c u = elim (a.kids p st c (ap (λ cs. child_at cs st) (sym e) ∙ ap (λ (b : Record F). child_at b.children st) (sym (set_at_path g.body p z.body)) ∙ u)) [
      | inl n ↦ inl n
      | inr n ↦ inr (record { ticket = n.ticket; first = n.first; known = n.known; comes = n.comes })
    ]

    -- the children that a record has after a change
    pub kids_by : (z : Change) → ((u : Step) (a : Child) → child_at z.body.children u ≡ Some a → (child_at (g.body p).children u ≡ Some a) ⊎ (0 < a.given)) → Deeds.Kids sys w course low is_real s g (changed_by g t p z) t p
    kids_by z o r u a e = elim (path_cases p r) [
      | inr d ↦ inl (ap (λ (b : Record F). child_at b.children u) (sym (set_there path_eq g.body p z.body r d)) ∙ e)
      | inl d ↦ subst (λ i. (child_at (g.body i).children u ≡ Some a) ⊎ (0 < a.given)) d (o u a (ap (λ (b : Record F). child_at b.children u) (sym (set_at_path g.body p z.body)) ∙ subst (λ i. child_at ((changed_by g t p z).body i).children u ≡ Some a) (sym d) e))
    ]

    -- what is under way after a change
    pub record Lives (z : Change) : Type 0 where
      pub waiting : z.entry.waiting ≡ q.entry.waiting
      pub entering : z.stage ≡ Entering → Alive.EnterThere y.cell.mails z.main
      pub coming : z.stage ≡ Coming → Alive.ComingThere y.cell.mails z.main
      pub parting : (r : Path) → g.lines.holds r t ≡ true → w.held t (suc k) r ≡ false → Alive.PartingThere y.cell.mails (z.parting r) r
      pub lined : z.stage ≡ Lined → ⊥
      pub away : (z.trail p).stored ≡ false → w.held t (suc k) p ≡ false
      pub kids : Alive.Kids sys w course low is_real (changed_by g t p z) p
      pub housed : (r : Path) (i : ℕ) → i ≤ (z.trail r).last → (z.trail r).at i < course.hosts
      pub no_zero : y.cell.mails 0 ≡ None
      pub waits_next : (f o : Bool) → Tallies.stage_part f z.stage o ≡ 0
      pub stale : z.stage ≡ Coming → w.fresh t (suc k) ≡ false

    pub stop_alive : (z : Change) → IsChange z → Lives z → Alive.Alive sys w course low is_real s g → Alive.Alive sys w course low is_real (with_bench s t p v (record { part = y; hand = None })) (changed_by g t p z)
    stop_alive z i l a = Alive.alive_update sys w course low is_real s g (changed_by g t p z) t p v (record { part = y; hand = None }) x (frame z i) refl hs.known hs.later a
        (λ b cl n e vb. ap (λ (u : Entry F). u.waiting (rank w p b)) (set_at_path g.entry p z.entry) ∙ ap (λ u. u (rank w p b)) l.waiting ∙ ap (λ (u : Entry F). u.waiting (rank w p b)) f.entry_is ∙ e)
        (λ u e. ap (λ (o : Hand A F). o.ticket) (sym (some_same hd u (sym hand_is ∙ e))))
        (record {
          entering = λ e. let o = l.entering (sym (set_at g.lines.stage t z.stage) ∙ e) in record { mail = o.mail; there = ap y.cell.mails (set_at g.main t z.main) ∙ o.there; ask = o.ask; letter = o.letter };
          coming = λ e. let o = l.coming (sym (set_at g.lines.stage t z.stage) ∙ e) in record { mail = o.mail; there = ap y.cell.mails (set_at g.main t z.main) ∙ o.there; coming = o.coming };
          parting = λ r h n. let o = l.parting r h (ap (λ j. w.held t j r) (sym (set_at g.lines.pos t (suc k))) ∙ n) in record { mail = o.mail; there = ap (λ j. y.cell.mails (j r)) (set_at g.parting t z.parting) ∙ o.there; path_is = o.path_is; letter = o.letter };
          lined = λ e. absurd (l.lined (sym (set_at g.lines.stage t z.stage) ∙ e));
        })
        (λ e. absurd (clash _ e (set_at g.out t false)))
        (λ r d m n. ap (λ j. w.held t j r) (set_at g.lines.pos t (suc k)) ∙ leaves_later r m n) (λ b e. record { ticket = t; holds = holds_p; not_held = ap (λ j. w.held t j p) (set_at g.lines.pos t (suc k)) ∙ l.away e }) (a.few p) (λ e. e) l.kids l.housed l.no_zero law

    pub stop_tally : (z : Change) → IsChange z → Lives z → (n : ℕ → ℕ) → Tallies.Tally sys w course low is_real g n → Tallies.Tally sys w course low is_real (changed_by g t p z) (set nat_eq n t (suc (n t)))
    stop_tally z i l n y = Tallies.tally_update sys w course low is_real g (changed_by g t p z) t p v n (frame z i) refl hs.later hs.known y
        (ap suc (ap₂ (λ a b. a + b) (ap (λ j. Tallies.sum_to j (Tallies.over_parts sys w course low is_real (changed_by g t p z) t)) (set_at g.lines.pos t (suc k)) ∙ Tallies.sum_more k (Tallies.over_parts sys w course low is_real g t))
        (ap (λ u. Tallies.stage_part (w.fresh t ((changed_by g t p z).lines.pos t)) u ((changed_by g t p z).out t)) (set_at g.lines.stage t z.stage) ∙ l.waits_next _ _)
        ∙ by (w.fresh t k) (g.lines.holds (w.place t k) t) (subst (λ r. g.lines.holds r t ≡ true) hs.place holds_p) (Tallies.sum_to k (Tallies.over_parts sys w course low is_real g t))
        ∙ ap₂ (λ u o. suc (Tallies.sum_to k (Tallies.over_parts sys w course low is_real g t) + Tallies.stage_part (w.fresh t k) u o)) (sym hs.stage) (sym hs.out)))
        (λ e. ap (w.fresh t) (set_at g.lines.pos t (suc k)) ∙ l.stale (sym (set_at g.lines.stage t z.stage) ∙ e))
      where
        by : (f h : Bool) → h ≡ true → (a : ℕ) → (a + Tallies.over_part f h) + 0 ≡ suc (a + Tallies.stage_part f There true)
        by f false e a = absurd (clash false e refl)
        by true true e a = omega arith
        by false true e a = omega arith

    pub zero_sent : (d : Desk A F) (m : Mail F) → (send d m).mails 0 ≡ d.mails 0
    zero_sent d m = set_there nat_eq d.mails (suc d.event.sent) (Some m) 0 (differ (suc d.event.sent) 0 (λ e. omega arith))

    pub zero_ended : (d : Desk A F) → (after_end d).mails 0 ≡ d.mails 0
    zero_ended d = keep_release (left_of nothing_kept d.event.held) (record { event = with_held (with_status d.event Ended) (kept_of nothing_kept d.event.held); mails = d.mails }) 0 (omega arith)

    -- what it gave up before
    pub old_there : Alive.Alive sys w course low is_real s g → (r : Path) → g.lines.holds r t ≡ true → w.held t k r ≡ false → Alive.PartingThere (s.cells t).mails (g.parting t r) r × (g.parting t r ≤ q.event.sent)
    old_there a r h n = (let o = (a.one t hs.later hs.known).parting r h n in (o, elim (sent_or (g.parting t r) q.event.sent) [ inl m ↦ m | inr m ↦ absurd (none_not (sym (c.unused (g.parting t r) (subst (λ (u : Event A). u.sent < g.parting t r) same m)) ∙ o.there)) ]))
      where
        sent_or : (i j : ℕ) → (i ≤ j) ⊎ (j < i)
        sent_or i j = grind arith

    -- the desk with these held paths, after the change
    abbrev pub desk_with : List (Path × Hold) → Desk A F
    desk_with hl = record { event = record { actor = Some (left).actor; held = hl; sent = q.event.sent; status = Travelling }; mails = (s.cells t).mails }

    pub holds_held : (r : Path) → w.held t k r ≡ true → g.lines.holds r t ≡ true
    holds_held r e = holds_of sys w law course low is_real g x.good t r (omega (arith, hs.later)) hs.known (in_hand_is r ∙ e)

    pub not_held_p : (r : Path) → w.held t k r ≡ false → path_eq p r ≡ false
    not_held_p r e = elim (path_cases p r) [ inr d ↦ d | inl d ↦ absurd (clash _ (subst (λ a. w.held t k a ≡ true) d held_p) e) ]

    pub record KeepsOld (z : Change) : Type 0 where
      pub trail : (r : Path) → g.lines.holds r t ≡ true → w.held t k r ≡ false → z.trail r ≡ g.trail r
      pub parting : (r : Path) → w.held t k r ≡ false → z.parting r ≡ g.parting t r

    old_mails : (z : Change) → KeepsOld z → (i : ℕ) (m : Mail F) → (s.cells t).mails i ≡ Some m → Shows.MailShows sys w course low is_real (changed_by g t p z) t i m.host m.path m.letter
    old_mails z o i m e = mail_own sys w course low is_real g (changed_by g t p z) t i m.host m.path m.letter
        (record { no_enter = λ a u. there_entering (sym hs.stage ∙ u.stage); no_coming = λ u. there_coming (sym hs.stage ∙ u.stage) })
        (λ u. record {
          not_held = λ n. ap (λ j. w.held t j m.path) (set_at g.lines.pos t (suc k)) ∙ leaves_later m.path u.holds n;
          parting = ap (λ j. j m.path) (set_at g.parting t z.parting) ∙ o.parting m.path u.not_held;
          holds = u.holds;
          trail = o.trail m.path u.holds u.not_held;
          entry = λ n. set_there path_eq g.entry p z.entry m.path (not_held_p m.path u.not_held);
        }) (c.mails i m e)

    pub base_desk : (z : Change) → KeepsOld z → (hl : List (Path × Hold)) (now : Path → Bool) → ((r : Path) → is_some (hold_at hl r) ≡ now r) →
        ((r : Path) (i : Hold) → hold_at hl r ≡ Some i → (hold_at q.event.held r ≡ Some i) × (z.trail r ≡ g.trail r)) → Shows.Once hl →
        DeskShows sys w course low is_real (changed_by g t p z) t (desk_with hl) now (Some (left).actor) Travelling
    base_desk z o hl now e sub once = record {
      actor = refl;
      status = refl;
      held = e;
      where_held = λ r i j. let u = sub r i j in let b = where_held r i u.0 in (b.0 ∙ ap owner (sym u.1), ap (λ a. a.stored) u.1 ∙ b.1, b.2);
      once = once;
      mails = old_mails z o;
      unused = λ i l. c.unused i (subst (λ (u : Event A). u.sent < i) same l);
    }

    pub once_held : Shows.Once q.event.held
    once_held = subst (λ (u : Event A). Shows.Once u.held) (sym same) c.once

    -- who goes on holds its context alone, and has its record whole
    pub looks_off : suc k ≤ w.last t → w.looks t p ≡ false
    looks_off m = subst (λ r. w.looks t r ≡ false) (sym hs.place) (not_looking law g.lines t x.good hs.known m)

    -- what the entry shows after the change, where a record is put back
    pub record PutBack (z : Change) : Type 0 where
      pub looks : w.looks t p ≡ false
      pub entry : z.entry ≡ record { body = Some z.body; holders = q.entry.holders; served = q.entry.served; waiting = q.entry.waiting; moves = z.entry.moves }
      pub given : (i : Step) → Shows.given_of z.body i ≡ z.given (p ++ i ∷ [])
      pub births : (i : Step) (a : Child) → child_at z.body.children i ≡ Some a → a.birth.0 ≡ (z.trail (p ++ i ∷ [])).at 0
      pub strangers : (i : Step) → child_at z.body.children i ≡ None → g.born (p ++ i ∷ []) ≡ false
      pub moves : z.entry.moves ≡ (z.trail p).last

    pub still_waits : (z : Change) (j : ℕ) (a : Claim) → Shows.WaitShows sys w course low is_real g p j a → Shows.WaitShows sys w course low is_real (changed_by g t p z) p j a
    still_waits z j a i = record { known = i.known; later = i.later; stage = set_there nat_eq g.lines.stage t z.stage a.ticket n ∙ i.stage; place = ap (w.place a.ticket) (set_there nat_eq g.lines.pos t (suc k) a.ticket n) ∙ i.place; number = i.number; peek = i.peek }
      where
        n : nat_eq t a.ticket ≡ false
        n = elim (number_cases t a.ticket) [ inr m ↦ m | inl m ↦ absurd (there_lined (sym hs.stage ∙ ap g.lines.stage m ∙ i.stage)) ]

    pub entry_back : (z : Change) → PutBack z → Shows.EntryShows sys w course low is_real (changed_by g t p z) p
    entry_back z b = record {
      served = ap (λ (u : Entry F). u.served) now ∙ ap (λ (u : Entry F). u.served) f.entry_is ∙ en.served;
      holders = λ a. ap (λ (u : Entry F). Shows.holds_claim u.holders a) now ∙ ap (λ (u : Entry F). Shows.holds_claim u.holders a) f.entry_is ∙ en.holders a;
      peeks = subst (λ (u : Entry F). AllByRecursion (λ a. a.peek ≡ w.looks a.ticket p) u.holders) (sym now) (subst (λ (u : Entry F). AllByRecursion (λ a. a.peek ≡ w.looks a.ticket p) u.holders) (sym f.entry_is) en.peeks);
      later = en.later;
      waits = λ j a e. still_waits z j a (en.waits j a (ap (λ (u : Entry F). u.waiting j) (sym f.entry_is) ∙ ap (λ (u : Entry F). u.waiting j) (sym now) ∙ e));
      away = λ e. absurd (some_not (ap (λ (u : Entry F). u.body) (sym now) ∙ e));
      body = λ r e. sym (some_same _ r (ap (λ (u : Entry F). u.body) (sym now) ∙ e)) ∙ sym body_now;
      given = λ i. ap (λ u. Shows.given_of u i) body_now ∙ b.given i;
      births = λ i a e. b.births i a (ap (λ u. child_at u.children i) (sym body_now) ∙ e);
      strangers = λ i e. b.strangers i (ap (λ u. child_at u.children i) (sym body_now) ∙ e);
      unborn = λ e. absurd (clash _ f.born e);
      moves = ap (λ (u : Entry F). u.moves) (set_at_path g.entry p z.entry) ∙ b.moves;
    }
      where
        now : set path_eq g.entry p z.entry p ≡ record { body = Some z.body; holders = q.entry.holders; served = q.entry.served; waiting = q.entry.waiting; moves = z.entry.moves }
        now = set_at_path g.entry p z.entry ∙ b.entry

        body_now : set path_eq g.body p z.body p ≡ z.body
        body_now = set_at_path g.body p z.body

    -- the cell after the change, where the event goes on
    pub goes_on_cell : (z : Change) (d : Desk A F) (now : Path → Bool) (r : Option R) → DeskShows sys w course low is_real (changed_by g t p z) t d now (Some (left).actor) Travelling →
        (z.stage ≡ Coming) ⊎ (z.stage ≡ Entering) → ((a : Path) → now a ≡ (w.held t (suc k) a && not (is_pending z.stage && path_eq (w.place t (suc k)) a))) → r ≡ course.result t (suc k) →
        Shows.CellShows sys w course low is_real (changed_by g t p z) t (cell_of d r)
    goes_on_cell z d now r x going_on e res = record {
      event = d.event;
      event_is = refl;
      status = subst (λ u. Shows.StatusShows u ((changed_by g t p z).lines.stage t) ((changed_by g t p z).out t) (here w (changed_by g t p z).lines t)) (sym x.status) (subst (λ u. Shows.StatusShows Travelling u ((changed_by g t p z).out t) (here w (changed_by g t p z).lines t)) (sym stage_now) (by going_on));
      actor = λ u. x.actor ∙ sym seg.actor_next ∙ ap (course.actor t) (sym pos_now);
      held = λ a. x.held a ∙ e a ∙ sym (ap (λ u. w.held t ((changed_by g t p z).lines.pos t) a && not (is_pending u && path_eq (here w (changed_by g t p z).lines t) a)) stage_now ∙ ap (λ i. w.held t i a && not (is_pending z.stage && path_eq (w.place t i) a)) pos_now);
      where_held = x.where_held;
      once = x.once;
      result = res ∙ ap (course.result t) (sym pos_now);
      mails = x.mails;
      unused = x.unused;
      real = c.real;
    }
      where
        stage_now : (changed_by g t p z).lines.stage t ≡ z.stage
        stage_now = set_at g.lines.stage t z.stage

        pos_now : (changed_by g t p z).lines.pos t ≡ suc k
        pos_now = set_at g.lines.pos t (suc k)

        by : (z.stage ≡ Coming) ⊎ (z.stage ≡ Entering) → Shows.StatusShows Travelling z.stage ((changed_by g t p z).out t) (here w (changed_by g t p z).lines t)
        by (inl u) = subst (λ j. Shows.StatusShows Travelling j ((changed_by g t p z).out t) (here w (changed_by g t p z).lines t)) (sym u) (set_at g.out t false)
        by (inr u) = subst (λ j. Shows.StatusShows Travelling j ((changed_by g t p z).out t) (here w (changed_by g t p z).lines t)) (sym u) (set_at g.out t false)
