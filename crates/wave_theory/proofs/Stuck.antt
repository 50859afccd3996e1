-- The first ticket that isn't committed can go on, or one before it.
use Rattle.std.proofs.Common.{◌≡◌, ℕ, suc, ◌+◌, ◌<◌, ◌≤◌, ◌⊎◌, ◌&&◌, ◌||◌, not, inl, inr, nat_eq, nat_lt, true, false, Some, None, is_some, List, [], ◌∷◌, refl, sym, ◌∙◌, ap, ap₂, subst, arith}
use Rattle.std.specs.Prelude.{if◌then◌else◌}
use Rattle.wave_base.specs.declared.path.Path.{Path}
use Rattle.wave_base.specs.Paths.{path_eq}
use Rattle.wave_states.specs.Actors.{Actors, Pause, Go, Down, Over}
use Rattle.wave_states.specs.States.{State, Claim, Entry, Hold, Status, Waiting, Ready, Running, Travelling, Ended, hold_at}
use Rattle.wave_states.specs.Steps.{Forward, part_of, route, new_entry}
use Rattle.wave_theory.proofs.Basics.{bool_cases, clash, none_not, options, number_self}
use Rattle.wave_theory.proofs.Order.{Way, IsWay, visits, rank, Stage, Entering, Lined, Coming, There, Done, is_pending, here, Granted}
use Rattle.wave_theory.proofs.Ranks.{rank_less}
use Rattle.wave_theory.proofs.Leaves.{Course, IsCourse, Segment}
use Rattle.wave_theory.proofs.Tracks.{owner}
use Rattle.wave_theory.proofs.Frames.{entered_spot, holds_spot, visits_of, option_some}
use Rattle.wave_theory.proofs.Shows
use Rattle.wave_states.specs.States.{ask_in, is_coming, is_release, entry_in}
use Rattle.wave_states.specs.Steps.{entry_for, Deliver, Born, Wait, route_by, letter_at}
use Rattle.wave_theory.specs.NeverStuck.{CanTake, IsOut}
use Rattle.wave_theory.proofs.Ranks.{rank_every}
use Rattle.wave_theory.proofs.Tracks.{routed}
use Rattle.wave_theory.proofs.Leaves.{Follows}
use Rattle.wave_theory.proofs.Alive
use Rattle.wave_theory.proofs.Able
use Rattle.wave_theory.proofs.Stages.{there_done}

module _ {A F R J : Type 0} (sys : Actors A F R J) (w : Way) (law : IsWay w) (course : Course sys) (low : ℕ) (is_real : ℕ → Type 0) (courses : IsCourse sys w course low is_real) where
  module _ (s : State A F R J) (g : Shows.Ghost F) (x : Shows.Shows sys w course low is_real s g) (a : Alive.Alive sys w course low is_real s g) (workers v : ℕ) (less : nat_lt v workers ≡ true) (idle : s.hands v ≡ None) where
    abbrev Can : ℕ → Type 0
    Can t = CanTake sys workers s v t

    pub born_of : (p : Path) (b : ℕ) → g.lines.holds p b ≡ true → g.born p ≡ true
    born_of p b h = elim (bool_cases (g.born p)) [ inl e ↦ e | inr e ↦ absurd (clash _ h (sym ((x.entries p).holders b) ∙ ap (λ (u : Entry F). Shows.holds_claim u.holders b) ((x.entries p).unborn e))) ]

    pub stays_of : (p : Path) → g.born p ≡ true → Shows.Stays sys w course low is_real g p (s.columns p)
    stays_of p e = subst (λ i. Shows.ColumnShows sys w course low is_real i g p (s.columns p)) e (x.columns p)

    -- what was given up can be freed, or lands
    pub parting_can : (b : ℕ) (p : Path) → g.lines.holds p b ≡ true → w.held b (g.lines.pos b) p ≡ false → Can b
    parting_can b p h n = elim o.letter [
      | inl r ↦ (let l = subst (Shows.MailShows sys w course low is_real g b (g.parting b p) (o).mail.host (o).mail.path) r shown in
          Able.take_free sys workers s v less idle b (g.parting b p) (o).mail.path (o).mail.host (Able.free_can (part_of s b (o).mail.path) b (g.parting b p) (o).mail.path (o).mail.host (g.entry (o).mail.path) (o).mail.letter
          (ap (s.columns (o).mail.path).store l.0.host_is ∙ (stays_of (o).mail.path (born_of (o).mail.path b l.0.holds)).there l.1) (Able.letter_there (s.cells b) (g.parting b p) (o).mail o.there) (ap is_release r)))
      | inr r ↦ Able.take_land sys workers s v less idle b (g.parting b p) (o).mail.path (o).mail.host (Able.land_can (part_of s b (o).mail.path) (g.parting b p) (o).mail.path (o).mail.host (o).mail.letter r.0 (Able.letter_there (s.cells b) (g.parting b p) (o).mail o.there) (ap entry_in r.1))
    ]
      where
        o : Alive.PartingThere (s.cells b).mails (g.parting b p) p
        o = (a.one b ((x.entries p).later b h) (x.good.let_in b p h).known).parting p h n

        shown : Shows.MailShows sys w course low is_real g b (g.parting b p) (o).mail.host (o).mail.path (o).mail.letter
        shown = (x.cells b ((x.entries p).later b h) (x.good.let_in b p h).known).mails (g.parting b p) (o).mail o.there

    -- a ticket, where all before it have ended
    module _ (t : ℕ) (lt : low < t) (la : t ≤ g.lines.admitted) (earlier : (b : ℕ) → b < t → g.lines.stage b ≡ Done) where
      abbrev p : Path
      p = here w g.lines t

      c : Shows.CellShows sys w course low is_real g t (s.cells t)
      c = x.cells t lt la

      one : Alive.AliveOne sys w course low is_real g t (s.cells t).mails
      one = a.one t lt la

      first : 1 ≤ t
      first = omega (arith, lt)

      ended_before : (b : ℕ) → b < t → g.lines.pos b ≡ suc (w.last b)
      ended_before b l = x.good.ended b (omega (arith, l, la)) (earlier b l)

      -- not let in yet
      module _ (waits : is_pending (g.lines.stage t) ≡ true) where
        not_done : g.lines.stage t ≡ Done → ⊥
        not_done e = clash _ waits (ap is_pending e)

        vis : visits w t p ≡ true
        vis = visits_of sys w law course low is_real g x.good t p la (entered_spot sys w law course low is_real g x.good t la not_done)

        not_granted : rank w p t ≤ g.lines.served p → ⊥
        not_granted l = ((x.good.grants t p first vis).1 l).past waits refl

        older : (b : ℕ) → g.lines.holds p b ≡ true → b < t
        older b h = before b t (λ e. not_granted (subst (λ i. rank w p i ≤ g.lines.served p) e served)) (λ l. not_granted (let r : rank w p t < rank w p b = rank_less w p t b l vb in omega (arith, served)))
          where
            gr : Granted w g.lines b p
            gr = x.good.let_in b p h

            vb : visits w b p ≡ true
            vb = visits_of sys w law course low is_real g x.good b p gr.known gr.entered

            served : rank w p b ≤ g.lines.served p
            served = (x.good.grants b p (x.good.first b p h) vb).0 gr

            before : (a b : ℕ) → (a ≡ b → ⊥) → (b < a → ⊥) → a < b
            before a b e l = grind arith

        older_can : (b : ℕ) → g.lines.holds p b ≡ true → (b : ℕ) × (b ≤ t) × (Can b ⊎ IsOut s b)
        older_can b h = (b, omega (arith, older b h), inl (parting_can b p h (ap (λ k. w.held b k p) (ended_before b (older b h)) ∙ law.none b p)))

        -- its number is the next
        is_next : rank w p t ≡ suc (g.lines.served p)
        is_next = between (rank w p t) (g.lines.served p) not_granted (λ l. other (rank_every w p t (suc (g.lines.served p)) (omega arith) (omega (arith, l))) l)
          where
            between : (r k : ℕ) → (r ≤ k → ⊥) → (suc k < r → ⊥) → r ≡ suc k
            between r k f h = grind arith

            other : (b : ℕ) × (1 ≤ b) × (b ≤ t) × (visits w b p ≡ true) × (rank w p b ≡ suc (g.lines.served p)) → suc (g.lines.served p) < rank w p t → ⊥
            other r l = absurd (not_granted_less r.0 (less_than r.0 t r.2 (λ e. differs (rank w p t) (suc (g.lines.served p)) l (ap (rank w p) (sym e) ∙ r.4))) r.1 r.3 r.4)
              where
                differs : (a b : ℕ) → b < a → a ≡ b → ⊥
                differs a b l e = omega arith

                less_than : (a b : ℕ) → a ≤ b → (a ≡ b → ⊥) → a < b
                less_than a b l e = grind arith

                not_granted_less : (b : ℕ) → b < t → 1 ≤ b → visits w b p ≡ true → rank w p b ≡ suc (g.lines.served p) → ⊥
                not_granted_less b l lb vb e = (let r : rank w p b ≤ g.lines.served p = (x.good.grants b p lb vb).0 (record { known = omega (arith, l, la); entered = ap (λ k. w.entered b k p) (ended_before b l) ∙ vb; past = λ u. absurd (clash _ u (ap is_pending (earlier b l))) }) in omega (arith, e))

      abbrev GoesOn : Type 0
      GoesOn = (b : ℕ) × (b ≤ t) × (Can b ⊎ IsOut s b)

      own : Can t → GoesOn
      own k = (t, omega arith, inl k)

      -- in line
      lined : g.lines.stage t ≡ Lined → GoesOn
      lined e = elim (bool_cases (g.trail p).stored) [
        | inr n ↦ (let o = a.away p born n in older_can waits o.ticket o.holds)
        | inl st ↦ by_holders (g.entry p).holders refl st
      ]
        where
          waits : is_pending (g.lines.stage t) ≡ true
          waits = ap is_pending e

          claim : Alive.ClaimThere (g.entry p).waiting (rank w p t) t
          claim = one.lined e

          born : g.born p ≡ true
          born = elim (bool_cases (g.born p)) [ inl e ↦ e | inr e ↦ absurd (none_not (sym (ap (λ (u : Entry F). u.waiting (rank w p t)) ((x.entries p).unborn e)) ∙ claim.there)) ]

          by_holders : (hs : List Claim) → (g.entry p).holders ≡ hs → (g.trail p).stored ≡ true → GoesOn
          by_holders (b ∷ hs) h st = older_can waits b.ticket (sym ((x.entries p).holders b.ticket) ∙ ap (λ u. Shows.holds_claim u b.ticket) h ∙ ap (λ i. i || Shows.holds_claim hs b.ticket) (number_self b.ticket))
          by_holders [] h st = own (Able.take_grant sys workers s v less idle t p (owner (g.trail p)) (Able.grant_can (part_of s t p) t p (owner (g.trail p)) c.event (g.entry p) claim.claim c.event_is ((stays_of p born).there st)
              (ap (g.entry p).waiting (ap suc (x.entries p).served ∙ sym (is_next waits)) ∙ claim.there) claim.ticket_is h))

      -- a Visit or a Back is under way
      coming : g.lines.stage t ≡ Coming → GoesOn
      coming e = (let o = one.coming e in own (Able.take_visit sys workers s v less idle t (g.main t) o.mail.path o.mail.host (Able.visit_can (part_of s t o.mail.path) (g.main t) o.mail.path o.mail.host c.event o.mail.letter c.event_is
          (Able.letter_there (s.cells t) (g.main t) o.mail o.there) (elim o.coming [ inl u ↦ ap is_coming u | inr u ↦ ap is_coming u ]))))

      -- at the context
      there : g.lines.stage t ≡ There → GoesOn
      there e = elim (bool_cases (g.out t)) [
        | inl o ↦ (let h = a.out t o in (t, omega arith, inr (record { worker = g.worker t; hand = h.hand; there = h.there; of_ticket = h.ticket_is })))
        | inr o ↦ ready o c.event.status refl (subst (λ u. Shows.StatusShows c.event.status u (g.out t) p) e c.status)
      ]
        where
          going : g.lines.pos t ≤ w.last t
          going = x.good.going t la (λ n. there_done (sym e ∙ n))

          seg : Segment sys w course t (g.lines.pos t)
          seg = courses.segment t (g.lines.pos t) c.real going

          held : (i : Hold) × (hold_at c.event.held p ≡ Some i)
          held = option_some _ (c.held p ∙ ap₂ (λ i u. i && not (is_pending u && path_eq p p)) (law.at_held t (g.lines.pos t) going) e)

          stored : (g.trail p).stored ≡ true
          stored = (c.where_held p (held).0 (held).1).1

          holds : g.lines.holds p t ≡ true
          holds = holds_spot sys w law course low is_real g x.good t first la (λ n. there_done (sym e ∙ n)) (ap is_pending e)

          ready : g.out t ≡ false → (st : Status) → c.event.status ≡ st → Shows.StatusShows st There (g.out t) p → GoesOn
          ready o (Ready q) z h = elim (options (g.entry p).body) [
            | inl n ↦ (let aw = (x.entries p).away n in absurd (clash _ (ap g.out (x.good.alone aw.ticket p aw.holds aw.looks t holds) ∙ aw.out) o))
            | inr r ↦ own (Able.take_start sys workers s v less idle t p (owner (g.trail p)) (Able.start_can (part_of s t p) t p (owner (g.trail p)) c.event (g.entry p) (seg).actor r.0 c.event_is ((stays_of p (born_of p t holds)).there stored) (c.actor o ∙ seg.actor_is) r.1 (z ∙ ap Ready h.0)))
          ]
          ready o (Running q) z h = absurd (clash _ h.1 o)
          ready o Travelling z h = absurd h
          ready o (Waiting q) z h = absurd h
          ready o Ended z h = absurd h

      -- its Enter is under way
      entering : g.lines.stage t ≡ Entering → GoesOn
      entering e = elim (bool_cases (g.born p)) [ inl b ↦ at_entry b | inr b ↦ not_born b ]
        where
          o : Alive.EnterThere (s.cells t).mails (g.main t)
          o = one.entering e

          waits : is_pending (g.lines.stage t) ≡ true
          waits = ap is_pending e

          shown : Shows.EnterShows sys w course low is_real g t (g.main t) (o).mail.host (o).mail.path (o).ask
          shown = subst (Shows.MailShows sys w course low is_real g t (g.main t) (o).mail.host (o).mail.path) o.letter (c.mails (g.main t) (o).mail o.there)

          letter_p : letter_at (s.cells t) (g.main t) (o).mail.host p ≡ Some (o).mail.letter
          letter_p = subst (λ r. letter_at (s.cells t) (g.main t) (o).mail.host r ≡ Some (o).mail.letter) shown.place (Able.letter_there (s.cells t) (g.main t) (o).mail o.there)

          host_is : (o).mail.host ≡ (g.trail p).at (o).ask.followed
          host_is = subst (λ r. (o).mail.host ≡ (g.trail r).at (o).ask.followed) shown.place shown.host_is

          followed : (o).ask.followed ≤ (g.trail p).last
          followed = subst (λ r. (o).ask.followed ≤ (g.trail r).last) shown.place shown.followed

          queue_at : (en : Entry F) → entry_for sys p (o).mail.host (s.columns p) (route (s.columns p) (o).mail.host (o).ask.followed) ≡ Some en → GoesOn
          queue_at en r = own (Able.take_queue sys workers s v less idle t (g.main t) p (o).mail.host (Able.queue_can sys (part_of s t p) t (g.main t) p (o).mail.host c.event (o).mail.letter (o).ask en c.event_is letter_p (ap ask_in o.letter) r))

          not_born : g.born p ≡ false → GoesOn
          not_born b = queue_at (new_entry sys p) (ap (entry_for sys p (o).mail.host (s.columns p)) (ap₂ (λ i j. if is_some i then Deliver else route_by j (o).ask.followed) (u.empty.no_entry (o).mail.host) (u.empty.no_marks (o).mail.host) ∙ ap (λ i. if nat_eq i 0 then Born else Wait) zero_followed))
            where
              u : Shows.Unborn sys w course low is_real g p (s.columns p)
              u = subst (λ i. Shows.ColumnShows sys w course low is_real i g p (s.columns p)) b (x.columns p)

              zero_followed : (o).ask.followed ≡ 0
              zero_followed = none_below (o).ask.followed (subst (λ i. (o).ask.followed ≤ i) u.last followed)
                where
                  none_below : (i : ℕ) → i ≤ 0 → i ≡ 0
                  none_below i l = omega arith

          at_entry : g.born p ≡ true → GoesOn
          at_entry b = elim (options ((s.columns p).store (o).mail.host)) [
            | inr r ↦ queue_at r.0 (ap (entry_for sys p (o).mail.host (s.columns p)) (ap (λ i. if is_some i then Deliver else route_by ((s.columns p).gone (o).mail.host) (o).ask.followed) r.1) ∙ r.1)
            | inl n ↦ elim (below_or (o).ask.followed (g.trail p).last followed) [
              | inl l ↦ elim ((routed (s.columns p) (g.trail p) (o).ask.followed (stays_of p b).track followed).on l) [
                | inl d ↦ absurd (Able.not_deliver (s.columns p) (o).mail.host (o).ask.followed (ap is_some n) (ap (λ i. route (s.columns p) i (o).ask.followed) host_is ∙ d))
                | inr d ↦ pass_on ((g.trail p).at d.0) (ap (λ i. route (s.columns p) i (o).ask.followed) host_is ∙ d.3)
              ]
              | inr l ↦ elim (bool_cases (g.trail p).stored) [
                | inl st ↦ absurd (none_not (sym n ∙ ap (s.columns p).store (host_is ∙ ap (g.trail p).at l) ∙ (stays_of p b).there st))
                | inr st ↦ (let aw = a.away p b st in older_can waits aw.ticket aw.holds)
              ]
            ]
          ]
            where
              below_or : (i j : ℕ) → i ≤ j → (i < j) ⊎ (i ≡ j)
              below_or i j l = grind arith

              pass_on : (to : ℕ) → route (s.columns p) (o).mail.host (o).ask.followed ≡ Forward to → GoesOn
              pass_on to r = (let mark = option_some ((s.columns p).gone (o).mail.host) (Able.forward_mark (s.columns p) (o).mail.host (o).ask.followed to r) in
                  own (Able.take_pass sys workers s v less idle t (g.main t) p to (o).mail.host (Able.pass_can (part_of s t p) (g.main t) p to (o).mail.host (o).mail.letter (o).ask mark.0 letter_p (ap ask_in o.letter) mark.1 r)))

      -- at the end
      done : g.lines.stage t ≡ Done → t ≡ suc (s.before + s.head.done) → GoesOn
      done e n = (let r = result in own (Able.take_commit sys workers s v less idle t r.0 r.1 n))
        where
          seg : Segment sys w course t (w.last t)
          seg = courses.segment t (w.last t) c.real (omega arith)

          more_not : (i : ℕ) → suc i ≤ i → ⊥
          more_not i l = omega arith

          by : (u : Pause R) → Follows sys w course t (w.last t) (sys.segment (seg).actor (course.leaf t (w.last t) (w.place t (w.last t))).0 (course.leaf t (w.last t) (w.place t (w.last t))).1) u → (r : R) × (course.result t (suc (w.last t)) ≡ Some r)
          by (Go st) f = absurd (more_not (w.last t) f.more)
          by (Down st) f = absurd (more_not (w.last t) f.more)
          by Pause.Back f = absurd (more_not (w.last t) f.more)
          by (Over r) f = (r, f.result_is)

          result : (r : R) × ((s.cells t).result ≡ Some r)
          result = (let r = by (sys.segment (seg).actor (course.leaf t (w.last t) (w.place t (w.last t))).0 (course.leaf t (w.last t) (w.place t (w.last t))).1).pause seg.follows in (r.0, c.result ∙ ap (course.result t) (x.good.ended t la e) ∙ r.1))

      pub goes_on : t ≡ suc (s.before + s.head.done) → GoesOn
      goes_on n = by (g.lines.stage t) refl
        where
          by : (u : Stage) → g.lines.stage t ≡ u → GoesOn
          by Entering e = entering e
          by Lined e = lined e
          by Coming e = coming e
          by There e = there e
          by Done e = done e n
