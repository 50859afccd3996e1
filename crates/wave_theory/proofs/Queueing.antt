-- A Queue keeps what the state shows.
use Rattle.std.proofs.Common.{◌≡◌, ℕ, ◌<◌, ◌≤◌, ◌⊎◌, ◌&&◌, not, inl, inr, nat_eq, Bool, true, false, Some, None, is_some, [], ◌∷◌, ◌++◌, refl, sym, ◌∙◌, ap, subst, arith, suc}
use Rattle.std.specs.List.{AllByRecursion}
use Rattle.wave_base.specs.declared.path.Step.{Step}
use Rattle.wave_base.specs.declared.path.Path.{Path}
use Rattle.wave_base.specs.Paths.{path_eq}
use Rattle.wave_base.specs.Kids.{child_at}
use Rattle.wave_states.specs.Actors.{Actors}
use Rattle.wave_states.specs.States.{State, Claim, Entry, Enter, Waiting, set, hold_at, Mail}
use Rattle.wave_states.specs.Steps.{Part, Route, Deliver, Born, Wait, Forward, with_bench, after_queue, entry_for, route, in_line, with_entry, part_of, child_or_new}
use Rattle.wave_states.specs.Desks.{with_status}
use Rattle.wave_theory.proofs.Basics.{bool_cases, clash, some_same, none_not, number_cases, not_same, path_cases, set_at, set_there, set_at_path}
use Rattle.wave_theory.proofs.Order.{Way, IsWay, Lined, is_pending, here, staged, visits, rank}
use Rattle.wave_theory.proofs.Turns.{line_good}
use Rattle.wave_theory.proofs.Leaves.{Course}
use Rattle.wave_theory.proofs.Tracks.{Trail, owner, Track, change_track, born_track, not_born_again, store_at, born}
use Rattle.wave_theory.proofs.Paths.{child_differs, path_swap}
use Rattle.wave_theory.proofs.Opened.{Queues}
use Rattle.wave_theory.proofs.Own.{Own, mail_own, mails_but, unused_but, shows_letter, status_out}
use Rattle.wave_theory.proofs.Frames.{update, entered_spot, was_given, holds_of}
use Rattle.wave_theory.proofs.Ranks.{rank_same}
use Rattle.wave_theory.proofs.Frames.{visits_of}
use Rattle.wave_theory.proofs.Alive
use Rattle.wave_theory.proofs.Tracks
use Rattle.wave_theory.proofs.Tallies
use Rattle.wave_theory.proofs.Deeds.{grown}
use Rattle.wave_theory.proofs.Deeds
use Rattle.wave_states.specs.Labels
use Rattle.wave_theory.proofs.Shows
use Rattle.wave_theory.proofs.Stages.{entering_coming, entering_done, entering_lined, entering_there, lined_coming, lined_entering}

module _ {A F R J : Type 0} (sys : Actors A F R J) (w : Way) (law : IsWay w) (course : Course sys) (low : ℕ) (is_real : ℕ → Type 0) where
  abbrev after : Shows.Ghost F → ℕ → Path → ℕ → Bool → Shows.Ghost F
  after g t p n peek = record {
    lines = staged g.lines t Lined;
    out = g.out;
    worker = g.worker;
    main = g.main;
    parting = g.parting;
    entry = set path_eq g.entry p (in_line (g.entry p) n (record { ticket = t; peek = peek }));
    body = g.body;
    born = set path_eq g.born p true;
    trail = set path_eq g.trail p (grown (g.born p) (g.trail p));
  }

  module _ (s : State A F R J) (g : Shows.Ghost F) (x : Shows.Shows sys w course low is_real s g) (t k : ℕ) (p : Path) (h v : ℕ) (y : Part A F R) (q : Queues sys t k p h (part_of s t p) y) (lt : low < t) (la : t ≤ g.lines.admitted) where
    c : Shows.CellShows sys w course low is_real g t (s.cells t)
    c = x.cells t lt la

    en : Shows.EntryShows sys w course low is_real g p
    en = x.entries p

    e : Shows.EnterShows sys w course low is_real g t k h p q.ask
    e = shows_letter sys w course low is_real g t k h p (Enter q.ask) (s.cells t) c q.letter_at

    abbrev g' : Shows.Ghost F
    g' = after g t p q.ask.number q.ask.peek

    -- the entry that it lines up in is the context's
    pub record Where : Type 0 where
      pub entry_is : q.entry ≡ g.entry p
      pub column : Shows.ColumnShows sys w course low is_real true g' p (with_entry (s.columns p) h (Some (in_line q.entry q.ask.number (record { ticket = t; peek = q.ask.peek }))))

    trail_now : (i : Bool) → g.born p ≡ i → (g').trail p ≡ grown i (g.trail p)
    trail_now i b = set_at_path g.trail p (grown (g.born p) (g.trail p)) ∙ ap (λ z. grown z (g.trail p)) b

    entry_now : (g').entry p ≡ in_line (g.entry p) q.ask.number (record { ticket = t; peek = q.ask.peek })
    entry_now = set_at_path g.entry p _

    where_it_is : Where
    where_it_is = by (g.born p) refl (x.columns p)
      where
        changed : Entry F
        changed = in_line q.entry q.ask.number (record { ticket = t; peek = q.ask.peek })

        entry_same : q.entry ≡ g.entry p → Some (in_line q.entry q.ask.number (record { ticket = t; peek = q.ask.peek })) ≡ Some ((g').entry p)
        entry_same z = ap (λ u. Some (in_line u q.ask.number (record { ticket = t; peek = q.ask.peek }))) z ∙ ap Some (sym entry_now)

        stays : g.born p ≡ true → (z : q.entry ≡ g.entry p) → Shows.Stays sys w course low is_real g p (s.columns p) → (g.trail p).stored ≡ true → h ≡ owner (g.trail p) → Where
        stays b z k st o = record {
          entry_is = z;
          column = subst (λ (r : Trail). Track (with_entry (s.columns p) h (Some changed)) r → (r.stored ≡ true → (with_entry (s.columns p) h (Some changed)).store (owner r) ≡ Some ((g').entry p)) → Shows.Stays sys w course low is_real g' p (with_entry (s.columns p) h (Some changed))) (trail_now true b) (λ tr th. record { track = tr; there = th })
              (subst (λ i. Track (with_entry (s.columns p) i (Some changed)) (g.trail p)) (sym o) (change_track (s.columns p) (g.trail p) changed k.track st))
              (λ u. ap (λ i. set nat_eq (s.columns p).store h (Some changed) i) (sym o) ∙ set_at (s.columns p).store h (Some changed) ∙ entry_same z);
        }

        by : (i : Bool) → g.born p ≡ i → Shows.ColumnShows sys w course low is_real i g p (s.columns p) → Where
        by true b k = at_route (route (s.columns p) h q.ask.followed) refl
          where
            not_again : route (s.columns p) h q.ask.followed ≡ Born → ⊥
            not_again r = not_born_again (s.columns p) (g.trail p) q.ask.followed k.track e.followed (ap (λ i. route (s.columns p) i q.ask.followed) (sym e.host_is) ∙ r)

            at_route : (r : Route) → route (s.columns p) h q.ask.followed ≡ r → Where
            at_route Deliver r =
                let st : (s.columns p).store h ≡ Some q.entry = ap (entry_for sys p h (s.columns p)) (sym r) ∙ q.entry_is in
                let o = store_at (s.columns p) (g.trail p) h q.entry k.track st in
                stays b (some_same _ _ (sym st ∙ ap (s.columns p).store o.1 ∙ k.there o.0)) k o.0 o.1
            at_route Born r = absurd (not_again r)
            at_route Wait r = absurd (none_not (ap (entry_for sys p h (s.columns p)) (sym r) ∙ q.entry_is))
            at_route (Forward to) r = absurd (none_not (ap (entry_for sys p h (s.columns p)) (sym r) ∙ q.entry_is))
        by false b k = record {
          entry_is = z;
          column = record {
            track = subst (λ i. Track (with_entry (s.columns p) i (Some changed)) ((g').trail p)) (sym first) (subst (λ r. Track (with_entry (s.columns p) ((g.trail p).at 0) (Some changed)) r) (sym (trail_now false b)) (born_track (s.columns p) (g.trail p) changed k.empty));
            there = λ u. ap (λ r. set nat_eq (s.columns p).store h (Some changed) (owner r)) (trail_now false b) ∙ ap (λ i. set nat_eq (s.columns p).store h (Some changed) i) (sym first) ∙ set_at (s.columns p).store h (Some changed) ∙ entry_same z;
          };
        }
          where
            nothing : q.ask.followed ≡ 0
            nothing = omega (arith, e.followed, k.last)

            first : h ≡ (g.trail p).at 0
            first = e.host_is ∙ ap (g.trail p).at nothing

            is_born : route (s.columns p) h q.ask.followed ≡ Born
            is_born = rw (k.empty.no_entry h) (rw (k.empty.no_marks h) (rw nothing refl))

            z : q.entry ≡ g.entry p
            z = some_same _ _ (sym q.entry_is ∙ ap (entry_for sys p h (s.columns p)) is_born) ∙ sym (en.unborn b)

    stage_now : (g').lines.stage t ≡ Lined
    stage_now = set_at g.lines.stage t Lined

    not_holding : (b : ℕ) → g.born p ≡ false → g.lines.holds p b ≡ false
    not_holding b u = sym (en.holders b) ∙ ap (λ z. Shows.holds_claim z.holders b) (en.unborn u)

    last_of : g.born p ≡ false → (g.trail p).last ≡ 0
    last_of u = (let k' : Shows.Unborn sys w course low is_real g p (s.columns p) = subst (λ i. Shows.ColumnShows sys w course low is_real i g p (s.columns p)) u (x.columns p) in k'.last)

    stored_now : ((g').trail p).stored ≡ true
    stored_now = (let k : Shows.Stays sys w course low is_real g' p _ = where_it_is.column in
        (k.track.store_is h (ap is_some (set_at (s.columns p).store h (Some (in_line q.entry q.ask.number (record { ticket = t; peek = q.ask.peek })))))).0)

    -- while its entry moves nobody lines up
    moving : (b : ℕ) → g.lines.holds p b ≡ true → (g.trail p).stored ≡ false → ⊥
    moving b m u = elim (bool_cases (g.born p)) [
      | inr z ↦ clash _ m (not_holding b z)
      | inl z ↦ clash _ (ap (λ r. r.stored) (sym (trail_now true z)) ∙ stored_now) u
    ]

    out_off : g.out t ≡ false
    out_off = status_out c.event.status (g.lines.stage t) (g.out t) _ c.status (λ z. entering_there (sym e.stage ∙ z))

    trail_same : (r : Path) → g.lines.holds r t ≡ true → (g').trail r ≡ g.trail r
    trail_same r hd = elim (path_cases p r) [
      | inr d ↦ set_there path_eq g.trail p _ r d
      | inl d ↦ subst (λ a. (g').trail a ≡ g.trail a) d (elim (bool_cases (g.born p)) [
        | inl u ↦ trail_now true u
        | inr u ↦ absurd (clash _ (subst (λ a. g.lines.holds a t ≡ true) (sym d) hd) (not_holding t u))
      ])
    ]

    given_known : (r : Path) (i : Step) → r ++ i ∷ [] ≡ p → child_at (g.body r).children i ≡ None → ⊥
    given_known r i z u = was_given sys w law course low is_real g x.good t p (omega arith) la (subst (λ a. w.entered t (g.lines.pos t) a ≡ true) (sym e.place) (entered_spot sys w law course low is_real g x.good t la (λ a. entering_done (sym e.stage ∙ a))))
        (subst (λ a. g.lines.given a ≡ 0) z (sym ((x.entries r).given i) ∙ ap (λ o. (child_or_new o 0).given) u))

    pub frame : Shows.Frame sys w course low is_real g g' t p v
    frame = record {
      admitted = omega arith;
      stage = λ b n. set_there nat_eq g.lines.stage t Lined b n;
      pos = λ b n. refl;
      out = λ b n. refl;
      worker = λ b n. refl;
      main = λ b n. refl;
      parting = λ b r n. refl;
      holds = λ b r n. refl;
      holds_there = λ b r n. refl;
      entry = λ r d. set_there path_eq g.entry p _ r d;
      body = λ r d. refl;
      born = λ r d. set_there path_eq g.born p true r d;
      served = λ r d. refl;
      given = λ r i d. refl;
      trail = λ r d. inl (set_there path_eq g.trail p _ r d);
      birth = ap (λ z. z.at 0) (set_at_path g.trail p _) ∙ at_zero (g.born p);
      longer = λ b n. by_born (g.born p) refl b;
      entry_moving = λ b n m u. absurd (moving b m u);
      body_shared = λ b n m. refl;
      born_known = λ r i z u. absurd (given_known r i z u);
      lined = λ r d z u. absurd (entering_lined (sym e.stage ∙ z));
      away = λ r d z u. absurd (clash _ z out_off);
      hand = λ u n z i. absurd (clash _ z out_off);
    }
      where
        at_zero : (i : Bool) → (grown i (g.trail p)).at 0 ≡ (g.trail p).at 0
        at_zero true = refl
        at_zero false = refl

        by_born : (i : Bool) → g.born p ≡ i → (b : ℕ) → ((g').trail p ≡ g.trail p) ⊎ ((g.lines.holds p b ≡ false) × ((g.trail p).last ≤ ((g').trail p).last) × ((f : ℕ) → f ≤ (g.trail p).last → ((g').trail p).at f ≡ (g.trail p).at f))
        by_born true u b = inl (trail_now true u)
        by_born false u b = (let l : (g.trail p).last ≡ 0 = last_of u in inr (not_holding b u, omega (arith, l), λ f m. ap (λ z. z.at f) (trail_now false u)))

    own : (r : Path) → g.lines.holds r t ≡ true → Own sys w course low is_real g g' t r
    own r hd = record {
      not_held = λ z. z;
      parting = refl;
      holds = hd;
      trail = trail_same r hd;
      entry = λ z. elim (path_cases p r) [
        | inr d ↦ set_there path_eq g.entry p _ r d
        | inl d ↦ absurd (moving t (subst (λ a. g.lines.holds a t ≡ true) (sym d) hd) (subst (λ a. (g.trail a).stored ≡ false) (sym d) z))
      ];
    }

    cell : Shows.CellShows sys w course low is_real g' t (after_queue t k p h (part_of s t p) q.event q.ask q.entry).cell
    cell = record {
      event = with_status q.event (Waiting p);
      event_is = refl;
      status = subst (λ z. Shows.StatusShows (Waiting p) z (g.out t) (here w g.lines t)) (sym stage_now) (e.place, out_off);
      actor = λ z. ap (λ u. u.actor) same ∙ c.actor z;
      held = λ r. ap (λ u. is_some (hold_at u.held r)) same ∙ c.held r ∙ ap (λ u. w.held t (g.lines.pos t) r && not (is_pending u && path_eq (here w g.lines t) r)) e.stage ∙ ap (λ u. w.held t (g.lines.pos t) r && not (is_pending u && path_eq (here w g.lines t) r)) (sym stage_now);
      where_held = λ r i z. let u = c.where_held r i (ap (λ a. hold_at a.held r) (sym same) ∙ z) in
          let hd = holds_of sys w law course low is_real g x.good t r (omega arith) la (sym (c.held r) ∙ ap (λ a. is_some (hold_at a.held r)) (sym same) ∙ ap is_some z) in
          let tr = trail_same r hd in (u.0 ∙ ap owner (sym tr), ap (λ a. a.stored) tr ∙ u.1, u.2);
      once = subst (λ u. Shows.Once u.held) (sym same) c.once;
      result = c.result;
      mails = mails_but sys w course low is_real g g' t k (s.cells t).mails (λ i m z n. mail_own sys w course low is_real g g' t i m.host m.path m.letter (record { no_enter = λ a u. not_same k i n (e.main ∙ sym u.main); no_coming = λ u. entering_coming (sym e.stage ∙ u.stage) })
          (λ u. own m.path u.holds) (c.mails i m z));
      unused = λ i l. unused_but sys w course low is_real q.event.sent k (s.cells t).mails (λ j m. c.unused j (subst (λ u. u.sent < j) same m)) i l;
      real = c.real;
    }
      where
        same : q.event ≡ c.event
        same = some_same _ _ (sym q.event_is ∙ c.event_is)

    other_place : (i : Step) → path_eq p (p ++ i ∷ []) ≡ false
    other_place i = path_swap p (p ++ i ∷ []) ∙ child_differs p i

    entry : Shows.EntryShows sys w course low is_real g' p
    entry = record {
      served = ap (λ z. z.served) entry_now ∙ en.served;
      holders = λ b. ap (λ z. Shows.holds_claim z.holders b) entry_now ∙ en.holders b;
      peeks = subst (λ z. AllByRecursion (λ c. c.peek ≡ w.looks c.ticket p) z.holders) (sym entry_now) en.peeks;
      later = en.later;
      waits = λ j cl z. waits_now j cl (ap (λ u. u.waiting j) (sym entry_now) ∙ z);
      away = λ z. let y = en.away (ap (λ u. u.body) (sym entry_now) ∙ z) in record { ticket = y.ticket; holds = y.holds; looks = y.looks; out = y.out; place = y.place };
      body = λ r z. en.body r (ap (λ u. u.body) (sym entry_now) ∙ z);
      given = en.given;
      births = λ i cl z. en.births i cl z ∙ ap (λ u. u.at 0) (sym (set_there path_eq g.trail p _ (p ++ i ∷ []) (other_place i)));
      strangers = λ i z. set_there path_eq g.born p true (p ++ i ∷ []) (other_place i) ∙ en.strangers i z;
      unborn = λ z. absurd (clash _ (set_at_path g.born p true) z);
      moves = ap (λ z. z.moves) entry_now ∙ (elim (bool_cases (g.born p)) [
        | inl z ↦ en.moves ∙ ap (λ r. r.last) (sym (trail_now true z))
        | inr z ↦ ap (λ u. u.moves) (en.unborn z) ∙ ap (λ r. r.last) (sym (trail_now false z))
      ]);
    }
      where
        waits_now : (j : ℕ) (cl : Claim) → set nat_eq (g.entry p).waiting q.ask.number (Some (record { ticket = t; peek = q.ask.peek })) j ≡ Some cl → Shows.WaitShows sys w course low is_real g' p j cl
        waits_now j cl z = elim (number_cases q.ask.number j) [
          | inl u ↦ (let i : record { ticket = t; peek = q.ask.peek } ≡ cl = some_same _ cl (sym (set_at (g.entry p).waiting q.ask.number (Some (record { ticket = t; peek = q.ask.peek }))) ∙ subst (λ i. set nat_eq (g.entry p).waiting q.ask.number (Some (record { ticket = t; peek = q.ask.peek })) i ≡ Some cl) (sym u) z) in
              subst (Shows.WaitShows sys w course low is_real g' p j) i (record { known = la; later = lt; stage = stage_now; place = sym e.place; number = sym u ∙ e.number; peek = e.peek }))
          | inr u ↦ (let i = en.waits j cl (sym (set_there nat_eq (g.entry p).waiting q.ask.number _ j u) ∙ z) in
              record { known = i.known; later = i.later; stage = still cl.ticket i.stage; place = i.place; number = i.number; peek = i.peek })
        ]
          where
            still : (b : ℕ) → g.lines.stage b ≡ Lined → set nat_eq g.lines.stage t Lined b ≡ Lined
            still b i = elim (number_cases t b) [ inr n ↦ set_there nat_eq g.lines.stage t Lined b n ∙ i | inl n ↦ subst (λ a. set nat_eq g.lines.stage t Lined a ≡ Lined) n stage_now ]

    column : Shows.ColumnShows sys w course low is_real ((g').born p) g' p (after_queue t k p h (part_of s t p) q.event q.ask q.entry).column
    column = subst (λ i. Shows.ColumnShows sys w course low is_real i g' p (after_queue t k p h (part_of s t p) q.event q.ask q.entry).column) (sym (set_at_path g.born p true)) where_it_is.column

    root : (g').born [] ≡ true
    root = elim (path_cases p []) [
      | inl z ↦ subst (λ r. (g').born r ≡ true) z (set_at_path g.born p true)
      | inr z ↦ set_there path_eq g.born p true [] z ∙ x.root
    ]

    pub queue_shows : Shows.Shows sys w course low is_real (with_bench s t p v (record { part = y; hand = None })) g'
    queue_shows = update sys w law course low is_real s g g' t p v (record { part = y; hand = None }) x frame (line_good law g.lines t x.good e.stage) (record { held = x.kept.held; calm = x.kept.calm }) refl lt la
        (subst (λ (z : Part A F R). Shows.CellShows sys w course low is_real g' t z.cell) q.gives cell) entry
        (subst (λ (z : Part A F R). Shows.ColumnShows sys w course low is_real ((g').born p) g' p z.column) q.gives column) (λ hd z. absurd (none_not z)) root

    pub queue_turn : Deeds.Turn sys w course low is_real s g g' (Labels.Queue t k p)
    queue_turn = record { deed = Deeds.Lines_up; suits = tt; is = refl; fits = record { stage = e.stage; place = sym e.place; unborn = last_of }; kids = λ r i a z. inl z }

    pub queue_tally : (n : ℕ → ℕ) → Tallies.Tally sys w course low is_real g n → Tallies.Tally sys w course low is_real g' (set nat_eq n t (suc (n t)))
    queue_tally n y = Tallies.tally_update sys w course low is_real g g' t p v n frame refl lt la y
        (Tallies.stage_more sys w course low is_real g g' t refl (λ i l. refl) (ap (λ u. Tallies.stage_part (w.fresh t (g.lines.pos t)) u (g.out t)) stage_now ∙ sym (ap (λ u. suc (Tallies.stage_part (w.fresh t (g.lines.pos t)) u (g.out t))) e.stage)))
        (λ z. absurd (lined_coming (sym stage_now ∙ z)))

    pub queue_alive : Alive.Alive sys w course low is_real s g → s.hands v ≡ None → Alive.Alive sys w course low is_real (with_bench s t p v (record { part = y; hand = None })) g'
    queue_alive a idle = Alive.alive_update sys w course low is_real s g g' t p v (record { part = y; hand = None }) x frame refl la lt a
        (λ b cl n z vb. ap (λ (u : Entry F). u.waiting (rank w p b)) entry_now ∙ set_there nat_eq (g.entry p).waiting q.ask.number _ (rank w p b) (elim (number_cases q.ask.number (rank w p b)) [
          | inr i ↦ i
          | inl i ↦ absurd (not_same t b n (rank_same w p t b vt vb (sym e.number ∙ i)))
        ]) ∙ z)
        (λ hd z. absurd (none_not (sym idle ∙ z)))
        (subst (λ (z : Part A F R). Alive.AliveOne sys w course low is_real g' t z.cell.mails) q.gives (record {
          entering = λ z. absurd (lined_entering (sym stage_now ∙ z));
          coming = λ z. absurd (lined_coming (sym stage_now ∙ z));
          parting = λ r hd n. Alive.parting_but (s.cells t).mails k (g.parting t r) r (mine.parting r hd n) (λ m z d l. Alive.enter_not q.ask m.letter (ap (λ (u : Mail F). u.letter) (some_same m q.letter_at.mail (sym z ∙ q.letter_at.mail_is)) ∙ q.letter_at.letter_is) l);
          lined = λ z. subst (λ r. Alive.ClaimThere ((g').entry r).waiting (rank w r t) t) e.place (record {
            claim = record { ticket = t; peek = q.ask.peek };
            there = ap (λ (u : Entry F). u.waiting (rank w p t)) entry_now ∙ ap (λ i. set nat_eq (g.entry p).waiting i (Some (record { ticket = t; peek = q.ask.peek })) (rank w p t)) e.number ∙ set_at (g.entry p).waiting (rank w p t) (Some (record { ticket = t; peek = q.ask.peek }));
            ticket_is = refl;
          });
        }))
        (λ z. absurd (clash _ z out_off)) (λ r d hd n. n) (λ b z. absurd (clash _ stored_now z)) (a.few p) (λ z. set_at_path g.born p true) (Alive.kids_same sys w course low is_real g g' p refl (λ st z. set_there path_eq g.born p true (p ++ st ∷ []) (path_swap p (p ++ st ∷ []) ∙ child_differs p st) ∙ z) refl (a.kids p)) (Tracks.housed_set course.hosts g.trail p (grown (g.born p) (g.trail p)) a.housed (λ i m. housed_grown (g.born p) i m)) (subst (λ (z : Part A F R). z.cell.mails 0 ≡ None) q.gives (Alive.cut_zero (s.cells t).mails k (a.no_zero t))) law
      where
        housed_grown : (j : Bool) (i : ℕ) → i ≤ (grown j (g.trail p)).last → (grown j (g.trail p)).at i < course.hosts
        housed_grown true i m = a.housed p i m
        housed_grown false i m = Tracks.housed_grown course.hosts (g.trail p) (a.housed p) i m

        stored_now : ((g').trail p).stored ≡ true
        stored_now = (where_it_is.column.track.store_is h (ap is_some (set_at (s.columns p).store h (Some (in_line q.entry q.ask.number (record { ticket = t; peek = q.ask.peek })))))).0

        mine : Alive.AliveOne sys w course low is_real g t (s.cells t).mails
        mine = a.one t lt la

        vt : visits w t p ≡ true
        vt = subst (λ r. visits w t r ≡ true) (sym e.place) (visits_of sys w law course low is_real g x.good t (here w g.lines t) la (entered_spot sys w law course low is_real g x.good t la (λ z. entering_done (sym e.stage ∙ z))))
