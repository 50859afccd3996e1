-- An event is over: all that it held is released.
use Rattle.std.proofs.Common.{◌≡◌, ℕ, suc, ◌<◌, ◌≤◌, ◌⊎◌, ◌&&◌, not, inl, inr, Bool, true, false, Some, None, is_some, List, refl, sym, ◌∙◌, ap, subst, arith}
use Rattle.std.specs.List.{AllByRecursion}
use Rattle.wave_base.specs.declared.path.Path.{Path}
use Rattle.wave_base.specs.Paths.{path_eq}
use Rattle.wave_base.specs.Kids.{child_at}
use Rattle.wave_states.specs.Actors.{Actors, Left}
use Rattle.wave_states.specs.States.{State, Claim, Entry, Hand, Hold, Record, Travelling, Ended, set, hold_at, steps_of}
use Rattle.wave_states.specs.Steps.{Part, after_end, over_here, cell_of, with_body, part_of}
use Rattle.wave_states.specs.Desks.{Desk, left_of, nothing_kept, with_status}
use Rattle.wave_theory.proofs.Basics.{bool_cases, clash, set_at, set_at_path}
use Rattle.wave_theory.proofs.Order.{Way, IsWay, Done, is_pending, here}
use Rattle.wave_theory.proofs.Stops.{done_good}
use Rattle.wave_theory.proofs.Leaves.{Course, IsCourse, Segment, Ends}
use Rattle.wave_theory.proofs.Tracks.{owner}
use Rattle.wave_theory.proofs.Maps.{hold_filter}
use Rattle.wave_theory.proofs.Opened.{Stopping}
use Rattle.wave_theory.proofs.Found.{Found, changed}
use Rattle.wave_theory.proofs.Held.{number_in, number_out}
use Rattle.wave_theory.proofs.Desks.{DeskShows, give_up_desk, give_up_there}
use Rattle.wave_theory.proofs.Alive
use Rattle.wave_theory.proofs.Deeds
use Rattle.wave_states.specs.Labels
use Rattle.wave_theory.proofs.Shows
use Rattle.wave_theory.proofs.Stages.{done_coming, done_entering, done_lined}
use Rattle.wave_theory.proofs.Stopping
use Rattle.wave_theory.proofs.Frames.{option_none}

module _ {A F R J : Type 0} (sys : Actors A F R J) (w : Way) (law : IsWay w) (course : Course sys) (low : ℕ) (is_real : ℕ → Type 0) (courses : IsCourse sys w course low is_real) where
  abbrev Change : Type 0
  Change = Stopping.Change sys w law course low is_real courses

  abbrev changed_by : Shows.Ghost F → ℕ → Path → Change → Shows.Ghost F
  changed_by = Stopping.changed_by sys w law course low is_real courses

  module _ (s : State A F R J) (g : Shows.Ghost F) (x : Shows.Shows sys w course low is_real s g) (hd : Hand A F) (v h : ℕ) (hand_is : s.hands v ≡ Some hd) (y : Part A F R) (q : Stopping sys hd.ticket hd.path h hd (part_of s hd.ticket hd.path) y) where
    abbrev t : ℕ
    t = hd.ticket

    abbrev p : Path
    p = hd.path

    abbrev k : ℕ
    k = g.lines.pos hd.ticket

    abbrev hs : Shows.HandShows sys w course low is_real g v hd
    hs = Stopping.hs sys w law course low is_real courses s g x hd v h hand_is y q

    abbrev c : Shows.CellShows sys w course low is_real g t (s.cells t)
    c = Stopping.c sys w law course low is_real courses s g x hd v h hand_is y q

    abbrev en : Shows.EntryShows sys w course low is_real g p
    en = Stopping.en sys w law course low is_real courses s g x hd v h hand_is y q

    abbrev f : Found sys w course low is_real g p (s.columns p) h q.entry
    f = Stopping.f sys w law course low is_real courses s g x hd v h hand_is y q

    abbrev held_is : (r : Path) → is_some (hold_at q.event.held r) ≡ w.held t k r
    held_is = Stopping.held_is sys w law course low is_real courses s g x hd v h hand_is y q

    abbrev seg : Segment sys w course t k
    seg = Stopping.seg sys w law course low is_real courses s g x hd v h hand_is y q

    abbrev left : Left A F R
    left = sys.segment (seg).actor (course.leaf t k (w.place t k)).0 (course.leaf t k (w.place t k)).1

    abbrev like : Shows.Like sys w course low is_real (g.body p) (course.leaf t k p)
    like = Stopping.like sys w law course low is_real courses s g x hd v h hand_is y q

    abbrev IsChange : (z : Change) → Type 0
    IsChange = Stopping.IsChange sys w law course low is_real courses s g x hd v h hand_is y q

    abbrev same_kids : (z : Change) → z.body.children ≡ (g.body p).children → Alive.Alive sys w course low is_real s g → Alive.Kids sys w course low is_real (changed_by g t p z) p
    same_kids = Stopping.same_kids sys w law course low is_real courses s g x hd v h hand_is y q

    abbrev Lives : (z : Change) → Type 0
    Lives = Stopping.Lives sys w law course low is_real courses s g x hd v h hand_is y q

    abbrev zero_ended : (d : Desk A F) → (after_end d).mails 0 ≡ d.mails 0
    zero_ended = Stopping.zero_ended sys w law course low is_real courses s g x hd v h hand_is y q

    abbrev old_there : Alive.Alive sys w course low is_real s g → (r : Path) → g.lines.holds r t ≡ true → w.held t k r ≡ false → Alive.PartingThere (s.cells t).mails (g.parting t r) r × (g.parting t r ≤ q.event.sent)
    old_there = Stopping.old_there sys w law course low is_real courses s g x hd v h hand_is y q

    -- the desk with these held paths, after the change
    abbrev desk_with : List (Path × Hold) → Desk A F
    desk_with hl = record { event = record { actor = Some (left).actor; held = hl; sent = q.event.sent; status = Travelling }; mails = (s.cells t).mails }

    abbrev holds_held : (r : Path) → w.held t k r ≡ true → g.lines.holds r t ≡ true
    holds_held = Stopping.holds_held sys w law course low is_real courses s g x hd v h hand_is y q

    abbrev KeepsOld : (z : Change) → Type 0
    KeepsOld = Stopping.KeepsOld sys w law course low is_real courses s g x hd v h hand_is y q

    abbrev base_desk : (z : Change) → KeepsOld z → (hl : List (Path × Hold)) (now : Path → Bool) → ((r : Path) → is_some (hold_at hl r) ≡ now r) →
        ((r : Path) (i : Hold) → hold_at hl r ≡ Some i → (hold_at q.event.held r ≡ Some i) × (z.trail r ≡ g.trail r)) → Shows.Once hl →
        DeskShows sys w course low is_real (changed_by g t p z) t (desk_with hl) now (Some (left).actor) Travelling
    base_desk = Stopping.base_desk sys w law course low is_real courses s g x hd v h hand_is y q

    abbrev once_held : Shows.Once q.event.held
    once_held = Stopping.once_held sys w law course low is_real courses s g x hd v h hand_is y q

    abbrev PutBack : (z : Change) → Type 0
    PutBack = Stopping.PutBack sys w law course low is_real courses s g x hd v h hand_is y q

    abbrev still_waits : (z : Change) (j : ℕ) (a : Claim) → Shows.WaitShows sys w course low is_real g p j a → Shows.WaitShows sys w course low is_real (changed_by g t p z) p j a
    still_waits = Stopping.still_waits sys w law course low is_real courses s g x hd v h hand_is y q

    abbrev entry_back : (z : Change) → PutBack z → Shows.EntryShows sys w course low is_real (changed_by g t p z) p
    entry_back = Stopping.entry_back sys w law course low is_real courses s g x hd v h hand_is y q

    -- the end
    pub record EndFacts (P : Path) (r : R) : Type 0 where
      pub last_is : k ≡ w.last t
      pub fields : (course.leaf t (suc k) P).0 ≡ (left).fields
      pub steps : (course.leaf t (suc k) P).1 ≡ (course.leaf t k P).1
      pub result_is : course.result t (suc k) ≡ Some r
      pub moves : (a : Path) (to : ℕ) → sys.moved r ≡ Some (a, to) → (a ≡ P) × (to < course.hosts)
      pub looking : w.looks t P ≡ true → sys.moved r ≡ None
      pub unchanged : w.looks t P ≡ true → course.leaf t (suc k) P ≡ course.leaf t k P

    pub end_facts : (r : R) → Ends sys w course t k r → EndFacts p r
    end_facts r e = subst (λ P. EndFacts P r) (sym hs.place) (record { last_is = e.last_is; fields = seg.fields_next; steps = e.steps_old; result_is = e.result_is; moves = e.moves; looking = e.looking; unchanged = seg.unchanged })

    pub nothing_held : k ≡ w.last t → (r : Path) → w.held t (suc k) r ≡ false
    nothing_held e r = subst (λ j. w.held t (suc j) r ≡ false) (sym e) (law.none t r)

    -- the cell at the end
    pub ended_cell : (z : Change) (d : Desk A F) (r : R) → DeskShows sys w course low is_real (changed_by g t p z) t d (λ a. false) (Some (left).actor) Ended → z.stage ≡ Done → k ≡ w.last t → course.result t (suc k) ≡ Some r →
        Shows.CellShows sys w course low is_real (changed_by g t p z) t (cell_of d (Some r))
    ended_cell z d r x over last res = record {
      event = d.event;
      event_is = refl;
      status = subst (λ u. Shows.StatusShows u ((changed_by g t p z).lines.stage t) ((changed_by g t p z).out t) (here w (changed_by g t p z).lines t)) (sym x.status) (subst (λ u. Shows.StatusShows Ended u ((changed_by g t p z).out t) (here w (changed_by g t p z).lines t)) (sym (set_at g.lines.stage t z.stage ∙ over)) (set_at g.out t false));
      actor = λ u. x.actor ∙ sym seg.actor_next ∙ ap (course.actor t) (sym pos_now);
      held = λ a. x.held a ∙ sym (ap (λ j. j && not (is_pending ((changed_by g t p z).lines.stage t) && path_eq (here w (changed_by g t p z).lines t) a)) (ap (λ j. w.held t j a) pos_now ∙ nothing_held last a));
      where_held = x.where_held;
      once = x.once;
      result = sym res ∙ ap (course.result t) (sym pos_now);
      mails = x.mails;
      unused = x.unused;
      real = c.real;
    }
      where
        pos_now : (changed_by g t p z).lines.pos t ≡ suc k
        pos_now = set_at g.lines.pos t (suc k)

    -- all that is held is released
    abbrev pub all_parting : List (Path × Hold) → ℕ → Path → ℕ
    all_parting hl n r = number_in (left_of nothing_kept hl) n (g.parting t r) r

    pub all_off : (hl : List (Path × Hold)) (n : ℕ) (r : Path) → hold_at hl r ≡ None → all_parting hl n r ≡ g.parting t r
    all_off hl n r e = number_out (left_of nothing_kept hl) n (g.parting t r) r (hold_filter (λ i. true) hl r ∙ e)

    pub ended_desk : (z : Change) (d : Desk A F) (now : Path → Bool) → DeskShows sys w course low is_real (changed_by g t p z) t d now (Some (left).actor) Travelling → k ≡ w.last t →
        ((r : Path) → now r ≡ true → (w.held t k r ≡ true) × (z.parting r ≡ all_parting d.event.held d.event.sent r)) →
        DeskShows sys w course low is_real (changed_by g t p z) t (after_end d) (λ a. false) (Some (left).actor) Ended
    ended_desk z d now x last e = give_up_desk sys w course low is_real (changed_by g t p z) t nothing_kept (record { event = with_status d.event Ended; mails = d.mails }) now (Some (left).actor) Ended (λ r. g.parting t r)
        (record { actor = x.actor; status = refl; held = x.held; where_held = x.where_held; once = x.once; mails = x.mails; unused = x.unused })
        (λ r a m. (holds_held r (e r m).0, ap (λ j. w.held t j r) (set_at g.lines.pos t (suc k)) ∙ nothing_held last r, sym (e r m).1 ∙ sym (ap (λ j. j r) (set_at g.parting t z.parting))))

    -- what is under way when the event has ended
    end_parting : Alive.Alive sys w course low is_real s g → (r : Path) → g.lines.holds r t ≡ true → Alive.PartingThere (after_end (desk_with q.event.held)).mails (all_parting q.event.held q.event.sent r) r
    end_parting a r h = give_up_there nothing_kept (record { event = with_status (desk_with q.event.held).event Ended; mails = (s.cells t).mails }) (g.parting t) r (elim (bool_cases (w.held t k r)) [
      | inl u ↦ inl (refl, held_is r ∙ u)
      | inr u ↦ (let o = old_there a r h u in inr (option_none _ (held_is r ∙ u), o.0, o.1))
    ])

    module _ (r : R) (i : EndFacts p r) where
      -- what only looks ends there, and leaves its context
      module _ (on : w.looks t p ≡ true) where
        abbrev pub z_look : Change
        z_look = record { stage = Done; given = g.lines.given; main = g.main t; parting = all_parting q.event.held q.event.sent; entry = q.entry; body = g.body p; trail = g.trail }

        abbrev pub y_look : Part A F R
        y_look = over_here (part_of s t p) h (desk_with q.event.held) q.entry r

        not_away : (a : Shows.AwayShows sys w course low is_real g p) → ⊥
        not_away a = clash _ on (subst (λ b. w.looks b p ≡ false) (sym (x.good.alone a.ticket p a.holds a.looks t (Stopping.holds_p sys w law course low is_real courses s g x hd v h hand_is y q))) a.looks)

        pub is_look : y ≡ y_look → IsChange z_look
        is_look ye = record {
          good = done_good law g.lines t x.good (omega (arith, hs.later)) hs.known hs.stage i.last_is;
          given_ok = λ a u d. refl;
          trail_ok = λ a d. inl refl;
          birth_ok = refl;
          longer_ok = inl refl;
          body_ok = λ e. refl;
          like = subst (Shows.Like sys w course low is_real (g.body p)) (sym (i.unchanged on)) like;
          cell = subst (λ (u : Part A F R). Shows.CellShows sys w course low is_real (changed_by g t p z_look) t u.cell) (sym ye)
              (ended_cell z_look (after_end (desk_with q.event.held)) r
              (ended_desk z_look (desk_with q.event.held) (λ a. w.held t k a) (base_desk z_look (record { trail = λ a m n. refl; parting = λ a e. all_off q.event.held q.event.sent a (option_none _ (held_is a ∙ e)) }) q.event.held (λ a. w.held t k a) held_is (λ a b e. (e, refl)) once_held) i.last_is (λ a m. (m, refl))) refl i.last_is i.result_is);
          entry = record {
            served = ap (λ (u : Entry F). u.served) entry_now ∙ en.served;
            holders = λ a. ap (λ (u : Entry F). Shows.holds_claim u.holders a) entry_now ∙ en.holders a;
            peeks = subst (λ (u : Entry F). AllByRecursion (λ a. a.peek ≡ w.looks a.ticket p) u.holders) (sym entry_now) en.peeks;
            later = en.later;
            waits = λ j a e. still_waits z_look j a (en.waits j a (ap (λ (u : Entry F). u.waiting j) (sym entry_now) ∙ e));
            away = λ e. absurd (not_away (en.away (ap (λ (u : Entry F). u.body) (sym entry_now) ∙ e)));
            body = λ a e. en.body a (ap (λ (u : Entry F). u.body) (sym entry_now) ∙ e) ∙ sym (set_at_path g.body p (g.body p));
            given = λ u. ap (λ a. Shows.given_of a u) (set_at_path g.body p (g.body p)) ∙ en.given u;
            births = λ u a e. en.births u a (ap (λ j. child_at j.children u) (sym (set_at_path g.body p (g.body p))) ∙ e);
            strangers = λ u e. en.strangers u (ap (λ j. child_at j.children u) (sym (set_at_path g.body p (g.body p))) ∙ e);
            unborn = λ e. absurd (clash _ f.born e);
            moves = ap (λ (u : Entry F). u.moves) entry_now ∙ en.moves;
          };
          column = subst (λ (u : Part A F R). Shows.ColumnShows sys w course low is_real (g.born p) (changed_by g t p z_look) p u.column) (sym ye)
              (changed sys w course low is_real g (changed_by g t p z_look) p (s.columns p) h q.entry q.entry f refl refl (set_at_path g.entry p _));
        }
          where
            entry_now : set path_eq g.entry p q.entry p ≡ g.entry p
            entry_now = set_at_path g.entry p q.entry ∙ f.entry_is

        pub turn_look : Deeds.Turn sys w course low is_real s g (changed_by g t p z_look) (Labels.Stop t p)
        turn_look = record {
          deed = Deeds.Ends;
          suits = tt;
          is = refl;
          fits = record { stopped = record { stage = hs.stage; place = sym hs.place; born = f.born; stored = f.stored }; last = i.last_is; result = r; result_is = i.result_is; move_is = inl (i.looking on) };
          kids = Stopping.kids_by sys w law course low is_real courses s g x hd v h hand_is y q z_look (λ u a e. inl e);
        }

        pub lives_look : y ≡ y_look → Alive.Alive sys w course low is_real s g → Lives z_look
        lives_look ye a = record {
          waiting = refl;
          entering = λ e. absurd (done_entering e);
          coming = λ e. absurd (done_coming e);
          parting = λ b h n. subst (λ (u : Part A F R). Alive.PartingThere u.cell.mails (all_parting q.event.held q.event.sent b) b) (sym ye) (end_parting a b h);
          lined = λ e. absurd (done_lined e);
          away = λ e. absurd (clash _ f.stored e);
          kids = same_kids z_look refl a;
          housed = a.housed;
          no_zero = ap (λ (u : Part A F R). u.cell.mails 0) ye ∙ zero_ended (desk_with q.event.held) ∙ a.no_zero t;
          waits_next = λ f o. refl;
          stale = λ e. absurd (done_coming e);
        }

      module _ (no : w.looks t p ≡ false) where
        pub whole_e : hd.body ≡ g.body p
        whole_e = hs.whole no

        abbrev pub body_end : Record F
        body_end = record { fields = (left).fields; children = hd.body.children }

        pub like_end : Shows.Like sys w course low is_real body_end (course.leaf t (suc k) p)
        like_end = record { fields = sym i.fields; steps = ap (λ u. steps_of u.children) whole_e ∙ like.steps ∙ sym i.steps }

        abbrev pub z_end : Change
        z_end = record { stage = Done; given = g.lines.given; main = g.main t; parting = all_parting q.event.held q.event.sent; entry = with_body q.entry (Some body_end); body = body_end; trail = g.trail }

        abbrev pub y_end : Part A F R
        y_end = over_here (part_of s t p) h (desk_with q.event.held) (with_body q.entry (Some body_end)) r

        pub is_end : y ≡ y_end → IsChange z_end
        is_end ye = record {
          good = done_good law g.lines t x.good (omega (arith, hs.later)) hs.known hs.stage i.last_is;
          given_ok = λ a u d. refl;
          trail_ok = λ a d. inl refl;
          birth_ok = refl;
          longer_ok = inl refl;
          body_ok = λ e. absurd (clash _ e no);
          like = like_end;
          cell = subst (λ (u : Part A F R). Shows.CellShows sys w course low is_real (changed_by g t p z_end) t u.cell) (sym ye)
              (ended_cell z_end (after_end (desk_with q.event.held)) r
              (ended_desk z_end (desk_with q.event.held) (λ a. w.held t k a) (base_desk z_end (record { trail = λ a m n. refl; parting = λ a e. all_off q.event.held q.event.sent a (option_none _ (held_is a ∙ e)) }) q.event.held (λ a. w.held t k a) held_is (λ a b e. (e, refl)) once_held) i.last_is (λ a m. (m, refl))) refl i.last_is i.result_is);
          entry = entry_back z_end (record {
            looks = no;
            entry = refl;
            given = λ u. ap (λ a. Shows.given_of a u) whole_e ∙ en.given u;
            births = λ u a e. en.births u a (ap (λ j. child_at j.children u) (sym whole_e) ∙ e);
            strangers = λ u e. en.strangers u (ap (λ j. child_at j.children u) (sym whole_e) ∙ e);
            moves = ap (λ (u : Entry F). u.moves) f.entry_is ∙ en.moves;
          });
          column = subst (λ (u : Part A F R). Shows.ColumnShows sys w course low is_real (g.born p) (changed_by g t p z_end) p u.column) (sym ye)
              (changed sys w course low is_real g (changed_by g t p z_end) p (s.columns p) h q.entry (with_body q.entry (Some body_end)) f refl refl (set_at_path g.entry p _));
        }

        pub turn_end : (sys.moved r ≡ None) ⊎ (sys.moved r ≡ Some (p, owner (g.trail p))) → Deeds.Turn sys w course low is_real s g (changed_by g t p z_end) (Labels.Stop t p)
        turn_end stays = record {
          deed = Deeds.Ends;
          suits = tt;
          is = refl;
          fits = record { stopped = record { stage = hs.stage; place = sym hs.place; born = f.born; stored = f.stored }; last = i.last_is; result = r; result_is = i.result_is; move_is = stays };
          kids = Stopping.kids_by sys w law course low is_real courses s g x hd v h hand_is y q z_end (λ u a e. inl (ap (λ (b : Record F). child_at b.children u) (sym whole_e) ∙ e));
        }

        pub lives_end : y ≡ y_end → Alive.Alive sys w course low is_real s g → Lives z_end
        lives_end ye a = record {
          waiting = refl;
          entering = λ e. absurd (done_entering e);
          coming = λ e. absurd (done_coming e);
          parting = λ b h n. subst (λ (u : Part A F R). Alive.PartingThere u.cell.mails (all_parting q.event.held q.event.sent b) b) (sym ye) (end_parting a b h);
          lined = λ e. absurd (done_lined e);
          away = λ e. absurd (clash _ f.stored e);
          kids = same_kids z_end (ap (λ (u : Record F). u.children) whole_e) a;
          housed = a.housed;
          no_zero = ap (λ (u : Part A F R). u.cell.mails 0) ye ∙ zero_ended (desk_with q.event.held) ∙ a.no_zero t;
          waits_next = λ f o. refl;
          stale = λ e. absurd (done_coming e);
        }
