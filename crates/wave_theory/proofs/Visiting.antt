-- Visits keep what the state shows.
use Rattle.std.proofs.Common.{◌≡◌, ℕ, suc, ◌<◌, ◌≤◌, ◌&&◌, not, inl, inr, nat_eq, Bool, true, false, None, is_some, refl, sym, ◌∙◌, ap, subst, arith, ap₂}
use Rattle.wave_base.specs.declared.path.Path.{Path}
use Rattle.wave_base.specs.Paths.{path_eq}
use Rattle.wave_states.specs.Actors.{Actors}
use Rattle.wave_states.specs.States.{State, Column, Ready, set, hold_at, is_coming, Mail}
use Rattle.wave_states.specs.Steps.{Part, with_bench, part_of, without_mail, with_event}
use Rattle.wave_states.specs.Desks.{with_status}
use Rattle.wave_theory.proofs.Basics.{clash, some_same, none_not, number_cases, not_same, set_at, set_there}
use Rattle.wave_theory.proofs.Order.{Way, IsWay, Stage, Lined, There, is_pending, here, staged}
use Rattle.wave_theory.proofs.Turns.{arrive_good}
use Rattle.wave_theory.proofs.Leaves.{Course, IsCourse}
use Rattle.wave_theory.proofs.Opened.{Visits, coming_is}
use Rattle.wave_theory.proofs.Own.{Own, mail_own, mails_but, unused_but, shows_letter, status_out}
use Rattle.wave_theory.proofs.Frames.{update}
use Rattle.wave_theory.proofs.Alive
use Rattle.wave_theory.proofs.Tallies
use Rattle.wave_theory.proofs.Deeds
use Rattle.wave_states.specs.Labels
use Rattle.wave_theory.proofs.Shows
use Rattle.wave_theory.proofs.Stages.{coming_entering, coming_lined, coming_there, there_coming, there_entering, there_lined}

module _ {A F R J : Type 0} (sys : Actors A F R J) (w : Way) (law : IsWay w) (course : Course sys) (low : ℕ) (is_real : ℕ → Type 0) (courses : IsCourse sys w course low is_real) where
  -- Visit
  abbrev arrived : Shows.Ghost F → ℕ → Shows.Ghost F
  arrived g t = record { lines = staged g.lines t There; out = g.out; worker = g.worker; main = g.main; parting = g.parting; entry = g.entry; body = g.body; born = g.born; trail = g.trail }

  -- who isn't in line lines up nowhere
  still_lined : (f : ℕ → Stage) (t b : ℕ) (v : Stage) → f b ≡ Lined → (f t ≡ Lined → ⊥) → set nat_eq f t v b ≡ Lined
  still_lined f t b v e n = elim (number_cases t b) [ inr z ↦ set_there nat_eq f t v b z ∙ e | inl z ↦ absurd (n (ap f z ∙ e)) ]

  module _ (s : State A F R J) (g : Shows.Ghost F) (x : Shows.Shows sys w course low is_real s g) (t k : ℕ) (p : Path) (h v : ℕ) (y : Part A F R) (q : Visits k p h (part_of s t p) y) (lt : low < t) (la : t ≤ g.lines.admitted) where
    abbrev gv : Shows.Ghost F
    gv = arrived g t

    cv : Shows.CellShows sys w course low is_real g t (s.cells t)
    cv = x.cells t lt la

    ev : Shows.ComingShows sys w course low is_real g t k h p
    ev = elim (coming_is q.letter q.coming) [
      | inl z ↦ subst (Shows.MailShows sys w course low is_real g t k h p) z (shows_letter sys w course low is_real g t k h p q.letter (s.cells t) cv q.letter_at)
      | inr z ↦ subst (Shows.MailShows sys w course low is_real g t k h p) z (shows_letter sys w course low is_real g t k h p q.letter (s.cells t) cv q.letter_at)
    ]

    stage_v : (gv).lines.stage t ≡ There
    stage_v = set_at g.lines.stage t There

    out_v : g.out t ≡ false
    out_v = status_out cv.event.status (g.lines.stage t) (g.out t) _ cv.status (λ z. coming_there (sym ev.stage ∙ z))

    pub frame_v : Shows.Frame sys w course low is_real g gv t p v
    frame_v = record {
      admitted = omega arith;
      stage = λ b n. set_there nat_eq g.lines.stage t There b n;
      pos = λ b n. refl;
      out = λ b n. refl;
      worker = λ b n. refl;
      main = λ b n. refl;
      parting = λ b r n. refl;
      holds = λ b r n. refl;
      holds_there = λ b r n. refl;
      entry = λ r d. refl;
      body = λ r d. refl;
      born = λ r d. refl;
      served = λ r d. refl;
      given = λ r i d. refl;
      trail = λ r d. inl refl;
      birth = refl;
      longer = λ b n. inl refl;
      entry_moving = λ b n m u. refl;
      body_shared = λ b n m. refl;
      born_known = λ r i z u. subst (λ a. g.born a ≡ false) z ((x.entries r).strangers i u);
      lined = λ r d z u. absurd (coming_lined (sym ev.stage ∙ z));
      away = λ r d z u. absurd (clash _ z out_v);
      hand = λ u n z i. absurd (clash _ z out_v);
    }

    own_v : (r : Path) → g.lines.holds r t ≡ true → Own sys w course low is_real g gv t r
    own_v r hd = record { not_held = λ z. z; parting = refl; holds = hd; trail = refl; entry = λ z. refl }

    cell_v : Shows.CellShows sys w course low is_real gv t (with_event (without_mail (s.cells t) k) (with_status q.event (Ready p)))
    cell_v = record {
      event = with_status q.event (Ready p);
      event_is = refl;
      status = subst (λ z. Shows.StatusShows (Ready p) z (g.out t) (here w g.lines t)) (sym stage_v) (ev.place, out_v);
      actor = λ z. ap (λ u. u.actor) same ∙ cv.actor z;
      held = λ r. ap (λ u. is_some (hold_at u.held r)) same ∙ cv.held r ∙ ap (λ u. w.held t (g.lines.pos t) r && not (is_pending u && path_eq (here w g.lines t) r)) ev.stage ∙ ap (λ u. w.held t (g.lines.pos t) r && not (is_pending u && path_eq (here w g.lines t) r)) (sym stage_v);
      where_held = λ r i z. cv.where_held r i (ap (λ a. hold_at a.held r) (sym same) ∙ z);
      once = subst (λ u. Shows.Once u.held) (sym same) cv.once;
      result = cv.result;
      mails = mails_but sys w course low is_real g gv t k (s.cells t).mails (λ i m z n. mail_own sys w course low is_real g gv t i m.host m.path m.letter (record { no_enter = λ a u. coming_entering (sym ev.stage ∙ u.stage); no_coming = λ u. not_same k i n (ev.main ∙ sym u.main) })
          (λ u. own_v m.path u.holds) (cv.mails i m z));
      unused = λ i l. unused_but sys w course low is_real q.event.sent k (s.cells t).mails (λ j m. cv.unused j (subst (λ u. u.sent < j) same m)) i l;
      real = cv.real;
    }
      where
        same : q.event ≡ cv.event
        same = some_same _ _ (sym q.event_is ∙ cv.event_is)

    entry_v : Shows.EntryShows sys w course low is_real gv p
    entry_v = let en = x.entries p in record {
      served = en.served;
      holders = en.holders;
      peeks = en.peeks;
      later = en.later;
      body = en.body;
      given = en.given;
      births = en.births;
      strangers = en.strangers;
      unborn = en.unborn;
      moves = en.moves;
      waits = λ j cl z. let i = en.waits j cl z in record { known = i.known; later = i.later; stage = still_lined g.lines.stage t cl.ticket There i.stage (λ a. coming_lined (sym ev.stage ∙ a)); place = i.place; number = i.number; peek = i.peek };
      away = λ z. let i = en.away z in record { ticket = i.ticket; holds = i.holds; looks = i.looks; out = i.out; place = i.place };
    }

    column_same : (i : Bool) (col : Column F) → Shows.ColumnShows sys w course low is_real i g p col → Shows.ColumnShows sys w course low is_real i gv p col
    column_same true col u = record { track = u.track; there = u.there }
    column_same false col u = record { empty = u.empty; last = u.last }

    pub visit_shows : Shows.Shows sys w course low is_real (with_bench s t p v (record { part = y; hand = None })) gv
    visit_shows = update sys w law course low is_real s g gv t p v (record { part = y; hand = None }) x frame_v (arrive_good law g.lines t x.good ev.stage) (record { held = x.kept.held; calm = x.kept.calm }) refl lt la
        (subst (λ (z : Part A F R). Shows.CellShows sys w course low is_real gv t z.cell) q.gives cell_v) entry_v
        (subst (λ (z : Part A F R). Shows.ColumnShows sys w course low is_real (g.born p) gv p z.column) q.gives (column_same (g.born p) (s.columns p) (x.columns p))) (λ hd z. absurd (none_not z)) x.root

    pub visit_turn : Deeds.Turn sys w course low is_real s g gv (Labels.Visit t k p)
    visit_turn = record { deed = Deeds.Arrives; suits = tt; is = refl; fits = ev.stage; kids = λ r i a z. inl z }

    pub visit_tally : (n : ℕ → ℕ) → Tallies.Tally sys w course low is_real g n → Tallies.Tally sys w course low is_real gv (set nat_eq n t (suc (n t)))
    visit_tally n y = Tallies.tally_update sys w course low is_real g gv t p v n frame_v refl lt la y
        (Tallies.stage_more sys w course low is_real g gv t refl (λ i l. refl) (ap₂ (λ u o. Tallies.stage_part (w.fresh t (g.lines.pos t)) u o) stage_v out_v ∙ ap (λ f. Tallies.stage_part f There false) (y.stale t lt la ev.stage) ∙ sym (ap (λ u. suc (Tallies.stage_part (w.fresh t (g.lines.pos t)) u (g.out t))) ev.stage)))
        (λ z. absurd (there_coming (sym stage_v ∙ z)))

    pub visit_alive : Alive.Alive sys w course low is_real s g → s.hands v ≡ None → Alive.Alive sys w course low is_real (with_bench s t p v (record { part = y; hand = None })) gv
    visit_alive a idle = Alive.alive_update sys w course low is_real s g gv t p v (record { part = y; hand = None }) x frame_v refl la lt a
        (λ b cl n z vb. z)
        (λ hd z. absurd (none_not (sym idle ∙ z)))
        (subst (λ (z : Part A F R). Alive.AliveOne sys w course low is_real gv t z.cell.mails) q.gives (record {
          entering = λ z. absurd (there_entering (sym stage_v ∙ z));
          coming = λ z. absurd (there_coming (sym stage_v ∙ z));
          parting = λ r hd n. Alive.parting_but (s.cells t).mails k (g.parting t r) r ((a.one t lt la).parting r hd n) (λ m z d l. Alive.coming_no m.letter (ap is_coming (ap (λ (u : Mail F). u.letter) (some_same m q.letter_at.mail (sym z ∙ q.letter_at.mail_is)) ∙ q.letter_at.letter_is) ∙ q.coming) l);
          lined = λ z. absurd (there_lined (sym stage_v ∙ z));
        }))
        (λ z. absurd (clash _ z out_v)) (λ r d hd n. n) (λ b e. let o = a.away p b e in record { ticket = o.ticket; holds = o.holds; not_held = o.not_held }) (a.few p) (λ e. e) (Alive.kids_same sys w course low is_real g gv p refl (λ st e. e) refl (a.kids p)) a.housed (subst (λ (z : Part A F R). z.cell.mails 0 ≡ None) q.gives (Alive.cut_zero (s.cells t).mails k (a.no_zero t))) law
