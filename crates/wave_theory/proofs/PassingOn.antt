-- Passes keep what the state shows.
use Rattle.std.proofs.Common.{◌≡◌, ℕ, ◌<◌, ◌≤◌, inl, inr, nat_eq, nat_lt, Bool, true, false, Option, Some, None, is_some, refl, sym, ◌∙◌, ap, subst, arith}
use Rattle.std.specs.Prelude.{if◌then◌else◌}
use Rattle.wave_base.specs.declared.path.Path.{Path}
use Rattle.wave_states.specs.Actors.{Actors}
use Rattle.wave_states.specs.States.{State, Enter, Mail, set}
use Rattle.wave_states.specs.Steps.{Part, Route, Forward, with_bench, after_admit, part_of}
use Rattle.wave_theory.proofs.Basics.{some_same, none_not, number_cases, set_at, set_there, differ}
use Rattle.wave_theory.proofs.Order.{Way, IsWay}
use Rattle.wave_theory.proofs.Leaves.{Course, IsCourse}
use Rattle.wave_theory.proofs.Opened.{Passes}
use Rattle.wave_theory.proofs.Own.{shows_letter}
use Rattle.wave_theory.proofs.Frames.{update}
use Rattle.wave_theory.proofs.Alive
use Rattle.wave_theory.proofs.Deeds
use Rattle.wave_states.specs.Labels
use Rattle.wave_theory.proofs.Shows
use Rattle.wave_theory.proofs.Stages.{entering_coming}

module _ {A F R J : Type 0} (sys : Actors A F R J) (w : Way) (law : IsWay w) (course : Course sys) (low : ℕ) (is_real : ℕ → Type 0) (courses : IsCourse sys w course low is_real) where
  -- Pass: nothing changes but where the Enter lies
  module _ (s : State A F R J) (g : Shows.Ghost F) (x : Shows.Shows sys w course low is_real s g) (t k to : ℕ) (p : Path) (h v : ℕ) (y : Part A F R) (q : Passes k to p h (part_of s t p) y) (lt : low < t) (la : t ≤ g.lines.admitted) where
    cp : Shows.CellShows sys w course low is_real g t (s.cells t)
    cp = x.cells t lt la

    ep : Shows.EnterShows sys w course low is_real g t k h p q.ask
    ep = shows_letter sys w course low is_real g t k h p (Enter q.ask) (s.cells t) cp q.letter_at

    stays_p : (i : Bool) → Shows.ColumnShows sys w course low is_real i g p (s.columns p) → Shows.Stays sys w course low is_real g p (s.columns p)
    stays_p true u = u
    stays_p false u = absurd (none_not (sym (u.empty.no_marks h) ∙ q.mark_is))

    pub frame_p : Shows.Frame sys w course low is_real g g t p v
    frame_p = record {
      admitted = omega arith;
      stage = λ b n. refl;
      pos = λ b n. refl;
      out = λ b n. refl;
      worker = λ b n. refl;
      main = λ b n. refl;
      parting = λ b r n. refl;
      holds = λ b r n. refl;
      holds_there = λ b r n. refl;
      entry = λ r d. refl;
      body = λ r d. refl;
      born = λ r d. refl;
      served = λ r d. refl;
      given = λ r i d. refl;
      trail = λ r d. inl refl;
      birth = refl;
      longer = λ b n. inl refl;
      entry_moving = λ b n m u. refl;
      body_shared = λ b n m. refl;
      born_known = λ r i z u. subst (λ a. g.born a ≡ false) z ((x.entries r).strangers i u);
      lined = λ r d z u. (z, u);
      away = λ r d z u. (z, u);
      hand = λ u n z i. (z, refl, refl, refl, refl);
    }

    enter_now : Shows.EnterShows sys w course low is_real g t k to p (record { number = q.ask.number; followed = q.mark.number; peek = q.ask.peek })
    enter_now = (let m = (stays_p (g.born p) (x.columns p)).track.mark_is h q.mark q.mark_is in record {
      stage = ep.stage;
      place = ep.place;
      number = ep.number;
      peek = ep.peek;
      main = ep.main;
      followed = omega (arith, m.1, m.3);
      host_is = to_mark ∙ m.4 ∙ ap (g.trail p).at (sym m.3);
    })
      where
        forward_same : (a b : ℕ) → Forward a ≡ Forward b → a ≡ b
        forward_same a b e = cc

        by : (o : Bool) (m : Bool) → (if o then Rattle.wave_states.specs.Steps.Route.Deliver else (if m then Forward q.mark.to else Rattle.wave_states.specs.Steps.Route.Wait)) ≡ Forward to → to ≡ q.mark.to
        by true m e = absurd (deliver_not e)
          where
            deliver_not : Rattle.wave_states.specs.Steps.Route.Deliver ≡ Forward to → ⊥
            deliver_not e = grind arith
        by false true e = sym (forward_same q.mark.to to e)
        by false false e = absurd (wait_not e)
          where
            wait_not : Rattle.wave_states.specs.Steps.Route.Wait ≡ Forward to → ⊥
            wait_not e = grind arith

        to_mark : to ≡ q.mark.to
        to_mark = by (is_some ((s.columns p).store h)) (nat_lt q.ask.followed q.mark.number) (subst (λ o. (if is_some ((s.columns p).store h) then Rattle.wave_states.specs.Steps.Route.Deliver else Rattle.wave_states.specs.Steps.route_by o q.ask.followed) ≡ Forward to) q.mark_is q.route_is)

    abbrev mails_now : ℕ → Option (Mail F)
    mails_now = set nat_eq (s.cells t).mails k (Some (record { host = to; path = p; letter = Enter (record { number = q.ask.number; followed = q.mark.number; peek = q.ask.peek }) }))

    cell_p : Shows.CellShows sys w course low is_real g t (record { event = (s.cells t).event; mails = mails_now; result = (s.cells t).result })
    cell_p = record {
      event = cp.event;
      event_is = cp.event_is;
      status = cp.status;
      actor = cp.actor;
      held = cp.held;
      where_held = cp.where_held;
      once = cp.once;
      result = cp.result;
      real = cp.real;
      mails = λ i m z. elim (number_cases k i) [
        | inr n ↦ cp.mails i m (sym (set_there nat_eq (s.cells t).mails k _ i n) ∙ z)
        | inl n ↦ (let e : record { host = to; path = p; letter = Enter (record { number = q.ask.number; followed = q.mark.number; peek = q.ask.peek }) } ≡ m = some_same _ m (sym (set_at (s.cells t).mails k _) ∙ subst (λ j. mails_now j ≡ Some m) (sym n) z) in
            subst (λ j. Shows.MailShows sys w course low is_real g t j m.host m.path m.letter) n (subst (λ (j : Mail F). Shows.MailShows sys w course low is_real g t k j.host j.path j.letter) e enter_now))
      ];
      unused = λ i l. elim (number_cases k i) [
        | inr n ↦ set_there nat_eq (s.cells t).mails k _ i n ∙ cp.unused i l
        | inl n ↦ absurd (none_not (sym (cp.unused k (subst (λ j. cp.event.sent < j) (sym n) l)) ∙ q.letter_at.mail_is))
      ];
    }

    pub pass_shows : Shows.Shows sys w course low is_real (with_bench s t p v (record { part = y; hand = None })) g
    pass_shows = update sys w law course low is_real s g g t p v (record { part = y; hand = None }) x frame_p x.good x.kept refl lt la
        (subst (λ (z : Part A F R). Shows.CellShows sys w course low is_real g t z.cell) q.gives cell_p) (x.entries p)
        (subst (λ (z : Part A F R). Shows.ColumnShows sys w course low is_real (g.born p) g p z.column) q.gives (x.columns p)) (λ hd z. absurd (none_not z)) x.root

    pub pass_turn : Deeds.Turn sys w course low is_real s g g (Labels.Pass t k p to)
    pass_turn = record { deed = Deeds.Rests; suits = tt; is = refl; fits = tt; kids = λ r i a z. inl z }

    pub pass_alive : Alive.Alive sys w course low is_real s g → s.hands v ≡ None → Alive.Alive sys w course low is_real (with_bench s t p v (record { part = y; hand = None })) g
    pass_alive a idle = Alive.alive_update sys w course low is_real s g g t p v (record { part = y; hand = None }) x frame_p refl la lt a
        (λ b cl n z vb. z)
        (λ hd z. absurd (none_not (sym idle ∙ z)))
        (subst (λ (z : Part A F R). Alive.AliveOne sys w course low is_real g t z.cell.mails) q.gives (record {
          entering = λ z. record { mail = record { host = to; path = p; letter = Enter (record { number = q.ask.number; followed = q.mark.number; peek = q.ask.peek }) }; there = subst (λ i. mails_now i ≡ Some (record { host = to; path = p; letter = Enter (record { number = q.ask.number; followed = q.mark.number; peek = q.ask.peek }) })) ep.main (set_at (s.cells t).mails k _); ask = record { number = q.ask.number; followed = q.mark.number; peek = q.ask.peek }; letter = refl };
          coming = λ z. absurd (entering_coming (sym ep.stage ∙ z));
          parting = λ r hd n. let i = (a.one t lt la).parting r hd n in record { mail = i.mail; there = set_there nat_eq (s.cells t).mails k _ (g.parting t r) (differ k (g.parting t r) (λ m. Alive.enter_not q.ask i.mail.letter (ap (λ (u : Mail F). u.letter) (some_same i.mail q.letter_at.mail (sym (ap (s.cells t).mails m ∙ i.there) ∙ q.letter_at.mail_is)) ∙ q.letter_at.letter_is) i.letter)) ∙ i.there; path_is = i.path_is; letter = i.letter };
          lined = λ z. (a.one t lt la).lined z;
        }))
        (λ z. let o = a.out t z in record { hand = o.hand; there = set_there nat_eq s.hands v None (g.worker t) (elim (number_cases v (g.worker t)) [ inr n ↦ n | inl n ↦ absurd (none_not (sym idle ∙ ap s.hands n ∙ o.there)) ]) ∙ o.there; ticket_is = o.ticket_is }) (λ r d hd n. n) (λ b e. let o = a.away p b e in record { ticket = o.ticket; holds = o.holds; not_held = o.not_held }) (a.few p) (λ e. e) (Alive.kids_same sys w course low is_real g g p refl (λ st e. e) refl (a.kids p)) a.housed (subst (λ (z : Part A F R). z.cell.mails 0 ≡ None) q.gives (set_there nat_eq (s.cells t).mails k _ 0 (differ k 0 (λ z. none_not (sym (ap (s.cells t).mails z ∙ a.no_zero t) ∙ q.letter_at.mail_is))) ∙ a.no_zero t)) law
