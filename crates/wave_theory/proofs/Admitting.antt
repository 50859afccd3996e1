-- Admits and Commits keep what the state shows.
use Rattle.wave_theory.proofs.Ranks.{rank_le}
use Rattle.std.proofs.Common.{◌≡◌, ℕ, suc, ◌<◌, ◌≤◌, ◌&&◌, not, inl, inr, nat_eq, Bool, true, false, Some, None, [], ◌∷◌, ◌++◌, refl, sym, ◌∙◌, ap, subst, arith, ◌+◌, ap₂}
use Rattle.std.proofs.lemmas.Bool.Decides.{nat_tests}
use Rattle.wave_base.specs.declared.path.Step.{Step}
use Rattle.wave_base.specs.declared.path.Path.{Path}
use Rattle.wave_base.specs.Paths.{path_eq}
use Rattle.wave_states.specs.Actors.{Actors}
use Rattle.wave_states.specs.States.{State, Column, Enter, Mail, Travelling, set, Cell}
use Rattle.wave_states.specs.Steps.{new_cell, after_admit, after_commit}
use Rattle.wave_theory.proofs.Basics.{clash, some_same, none_not, number_cases, path_self, path_cases, set_at, set_there, differ}
use Rattle.wave_theory.proofs.Order.{Way, IsWay, Entering, Done, is_pending, here, one_more, rank}
use Rattle.wave_theory.proofs.NewTickets.{admit_good, root_number}
use Rattle.wave_theory.proofs.Leaves.{Course, IsCourse}
use Rattle.wave_theory.proofs.Frames.{cell_frame, entry_frame, column_frame, hand_frame}
use Rattle.wave_theory.proofs.Alive
use Rattle.wave_theory.proofs.Tallies
use Rattle.wave_theory.proofs.Deeds
use Rattle.wave_states.specs.Labels
use Rattle.wave_theory.proofs.Shows
use Rattle.wave_theory.proofs.Stages.{done_lined, entering_coming, entering_lined}

module _ {A F R J : Type 0} (sys : Actors A F R J) (w : Way) (law : IsWay w) (course : Course sys) (low : ℕ) (is_real : ℕ → Type 0) (courses : IsCourse sys w course low is_real) where
  -- what is known of the next ticket
  pub record IsFirst (t : ℕ) (j : J) : Type 0 where
    pub real : is_real t
    pub actor : course.actor t 0 ≡ Some (sys.make j t)
    pub result : course.result t 0 ≡ None
    pub looks : w.looks t [] ≡ sys.peeks (sys.make j t)

  abbrev pub with_ticket : Shows.Ghost F → Shows.Ghost F
  with_ticket g = record {
    lines = one_more g.lines;
    out = set nat_eq g.out (suc g.lines.admitted) false;
    worker = g.worker;
    main = set nat_eq g.main (suc g.lines.admitted) 1;
    parting = g.parting;
    entry = g.entry;
    body = g.body;
    born = g.born;
    trail = g.trail;
  }

  module _ (s : State A F R J) (g : Shows.Ghost F) (x : Shows.Shows sys w course low is_real s g) (j : J) (q : IsFirst (suc g.lines.admitted) j) where
    abbrev t : ℕ
    t = suc g.lines.admitted

    abbrev ga : Shows.Ghost F
    ga = with_ticket g

    low_t : low < suc g.lines.admitted
    low_t = omega (arith, x.admitted)

    idle_t : (g.lines.stage t ≡ Done) × (g.out t ≡ false)
    idle_t = x.idle t (λ l m. absurd (too_far m))
      where
        too_far : suc g.lines.admitted ≤ g.lines.admitted → ⊥
        too_far m = omega arith

    not_child : (a : Path) (i : Step) → path_eq [] (a ++ i ∷ []) ≡ false
    not_child [] i = refl
    not_child (u ∷ a) i = refl

    pub frame : (v : ℕ) → Shows.Frame sys w course low is_real g ga t [] v
    frame v = record {
      admitted = omega arith;
      stage = λ b n. set_there nat_eq g.lines.stage t Entering b n;
      pos = λ b n. set_there nat_eq g.lines.pos t 0 b n;
      out = λ b n. set_there nat_eq g.out t false b n;
      worker = λ b n. refl;
      main = λ b n. set_there nat_eq g.main t 1 b n;
      parting = λ b r n. refl;
      holds = λ b r n. refl;
      holds_there = λ b r n. refl;
      entry = λ r d. refl;
      body = λ r d. refl;
      born = λ r d. refl;
      served = λ r d. refl;
      given = λ r i d. set_there path_eq g.lines.given [] _ (r ++ i ∷ []) (not_child r i);
      trail = λ r d. inl refl;
      birth = refl;
      longer = λ b n. inl refl;
      entry_moving = λ b n m u. refl;
      body_shared = λ b n m. refl;
      born_known = λ a i z u. subst (λ e. g.born e ≡ false) z ((x.entries a).strangers i u);
      lined = λ r d z u. absurd (done_lined (sym idle_t.0 ∙ z));
      away = λ r d z u. absurd (clash _ z idle_t.1);
      hand = λ u n z i. absurd (clash _ z idle_t.1);
    }

    apart : (b : ℕ) → b ≤ g.lines.admitted → nat_eq t b ≡ false
    apart b l = elim (number_cases t b) [ inr z ↦ z | inl z ↦ absurd (too_far b l z) ]
      where
        too_far : (b : ℕ) → b ≤ g.lines.admitted → suc g.lines.admitted ≡ b → ⊥
        too_far b l z = omega arith

    kept : Shows.Kept sys w course low is_real ga
    kept = record {
      held = λ p b e. subst (λ i. Shows.Like sys w course low is_real (g.body p) (course.leaf b i p)) (sym (set_there nat_eq g.lines.pos t 0 b (apart b (x.good.let_in b p e).known))) (x.kept.held p b e);
      calm = x.kept.calm;
    }

    pos_t : (ga).lines.pos t ≡ 0
    pos_t = set_at g.lines.pos t 0

    stage_t : (ga).lines.stage t ≡ Entering
    stage_t = set_at g.lines.stage t Entering

    place_t : here w (ga).lines t ≡ []
    place_t = ap (w.place t) pos_t ∙ law.first_place t

    enter : Shows.EnterShows sys w course low is_real ga t 1 0 [] (record { number = t; followed = 0; peek = sys.peeks (sys.make j t) })
    enter = record {
      stage = stage_t;
      place = sym place_t;
      number = sym (root_number law t);
      peek = sym q.looks;
      main = sym (set_at g.main t 1);
      followed = omega arith;
      host_is = sym x.root_birth;
    }

    cell : Shows.CellShows sys w course low is_real ga t (new_cell sys (sys.make j t) t)
    cell = record {
      event = record { actor = Some (sys.make j t); held = []; sent = 1; status = Travelling };
      event_is = refl;
      status = subst (λ v. Shows.StatusShows Travelling v ((ga).out t) (here w (ga).lines t)) (sym stage_t) (set_at g.out t false);
      actor = λ z. sym q.actor ∙ ap (course.actor t) (sym pos_t);
      held = λ p. none_held p;
      where_held = λ p i z. absurd (none_not z);
      once = tt;
      result = sym q.result ∙ ap (course.result t) (sym pos_t);
      mails = λ k m z. elim (number_cases 1 k) [
        | inr n ↦ absurd (none_not (sym (set_there nat_eq (λ i. None) 1 _ k n) ∙ z))
        | inl n ↦ (let e : record { host = 0; path = []; letter = Enter (record { number = t; followed = 0; peek = sys.peeks (sys.make j t) }) } ≡ m = some_same _ m (sym (set_at (λ i. None) 1 _) ∙ subst (λ i. (new_cell sys (sys.make j t) t).mails i ≡ Some m) (sym n) z) in
            subst (λ i. Shows.MailShows sys w course low is_real ga t i m.host m.path m.letter) n (subst (λ (i : Mail F). Shows.MailShows sys w course low is_real ga t 1 i.host i.path i.letter) e enter))
      ];
      unused = λ k l. set_there nat_eq (λ i. None) 1 _ k (differ 1 k (λ e. omega arith));
      real = q.real;
    }
      where
        none_held : (p : Path) → false ≡ (w.held t ((ga).lines.pos t) p && not (is_pending ((ga).lines.stage t) && path_eq (here w (ga).lines t) p))
        none_held p = sym (ap (λ v. w.held t ((ga).lines.pos t) p && not (is_pending v && path_eq (here w (ga).lines t) p)) stage_t ∙ ap (λ i. w.held t i p && not (path_eq (w.place t i) p)) pos_t ∙ by (w.held t 0 p) refl)
          where
            by : (i : Bool) → w.held t 0 p ≡ i → (i && not (path_eq (w.place t 0) p)) ≡ false
            by false e = refl
            by true e = ap not (subst (λ r. path_eq r p ≡ true) (sym (law.first_place t)) (subst (λ r. path_eq [] r ≡ true) (sym (law.first_entered t p (law.held_entered t 0 p e))) (path_self [])))

    entry : Shows.EntryShows sys w course low is_real ga []
    entry = let en = x.entries [] in record {
      served = en.served;
      holders = en.holders;
      peeks = en.peeks;
      later = en.later;
      body = en.body;
      births = en.births;
      strangers = en.strangers;
      unborn = en.unborn;
      moves = en.moves;
      given = en.given;
      waits = λ i c z. let y = en.waits i c z in record { known = omega (arith, y.known); later = y.later; stage = set_there nat_eq g.lines.stage t Entering c.ticket (apart c.ticket y.known) ∙ y.stage; place = ap (w.place c.ticket) (set_there nat_eq g.lines.pos t 0 c.ticket (apart c.ticket y.known)) ∙ y.place; number = y.number; peek = y.peek };
      away = λ z. let y = en.away z in let k = apart y.ticket (x.good.let_in y.ticket [] y.holds).known in
          record { ticket = y.ticket; holds = y.holds; looks = y.looks; out = set_there nat_eq g.out t false y.ticket k ∙ y.out; place = ap (w.place y.ticket) (set_there nat_eq g.lines.pos t 0 y.ticket k) ∙ y.place };
    }

    column_root : (i : Bool) (c : Column F) → Shows.ColumnShows sys w course low is_real i g [] c → Shows.ColumnShows sys w course low is_real i ga [] c
    column_root true c u = record { track = u.track; there = u.there }
    column_root false c u = record { empty = u.empty; last = u.last }

    pub admit_shows : (n : ℕ) → n ≡ suc g.lines.admitted → Shows.Shows sys w course low is_real (after_admit sys s n j) ga
    admit_shows n e = subst (λ i. Shows.Shows sys w course low is_real (after_admit sys s i j) ga) (sym e) (record {
      good = admit_good law g.lines x.good;
      kept = kept;
      cells = λ b lb l. elim (number_cases t b) [
        | inl z ↦ subst (λ i. Shows.CellShows sys w course low is_real ga i (set nat_eq s.cells t (new_cell sys (sys.make j t) t) i)) z (subst (Shows.CellShows sys w course low is_real ga t) (sym (set_at s.cells t (new_cell sys (sys.make j t) t))) cell)
        | inr z ↦ (let lb' : b ≤ g.lines.admitted = older b l z in subst (Shows.CellShows sys w course low is_real ga b) (sym (set_there nat_eq s.cells t _ b z)) (cell_frame sys w law course low is_real g ga t [] 0 x.good (frame 0) b (s.cells b) z (omega (arith, lb)) lb' (x.cells b lb lb')))
      ];
      no_cells = λ b m. elim (number_cases t b) [
        | inl z ↦ absurd (m (subst (λ i. low < i) z low_t) (subst (λ i. i ≤ suc g.lines.admitted) z (omega arith)))
        | inr z ↦ set_there nat_eq s.cells t _ b z ∙ x.no_cells b (λ l k. m l (omega arith))
      ];
      entries = λ r. elim (path_cases [] r) [
        | inl z ↦ subst (Shows.EntryShows sys w course low is_real ga) z entry
        | inr z ↦ entry_frame sys w law course low is_real g ga t [] 0 x.good (frame 0) r z (x.entries r)
      ];
      columns = λ r. elim (path_cases [] r) [
        | inl z ↦ subst (λ i. Shows.ColumnShows sys w course low is_real (g.born i) ga i (s.columns i)) z (column_root (g.born []) (s.columns []) (x.columns []))
        | inr z ↦ column_frame sys w law course low is_real g ga t [] 0 x.good (frame 0) r (s.columns r) z (x.columns r)
      ];
      hands = λ u h z. hand_frame sys w law course low is_real g ga t [] (suc u) x.good (frame (suc u)) u h (differ (suc u) u (λ i. omega arith)) (x.hands u h z);
      before = x.before;
      admitted = omega (arith, x.admitted);
      idle = λ b m. elim (number_cases t b) [
        | inl z ↦ absurd (m (subst (λ i. low < i) z low_t) (subst (λ i. i ≤ suc g.lines.admitted) z (omega arith)))
        | inr z ↦ (let i = x.idle b (λ l k. m l (omega arith)) in (set_there nat_eq g.lines.stage t Entering b z ∙ i.0, set_there nat_eq g.out t false b z ∙ i.1))
      ];
      root = x.root;
      root_birth = x.root_birth;
    })
      where
        older : (b : ℕ) → b ≤ suc g.lines.admitted → nat_eq t b ≡ false → b ≤ g.lines.admitted
        older b l z = at_or_below b g.lines.admitted l z
          where
            at_or_below : (a b : ℕ) → a ≤ suc b → nat_eq (suc b) a ≡ false → a ≤ b
            at_or_below a b l e = grind (arith, nat_tests)

    pub admit_turn : (n : ℕ) → n ≡ suc g.lines.admitted → Deeds.Turn sys w course low is_real s g ga (Labels.Admit n)
    admit_turn n e = record { deed = Deeds.Admits; suits = tt; is = refl; fits = (e, ap g.lines.stage e ∙ idle_t.0); kids = λ r i a z. inl z }

    pub admit_tally : (c : ℕ → ℕ) → Tallies.Tally sys w course low is_real g c → Tallies.Tally sys w course low is_real ga (set nat_eq c t 1)
    admit_tally c y = record {
      counted = λ b lb l. elim (number_cases t b) [
        | inl z ↦ subst (λ i. set nat_eq c t 1 i ≡ Tallies.progress sys w course low is_real ga i) z (set_at c t 1 ∙ sym (ap suc (ap₂ (λ i j. i + j) (ap (λ n. Tallies.sum_to n (Tallies.over_parts sys w course low is_real ga t)) (set_at g.lines.pos t 0) ∙ Tallies.sum_zero _)
            (ap (λ u. Tallies.stage_part (w.fresh t ((ga).lines.pos t)) u ((ga).out t)) (set_at g.lines.stage t Entering)))))
        | inr z ↦ set_there nat_eq c t 1 b z ∙ y.counted b lb (older b l z) ∙ sym (others b z)
      ];
      stale = λ b lb l e. elim (number_cases t b) [
        | inl z ↦ absurd (entering_coming (sym (set_at g.lines.stage t Entering) ∙ ap (ga).lines.stage z ∙ e))
        | inr z ↦ ap (w.fresh b) (set_there nat_eq g.lines.pos t 0 b z) ∙ y.stale b lb (older b l z) (sym (set_there nat_eq g.lines.stage t Entering b z) ∙ e)
      ];
    }
      where
        older : (b : ℕ) → b ≤ suc g.lines.admitted → nat_eq t b ≡ false → b ≤ g.lines.admitted
        older b l z = at_or_below b g.lines.admitted l z
          where
            at_or_below : (a b : ℕ) → a ≤ suc b → nat_eq (suc b) a ≡ false → a ≤ b
            at_or_below a b l e = grind (arith, nat_tests)

        others : (b : ℕ) → nat_eq t b ≡ false → Tallies.progress sys w course low is_real ga b ≡ Tallies.progress sys w course low is_real g b
        others b z = ap suc (ap₂ (λ i j. i + j)
            (ap (λ n. Tallies.sum_to n (Tallies.over_parts sys w course low is_real ga b)) (set_there nat_eq g.lines.pos t 0 b z))
            (ap₂ (λ i j. Tallies.stage_part (w.fresh b i) j ((ga).out b)) (set_there nat_eq g.lines.pos t 0 b z) (set_there nat_eq g.lines.stage t Entering b z) ∙ ap (Tallies.stage_part (w.fresh b (g.lines.pos b)) (g.lines.stage b)) (set_there nat_eq g.out t false b z)))

    pub admit_alive : (n : ℕ) → n ≡ suc g.lines.admitted → Alive.Alive sys w course low is_real s g → Alive.Alive sys w course low is_real (after_admit sys s n j) ga
    admit_alive n e a = subst (λ i. Alive.Alive sys w course low is_real (after_admit sys s i j) ga) (sym e) (record {
      one = λ b lb l. elim (number_cases t b) [
        | inl z ↦ subst (λ i. Alive.AliveOne sys w course low is_real ga i (set nat_eq s.cells t (new_cell sys (sys.make j t) t) i).mails) z (subst (λ (c : Cell A F R). Alive.AliveOne sys w course low is_real ga t c.mails) (sym (set_at s.cells t (new_cell sys (sys.make j t) t))) mine)
        | inr z ↦ subst (λ (c : Cell A F R). Alive.AliveOne sys w course low is_real ga b c.mails) (sym (set_there nat_eq s.cells t _ b z)) (others b z (a.one b lb (older b l z)))
      ];
      out = λ b u. elim (number_cases t b) [
        | inl z ↦ absurd (clash _ (ap (ga).out z ∙ u) (set_at g.out t false))
        | inr z ↦ a.out b (sym (set_there nat_eq g.out t false b z) ∙ u)
      ];
      housed = a.housed;
      no_zero = λ b. elim (number_cases t b) [
        | inl z ↦ subst (λ i. (set nat_eq s.cells t (new_cell sys (sys.make j t) t) i).mails 0 ≡ None) z (ap (λ (c : Cell A F R). c.mails 0) (set_at s.cells t (new_cell sys (sys.make j t) t)))
        | inr z ↦ ap (λ (c : Cell A F R). c.mails 0) (set_there nat_eq s.cells t (new_cell sys (sys.make j t) t) b z) ∙ a.no_zero b
      ];
      few = λ r. (let z = a.few r in let y = rank_le w r g.lines.admitted in omega (arith, z, y));
      kids = λ q st c u. elim (a.kids q st c u) [ inl m ↦ inl m | inr m ↦ inr (record { ticket = m.ticket; first = m.first; known = omega (arith, m.known); comes = m.comes }) ];
      away = λ r u e. let o = a.away r u e in record { ticket = o.ticket; holds = o.holds; not_held = ap (λ i. w.held o.ticket i r) (set_there nat_eq g.lines.pos t 0 o.ticket (new_one o.ticket (x.good.let_in o.ticket r o.holds).known)) ∙ o.not_held };
    })
      where
        new_one : (b : ℕ) → b ≤ g.lines.admitted → nat_eq t b ≡ false
        new_one b l = differ t b (λ z. omega (arith, l))

        older : (b : ℕ) → b ≤ suc g.lines.admitted → nat_eq t b ≡ false → b ≤ g.lines.admitted
        older b l z = at_or_below b g.lines.admitted l z
          where
            at_or_below : (a b : ℕ) → a ≤ suc b → nat_eq (suc b) a ≡ false → a ≤ b
            at_or_below a b l e = grind (arith, nat_tests)

        mine : Alive.AliveOne sys w course low is_real ga t (new_cell sys (sys.make j t) t).mails
        mine = record {
          entering = λ u. record { mail = record { host = 0; path = []; letter = Enter (record { number = t; followed = 0; peek = sys.peeks (sys.make j t) }) }; there = ap (new_cell sys (sys.make j t) t).mails (set_at g.main t 1) ∙ set_at (λ i. None) 1 _; ask = record { number = t; followed = 0; peek = sys.peeks (sys.make j t) }; letter = refl };
          coming = λ u. absurd (entering_coming (sym stage_t ∙ u));
          parting = λ r h n. absurd (not_known (x.good.let_in t r h).known);
          lined = λ u. absurd (entering_lined (sym stage_t ∙ u));
        }
          where
            not_known : suc g.lines.admitted ≤ g.lines.admitted → ⊥
            not_known l = omega arith

        others : (b : ℕ) → nat_eq t b ≡ false → Alive.AliveOne sys w course low is_real g b (s.cells b).mails → Alive.AliveOne sys w course low is_real ga b (s.cells b).mails
        others b z o = record {
          entering = λ u. let i = o.entering (sym (set_there nat_eq g.lines.stage t Entering b z) ∙ u) in record { mail = i.mail; there = ap (s.cells b).mails (set_there nat_eq g.main t 1 b z) ∙ i.there; ask = i.ask; letter = i.letter };
          coming = λ u. let i = o.coming (sym (set_there nat_eq g.lines.stage t Entering b z) ∙ u) in record { mail = i.mail; there = ap (s.cells b).mails (set_there nat_eq g.main t 1 b z) ∙ i.there; coming = i.coming };
          parting = λ r h n. o.parting r h (ap (λ i. w.held b i r) (sym (set_there nat_eq g.lines.pos t 0 b z)) ∙ n);
          lined = λ u. subst (λ r. Alive.ClaimThere (g.entry r).waiting (rank w r b) b) (sym (ap (w.place b) (set_there nat_eq g.lines.pos t 0 b z))) (o.lined (sym (set_there nat_eq g.lines.stage t Entering b z) ∙ u));
        }

  pub commit_turn : (s : State A F R J) (g : Shows.Ghost F) (t : ℕ) → Deeds.Turn sys w course low is_real s g g (Labels.Commit t)
  commit_turn s g t = record { deed = Deeds.Rests; suits = tt; is = refl; fits = tt; kids = λ r i a z. inl z }

  pub commit_shows : (s : State A F R J) (g : Shows.Ghost F) (r : R) → Shows.Shows sys w course low is_real s g → Shows.Shows sys w course low is_real (after_commit sys s r) g
  commit_shows s g r x = record {
    good = x.good;
    kept = x.kept;
    cells = x.cells;
    no_cells = x.no_cells;
    entries = x.entries;
    columns = x.columns;
    hands = x.hands;
    before = x.before;
    admitted = x.admitted;
    idle = x.idle;
    root = x.root;
    root_birth = x.root_birth;
  }
