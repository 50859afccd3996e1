-- Frees and Lands keep what the state shows.
use Rattle.std.proofs.Common.{◌≡◌, ℕ, suc, ◌<◌, ◌≤◌, ◌⊎◌, inl, inr, nat_eq, true, false, Some, None, is_some, List, [], ◌∷◌, ◌++◌, refl, sym, ◌∙◌, ap, subst, arith}
use Rattle.std.specs.List.{AllByRecursion}
use Rattle.wave_base.specs.declared.path.Path.{Path}
use Rattle.wave_base.specs.Paths.{path_eq}
use Rattle.wave_states.specs.Actors.{Actors}
use Rattle.wave_states.specs.States.{State, Column, Claim, Entry, Letter, Enter, Visit, Back, Release, Transfer, Mail, set, is_coming}
use Rattle.wave_states.specs.Steps.{Part, with_bench, with_entry, with_holders, others, column_joined, part_of, without_mail}
use Rattle.wave_theory.proofs.Basics.{bool_cases, clash, some_same, none_not, number_cases, not_same, path_self, path_cases, set_at, set_there, set_at_path, and_first, differ}
use Rattle.wave_theory.proofs.Order.{Way, IsWay, rank, here, Good, freed}
use Rattle.wave_theory.proofs.Ranks.{rank_less}
use Rattle.wave_theory.proofs.Turns.{free_good, cut_was, cut_off, cut_here}
use Rattle.wave_theory.proofs.Leaves.{Course, IsCourse, frames, after_exit}
use Rattle.wave_theory.proofs.Tracks.{Trail, owner, Track, land_track, arrived}
use Rattle.wave_theory.proofs.Paths.{path_swap, child_differs}
use Rattle.wave_theory.proofs.Opened.{Frees, Lands, LetterIs}
use Rattle.wave_theory.proofs.Own.{mails_but, unused_but, shows_letter, status_out}
use Rattle.wave_theory.proofs.Found.{Found, found, changed, claims_others, all_others}
use Rattle.wave_theory.proofs.Frames.{update, at_spot, visits_of}
use Rattle.wave_theory.proofs.Alive
use Rattle.wave_theory.proofs.Tracks
use Rattle.wave_theory.proofs.Tallies
use Rattle.wave_theory.proofs.Deeds
use Rattle.wave_states.specs.Labels
use Rattle.wave_theory.proofs.Basics.{set_noop_path}
use Rattle.wave_theory.proofs.Shows
use Rattle.wave_theory.proofs.Stages.{coming_done, entering_done, there_done}

module _ {A F R J : Type 0} (sys : Actors A F R J) (w : Way) (law : IsWay w) (course : Course sys) (low : ℕ) (is_real : ℕ → Type 0) (courses : IsCourse sys w course low is_real) where
  -- the context is freed of the ticket, and its trail is as given
  abbrev freed_now : Shows.Ghost F → ℕ → Path → List Claim → Trail → Shows.Ghost F
  freed_now g t p hs r = record { lines = freed g.lines t p; out = g.out; worker = g.worker; main = g.main; parting = g.parting; entry = set path_eq g.entry p (with_holders (g.entry p) hs); body = g.body; born = g.born; trail = set path_eq g.trail p r }

  -- what a Free and a Land have in common
  pub record Leaves (g : Shows.Ghost F) (t k h : ℕ) (p : Path) (hs : List Claim) (r : Trail) : Type 0 where
    pub born : g.born p ≡ true
    pub leaving : Shows.Leaving sys w course low is_real g t k h p
    pub holders : (b : ℕ) → Shows.holds_claim hs b ≡ set nat_eq (g.lines.holds p) t false b
    pub peeks : AllByRecursion (λ c. c.peek ≡ w.looks c.ticket p) hs
    pub at_same : (i : ℕ) → r.at i ≡ (g.trail p).at i
    pub last_same : r.last ≡ (g.trail p).last
    pub moving : (g.trail p).stored ≡ true ⊎ (w.looks t p ≡ false)
    pub trail_same : (g.trail p).stored ≡ true → r ≡ g.trail p

  module _ (s : State A F R J) (g : Shows.Ghost F) (x : Shows.Shows sys w course low is_real s g) (t k : ℕ) (p : Path) (h v : ℕ) (hs : List Claim) (r : Trail) (q : Leaves g t k h p hs r) (col : Column F) (lt : low < t) (la : t ≤ g.lines.admitted)
      (mine : (s.cells t).mails k ≡ None → ⊥) (letter : LetterIs ((s.cells t).mails k) h p Release ⊎ ((en : Entry F) × LetterIs ((s.cells t).mails k) h p (Transfer en))) where
    abbrev gf : Shows.Ghost F
    gf = freed_now g t p hs r

    c : Shows.CellShows sys w course low is_real g t (s.cells t)
    c = x.cells t lt la

    en : Shows.EntryShows sys w course low is_real g p
    en = x.entries p

    entry_now : (gf).entry p ≡ with_holders (g.entry p) hs
    entry_now = set_at_path g.entry p _

    trail_now : (gf).trail p ≡ r
    trail_now = set_at_path g.trail p r

    holds_now : (b : ℕ) → (gf).lines.holds p b ≡ set nat_eq (g.lines.holds p) t false b
    holds_now b = ap (λ f. f b) (set_at_path g.lines.holds p (set nat_eq (g.lines.holds p) t false))

    -- where another one holds it, its entry isn't moving
    shared : (b : ℕ) → nat_eq t b ≡ false → g.lines.holds p b ≡ true → (g.trail p).stored ≡ true
    shared b n m = elim q.moving [
      | inl z ↦ z
      | inr z ↦ absurd (not_same t b n (sym (x.good.alone t p q.leaving.holds z b m)))
    ]

    pub frame : Shows.Frame sys w course low is_real g gf t p v
    frame = record {
      admitted = omega arith;
      stage = λ b n. refl;
      pos = λ b n. refl;
      out = λ b n. refl;
      worker = λ b n. refl;
      main = λ b n. refl;
      parting = λ b a n. refl;
      holds = λ b a n. elim (path_cases p a) [
        | inr d ↦ ap (λ f. f b) (set_there path_eq g.lines.holds p _ a d)
        | inl d ↦ subst (λ i. (gf).lines.holds i b ≡ g.lines.holds i b) d (holds_now b ∙ set_there nat_eq (g.lines.holds p) t false b n)
      ];
      holds_there = λ b a d. ap (λ f. f b) (set_there path_eq g.lines.holds p _ a d);
      entry = λ a d. set_there path_eq g.entry p _ a d;
      body = λ a d. refl;
      born = λ a d. refl;
      served = λ a d. refl;
      given = λ a i d. refl;
      trail = λ a d. inl (set_there path_eq g.trail p r a d);
      birth = ap (λ z. z.at 0) trail_now ∙ q.at_same 0;
      longer = λ b n. elim (bool_cases (g.lines.holds p b)) [
        | inl m ↦ inl (trail_now ∙ q.trail_same (shared b n m))
        | inr m ↦ inr (m, subst (λ z. (g.trail p).last ≤ z) (sym (ap (λ z. z.last) trail_now ∙ q.last_same)) (omega arith), λ i l. ap (λ z. z.at i) trail_now ∙ q.at_same i)
      ];
      entry_moving = λ b n m u. absurd (clash _ (shared b n m) u);
      body_shared = λ b n m. refl;
      born_known = λ a i z u. subst (λ e. g.born e ≡ false) z ((x.entries a).strangers i u);
      lined = λ a d z u. (z, u);
      away = λ a d z u. (z, u);
      hand = λ u n z i. (z, refl, refl, refl, refl);
    }

    good : Good w (gf).lines
    good = free_good law g.lines t p x.good q.leaving.not_held

    kept : Shows.Kept sys w course low is_real gf
    kept = record {
      held = λ a b e. x.kept.held a b (cut_was g.lines.holds p t a b e);
      calm = λ a m cl e l. elim (path_cases p a) [
        | inr d ↦ x.kept.calm a m (λ b u. cl b (cut_off g.lines.holds p t a b (λ z i. clash _ (subst (λ j. path_eq p j ≡ true) z (path_self p)) d) u)) e l
        | inl d ↦ subst (λ i. Shows.Like sys w course low is_real (g.body i) (course.leaf (suc m) 0 i)) d (here_calm m (λ b u. subst (λ i. w.looks b i ≡ true) (sym d) (cl b (subst (λ i. (gf).lines.holds i b ≡ true) d u))) (subst (λ i. rank w i m ≡ g.lines.served i) (sym d) e) l)
      ];
    }
      where
        here_calm : (m : ℕ) → ((b : ℕ) → (gf).lines.holds p b ≡ true → w.looks b p ≡ true) → rank w p m ≡ g.lines.served p → low ≤ m → Shows.Like sys w course low is_real (g.body p) (course.leaf (suc m) 0 p)
        here_calm m cl e l = elim (bool_cases (w.looks t p)) [
          | inl z ↦ x.kept.calm p m (λ b u. elim (number_cases t b) [
            | inl n ↦ subst (λ i. w.looks i p ≡ true) n z
            | inr n ↦ cl b (cut_off g.lines.holds p t p b (λ i j. not_same t b n j) u)
          ]) e l
          | inr z ↦ subst (Shows.Like sys w course low is_real (g.body p)) (sym (path z)) (x.kept.held p t q.leaving.holds)
        ]
          where
            later : w.looks t p ≡ false → t ≤ m
            later z = not_before t m _ _ (λ l. rank_less w p m t l (visits_of sys w law course low is_real g x.good t p la (x.good.let_in t p q.leaving.holds).entered)) (x.good.latest t p q.leaving.holds z ∙ sym e)
              where
                not_before : (t m x y : ℕ) → (m < t → y < x) → x ≡ y → t ≤ m
                not_before t m x y f e = grind arith

            path : w.looks t p ≡ false → course.leaf (suc m) 0 p ≡ course.leaf t (g.lines.pos t) p
            path z = frames sys law courses t m p (later z) (x.good.latest t p q.leaving.holds z ∙ sym e) ∙ courses.chained t p
                ∙ (after_exit sys law courses t (g.lines.pos t) (suc (w.last t)) p (x.good.within t la) (omega arith) (x.good.let_in t p q.leaving.holds).entered q.leaving.not_held).0

    -- the mails but the one that came: what it shows of the context is gone, and of others it is as before
    others_mail : (i : ℕ) (m : Mail F) → (s.cells t).mails i ≡ Some m → nat_eq k i ≡ false → Shows.MailShows sys w course low is_real gf t i m.host m.path m.letter
    others_mail i m z n = by m.letter (c.mails i m z)
      where
        elsewhere : w.held t (g.lines.pos t) m.path ≡ true → path_eq p m.path ≡ false
        elsewhere e = elim (path_cases p m.path) [ inr d ↦ d | inl d ↦ absurd (clash _ (subst (λ j. w.held t (g.lines.pos t) j ≡ true) (sym d) e) q.leaving.not_held) ]

        trail_there : path_eq p m.path ≡ false → (gf).trail m.path ≡ g.trail m.path
        trail_there d = set_there path_eq g.trail p r m.path d

        apart : Shows.Leaving sys w course low is_real g t i m.host m.path → path_eq p m.path ≡ false
        apart u = elim (path_cases p m.path) [ inr d ↦ d | inl d ↦ absurd (not_same k i n (q.leaving.number_is ∙ ap (g.parting t) d ∙ sym u.number_is)) ]

        leaving_now : Shows.Leaving sys w course low is_real g t i m.host m.path → Shows.Leaving sys w course low is_real gf t i m.host m.path
        leaving_now u = record { holds = cut_off g.lines.holds p t m.path t (λ a b. clash _ (subst (λ j. path_eq p j ≡ true) a (path_self p)) (apart u)) u.holds; not_held = u.not_held; number_is = u.number_is; host_is = u.host_is ∙ ap owner (sym (trail_there (apart u))) }

        coming_now : Shows.ComingShows sys w course low is_real g t i m.host m.path → Shows.ComingShows sys w course low is_real gf t i m.host m.path
        coming_now u = record { stage = u.stage; place = u.place; main = u.main; host_is = u.host_is ∙ ap owner (sym (trail_there (elsewhere (subst (λ j. w.held t (g.lines.pos t) j ≡ true) (sym u.place) (at_spot sys w law course low is_real g x.good t la (λ e. coming_done (sym u.stage ∙ e))))))) }

        by : (l : Letter F) → Shows.MailShows sys w course low is_real g t i m.host m.path l → Shows.MailShows sys w course low is_real gf t i m.host m.path l
        by (Enter a) u = (let d = trail_there (elsewhere (subst (λ j. w.held t (g.lines.pos t) j ≡ true) (sym u.place) (at_spot sys w law course low is_real g x.good t la (λ e. entering_done (sym u.stage ∙ e))))) in
            record { stage = u.stage; place = u.place; number = u.number; peek = u.peek; main = u.main; followed = subst (λ z. a.followed ≤ z.last) (sym d) u.followed; host_is = u.host_is ∙ ap (λ z. z.at a.followed) (sym d) })
        by Visit u = coming_now u
        by Back u = coming_now u
        by Release u = (leaving_now u.0, ap (λ z. z.stored) (trail_there (apart u.0)) ∙ u.1)
        by (Transfer e) u = (leaving_now u.0, ap (λ z. z.stored) (trail_there (apart u.0)) ∙ u.1, u.2 ∙ sym (set_there path_eq g.entry p _ m.path (apart u.0)), u.3)

    cell : Shows.CellShows sys w course low is_real gf t (without_mail (s.cells t) k)
    cell = record {
      event = c.event;
      event_is = c.event_is;
      status = c.status;
      actor = c.actor;
      held = c.held;
      where_held = λ a i z. let u = c.where_held a i z in
          let e : w.held t (g.lines.pos t) a ≡ true = and_first _ _ (sym (c.held a) ∙ ap is_some z) in
          let d : path_eq p a ≡ false = (elim (path_cases p a) [ inr d ↦ d | inl d ↦ absurd (clash _ (subst (λ j. w.held t (g.lines.pos t) j ≡ true) (sym d) e) q.leaving.not_held) ]) in
          let tr : (gf).trail a ≡ g.trail a = set_there path_eq g.trail p r a d in
          (u.0 ∙ ap owner (sym tr), ap (λ j. j.stored) tr ∙ u.1, u.2);
      once = c.once;
      result = c.result;
      mails = mails_but sys w course low is_real g gf t k (s.cells t).mails others_mail;
      unused = unused_but sys w course low is_real c.event.sent k (s.cells t).mails c.unused;
      real = c.real;
    }

    entry : Shows.EntryShows sys w course low is_real gf p
    entry = record {
      served = ap (λ z. z.served) entry_now ∙ en.served;
      holders = λ b. ap (λ z. Shows.holds_claim z.holders b) entry_now ∙ q.holders b ∙ sym (holds_now b);
      peeks = subst (λ z. AllByRecursion (λ c. c.peek ≡ w.looks c.ticket p) z.holders) (sym entry_now) q.peeks;
      later = λ b e. en.later b (cut_was g.lines.holds p t p b e);
      waits = λ j cl z. let i = en.waits j cl (ap (λ u. u.waiting j) (sym entry_now) ∙ z) in record { known = i.known; later = i.later; stage = i.stage; place = i.place; number = i.number; peek = i.peek };
      away = λ z. let i = en.away (ap (λ u. u.body) (sym entry_now) ∙ z) in
          record { ticket = i.ticket; holds = cut_off g.lines.holds p t p i.ticket (λ a b. not_here i b) i.holds; looks = i.looks; out = i.out; place = i.place };
      body = λ a z. en.body a (ap (λ u. u.body) (sym entry_now) ∙ z);
      given = en.given;
      births = λ i cl z. en.births i cl z ∙ ap (λ u. u.at 0) (sym (set_there path_eq g.trail p r (p ++ i ∷ []) (path_swap p (p ++ i ∷ []) ∙ child_differs p i)));
      strangers = en.strangers;
      unborn = λ z. absurd (clash _ q.born z);
      moves = ap (λ z. z.moves) entry_now ∙ en.moves ∙ sym q.last_same ∙ ap (λ z. z.last) (sym trail_now);
    }
      where
        not_here : (i : Shows.AwayShows sys w course low is_real g p) → t ≡ i.ticket → ⊥
        not_here i b = clash _ (subst (λ a. w.held t (g.lines.pos t) a ≡ true) (ap (here w g.lines) b ∙ i.place) (at_spot sys w law course low is_real g x.good t la (λ e. clash _ (ap g.out b ∙ i.out) (status_out c.event.status (g.lines.stage t) (g.out t) _ c.status (λ z. there_done (sym z ∙ e)))))) q.leaving.not_held

    pub leaves_shows : Shows.ColumnShows sys w course low is_real (g.born p) gf p col → Shows.Shows sys w course low is_real (with_bench s t p v (record { part = record { cell = without_mail (s.cells t) k; column = col }; hand = None })) gf
    leaves_shows k = update sys w law course low is_real s g gf t p v (record { part = record { cell = without_mail (s.cells t) _; column = col }; hand = None }) x frame good kept refl lt la cell entry k (λ hd z. absurd (none_not z)) x.root

    pub leaves_tally : (n : ℕ → ℕ) → Tallies.Tally sys w course low is_real g n → Tallies.Tally sys w course low is_real gf (set nat_eq n t (suc (n t)))
    leaves_tally n y = Tallies.tally_update sys w course low is_real g gf t p v n frame refl lt la y
        (Tallies.free_more sys w course low is_real law g gf t p refl refl refl (x.good.within t la) (x.good.let_in t p q.leaving.holds).entered q.leaving.not_held q.leaving.holds (holds_now t ∙ set_at (g.lines.holds p) t false) (λ a d. ap (λ f. f t) (set_there path_eq g.lines.holds p _ a d)))
        (λ z. y.stale t lt la z)

    pub leaves_alive : r.stored ≡ true → Alive.Alive sys w course low is_real s g → s.hands v ≡ None → Alive.Alive sys w course low is_real (with_bench s t p v (record { part = record { cell = without_mail (s.cells t) k; column = col }; hand = None })) gf
    leaves_alive st a idle = Alive.alive_update sys w course low is_real s g gf t p v (record { part = record { cell = without_mail (s.cells t) k; column = col }; hand = None }) x frame refl la lt a
        (λ b cl n z vb. ap (λ (u : Entry F). u.waiting (rank w p b)) entry_now ∙ z)
        (λ hd z. absurd (none_not (sym idle ∙ z)))
        (record {
          entering = λ z. let i = own_one.entering z in record { mail = i.mail; there = apart (g.main t) i.mail i.there (λ n. Alive.enter_not i.ask i.mail.letter i.letter (the_letter i.mail (ap (s.cells t).mails n ∙ i.there))) ∙ i.there; ask = i.ask; letter = i.letter };
          coming = λ z. let i = own_one.coming z in record { mail = i.mail; there = apart (g.main t) i.mail i.there (λ n. Alive.coming_no i.mail.letter (elim i.coming [ inl u ↦ ap is_coming u | inr u ↦ ap is_coming u ]) (the_letter i.mail (ap (s.cells t).mails n ∙ i.there))) ∙ i.there; coming = i.coming };
          parting = λ r hd n. let i = own_one.parting r (cut_was g.lines.holds p t r t hd) n in record { mail = i.mail; there = apart (g.parting t r) i.mail i.there (λ m. cut_here g.lines.holds p t (subst (λ j. (gf).lines.holds j t ≡ true) (sym i.path_is ∙ the_path i.mail (ap (s.cells t).mails m ∙ i.there)) hd)) ∙ i.there; path_is = i.path_is; letter = i.letter };
          lined = λ z. let i = own_one.lined z in record { claim = i.claim; there = same_waiting (here w g.lines t) (rank w (here w g.lines t) t) ∙ i.there; ticket_is = i.ticket_is };
        })
        (λ z. let o = a.out t z in record { hand = o.hand; there = set_there nat_eq s.hands v None (g.worker t) (elim (number_cases v (g.worker t)) [ inr n ↦ n | inl n ↦ absurd (none_not (sym idle ∙ ap s.hands n ∙ o.there)) ]) ∙ o.there; ticket_is = o.ticket_is }) (λ a d hd n. n) (λ b e. absurd (clash _ (ap (λ z. z.stored) trail_now ∙ st) e)) (a.few p) (λ e. e) (Alive.kids_same sys w course low is_real g gf p refl (λ st e. e) refl (a.kids p)) (Tracks.housed_set course.hosts g.trail p r a.housed (λ i m. subst (λ z. z < course.hosts) (sym (q.at_same i)) (a.housed p i (subst (λ z. i ≤ z) q.last_same m)))) (Alive.cut_zero (s.cells t).mails k (a.no_zero t)) law
      where
        own_one : Alive.AliveOne sys w course low is_real g t (s.cells t).mails
        own_one = a.one t lt la

        the_letter : (m : Mail F) → (s.cells t).mails k ≡ Some m → (m.letter ≡ Release) ⊎ ((en : Entry F) × (m.letter ≡ Transfer en))
        the_letter m e = elim letter [
          | inl l ↦ inl (ap (λ (u : Mail F). u.letter) (some_same m l.mail (sym e ∙ l.mail_is)) ∙ l.letter_is)
          | inr l ↦ inr (l.0, ap (λ (u : Mail F). u.letter) (some_same m l.1.mail (sym e ∙ l.1.mail_is)) ∙ l.1.letter_is)
        ]

        the_path : (m : Mail F) → (s.cells t).mails k ≡ Some m → m.path ≡ p
        the_path m e = elim letter [
          | inl l ↦ ap (λ (u : Mail F). u.path) (some_same m l.mail (sym e ∙ l.mail_is)) ∙ l.path_is
          | inr l ↦ ap (λ (u : Mail F). u.path) (some_same m l.1.mail (sym e ∙ l.1.mail_is)) ∙ l.1.path_is
        ]

        apart : (i : ℕ) (m : Mail F) → (s.cells t).mails i ≡ Some m → (k ≡ i → ⊥) → set nat_eq (s.cells t).mails k None i ≡ (s.cells t).mails i
        apart i m e n = set_there nat_eq (s.cells t).mails k None i (differ k i n)

        same_waiting : (r : Path) (j : ℕ) → ((gf).entry r).waiting j ≡ (g.entry r).waiting j
        same_waiting r j = elim (path_cases p r) [
          | inr d ↦ ap (λ (u : Entry F). u.waiting j) (set_there path_eq g.entry p _ r d)
          | inl d ↦ subst (λ i. ((gf).entry i).waiting j ≡ (g.entry i).waiting j) d (ap (λ (u : Entry F). u.waiting j) entry_now)
        ]

  -- Free
  module _ (s : State A F R J) (g : Shows.Ghost F) (x : Shows.Shows sys w course low is_real s g) (t k : ℕ) (p : Path) (h v : ℕ) (y : Part A F R) (q : Frees t k p h (part_of s t p) y) (lt : low < t) (la : t ≤ g.lines.admitted) where
    f : Found sys w course low is_real g p (s.columns p) h q.entry
    f = found sys w course low is_real g p (s.columns p) h q.entry (x.columns p) q.entry_is

    lf : Shows.Leaving sys w course low is_real g t k h p × ((g.trail p).stored ≡ true)
    lf = shows_letter sys w course low is_real g t k h p Release (s.cells t) (x.cells t lt la) q.letter_at

    leaves_f : Leaves g t k h p (others t (g.entry p).holders) (g.trail p)
    leaves_f = record {
      born = f.born;
      leaving = lf.0;
      holders = λ b. claims_others t (g.entry p).holders b ∙ (elim (number_cases t b) [
        | inl z ↦ subst (λ i. set nat_eq (Shows.holds_claim (g.entry p).holders) t false i ≡ set nat_eq (g.lines.holds p) t false i) z (set_at (Shows.holds_claim (g.entry p).holders) t false ∙ sym (set_at (g.lines.holds p) t false))
        | inr z ↦ set_there nat_eq (Shows.holds_claim (g.entry p).holders) t false b z ∙ (x.entries p).holders b ∙ sym (set_there nat_eq (g.lines.holds p) t false b z)
      ]);
      peeks = all_others _ t (g.entry p).holders (x.entries p).peeks;
      at_same = λ i. refl;
      last_same = refl;
      moving = inl f.stored;
      trail_same = λ z. refl;
    }

    abbrev pub free_ghost : Shows.Ghost F
    free_ghost = freed_now g t p (others t (g.entry p).holders) (g.trail p)

    pub free_shows : Shows.Shows sys w course low is_real (with_bench s t p v (record { part = y; hand = None })) free_ghost
    free_shows = subst (λ z. Shows.Shows sys w course low is_real (with_bench s t p v (record { part = z; hand = None })) free_ghost) q.gives
        (leaves_shows s g x t k p h v (others t (g.entry p).holders) (g.trail p) leaves_f (with_entry (s.columns p) h (Some (with_holders q.entry (others t q.entry.holders)))) lt la (λ e. none_not (sym e ∙ q.letter_at.mail_is)) (inl q.letter_at)
        (changed sys w course low is_real g free_ghost p (s.columns p) h q.entry (with_holders q.entry (others t q.entry.holders)) f refl (set_at_path g.trail p (g.trail p)) (set_at_path g.entry p _ ∙ ap (λ (z : Entry F). with_holders z (others t z.holders)) (sym f.entry_is))))

    pub free_turn : Deeds.Turn sys w course low is_real s g free_ghost (Labels.Free t k p)
    free_turn = record { deed = Deeds.Rests; suits = tt; is = ap (λ (r : Path → Trail). record { admitted = g.lines.admitted; pos = g.lines.pos; stage = g.lines.stage; served = g.lines.served; given = g.lines.given; births = g.born; trail = r }) (set_noop_path g.trail p (g.trail p) refl); fits = tt; kids = λ r i a z. inl z }

    pub free_tally : (n : ℕ → ℕ) → Tallies.Tally sys w course low is_real g n → Tallies.Tally sys w course low is_real free_ghost (set nat_eq n t (suc (n t)))
    free_tally n y = leaves_tally s g x t k p h v (others t (g.entry p).holders) (g.trail p) leaves_f (with_entry (s.columns p) h (Some (with_holders q.entry (others t q.entry.holders)))) lt la (λ e. none_not (sym e ∙ q.letter_at.mail_is)) (inl q.letter_at) n y

    pub free_alive : Alive.Alive sys w course low is_real s g → s.hands v ≡ None → Alive.Alive sys w course low is_real (with_bench s t p v (record { part = y; hand = None })) free_ghost
    free_alive a idle = subst (λ z. Alive.Alive sys w course low is_real (with_bench s t p v (record { part = z; hand = None })) free_ghost) q.gives
        (leaves_alive s g x t k p h v (others t (g.entry p).holders) (g.trail p) leaves_f (with_entry (s.columns p) h (Some (with_holders q.entry (others t q.entry.holders)))) lt la (λ e. none_not (sym e ∙ q.letter_at.mail_is)) (inl q.letter_at) f.stored a idle)

  -- Land
  module _ (s : State A F R J) (g : Shows.Ghost F) (x : Shows.Shows sys w course low is_real s g) (t k : ℕ) (p : Path) (h v : ℕ) (y : Part A F R) (q : Lands k p h (part_of s t p) y) (lt : low < t) (la : t ≤ g.lines.admitted) where
    ll : Shows.Leaving sys w course low is_real g t k h p × ((g.trail p).stored ≡ false) × (q.entry ≡ g.entry p) × (w.looks t p ≡ false)
    ll = shows_letter sys w course low is_real g t k h p (Transfer q.entry) (s.cells t) (x.cells t lt la) q.letter_at

    born_l : g.born p ≡ true
    born_l = elim (bool_cases (g.born p)) [
      | inl z ↦ z
      | inr z ↦ absurd (clash _ ll.0.holds (sym ((x.entries p).holders t) ∙ ap (λ e. Shows.holds_claim e.holders t) ((x.entries p).unborn z)))
    ]

    stays_l : Shows.Stays sys w course low is_real g p (s.columns p)
    stays_l = subst (λ i. Shows.ColumnShows sys w course low is_real i g p (s.columns p)) born_l (x.columns p)

    leaves_l : Leaves g t k h p [] (arrived (g.trail p))
    leaves_l = record {
      born = born_l;
      leaving = ll.0;
      holders = λ b. elim (number_cases t b) [
        | inl z ↦ subst (λ i. false ≡ set nat_eq (g.lines.holds p) t false i) z (sym (set_at (g.lines.holds p) t false))
        | inr z ↦ sym (set_there nat_eq (g.lines.holds p) t false b z ∙ (elim (bool_cases (g.lines.holds p b)) [ inr i ↦ i | inl i ↦ absurd (not_same t b z (sym (x.good.alone t p ll.0.holds ll.3 b i))) ]))
      ];
      peeks = tt;
      at_same = λ i. refl;
      last_same = refl;
      moving = inr ll.3;
      trail_same = λ z. absurd (clash _ z ll.1);
    }

    abbrev pub land_ghost : Shows.Ghost F
    land_ghost = freed_now g t p [] (arrived (g.trail p))

    pub land_shows : Shows.Shows sys w course low is_real (with_bench s t p v (record { part = y; hand = None })) land_ghost
    land_shows = subst (λ z. Shows.Shows sys w course low is_real (with_bench s t p v (record { part = z; hand = None })) land_ghost) q.gives
        (leaves_shows s g x t k p h v [] (arrived (g.trail p)) leaves_l (column_joined (s.columns p) h (with_holders q.entry [])) lt la (λ e. none_not (sym e ∙ q.letter_at.mail_is)) (inr (q.entry, q.letter_at))
        (subst (λ i. Shows.ColumnShows sys w course low is_real i land_ghost p (column_joined (s.columns p) h (with_holders q.entry []))) (sym born_l) (record {
          track = subst (λ r. Track (column_joined (s.columns p) h (with_holders q.entry [])) r) (sym (set_at_path g.trail p (arrived (g.trail p)))) (subst (λ i. Track (column_joined (s.columns p) i (with_holders q.entry [])) (arrived (g.trail p))) (sym ll.0.host_is) (land_track (s.columns p) (g.trail p) (with_holders q.entry []) stays_l.track ll.1));
          there = λ z. ap (λ r. set nat_eq (s.columns p).store h (Some (with_holders q.entry [])) (owner r)) (set_at_path g.trail p (arrived (g.trail p))) ∙ ap (λ i. set nat_eq (s.columns p).store h (Some (with_holders q.entry [])) i) (sym ll.0.host_is) ∙ set_at (s.columns p).store h (Some (with_holders q.entry []))
              ∙ ap (λ e. Some (with_holders e [])) ll.2 ∙ ap Some (sym (set_at_path g.entry p (with_holders (g.entry p) [])));
        })))

    pub land_turn : Deeds.Turn sys w course low is_real s g land_ghost (Labels.Land t k p)
    land_turn = record { deed = Deeds.Lands; suits = tt; is = refl; fits = tt; kids = λ r i a z. inl z }

    pub land_tally : (n : ℕ → ℕ) → Tallies.Tally sys w course low is_real g n → Tallies.Tally sys w course low is_real land_ghost (set nat_eq n t (suc (n t)))
    land_tally n y = leaves_tally s g x t k p h v [] (arrived (g.trail p)) leaves_l (column_joined (s.columns p) h (with_holders q.entry [])) lt la (λ e. none_not (sym e ∙ q.letter_at.mail_is)) (inr (q.entry, q.letter_at)) n y

    pub land_alive : Alive.Alive sys w course low is_real s g → s.hands v ≡ None → Alive.Alive sys w course low is_real (with_bench s t p v (record { part = y; hand = None })) land_ghost
    land_alive a idle = subst (λ z. Alive.Alive sys w course low is_real (with_bench s t p v (record { part = z; hand = None })) land_ghost) q.gives
        (leaves_alive s g x t k p h v [] (arrived (g.trail p)) leaves_l (column_joined (s.columns p) h (with_holders q.entry [])) lt la (λ e. none_not (sym e ∙ q.letter_at.mail_is)) (inr (q.entry, q.letter_at)) refl a idle)
