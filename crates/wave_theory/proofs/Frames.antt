-- What a label of one ticket at one context leaves of all others.
use Rattle.std.proofs.Common.{◌≡◌, ◌≢◌, ℕ, ◌<◌, ◌≤◌, ◌⊎◌, ◌&&◌, not, inl, inr, nat_eq, Bool, true, false, Option, Some, None, is_some, [], ◌∷◌, ◌++◌, refl, sym, ◌∙◌, ap, ap₂, subst, arith}
use Rattle.std.specs.List.{AllByRecursion}
use Rattle.wave_base.specs.declared.path.Step.{Step}
use Rattle.wave_base.specs.declared.path.Path.{Path}
use Rattle.wave_base.specs.Paths.{path_eq}
use Rattle.wave_base.specs.Kids.{child_at}
use Rattle.wave_states.specs.Actors.{Actors}
use Rattle.wave_states.specs.States.{State, Cell, Column, Claim, Hand, Letter, Enter, Visit, Back, Release, Transfer, set}
use Rattle.wave_states.specs.Steps.{Bench, with_bench}
use Rattle.wave_theory.proofs.Basics.{clash, number_cases, path_self, path_cases, set_at, set_there, set_at_path, and_first, and_second}
use Rattle.wave_theory.proofs.Order.{Way, IsWay, visits, rank, Done, is_pending, here, Good}
use Rattle.wave_theory.proofs.Ranks.{comes, rank_pos}
use Rattle.wave_theory.proofs.Leaves.{Course}
use Rattle.wave_theory.proofs.Tracks.{owner, Track}
use Rattle.wave_theory.proofs.Paths.{parent_child}
use Rattle.wave_theory.proofs.Shows
use Rattle.wave_theory.proofs.Stages.{coming_done, entering_done, there_done}

pub option_some : {X : Type 0} (o : Option X) → is_some o ≡ true → (x : X) × (o ≡ Some x)
option_some None e = absurd (clash false e refl)
option_some (Some x) e = (x, refl)

pub option_none : {X : Type 0} (o : Option X) → is_some o ≡ false → o ≡ None
option_none None e = refl
option_none (Some x) e = absurd (clash true refl e)

pub not_is : (a : Bool) → not a ≡ true → a ≡ false
not_is true e = absurd (clash false e refl)
not_is false e = refl

pub not_both : (a b : Bool) → (a && b) ≡ false → a ≡ true → b ≡ true → ⊥
not_both a b e f g = grind arith

module _ {A F R J : Type 0} (sys : Actors A F R J) (w : Way) (law : IsWay w) (course : Course sys) (low : ℕ) (is_real : ℕ → Type 0) where
  abbrev MailShows : Shows.Ghost F → ℕ → ℕ → ℕ → Path → Letter F → Type 0
  MailShows g t k host p m = Shows.MailShows sys w course low is_real g t k host p m

  abbrev Cells : Shows.Ghost F → ℕ → Cell A F R → Type 0
  Cells g t c = Shows.CellShows sys w course low is_real g t c

  abbrev Entries : Shows.Ghost F → Path → Type 0
  Entries g p = Shows.EntryShows sys w course low is_real g p

  abbrev Columns : Bool → Shows.Ghost F → Path → Column F → Type 0
  Columns b g p c = Shows.ColumnShows sys w course low is_real b g p c

  abbrev spot : Shows.Ghost F → ℕ → Path
  spot g t = here w g.lines t

  -- facts of one ghost
  module _ (g : Shows.Ghost F) (good : Good w g.lines) where
    pub at_spot : (b : ℕ) → b ≤ g.lines.admitted → g.lines.stage b ≢ Done → w.held b (g.lines.pos b) (spot g b) ≡ true
    at_spot b l n = law.at_held b (g.lines.pos b) (good.going b l n)

    pub entered_spot : (b : ℕ) → b ≤ g.lines.admitted → g.lines.stage b ≢ Done → w.entered b (g.lines.pos b) (spot g b) ≡ true
    entered_spot b l n = law.held_entered b (g.lines.pos b) (spot g b) (at_spot b l n)

    pub visits_of : (b : ℕ) (q : Path) → b ≤ g.lines.admitted → w.entered b (g.lines.pos b) q ≡ true → visits w b q ≡ true
    visits_of b q l e = comes law b (g.lines.pos b) q (good.within b l) e

    -- an Enter was sent there, so a number was given
    pub was_given : (b : ℕ) (q : Path) → 1 ≤ b → b ≤ g.lines.admitted → w.entered b (g.lines.pos b) q ≡ true → g.lines.given q ≡ 0 → ⊥
    was_given b q lb l e z =
        let v = visits_of b q l e in
        let r : rank w q b ≤ g.lines.given q = (good.sends b q lb v).0 (record { known = l; entered = e }) in
        let r' : 0 < rank w q b = rank_pos w q b lb v in omega (arith, z)

    -- what is held there is held
    pub holds_of : (b : ℕ) (q : Path) → 1 ≤ b → b ≤ g.lines.admitted → Shows.in_hand sys w course low is_real g b q ≡ true → g.lines.holds q b ≡ true
    holds_of b q lb l e = good.keeps b q lb (record {
      known = l;
      entered = law.held_entered b (g.lines.pos b) q (and_first _ _ e);
      past = λ x y. not_both _ _ (not_is _ (and_second (w.held b (g.lines.pos b) q) _ e)) x (subst (λ r. path_eq (spot g b) r ≡ true) y (path_self (spot g b)));
    }) (and_first _ _ e)

    pub holds_spot : (b : ℕ) → 1 ≤ b → b ≤ g.lines.admitted → g.lines.stage b ≢ Done → is_pending (g.lines.stage b) ≡ false → g.lines.holds (spot g b) b ≡ true
    holds_spot b lb l n f = good.keeps b (spot g b) lb (record { known = l; entered = entered_spot b l n; past = λ x. absurd (clash _ x f) }) (at_spot b l n)

  module _ (g g' : Shows.Ghost F) (t : ℕ) (p : Path) (v : ℕ) (good : Good w g.lines) (f : Shows.Frame sys w course low is_real g g' t p v) where
    spot_same : (b : ℕ) → nat_eq t b ≡ false → spot g' b ≡ spot g b
    spot_same b n = ap (w.place b) (f.pos b n)

    -- the trail of a context that another ticket entered goes on at most, and that of one that it holds stays
    trail_for : (b : ℕ) (q : Path) → nat_eq t b ≡ false → 1 ≤ b → b ≤ g.lines.admitted → w.entered b (g.lines.pos b) q ≡ true →
        (g'.trail q ≡ g.trail q) ⊎ ((g.lines.holds q b ≡ false) × ((g.trail q).last ≤ (g'.trail q).last) × ((i : ℕ) → i ≤ (g.trail q).last → (g'.trail q).at i ≡ (g.trail q).at i))
    trail_for b q n lb l e = elim (path_cases p q) [
      | inl z ↦ subst (λ r. (g'.trail r ≡ g.trail r) ⊎ ((g.lines.holds r b ≡ false) × ((g.trail r).last ≤ (g'.trail r).last) × ((i : ℕ) → i ≤ (g.trail r).last → (g'.trail r).at i ≡ (g.trail r).at i))) z (f.longer b n)
      | inr z ↦ elim (f.trail q z) [
        | inl y ↦ inl y
        | inr y ↦ absurd (was_given g good b q lb l e y.0)
      ]
    ]

    pub trail_held : (b : ℕ) (q : Path) → nat_eq t b ≡ false → g.lines.holds q b ≡ true → g'.trail q ≡ g.trail q
    trail_held b q n h = elim (trail_for b q n (good.first b q h) (good.let_in b q h).known (good.let_in b q h).entered) [
      | inl y ↦ y
      | inr y ↦ absurd (clash _ h y.0)
    ]

    entry_held : (b : ℕ) (q : Path) → nat_eq t b ≡ false → g.lines.holds q b ≡ true → (g.trail q).stored ≡ false → g'.entry q ≡ g.entry q
    entry_held b q n h s = elim (path_cases p q) [
      | inl z ↦ subst (λ r. g'.entry r ≡ g.entry r) z (f.entry_moving b n (subst (λ r. g.lines.holds r b ≡ true) (sym z) h) (subst (λ r. (g.trail r).stored ≡ false) (sym z) s))
      | inr z ↦ f.entry q z
    ]

    leaving_frame : (b k h : ℕ) (q : Path) → nat_eq t b ≡ false → Shows.Leaving sys w course low is_real g b k h q → Shows.Leaving sys w course low is_real g' b k h q
    leaving_frame b k h q n x = record {
      holds = f.holds b q n ∙ x.holds;
      not_held = ap (λ i. w.held b i q) (f.pos b n) ∙ x.not_held;
      number_is = x.number_is ∙ sym (f.parting b q n);
      host_is = x.host_is ∙ ap owner (sym (trail_held b q n x.holds));
    }

    coming_frame : (b k h : ℕ) (q : Path) → nat_eq t b ≡ false → 1 ≤ b → b ≤ g.lines.admitted → Shows.ComingShows sys w course low is_real g b k h q → Shows.ComingShows sys w course low is_real g' b k h q
    coming_frame b k h q n lb l x = record {
      stage = f.stage b n ∙ x.stage;
      place = x.place ∙ sym (spot_same b n);
      main = x.main ∙ sym (f.main b n);
      host_is = x.host_is ∙ ap owner (sym (trail_held b q n (subst (λ r. g.lines.holds r b ≡ true) (sym x.place) (holds_spot g good b lb l (λ e. coming_done (sym x.stage ∙ e)) (ap is_pending x.stage)))));
    }

    pub mail_frame : (b k h : ℕ) (q : Path) (m : Letter F) → nat_eq t b ≡ false → 1 ≤ b → b ≤ g.lines.admitted → MailShows g b k h q m → MailShows g' b k h q m
    mail_frame b k h q (Enter a) n lb l x = elim (trail_for b q n lb l (subst (λ r. w.entered b (g.lines.pos b) r ≡ true) (sym x.place) (entered_spot g good b l (λ e. entering_done (sym x.stage ∙ e))))) [
      | inl y ↦ record {
        stage = f.stage b n ∙ x.stage;
        place = x.place ∙ sym (spot_same b n);
        number = x.number;
        peek = x.peek;
        main = x.main ∙ sym (f.main b n);
        followed = subst (λ z. a.followed ≤ z.last) (sym y) x.followed;
        host_is = x.host_is ∙ ap (λ z. z.at a.followed) (sym y);
      }
      | inr y ↦ record {
        stage = f.stage b n ∙ x.stage;
        place = x.place ∙ sym (spot_same b n);
        number = x.number;
        peek = x.peek;
        main = x.main ∙ sym (f.main b n);
        followed = omega (arith, x.followed, y.1);
        host_is = x.host_is ∙ sym (y.2 a.followed x.followed);
      }
    ]
    mail_frame b k h q Visit n lb l x = coming_frame b k h q n lb l x
    mail_frame b k h q Back n lb l x = coming_frame b k h q n lb l x
    mail_frame b k h q Release n lb l x = (leaving_frame b k h q n x.0, ap (λ z. z.stored) (trail_held b q n x.0.holds) ∙ x.1)
    mail_frame b k h q (Transfer en) n lb l x = (leaving_frame b k h q n x.0, ap (λ z. z.stored) (trail_held b q n x.0.holds) ∙ x.1, x.2 ∙ sym (entry_held b q n x.0.holds x.1), x.3)

    in_hand_same : (b : ℕ) (q : Path) → nat_eq t b ≡ false → Shows.in_hand sys w course low is_real g' b q ≡ Shows.in_hand sys w course low is_real g b q
    in_hand_same b q n = ap₂ (λ i z. w.held b i q && not (is_pending z && path_eq (w.place b i) q)) (f.pos b n) (f.stage b n)

    pub cell_frame : (b : ℕ) (c : Cell A F R) → nat_eq t b ≡ false → 1 ≤ b → b ≤ g.lines.admitted → Cells g b c → Cells g' b c
    cell_frame b c n lb l x = record {
      event = x.event;
      event_is = x.event_is;
      status = subst (λ z. Shows.StatusShows x.event.status z (g'.out b) (spot g' b)) (sym (f.stage b n)) (subst (λ z. Shows.StatusShows x.event.status (g.lines.stage b) z (spot g' b)) (sym (f.out b n)) (subst (λ z. Shows.StatusShows x.event.status (g.lines.stage b) (g.out b) z) (sym (spot_same b n)) x.status));
      actor = λ e. x.actor (sym (f.out b n) ∙ e) ∙ ap (course.actor b) (sym (f.pos b n));
      held = λ q. x.held q ∙ sym (in_hand_same b q n);
      where_held = λ q y e. let z = x.where_held q y e in
          let h = holds_of g good b q lb l (sym (x.held q) ∙ ap is_some e) in
          let s = trail_held b q n h in (z.0 ∙ ap owner (sym s), ap (λ i. i.stored) s ∙ z.1, z.2);
      once = x.once;
      result = x.result ∙ ap (course.result b) (sym (f.pos b n));
      mails = λ k m e. mail_frame b k m.host m.path m.letter n lb l (x.mails k m e);
      unused = x.unused;
      real = x.real;
    }

    pub entry_frame : (q : Path) → path_eq p q ≡ false → Entries g q → Entries g' q
    entry_frame q d x = record {
      served = ap (λ z. z.served) (f.entry q d) ∙ x.served ∙ sym (f.served q d);
      holders = λ b. ap (λ z. Shows.holds_claim z.holders b) (f.entry q d) ∙ x.holders b ∙ sym (f.holds_there b q d);
      peeks = subst (λ z. AllByRecursion (λ c. c.peek ≡ w.looks c.ticket q) z.holders) (sym (f.entry q d)) x.peeks;
      later = λ b h. x.later b (sym (f.holds_there b q d) ∙ h);
      waits = λ j c e. let y = x.waits j c (ap (λ z. z.waiting j) (sym (f.entry q d)) ∙ e) in waits_on c.ticket j c refl y;
      away = λ e. let y = x.away (ap (λ z. z.body) (sym (f.entry q d)) ∙ e) in elim (number_cases t y.ticket) [
        | inr n ↦ record { ticket = y.ticket; holds = f.holds_there y.ticket q d ∙ y.holds; looks = y.looks; out = f.out y.ticket n ∙ y.out; place = spot_same y.ticket n ∙ y.place }
        | inl n ↦ (let z = f.away q d (ap g.out n ∙ y.out) (ap (spot g) n ∙ y.place) in
            record { ticket = t; holds = f.holds_there t q d ∙ subst (λ b. g.lines.holds q b ≡ true) (sym n) y.holds; looks = subst (λ b. w.looks b q ≡ false) (sym n) y.looks; out = z.0; place = z.1 })
      ];
      body = λ r e. x.body r (ap (λ z. z.body) (sym (f.entry q d)) ∙ e) ∙ sym (f.body q d);
      given = λ s. ap (λ z. Shows.given_of z s) (f.body q d) ∙ x.given s ∙ sym (f.given q s d);
      births = λ s c e. x.births s c (ap (λ z. child_at z.children s) (sym (f.body q d)) ∙ e) ∙ birth_same s;
      strangers = λ s e. stranger_same s (ap (λ z. child_at z.children s) (sym (f.body q d)) ∙ e);
      unborn = λ e. f.entry q d ∙ x.unborn (sym (f.born q d) ∙ e);
      moves = ap (λ z. z.moves) (f.entry q d) ∙ (elim (f.trail q d) [
        | inl y ↦ x.moves ∙ ap (λ z. z.last) (sym y)
        | inr y ↦ ap (λ z. z.moves) (x.unborn y.1) ∙ sym y.2
      ]);
    }
      where
        waits_on : (b j : ℕ) (c : Claim) → c.ticket ≡ b → Shows.WaitShows sys w course low is_real g q j c → Shows.WaitShows sys w course low is_real g' q j c
        waits_on b j c e y = elim (number_cases t c.ticket) [
          | inr n ↦ record { known = omega (arith, y.known, f.admitted); later = y.later; stage = f.stage c.ticket n ∙ y.stage; place = spot_same c.ticket n ∙ y.place; number = y.number; peek = y.peek }
          | inl n ↦ (let z = f.lined q d (ap g.lines.stage n ∙ y.stage) (ap (spot g) n ∙ y.place) in
              record { known = omega (arith, y.known, f.admitted); later = y.later; stage = ap g'.lines.stage (sym n) ∙ z.0; place = ap (spot g') (sym n) ∙ z.1; number = y.number; peek = y.peek })
        ]

        birth_same : (s : Step) → (g.trail (q ++ s ∷ [])).at 0 ≡ (g'.trail (q ++ s ∷ [])).at 0
        birth_same s = elim (path_cases p (q ++ s ∷ [])) [
          | inl z ↦ subst (λ r. (g.trail r).at 0 ≡ (g'.trail r).at 0) z (sym f.birth)
          | inr z ↦ elim (f.trail (q ++ s ∷ []) z) [
            | inl y ↦ ap (λ i. i.at 0) (sym y)
            | inr y ↦ absurd (clash _ (subst (λ r. path_eq p r ≡ true) (sym y.3.0 ∙ parent_child q s) (path_self p)) d)
          ]
        ]

        stranger_same : (s : Step) → child_at (g.body q).children s ≡ None → g'.born (q ++ s ∷ []) ≡ false
        stranger_same s e = elim (path_cases p (q ++ s ∷ [])) [
          | inl z ↦ subst (λ r. g'.born r ≡ false) z (f.born_known q s (sym z) e)
          | inr z ↦ f.born (q ++ s ∷ []) z ∙ x.strangers s e
        ]

    pub column_frame : (q : Path) (c : Column F) → path_eq p q ≡ false → Columns (g.born q) g q c → Columns (g'.born q) g' q c
    column_frame q c d x = subst (λ i. Columns i g' q c) (sym (f.born q d)) (by (g.born q) refl x)
      where
        by : (i : Bool) → g.born q ≡ i → Columns i g q c → Columns i g' q c
        by false e x = elim (f.trail q d) [
          | inl y ↦ record { empty = x.empty; last = ap (λ z. z.last) y ∙ x.last }
          | inr y ↦ record { empty = x.empty; last = y.2 }
        ]
        by true e x = elim (f.trail q d) [
          | inl y ↦ record { track = subst (λ z. Track c z) (sym y) x.track; there = λ s. ap (λ z. c.store (owner z)) y ∙ x.there (ap (λ z. z.stored) (sym y) ∙ s) ∙ ap Some (sym (f.entry q d)) }
          | inr y ↦ absurd (clash _ e y.1)
        ]

    pub hand_frame : (u : ℕ) (h : Hand A F) → nat_eq v u ≡ false → Shows.HandShows sys w course low is_real g u h → Shows.HandShows sys w course low is_real g' u h
    hand_frame u h n x = elim (number_cases t h.ticket) [
      | inr m ↦ (let bodies : g'.body h.path ≡ g.body h.path = body_there m in record {
        known = omega (arith, x.known, f.admitted);
        later = x.later;
        out = f.out h.ticket m ∙ x.out;
        worker = x.worker ∙ sym (f.worker h.ticket m);
        stage = f.stage h.ticket m ∙ x.stage;
        place = x.place ∙ sym (spot_same h.ticket m);
        actor = x.actor ∙ ap (course.actor h.ticket) (sym (f.pos h.ticket m));
        fields = x.fields ∙ ap (λ z. z.fields) (sym bodies);
        whole = λ e. x.whole e ∙ sym bodies;
        bare = x.bare;
      })
      | inl m ↦ (let y = f.hand u n (ap g.out m ∙ x.out) (x.worker ∙ ap g.worker (sym m)) in
          let bodies : g'.body h.path ≡ g.body h.path = subst (λ r. g'.body r ≡ g.body r) (ap (spot g) m ∙ sym x.place) y.4 in
          let poses : g'.lines.pos h.ticket ≡ g.lines.pos h.ticket = subst (λ b. g'.lines.pos b ≡ g.lines.pos b) m y.3 in record {
            known = omega (arith, x.known, f.admitted);
            later = x.later;
            out = ap g'.out (sym m) ∙ y.0;
            worker = x.worker ∙ sym (subst (λ b. g'.worker b ≡ g.worker b) m y.1);
            stage = subst (λ b. g'.lines.stage b ≡ g.lines.stage b) m y.2 ∙ x.stage;
            place = x.place ∙ ap (w.place h.ticket) (sym poses);
            actor = x.actor ∙ ap (course.actor h.ticket) (sym poses);
            fields = x.fields ∙ ap (λ z. z.fields) (sym bodies);
            whole = λ e. x.whole e ∙ sym bodies;
            bare = x.bare;
          })
    ]
      where
        held : nat_eq t h.ticket ≡ false → g.lines.holds h.path h.ticket ≡ true
        held m = subst (λ r. g.lines.holds r h.ticket ≡ true) (sym x.place) (holds_spot g good h.ticket (omega (arith, x.later)) x.known (λ e. there_done (sym x.stage ∙ e)) (ap is_pending x.stage))

        body_there : nat_eq t h.ticket ≡ false → g'.body h.path ≡ g.body h.path
        body_there m = elim (path_cases p h.path) [
          | inl z ↦ subst (λ r. g'.body r ≡ g.body r) z (f.body_shared h.ticket m (subst (λ r. g.lines.holds r h.ticket ≡ true) (sym z) (held m)))
          | inr z ↦ f.body h.path z
        ]

  -- A label of t at p by v, whose own parts show what they should, keeps all.
  pub update : (s : State A F R J) (g g' : Shows.Ghost F) (t : ℕ) (p : Path) (v : ℕ) (y : Bench A F R) → Shows.Shows sys w course low is_real s g → Shows.Frame sys w course low is_real g g' t p v →
      Good w g'.lines → Shows.Kept sys w course low is_real g' → g'.lines.admitted ≡ g.lines.admitted → low < t → t ≤ g.lines.admitted → Cells g' t y.part.cell → Entries g' p → Columns (g'.born p) g' p y.part.column →
      ((h : Hand A F) → y.hand ≡ Some h → Shows.HandShows sys w course low is_real g' v h) → g'.born [] ≡ true →
      Shows.Shows sys w course low is_real (with_bench s t p v y) g'
  update s g g' t p v y x f good kept same lt la c e col hd root = record {
    good = good;
    kept = kept;
    cells = λ b lb l. elim (number_cases t b) [
      | inl z ↦ subst (λ i. Cells g' i (set nat_eq s.cells t y.part.cell i)) z (subst (Cells g' t) (sym (set_at s.cells t y.part.cell)) c)
      | inr z ↦ subst (Cells g' b) (sym (set_there nat_eq s.cells t y.part.cell b z)) (cell_frame g g' t p v x.good f b (s.cells b) z (omega (arith, lb)) (subst (λ i. b ≤ i) same l) (x.cells b lb (subst (λ i. b ≤ i) same l)))
    ];
    no_cells = λ b n. elim (number_cases t b) [
      | inl z ↦ absurd (n (subst (λ i. low < i) z lt) (subst (λ i. i ≤ g'.lines.admitted) z (subst (λ i. t ≤ i) (sym same) la)))
      | inr z ↦ set_there nat_eq s.cells t y.part.cell b z ∙ x.no_cells b (λ l m. n l (subst (λ i. b ≤ i) (sym same) m))
    ];
    entries = λ q. elim (path_cases p q) [
      | inl z ↦ subst (Entries g') z e
      | inr z ↦ entry_frame g g' t p v x.good f q z (x.entries q)
    ];
    columns = λ q. elim (path_cases p q) [
      | inl z ↦ subst (λ r. Columns (g'.born r) g' r (set path_eq s.columns p y.part.column r)) z (subst (Columns (g'.born p) g' p) (sym (set_at_path s.columns p y.part.column)) col)
      | inr z ↦ subst (Columns (g'.born q) g' q) (sym (set_there path_eq s.columns p y.part.column q z)) (column_frame g g' t p v x.good f q (s.columns q) z (x.columns q))
    ];
    hands = λ u h k. elim (number_cases v u) [
      | inl z ↦ subst (λ i. Shows.HandShows sys w course low is_real g' i h) z (hd h (sym (set_at s.hands v y.hand) ∙ subst (λ i. set nat_eq s.hands v y.hand i ≡ Some h) (sym z) k))
      | inr z ↦ hand_frame g g' t p v x.good f u h z (x.hands u h (sym (set_there nat_eq s.hands v y.hand u z) ∙ k))
    ];
    before = x.before;
    admitted = same ∙ x.admitted;
    idle = λ b n. elim (number_cases t b) [
      | inl z ↦ absurd (n (subst (λ i. low < i) z lt) (subst (λ i. i ≤ g'.lines.admitted) z (subst (λ i. t ≤ i) (sym same) la)))
      | inr z ↦ (let i = x.idle b (λ l m. n l (subst (λ i. b ≤ i) (sym same) m)) in (f.stage b z ∙ i.0, f.out b z ∙ i.1))
    ];
    root = root;
    root_birth = elim (path_cases p []) [
      | inl z ↦ subst (λ r. (g'.trail r).at 0 ≡ (g.trail r).at 0) z f.birth ∙ x.root_birth
      | inr z ↦ elim (f.trail [] z) [ inl y ↦ ap (λ i. i.at 0) y ∙ x.root_birth | inr y ↦ absurd (y.3.1 refl) ]
    ];
  }
