-- A segment's end keeps what is good.
use Rattle.std.proofs.Common.{◌≡◌, ◌≢◌, [], ℕ, suc, ◌<◌, ◌≤◌, ◌⊎◌, ◌↔◌, nat_eq, inl, inr, true, false, refl, sym, ◌∙◌, ap, subst, arith}
use Rattle.wave_base.specs.declared.path.Path.{Path}
use Rattle.wave_base.specs.Paths.{path_eq, parent_of}
use Rattle.wave_states.specs.States.{set}
use Rattle.wave_theory.proofs.Basics.{bool_cases, clash, number_cases, not_same, path_is, path_self, set_at, set_there}
use Rattle.wave_theory.proofs.Order.{Way, IsWay, visits, rank, Stage, Entering, Coming, There, Done, is_pending, Lines, Sent, Granted, Good, gone_on, gone_in}
use Rattle.wave_theory.proofs.Ranks.{rank_same, rank_next, rank_less, comes, settled}
use Rattle.wave_theory.proofs.Stages.{coming_done, there_done}

pub below_by : (x y z : ℕ) → y ≡ suc z → x ≤ suc z → (x ≡ y → ⊥) → x ≤ z
below_by x y z e l ne = grind arith

pub off : {X : Type 0} (f : ℕ → X) (t : ℕ) (x : X) (a : ℕ) → nat_eq t a ≡ false → set nat_eq f t x a ≡ f a
off f t x a e = set_there nat_eq f t x a e

module _ {w : Way} (law : IsWay w) where
  abbrev pub new_at : Lines → ℕ → Path
  new_at s t = w.place t (suc (s.pos t))

  pub record Plain (s : Lines) (t : ℕ) (v : Stage) (g : Path → ℕ) : Type 0 where
    pub quiet : is_pending v ≡ false
    pub not_fresh : suc (s.pos t) ≤ w.last t → w.fresh t (suc (s.pos t)) ≡ true → ⊥
    pub given_same : (p : Path) → g p ≡ s.given p
    pub more : v ≢ Done → suc (s.pos t) ≤ w.last t
    pub ends : v ≡ Done → s.pos t ≡ w.last t

  pub record Fresh (s : Lines) (t : ℕ) (v : Stage) (g : Path → ℕ) : Type 0 where
    pub more : suc (s.pos t) ≤ w.last t
    pub fresh : w.fresh t (suc (s.pos t)) ≡ true
    pub pending : is_pending v ≡ true
    pub given_is : (p : Path) → g p ≡ set path_eq s.given (new_at s t) (suc (s.given (new_at s t))) p

  -- who goes on holds its context alone
  pub not_looking : (s : Lines) (t : ℕ) → Good w s → t ≤ s.admitted → suc (s.pos t) ≤ w.last t → w.looks t (w.place t (s.pos t)) ≡ false
  not_looking s t g a m = elim (bool_cases (w.looks t (w.place t (s.pos t)))) [
    | inr z ↦ z
    | inl z ↦ absurd (let e : s.pos t ≡ w.last t = law.looks_last t (s.pos t) (omega arith) z in omega arith)
  ]

  -- the next number at a child is that of the ticket: the earlier ones have left the parent, and so have sent theirs
  pub next_number : (s : Lines) (t : ℕ) → Good w s → 1 ≤ t → t ≤ s.admitted → s.stage t ≡ There → suc (s.pos t) ≤ w.last t → w.fresh t (suc (s.pos t)) ≡ true →
      rank w (new_at s t) t ≡ suc (s.given (new_at s t))
  next_number s t g l a th m f = rank_next w q t (s.given q) l vis before ahead
    where
      k : ℕ
      k = s.pos t

      p : Path
      p = w.place t k

      q : Path
      q = w.place t (suc k)

      in_q : w.entered t (suc k) q ≡ true
      in_q = law.held_entered t (suc k) q (law.at_held t (suc k) m)

      vis : visits w t q ≡ true
      vis = comes law t (suc k) q (omega arith) in_q

      not_in : w.entered t k q ≡ false
      not_in = law.once t k m f

      at_p : w.held t k p ≡ true
      at_p = law.at_held t k (omega arith)

      gr : Granted w s t p
      gr = record { known = a; entered = law.held_entered t k p at_p; past = λ e. absurd (clash (is_pending (s.stage t)) e (ap is_pending th)) }

      mine : s.holds p t ≡ true
      mine = g.keeps t p l gr at_p

      only : (b : ℕ) → s.holds p b ≡ true → b ≡ t
      only = g.alone t p mine (not_looking s t g a m)

      last : rank w p t ≡ s.served p
      last = g.latest t p mine (not_looking s t g a m)

      is_up : parent_of q ≡ p
      is_up = law.below t k m f

      below_root : q ≢ []
      below_root = law.not_root t k m f

      before : (b : ℕ) → 1 ≤ b → b < t → visits w b q ≡ true → rank w q b ≤ s.given q
      before b lb lt vb =
          let vp : visits w b p ≡ true = subst (λ r. visits w b r ≡ true) is_up (law.closed b (suc (w.last b)) q vb below_root) in
          let vt : visits w t p ≡ true = comes law t k p (omega arith) gr.entered in
          let less : rank w p b < rank w p t = rank_less w p b t lt vt in
          let gb : Granted w s b p = (g.grants b p lb vp).1 (omega (arith, last)) in
          let free : w.held b (s.pos b) p ≡ false = (elim (bool_cases (w.held b (s.pos b) p)) [
            | inr d ↦ d
            | inl d ↦ absurd (let z : b ≡ t = only b (g.keeps b p lb gb d) in omega arith)
          ]) in
          let entered_q : w.entered b (s.pos b) q ≡ true = settled law b (s.pos b) q below_root
          (rw is_up gb.entered) (rw is_up free) (g.within b gb.known) vb in
          (g.sends b q lb vb).0 (record { known = gb.known; entered = entered_q })

      ahead : rank w q t ≤ s.given q → ⊥
      ahead h = clash _ ((g.sends t q l vis).1 h).entered not_in

  module _ (s : Lines) (t : ℕ) (v : Stage) (g' : Path → ℕ) (g : Good w s) (l : 1 ≤ t) (a : t ≤ s.admitted) (th : s.stage t ≡ There) (kind : Plain s t v g' ⊎ Fresh s t v g') where
    abbrev pub s' : Lines
    s' = record { admitted = s.admitted; pos = set nat_eq s.pos t (suc (s.pos t)); stage = set nat_eq s.stage t v; served = s.served; given = g'; holds = s.holds }

    k_less : s.pos t ≤ w.last t
    k_less = g.going t a (λ e. there_done (sym th ∙ e))

    pos_at : (s').pos t ≡ suc (s.pos t)
    pos_at = set_at s.pos t (suc (s.pos t))

    pos_off : (b : ℕ) → nat_eq t b ≡ false → (s').pos b ≡ s.pos b
    pos_off b d = off s.pos t (suc (s.pos t)) b d

    f_at : (s').stage t ≡ v
    f_at = set_at s.stage t v

    f_off : (b : ℕ) → nat_eq t b ≡ false → (s').stage b ≡ s.stage b
    f_off b d = off s.stage t v b d

    was : (p : Path) → w.entered t (s.pos t) p ≡ true → Granted w s t p
    was p e = record { known = a; entered = e; past = λ x. absurd (clash (is_pending (s.stage t)) x (ap is_pending th)) }

    -- an entered context is new at this end or was entered before
    newly : (p : Path) → w.entered t (suc (s.pos t)) p ≡ true → (w.entered t (s.pos t) p ≡ true) ⊎ (Fresh s t v g' × (p ≡ new_at s t))
    newly p e = elim (law.new t (s.pos t) p k_less e) [
      | inl x ↦ inl x
      | inr x ↦ elim kind [
        | inl y ↦ absurd (y.not_fresh x.0 x.1)
        | inr y ↦ inr (y, x.2)
      ]
    ]

    to_here : (p : Path) → Granted w s t p → Granted w s' t p
    to_here p x = record {
      known = a;
      entered = subst (λ i. w.entered t i p ≡ true) (sym pos_at) (law.kept t (s.pos t) p x.entered);
      past = λ e h. elim kind [
        | inl y ↦ clash (is_pending v) (ap is_pending (sym f_at) ∙ e) y.quiet
        | inr y ↦ (let z : new_at s t ≡ p = subst (λ i. w.place t i ≡ p) pos_at h in
            clash _ x.entered (subst (λ r. w.entered t (s.pos t) r ≡ false) z (law.once t (s.pos t) y.more y.fresh)))
      ];
    }

    from_here : (p : Path) → Granted w s' t p → Granted w s t p
    from_here p x = elim (newly p (subst (λ i. w.entered t i p ≡ true) pos_at x.entered)) [
      | inl e ↦ was p e
      | inr e ↦ absurd (x.past (ap is_pending f_at ∙ e.0.pending) (subst (λ i. w.place t i ≡ p) (sym pos_at) (sym e.1)))
    ]

    to_off : (b : ℕ) (p : Path) → nat_eq t b ≡ false → Granted w s b p → Granted w s' b p
    to_off b p d x = record {
      known = x.known;
      entered = subst (λ i. w.entered b i p ≡ true) (sym (pos_off b d)) x.entered;
      past = λ e h. x.past (subst (λ y. is_pending y ≡ true) (f_off b d) e) (subst (λ i. w.place b i ≡ p) (pos_off b d) h);
    }

    from_off : (b : ℕ) (p : Path) → nat_eq t b ≡ false → Granted w s' b p → Granted w s b p
    from_off b p d x = record {
      known = x.known;
      entered = subst (λ i. w.entered b i p ≡ true) (pos_off b d) x.entered;
      past = λ e h. x.past (subst (λ y. is_pending y ≡ true) (sym (f_off b d)) e) (subst (λ i. w.place b i ≡ p) (sym (pos_off b d)) h);
    }

    to_any : (b : ℕ) (p : Path) → Granted w s b p → Granted w s' b p
    to_any b p x = elim (number_cases t b) [
      | inr d ↦ to_off b p d x
      | inl d ↦ subst (λ c. Granted w s' c p) d (to_here p (subst (λ c. Granted w s c p) (sym d) x))
    ]

    from_any : (b : ℕ) (p : Path) → Granted w s' b p → Granted w s b p
    from_any b p x = elim (number_cases t b) [
      | inr d ↦ from_off b p d x
      | inl d ↦ subst (λ c. Granted w s c p) d (from_here p (subst (λ c. Granted w s' c p) (sym d) x))
    ]

    sent_off : (b : ℕ) (p : Path) → nat_eq t b ≡ false → Sent w s b p ↔ Sent w s' b p
    sent_off b p d = (
      λ x. record { known = x.known; entered = subst (λ i. w.entered b i p ≡ true) (sym (pos_off b d)) x.entered },
      λ x. record { known = x.known; entered = subst (λ i. w.entered b i p ≡ true) (pos_off b d) x.entered },
    )

    sent_later : (b : ℕ) (p : Path) → Sent w s b p → Sent w s' b p
    sent_later b p x = elim (number_cases t b) [
      | inr d ↦ (sent_off b p d).0 x
      | inl d ↦ subst (λ c. Sent w s' c p) d (record {
        known = a;
        entered = subst (λ i. w.entered t i p ≡ true) (sym pos_at)
            (law.kept t (s.pos t) p (subst (λ c. w.entered c (s.pos c) p ≡ true) (sym d) x.entered));
      })
    ]

    keeps_here : (p : Path) → Granted w s' t p → w.held t (suc (s.pos t)) p ≡ true → s.holds p t ≡ true
    keeps_here p x h = elim (law.still t (s.pos t) p k_less h) [
      | inl e ↦ g.keeps t p l (from_here p x) e
      | inr e ↦ elim kind [
        | inl y ↦ absurd (y.not_fresh e.0 e.1)
        | inr y ↦ absurd (x.past (ap is_pending f_at ∙ y.pending) (subst (λ i. w.place t i ≡ p) (sym pos_at) (sym e.2)))
      ]
    ]

    sends_child : Fresh s t v g' → (b : ℕ) → 1 ≤ b → visits w b (new_at s t) ≡ true → Sent w s' b (new_at s t) ↔ (rank w (new_at s t) b ≤ suc (s.given (new_at s t)))
    sends_child y b lb vb =
        let num : rank w (new_at s t) t ≡ suc (s.given (new_at s t)) = next_number s t g l a th y.more y.fresh in
        elim (number_cases t b) [
          | inr d ↦ (
            λ x. (let h : rank w (new_at s t) b ≤ s.given (new_at s t) = (g.sends b (new_at s t) lb vb).0 ((sent_off b (new_at s t) d).1 x) in omega arith),
            λ x. sent_later b (new_at s t) ((g.sends b (new_at s t) lb vb).1 (below_by _ _ _ num x
                (λ e. not_same t b d (sym (rank_same w (new_at s t) b t vb now_comes e))))),
          )
          | inl d ↦ subst (λ c. Sent w s' c (new_at s t) ↔ (rank w (new_at s t) c ≤ suc (s.given (new_at s t)))) d (
            λ x. omega (arith, num),
            λ x. record { known = a; entered = subst (λ i. w.entered t i (new_at s t) ≡ true) (sym pos_at) now_in },
          )
        ]
      where
        now_in : w.entered t (suc (s.pos t)) (new_at s t) ≡ true
        now_in = law.held_entered t (suc (s.pos t)) (new_at s t) (law.at_held t (suc (s.pos t)) y.more)

        now_comes : visits w t (new_at s t) ≡ true
        now_comes = comes law t (suc (s.pos t)) (new_at s t) (omega (arith, y.more)) now_in

    sends_now : (b : ℕ) (p : Path) → 1 ≤ b → visits w b p ≡ true → Sent w s' b p ↔ (rank w p b ≤ g' p)
    sends_now b p lb vb = elim kind [
      | inl y ↦ rw (y.given_same p) (
        λ x. (g.sends b p lb vb).0 (elim (number_cases t b) [
          | inr d ↦ (sent_off b p d).1 x
          | inl d ↦ subst (λ c. Sent w s c p) d (let x' = subst (λ c. Sent w s' c p) (sym d) x in
              record {
                known = a;
                entered = elim (law.new t (s.pos t) p k_less (subst (λ i. w.entered t i p ≡ true) pos_at x'.entered)) [
                  | inl e ↦ e
                  | inr e ↦ absurd (y.not_fresh e.0 e.1)
                ];
              })
        ]),
        λ x. sent_later b p ((g.sends b p lb vb).1 x),
      )
      | inr y ↦ rw (y.given_is p) (elim (bool_cases (path_eq (new_at s t) p)) [
        | inr d ↦ rw d (
          λ x. (g.sends b p lb vb).0 (elim (number_cases t b) [
            | inr z ↦ (sent_off b p z).1 x
            | inl z ↦ subst (λ c. Sent w s c p) z (let x' = subst (λ c. Sent w s' c p) (sym z) x in
                record {
                  known = a;
                  entered = elim (law.new t (s.pos t) p k_less (subst (λ i. w.entered t i p ≡ true) pos_at x'.entered)) [
                    | inl e ↦ e
                    | inr e ↦ absurd (clash _ (subst (λ r. path_eq (new_at s t) r ≡ true) (sym e.2) (path_self (new_at s t))) d)
                  ];
                })
          ]),
          λ x. sent_later b p ((g.sends b p lb vb).1 x),
        )
        | inl d ↦ rw d (sends_new y b p lb vb (path_is (new_at s t) p d))
      ])
    ]
      where
        sends_new : Fresh s t v g' → (b : ℕ) (p : Path) → 1 ≤ b → visits w b p ≡ true → new_at s t ≡ p → Sent w s' b p ↔ (rank w p b ≤ suc (s.given (new_at s t)))
        sends_new y b p lb vb q = subst (λ r. Sent w s' b r ↔ (rank w r b ≤ suc (s.given (new_at s t)))) q
            (sends_child y b lb (subst (λ r. visits w b r ≡ true) (sym q) vb))

    pub stop_by : Good w s'
    stop_by = record {
      within = λ b lb. elim (number_cases t b) [
        | inr d ↦ subst (λ i. i ≤ suc (w.last b)) (sym (pos_off b d)) (g.within b lb)
        | inl d ↦ subst (λ c. (s').pos c ≤ suc (w.last c)) d (subst (λ i. i ≤ suc (w.last t)) (sym pos_at) (omega (arith, k_less)))
      ];
      going = λ b lb e. elim (number_cases t b) [
        | inr d ↦ subst (λ i. i ≤ w.last b) (sym (pos_off b d)) (g.going b lb (subst (λ y. y ≢ Done) (f_off b d) e))
        | inl d ↦ subst (λ c. (s').pos c ≤ w.last c) d (subst (λ i. i ≤ w.last t) (sym pos_at) (elim kind [
          | inl y ↦ y.more (subst (λ u. u ≢ Done) f_at (subst (λ c. (s').stage c ≢ Done) (sym d) e))
          | inr y ↦ y.more
        ]))
      ];
      ended = λ b lb e. elim (number_cases t b) [
        | inr d ↦ pos_off b d ∙ g.ended b lb (sym (f_off b d) ∙ e)
        | inl d ↦ subst (λ c. (s').pos c ≡ suc (w.last c)) d (pos_at ∙ (let e' : v ≡ Done = sym f_at ∙ subst (λ c. (s').stage c ≡ Done) (sym d) e in elim kind [
          | inl y ↦ ap suc (y.ends e')
          | inr y ↦ absurd (clash _ y.pending (ap is_pending e'))
        ]))
      ];
      is_fresh = λ b lb e. elim (number_cases t b) [
        | inr d ↦ subst (λ i. w.fresh b i ≡ true) (sym (pos_off b d)) (g.is_fresh b lb (subst (λ y. is_pending y ≡ true) (f_off b d) e))
        | inl d ↦ subst (λ c. w.fresh c ((s').pos c) ≡ true) d (subst (λ i. w.fresh t i ≡ true) (sym pos_at) (elim kind [
          | inl y ↦ absurd (clash _ (ap is_pending (sym f_at) ∙ subst (λ c. is_pending ((s').stage c) ≡ true) (sym d) e) y.quiet)
          | inr y ↦ y.fresh
        ]))
      ];
      sends = sends_now;
      grants = λ b p lb vb. (λ x. (g.grants b p lb vb).0 (from_any b p x), λ x. to_any b p ((g.grants b p lb vb).1 x));
      first = g.first;
      let_in = λ b p e. to_any b p (g.let_in b p e);
      keeps = λ b p lb x h. elim (number_cases t b) [
        | inr d ↦ g.keeps b p lb (from_off b p d x) (subst (λ i. w.held b i p ≡ true) (pos_off b d) h)
        | inl d ↦ subst (λ c. s.holds p c ≡ true) d (keeps_here p (subst (λ c. Granted w s' c p) (sym d) x)
            (subst (λ i. w.held t i p ≡ true) pos_at (subst (λ c. w.held c ((s').pos c) p ≡ true) (sym d) h)))
      ];
      alone = g.alone;
      latest = g.latest;
    }

  pub done_good : (s : Lines) (t : ℕ) → Good w s → 1 ≤ t → t ≤ s.admitted → s.stage t ≡ There → s.pos t ≡ w.last t → Good w (gone_on s t Done)
  done_good s t g l a th e = stop_by s t Done s.given g l a th (inl (record { quiet = refl; not_fresh = λ m f. absurd (omega arith); given_same = λ p. refl; more = λ n. absurd (n refl); ends = λ n. e }))

  pub coming_good : (s : Lines) (t : ℕ) → Good w s → 1 ≤ t → t ≤ s.admitted → s.stage t ≡ There → suc (s.pos t) ≤ w.last t → w.fresh t (suc (s.pos t)) ≡ false → Good w (gone_on s t Coming)
  coming_good s t g l a th m f = stop_by s t Coming s.given g l a th (inl (record { quiet = refl; not_fresh = λ n h. clash _ h f; given_same = λ p. refl; more = λ n. m; ends = λ n. absurd (coming_done n) }))

  pub entering_good : (s : Lines) (t : ℕ) → Good w s → 1 ≤ t → t ≤ s.admitted → s.stage t ≡ There → suc (s.pos t) ≤ w.last t → w.fresh t (suc (s.pos t)) ≡ true → Good w (gone_in w s t)
  entering_good s t g l a th m f = stop_by s t Entering (set path_eq s.given (new_at s t) (suc (s.given (new_at s t)))) g l a th (inr (record { more = m; fresh = f; pending = refl; given_is = λ p. refl }))
