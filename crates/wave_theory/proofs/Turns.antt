-- Each label keeps what is good of the lines.
use Rattle.std.proofs.Common.{◌≡◌, ◌≢◌, ℕ, suc, ◌≤◌, ◌⊎◌, nat_eq, inl, inr, Bool, true, false, refl, sym, ◌∙◌, ap, subst, arith}
use Rattle.wave_base.specs.declared.path.Path.{Path}
use Rattle.wave_base.specs.Paths.{path_eq}
use Rattle.wave_states.specs.States.{set}
use Rattle.wave_theory.proofs.Basics.{bool_cases, clash, number_cases, not_same, path_is, path_self, set_at, set_there, set_here}
use Rattle.wave_theory.proofs.Order.{Way, IsWay, visits, rank, Stage, Entering, Lined, Coming, There, Done, is_pending, Lines, here, Granted, Good, staged, let_at, freed}
use Rattle.wave_theory.proofs.Ranks.{rank_same, comes}
use Rattle.wave_theory.proofs.Stages.{coming_done, entering_done, lined_done, there_done}

below_by : (x y z : ℕ) → y ≡ suc z → x ≤ suc z → (x ≡ y → ⊥) → x ≤ z
below_by x y z e l ne = grind arith

off : {X : Type 0} (f : ℕ → X) (t : ℕ) (x : X) (a : ℕ) → nat_eq t a ≡ false → set nat_eq f t x a ≡ f a
off f t x a e = set_there nat_eq f t x a e

-- what holds in a table of tickets by contexts, after a change at one of each
module _ (f : Path → ℕ → Bool) (p : Path) (t : ℕ) where
  pub cut_was : (q : Path) (a : ℕ) → set path_eq f p (set nat_eq (f p) t false) q a ≡ true → f q a ≡ true
  cut_was q a e = elim (bool_cases (path_eq p q)) [
    | inr d ↦ rw d at e
    | inl d ↦ (let e' : set nat_eq (f p) t false a ≡ true = rw d at e in
        subst (λ r. f r a ≡ true) (path_is p q d) (elim (number_cases t a) [
          | inr n ↦ rw n at e'
          | inl n ↦ absurd (clash true refl (sym (sym (set_at (f p) t false) ∙ subst (λ b. set nat_eq (f p) t false b ≡ true) (sym n) e')))
        ]))
  ]

  pub cut_here : set path_eq f p (set nat_eq (f p) t false) p t ≡ true → ⊥
  cut_here e = clash true refl (sym (let z : set nat_eq (f p) t false t ≡ true = rw (path_self p) at e in sym (set_at (f p) t false) ∙ z))

  pub cut_off : (q : Path) (a : ℕ) → (p ≡ q → t ≡ a → ⊥) → f q a ≡ true → set path_eq f p (set nat_eq (f p) t false) q a ≡ true
  cut_off q a n e = elim (bool_cases (path_eq p q)) [
    | inr d ↦ rw d e
    | inl d ↦ rw d (elim (number_cases t a) [
      | inr m ↦ rw m (subst (λ r. f r a ≡ true) (sym (path_is p q d)) e)
      | inl m ↦ absurd (n (path_is p q d) m)
    ])
  ]

  pub add_was : (q : Path) (a : ℕ) → set path_eq f p (set nat_eq (f p) t true) q a ≡ true → ((p ≡ q) × (t ≡ a)) ⊎ (f q a ≡ true)
  add_was q a e = elim (bool_cases (path_eq p q)) [
    | inr d ↦ inr (rw d at e)
    | inl d ↦ (let e' : set nat_eq (f p) t true a ≡ true = rw d at e in
        elim (number_cases t a) [
          | inr n ↦ inr (subst (λ r. f r a ≡ true) (path_is p q d) (rw n at e'))
          | inl n ↦ inl (path_is p q d, n)
        ])
  ]

  pub add_here : set path_eq f p (set nat_eq (f p) t true) p t ≡ true
  add_here = rw (path_self p) (set_at (f p) t true)

  pub add_off : (q : Path) (a : ℕ) → f q a ≡ true → set path_eq f p (set nat_eq (f p) t true) q a ≡ true
  add_off q a e = elim (bool_cases (path_eq p q)) [
    | inr d ↦ rw d e
    | inl d ↦ rw d (elim (number_cases t a) [
      | inr m ↦ rw m (subst (λ r. f r a ≡ true) (sym (path_is p q d)) e)
      | inl m ↦ subst (λ b. set nat_eq (f p) t true b ≡ true) m (set_at (f p) t true)
    ])
  ]

module _ {w : Way} (law : IsWay w) where
  -- only one stage changes, and whether an Enter is pending stays
  restage_one : (s : Lines) (t : ℕ) (v : Stage) → is_pending v ≡ is_pending (s.stage t) → s.stage t ≢ Done → v ≢ Done → Good w s → Good w (staged s t v)
  restage_one s t v same_t ended_t not_v g = record {
    within = g.within;
    going = λ a l n. g.going a l (ended a n);
    ended = λ a l e. g.ended a l (was_ended a e);
    is_fresh = λ a l e. g.is_fresh a l (sym (same a) ∙ e);
    sends = λ a p l v. (λ x. (g.sends a p l v).0 (record { known = x.known; entered = x.entered }), λ k. let y = (g.sends a p l v).1 k in record { known = y.known; entered = y.entered });
    grants = λ a p l v. (λ x. (g.grants a p l v).0 (from a p x), λ k. to a p ((g.grants a p l v).1 k));
    first = g.first;
    let_in = λ a p e. to a p (g.let_in a p e);
    keeps = λ a p l x. g.keeps a p l (from a p x);
    alone = g.alone;
    latest = g.latest;
  }
    where
      same : (a : ℕ) → is_pending (set nat_eq s.stage t v a) ≡ is_pending (s.stage a)
      same a = elim (number_cases t a) [ inl e ↦ subst (λ b. is_pending (set nat_eq s.stage t v b) ≡ is_pending (s.stage b)) e (ap is_pending (set_at s.stage t v) ∙ same_t) | inr e ↦ ap is_pending (off s.stage t v a e) ]

      ended : (a : ℕ) → set nat_eq s.stage t v a ≢ Done → s.stage a ≢ Done
      ended a n = elim (number_cases t a) [ inl e ↦ subst (λ b. s.stage b ≢ Done) e ended_t | inr e ↦ subst (λ y. y ≢ Done) (off s.stage t v a e) n ]

      was_ended : (a : ℕ) → set nat_eq s.stage t v a ≡ Done → s.stage a ≡ Done
      was_ended a n = elim (number_cases t a) [
        | inl e ↦ absurd (not_v (sym (set_at s.stage t v) ∙ subst (λ b. set nat_eq s.stage t v b ≡ Done) (sym e) n))
        | inr e ↦ sym (off s.stage t v a e) ∙ n
      ]

      from : (a : ℕ) (p : Path) → Granted w (staged s t v) a p → Granted w s a p
      from a p x = record { known = x.known; entered = x.entered; past = λ e. x.past (same a ∙ e) }

      to : (a : ℕ) (p : Path) → Granted w s a p → Granted w (staged s t v) a p
      to a p x = record { known = x.known; entered = x.entered; past = λ e. x.past (sym (same a) ∙ e) }

  pub line_good : (s : Lines) (t : ℕ) → Good w s → s.stage t ≡ Entering → Good w (staged s t Lined)
  line_good s t g m = restage_one s t Lined (ap is_pending (sym m)) (λ e. entering_done (sym m ∙ e)) lined_done g

  pub arrive_good : (s : Lines) (t : ℕ) → Good w s → s.stage t ≡ Coming → Good w (staged s t There)
  arrive_good s t g m = restage_one s t There (ap is_pending (sym m)) (λ e. coming_done (sym m ∙ e)) there_done g

  -- a release arrives
  pub free_good : (s : Lines) (t : ℕ) (p : Path) → Good w s → w.held t (s.pos t) p ≡ false → Good w (freed s t p)
  free_good s t p g m = record {
    within = g.within;
    going = g.going;
    ended = g.ended;
    is_fresh = g.is_fresh;
    sends = λ a q l v. (λ x. (g.sends a q l v).0 (record { known = x.known; entered = x.entered }), λ k. let y = (g.sends a q l v).1 k in record { known = y.known; entered = y.entered });
    grants = λ a q l v. (λ x. (g.grants a q l v).0 (from a q x), λ k. to a q ((g.grants a q l v).1 k));
    first = λ a q e. g.first a q (cut_was s.holds p t q a e);
    let_in = λ a q e. to a q (g.let_in a q (cut_was s.holds p t q a e));
    keeps = λ a q l x h. cut_off s.holds p t q a (λ u v. clash _ (subst (λ r. w.held a (s.pos a) r ≡ true) (sym u) h) (subst (λ b. w.held b (s.pos b) p ≡ false) v m)) (g.keeps a q l (from a q x) h);
    alone = λ a q e l b f. g.alone a q (cut_was s.holds p t q a e) l b (cut_was s.holds p t q b f);
    latest = λ a q e l. g.latest a q (cut_was s.holds p t q a e) l;
  }
    where
      from : (a : ℕ) (q : Path) → Granted w (freed s t p) a q → Granted w s a q
      from a q x = record { known = x.known; entered = x.entered; past = x.past }

      to : (a : ℕ) (q : Path) → Granted w s a q → Granted w (freed s t p) a q
      to a q x = record { known = x.known; entered = x.entered; past = x.past }

  -- it may join those that hold the context
  abbrev pub Joins : Lines → ℕ → Path → Type 0
  Joins s t p = (b : ℕ) → s.holds p b ≡ true → (w.looks b p ≡ true) × (w.looks t p ≡ true)

  -- the ticket under the next number gets in
  pub grant_good : (s : Lines) (t : ℕ) → Good w s → 1 ≤ t → t ≤ s.admitted → s.stage t ≡ Lined → rank w (here w s t) t ≡ suc (s.served (here w s t)) → Joins s t (here w s t) → Good w (let_at w s t)
  grant_good s t g lt la st num joins = record {
    within = g.within;
    going = λ a l n. elim (number_cases t a) [
      | inl d ↦ subst (λ b. s.pos b ≤ w.last b) d k
      | inr d ↦ g.going a l (subst (λ y. y ≢ Done) (off s.stage t There a d) n)
    ];
    ended = λ a l e. elim (number_cases t a) [
      | inl d ↦ absurd (there_done (sym (set_at s.stage t There) ∙ subst (λ b. set nat_eq s.stage t There b ≡ Done) (sym d) e))
      | inr d ↦ g.ended a l (sym (off s.stage t There a d) ∙ e)
    ];
    is_fresh = λ a l e. elim (number_cases t a) [
      | inl d ↦ absurd (clash _ (subst (λ b. is_pending (set nat_eq s.stage t There b) ≡ true) (sym d) e) (ap is_pending (set_at s.stage t There)))
      | inr d ↦ g.is_fresh a l (subst (λ y. is_pending y ≡ true) (off s.stage t There a d) e)
    ];
    sends = λ a q l v. (λ x. (g.sends a q l v).0 (record { known = x.known; entered = x.entered }), λ k'. let y = (g.sends a q l v).1 k' in record { known = y.known; entered = y.entered });
    grants = λ a q l v. (elim (bool_cases (path_eq p q)) [
      | inr d ↦ rw d (λ x. (g.grants a q l v).0 (from_apart a q d x), λ y. to a q ((g.grants a q l v).1 y))
      | inl d ↦ rw d (elim (number_cases t a) [
        | inl z ↦ (
          λ x. subst (λ b. rank w q b ≤ suc (s.served p)) z (subst (λ r. rank w r t ≤ suc (s.served p)) (path_is p q d) (omega (arith, num))),
          λ y. subst (λ b. Granted w s' b q) z (subst (λ r. Granted w s' t r) (path_is p q d) in_now),
        )
        | inr z ↦ (
          λ x. (let r : rank w q a ≤ s.served q = (g.grants a q l v).0 (from_other a q z x) in
              let r' : rank w p a ≤ s.served p = subst (λ r. rank w r a ≤ s.served r) (sym (path_is p q d)) r in
              subst (λ r. rank w r a ≤ suc (s.served p)) (path_is p q d) (omega arith)),
          λ y. to a q ((g.grants a q l v).1 (let y' : rank w p a ≤ suc (s.served p) = subst (λ r. rank w r a ≤ suc (s.served p)) (sym (path_is p q d)) y in
              let v' : visits w a p ≡ true = subst (λ r. visits w a r ≡ true) (sym (path_is p q d)) v in
              let no : rank w p a ≡ rank w p t → ⊥ = λ e. not_same t a z (sym (rank_same w p a t v' vis e)) in
              subst (λ r. rank w r a ≤ s.served r) (path_is p q d) (below_by _ _ _ num y' no))),
        )
      ])
    ]);
    first = λ a q e. elim (add_was s.holds p t q a e) [ inl z ↦ subst (λ b. 1 ≤ b) z.1 lt | inr z ↦ g.first a q z ];
    let_in = λ a q e. elim (add_was s.holds p t q a e) [
      | inl z ↦ subst (λ b. Granted w s' b q) z.1 (subst (λ r. Granted w s' t r) z.0 in_now)
      | inr z ↦ to a q (g.let_in a q z)
    ];
    keeps = λ a q l x h. elim (number_cases t a) [
      | inr z ↦ add_off s.holds p t q a (g.keeps a q l (from_other a q z x) h)
      | inl z ↦ elim (bool_cases (path_eq p q)) [
        | inr d ↦ add_off s.holds p t q a (g.keeps a q l (from_apart a q d x) h)
        | inl d ↦ subst (λ b. (s').holds q b ≡ true) z (subst (λ r. (s').holds r t ≡ true) (path_is p q d) (add_here s.holds p t))
      ]
    ];
    alone = λ a q e l b f. elim (add_was s.holds p t q a e) [
      | inl z ↦ elim (add_was s.holds p t q b f) [
        | inl y ↦ sym y.1 ∙ z.1
        | inr y ↦ absurd (clash _ (joins b (subst (λ r. s.holds r b ≡ true) (sym z.0) y)).1 (subst (λ r. w.looks t r ≡ false) (sym z.0) (subst (λ c. w.looks c q ≡ false) (sym z.1) l)))
      ]
      | inr z ↦ elim (add_was s.holds p t q b f) [
        | inl y ↦ absurd (clash _ (joins a (subst (λ r. s.holds r a ≡ true) (sym y.0) z)).0 (subst (λ r. w.looks a r ≡ false) (sym y.0) l))
        | inr y ↦ g.alone a q z l b y
      ]
    ];
    latest = λ a q e l. elim (add_was s.holds p t q a e) [
      | inl z ↦ subst (λ b. rank w q b ≡ set path_eq s.served p (suc (s.served p)) q) z.1 (subst (λ r. rank w r t ≡ set path_eq s.served p (suc (s.served p)) r) z.0 (num ∙ sym (set_here path_eq s.served p _ p (path_self p))))
      | inr z ↦ elim (bool_cases (path_eq p q)) [
        | inr d ↦ g.latest a q z l ∙ sym (set_there path_eq s.served p _ q d)
        | inl d ↦ absurd (clash _ (joins a (subst (λ r. s.holds r a ≡ true) (sym (path_is p q d)) z)).0 (subst (λ r. w.looks a r ≡ false) (sym (path_is p q d)) l))
      ]
    ];
  }
    where
      p : Path
      p = here w s t

      s' : Lines
      s' = let_at w s t

      k : s.pos t ≤ w.last t
      k = g.going t la (λ e. lined_done (sym st ∙ e))

      in_p : w.entered t (s.pos t) p ≡ true
      in_p = law.held_entered t (s.pos t) p (law.at_held t (s.pos t) k)

      vis : visits w t p ≡ true
      vis = comes law t (s.pos t) p (omega arith) in_p

      in_now : Granted w (let_at w s t) t p
      in_now = record { known = la; entered = in_p; past = λ e. absurd (clash _ e (ap is_pending (set_at s.stage t There))) }

      from_other : (a : ℕ) (q : Path) → nat_eq t a ≡ false → Granted w (let_at w s t) a q → Granted w s a q
      from_other a q d x = record { known = x.known; entered = x.entered; past = λ e. x.past (subst (λ y. is_pending y ≡ true) (sym (off s.stage t There a d)) e) }

      from_apart : (a : ℕ) (q : Path) → path_eq p q ≡ false → Granted w (let_at w s t) a q → Granted w s a q
      from_apart a q d x = elim (number_cases t a) [
        | inr z ↦ from_other a q z x
        | inl z ↦ record {
          known = x.known;
          entered = x.entered;
          past = λ e y. (let y' : p ≡ q = subst (λ b. here w s b ≡ q) (sym z) y in
              clash (path_eq p q) (subst (λ r. path_eq p r ≡ true) y' (path_self p)) d);
        }
      ]

      to : (a : ℕ) (q : Path) → Granted w s a q → Granted w (let_at w s t) a q
      to a q x = record {
        known = x.known;
        entered = x.entered;
        past = λ e. elim (number_cases t a) [
          | inr d ↦ x.past (subst (λ y. is_pending y ≡ true) (off s.stage t There a d) e)
          | inl d ↦ absurd (clash _ (subst (λ b. is_pending (set nat_eq s.stage t There b) ≡ true) (sym d) e) (ap is_pending (set_at s.stage t There)))
        ];
      }
