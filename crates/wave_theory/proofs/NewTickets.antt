-- A new ticket keeps what is good.
use Rattle.std.proofs.Common.{◌≡◌, ◌≢◌, [], ℕ, zero, suc, ◌≤◌, ◌↔◌, nat_eq, inl, inr, true, false, refl, sym, ◌∙◌, ap, subst, arith}
use Rattle.wave_base.specs.declared.path.Path.{Path}
use Rattle.wave_base.specs.Paths.{path_eq}
use Rattle.wave_states.specs.States.{set}
use Rattle.wave_theory.proofs.Basics.{bool_cases, clash, number_cases, not_same, path_is, path_self, set_at}
use Rattle.wave_theory.proofs.Order.{Way, IsWay, visits, rank, Entering, Done, is_pending, Lines, Sent, Granted, Good, one_more}
use Rattle.wave_theory.proofs.Ranks.{rank_same, rank_next, le_cases, comes, entered_later}
use Rattle.wave_theory.proofs.Stages.{entering_done}
use Rattle.wave_theory.proofs.Stops.{below_by, off}

module _ {w : Way} (law : IsWay w) where
  -- every ticket enters the root first
  pub enters_root : (t : ℕ) → w.entered t 0 [] ≡ true
  enters_root t = subst (λ q. w.entered t 0 q ≡ true) (law.first_place t) (law.held_entered t 0 (w.place t 0) (law.at_held t 0 (omega arith)))

  pub root_visited : (t : ℕ) → visits w t [] ≡ true
  root_visited t = comes law t 0 [] (omega arith) (enters_root t)

  -- so its number there is the ticket itself
  pub root_number : (t : ℕ) → rank w [] t ≡ t
  unfolding rank
  root_number zero = refl
  root_number (suc t) = rw (root_visited (suc t)) (ap suc (root_number t))

  pub admit_good : (s : Lines) → Good w s → Good w (one_more s)
  admit_good s g = record {
    within = λ b lb. elim (number_cases t b) [
      | inr d ↦ subst (λ i. i ≤ suc (w.last b)) (sym (off s.pos t 0 b d)) (g.within b (old b lb d))
      | inl d ↦ subst (λ c. set nat_eq s.pos t 0 c ≤ suc (w.last c)) d (subst (λ i. i ≤ suc (w.last t)) (sym pos_here) (omega arith))
    ];
    going = λ b lb e. elim (number_cases t b) [
      | inr d ↦ subst (λ i. i ≤ w.last b) (sym (off s.pos t 0 b d)) (g.going b (old b lb d) (subst (λ y. y ≢ Done) (off s.stage t Entering b d) e))
      | inl d ↦ subst (λ c. set nat_eq s.pos t 0 c ≤ w.last c) d (subst (λ i. i ≤ w.last t) (sym pos_here) (omega arith))
    ];
    ended = λ b lb e. elim (number_cases t b) [
      | inr d ↦ off s.pos t 0 b d ∙ g.ended b (old b lb d) (sym (off s.stage t Entering b d) ∙ e)
      | inl d ↦ absurd (entering_done (sym (set_at s.stage t Entering) ∙ subst (λ c. set nat_eq s.stage t Entering c ≡ Done) (sym d) e))
    ];
    is_fresh = λ b lb e. elim (number_cases t b) [
      | inr d ↦ subst (λ i. w.fresh b i ≡ true) (sym (off s.pos t 0 b d)) (g.is_fresh b (old b lb d) (subst (λ y. is_pending y ≡ true) (off s.stage t Entering b d) e))
      | inl d ↦ subst (λ c. w.fresh c (set nat_eq s.pos t 0 c) ≡ true) d (subst (λ i. w.fresh t i ≡ true) (sym pos_here) (law.first_fresh t))
    ];
    sends = λ b p lb vb. elim (bool_cases (path_eq [] p)) [
      | inr z ↦ rw z (elim (number_cases t b) [
        | inr d ↦ (λ x. (g.sends b p lb vb).0 (sent_from b p d x), λ x. sent_to b p d ((g.sends b p lb vb).1 x))
        | inl d ↦ subst (λ c. Sent w s' c p ↔ (rank w p c ≤ s.given p)) d (
          λ x. absurd (clash _ (subst (λ r. path_eq [] r ≡ true) (sym (law.first_entered t p (subst (λ i. w.entered t i p ≡ true) pos_here x.entered))) (path_self [])) z),
          λ x. absurd (not_known ((g.sends t p (omega arith) (subst (λ c. visits w c p ≡ true) (sym d) vb)).1 x).known),
        )
      ])
      | inl z ↦ rw z (subst (λ r. Sent w s' b r ↔ (rank w r b ≤ suc (s.given []))) (path_is [] p z) (elim (number_cases t b) [
        | inr d ↦ (
          λ x. (let h : rank w [] b ≤ s.given [] = (g.sends b [] lb (root_visited b)).0 (sent_from b [] d x) in omega arith),
          λ x. sent_to b [] d ((g.sends b [] lb (root_visited b)).1 (below_by _ _ _ first_number x (λ e. not_same t b d (sym (rank_same w [] b t (root_visited b) (root_visited t) e))))),
        )
        | inl d ↦ subst (λ c. Sent w s' c [] ↔ (rank w [] c ≤ suc (s.given []))) d (
          λ x. omega (arith, first_number),
          λ x. record { known = omega arith; entered = subst (λ i. w.entered t i [] ≡ true) (sym pos_here) (enters_root t) },
        )
      ]))
    ];
    grants = λ b p lb vb. elim (number_cases t b) [
      | inr d ↦ (λ x. (g.grants b p lb vb).0 (from b p d x), λ x. to b p d ((g.grants b p lb vb).1 x))
      | inl d ↦ subst (λ c. Granted w s' c p ↔ (rank w p c ≤ s.served p)) d (
        λ x. absurd (not_yet p x),
        λ x. absurd (not_known ((g.grants t p (omega arith) (subst (λ c. visits w c p ≡ true) (sym d) vb)).1 x).known),
      )
    ];
    first = g.first;
    let_in = λ b p e. elim (number_cases t b) [
      | inl d ↦ absurd (not_known (subst (λ c. c ≤ s.admitted) (sym d) (g.let_in b p e).known))
      | inr d ↦ to b p d (g.let_in b p e)
    ];
    keeps = λ b p lb x h. elim (number_cases t b) [
      | inr d ↦ g.keeps b p lb (from b p d x) (subst (λ i. w.held b i p ≡ true) (off s.pos t 0 b d) h)
      | inl d ↦ absurd (not_yet p (subst (λ c. Granted w s' c p) (sym d) x))
    ];
    alone = g.alone;
    latest = g.latest;
  }
    where
      t : ℕ
      t = suc s.admitted

      s' : Lines
      s' = one_more s

      not_known : t ≤ s.admitted → ⊥
      not_known h = omega arith

      pos_here : set nat_eq s.pos t 0 t ≡ 0
      pos_here = set_at s.pos t 0

      old : (b : ℕ) → b ≤ t → nat_eq t b ≡ false → b ≤ s.admitted
      old b lb d = elim (le_cases b s.admitted lb) [ inl x ↦ x | inr x ↦ absurd (not_same t b d (sym x)) ]

      sent_from : (b : ℕ) (p : Path) → nat_eq t b ≡ false → Sent w (one_more s) b p → Sent w s b p
      sent_from b p d x = record { known = older b x.known d; entered = subst (λ i. w.entered b i p ≡ true) (off s.pos t 0 b d) x.entered }
        where
          older : (b : ℕ) → b ≤ t → nat_eq t b ≡ false → b ≤ s.admitted
          older b lb d = elim (le_cases b s.admitted lb) [ inl x ↦ x | inr x ↦ absurd (not_same t b d (sym x)) ]

      sent_to : (b : ℕ) (p : Path) → nat_eq t b ≡ false → Sent w s b p → Sent w (one_more s) b p
      sent_to b p d x = record { known = omega (arith, x.known); entered = subst (λ i. w.entered b i p ≡ true) (sym (off s.pos t 0 b d)) x.entered }

      from : (b : ℕ) (p : Path) → nat_eq t b ≡ false → Granted w (one_more s) b p → Granted w s b p
      from b p d x = record {
        known = older b x.known d;
        entered = subst (λ i. w.entered b i p ≡ true) (off s.pos t 0 b d) x.entered;
        past = λ e h. x.past (subst (λ y. is_pending y ≡ true) (sym (off s.stage t Entering b d)) e) (subst (λ i. w.place b i ≡ p) (sym (off s.pos t 0 b d)) h);
      }
        where
          older : (b : ℕ) → b ≤ t → nat_eq t b ≡ false → b ≤ s.admitted
          older b lb d = elim (le_cases b s.admitted lb) [ inl x ↦ x | inr x ↦ absurd (not_same t b d (sym x)) ]

      to : (b : ℕ) (p : Path) → nat_eq t b ≡ false → Granted w s b p → Granted w (one_more s) b p
      to b p d x = record {
        known = omega (arith, x.known);
        entered = subst (λ i. w.entered b i p ≡ true) (sym (off s.pos t 0 b d)) x.entered;
        past = λ e h. x.past (subst (λ y. is_pending y ≡ true) (off s.stage t Entering b d) e) (subst (λ i. w.place b i ≡ p) (off s.pos t 0 b d) h);
      }

      not_yet : (p : Path) → Granted w (one_more s) t p → ⊥
      not_yet p x = x.past (ap is_pending (set_at s.stage t Entering))
          (ap (λ i. w.place t i) pos_here ∙ law.first_place t ∙ sym (law.first_entered t p (subst (λ i. w.entered t i p ≡ true) pos_here x.entered)))

      first_number : rank w [] t ≡ suc (s.given [])
      first_number = rank_next w [] t (s.given []) (omega arith) (root_visited t)
          (λ b lb lt vb. (g.sends b [] lb (root_visited b)).0 (record { known = omega arith; entered = entered_later law b 0 (s.pos b) [] (omega arith) (enters_root b) }))
          (λ h. (let x = (g.sends t [] (omega arith) (root_visited t)).1 h in not_known x.known))
