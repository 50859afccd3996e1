-- How many tickets come to a context, and what holds of a ticket's whole way.
use Rattle.std.proofs.Common.{◌≡◌, ◌≢◌, [], ℕ, zero, suc, ◌<◌, ◌≤◌, ◌⊎◌, inl, inr, true, false, refl, sym, ◌∙◌, ap, subst, arith}
use Rattle.wave_base.specs.declared.path.Path.{Path}
use Rattle.wave_base.specs.Paths.{parent_of}
use Rattle.wave_theory.proofs.Basics.{bool_cases, clash}
use Rattle.wave_theory.proofs.Order.{Way, IsWay, visits, rank}

pub rank_in : (w : Way) (p : Path) (t : ℕ) → visits w (suc t) p ≡ true → rank w p (suc t) ≡ suc (rank w p t)
unfolding rank
rank_in w p t e = rw e refl

pub rank_out : (w : Way) (p : Path) (t : ℕ) → visits w (suc t) p ≡ false → rank w p (suc t) ≡ rank w p t
unfolding rank
rank_out w p t e = rw e refl

pub rank_le : (w : Way) (p : Path) (t : ℕ) → rank w p t ≤ rank w p (suc t)
rank_le w p t = elim (bool_cases (visits w (suc t) p)) [ inl e ↦ omega (arith, rank_in w p t e) | inr e ↦ omega (arith, rank_out w p t e) ]

-- a number at most suc b is at most b or is suc b
pub le_cases : (a b : ℕ) → a ≤ suc b → (a ≤ b) ⊎ (a ≡ suc b)
le_cases a b le = grind arith

pub rank_up_to : (w : Way) (p : Path) (a b : ℕ) → a ≤ b → rank w p a ≤ rank w p b
rank_up_to w p a zero le = let e : a ≡ 0 = omega arith in rw e (omega arith)
rank_up_to w p a (suc b) le = elim (le_cases a b le) [
  | inl l ↦ let h : rank w p a ≤ rank w p b = rank_up_to w p a b l in omega (arith, rank_le w p b)
  | inr e ↦ rw e (omega arith)
]

-- of two tickets that come, the later one has the higher number
pub rank_less : (w : Way) (p : Path) (a b : ℕ) → a < b → visits w b p ≡ true → rank w p a < rank w p b
rank_less w p a zero l v = absurd (omega arith)
rank_less w p a (suc b) l v = omega (arith, rank_in w p b v, rank_up_to w p a b (omega arith))

pub rank_pos : (w : Way) (p : Path) (a : ℕ) → 1 ≤ a → visits w a p ≡ true → 0 < rank w p a
rank_pos w p zero l v = absurd (omega arith)
rank_pos w p (suc a) l v = omega (arith, rank_in w p a v)

same_by : (a b x y : ℕ) → (a < b → x < y) → (b < a → y < x) → x ≡ y → a ≡ b
same_by a b x y f g e = grind arith

next_by : (x y g : ℕ) → (x ≡ suc y) → (0 < y → y ≤ g) → (x ≤ g → ⊥) → x ≡ suc g
next_by x y g e h not = grind arith

pub rank_same : (w : Way) (p : Path) (a b : ℕ) → visits w a p ≡ true → visits w b p ≡ true → rank w p a ≡ rank w p b → a ≡ b
rank_same w p a b va vb e =
    let f : a < b → rank w p a < rank w p b = λ l. rank_less w p a b l vb in
    let g : b < a → rank w p b < rank w p a = λ l. rank_less w p b a l va in
    same_by a b _ _ f g e

pub record Found (w : Way) (p : Path) (t : ℕ) : Type 0 where
  pub ticket : ℕ
  pub first : 1 ≤ ticket
  pub last : ticket ≤ t
  pub comes : visits w ticket p ≡ true
  pub same : rank w p ticket ≡ rank w p t

-- the last ticket up to t that comes
pub rank_found : (w : Way) (p : Path) (t : ℕ) → 0 < rank w p t → Found w p t
unfolding rank
rank_found w p zero l = absurd (omega arith)
rank_found w p (suc t) l = elim (bool_cases (visits w (suc t) p)) [
  | inl e ↦ record { ticket = suc t; first = omega arith; last = omega arith; comes = e; same = refl }
  | inr e ↦ let f : Found w p t = rank_found w p t (omega (arith, rank_out w p t e)) in
      record { ticket = f.ticket; first = f.first; last = omega (arith, f.last); comes = f.comes; same = f.same ∙ sym (rank_out w p t e) }
]

-- where each earlier ticket that comes has a number up to g, and this one has not, this one's is the next
pub rank_next : (w : Way) (p : Path) (t g : ℕ) → 1 ≤ t → visits w t p ≡ true →
    ((a : ℕ) → 1 ≤ a → a < t → visits w a p ≡ true → rank w p a ≤ g) → (rank w p t ≤ g → ⊥) → rank w p t ≡ suc g
rank_next w p zero g l v before not = absurd (omega arith)
rank_next w p (suc t) g l v before not =
    let e : rank w p (suc t) ≡ suc (rank w p t) = rank_in w p t v in
    let h : 0 < rank w p t → rank w p t ≤ g = λ k. (let f : Found w p t = rank_found w p t k in
    subst (λ n. n ≤ g) f.same (before f.ticket f.first (omega (arith, f.last)) f.comes)) in
    next_by _ _ g e h not

-- each number up to the last is some ticket's
pub rank_every : (w : Way) (p : Path) (t j : ℕ) → 1 ≤ j → j ≤ rank w p t → (a : ℕ) × (1 ≤ a) × (a ≤ t) × (visits w a p ≡ true) × (rank w p a ≡ j)
unfolding rank
rank_every w p zero j l k = absurd (omega arith)
rank_every w p (suc t) j l k = elim (bool_cases (visits w (suc t) p)) [
  | inr e ↦ (let r = rank_every w p t j l (omega (arith, rank_out w p t e)) in (r.0, r.1, omega (arith, r.2), r.3, r.4))
  | inl e ↦ elim (le_cases j (rank w p t) (subst (λ n. j ≤ n) (rank_in w p t e) k)) [
    | inl x ↦ (let r = rank_every w p t j l x in (r.0, r.1, omega (arith, r.2), r.3, r.4))
    | inr x ↦ (suc t, omega arith, omega arith, e, rank_in w p t e ∙ sym x)
  ]
]

module _ {w : Way} (law : IsWay w) where
  pub entered_later : (t a b : ℕ) (p : Path) → a ≤ b → w.entered t a p ≡ true → w.entered t b p ≡ true
  entered_later t a zero p l e = let z : a ≡ 0 = omega arith in rw z at e
  entered_later t a (suc b) p l e = elim (le_cases a b l) [
    | inl k ↦ law.kept t b p (entered_later t a b p k e)
    | inr z ↦ rw z at e
  ]

  pub comes : (t k : ℕ) (p : Path) → k ≤ suc (w.last t) → w.entered t k p ≡ true → visits w t p ≡ true
  comes t k p l e = entered_later t k (suc (w.last t)) p l e

  -- what was given up isn't held again
  pub not_again : (t k : ℕ) (p : Path) → k ≤ w.last t → w.entered t k p ≡ true → w.held t k p ≡ false → w.held t (suc k) p ≡ false
  not_again t k p l e h = elim (bool_cases (w.held t (suc k) p)) [
    | inr f ↦ f
    | inl f ↦ elim (law.still t k p l f) [
      | inl g ↦ absurd (clash _ g h)
      | inr g ↦ absurd (clash _ (subst (λ q. w.entered t k q ≡ true) g.2 e) (law.once t k g.0 g.1))
    ]
  ]

  record Settled (t a b : ℕ) (p q : Path) : Type 0 where
    gone : w.held t b p ≡ false
    no_new : w.entered t b q ≡ true → w.entered t a q ≡ true

  -- once the parent was given up, no more of its children are entered
  settled_by : (t a b : ℕ) (q : Path) → q ≢ [] → w.entered t a (parent_of q) ≡ true → w.held t a (parent_of q) ≡ false → a ≤ b → b ≤ suc (w.last t) → Settled t a b (parent_of q) q
  settled_by t a zero q r e h l k = let z : a ≡ 0 = omega arith in record { gone = rw z at h; no_new = λ x. rw z x }
  settled_by t a (suc b) q r e h l k = elim (le_cases a b l) [
    | inr z ↦ record { gone = rw z at h; no_new = λ x. rw z x }
    | inl m ↦ (let s : Settled t a b (parent_of q) q = settled_by t a b q r e h m (omega arith) in
        record {
          gone = not_again t b (parent_of q) (omega arith) (entered_later t a b (parent_of q) m e) s.gone;
          no_new = λ x. elim (law.new t b q (omega arith) x) [
            | inl y ↦ s.no_new y
            | inr y ↦ absurd (let z : w.held t b (w.place t b) ≡ true = law.at_held t b (omega arith) in
                let u : parent_of q ≡ w.place t b = ap parent_of y.2 ∙ law.below t b y.0 y.1 in
                clash _ (subst (λ r. w.held t b r ≡ true) (sym u) z) s.gone)
          ];
        })
  ]

  pub settled : (t a : ℕ) (q : Path) → q ≢ [] → w.entered t a (parent_of q) ≡ true → w.held t a (parent_of q) ≡ false → a ≤ suc (w.last t) → visits w t q ≡ true → w.entered t a q ≡ true
  settled t a q r e h l v = (settled_by t a (suc (w.last t)) q r e h l (omega arith)).no_new v
