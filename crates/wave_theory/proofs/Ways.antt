-- The ways of tickets: that of an event alone, and a way in and out of the root for a ticket that isn't of this run.
use Rattle.std.proofs.Common.{◌≡◌, ◌≢◌, ℕ, zero, suc, ◌<◌, ◌≤◌, ◌⊎◌, ◌&&◌, inl, inr, Bool, true, false, Some, None, is_some, [], refl, sym, ◌∙◌, ap, subst, arith}
use Rattle.std.specs.Prelude.{if◌then◌else◌}
use Rattle.wave_base.specs.declared.path.Path.{Path}
use Rattle.wave_base.specs.Paths.{path_eq, parent_of}
use Rattle.wave_states.specs.Actors.{Actors}
use Rattle.wave_states.specs.Alone.{Alone, has, next_alone, segment_if, segment_alone, goes_on, after_segments, count_from}
use Rattle.wave_states.specs.Kinds.{Kind}
use Rattle.wave_states.specs.Owes.{Owes}
use Rattle.wave_theory.proofs.Basics.{bool_cases, clash, none_not, options, path_is, path_self, and_first, and_second}
use Rattle.wave_theory.proofs.Order.{Way, IsWay}
use Rattle.wave_theory.proofs.Alone.{Fine, Moved, Stands, step_moved, at_held, look_ends}

-- the way of one ticket
pub record One : Type 0 where
  pub place : ℕ → Path
  pub fresh : ℕ → Bool
  pub last : ℕ
  pub held : ℕ → Path → Bool
  pub entered : ℕ → Path → Bool
  pub looks : Path → Bool

pub record IsOne (w : One) : Type 0 where
  pub first_fresh : w.fresh 0 ≡ true
  pub first_place : w.place 0 ≡ []
  pub first_entered : (p : Path) → w.entered 0 p ≡ true → p ≡ []
  pub at_held : (k : ℕ) → k ≤ w.last → w.held k (w.place k) ≡ true
  pub held_entered : (k : ℕ) (p : Path) → w.held k p ≡ true → w.entered k p ≡ true
  pub kept : (k : ℕ) (p : Path) → w.entered k p ≡ true → w.entered (suc k) p ≡ true
  pub new : (k : ℕ) (p : Path) → k ≤ w.last → w.entered (suc k) p ≡ true → (w.entered k p ≡ true) ⊎ ((suc k ≤ w.last) × (w.fresh (suc k) ≡ true) × (p ≡ w.place (suc k)))
  pub once : (k : ℕ) → suc k ≤ w.last → w.fresh (suc k) ≡ true → w.entered k (w.place (suc k)) ≡ false
  pub below : (k : ℕ) → suc k ≤ w.last → w.fresh (suc k) ≡ true → parent_of (w.place (suc k)) ≡ w.place k
  pub not_root : (k : ℕ) → suc k ≤ w.last → w.fresh (suc k) ≡ true → w.place (suc k) ≢ []
  pub closed : (k : ℕ) (p : Path) → w.entered k p ≡ true → p ≢ [] → w.entered k (parent_of p) ≡ true
  pub still : (k : ℕ) (p : Path) → k ≤ w.last → w.held (suc k) p ≡ true → (w.held k p ≡ true) ⊎ ((suc k ≤ w.last) × (w.fresh (suc k) ≡ true) × (p ≡ w.place (suc k)))
  pub none : (p : Path) → w.held (suc w.last) p ≡ false
  pub looks_last : (k : ℕ) → k ≤ w.last → w.looks (w.place k) ≡ true → k ≡ w.last

abbrev pub way_of : (ℕ → One) → Way
way_of f = record {
  place = λ t. (f t).place;
  fresh = λ t. (f t).fresh;
  last = λ t. (f t).last;
  held = λ t. (f t).held;
  entered = λ t. (f t).entered;
  looks = λ t. (f t).looks;
}

pub is_way_of : (f : ℕ → One) → ((t : ℕ) → IsOne (f t)) → IsWay (way_of f)
is_way_of f h = record {
  first_fresh = λ t. (h t).first_fresh;
  first_place = λ t. (h t).first_place;
  first_entered = λ t. (h t).first_entered;
  at_held = λ t. (h t).at_held;
  held_entered = λ t. (h t).held_entered;
  kept = λ t. (h t).kept;
  new = λ t. (h t).new;
  once = λ t. (h t).once;
  below = λ t. (h t).below;
  not_root = λ t. (h t).not_root;
  closed = λ t. (h t).closed;
  still = λ t. (h t).still;
  none = λ t. (h t).none;
  looks_last = λ t. (h t).looks_last;
}

abbrev pub at_first : ℕ → Path → Bool
at_first zero p = path_eq [] p
at_first (suc k) p = false

-- in and out of the root
abbrev pub in_and_out : One
in_and_out = record {
  place = λ k. [];
  fresh = λ k. true;
  last = 0;
  held = at_first;
  entered = λ k p. path_eq [] p;
  looks = λ p. false;
}

at_zero : (k : ℕ) → k ≤ 0 → at_first k [] ≡ true
at_zero zero l = refl
at_zero (suc k) l = absurd (omega arith)

at_first_is : (k : ℕ) (p : Path) → at_first k p ≡ true → path_eq [] p ≡ true
at_first_is zero p e = e
at_first_is (suc k) p e = absurd (clash false e refl)

pub in_and_out_is : IsOne in_and_out
in_and_out_is = record {
  first_fresh = refl;
  first_place = refl;
  first_entered = λ p e. sym (path_is [] p e);
  at_held = λ k l. at_zero k l;
  held_entered = λ k p e. at_first_is k p e;
  kept = λ k p e. e;
  new = λ k p l e. inl e;
  once = λ k l e. absurd (omega arith);
  below = λ k l e. absurd (omega arith);
  not_root = λ k l e. absurd (omega arith);
  closed = λ k p e n. absurd (n (sym (path_is [] p e)));
  still = λ k p l e. absurd (clash false e refl);
  none = λ p. refl;
  looks_last = λ k l e. absurd (clash false e refl);
}

module _ {A F R J : Type 0} (sys : Actors A F R J) where
  pub after_shift : (k : ℕ) (x : Alone A F R) → after_segments sys (suc k) x ≡ after_segments sys k (next_alone sys x)
  unfolding after_segments
  after_shift zero x = refl
  after_shift (suc k) x = ap (next_alone sys) (after_shift k x)

  -- so many segments it has
  pub record Counts (x : Alone A F R) (n : ℕ) : Type 0 where
    pub under : (k : ℕ) → k < n → (after_segments sys k x).result ≡ None
    pub result : R
    pub ends : (after_segments sys n x).result ≡ Some result

  pub counted : (n : ℕ) (x : Alone A F R) (r : R) → (after_segments sys n x).result ≡ Some r → Counts x (count_from sys n x)
  unfolding after_segments
  counted zero x r e = record { under = λ k l. absurd (omega arith); result = r; ends = e }
  counted (suc n) x r e = elim (options x.result) [
    | inr z ↦ subst (λ b. Counts x (if b then 0 else suc (count_from sys n (next_alone sys x)))) (sym (ap is_some z.1)) (record { under = λ k l. absurd (omega arith); result = z.0; ends = z.1 })
    | inl z ↦ subst (λ b. Counts x (if b then 0 else suc (count_from sys n (next_alone sys x)))) (sym (ap is_some z)) (more z (counted n (next_alone sys x) r (ap (λ y. y.result) (sym (after_shift n x)) ∙ e)))
  ]
    where
      more : x.result ≡ None → Counts (next_alone sys x) (count_from sys n (next_alone sys x)) → Counts x (suc (count_from sys n (next_alone sys x)))
      more z c = record {
        under = λ k l. on k l;
        result = c.result;
        ends = ap (λ y. y.result) (after_shift (count_from sys n (next_alone sys x)) x) ∙ c.ends;
      }
        where
          on : (k : ℕ) → k < suc (count_from sys n (next_alone sys x)) → (after_segments sys k x).result ≡ None
          on zero l = z
          on (suc k) l = ap (λ y. y.result) (after_shift k x) ∙ c.under k (omega arith)

  -- once it is over it stays
  pub stays_over : (x : Alone A F R) (r : R) → x.result ≡ Some r → next_alone sys x ≡ x
  stays_over x r e = ap (segment_if sys x) e

  pub over_later : (x : Alone A F R) (n k : ℕ) (r : R) → (after_segments sys n x).result ≡ Some r → n ≤ k → after_segments sys k x ≡ after_segments sys n x
  unfolding after_segments
  over_later x n zero r e l = ap (λ i. after_segments sys i x) (let z : 0 ≡ n = omega arith in z)
  over_later x n (suc k) r e l = elim (at_or_below n k l) [
    | inl m ↦ (let h = over_later x n k r e m in ap (next_alone sys) h ∙ stays_over (after_segments sys n x) r e)
    | inr m ↦ ap (λ i. after_segments sys i x) (sym m)
  ]
    where
      at_or_below : (a b : ℕ) → a ≤ suc b → (a ≤ b) ⊎ (a ≡ suc b)
      at_or_below a b l = grind arith

  pub next_is : (k : ℕ) (x : Alone A F R) → after_segments sys (suc k) x ≡ next_alone sys (after_segments sys k x)
  unfolding after_segments
  next_is k x = refl

  pub none_yet : (x : Alone A F R) → after_segments sys 0 x ≡ x
  unfolding after_segments
  none_yet x = refl

  -- the way of an event alone whose last segment is this one
  abbrev pub looks_at : Alone A F R → Path → Bool
  looks_at x p = x.peek && path_eq x.at p

  abbrev pub one_of : Alone A F R → ℕ → One
  one_of x n = record {
    place = λ k. (after_segments sys k x).at;
    fresh = λ k. (after_segments sys k x).fresh;
    last = n;
    held = λ k p. has (after_segments sys k x).held p;
    entered = λ k p. has (after_segments sys k x).entered p;
    looks = looks_at (after_segments sys n x);
  }

module _ {A F R J : Type 0} (kind : Kind A F R J) (owes : Owes kind) where
  module _ (x : Alone A F R) (n : ℕ) (fin : Fine kind owes x) (c : Counts kind.system x (suc n)) where
    pub all_fine : (k : ℕ) → Fine kind owes (after_segments kind.system k x)
    unfolding after_segments
    all_fine zero = fin
    all_fine (suc k) = elim (options (after_segments kind.system k x).result) [
      | inl z ↦ (step_moved kind owes (after_segments kind.system k x) (all_fine k) z).fine_then
      | inr z ↦ subst (Fine kind owes) (sym (stays_over kind.system (after_segments kind.system k x) z.0 z.1)) (all_fine k)
    ]

    pub moved_at : (k : ℕ) → k ≤ n → Moved kind owes (after_segments kind.system k x) (after_segments kind.system (suc k) x)
    unfolding after_segments
    moved_at k l = step_moved kind owes (after_segments kind.system k x) (all_fine k) (c.under k (omega arith))

    not_over : (k : ℕ) → k ≤ n → (after_segments kind.system (suc k) x).result ≡ None → suc k ≤ n
    not_over k l e = elim (at_or_below k n l) [
      | inl m ↦ m
      | inr m ↦ absurd (none_not (sym e ∙ subst (λ i. (after_segments kind.system (suc i) x).result ≡ Some c.result) (sym m) c.ends))
    ]
      where
        at_or_below : (a b : ℕ) → a ≤ b → (suc a ≤ b) ⊎ (a ≡ b)
        at_or_below a b l = grind arith

    stands_at : (k : ℕ) → k ≤ n → (base : Path) × Stands kind owes (after_segments kind.system k x) base
    stands_at k l = elim (all_fine k).phase [
      | inl z ↦ (z.1, z.2)
      | inr z ↦ absurd (none_not (sym (c.under k (omega arith)) ∙ z.1))
    ]

    pub held_there : (k : ℕ) → k ≤ n → has (after_segments kind.system k x).held (after_segments kind.system k x).at ≡ true
    held_there k l = (let s = stands_at k l in at_held kind owes (after_segments kind.system k x) s.0 s.1)

    -- a context is entered once: where the last segment only looks, no earlier one was there
    looked_last : (k : ℕ) → k ≤ n → (m : ℕ) → n ≡ m → (after_segments kind.system m x).peek ≡ true → (after_segments kind.system m x).at ≡ (after_segments kind.system k x).at → k ≡ n
    looked_last k l zero e pk same = omega arith
    looked_last k l (suc m) e pk same = elim (at_or_below k (suc m) (subst (λ i. k ≤ i) e l)) [
      | inr z ↦ z ∙ sym e
      | inl z ↦ absurd (clash _
          (earlier k m (omega arith) (after_segments kind.system (suc m) x).at (subst (λ q. has (after_segments kind.system k x).entered q ≡ true) (sym same) ((all_fine k).held_entered _ (held_there k l))))
          ((moved_at m (omega arith)).once (c.under (suc m) (omega arith)) ((all_fine (suc m)).peeking pk).0))
    ]
      where
        at_or_below : (a b : ℕ) → a ≤ b → (a < b) ⊎ (a ≡ b)
        at_or_below a b l = grind arith

        earlier : (a b : ℕ) → a ≤ b → (q : Path) → has (after_segments kind.system a x).entered q ≡ true → has (after_segments kind.system b x).entered q ≡ true
        earlier a zero l q h = subst (λ i. has (after_segments kind.system i x).entered q ≡ true) (let z : a ≡ 0 = omega arith in z) h
        earlier a (suc b) l q h = elim (at_or_below a (suc b) l) [
          | inr z ↦ subst (λ i. has (after_segments kind.system i x).entered q ≡ true) z h
          | inl z ↦ kept_on b q (earlier a b (omega arith) q h)
        ]
          where
            kept_on : (b : ℕ) (q : Path) → has (after_segments kind.system b x).entered q ≡ true → has (after_segments kind.system (suc b) x).entered q ≡ true
            kept_on b q h = elim (options (after_segments kind.system b x).result) [
              | inl z ↦ subst (λ v. has v.entered q ≡ true) (sym (next_is kind.system b x)) ((step_moved kind owes (after_segments kind.system b x) (all_fine b) z).kept q h)
              | inr z ↦ subst (λ v. has v.entered q ≡ true) (sym (next_is kind.system b x ∙ stays_over kind.system (after_segments kind.system b x) z.0 z.1)) h
            ]

    pub one_is : (x.fresh ≡ true) → (x.at ≡ []) → ((p : Path) → has x.entered p ≡ true → p ≡ []) → IsOne (one_of kind.system x n)
    one_is f a r = record {
      first_fresh = ap (λ y. y.fresh) (none_yet kind.system x) ∙ f;
      first_place = ap (λ y. y.at) (none_yet kind.system x) ∙ a;
      first_entered = λ p e. r p (subst (λ y. has y.entered p ≡ true) (none_yet kind.system x) e);
      at_held = λ k l. held_there k l;
      held_entered = λ k p. (all_fine k).held_entered p;
      kept = λ k p e. elim (options (after_segments kind.system k x).result) [
        | inl z ↦ subst (λ v. has v.entered p ≡ true) (sym (next_is kind.system k x)) ((step_moved kind owes (after_segments kind.system k x) (all_fine k) z).kept p e)
        | inr z ↦ subst (λ v. has v.entered p ≡ true) (sym (next_is kind.system k x ∙ stays_over kind.system (after_segments kind.system k x) z.0 z.1)) e
      ];
      new = λ k p l e. elim ((moved_at k l).new p e) [
        | inl z ↦ inl z
        | inr z ↦ inr (not_over k l z.0, z.1, z.2)
      ];
      once = λ k l g. (moved_at k (omega arith)).once (c.under (suc k) (omega arith)) g;
      below = λ k l g. (moved_at k (omega arith)).below (c.under (suc k) (omega arith)) g;
      not_root = λ k l g. (moved_at k (omega arith)).not_root (c.under (suc k) (omega arith)) g;
      closed = λ k p e m. (all_fine k).closed p e m;
      still = λ k p l e. elim ((moved_at k l).still p e) [
        | inl z ↦ inl z
        | inr z ↦ inr (not_over k l z.0, z.1, z.2)
      ];
      none = λ p. elim (all_fine (suc n)).phase [
        | inl z ↦ absurd (none_not (sym z.0 ∙ c.ends))
        | inr z ↦ subst (λ hs. has hs p ≡ false) (sym z.2) refl
      ];
      looks_last = λ k l e. looked_last k l n refl (and_first _ _ e) (path_is _ _ (and_second (after_segments kind.system n x).peek _ e));
    }

    -- a segment for which a context is entered is a look exactly where the ticket only looks at that context
    pub looks_is : (k : ℕ) → k ≤ n → (after_segments kind.system k x).fresh ≡ true → (one_of kind.system x n).looks (after_segments kind.system k x).at ≡ (after_segments kind.system k x).peek
    looks_is k l g = elim (bool_cases (after_segments kind.system k x).peek) [
      | inl e ↦ (let m : k ≡ n = last_one k l e in
          subst (λ i. looks_at kind.system (after_segments kind.system i x) (after_segments kind.system k x).at ≡ (after_segments kind.system k x).peek) m
          (and_true _ _ (path_self (after_segments kind.system k x).at)))
      | inr e ↦ elim (bool_cases (looks_at kind.system (after_segments kind.system n x) (after_segments kind.system k x).at)) [
        | inr z ↦ z ∙ sym e
        | inl z ↦ absurd (clash _ (subst (λ i. (after_segments kind.system i x).peek ≡ true) (sym (looked_last k l n refl (and_first _ _ z) (path_is _ _ (and_second (after_segments kind.system n x).peek _ z)))) (and_first _ _ z)) e)
      ]
    ]
      where
        and_true : (a b : Bool) → b ≡ true → (a && b) ≡ a
        and_true a b e = grind arith

        last_one : (k : ℕ) → k ≤ n → (after_segments kind.system k x).peek ≡ true → k ≡ n
        last_one k l e = elim (at_or_below k n l) [
          | inr z ↦ z
          | inl z ↦ absurd (let o = look_ends kind owes (after_segments kind.system k x) (all_fine k) (c.under k (omega arith)) e in
              none_not (sym (c.under (suc k) (omega arith)) ∙ ap (λ y. y.result) (next_is kind.system k x ∙ ap (segment_if kind.system (after_segments kind.system k x)) (c.under k (omega arith)))
              ∙ ap (λ u. (goes_on kind.system (after_segments kind.system k x) (segment_alone kind.system (after_segments kind.system k x)).actor (segment_alone kind.system (after_segments kind.system k x)).fields u).result) o.1))
        ]
          where
            at_or_below : (a b : ℕ) → a ≤ b → (a < b) ⊎ (a ≡ b)
            at_or_below a b l = grind arith
