-- The entry that a label finds in a store is the context's.
use Rattle.std.proofs.Common.{◌≡◌, ℕ, ◌||◌, inl, inr, nat_eq, Bool, true, false, Some, List, [], ◌∷◌, ◌++◌, refl, sym, ◌∙◌, ap, subst, arith}
use Rattle.std.specs.List.{list_all, AllByRecursion}
use Rattle.wave_base.specs.declared.path.Path.{Path}
use Rattle.wave_states.specs.Actors.{Actors}
use Rattle.wave_states.specs.States.{Column, Claim, Entry, set}
use Rattle.wave_states.specs.Steps.{with_entry, others, may_join}
use Rattle.wave_theory.proofs.Basics.{bool_cases, clash, some_same, none_not, number_is, number_cases, set_at, set_there, and_first, and_second}
use Rattle.wave_theory.proofs.Order.{Way}
use Rattle.wave_theory.proofs.Leaves.{Course}
use Rattle.wave_theory.proofs.Tracks.{owner, Track, change_track, store_at}
use Rattle.wave_theory.proofs.Shows

module _ {A F R J : Type 0} (sys : Actors A F R J) (w : Way) (course : Course sys) (low : ℕ) (is_real : ℕ → Type 0) where
  pub record Found (g : Shows.Ghost F) (p : Path) (c : Column F) (h : ℕ) (en : Entry F) : Type 0 where
    pub born : g.born p ≡ true
    pub stays : Shows.Stays sys w course low is_real g p c
    pub stored : (g.trail p).stored ≡ true
    pub host_is : h ≡ owner (g.trail p)
    pub entry_is : en ≡ g.entry p

  pub found : (g : Shows.Ghost F) (p : Path) (c : Column F) (h : ℕ) (en : Entry F) → Shows.ColumnShows sys w course low is_real (g.born p) g p c → c.store h ≡ Some en → Found g p c h en
  found g p c h en k e = by (g.born p) refl k
    where
      by : (i : Bool) → g.born p ≡ i → Shows.ColumnShows sys w course low is_real i g p c → Found g p c h en
      by false b k = absurd (none_not (sym (k.empty.no_entry h) ∙ e))
      by true b k = (let o = store_at c (g.trail p) h en k.track e in
          record { born = b; stays = k; stored = o.0; host_is = o.1; entry_is = some_same _ _ (sym e ∙ ap c.store o.1 ∙ k.there o.0) })

  -- and stays so where it changes
  pub changed : (g g' : Shows.Ghost F) (p : Path) (c : Column F) (h : ℕ) (en en' : Entry F) → Found g p c h en → g'.born p ≡ g.born p → g'.trail p ≡ g.trail p → g'.entry p ≡ en' →
      Shows.ColumnShows sys w course low is_real (g'.born p) g' p (with_entry c h (Some en'))
  changed g g' p c h en en' f b t e = subst (λ i. Shows.ColumnShows sys w course low is_real i g' p (with_entry c h (Some en'))) (sym (b ∙ f.born)) (record {
    track = subst (λ r. Track (with_entry c h (Some en')) r) (sym t) (subst (λ i. Track (with_entry c i (Some en')) (g.trail p)) (sym f.host_is) (change_track c (g.trail p) en' f.stays.track f.stored));
    there = λ s. ap (λ r. set nat_eq c.store h (Some en') (owner r)) t ∙ ap (λ i. set nat_eq c.store h (Some en') i) (sym f.host_is) ∙ set_at c.store h (Some en') ∙ ap Some (sym e);
  })

-- claims
pub claims_append : (hs : List Claim) (c : Claim) (b : ℕ) → Shows.holds_claim (hs ++ c ∷ []) b ≡ (Shows.holds_claim hs b || nat_eq c.ticket b)
claims_append [] c b = or_none (nat_eq c.ticket b)
  where
    or_none : (a : Bool) → (a || false) ≡ (false || a)
    or_none a = grind arith
claims_append (x ∷ hs) c b = ap (λ i. nat_eq x.ticket b || i) (claims_append hs c b) ∙ or_assoc (nat_eq x.ticket b) (Shows.holds_claim hs b) (nat_eq c.ticket b)
  where
    or_assoc : (a b c : Bool) → (a || (b || c)) ≡ ((a || b) || c)
    or_assoc a b c = grind arith

pub claims_others : (t : ℕ) (hs : List Claim) (b : ℕ) → Shows.holds_claim (others t hs) b ≡ set nat_eq (Shows.holds_claim hs) t false b
claims_others t [] b = elim (number_cases t b) [ inl z ↦ subst (λ i. false ≡ set nat_eq (Shows.holds_claim []) t false i) z (sym (set_at (Shows.holds_claim []) t false)) | inr z ↦ sym (set_there nat_eq (Shows.holds_claim []) t false b z) ]
claims_others t (x ∷ hs) b = elim (bool_cases (nat_eq x.ticket t)) [
  | inl e ↦ rw e (claims_others t hs b ∙ (elim (number_cases t b) [
    | inl z ↦ subst (λ i. set nat_eq (Shows.holds_claim hs) t false i ≡ set nat_eq (Shows.holds_claim (x ∷ hs)) t false i) z (set_at (Shows.holds_claim hs) t false ∙ sym (set_at (Shows.holds_claim (x ∷ hs)) t false))
    | inr z ↦ set_there nat_eq (Shows.holds_claim hs) t false b z ∙ ap (λ i. i || Shows.holds_claim hs b) (sym (subst (λ i. nat_eq i b ≡ false) (sym (number_is x.ticket t e)) z)) ∙ sym (set_there nat_eq (Shows.holds_claim (x ∷ hs)) t false b z)
  ]))
  | inr e ↦ rw e (ap (λ i. nat_eq x.ticket b || i) (claims_others t hs b) ∙ (elim (number_cases t b) [
    | inl z ↦ subst (λ i. (nat_eq x.ticket i || set nat_eq (Shows.holds_claim hs) t false i) ≡ set nat_eq (Shows.holds_claim (x ∷ hs)) t false i) z
        (ap (λ i. nat_eq x.ticket t || i) (set_at (Shows.holds_claim hs) t false) ∙ ap (λ i. i || false) e ∙ sym (set_at (Shows.holds_claim (x ∷ hs)) t false))
    | inr z ↦ ap (λ i. nat_eq x.ticket b || i) (set_there nat_eq (Shows.holds_claim hs) t false b z) ∙ sym (set_there nat_eq (Shows.holds_claim (x ∷ hs)) t false b z)
  ]))
]

pub all_append : {X : Type 0} (P : X → Type 0) (xs : List X) (x : X) → AllByRecursion P xs → P x → AllByRecursion P (xs ++ x ∷ [])
all_append P [] x h k = (k, tt)
all_append P (y ∷ xs) x h k = (h.0, all_append P xs x h.1 k)

pub all_others : (P : Claim → Type 0) (t : ℕ) (hs : List Claim) → AllByRecursion P hs → AllByRecursion P (others t hs)
all_others P t [] h = tt
all_others P t (x ∷ hs) h = elim (bool_cases (nat_eq x.ticket t)) [
  | inl e ↦ rw e (all_others P t hs h.1)
  | inr e ↦ rw e (h.0, all_others P t hs h.1)
]

-- who may join
pub joining : (looks : ℕ → Bool) (peek : Bool) (hs : List Claim) → may_join peek hs ≡ true → AllByRecursion (λ c. c.peek ≡ looks c.ticket) hs → (b : ℕ) → Shows.holds_claim hs b ≡ true → (looks b ≡ true) × (peek ≡ true)
joining looks true hs e h b k = (all_look hs e h k, refl)
  where
    all_look : (hs : List Claim) → list_all (λ c. c.peek) hs ≡ true → AllByRecursion (λ c. c.peek ≡ looks c.ticket) hs → Shows.holds_claim hs b ≡ true → looks b ≡ true
    all_look [] e h k = absurd (clash false k refl)
    all_look (x ∷ hs) e h k = elim (number_cases x.ticket b) [
      | inl z ↦ subst (λ i. looks i ≡ true) z (sym h.0 ∙ and_first x.peek _ e)
      | inr z ↦ all_look hs (and_second x.peek _ e) h.1 (sym (ap (λ i. i || Shows.holds_claim hs b) z) ∙ k)
    ]
joining looks false [] e h b k = absurd (clash false k refl)
joining looks false (x ∷ hs) e h b k = absurd (clash false e refl)
