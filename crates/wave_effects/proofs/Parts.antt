-- What a label of one context does to what the machine keeps: a cell, the stores and the hands change, and the rest stands as before.
use Rattle.std.proofs.Common.{◌≡◌, ◌≢◌, ◌∙◌, ◌⊎◌, inl, inr, ℕ, zero, suc, ◌+◌, Bool, true, false, List, [], ◌∷◌, length, Option, Some, refl, sym, ap, subst, cond, arith, true≢false}
use Rattle.std.specs.Prelude.{nat_eq, slice_get, slice_set}
use Rattle.std.proofs.lemmas.Bool.{eqb-true}
use Rattle.std.proofs.lemmas.Cmp.{nat_eq_equiv}
use Rattle.std.proofs.lemmas.List.{length-set}
use Rattle.wave_base.specs.declared.outcome.EventResult.{EventResult}
use Rattle.wave_base.specs.declared.path.Path.{Path}
use Rattle.wave_base.specs.Paths.{path_eq}
use Rattle.wave_base.specs.PathLaws.{path_eq_decides}
use Rattle.host_map.specs.Stores.{Stores, IsAt, Matches}
use Rattle.event_cells.specs.declared.cell.Cell.{Cell}
use Rattle.wave_states.specs.States.{Column, set}
use Rattle.wave_states.specs.Steps.{Bench, with_bench}
use Rattle.code_actor.specs.CodeActors.{Fields}
use Rattle.plan_actors.specs.PlanActors as actors
use Rattle.wave_effects.specs.declared.actor.Actor.{Actor}
use Rattle.wave_effects.specs.declared.kept.Out.{Out}
use Rattle.wave_effects.specs.Machines.{TheState, Kept, IsCell, IsOut, Shows}

same_some : {X : Type 0} (x y : X) → Some x ≡ Some y → x ≡ y
same_some x y e = cc

-- an element of a list in which one was set: that one, or another one as it was
pub at_set : {X : Type 0} (xs : List X) (i : ℕ) (x : X) (j : ℕ) (c : X) → slice_get (slice_set xs i x) j ≡ Some c → ((i ≡ j) × (c ≡ x)) ⊎ ((i ≢ j) × (slice_get xs j ≡ Some c))
at_set [] i x j c e = absurd (none_there j c e)
  where
    none_there : {X : Type 0} (j : ℕ) (c : X) → slice_get [] j ≡ Some c → ⊥
    none_there zero c e = cc
    none_there (suc j) c e = cc
at_set (y ∷ ys) zero x zero c e = inl (refl, sym (same_some x c e))
at_set (y ∷ ys) zero x (suc j) c e = inr ((λ h. omega arith), e)
at_set (y ∷ ys) (suc i) x zero c e = inr ((λ h. omega arith), e)
at_set (y ∷ ys) (suc i) x (suc j) c e = more (at_set ys i x j c e)
  where
    more : ((i ≡ j) × (c ≡ x)) ⊎ ((i ≢ j) × (slice_get ys j ≡ Some c)) → ((suc i ≡ suc j) × (c ≡ x)) ⊎ ((suc i ≢ suc j) × (slice_get ys j ≡ Some c))
    more (inl h) = inl (ap suc h.0, h.1)
    more (inr h) = inr ((λ k. h.0 (omega arith)), h.1)

-- a function that is set where it has that already
pub set_same : {X : Type 0} (f : ℕ → X) (k : ℕ) (x : X) → x ≡ f k → (q : ℕ) → set nat_eq f k x q ≡ f q
set_same f k x e q = by_test (nat_eq k q) refl
  where
    by_test : (b : Bool) → nat_eq k q ≡ b → cond b x (f q) ≡ f q
    by_test true h = e ∙ ap f (eqb-true k q h)
    by_test false h = refl

pub set_same_path : {X : Type 0} (f : Path → X) (p : Path) (x : X) → x ≡ f p → (q : Path) → set path_eq f p x q ≡ f q
set_same_path f p x e q = by_test (path_eq p q) refl
  where
    by_test : (b : Bool) → path_eq p q ≡ b → cond b x (f q) ≡ f q
    by_test true h = e ∙ ap f ((path_eq_decides p q).0 h)
    by_test false h = refl

apart : (k q : ℕ) → k ≢ q → nat_eq k q ≡ false
apart k q n = by_test (nat_eq k q) refl
  where
    by_test : (b : Bool) → nat_eq k q ≡ b → nat_eq k q ≡ false
    by_test true h = absurd (n (eqb-true k q h))
    by_test false h = h

pub set_here : {X : Type 0} (f : ℕ → X) (k : ℕ) (x : X) → x ≡ set nat_eq f k x k
set_here f k x = ap (λ b. cond b x (f k)) (sym (nat_eq_equiv.refl k))

pub set_here_path : {X : Type 0} (f : Path → X) (p : Path) (x : X) → x ≡ set path_eq f p x p
set_here_path f p x = ap (λ b. cond b x (f p)) (sym ((path_eq_decides p p).1 refl))

set_there : {X : Type 0} (f : ℕ → X) (k : ℕ) (x : X) (q : ℕ) → k ≢ q → f q ≡ set nat_eq f k x q
set_there f k x q n = ap (λ b. cond b x (f q)) (sym (apart k q n))

module _ {X Y : Type 0} (P : X → Y → Type 0) where
  -- pointwise, an element of a list and what a function has from `first` on
  pub each_set : (xs : List X) (first : ℕ) (f : ℕ → Y) (i : ℕ) (x : X) (y : Y) → ((j : ℕ) (c : X) → slice_get xs j ≡ Some c → P c (f (first + j))) → P x y
      → (j : ℕ) (c : X) → slice_get (slice_set xs i x) j ≡ Some c → P c (set nat_eq f (first + i) y (first + j))
  each_set xs first f i x y h new j c e = by_place (at_set xs i x j c e)
    where
      by_place : ((i ≡ j) × (c ≡ x)) ⊎ ((i ≢ j) × (slice_get xs j ≡ Some c)) → P c (set nat_eq f (first + i) y (first + j))
      by_place (inl k) = subst (λ n. P c (set nat_eq f (first + i) y (first + n))) k.0 (subst (P c) (set_here f (first + i) y) (subst (λ z. P z y) (sym k.1) new))
      by_place (inr k) = subst (P c) (set_there f (first + i) y (first + j) (λ m. k.0 (omega arith))) (h j c k.1)

-- ---- stores

pub is_at_as : (x : Stores) (p : Path) (c d : Column Fields) (h : ℕ) → c.store h ≡ d.store h → c.gone h ≡ d.gone h → IsAt x p c h → IsAt x p d h
is_at_as x p c d h e g k = record { entry = subst (Matches _) e k.entry; mark = sym g ∙ k.mark }

unlike : (q p : Path) → p ≡ q → path_eq p q ≡ false → ⊥
unlike q p r t = true≢false (sym ((path_eq_decides p q).1 r) ∙ t)

-- the stores after a change of one host's at one context
pub each_store : (xs : List Stores) (f : Path → Column Fields) (h : ℕ) (x : Stores) (p : Path) (c : Column Fields) → ((g : ℕ) (y : Stores) → slice_get xs g ≡ Some y → (q : Path) → IsAt y q (f q) g)
    → IsAt x p c h → ((q : Path) → q ≢ p → IsAt x q (f q) h) → ((g : ℕ) → g ≢ h → ((f p).store g ≡ c.store g) × ((f p).gone g ≡ c.gone g))
    → (g : ℕ) (y : Stores) → slice_get (slice_set xs h x) g ≡ Some y → (q : Path) → IsAt y q (set path_eq f p c q) g
each_store xs f h x p c all new others elsewhere g y e q = by_place (at_set xs h x g y e) (path_eq p q) refl
  where
    by_place : ((h ≡ g) × (y ≡ x)) ⊎ ((h ≢ g) × (slice_get xs g ≡ Some y)) → (b : Bool) → path_eq p q ≡ b → IsAt y q (cond b c (f q)) g
    by_place (inl k) true t = subst (λ r. IsAt y r c g) ((path_eq_decides p q).0 t) (subst (λ n. IsAt y p c n) k.0 (subst (λ z. IsAt z p c h) (sym k.1) new))
    by_place (inl k) false t = subst (λ n. IsAt y q (f q) n) k.0 (subst (λ z. IsAt z q (f q) h) (sym k.1) (others q (λ r. unlike q p (sym r) t)))
    by_place (inr k) true t =
        let same = elsewhere g (λ r. k.0 (sym r)) in
        subst (λ r. IsAt y r c g) ((path_eq_decides p q).0 t) (is_at_as y p (f p) c g same.0 same.1 (all g y k.1 p))
    by_place (inr k) false t = all g y k.1 q

-- ---- the machine

module _ (m : Kept) (s : TheState) (t : ℕ) (p : Path) (w : ℕ) (y : Bench actors.Actor Fields EventResult) where
  abbrev after : TheState
  after = with_bench s t p w y

  -- a label of one context: its ticket's cell, the stores and the hands are others
  pub local : (i : ℕ) (c : Cell Actor) (stores : List Stores) (hands : List (Option Out)) → Shows m s → m.first + i ≡ t → IsCell m.plan.program c y.part.cell → y.part.cell.result ≡ (s.cells t).result
      → length stores ≡ length m.stores → ((h : ℕ) (x : Stores) → slice_get stores h ≡ Some x → (q : Path) → IsAt x q (after.columns q) h)
      → length hands ≡ length m.hands → ((v : ℕ) (o : Option Out) → slice_get hands v ≡ Some o → IsOut o (after.hands v))
      → Shows (record { plan = m.plan; first = m.first; head = m.head; commits = m.commits; settled = m.settled; cells = slice_set m.cells i c; stores = stores; hands = hands }) after
  local i c stores hands h at cell result as_many columns as_many_hands each_hand = record {
    head = record { lines = h.head.lines; as_many = h.head.as_many; head = h.head.head; admitted = h.head.admitted; before = h.head.before; first = h.head.first };
    cells = record {
      as_many = length-set m.cells i c ∙ h.cells.as_many;
      each = λ j d e. subst (λ (n : ℕ). IsCell m.plan.program d (set nat_eq s.cells n y.part.cell (m.first + j))) at (each_set (IsCell m.plan.program) m.cells m.first s.cells i c y.part.cell h.cells.each cell j d e);
    };
    results = record {
      as_many = h.results.as_many;
      next = h.results.next;
      settled = λ j x e. same_result (m.first + j) ∙ h.results.settled j x e;
      ledger = record { kinds = h.results.ledger.kinds; head = h.results.ledger.head; made = h.results.ledger.made };
      ended = λ u l. same_result u ∙ h.results.ended u l;
    };
    stores = record { as_many = as_many ∙ h.stores.as_many; each = columns };
    hands = record { as_many = as_many_hands ∙ h.hands.as_many; each = each_hand };
  }
    where
      same_result : (u : ℕ) → (after.cells u).result ≡ (s.cells u).result
      same_result u = by_test (nat_eq t u) refl
        where
          by_test : (b : Bool) → nat_eq t u ≡ b → (cond b y.part.cell (s.cells u)).result ≡ (s.cells u).result
          by_test true e = result ∙ ap (λ n. (s.cells n).result) (eqb-true t u e)
          by_test false e = refl
