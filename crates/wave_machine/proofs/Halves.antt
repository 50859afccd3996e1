-- What can be taken, read off the list that is kept.
use Rattle.std.proofs.Common.{◌≡◌, ◌∙◌, ◌⊎◌, inl, inr, ℕ, ◌+◌, ◌<◌, ◌==◌, ◌&&◌, ◌||◌, Bool, true, false, List, [], ◌∷◌, ◌++◌, length, map, Some, refl, sym, ap, subst, arith}
use Rattle.std.specs.Prelude.{nat_lt, slice_get}
use Rattle.std.specs.List.{AllByRecursion}
use Rattle.std.proofs.lemmas.List.{length-map, map-append}
use Rattle.std.proofs.lemmas.Bool.Decides.{nat_tests}
use Rattle.wave_labels.specs.Labels.{act_eq, act_of}
use Rattle.wave_labels.specs.LabelLaws.{act_itself, act_same}
use Rattle.wave_states.specs.Labels.{Act, Label, Admit, Queue, Grant, Visit, Start, Stop, Free, Pass, Land, Commit, ticket_of}
use Rattle.wave_theory.specs.Listed.{Before, IsIn, Rising, kind_rank, mail_of}
use Rattle.wave_theory.proofs.Basics.{and_first, and_second, number_is, number_self}
use Rattle.wave_machine.specs.declared.ready.Ready.{Ready}
use Rattle.wave_machine.specs.inner.Index.{Parted, by_none, act_number, under}
use Rattle.wave_machine.proofs.Bridged.{with_worker}
use Rattle.wave_effects.proofs.Ending.{and_true}

-- ---- a list in its order, at the place of one that is in it

mail_is : (a : Act) → mail_of a ≡ act_number a
mail_is (Admit t) = refl
mail_is (Queue t k p) = refl
mail_is (Grant t p) = refl
mail_is (Visit t k p) = refl
mail_is (Start t p) = refl
mail_is (Stop t p) = refl
mail_is (Free t k p) = refl
mail_is (Pass t k p g) = refl
mail_is (Land t k p) = refl
mail_is (Commit t) = refl

abbrev comes : ℕ → ℕ → ℕ → ℕ → ℕ → ℕ → Bool
comes a t k b u j = nat_lt a b || ((a == b) && (nat_lt t u || ((t == u) && nat_lt k j)))

abbrev Less : ℕ → ℕ → ℕ → ℕ → ℕ → ℕ → Type 0
Less a t k b u j = (a < b) ⊎ ((a ≡ b) × ((t < u) ⊎ ((t ≡ u) × (k < j))))

less_comes : (a t k b u j : ℕ) → Less a t k b u j → comes a t k b u j ≡ true
less_comes a t k b u j h = grind (arith, nat_tests)

less_not : (a t k b u j : ℕ) → Less a t k b u j → comes b u j a t k ≡ false
less_not a t k b u j h = grind (arith, nat_tests)

self_not : (a t k : ℕ) → comes a t k a t k ≡ false
self_not a t k = grind (arith, nat_tests)

as_numbers : (a b : Act) → Before a b → Less (kind_rank a) (ticket_of a) (act_number a) (kind_rank b) (ticket_of b) (act_number b)
as_numbers a b h = subst (λ n. Less (kind_rank a) (ticket_of a) (act_number a) (kind_rank b) (ticket_of b) n) (mail_is b) (subst (λ n. Less (kind_rank a) (ticket_of a) n (kind_rank b) (ticket_of b) (mail_of b)) (mail_is a) h)

abbrev act_in : Ready → Act
act_in r = act_of r.act

abbrev pub Rises : List Label → Type 0
Rises ls = Rising (λ (l m : Label). Before l.act m.act) ls

abbrev pub InOrder : List Ready → Type 0
InOrder rs = Rises (map by_none rs)

-- whoever takes them
pub in_order_too : (w : ℕ) (rs : List Ready) → Rises (map (λ (r : Ready). with_worker w (by_none r)) rs) → InOrder rs
in_order_too w [] h = tt
in_order_too w (r ∷ rs) h = (all_too rs h.0, in_order_too w rs h.1)
  where
    all_too : (xs : List Ready) → AllByRecursion (λ (m : Label). Before (act_in r) m.act) (map (λ (x : Ready). with_worker w (by_none x)) xs) → AllByRecursion (λ (m : Label). Before (act_in r) m.act) (map by_none xs)
    all_too [] k = tt
    all_too (x ∷ xs) k = (k.0, all_too xs k.1)

-- what comes before it, and what comes behind it
pub record Found (rs : List Ready) (r : Ready) : Type 0 where
  pub low : List Ready
  pub high : List Ready
  pub all : rs ≡ low ++ r ∷ high
  pub lower : AllByRecursion (λ (l : Label). under (kind_rank (act_in r)) (ticket_of (act_in r)) (act_number (act_in r)) l.act ≡ true) (map by_none low)
  pub higher : AllByRecursion (λ (l : Label). under (kind_rank (act_in r)) (ticket_of (act_in r)) (act_number (act_in r)) l.act ≡ false) (map by_none (r ∷ high))

before_it : (x r : Ready) (rs : List Ready) → AllByRecursion (λ (m : Label). Before (act_in x) m.act) (map by_none rs) → IsIn rs r → Before (act_in x) (act_in r)
before_it x r [] h e = absurd e
before_it x r (y ∷ rs) h (inl same) = subst (λ z. Before (act_in x) (act_in z)) same h.0
before_it x r (y ∷ rs) h (inr e) = before_it x r rs h.1 e

behind_it : (r : Ready) (rs : List Ready) → AllByRecursion (λ (m : Label). Before (act_in r) m.act) (map by_none rs) → AllByRecursion (λ (l : Label). under (kind_rank (act_in r)) (ticket_of (act_in r)) (act_number (act_in r)) l.act ≡ false) (map by_none rs)
behind_it r [] h = tt
behind_it r (y ∷ rs) h =
    (less_not (kind_rank (act_in r)) (ticket_of (act_in r)) (act_number (act_in r)) (kind_rank (act_in y)) (ticket_of (act_in y)) (act_number (act_in y)) (as_numbers (act_in r) (act_in y) h.0), behind_it r rs h.1)

pub found_in : (rs : List Ready) (r : Ready) → InOrder rs → IsIn rs r → Found rs r
found_in [] r h e = absurd e
found_in (x ∷ rs) r h (inl same) = record {
  low = [];
  high = rs;
  all = ap (λ z. z ∷ rs) same;
  lower = tt;
  higher = (self_not (kind_rank (act_in r)) (ticket_of (act_in r)) (act_number (act_in r)), behind_it r rs (subst (λ z. AllByRecursion (λ (m : Label). Before (act_in z) m.act) (map by_none rs)) same h.0));
}
found_in (x ∷ rs) r h (inr e) =
    let f = found_in rs r h.1 e in
    record {
      low = x ∷ f.low;
      high = f.high;
      all = ap (λ zs. x ∷ zs) f.all;
      lower = (less_comes (kind_rank (act_in x)) (ticket_of (act_in x)) (act_number (act_in x)) (kind_rank (act_in r)) (ticket_of (act_in r)) (act_number (act_in r)) (as_numbers (act_in x) (act_in r) (before_it x r rs h.0 e)), f.lower);
      higher = f.higher;
    }

at_length : {X : Type 0} (low : List X) (x : X) (high : List X) → slice_get (low ++ x ∷ high) (length low) ≡ Some x
at_length [] x high = refl
at_length (y ∷ low) x high = at_length low x high

-- where the search by halves comes to there is what is searched
pub place_found : (rs : List Ready) (r : Ready) (at : ℕ) → InOrder rs
    → ((low high : List Label) → Parted (map by_none rs) (kind_rank (act_in r)) (ticket_of (act_in r)) (act_number (act_in r)) low high → at ≡ length low)
    → IsIn rs r → slice_get rs at ≡ Some r
place_found rs r at h place e =
    let f = found_in rs r h e in
    let parted : Parted (map by_none rs) (kind_rank (act_in r)) (ticket_of (act_in r)) (act_number (act_in r)) (map by_none f.low) (map by_none (r ∷ f.high)) =
    record { all = ap (map by_none) f.all ∙ map-append by_none f.low (r ∷ f.high); lower = f.lower; higher = f.higher } in
    let there : at ≡ length f.low = place (map by_none f.low) (map by_none (r ∷ f.high)) parted ∙ length-map f.low by_none in
    (λ i. slice_get (f.all i) (there i)) ∙ at_length f.low r f.high

-- the place, by what the code has computed of it
pub place_as : (rs : List Ready) (r : Ready) (at kind t k : ℕ) → kind ≡ kind_rank (act_in r) → t ≡ ticket_of (act_in r) → k ≡ act_number (act_in r)
    → ((low high : List Label) → Parted (map by_none rs) kind t k low high → at ≡ length low)
    → (low high : List Label) → Parted (map by_none rs) (kind_rank (act_in r)) (ticket_of (act_in r)) (act_number (act_in r)) low high → at ≡ length low
place_as rs r at kind t k e f g place low high p =
    place low high (subst (λ n. Parted (map by_none rs) n t k low high) (sym e) (subst (λ n. Parted (map by_none rs) (kind_rank (act_in r)) n k low high) (sym f) (subst (λ n. Parted (map by_none rs) (kind_rank (act_in r)) (ticket_of (act_in r)) n low high) (sym g) p)))

-- equal ones are the same
pub ready_same : (a b : Ready) → ((a.host.0 == b.host.0) && act_eq a.act b.act) ≡ true → a ≡ b
ready_same a b e =
    let host : a.host.0 ≡ b.host.0 = number_is a.host.0 b.host.0 (and_first (a.host.0 == b.host.0) (act_eq a.act b.act) e) in
    let act : a.act ≡ b.act = act_same a.act b.act (and_second (a.host.0 == b.host.0) (act_eq a.act b.act) e) in
    λ i. record { host = record { 0 = host i }; act = act i }

pub ready_itself : (a b : Ready) → a ≡ b → ((a.host.0 == b.host.0) && act_eq a.act b.act) ≡ true
ready_itself a b e = subst (λ (z : Ready). ((a.host.0 == z.host.0) && act_eq a.act z.act) ≡ true) e (and_true (a.host.0 == a.host.0) (act_eq a.act a.act) (number_self a.host.0) (act_itself a.act))
