-- The canonical list is in its order.
use Rattle.std.proofs.Common.{◌≡◌, ℕ, zero, suc, ◌+◌, ◌<◌, ◌≤◌, ◌⊎◌, inl, inr, Bool, true, false, Option, Some, None, is_some, List, [], ◌∷◌, ◌++◌, refl, sym, ◌∙◌, ap, subst, arith}
use Rattle.std.specs.Prelude.{All, filter, flat_map, map, cond}
use Rattle.std.specs.List.{AllByRecursion}
use Rattle.wave_base.specs.declared.path.Path.{Path}
use Rattle.wave_base.specs.Fold.{tickets_from}
use Rattle.wave_states.specs.Actors.{Actors}
use Rattle.wave_states.specs.States.{State, Event, Mail, Mark, Hand, Status, Travelling, Ended, Waiting, Ready, Running}
use Rattle.wave_states.specs.Labels.{Act, Choice, Label, Admit, Queue, Grant, Start, Stop, Free, Pass, Land, Commit, ticket_of, path_of}
use Rattle.wave_states.specs.Labels
use Rattle.wave_states.specs.Begins.{Begin}
use Rattle.wave_states.specs.Kinds.{Kind}
use Rattle.wave_states.specs.Owes.{Owes, IsBegin}
use Rattle.wave_states.specs.Steps.{step, next_ticket}
use Rattle.wave_states.specs.Canonical.{below, at_host, by_event, by_mail, to_mark, runs_it, place, by_status, grants_of, starts_of, stops_of, by_mails, mail_act, passes_of, early, stops, late, idle_in, taken_as, takes, taken_by, stop_by, enabled_labels, enabled_for}
use Rattle.wave_theory.proofs.Basics.{bool_cases, clash, number_is, and_first}
use Rattle.wave_theory.proofs.GoodStates.{Good_state}
use Rattle.wave_theory.specs.Listed.{kind_rank, mail_of, Before, Rising, Sorted}

all_append : {X : Type 0} (P : X → Type 0) (xs ys : List X) → AllByRecursion P xs → AllByRecursion P ys → AllByRecursion P (xs ++ ys)
all_append P [] ys h k = k
all_append P (x ∷ xs) ys h k = (h.0, all_append P xs ys h.1 k)

all_with : {X : Type 0} (P Q : X → Type 0) (xs : List X) → ((x : X) → P x → Q x) → AllByRecursion P xs → AllByRecursion Q xs
all_with P Q [] f h = tt
all_with P Q (x ∷ xs) f h = (f x h.0, all_with P Q xs f h.1)

all_filter : {X : Type 0} (P : X → Type 0) (f : X → Bool) (xs : List X) → AllByRecursion P xs → AllByRecursion P (filter f xs)
all_filter P f [] h = tt
all_filter P f (x ∷ xs) h = by (f x) (all_filter P f xs h.1)
  where
    by : (j : Bool) → AllByRecursion P (filter f xs) → AllByRecursion P (cond j (x ∷ filter f xs) (filter f xs))
    by true k = (h.0, k)
    by false k = k

all_map : {X Y : Type 0} (P : Y → Type 0) (f : X → Y) (xs : List X) → AllByRecursion (λ x. P (f x)) xs → AllByRecursion P (map f xs)
all_map P f [] h = tt
all_map P f (x ∷ xs) h = (h.0, all_map P f xs h.1)

all_flat : {X Y : Type 0} (P : X → Type 0) (Q : Y → Type 0) (g : X → List Y) (xs : List X) → AllByRecursion P xs → ((x : X) → P x → AllByRecursion Q (g x)) → AllByRecursion Q (flat_map g xs)
all_flat P Q g [] h f = tt
all_flat P Q g (x ∷ xs) h f = all_append Q (g x) (flat_map g xs) (f x h.0) (all_flat P Q g xs h.1 f)

cross : {X : Type 0} (P Q : X → Type 0) (R : X → X → Type 0) (xs ys : List X) → AllByRecursion P xs → AllByRecursion Q ys → ((x y : X) → P x → Q y → R x y) → AllByRecursion (λ x. AllByRecursion (R x) ys) xs
cross P Q R [] ys h k f = tt
cross P Q R (x ∷ xs) ys h k f = (all_with Q (R x) ys (λ y q. f x y h.0 q) k, cross P Q R xs ys h.1 k f)

rising_append : {X : Type 0} (R : X → X → Type 0) (xs ys : List X) → Rising R xs → Rising R ys → AllByRecursion (λ x. AllByRecursion (R x) ys) xs → Rising R (xs ++ ys)
rising_append R [] ys h k c = k
rising_append R (x ∷ xs) ys h k c = (all_append (R x) xs ys h.0 c.0, rising_append R xs ys h.1 k c.1)

rising_filter : {X : Type 0} (R : X → X → Type 0) (f : X → Bool) (xs : List X) → Rising R xs → Rising R (filter f xs)
rising_filter R f [] h = tt
rising_filter R f (x ∷ xs) h = by (f x) (rising_filter R f xs h.1) (all_filter (R x) f xs h.0)
  where
    by : (j : Bool) → Rising R (filter f xs) → AllByRecursion (R x) (filter f xs) → Rising R (cond j (x ∷ filter f xs) (filter f xs))
    by true k a = (a, k)
    by false k a = k

rising_map : {X Y : Type 0} (R : Y → Y → Type 0) (f : X → Y) (xs : List X) → Rising (λ x y. R (f x) (f y)) xs → Rising R (map f xs)
rising_map R f [] h = tt
rising_map R f (x ∷ xs) h = (all_map (R (f x)) f xs h.0, rising_map R f xs h.1)

-- a list for each number, one after the other
record FromOn {X : Type 0} (P : ℕ → X → Type 0) (a : ℕ) (x : X) : Type 0 where
  number : ℕ
  above : a ≤ number
  is : P number x

flat_from : {X : Type 0} (R : X → X → Type 0) (P : ℕ → X → Type 0) (g : ℕ → List X) → ((i : ℕ) → Rising R (g i)) → ((i : ℕ) → AllByRecursion (P i) (g i)) → ((i j : ℕ) (x y : X) → i < j → P i x → P j y → R x y) → (n a : ℕ) →
    Rising R (flat_map g (tickets_from a n)) × AllByRecursion (FromOn P a) (flat_map g (tickets_from a n))
flat_from R P g r p o zero a = (tt, tt)
flat_from R P g r p o (suc n) a = (let k = flat_from R P g r p o n (suc a) in (
  rising_append R (g a) (flat_map g (tickets_from (suc a) n)) (r a) k.0 (cross (P a) (FromOn P (suc a)) R (g a) (flat_map g (tickets_from (suc a) n)) (p a) k.1 (λ x y u v. o a v.number x y (under a v.number v.above) u v.is)),
  all_append (FromOn P a) (g a) (flat_map g (tickets_from (suc a) n)) (all_with (P a) (FromOn P a) (g a) (λ x u. record { number = a; above = upto a; is = u }) (p a)) (all_with (FromOn P (suc a)) (FromOn P a) (flat_map g (tickets_from (suc a) n)) (λ x u. record { number = u.number; above = later a u.number u.above; is = u.is }) k.1),
))
  where
    under : (a i : ℕ) → suc a ≤ i → a < i
    under a i l = omega (arith, l)

    upto : (a : ℕ) → a ≤ a
    upto a = omega arith

    later : (a i : ℕ) → suc a ≤ i → a ≤ i
    later a i l = omega (arith, l)

-- of a list for each of some numbers, at most one
one_only : {X : Type 0} (R : X → X → Type 0) (g : ℕ → X) (f : ℕ → Bool) (w : ℕ) → ((v : ℕ) → f v ≡ true → v ≡ w) → (n a : ℕ) → Rising R (map g (filter f (tickets_from a n)))
one_only R g f w u zero a = tt
one_only R g f w u (suc n) a = by (f a) refl (one_only R g f w u n (suc a))
  where
    none : (m c : ℕ) → f a ≡ true → a < c → filter f (tickets_from c m) ≡ []
    none zero c e l = refl
    none (suc m) c e l = ap (λ j. cond j (c ∷ filter f (tickets_from (suc c) m)) (filter f (tickets_from (suc c) m))) off ∙ none m (suc c) e (later a c l)
      where
        apart : (a c : ℕ) → a < c → a ≡ c → ⊥
        apart a c l e = omega (arith, l, e)

        off : f c ≡ false
        off = elim (bool_cases (f c)) [ inr z ↦ z | inl z ↦ absurd (apart a c l (u a e ∙ sym (u c z))) ]

        later : (a c : ℕ) → a < c → a < suc c
        later a c l = omega (arith, l)

    by : (j : Bool) → f a ≡ j → Rising R (map g (filter f (tickets_from (suc a) n))) → Rising R (map g (cond j (a ∷ filter f (tickets_from (suc a) n)) (filter f (tickets_from (suc a) n))))
    by false e k = k
    by true e k = subst (λ xs. Rising R (map g (a ∷ xs))) (sym (none n (suc a) e (next a))) (tt, tt)
      where
        next : (a : ℕ) → a < suc a
        next a = omega arith

-- of this kind, ticket and number
abbrev OfKind : ℕ → Choice → Type 0
OfKind i c = kind_rank c.act ≡ i

abbrev OfTicket : ℕ → ℕ → Choice → Type 0
OfTicket i t c = (kind_rank c.act ≡ i) × (ticket_of c.act ≡ t)

abbrev OfMail : ℕ → ℕ → ℕ → Choice → Type 0
OfMail i t k c = (kind_rank c.act ≡ i) × (ticket_of c.act ≡ t) × (mail_of c.act ≡ k)

abbrev Order : Choice → Choice → Type 0
Order c d = Before c.act d.act

by_tickets : (i t u : ℕ) (c d : Choice) → t < u → OfTicket i t c → OfTicket i u d → Order c d
by_tickets i t u c d l x y = inr (x.0 ∙ sym y.0, inl (subst (λ a. a < ticket_of d.act) (sym x.1) (subst (λ a. t < a) (sym y.1) l)))

by_numbers : (i t k j : ℕ) (c d : Choice) → k < j → OfMail i t k c → OfMail i t j d → Order c d
by_numbers i t k j c d l x y = inr (x.0 ∙ sym y.0, inr (x.1 ∙ sym y.1, subst (λ a. a < mail_of d.act) (sym x.2) (subst (λ a. k < a) (sym y.2) l)))

-- one choice at most, of this kind, ticket and number
record IsOne (i t k : ℕ) (cs : List Choice) : Type 0 where
  rising : Rising Order cs
  each : AllByRecursion (OfMail i t k) cs

at_one : (i t : ℕ) (o : Option ℕ) (a : Act) → kind_rank a ≡ i → ticket_of a ≡ t → mail_of a ≡ 0 → IsOne i t 0 (at_host o a)
at_one i t None a e f m = record { rising = tt; each = tt }
at_one i t (Some h) a e f m = record { rising = (tt, tt); each = ((e, f, m), tt) }

none_of : (i t k : ℕ) → IsOne i t k []
none_of i t k = record { rising = tt; each = tt }

-- all of one kind, in order
record IsPart (i : ℕ) (cs : List Choice) : Type 0 where
  rising : Rising Order cs
  each : AllByRecursion (OfKind i) cs

module _ {A F R J : Type 0} (sys : Actors A F R J) (s : State A F R J) (hosts : ℕ) where
  status_part : (i : ℕ) (f : ℕ → Status → List Choice) → ((t : ℕ) (u : Status) → IsOne i t 0 (f t u)) → IsPart i (by_status s f)
  status_part i f one = (let r = flat_from Order (OfTicket i) (λ t. by_event (s.cells t).event (λ e. f t e.status)) (λ t. rise t (s.cells t).event) (λ t. kinds t (s.cells t).event) (by_tickets i) s.admitted (suc s.before) in
      record { rising = r.0; each = all_with (FromOn (OfTicket i) (suc s.before)) (OfKind i) (by_status s f) (λ c u. u.is.0) r.1 })
    where
      rise : (t : ℕ) (o : Option (Event A)) → Rising Order (by_event o (λ e. f t e.status))
      rise t None = tt
      rise t (Some e) = (one t e.status).rising

      kinds : (t : ℕ) (o : Option (Event A)) → AllByRecursion (OfTicket i t) (by_event o (λ e. f t e.status))
      kinds t None = tt
      kinds t (Some e) = all_with (OfMail i t 0) (OfTicket i t) (f t e.status) (λ c u. (u.0, u.1)) (one t e.status).each

  mail_part : (i : ℕ) (f : ℕ → ℕ → Mail F → List Choice) → ((t k : ℕ) (m : Mail F) → IsOne i t k (f t k m)) → IsPart i (by_mails s f)
  mail_part i f one = (let r = flat_from Order (OfTicket i) (λ t. by_event (s.cells t).event (λ e. flat_map (λ k. by_mail ((s.cells t).mails k) (f t k)) (tickets_from 1 e.sent))) (λ t. rise t (s.cells t).event) (λ t. kinds t (s.cells t).event) (by_tickets i) s.admitted (suc s.before) in
      record { rising = r.0; each = all_with (FromOn (OfTicket i) (suc s.before)) (OfKind i) (by_mails s f) (λ c u. u.is.0) r.1 })
    where
      inner : (t : ℕ) (o : ℕ → Option (Mail F)) (n : ℕ) → Rising Order (flat_map (λ k. by_mail (o k) (f t k)) (tickets_from 1 n)) × AllByRecursion (FromOn (OfMail i t) 1) (flat_map (λ k. by_mail (o k) (f t k)) (tickets_from 1 n))
      inner t o n = flat_from Order (OfMail i t) (λ k. by_mail (o k) (f t k)) (λ k. one_rise k (o k)) (λ k. one_kind k (o k)) (by_numbers i t) n 1
        where
          one_rise : (k : ℕ) (m : Option (Mail F)) → Rising Order (by_mail m (f t k))
          one_rise k None = tt
          one_rise k (Some m) = (one t k m).rising

          one_kind : (k : ℕ) (m : Option (Mail F)) → AllByRecursion (OfMail i t k) (by_mail m (f t k))
          one_kind k None = tt
          one_kind k (Some m) = (one t k m).each

      rise : (t : ℕ) (o : Option (Event A)) → Rising Order (by_event o (λ e. flat_map (λ k. by_mail ((s.cells t).mails k) (f t k)) (tickets_from 1 e.sent)))
      rise t None = tt
      rise t (Some e) = (inner t (s.cells t).mails e.sent).0

      kinds : (t : ℕ) (o : Option (Event A)) → AllByRecursion (OfTicket i t) (by_event o (λ e. flat_map (λ k. by_mail ((s.cells t).mails k) (f t k)) (tickets_from 1 e.sent)))
      kinds t None = tt
      kinds t (Some e) = all_with (FromOn (OfMail i t) 1) (OfTicket i t) (flat_map (λ k. by_mail ((s.cells t).mails k) (f t k)) (tickets_from 1 e.sent)) (λ c u. (u.is.0, u.is.1)) (inner t (s.cells t).mails e.sent).1

  -- up to a kind, and past one
  abbrev InSpan : ℕ → ℕ → Choice → Type 0
  InSpan a c x = (a ≤ kind_rank x.act) × (kind_rank x.act ≤ c)

  record IsRun (a c : ℕ) (cs : List Choice) : Type 0 where
    rising : Rising Order cs
    each : AllByRecursion (InSpan a c) cs

  part_run : (i : ℕ) (cs : List Choice) → IsPart i cs → IsRun i i cs
  part_run i cs p = record { rising = p.rising; each = all_with (OfKind i) (InSpan i i) cs (λ x e. (subst (λ j. i ≤ j) (sym e) (upto i), subst (λ j. j ≤ i) (sym e) (upto i))) p.each }
    where
      upto : (a : ℕ) → a ≤ a
      upto a = omega arith

  join : (a c d e : ℕ) (xs ys : List Choice) → c < d → a ≤ c → d ≤ e → IsRun a c xs → IsRun d e ys → IsRun a e (xs ++ ys)
  join a c d e xs ys l m n x y = record {
    rising = rising_append Order xs ys x.rising y.rising (cross (InSpan a c) (InSpan d e) Order xs ys x.each y.each (λ u v p q. inl (between _ _ _ _ p.1 l q.0)));
    each = all_append (InSpan a e) xs ys (all_with (InSpan a c) (InSpan a e) xs (λ u p. (p.0, far _ _ _ _ p.1 l n)) x.each) (all_with (InSpan d e) (InSpan a e) ys (λ u p. (near _ _ _ _ m l p.0, p.1)) y.each);
  }
    where
      between : (i c d j : ℕ) → i ≤ c → c < d → d ≤ j → i < j
      between i c d j l m n = omega (arith, l, m, n)

      far : (i c d e : ℕ) → i ≤ c → c < d → d ≤ e → i ≤ e
      far i c d e l m n = omega (arith, l, m, n)

      near : (a c d j : ℕ) → a ≤ c → c < d → d ≤ j → a ≤ j
      near a c d j l m n = omega (arith, l, m, n)

  mails : (i : ℕ) (act : ℕ → ℕ → Path → Act) → ((t k : ℕ) (p : Path) → kind_rank (act t k p) ≡ i) → ((t k : ℕ) (p : Path) → ticket_of (act t k p) ≡ t) → ((t k : ℕ) (p : Path) → mail_of (act t k p) ≡ k) → IsRun i i (by_mails s (mail_act act))
  mails i act e f g = part_run i _ (mail_part i (mail_act act) (λ t k m. record { rising = (tt, tt); each = ((e t k m.path, f t k m.path, g t k m.path), tt) }))

  grants_one : (t : ℕ) (u : Status) → IsOne 2 t 0 (grants_of s hosts t u)
  grants_one t (Waiting p) = at_one 2 t (place s hosts p) (Grant t p) refl refl refl
  grants_one t (Ready p) = none_of 2 t 0
  grants_one t (Running p) = none_of 2 t 0
  grants_one t Travelling = none_of 2 t 0
  grants_one t Ended = none_of 2 t 0

  starts_one : (t : ℕ) (u : Status) → IsOne 4 t 0 (starts_of s hosts t u)
  starts_one t (Ready p) = at_one 4 t (place s hosts p) (Start t p) refl refl refl
  starts_one t (Waiting p) = none_of 4 t 0
  starts_one t (Running p) = none_of 4 t 0
  starts_one t Travelling = none_of 4 t 0
  starts_one t Ended = none_of 4 t 0

  stops_one : (t : ℕ) (u : Status) → IsOne 5 t 0 (stops_of s hosts t u)
  stops_one t (Running p) = at_one 5 t (place s hosts p) (Stop t p) refl refl refl
  stops_one t (Ready p) = none_of 5 t 0
  stops_one t (Waiting p) = none_of 5 t 0
  stops_one t Travelling = none_of 5 t 0
  stops_one t Ended = none_of 5 t 0

  passes_one : (t k : ℕ) (m : Mail F) → IsOne 7 t k (passes_of s t k m)
  passes_one t k m = by ((s.columns m.path).gone m.host)
    where
      by : (o : Option Mark) → IsOne 7 t k (to_mark o (λ g. Pass t k m.path g) m.host)
      by None = none_of 7 t k
      by (Some g) = record { rising = (tt, tt); each = ((refl, refl, refl), tt) }

  single : (i : ℕ) (c : Choice) → kind_rank c.act ≡ i → IsRun i i (c ∷ [])
  single i c e = part_run i (c ∷ []) (record { rising = (tt, tt); each = (e, tt) })

  early_run : IsRun 0 4 (early s hosts)
  early_run = (join 0 0 1 4 (record { host = 0; act = Admit (next_ticket s) } ∷ []) _ (omega arith) (omega arith) (omega arith) (single 0 _ refl)
      (join 1 3 4 4 _ _ (omega arith) (omega arith) (omega arith) (join 1 2 3 3 _ _ (omega arith) (omega arith) (omega arith) (join 1 1 2 2 _ _ (omega arith) (omega arith) (omega arith) (mails 1 (λ t k p. Queue t k p) (λ t k p. refl) (λ t k p. refl) (λ t k p. refl)) (part_run 2 _ (status_part 2 (grants_of s hosts) grants_one)))
      (mails 3 (λ t k p. Labels.Visit t k p) (λ t k p. refl) (λ t k p. refl) (λ t k p. refl))) (part_run 4 _ (status_part 4 (starts_of s hosts) starts_one))))

  late_run : IsRun 6 9 (late s)
  late_run = (join 6 8 9 9 _ _ (omega arith) (omega arith) (omega arith) (join 6 7 8 8 _ _ (omega arith) (omega arith) (omega arith) (join 6 6 7 7 _ _ (omega arith) (omega arith) (omega arith) (mails 6 (λ t k p. Free t k p) (λ t k p. refl) (λ t k p. refl) (λ t k p. refl)) (part_run 7 _ (mail_part 7 (passes_of s) passes_one)))
      (mails 8 (λ t k p. Land t k p) (λ t k p. refl) (λ t k p. refl) (λ t k p. refl))) (single 9 (record { host = 0; act = Commit (suc (s.before + s.head.done)) }) refl))

  abbrev LabelOrder : Label → Label → Type 0
  LabelOrder l m = Before l.act m.act

  abbrev LabelSpan : ℕ → ℕ → Label → Type 0
  LabelSpan a c x = (a ≤ kind_rank x.act) × (kind_rank x.act ≤ c)

  record IsLabels (a c : ℕ) (ls : List Label) : Type 0 where
    rising : Rising LabelOrder ls
    each : AllByRecursion (LabelSpan a c) ls

  join_labels : (a c d e : ℕ) (xs ys : List Label) → c < d → a ≤ c → d ≤ e → IsLabels a c xs → IsLabels d e ys → IsLabels a e (xs ++ ys)
  join_labels a c d e xs ys l m n x y = record {
    rising = rising_append LabelOrder xs ys x.rising y.rising (cross (LabelSpan a c) (LabelSpan d e) LabelOrder xs ys x.each y.each (λ u v p q. inl (between _ _ _ _ p.1 l q.0)));
    each = all_append (LabelSpan a e) xs ys (all_with (LabelSpan a c) (LabelSpan a e) xs (λ u p. (p.0, far _ _ _ _ p.1 l n)) x.each) (all_with (LabelSpan d e) (LabelSpan a e) ys (λ u p. (near _ _ _ _ m l p.0, p.1)) y.each);
  }
    where
      between : (i c d j : ℕ) → i ≤ c → c < d → d ≤ j → i < j
      between i c d j l m n = omega (arith, l, m, n)

      far : (i c d e : ℕ) → i ≤ c → c < d → d ≤ e → i ≤ e
      far i c d e l m n = omega (arith, l, m, n)

      near : (a c d j : ℕ) → a ≤ c → c < d → d ≤ j → a ≤ j
      near a c d j l m n = omega (arith, l, m, n)

  abbrev OfLabels : ℕ → Label → Bool
  OfLabels workers l = is_some (step sys workers s l)

  module _ (workers : ℕ) where
    taken_labels_by : (a c v : ℕ) (cs : List Choice) → IsRun a c cs → IsLabels a c (takes sys workers s v cs)
    taken_labels_by a c v cs x = record {
      rising = rising_filter LabelOrder (OfLabels workers) (map (taken_as v) cs) (rising_map LabelOrder (taken_as v) cs x.rising);
      each = all_filter (LabelSpan a c) (OfLabels workers) (map (taken_as v) cs) (all_map (LabelSpan a c) (taken_as v) cs x.each);
    }

    -- of one worker, in the order of all
    pub sorted_for : (v : ℕ) → Rising LabelOrder (enabled_for sys workers hosts s v)
    unfolding enabled_for
    sorted_for v = (taken_labels_by 0 9 v (early s hosts ++ stops s hosts ++ late s) (join 0 5 6 9 _ _ (omega arith) (omega arith) (omega arith) (join 0 4 5 5 _ _ (omega arith) (omega arith) (omega arith) early_run (part_run 5 _ (status_part 5 (stops_of s hosts) stops_one))) late_run)).rising

  module _ (workers : ℕ) (one_worker : (t v u : ℕ) (p : Path) → runs_it (s.hands v) t p ≡ true → runs_it (s.hands u) t p ≡ true → v ≡ u) where
    taken_labels : (a c : ℕ) (o : Option ℕ) (cs : List Choice) → IsRun a c cs → IsLabels a c (taken_by sys workers s o cs)
    taken_labels a c None cs x = record { rising = tt; each = tt }
    taken_labels a c (Some v) cs x = taken_labels_by workers a c v cs x

    -- one worker at most runs it
    stop_one : (c : Choice) → Rising LabelOrder (stop_by sys workers s c)
    stop_one c = rising_filter LabelOrder (λ l. is_some (step sys workers s l)) (map (λ w. taken_as w c) (filter (λ w. runs_it (s.hands w) (ticket_of c.act) (path_of c.act)) (below workers))) (by (any (below workers)))
      where
        any : (ws : List ℕ) → ((v : ℕ) × (runs_it (s.hands v) (ticket_of c.act) (path_of c.act) ≡ true)) ⊎ (filter (λ w. runs_it (s.hands w) (ticket_of c.act) (path_of c.act)) ws ≡ [])
        any [] = inr refl
        any (v ∷ ws) = elim (bool_cases (runs_it (s.hands v) (ticket_of c.act) (path_of c.act))) [
          | inl e ↦ inl (v, e)
          | inr e ↦ elim (any ws) [
            | inl r ↦ inl r
            | inr r ↦ inr (ap (λ j. cond j (v ∷ filter (λ w. runs_it (s.hands w) (ticket_of c.act) (path_of c.act)) ws) (filter (λ w. runs_it (s.hands w) (ticket_of c.act) (path_of c.act)) ws)) e ∙ r)
          ]
        ]

        by : ((v : ℕ) × (runs_it (s.hands v) (ticket_of c.act) (path_of c.act) ≡ true)) ⊎ (filter (λ w. runs_it (s.hands w) (ticket_of c.act) (path_of c.act)) (below workers) ≡ []) →
            Rising LabelOrder (map (λ w. taken_as w c) (filter (λ w. runs_it (s.hands w) (ticket_of c.act) (path_of c.act)) (below workers)))
        by (inl v) = one_only LabelOrder (λ w. taken_as w c) (λ w. runs_it (s.hands w) (ticket_of c.act) (path_of c.act)) v.0 (λ u e. one_worker (ticket_of c.act) u v.0 (path_of c.act) e v.1) workers 0
        by (inr e) = subst (λ xs. Rising LabelOrder (map (λ w. taken_as w c) xs)) (sym e) tt

    stop_acts : (c : Choice) → AllByRecursion (λ (x : Label). x.act ≡ c.act) (stop_by sys workers s c)
    stop_acts c = all_filter (λ (x : Label). x.act ≡ c.act) (λ l. is_some (step sys workers s l)) (map (λ w. taken_as w c) (filter (λ w. runs_it (s.hands w) (ticket_of c.act) (path_of c.act)) (below workers))) (all_map (λ (x : Label). x.act ≡ c.act) (λ w. taken_as w c) (filter (λ w. runs_it (s.hands w) (ticket_of c.act) (path_of c.act)) (below workers)) (same (filter (λ w. runs_it (s.hands w) (ticket_of c.act) (path_of c.act)) (below workers))))
      where
        same : (ws : List ℕ) → AllByRecursion (λ w. c.act ≡ c.act) ws
        same [] = tt
        same (v ∷ ws) = (refl, same ws)

    stops_rise : (cs : List Choice) → Rising Order cs → Rising LabelOrder (flat_map (stop_by sys workers s) cs)
    stops_rise [] h = tt
    stops_rise (c ∷ cs) h = rising_append LabelOrder (stop_by sys workers s c) (flat_map (stop_by sys workers s) cs) (stop_one c) (stops_rise cs h.1)
        (cross (λ (x : Label). x.act ≡ c.act) (λ (x : Label). Before c.act x.act) LabelOrder (stop_by sys workers s c) (flat_map (stop_by sys workers s) cs) (stop_acts c) (all_flat (Order c) (λ (x : Label). Before c.act x.act) (stop_by sys workers s) cs h.0 (λ d o. all_with (λ (x : Label). x.act ≡ d.act) (λ (x : Label). Before c.act x.act) (stop_by sys workers s d) (λ x e. subst (Before c.act) (sym e) o) (stop_acts d))) (λ x y e q. subst (λ a. Before a y.act) (sym e) q))

    pub sorted : Rising (λ (l m : Label). Before l.act m.act) (enabled_labels sys workers hosts s)
    unfolding enabled_labels
    sorted = (join_labels 0 5 6 9 _ _ (omega arith) (omega arith) (omega arith) (join_labels 0 4 5 5 _ _ (omega arith) (omega arith) (omega arith) (taken_labels 0 4 (idle_in s.hands (below workers)) (early s hosts) early_run) stop_labels) (taken_labels 6 9 (idle_in s.hands (below workers)) (late s) late_run)).rising
      where
        part : IsPart 5 (by_status s (stops_of s hosts))
        part = status_part 5 (stops_of s hosts) stops_one

        stop_labels : IsLabels 5 5 (flat_map (stop_by sys workers s) (by_status s (stops_of s hosts)))
        stop_labels = record {
          rising = stops_rise (by_status s (stops_of s hosts)) part.rising;
          each = all_flat (OfKind 5) (LabelSpan 5 5) (stop_by sys workers s) (by_status s (stops_of s hosts)) part.each (λ c e. all_with (λ (x : Label). x.act ≡ c.act) (LabelSpan 5 5) (stop_by sys workers s c) (λ x f. (subst (λ i. 5 ≤ i) (sym (ap kind_rank f ∙ e)) (omega arith), subst (λ i. i ≤ 5) (sym (ap kind_rank f ∙ e)) (omega arith))) (stop_acts c));
        }

module _ {A F R J : Type 0} (kind : Kind A F R J) (owes : Owes kind) (b : Begin F) (batches : List (List J)) (begins : IsBegin kind b) (jobs : All (All kind.is_job) batches) where
  pub in_order : (s : State A F R J) → Good_state kind owes b batches begins jobs s → (workers : ℕ) → Sorted kind workers b batches s
  in_order s k workers = sorted kind.system s kind.hosts workers (λ t v u p e f. by t v u p (s.hands v) (s.hands u) refl refl e f)
    where
      by : (t v u : ℕ) (p : Path) (o q : Option (Hand A F)) → s.hands v ≡ o → s.hands u ≡ q → runs_it o t p ≡ true → runs_it q t p ≡ true → v ≡ u
      by t v u p None q x y e f = absurd (clash false e refl)
      by t v u p (Some h) None x y e f = absurd (clash false f refl)
      by t v u p (Some h) (Some i) x y e f = (k.shows.hands v h x).worker ∙ ap (k.ghost).worker (number_is h.ticket t (and_first _ _ e) ∙ sym (number_is i.ticket t (and_first _ _ f))) ∙ sym (k.shows.hands u i y).worker

  pub in_order_for : (s : State A F R J) (workers worker : ℕ) → Rising (λ (l m : Label). Before l.act m.act) (enabled_for kind.system workers kind.hosts s worker)
  in_order_for s workers worker = sorted_for kind.system s kind.hosts workers worker
