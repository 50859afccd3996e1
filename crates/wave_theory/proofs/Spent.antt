-- No label has a ticket hold a context twice, and what each spends of what its event holds.
use Rattle.std.proofs.Common.{◌≡◌, ℕ, suc, ◌+◌, ◌<◌, ◌≤◌, ◌⊎◌, ◌==◌, ◌&&◌, ◌||◌, not, inl, inr, nat_eq, Bool, true, false, Option, Some, None, is_some, List, [], ◌∷◌, ◌++◌, length, refl, sym, ◌∙◌, ap, ap₂, subst, arith}
use Rattle.std.specs.Prelude.{cond, All}
use Rattle.std.specs.BTreeMap.{insert_entry}
use Rattle.std.specs.Ordering.{match_ordering}
use Rattle.std.specs.declared.cmp.Ordering.TheVariants.{Less, Equal, Greater}
use Rattle.wave_base.specs.declared.path.Path.{Path}
use Rattle.wave_base.specs.Paths.{path_eq, path_cmp}
use Rattle.std.proofs.Common.{is_eq}
use Rattle.wave_base.specs.PathLaws.{path_eq_ties}
use Rattle.wave_states.specs.States.{State, Column, Claim, Entry, Event, Hand, Hold, Letter, Enter, Transfer, Mail, Ask, Travelling, Ended, set, hold_at}
use Rattle.wave_states.specs.Labels.{Act, Admit, Queue, Grant, Start, Stop, Free, Pass, Land, Commit, ticket_of, path_of, is_local}
use Rattle.wave_states.specs.Labels
use Rattle.wave_states.specs.Steps.{Part, Bench, Route, Deliver, Born, Wait, Forward, act_bench, with_hand, stop, part_of, others, with_entry, entry_for, route, after_admit}
use Rattle.wave_states.specs.Begins.{Begin}
use Rattle.wave_states.specs.Kinds.{Kind}
use Rattle.wave_states.specs.Owes.{Owes, IsBegin}
use Rattle.wave_theory.proofs.Basics.{clash, some_same, none_not, some_not, bool_cases, number_cases, number_is, path_is, path_self, set_at, set_there, and_first, and_second, map_some, if_some}
use Rattle.wave_theory.proofs.Order.{Way, IsWay, Stage, Lined, Done, is_pending, here}
use Rattle.wave_theory.proofs.Leaves.{Course, IsCourse}
use Rattle.wave_theory.proofs.Found.{found}
use Rattle.wave_theory.proofs.Opened.{queues, grants, starts, frees, passes, lands, stopping}
use Rattle.wave_theory.proofs.Opened
use Rattle.wave_theory.proofs.Outcome.{Outcome, outcome}
use Rattle.wave_theory.proofs.Held.{hold_cons, none_some}
use Rattle.wave_theory.proofs.Stopping
use Rattle.wave_theory.proofs.Deeds.{Deed, Suits}
use Rattle.wave_theory.proofs.Deeds
use Rattle.wave_theory.proofs.Forms.{grant_form, stop_form, ends_segment}
use Rattle.wave_theory.proofs.Courses
use Rattle.wave_theory.proofs.Shows
use Rattle.wave_theory.proofs.GoodStates.{Good_state}
use Rattle.wave_theory.specs.Numbers.{HasEntry}
use Rattle.wave_theory.proofs.Frames.{option_none}

-- each ticket once
abbrev pub OnceIn : List Claim → Type 0
OnceIn [] = Unit {0}
OnceIn (c ∷ cs) = (Shows.holds_claim cs c.ticket ≡ false) × OnceIn cs

claim_others : (t u : ℕ) (hs : List Claim) → Shows.holds_claim hs u ≡ false → Shows.holds_claim (others t hs) u ≡ false
claim_others t u [] e = refl
claim_others t u (c ∷ hs) e = elim (bool_cases (nat_eq c.ticket t)) [
  | inl z ↦ rw z (claim_others t u hs (or_second (nat_eq c.ticket u) _ e))
  | inr z ↦ rw z (or_none _ _ (or_first (nat_eq c.ticket u) _ e) (claim_others t u hs (or_second (nat_eq c.ticket u) _ e)))
]
  where
    or_first : (a b : Bool) → (a || b) ≡ false → a ≡ false
    or_first a b e = grind arith

    or_second : (a b : Bool) → (a || b) ≡ false → b ≡ false
    or_second a b e = grind arith

    or_none : (a b : Bool) → a ≡ false → b ≡ false → (a || b) ≡ false
    or_none a b e f = grind arith

once_others : (t : ℕ) (hs : List Claim) → OnceIn hs → OnceIn (others t hs)
once_others t [] o = tt
once_others t (c ∷ hs) o = elim (bool_cases (nat_eq c.ticket t)) [
  | inl z ↦ rw z (once_others t hs o.1)
  | inr z ↦ rw z (claim_others t c.ticket hs o.0, once_others t hs o.1)
]

once_more : (hs : List Claim) (c : Claim) → OnceIn hs → Shows.holds_claim hs c.ticket ≡ false → OnceIn (hs ++ c ∷ [])
once_more [] c o e = (refl, tt)
once_more (d ∷ hs) c o e = (Rattle.wave_theory.proofs.Found.claims_append hs c d.ticket ∙ or_none _ _ o.0 (number_swap d.ticket c.ticket (or_first _ (Shows.holds_claim hs c.ticket) e)), once_more hs c o.1 (or_second (nat_eq d.ticket c.ticket) _ e))
  where
    or_first : (a b : Bool) → (a || b) ≡ false → a ≡ false
    or_first a b e = grind arith

    or_second : (a b : Bool) → (a || b) ≡ false → b ≡ false
    or_second a b e = grind arith

    or_none : (a b : Bool) → a ≡ false → b ≡ false → (a || b) ≡ false
    or_none a b e f = grind arith

    number_swap : (a b : ℕ) → nat_eq a b ≡ false → nat_eq b a ≡ false
    number_swap a b e = Rattle.wave_theory.proofs.Basics.differ b a (λ z. Rattle.wave_theory.proofs.Basics.not_same a b e (sym z))

length_insert : (held : List (Path × Hold)) (p : Path) (v : Hold) → hold_at held p ≡ None → length (insert_entry path_cmp held p v) ≡ suc (length held)
length_insert [] p v n = refl
length_insert (x ∷ xs) p v n =
    elim (path_cmp p x.0) as (λ r. path_cmp p x.0 ≡ r → length (match_ordering r ((p, v) ∷ x ∷ xs) ((x.0, v) ∷ xs) (x ∷ insert_entry path_cmp xs p v)) ≡ suc (suc (length xs))) [
      | Less ↦ λ e. refl
      | Equal ↦ λ e. absurd (some_not (sym (ap (λ b. cond b (Some x.1) (hold_at xs p)) (equal e)) ∙ sym (hold_cons x xs p) ∙ n))
      | Greater ↦ λ e. ap suc (length_insert xs p v (none_some (path_eq p x.0) x.1 (hold_at xs p) (sym (hold_cons x xs p) ∙ n)).1)
    ] refl
  where
    equal : path_cmp p x.0 ≡ Equal → path_eq p x.0 ≡ true
    equal e = path_eq_ties p x.0 ∙ ap is_eq e

-- what a label does to the mails that its event sent and to what it holds
abbrev pub Spends : {A : Type 0} → Act → Event A → Event A → Type 0
Spends (Stop t p) e e' = ((e'.status ≡ Travelling) × (e'.sent + length e'.held ≡ suc (e.sent + length e.held))) ⊎ ((e'.status ≡ Ended) × (e'.sent + length e'.held ≡ e.sent + length e.held))
Spends (Grant t p) e e' = (e'.sent + length e'.held ≡ suc (e.sent + length e.held))
Spends _ e e' = (e'.sent + length e'.held ≡ e.sent + length e.held)

-- a deed of neither a Grant nor a Stop
abbrev pub is_plain : Deed → Bool
is_plain Deeds.Lines_up = true
is_plain Deeds.Arrives = true
is_plain Deeds.Rests = true
is_plain Deeds.Lands = true
is_plain Deeds.Lets_in = false
is_plain Deeds.Admits = false
is_plain Deeds.Goes_on = false
is_plain Deeds.Ends = false
is_plain (Deeds.Goes_in s r) = false
is_plain (Deeds.Moves to) = false

pub plain : {A : Type 0} (a : Act) (d : Deed) → is_plain d ≡ true → Suits a d → (u u' : Event A) → Spends a u u' → u'.sent + length u'.held ≡ u.sent + length u.held
plain (Admit t) d e s u u' sp = sp
plain (Queue t k p) d e s u u' sp = sp
plain (Labels.Visit t k p) d e s u u' sp = sp
plain (Start t p) d e s u u' sp = sp
plain (Free t k p) d e s u u' sp = sp
plain (Pass t k p to) d e s u u' sp = sp
plain (Land t k p) d e s u u' sp = sp
plain (Commit t) d e s u u' sp = sp
plain (Grant t p) d e s u u' sp = absurd (off d e s)
  where
    off : (d : Deed) → is_plain d ≡ true → Suits (Grant t p) d → ⊥
    off Deeds.Lets_in e s = clash false e refl
    off Deeds.Admits e s = s
    off Deeds.Lines_up e s = s
    off Deeds.Arrives e s = s
    off Deeds.Rests e s = s
    off Deeds.Lands e s = s
    off Deeds.Goes_on e s = s
    off Deeds.Ends e s = s
    off (Deeds.Goes_in st r) e s = s
    off (Deeds.Moves to) e s = s
plain (Stop t p) d e s u u' sp = absurd (off d e s)
  where
    off : (d : Deed) → is_plain d ≡ true → Suits (Stop t p) d → ⊥
    off Deeds.Goes_on e s = clash false e refl
    off Deeds.Ends e s = clash false e refl
    off (Deeds.Goes_in st r) e s = clash false e refl
    off (Deeds.Moves to) e s = clash false e refl
    off Deeds.Admits e s = s
    off Deeds.Lines_up e s = s
    off Deeds.Lets_in e s = s
    off Deeds.Arrives e s = s
    off Deeds.Rests e s = s
    off Deeds.Lands e s = s

pub granting : {A : Type 0} (a : Act) → Suits a Deeds.Lets_in → (u u' : Event A) → Spends a u u' → u'.sent + length u'.held ≡ suc (u.sent + length u.held)
granting a s u u' sp = (let q = grant_form a s in subst (λ b. Spends b u u') q.2 sp)

-- a Stop after which it goes on, and one after which it is over
pub going : {A : Type 0} (v : Stage) (a : Act) (d : Deed) → ends_segment d ≡ true → Suits a d → (u u' : Event A) → Spends a u u' → (q : Bool) × (r : Path) × Shows.StatusShows u'.status v q r → ((q : Bool) (r : Path) → Shows.StatusShows Ended v q r → ⊥) → u'.sent + length u'.held ≡ suc (u.sent + length u.held)
going v a d e s u u' sp x not_end = (let f = stop_form a d e s in by (subst (λ b. Spends b u u') f.2 sp))
  where
    by : ((u'.status ≡ Travelling) × (u'.sent + length u'.held ≡ suc (u.sent + length u.held))) ⊎ ((u'.status ≡ Ended) × (u'.sent + length u'.held ≡ u.sent + length u.held)) → u'.sent + length u'.held ≡ suc (u.sent + length u.held)
    by (inl z) = z.1
    by (inr z) = absurd (not_end x.0 x.1 (subst (λ i. Shows.StatusShows i v x.0 x.1) z.0 x.2))

pub over : {A : Type 0} (a : Act) (d : Deed) → ends_segment d ≡ true → Suits a d → (u u' : Event A) → Spends a u u' → (q : Bool) × (r : Path) × Shows.StatusShows u'.status Done q r → u'.sent + length u'.held ≡ u.sent + length u.held
over a d e s u u' sp x = (let f = stop_form a d e s in by (subst (λ b. Spends b u u') f.2 sp))
  where
    by : ((u'.status ≡ Travelling) × (u'.sent + length u'.held ≡ suc (u.sent + length u.held))) ⊎ ((u'.status ≡ Ended) × (u'.sent + length u'.held ≡ u.sent + length u.held)) → u'.sent + length u'.held ≡ u.sent + length u.held
    by (inr z) = z.1
    by (inl z) = absurd (travels (subst (λ i. Shows.StatusShows i Done x.0 x.1) z.0 x.2))
      where
        travels : Shows.StatusShows Travelling Done x.0 x.1 → ⊥
        travels z = z

module _ {A F R J : Type 0} (kind : Kind A F R J) (owes : Owes kind) (b : Begin F) (batches : List (List J)) (begins : IsBegin kind b) (jobs : All (All kind.is_job) batches) where
  abbrev pub w : Way
  w = Courses.w kind owes b batches begins jobs

  abbrev course : Course kind.system
  course = Courses.course kind owes b batches begins jobs

  abbrev Is_real : ℕ → Type 0
  Is_real = Courses.Real kind owes b batches begins jobs

  pub law : IsWay w
  law = Courses.law kind owes b batches begins jobs

  courses : IsCourse kind.system w course b.before Is_real
  courses = Courses.courses kind owes b batches begins jobs

  abbrev pub Single : State A F R J → Type 0
  Single s = (p : Path) (en : Entry F) → HasEntry s p en → OnceIn en.holders

  module _ (s : State A F R J) (k : Good_state kind owes b batches begins jobs s) where
    x : Shows.Shows kind.system w course b.before Is_real s k.ghost
    x = k.shows

    -- what a label leaves of its cell and its column
    pub record Leaves (a : Act) (y : Bench A F R) : Type 0 where
      pub mails : Single s → (i : ℕ) (m : Mail F) (e : Entry F) → y.part.cell.mails i ≡ Some m → m.letter ≡ Transfer e → ((s.cells (ticket_of a)).mails i ≡ Some m) ⊎ OnceIn e.holders
      pub store : Single s → (i : ℕ) (e : Entry F) → y.part.column.store i ≡ Some e → ((s.columns (path_of a)).store i ≡ Some e) ⊎ OnceIn e.holders
      pub event : (e' : Event A) → y.part.cell.event ≡ Some e' → (e : Event A) × ((s.cells (ticket_of a)).event ≡ Some e) × Spends a e e'

    in_entry : (c : Column F) (h : ℕ) (u : Entry F) → OnceIn u.holders → (i : ℕ) (e : Entry F) → (with_entry c h (Some u)).store i ≡ Some e → (c.store i ≡ Some e) ⊎ OnceIn e.holders
    in_entry c h u o i e z = elim (number_cases h i) [
      | inr n ↦ inl (sym (set_there nat_eq c.store h (Some u) i n) ∙ z)
      | inl n ↦ inr (subst (λ (v : Entry F). OnceIn v.holders) (some_same _ _ (sym (set_at c.store h (Some u)) ∙ subst (λ j. set nat_eq c.store h (Some u) j ≡ Some e) (sym n) z)) o)
    ]

    cut : (mails : ℕ → Option (Mail F)) (j i : ℕ) (m : Mail F) → set nat_eq mails j None i ≡ Some m → mails i ≡ Some m
    cut mails j i m z = elim (number_cases j i) [
      | inr n ↦ sym (set_there nat_eq mails j None i n) ∙ z
      | inl n ↦ absurd (none_not (sym (set_at mails j None) ∙ subst (λ u. set nat_eq mails j None u ≡ Some m) (sym n) z))
    ]

    calm_is : (o : Option (Part A F R)) (y : Bench A F R) → with_hand None o ≡ Some y → (z : Part A F R) × (o ≡ Some z) × (y ≡ record { part = z; hand = None })
    calm_is o y e = map_some (λ (z : Part A F R). record { part = z; hand = None }) o y e

    no_transfer : (a : Ask) (en : Entry F) → ◌≡◌ {A = Letter F} (Enter a) (Transfer en) → ⊥
    no_transfer a en e = grind arith

    -- a Transfer is not what was passed on
    pub not_passed : (mails : ℕ → Option (Mail F)) (n : ℕ) (d : Mail F) (a : Ask) → d.letter ≡ Enter a → (j : ℕ) (m : Mail F) (u : Entry F) → set nat_eq mails n (Some d) j ≡ Some m → m.letter ≡ Transfer u → mails j ≡ Some m
    not_passed mails n d a i j m u r g = elim (number_cases n j) [
      | inr z ↦ sym (set_there nat_eq mails n (Some d) j z) ∙ r
      | inl z ↦ absurd (no_transfer a u (sym i ∙ ap (λ (v : Mail F). v.letter) (some_same d m (sym (set_at mails n (Some d)) ∙ subst (λ c. set nat_eq mails n (Some d) c ≡ Some m) (sym z) r)) ∙ g))
    ]

    entry_once : Single s → (c : Column F) (p : Path) (h : ℕ) (en : Entry F) → c ≡ s.columns p → (r : Route) → entry_for kind.system p h c r ≡ Some en → OnceIn en.holders
    entry_once o c p h en q Deliver e = o p en (inl (h, ap (λ (u : Column F). u.store h) (sym q) ∙ e))
    entry_once o c p h en q Born e = subst (λ (u : Entry F). OnceIn u.holders) (some_same _ _ e) tt
    entry_once o c p h en q Wait e = absurd (none_not e)
    entry_once o c p h en q (Forward g) e = absurd (none_not e)

    no_sum : (a c : ℕ) → a + suc c ≡ suc (a + c)
    no_sum a c = omega arith

    -- a ticket that is let in doesn't hold the context yet
    module _ (t : ℕ) (p : Path) (h : ℕ) (z : Part A F R) (q : Opened.Grants t p h (part_of s t p) z) where
      waits : Shows.WaitShows kind.system w course b.before Is_real k.ghost p (suc q.entry.served) q.claim
      waits = (x.entries p).waits (suc q.entry.served) q.claim (ap (λ (u : Entry F). u.waiting (suc q.entry.served)) (sym (found kind.system w course b.before Is_real k.ghost p (s.columns p) h q.entry (x.columns p) q.entry_is).entry_is) ∙ q.claim_is)

      not_holder : Shows.holds_claim q.entry.holders q.claim.ticket ≡ false
      not_holder = elim (bool_cases (Shows.holds_claim q.entry.holders q.claim.ticket)) [
        | inr n ↦ n
        | inl n ↦ absurd ((x.good.let_in q.claim.ticket p (sym ((x.entries p).holders q.claim.ticket) ∙ ap (λ (u : Entry F). Shows.holds_claim u.holders q.claim.ticket) (sym (found kind.system w course b.before Is_real k.ghost p (s.columns p) h q.entry (x.columns p) q.entry_is).entry_is) ∙ n)).past (ap is_pending (waits).stage) (waits).place)
      ]

      c : Shows.CellShows kind.system w course b.before Is_real k.ghost t (s.cells t)
      c = x.cells t (subst (λ u. b.before < u) q.ticket_is (waits).later) (subst (λ u. u ≤ (k.ghost).lines.admitted) q.ticket_is (waits).known)

      off : is_some (hold_at (c).event.held p) ≡ false
      off = c.held p ∙ ap₂ (λ i j. w.held t ((k.ghost).lines.pos t) p && not (i && j)) (ap is_pending (subst (λ u. (k.ghost).lines.stage u ≡ Lined) q.ticket_is (waits).stage)) (subst (λ r. path_eq r p ≡ true) (sym (subst (λ u. here w (k.ghost).lines u ≡ p) q.ticket_is (waits).place)) (path_self p)) ∙ and_none _
        where
          and_none : (a : Bool) → (a && false) ≡ false
          and_none a = grind arith

      not_held : hold_at q.event.held p ≡ None
      not_held = subst (λ (u : Event A). hold_at u.held p ≡ None) (some_same _ _ (sym c.event_is ∙ q.event_is)) (option_none _ off)

    pub local : (v h : ℕ) (a : Act) (y : Bench A F R) (hd : Option (Hand A F)) → s.hands v ≡ hd → is_local a ≡ true → act_bench kind.system a h (part_of s (ticket_of a) (path_of a)) hd ≡ Some y → Leaves a y
    local v h (Admit t) y hd i l e = absurd (clash false l refl)
    local v h (Commit t) y hd i l e = absurd (clash false l refl)
    local v h (Queue t n p) y (Some g) i l e = absurd (none_not e)
    local v h (Queue t n p) y None i l e = (let z = calm_is _ y e in let q = queues kind.system t n p h (part_of s t p) z.0 z.1 in
        subst (Leaves (Queue t n p)) (sym z.2) (subst (λ (u : Part A F R). Leaves (Queue t n p) (record { part = u; hand = None })) q.gives (record {
          mails = λ o j m u r g. inl (cut (s.cells t).mails n j m r);
          store = λ o. in_entry (s.columns p) h _ (entry_once o (s.columns p) p h q.entry refl (route (s.columns p) h q.ask.followed) q.entry_is);
          event = λ u r. (q.event, q.event_is, subst (λ (d : Event A). d.sent + length d.held ≡ q.event.sent + length q.event.held) (some_same _ u r) refl);
        })))
    local v h (Grant t p) y (Some g) i l e = absurd (none_not e)
    local v h (Grant t p) y None i l e = (let z = calm_is _ y e in let q = grants t p h (part_of s t p) z.0 z.1 in
        subst (Leaves (Grant t p)) (sym z.2) (subst (λ (u : Part A F R). Leaves (Grant t p) (record { part = u; hand = None })) q.gives (record {
          mails = λ o j m u r g. inl r;
          store = λ o. in_entry (s.columns p) h _ (once_more q.entry.holders q.claim (o p q.entry (inl (h, q.entry_is))) (not_holder t p h z.0 q));
          event = λ u r. (q.event, q.event_is, subst (λ (d : Event A). d.sent + length d.held ≡ suc (q.event.sent + length q.event.held)) (some_same _ u r) (ap (λ n. q.event.sent + n) (length_insert q.event.held p _ (not_held t p h z.0 q)) ∙ no_sum q.event.sent (length q.event.held)));
        })))
    local v h (Labels.Visit t n p) y (Some g) i l e = absurd (none_not e)
    local v h (Labels.Visit t n p) y None i l e = (let z = calm_is _ y e in let q = Opened.visits n p h (part_of s t p) z.0 z.1 in
        subst (Leaves (Labels.Visit t n p)) (sym z.2) (subst (λ (u : Part A F R). Leaves (Labels.Visit t n p) (record { part = u; hand = None })) q.gives (record {
          mails = λ o j m u r g. inl (cut (s.cells t).mails n j m r);
          store = λ o j u r. inl r;
          event = λ u r. (q.event, q.event_is, subst (λ (d : Event A). d.sent + length d.held ≡ q.event.sent + length q.event.held) (some_same _ u r) refl);
        })))
    local v h (Start t p) y (Some g) i l e = absurd (none_not e)
    local v h (Start t p) y None i l e = (let q = starts t p h (part_of s t p) y e in
        subst (Leaves (Start t p)) q.gives (record {
          mails = λ o j m u r g. inl r;
          store = λ o. in_entry (s.columns p) h _ (o p q.entry (inl (h, q.entry_is)));
          event = λ u r. (q.event, q.event_is, subst (λ (d : Event A). d.sent + length d.held ≡ q.event.sent + length q.event.held) (some_same _ u r) refl);
        }))
    local v h (Free t n p) y (Some g) i l e = absurd (none_not e)
    local v h (Free t n p) y None i l e = (let z = calm_is _ y e in let q = frees t n p h (part_of s t p) z.0 z.1 in
        subst (Leaves (Free t n p)) (sym z.2) (subst (λ (u : Part A F R). Leaves (Free t n p) (record { part = u; hand = None })) q.gives (record {
          mails = λ o j m u r g. inl (cut (s.cells t).mails n j m r);
          store = λ o. in_entry (s.columns p) h _ (once_others t q.entry.holders (o p q.entry (inl (h, q.entry_is))));
          event = λ u r. (u, r, refl);
        })))
    local v h (Pass t n p to) y (Some g) i l e = absurd (none_not e)
    local v h (Pass t n p to) y None i l e = (let z = calm_is _ y e in let q = passes n to p h (part_of s t p) z.0 z.1 in
        subst (Leaves (Pass t n p to)) (sym z.2) (subst (λ (u : Part A F R). Leaves (Pass t n p to) (record { part = u; hand = None })) q.gives (record {
          mails = λ o j m u r g. inl (not_passed (s.cells t).mails n (record { host = to; path = p; letter = Enter (record { number = q.ask.number; followed = q.mark.number; peek = q.ask.peek }) }) (record { number = q.ask.number; followed = q.mark.number; peek = q.ask.peek }) refl j m u r g);
          store = λ o j u r. inl r;
          event = λ u r. (u, r, refl);
        })))
    local v h (Land t n p) y (Some g) i l e = absurd (none_not e)
    local v h (Land t n p) y None i l e = (let z = calm_is _ y e in let q = lands n p h (part_of s t p) z.0 z.1 in
        subst (Leaves (Land t n p)) (sym z.2) (subst (λ (u : Part A F R). Leaves (Land t n p) (record { part = u; hand = None })) q.gives (record {
          mails = λ o j m u r g. inl (cut (s.cells t).mails n j m r);
          store = λ o. in_entry (s.columns p) h (Rattle.wave_states.specs.Steps.with_holders q.entry []) tt;
          event = λ u r. (u, r, refl);
        })))
    local v h (Stop t p) y None i l e = absurd (none_not e)
    local v h (Stop t p) y (Some g) i l e = (let j = if_some ((g.ticket == t) && path_eq g.path p) _ y e in
        let et : g.ticket ≡ t = number_is g.ticket t (and_first _ _ j.0) in
        let ep : g.path ≡ p = path_is g.path p (and_second (g.ticket == t) _ j.0) in
        subst (λ u. Leaves (Stop u p) y) et (subst (λ r. Leaves (Stop g.ticket r) y) ep (stop_leaves g i y
        (subst (λ r. with_hand None (stop kind.system r h g (part_of s g.ticket r)) ≡ Some y) (sym ep) (subst (λ u. with_hand None (stop kind.system p h g (part_of s u p)) ≡ Some y) (sym et) j.1)))))
      where
        stop_leaves : (g : Hand A F) → s.hands v ≡ Some g → (y : Bench A F R) → with_hand None (stop kind.system g.path h g (part_of s g.ticket g.path)) ≡ Some y → Leaves (Stop g.ticket g.path) y
        stop_leaves g i y e = (let z = calm_is _ y e in let q = stopping kind.system g.ticket g.path h g (part_of s g.ticket g.path) z.0 z.1 in
            subst (Leaves (Stop g.ticket g.path)) (sym z.2) (by z.0 q (outcome kind.system g.ticket g.path h g (part_of s g.ticket g.path) z.0 q
            (subst (λ (u : Event A). Shows.Once u.held) (sym (Stopping.same kind.system w law course b.before Is_real courses s k.ghost x g v h i z.0 q)) (Stopping.c kind.system w law course b.before Is_real courses s k.ghost x g v h i z.0 q).once)
            (Stopping.held_is kind.system w law course b.before Is_real courses s k.ghost x g v h i z.0 q g.path ∙ Stopping.held_p kind.system w law course b.before Is_real courses s k.ghost x g v h i z.0 q))))
          where
            by : (z : Part A F R) (q : Opened.Stopping kind.system g.ticket g.path h g (part_of s g.ticket g.path) z) → Outcome g.path (part_of s g.ticket g.path) q.event q.entry h z → Leaves (Stop g.ticket g.path) (record { part = z; hand = None })
            by z q o = record {
              mails = λ c j m u r d. elim (o.mails j m r) [ inl a ↦ inl a | inr a ↦ inr (subst OnceIn (sym (a u d)) (c g.path q.entry (inl (h, q.entry_is)))) ];
              store = λ c j u r. elim (o.store j u r) [ inl a ↦ inl a | inr a ↦ inr (subst OnceIn (sym a) (c g.path q.entry (inl (h, q.entry_is)))) ];
              event = λ u r. (q.event, q.event_is, subst (λ (d : Event A). ((d.status ≡ Travelling) × (d.sent + length d.held ≡ suc (q.event.sent + length q.event.held))) ⊎ ((d.status ≡ Ended) × (d.sent + length d.held ≡ q.event.sent + length q.event.held))) (some_same _ u (sym o.after_is ∙ r)) o.goes);
            }
