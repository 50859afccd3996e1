-- A glance: what is gathered of the stores and the mails is what the state has.
use Rattle.std.proofs.Common.{◌≡◌, ◌∙◌, ◌⊎◌, inl, inr, ℕ, zero, suc, ◌+◌, ◌-◌, ◌<◌, ◌≤◌, ◌^◌, ◌||◌, true, List, [], ◌∷◌, length, map, Option, Some, None, is_some, refl, sym, ap, subst, true≢false, arith}
use Rattle.std.specs.FinMap as table
use Rattle.std.specs.Prelude.{slice_get, All}
use Rattle.std.specs.List.{AllByRecursion, list_any}
use Rattle.std.specs.List.Sorted.{IsStrictlySortedBy}
use Rattle.std.specs.Map.{keys_of}
use Rattle.std.specs.Ordering.{nat_cmp}
use Rattle.std.specs.declared.cmp.Ordering.TheVariants.{Less, Equal, Greater}
use Rattle.std.proofs.lemmas.Grind.{common_steps}
use Rattle.std.proofs.lemmas.List.Elements.{All-weaker}
use Rattle.std.proofs.lemmas.Map.Entries.{place_from_lookup}
use Rattle.wave_base.specs.declared.finished.Place.{Place}
use Rattle.wave_base.specs.declared.numbers.Host.{Host}
use Rattle.wave_base.specs.declared.path.Path.{Path}
use Rattle.wave_base.specs.declared.script.Line.{Line}
use Rattle.wave_base.specs.declared.start.Start.{Start}
use Rattle.wave_base.specs.Fold.{Head}
use Rattle.wave_base.specs.Paths.{path_cmp, path_eq}
use Rattle.wave_base.specs.PathLaws.{path_eq_equiv}
use Rattle.context_queue.specs.declared.entry.Entry.{Entry}
use Rattle.context_queue.specs.Entries.{StandsFor}
use Rattle.host_map.specs.Stores.{Stores, Matches, has}
use Rattle.migration_core.specs.declared.mail.Letter.{Letter}
use Rattle.migration_core.specs.declared.mail.Letter.TheVariants as letter
use Rattle.migration_core.specs.Letters.{Says}
use Rattle.event_cells.specs.declared.cell.Cell.{Cell}
use Rattle.event_cells.specs.declared.outbox.Envelope.{Envelope}
use Rattle.event_cells.specs.Cells.{Carries, IsEnvelope}
use Rattle.event_cells.specs.Keeps.{mail_in}
use Rattle.wave_states.specs.Owners.{IsComing, IsOwner}
use Rattle.wave_states.specs.States as theory
use Rattle.wave_theory.specs.Listed.{IsIn}
use Rattle.wave_theory.proofs.Basics.{none_not, options, some_same}
use Rattle.wave_theory.proofs.Paths.{or_left, or_right}
use Rattle.plan_actors.specs.Finishing.{path_of}
use Rattle.plan_actors.specs.PlanActors.{plan_kind}
use Rattle.plan_actors.specs.Plans.{begin_in}
use Rattle.code_actor.specs.CodeActors.{Fields}
use Rattle.wave_effects.specs.declared.actor.Actor.{Actor}
use Rattle.wave_effects.specs.declared.glance.Glance.{Glance}
use Rattle.wave_effects.specs.Glances.{IsGlance}
use Rattle.wave_effects.specs.Machines.{IsCell, Kept, Known, Shows, Stands, TheState}
use Rattle.wave_effects.specs.inner.Endings.{IsThere}
use Rattle.wave_effects.specs.inner.Owned.{IsCarried, IsKeptAt, IsOldOr, IsOwnPlace, IsSent, carried_by, carried_in, with_place}
use Rattle.wave_effects.proofs.Collecting.{all_inserted, insert_keys}
use Rattle.wave_effects.proofs.Ending.{some_at}
use Rattle.wave_effects.proofs.Headings.{Heads}
use Rattle.wave_effects.proofs.Sized.{listable}
use Rattle.wave_effects.proofs.Reached.{has_it, host_is, mailed_is}
use Rattle.wave_effects.proofs.StoreParts.{TheEntry}
use Rattle.wave_effects.proofs.Taking.{Laws, now}

-- ---- lists

pub all_weaker : {X : Type 0} (P Q : X → Type 0) → ((x : X) → P x → Q x) → (xs : List X) → AllByRecursion P xs → AllByRecursion Q xs
all_weaker P Q f [] h = tt
all_weaker P Q f (x ∷ xs) h = (f x h.0, all_weaker P Q f xs h.1)

pub of_all : {X : Type 0} (P : X → Type 0) (xs : List X) (x : X) → AllByRecursion P xs → IsIn xs x → P x
of_all P [] x h e = absurd e
of_all P (y ∷ ys) x h (inl same) = subst P same h.0
of_all P (y ∷ ys) x h (inr e) = of_all P ys x h.1 e

-- ---- one place more

pub all_placed : (P : Path → Host → Type 0) (es : List (Path × Host)) (o : Option Place) → AllByRecursion (λ e. P e.0 e.1) es → ((x : Place) → o ≡ Some x → P x.path x.host) → AllByRecursion (λ e. P e.0 e.1) (with_place es o)
all_placed P es None h new = h
all_placed P es (Some x) h new = all_inserted P x.path x.host es h (new x refl)

pub still_there : (p : Path) (es : List (Path × Host)) (o : Option Place) → list_any (path_eq p) (keys_of es) ≡ true → list_any (path_eq p) (keys_of (with_place es o)) ≡ true
still_there p es None e = e
still_there p es (Some x) e = insert_keys p x.path x.host es ∙ or_right (path_eq p x.path) (list_any (path_eq p) (keys_of es)) e

pub now_there : (p : Path) (h : Host) (es : List (Path × Host)) (o : Option Place) → o ≡ Some (record { path = p; host = h }) → list_any (path_eq p) (keys_of (with_place es o)) ≡ true
now_there p h es o e = subst (λ z. list_any (path_eq p) (keys_of (with_place es z)) ≡ true) (sym e) (insert_keys p p h es ∙ or_left (path_eq p p) (list_any (path_eq p) (keys_of es)) (path_eq_equiv.refl p))

-- ---- the mails of a cell

-- a mail is found by its number
found_mail : (ms : List (ℕ × Envelope)) (j : ℕ) (x : ℕ × Envelope) → IsStrictlySortedBy nat_cmp (keys_of ms) → slice_get ms j ≡ Some x → mail_in ms x.0 ≡ Some x.1
unfolding IsStrictlySortedBy
found_mail [] j x h e = cc
found_mail (m ∷ ms) zero x h e = let same : m ≡ x = cc in subst (λ z. mail_in (m ∷ ms) z.0 ≡ Some z.1) same (first m ms)
  where
    first : (m : ℕ × Envelope) (ms : List (ℕ × Envelope)) → mail_in (m ∷ ms) m.0 ≡ Some m.1
    first m ms = grind (arith, common_steps)
found_mail (m ∷ ms) (suc j) x h e = later m ms x (less ms j h.0 e) (found_mail ms j x h.1 e)
  where
    less : (ys : List (ℕ × Envelope)) (i : ℕ) → AllByRecursion (λ n. nat_cmp m.0 n ≡ Less) (keys_of ys) → slice_get ys i ≡ Some x → nat_cmp m.0 x.0 ≡ Less
    less [] i a f = cc
    less (y ∷ ys) zero a f = let same : y ≡ x = cc in subst (λ (z : ℕ × Envelope). nat_cmp m.0 z.0 ≡ Less) same a.0
    less (y ∷ ys) (suc i) a f = less ys i a.1 f

    later : (m : ℕ × Envelope) (ms : List (ℕ × Envelope)) (x : ℕ × Envelope) → nat_cmp m.0 x.0 ≡ Less → mail_in ms x.0 ≡ Some x.1 → mail_in (m ∷ ms) x.0 ≡ Some x.1
    later m ms x l e = grind (arith, common_steps)

pub all_old : (fs : List (Path × Host)) (ms : List (ℕ × Envelope)) → AllByRecursion (λ e. IsOldOr fs ms e.0 e.1) fs
all_old fs ms = each fs (λ e h. h)
  where
    each : (es : List (Path × Host)) → ((e : Path × Host) → IsIn es e → IsIn fs e) → AllByRecursion (λ e. IsOldOr fs ms e.0 e.1) es
    each [] f = tt
    each (e ∷ es) f = (inl (f e (inl refl)), each es (λ x h. f x (inr h)))

-- what the mail at a place brings is carried
pub is_carried : (ms : List (ℕ × Envelope)) (j : ℕ) (x : ℕ × Envelope) → IsStrictlySortedBy nat_cmp (keys_of ms) → slice_get ms j ≡ Some x → (y : Place) → carried_in x.1 ≡ Some y → IsCarried ms y.path y.host
is_carried ms j x h at y e = record { number = x.0; envelope = x.1; mail = found_mail ms j x h at; brings = e }

-- and what is carried stands at a place
pub carried_at : (ms : List (ℕ × Envelope)) (p : Path) (h : Host) → IsCarried ms p h → (j : ℕ) × (x : ℕ × Envelope) × (slice_get ms j ≡ Some x) × (carried_in x.1 ≡ Some (record { path = p; host = h }))
carried_at ms p h k = let at = place_from_lookup _ ms k.envelope k.mail in (at.0, (at.1, k.envelope), at.2, k.brings)

-- ---- what the state has

same_some : {X : Type 0} (a b : X) → Some a ≡ Some b → a ≡ b
same_some a b e = cc

pub there_is : (o : Option Entry) → is_some o ≡ true → (e : Entry) × (o ≡ Some e)
there_is None e = absurd (true≢false (sym e))
there_is (Some x) e = (x, refl)

-- where the store has an entry, the theory has one
pub matched : (o : Option Entry) (r : Option TheEntry) (e : Entry) → Matches o r → o ≡ Some e → is_some r ≡ true
matched None r e m f = absurd (none_not f)
matched (Some x) None e m f = absurd m
matched (Some x) (Some en) e m f = refl

-- a mail that brings a context is a Transfer of the theory, and the other way round
record Brought (o : Option (theory.Mail Fields)) (p : Path) (host : ℕ) : Type 0 where
  entry : TheEntry
  mail : o ≡ Some (record { host = host; path = p; letter = theory.Transfer entry })

as_mail : (m : theory.Mail Fields) (h : ℕ) (p : Path) (l : theory.Letter Fields) → m.host ≡ h → m.path ≡ p → m.letter ≡ l → Some m ≡ Some (record { host = h; path = p; letter = l })
as_mail m h p l e f g = λ i. Some (record { host = e i; path = f i; letter = g i })

brought_by : (l : Letter) (x : Place) (m : theory.Mail Fields) (p : Path) (h : Host) → Says l m.letter → m.host ≡ x.host.0 → m.path ≡ x.path → carried_by l x ≡ Some (record { path = p; host = h }) → Brought (Some m) p h.0
brought_by (letter.Transfer e) x m p h says host path brings = by_letter m.letter refl says
  where
    is : x ≡ record { path = p; host = h }
    is = same_some x (record { path = p; host = h }) brings

    by_letter : (l : theory.Letter Fields) → m.letter ≡ l → Says (letter.Transfer e) l → Brought (Some m) p h.0
    by_letter (theory.Transfer en) at k = record { entry = en; mail = as_mail m h.0 p (theory.Transfer en) (host ∙ ap (λ (z : Place). z.host.0) is) (path ∙ ap (λ (z : Place). z.path) is) at }
    by_letter (theory.Enter a) at k = absurd k
    by_letter theory.Visit at k = absurd k
    by_letter theory.Back at k = absurd k
    by_letter theory.Release at k = absurd k
brought_by (letter.Enter n f k) x m p h says host path brings = absurd (none_not brings)
brought_by letter.Visit x m p h says host path brings = absurd (none_not brings)
brought_by letter.Back x m p h says host path brings = absurd (none_not brings)
brought_by letter.Release x m p h says host path brings = absurd (none_not brings)

brought : (o : Option Envelope) (r : Option (theory.Mail Fields)) (e : Envelope) (p : Path) (h : Host) → Carries o r → o ≡ Some e → carried_in e ≡ Some (record { path = p; host = h }) → Brought r p h.0
brought None r e p h c at brings = absurd (none_not at)
brought (Some x) None e p h c at brings = absurd c
brought (Some x) (Some m) e p h c at brings =
    let same : x ≡ e = same_some x e at in
    brought_by x.letter (record { path = x.path; host = x.to }) m p h c.letter c.host c.path (ap carried_in same ∙ brings)

-- the mail in a cell that brings it
record Bringing (o : Option Envelope) (p : Path) (host : ℕ) : Type 0 where
  envelope : Envelope
  there : o ≡ Some envelope
  to : envelope.to.0 ≡ host
  brings : carried_in envelope ≡ Some (record { path = p; host = envelope.to })

bringing_by : (x : Envelope) (l : Letter) (en : TheEntry) (p : Path) (host : ℕ) → x.letter ≡ l → Says l (theory.Transfer en) → x.path ≡ p → x.to.0 ≡ host → Bringing (Some x) p host
bringing_by x (letter.Transfer e) en p host at says path to =
    record { envelope = x; there = refl; to = to; brings = (λ i. carried_by (at i) (record { path = x.path; host = x.to })) ∙ (λ i. Some (record { path = path i; host = x.to })) }
bringing_by x (letter.Enter n f k) en p host at says path to = cc
bringing_by x letter.Visit en p host at says path to = cc
bringing_by x letter.Back en p host at says path to = cc
bringing_by x letter.Release en p host at says path to = cc

bringing : (o : Option Envelope) (r : Option (theory.Mail Fields)) (en : TheEntry) (p : Path) (host : ℕ) → Carries o r → r ≡ Some (record { host = host; path = p; letter = theory.Transfer en }) → Bringing o p host
bringing None None en p host c e = absurd (none_not e)
bringing None (Some m) en p host c e = absurd c
bringing (Some x) None en p host c e = absurd c
bringing (Some x) (Some m) en p host c e =
    let same = same_some m (record { host = host; path = p; letter = theory.Transfer en }) e in
    bringing_by x x.letter en p host refl (subst (λ (z : theory.Mail Fields). Says x.letter z.letter) same c.letter) (sym c.path ∙ ap (λ (z : theory.Mail Fields). z.path) same) (sym c.host ∙ ap (λ (z : theory.Mail Fields). z.host) same)

module _ (laws : Laws) (m : Kept) (start : Start) (s : TheState) (stands : Stands m start s) where
  h : Shows m s
  h = stands.shows

  known : Known m.plan start s
  known = now laws m start s stands

  pub stored_owns : (p : Path) (host : Host) → IsThere m.stores p host → IsOwner s p host.0
  stored_owns p host is =
      let found = there_is (table.get is.store.store p) is.has_it in
      inl (matched (table.get is.store.store p) ((s.columns p).store host.0) found.0 (h.stores.each host.0 is.store is.stored p).entry found.1)

  cell_at : (i : ℕ) (c : Cell Actor) → slice_get m.cells i ≡ Some c → IsCell m.plan.program c (s.cells (m.first + i))
  cell_at i c at = h.cells.each i c at

  sent_owns : (p : Path) (host : Host) → IsSent m.cells p host → IsOwner s p host.0
  sent_owns p host is =
      let c = cell_at is.place is.cell is.at in
      let b = brought (mail_in is.cell.outbox.mails is.carried.number) (c.desk.mails is.carried.number) is.carried.envelope p host (c.stands.mails is.carried.number) is.carried.mail is.carried.brings in
      inr (record { ticket = m.first + is.place; number = is.carried.number; entry = b.entry; mail = c.mails is.carried.number ∙ b.mail })

  kept_owns : (x : Place) → IsOwnPlace m.stores m.cells x → IsOwner s x.path x.host.0
  kept_owns x (inl is) = stored_owns x.path x.host is
  kept_owns x (inr is) = sent_owns x.path x.host is

  module _ (places : List Place) (stored : (host : ℕ) (x : Stores) (p : Path) → slice_get m.stores host ≡ Some x → has p x ≡ true → list_any (path_eq p) (map path_of places) ≡ true)
      (sent : (p : Path) (host : Host) → IsSent m.cells p host → list_any (path_eq p) (map path_of places) ≡ true) where
    owner_listed : (p : Path) (host : ℕ) → IsOwner s p host → list_any (path_eq p) (map path_of places) ≡ true
    owner_listed p host (inl on) = by_entry (options ((s.columns p).store host))
      where
        by_entry : ((s.columns p).store host ≡ None) ⊎ ((en : TheEntry) × ((s.columns p).store host ≡ Some en)) → list_any (path_eq p) (map path_of places) ≡ true
        by_entry (inl none) = absurd (true≢false (sym on ∙ ap is_some none))
        by_entry (inr en) =
            let within = host_is (plan_kind m.plan.program m.plan.script.hosts) m.plan.workers (begin_in m.plan start) m.plan.script.batches s known.bounds p host en.0 en.1 in
            let many = h.stores.as_many in
            let x = some_at m.stores host (omega (arith, within, many)) in
            stored host x.0 p x.1 (has_it (table.get x.0.store p) ((s.columns p).store host) en.0 (h.stores.each host x.0 x.1 p).entry en.1)
    owner_listed p host (inr is) =
        let admitted = mailed_is (plan_kind m.plan.program m.plan.script.hosts) m.plan.workers (begin_in m.plan start) m.plan.script.batches s known.bounds is.ticket is.number _ is.mail in
        let i = is.ticket - m.first in
        let first = h.head.before in
        let many = h.cells.as_many in
        let all = h.head.admitted in
        let x = some_at m.cells i (omega (arith, admitted.0, admitted.1, first, many, all)) in
        let at : m.first + i ≡ is.ticket = omega (arith, admitted.0, first) in
        let c = cell_at i x.0 x.1 in
        let b = bringing (mail_in x.0.outbox.mails is.number) (c.desk.mails is.number) is.entry p host (c.stands.mails is.number) (sym (c.mails is.number) ∙ ap (λ t. (s.cells t).mails is.number) at ∙ is.mail) in
        sent p b.envelope.to (record { place = i; cell = x.0; at = x.1; carried = record { number = is.number; envelope = b.envelope; mail = b.there; brings = b.brings } })

    pub glances : (g : Glance) → g.owners ≡ places → g.admitted ≡ m.first - 1 + length m.cells → g.committed ≡ m.first - 1 + length m.settled.results → IsStrictlySortedBy path_cmp (map path_of places) → All (IsOwnPlace m.stores m.cells) places → IsGlance s g
    glances g same admitted committed ordered owned =
        let first = h.head.before in
        let many = h.cells.as_many in
        let all = h.head.admitted in
        let settled = h.results.as_many in
        let done = ap (λ (x : Head Line). x.done) h.head.head in
        record {
          admitted = omega (arith, admitted, first, many, all);
          committed = omega (arith, committed, first, settled, done);
          ordered = subst (λ xs. IsStrictlySortedBy path_cmp (map path_of xs)) (sym same) ordered;
          owned = subst (All (λ x. IsOwner s x.path x.host.0)) (sym same) (All-weaker (IsOwnPlace m.stores m.cells) (λ (x : Place). IsOwner s x.path x.host.0) kept_owns places owned);
          all_there = λ p host on. subst (λ xs. list_any (path_eq p) (map path_of xs) ≡ true) (sym same) (owner_listed p host on);
        }

-- the numbers fit
pub record Sizes (m : Kept) : Type 0 where
  pub first : 1 ≤ m.first
  pub tickets : m.first + length m.cells ≤ 2 ^ 32
  pub settled : length m.settled.results ≤ length m.cells

pub sizes_of : Laws → Heads → (m : Kept) (start : Start) (s : TheState) → Stands m start s → Sizes m
sizes_of laws heads m start s stands =
    let head = heads m.plan start stands.labels s stands.fits stands.begins stands.reached in
    let list = listable laws m start s stands head in
    let h = stands.shows in
    let first = h.head.before in
    let many = h.cells.as_many in
    let all = h.head.admitted in
    let done = ap (λ (x : Head Line). x.done) h.head.head in
    let settled = h.results.as_many in
    let time = head.in_time in
    record { first = omega (arith, first); tickets = list.tickets; settled = omega (arith, many, all, done, settled, time) }
