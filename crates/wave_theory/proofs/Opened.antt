-- What each label found where it is enabled.
use Rattle.std.proofs.Common.{◌≡◌, ℕ, suc, ◌⊎◌, ◌==◌, ◌&&◌, inl, inr, nat_eq, true, false, Option, Some, None, [], refl, sym, ap, subst}
use Rattle.std.specs.Prelude.{option_and_then}
use Rattle.wave_base.specs.declared.path.Path.{Path}
use Rattle.wave_base.specs.Paths.{path_eq}
use Rattle.wave_states.specs.Actors.{Actors}
use Rattle.wave_states.specs.States.{State, Cell, Column, Claim, Entry, Event, Hand, Hold, Record, Letter, Enter, Visit, Back, Release, Transfer, Mail, Mark, Ask, Status, Ready, Waiting, set, hold_at, holds_as_peek, ask_in, is_coming, is_release, entry_in}
use Rattle.wave_states.specs.Steps.{Bench, Part, Route, Forward, queue, after_queue, grant, after_grant, visit, start, after_start, free, pass, passed_on, land, stop, after_stop, desk_back, segment_of, entry_for, route, may_join, letter_at, mail_for, only_if, ready_at, with_event, without_mail, with_entry, with_holders, others, column_joined, only_if}
use Rattle.wave_states.specs.Desks.{with_status}
use Rattle.wave_theory.proofs.Basics.{clash, some_same, none_not, then_some, only_some, if_some, and_first, and_second, number_is, path_is}

pub record LetterIs {F : Type 0} (o : Option (Mail F)) (host : ℕ) (p : Path) (m : Letter F) : Type 0 where
  pub mail : Mail F
  pub mail_is : o ≡ Some mail
  pub host_is : mail.host ≡ host
  pub path_is : mail.path ≡ p
  pub letter_is : mail.letter ≡ m

pub letter_of : {F : Type 0} (o : Option (Mail F)) (host : ℕ) (p : Path) (m : Letter F) → mail_for host p o ≡ Some m → LetterIs o host p m
letter_of None host p m e = absurd (none_not e)
letter_of (Some x) host p m e =
    let i = if_some ((x.host == host) && path_eq x.path p) (Some x.letter) m e in
    record { mail = x; mail_is = refl; host_is = number_is x.host host (and_first _ _ i.0); path_is = path_is x.path p (and_second (x.host == host) _ i.0); letter_is = some_same x.letter m i.1 }

pub ask_is : {F : Type 0} (m : Letter F) (a : Ask) → ask_in m ≡ Some a → m ≡ Enter a
ask_is (Enter b) a e = ap Enter (some_same b a e)
ask_is Visit a e = absurd (none_not e)
ask_is Back a e = absurd (none_not e)
ask_is Release a e = absurd (none_not e)
ask_is (Transfer en) a e = absurd (none_not e)

pub entry_is : {F : Type 0} (m : Letter F) (en : Entry F) → entry_in m ≡ Some en → m ≡ Transfer en
entry_is (Enter b) en e = absurd (none_not e)
entry_is Visit en e = absurd (none_not e)
entry_is Back en e = absurd (none_not e)
entry_is Release en e = absurd (none_not e)
entry_is (Transfer x) en e = ap Transfer (some_same x en e)

pub release_is : {F : Type 0} (m : Letter F) → is_release m ≡ true → m ≡ Release
release_is (Enter b) e = absurd (clash false e refl)
release_is Visit e = absurd (clash false e refl)
release_is Back e = absurd (clash false e refl)
release_is Release e = refl
release_is (Transfer x) e = absurd (clash false e refl)

pub coming_is : {F : Type 0} (m : Letter F) → is_coming m ≡ true → (m ≡ Visit) ⊎ (m ≡ Back)
coming_is (Enter b) e = absurd (clash false e refl)
coming_is Visit e = inl refl
coming_is Back e = inr refl
coming_is Release e = absurd (clash false e refl)
coming_is (Transfer x) e = absurd (clash false e refl)

pub ready_is : (s : Status) (p : Path) → ready_at s p ≡ true → s ≡ Ready p
ready_is (Ready q) p e = ap Ready (path_is q p e)
ready_is (Waiting q) p e = absurd (clash false e refl)
ready_is Rattle.wave_states.specs.States.Status.Travelling p e = absurd (clash false e refl)
ready_is Rattle.wave_states.specs.States.Status.Ended p e = absurd (clash false e refl)
ready_is (Rattle.wave_states.specs.States.Status.Running q) p e = absurd (clash false e refl)

module _ {A F R : Type 0} where
  pub record Visits (k : ℕ) (p : Path) (h : ℕ) (x y : Part A F R) : Type 0 where
    pub event : Event A
    pub event_is : x.cell.event ≡ Some event
    pub letter : Letter F
    pub letter_at : LetterIs (x.cell.mails k) h p letter
    pub coming : is_coming letter ≡ true
    pub gives : record { cell = with_event (without_mail x.cell k) (with_status event (Ready p)); column = x.column } ≡ y

  pub visits : (k : ℕ) (p : Path) (h : ℕ) (x y : Part A F R) → visit k p h x ≡ Some y → Visits k p h x y
  visits k p h x y e =
      let last : Event A → Letter F → Option (Part A F R) = λ ev m. only_if (is_coming m) (record { cell = with_event (without_mail x.cell k) (with_status ev (Ready p)); column = x.column }) in
      let a = then_some (λ ev. option_and_then (last ev) (mail_for h p (x.cell.mails k))) x.cell.event y e in
      let b = then_some (last a.0) (mail_for h p (x.cell.mails k)) y a.2 in
      let o = only_some (is_coming b.0) _ y b.2 in
      record { event = a.0; event_is = a.1; letter = b.0; letter_at = letter_of _ h p b.0 b.1; coming = o.0; gives = o.1 }

  pub record Grants (t : ℕ) (p : Path) (h : ℕ) (x y : Part A F R) : Type 0 where
    pub event : Event A
    pub event_is : x.cell.event ≡ Some event
    pub entry : Entry F
    pub entry_is : x.column.store h ≡ Some entry
    pub claim : Claim
    pub claim_is : entry.waiting (suc entry.served) ≡ Some claim
    pub ticket_is : claim.ticket ≡ t
    pub joins : may_join claim.peek entry.holders ≡ true
    pub gives : after_grant p h x event entry claim ≡ y

  pub grants : (t : ℕ) (p : Path) (h : ℕ) (x y : Part A F R) → grant t p h x ≡ Some y → Grants t p h x y
  grants t p h x y e =
      let last : Event A → Entry F → Claim → Option (Part A F R) = λ ev en c. only_if ((c.ticket == t) && may_join c.peek en.holders) (after_grant p h x ev en c) in
      let a = then_some (λ ev. option_and_then (λ en. option_and_then (last ev en) (en.waiting (suc en.served))) (x.column.store h)) x.cell.event y e in
      let b = then_some (λ en. option_and_then (last a.0 en) (en.waiting (suc en.served))) (x.column.store h) y a.2 in
      let d = then_some (last a.0 b.0) ((b.0).waiting (suc (b.0).served)) y b.2 in
      let o = only_some ((d.0.ticket == t) && may_join (d.0).peek (b.0).holders) _ y d.2 in
      record { event = a.0; event_is = a.1; entry = b.0; entry_is = b.1; claim = d.0; claim_is = d.1; ticket_is = number_is (d.0).ticket t (and_first _ _ o.0); joins = and_second ((d.0).ticket == t) _ o.0; gives = o.1 }

  pub record Starts (t : ℕ) (p : Path) (h : ℕ) (x : Part A F R) (y : Bench A F R) : Type 0 where
    pub event : Event A
    pub event_is : x.cell.event ≡ Some event
    pub entry : Entry F
    pub entry_is : x.column.store h ≡ Some entry
    pub actor : A
    pub actor_is : event.actor ≡ Some actor
    pub body : Record F
    pub body_is : entry.body ≡ Some body
    pub ready : event.status ≡ Ready p
    pub gives : after_start t p h x event entry actor body ≡ y

  pub starts : (t : ℕ) (p : Path) (h : ℕ) (x : Part A F R) (y : Bench A F R) → start t p h x ≡ Some y → Starts t p h x y
  starts t p h x y e =
      let last : Event A → Entry F → A → Record F → Option (Bench A F R) = λ ev en a b. only_if (ready_at ev.status p) (after_start t p h x ev en a b) in
      let a = then_some (λ ev. option_and_then (λ en. option_and_then (λ ac. option_and_then (last ev en ac) en.body) ev.actor) (x.column.store h)) x.cell.event y e in
      let b = then_some (λ en. option_and_then (λ ac. option_and_then (last a.0 en ac) en.body) (a.0).actor) (x.column.store h) y a.2 in
      let d = then_some (λ ac. option_and_then (last a.0 b.0 ac) (b.0).body) (a.0).actor y b.2 in
      let r = then_some (last a.0 b.0 d.0) (b.0).body y d.2 in
      let o = only_some (ready_at (a.0).status p) _ y r.2 in
      record { event = a.0; event_is = a.1; entry = b.0; entry_is = b.1; actor = d.0; actor_is = d.1; body = r.0; body_is = r.1; ready = ready_is (a.0).status p o.0; gives = o.1 }

  pub record Frees (t k : ℕ) (p : Path) (h : ℕ) (x y : Part A F R) : Type 0 where
    pub entry : Entry F
    pub entry_is : x.column.store h ≡ Some entry
    pub letter_at : LetterIs (x.cell.mails k) h p Release
    pub gives : record { cell = without_mail x.cell k; column = with_entry x.column h (Some (with_holders entry (others t entry.holders))) } ≡ y

  pub frees : (t k : ℕ) (p : Path) (h : ℕ) (x y : Part A F R) → free t k p h x ≡ Some y → Frees t k p h x y
  frees t k p h x y e =
      let last : Entry F → Letter F → Option (Part A F R) = λ en m. only_if (is_release m) (record { cell = without_mail x.cell k; column = with_entry x.column h (Some (with_holders en (others t en.holders))) }) in
      let a = then_some (λ en. option_and_then (last en) (mail_for h p (x.cell.mails k))) (x.column.store h) y e in
      let b = then_some (last a.0) (mail_for h p (x.cell.mails k)) y a.2 in
      let o = only_some (is_release b.0) _ y b.2 in
      record { entry = a.0; entry_is = a.1; letter_at = subst (LetterIs (x.cell.mails k) h p) (release_is b.0 o.0) (letter_of _ h p b.0 b.1); gives = o.1 }

  pub record Lands (k : ℕ) (p : Path) (h : ℕ) (x y : Part A F R) : Type 0 where
    pub entry : Entry F
    pub letter_at : LetterIs (x.cell.mails k) h p (Transfer entry)
    pub gives : record { cell = without_mail x.cell k; column = column_joined x.column h (with_holders entry []) } ≡ y

  pub lands : (k : ℕ) (p : Path) (h : ℕ) (x y : Part A F R) → land k p h x ≡ Some y → Lands k p h x y
  lands k p h x y e =
      let last : Entry F → Option (Part A F R) = λ en. Some (record { cell = without_mail x.cell k; column = column_joined x.column h (with_holders en []) }) in
      let a = then_some (λ m. option_and_then last (entry_in m)) (mail_for h p (x.cell.mails k)) y e in
      let b = then_some last (entry_in a.0) y a.2 in
      record { entry = b.0; letter_at = subst (LetterIs (x.cell.mails k) h p) (entry_is a.0 b.0 b.1) (letter_of _ h p a.0 a.1); gives = some_same _ y b.2 }

  pub record Passes (k g : ℕ) (p : Path) (h : ℕ) (x y : Part A F R) : Type 0 where
    pub ask : Ask
    pub letter_at : LetterIs (x.cell.mails k) h p (Enter ask)
    pub mark : Mark
    pub mark_is : x.column.gone h ≡ Some mark
    pub route_is : route x.column h ask.followed ≡ Forward g
    pub gives : record {
      cell = record { event = x.cell.event; mails = set nat_eq x.cell.mails k (Some (record { host = g; path = p; letter = Enter (record { number = ask.number; followed = mark.number; peek = ask.peek }) })); result = x.cell.result };
      column = x.column;
    } ≡ y

  by_route : (k g : ℕ) (p : Path) (x y : Part A F R) (a : Ask) (o : Option Mark) (r : Route) → passed_on k g p x a o r ≡ Some y → (m : Mark) × (o ≡ Some m) × (r ≡ Forward g) × (record {
    cell = record { event = x.cell.event; mails = set nat_eq x.cell.mails k (Some (record { host = g; path = p; letter = Enter (record { number = a.number; followed = m.number; peek = a.peek }) })); result = x.cell.result };
    column = x.column;
  } ≡ y)
  by_route k g p x y a None Rattle.wave_states.specs.Steps.Route.Deliver e = absurd (none_not e)
  by_route k g p x y a None Rattle.wave_states.specs.Steps.Route.Born e = absurd (none_not e)
  by_route k g p x y a None Rattle.wave_states.specs.Steps.Route.Wait e = absurd (none_not e)
  by_route k g p x y a None (Forward to) e = absurd (none_not e)
  by_route k g p x y a (Some m) Rattle.wave_states.specs.Steps.Route.Deliver e = absurd (none_not e)
  by_route k g p x y a (Some m) Rattle.wave_states.specs.Steps.Route.Born e = absurd (none_not e)
  by_route k g p x y a (Some m) Rattle.wave_states.specs.Steps.Route.Wait e = absurd (none_not e)
  by_route k g p x y a (Some m) (Forward to) e = let o = only_some (g == to) _ y e in (m, refl, ap Forward (sym (number_is g to o.0)), o.1)

  pub passes : (k g : ℕ) (p : Path) (h : ℕ) (x y : Part A F R) → pass k p g h x ≡ Some y → Passes k g p h x y
  passes k g p h x y e =
      let last : Ask → Option (Part A F R) = λ a. passed_on k g p x a (x.column.gone h) (route x.column h a.followed) in
      let a = then_some (λ m. option_and_then last (ask_in m)) (mail_for h p (x.cell.mails k)) y e in
      let b = then_some last (ask_in a.0) y a.2 in
      let o = by_route k g p x y b.0 (x.column.gone h) (route x.column h (b.0).followed) b.2 in
      record { ask = b.0; letter_at = subst (LetterIs (x.cell.mails k) h p) (ask_is a.0 b.0 b.1) (letter_of _ h p a.0 a.1); mark = o.0; mark_is = o.1; route_is = o.2; gives = o.3 }

module _ {A F R J : Type 0} (sys : Actors A F R J) where
  pub record Queues (t k : ℕ) (p : Path) (h : ℕ) (x y : Part A F R) : Type 0 where
    pub event : Event A
    pub event_is : x.cell.event ≡ Some event
    pub ask : Ask
    pub letter_at : LetterIs (x.cell.mails k) h p (Enter ask)
    pub entry : Entry F
    pub entry_is : entry_for sys p h x.column (route x.column h ask.followed) ≡ Some entry
    pub gives : after_queue t k p h x event ask entry ≡ y

  pub queues : (t k : ℕ) (p : Path) (h : ℕ) (x y : Part A F R) → queue sys t k p h x ≡ Some y → Queues t k p h x y
  queues t k p h x y e =
      let last : Event A → Ask → Entry F → Option (Part A F R) = λ ev a en. Some (after_queue t k p h x ev a en) in
      let a = then_some (λ ev. option_and_then (λ m. option_and_then (λ a. option_and_then (last ev a) (entry_for sys p h x.column (route x.column h a.followed))) (ask_in m)) (mail_for h p (x.cell.mails k))) x.cell.event y e in
      let b = then_some (λ m. option_and_then (λ q. option_and_then (last a.0 q) (entry_for sys p h x.column (route x.column h q.followed))) (ask_in m)) (mail_for h p (x.cell.mails k)) y a.2 in
      let d = then_some (λ q. option_and_then (last a.0 q) (entry_for sys p h x.column (route x.column h q.followed))) (ask_in b.0) y b.2 in
      let r = then_some (last a.0 d.0) (entry_for sys p h x.column (route x.column h (d.0).followed)) y d.2 in
      record { event = a.0; event_is = a.1; ask = d.0; letter_at = subst (LetterIs (x.cell.mails k) h p) (ask_is b.0 d.0 d.1) (letter_of _ h p b.0 b.1); entry = r.0; entry_is = r.1; gives = some_same _ y r.2 }

  pub record Stopping (t : ℕ) (p : Path) (h : ℕ) (g : Hand A F) (x y : Part A F R) : Type 0 where
    pub event : Event A
    pub event_is : x.cell.event ≡ Some event
    pub entry : Entry F
    pub entry_is : x.column.store h ≡ Some entry
    pub gives : after_stop sys p h x (desk_back x.cell event (segment_of sys g).actor) entry g.body.children (segment_of sys g) (holds_as_peek event.held p) ≡ Some y

  pub stopping : (t : ℕ) (p : Path) (h : ℕ) (g : Hand A F) (x y : Part A F R) → stop sys p h g x ≡ Some y → Stopping t p h g x y
  stopping t p h g x y e =
      let last : Event A → Entry F → Option (Part A F R) = λ ev en. after_stop sys p h x (desk_back x.cell ev (segment_of sys g).actor) en g.body.children (segment_of sys g) (holds_as_peek ev.held p) in
      let a = then_some (λ ev. option_and_then (last ev) (x.column.store h)) x.cell.event y e in
      let b = then_some (last a.0) (x.column.store h) y a.2 in
      record { event = a.0; event_is = a.1; entry = b.0; entry_is = b.1; gives = b.2 }
