-- What a label leaves of its ticket's mails, as a listing reads them.
use Rattle.std.proofs.Common.{◌≡◌, ◌∙◌, ◌⊎◌, inl, inr, ℕ, suc, ◌+◌, ◌-◌, ◌<◌, ◌≤◌, ◌==◌, ◌&&◌, Bool, true, false, List, Option, Some, None, refl, sym, ap, subst, arith}
use Rattle.std.specs.Prelude.{slice_get}
use Rattle.std.proofs.lemmas.Bool.{cases_lt}
use Rattle.std.proofs.lemmas.Option.{slice_get_within}
use Rattle.wave_base.specs.declared.path.Path.{Path}
use Rattle.wave_base.specs.Paths.{path_eq}
use Rattle.wave_base.specs.declared.pause.Pause.{Pause}
use Rattle.wave_base.specs.declared.start.Start.{Start}
use Rattle.host_map.specs.Stores.{Stores}
use Rattle.migration_core.specs.declared.mail.Letter.{Letter}
use Rattle.migration_core.specs.declared.mail.Letter.TheVariants as letter
use Rattle.migration_core.specs.Letters.{Says}
use Rattle.event_cells.specs.declared.cell.Cell.{Cell}
use Rattle.event_cells.specs.declared.outbox.Envelope.{Envelope}
use Rattle.event_cells.specs.Cells.{Carries}
use Rattle.event_cells.specs.Keeps.{mail_in}
use Rattle.wave_states.specs.Labels.{Act, Label, Admit, Commit, Queue, Grant, Visit, Start as Starting, Stop, Free, Pass, Land, ticket_of}
use Rattle.wave_states.specs.States as theory
use Rattle.wave_states.specs.States.{Enter, Mail, Release, Transfer}
use Rattle.wave_states.specs.Steps.{step}
use Rattle.wave_theory.proofs.Basics.{none_not, not_same, number_cases}
use Rattle.wave_theory.proofs.Reading.{changes}
use Rattle.code_actor.specs.CodeActors.{Fields}
use Rattle.plan_actors.specs.PlanActors.{plan_actors, plan_kind}
use Rattle.plan_actors.specs.Plans.{begin_in}
use Rattle.wave_effects.specs.declared.actor.Actor.{Actor}
use Rattle.wave_effects.specs.declared.lease.Lease.{Lease}
use Rattle.wave_effects.specs.Machines.{IsCell, IsEnabled, Kept, Stands, Takes, TheState, event_as, IsStood}
use Rattle.wave_effects.specs.Running.{CanStop, IsStopping, Stops, stop_of}
use Rattle.wave_effects.specs.Apart.{new_cells}
use Rattle.wave_effects.specs.Sized.{IsNumbered}
use Rattle.wave_machine.specs.inner.Asking.{enter_act, label_at, mail_act, mail_labels, route_at}
use Rattle.wave_machine.specs.inner.Index.{act_number, is_enter, is_enter_letter, sent_at, sent_by}
use Rattle.wave_machine.specs.inner.Updating.{KeepsMails}
use Rattle.wave_effects.proofs.Ending.{none_carries}
use Rattle.wave_machine.proofs.Grows.{admit_grows}
use Rattle.wave_machine.proofs.OwnMails.{KeepsOwn, own_by}
use Rattle.wave_machine.proofs.Owned as owned
use Rattle.wave_effects.proofs.Queueing.{some_is}
use Rattle.wave_effects.proofs.Reached.{mailed_is}
use Rattle.wave_effects.proofs.Taking.{Laws, now}

-- ---- a mail, as a listing reads it
module _ (stores : List Stores) (t k h : ℕ) (p : Path) where
  abbrev letter_act : theory.Letter Fields → Option Act
  letter_act (Enter a) = enter_act t k p (route_at (slice_get stores h) p a.followed)
  letter_act theory.Visit = Some (Visit t k p)
  letter_act theory.Back = Some (Visit t k p)
  letter_act Release = Some (Free t k p)
  letter_act (Transfer e) = Some (Land t k p)

  act_said : (x : Letter) (l : theory.Letter Fields) → Says x l → mail_act stores t k h p x ≡ letter_act l
  act_said (letter.Enter number followed peek) l e = ap letter_act (sym e)
  act_said letter.Visit l e = ap letter_act (sym e)
  act_said letter.Back l e = ap letter_act (sym e)
  act_said letter.Release l e = ap letter_act (sym e)
  act_said (letter.Transfer x) (Transfer e) h = refl
  act_said (letter.Transfer x) (Enter a) h = absurd h
  act_said (letter.Transfer x) theory.Visit h = absurd h
  act_said (letter.Transfer x) theory.Back h = absurd h
  act_said (letter.Transfer x) Release h = absurd h

-- two that stand for the same mail ask for the same
same_asked : (stores : List Stores) (t k : ℕ) (o o' : Option Envelope) (r : Option (Mail Fields)) → Carries o r → Carries o' r → mail_labels stores 0 t k o' ≡ mail_labels stores 0 t k o
same_asked stores t k None None r c c' = refl
same_asked stores t k None (Some e') None c c' = absurd c'
same_asked stores t k None (Some e') (Some x) c c' = absurd c
same_asked stores t k (Some e) None None c c' = absurd c
same_asked stores t k (Some e) None (Some x) c c' = absurd c'
same_asked stores t k (Some e) (Some e') None c c' = absurd c
same_asked stores t k (Some e) (Some e') (Some x) c c' =
    let host : e'.to.0 ≡ e.to.0 = sym c'.host ∙ c.host in
    let path : e'.path ≡ e.path = sym c'.path ∙ c.path in
    (λ i. label_at 0 (host i) (mail_act stores t k (host i) (path i) e'.letter))
    ∙ ap (label_at 0 e.to.0) (act_said stores t k e.to.0 e.path e'.letter x.letter c'.letter ∙ sym (act_said stores t k e.to.0 e.path e.letter x.letter c.letter))

-- and are the same Enters
abbrev enters_in : theory.Letter Fields → Bool
enters_in (Enter a) = true
enters_in theory.Visit = false
enters_in theory.Back = false
enters_in Release = false
enters_in (Transfer e) = false

enters_said : (x : Letter) (l : theory.Letter Fields) → Says x l → is_enter_letter x ≡ enters_in l
enters_said (letter.Enter number followed peek) l e = ap enters_in (sym e)
enters_said letter.Visit l e = ap enters_in (sym e)
enters_said letter.Back l e = ap enters_in (sym e)
enters_said letter.Release l e = ap enters_in (sym e)
enters_said (letter.Transfer x) (Transfer e) h = refl
enters_said (letter.Transfer x) (Enter a) h = absurd h
enters_said (letter.Transfer x) theory.Visit h = absurd h
enters_said (letter.Transfer x) theory.Back h = absurd h
enters_said (letter.Transfer x) Release h = absurd h

same_enter : (h : ℕ) (p : Path) (o o' : Option Envelope) (r : Option (Mail Fields)) → Carries o r → Carries o' r → is_enter h p o' ≡ is_enter h p o
same_enter h p None None r c c' = refl
same_enter h p None (Some e') None c c' = absurd c'
same_enter h p None (Some e') (Some x) c c' = absurd c
same_enter h p (Some e) None None c c' = absurd c
same_enter h p (Some e) None (Some x) c c' = absurd c'
same_enter h p (Some e) (Some e') None c c' = absurd c
same_enter h p (Some e) (Some e') (Some x) c c' =
    let host : e'.to.0 ≡ e.to.0 = sym c'.host ∙ c.host in
    let path : e'.path ≡ e.path = sym c'.path ∙ c.path in
    let letters : is_enter_letter e'.letter ≡ is_enter_letter e.letter = enters_said e'.letter x.letter c'.letter ∙ sym (enters_said e.letter x.letter c.letter) in
    λ i. (host i == h) && (path_eq (path i) p && letters i)

-- ---- over a label that is taken
module _ (laws : Laws) (m : Kept) (start : Start) (s : TheState) (stands : Stands m start s) where
  cell_of_ticket : (t i : ℕ) (c : Cell Actor) → m.first + i ≡ t → slice_get m.cells i ≡ Some c → IsCell m.plan.program c (s.cells t)
  cell_of_ticket t i c at there = subst (λ n. IsCell m.plan.program c (s.cells n)) at (stands.shows.cells.each i c there)

  -- no mail has a number past those that were sent
  pub numbered_here : (i : ℕ) (c : Cell Actor) → slice_get m.cells i ≡ Some c → IsNumbered c.outbox
  numbered_here i c there =
      let known = now laws m start s stands in
      let is = cell_of_ticket (m.first + i) i c refl there in
      record {
        from_one = none_carries (mail_in c.outbox.mails 0) (is.desk.mails 0) (is.stands.mails 0) (sym (is.mails 0) ∙ known.bounds.from_one (m.first + i));
        below = λ n past. none_carries (mail_in c.outbox.mails n) (is.desk.mails n) (is.stands.mails n) (sym (is.mails n) ∙ known.bounds.mails (m.first + i) n _ is.event (subst (λ j. j < n) (sym is.stands.sent) past));
      }

  number_in : (t k : ℕ) (x : Mail Fields) (c : Cell Actor) → (s.cells t).mails k ≡ Some x → m.first ≤ t → slice_get m.cells (t - m.first) ≡ Some c → k ≤ sent_at m t
  number_in t k x c at low there = by_place (cases_lt c.outbox.sent k)
    where
      is : IsCell m.plan.program c (s.cells t)
      is = cell_of_ticket t (t - m.first) c (omega (arith, low)) there

      sent : sent_at m t ≡ c.outbox.sent
      sent = ap sent_by (owned.cell_is m t low ∙ there)

      by_place : (c.outbox.sent < k) ⊎ (k ≤ c.outbox.sent) → k ≤ sent_at m t
      by_place (inl past) = absurd (none_not (sym ((now laws m start s stands).bounds.mails t k _ is.event (subst (λ j. j < k) (sym is.stands.sent) past)) ∙ at))
      by_place (inr within) = let same = sent in omega (arith, within, same)

  -- a mail that is there has a number that was sent
  number_sent : (t k : ℕ) (x : Mail Fields) → (s.cells t).mails k ≡ Some x → k ≤ sent_at m t
  number_sent t k x at =
      let known = now laws m start s stands in
      let placed = mailed_is (plan_kind m.plan.program m.plan.script.hosts) m.plan.workers (begin_in m.plan start) m.plan.script.batches s known.bounds t k x at in
      let above = placed.0 in
      let under = placed.1 in
      let before = stands.shows.head.before in
      let admitted = stands.shows.head.admitted in
      let many = stands.shows.cells.as_many in
      let low : m.first ≤ t = omega (arith, above, before) in
      let there = owned.slice_some m.cells (t - m.first) (omega (arith, under, above, before, admitted, many)) in
      number_in t k x there.0 at low there.1

-- what brings no cell, or has no mail of its own
no_number : (a : Act) → new_cells a ≡ 1 → act_number a ≡ 0
no_number (Admit t) e = refl
no_number (Queue t k p) e = absurd (omega (arith, e))
no_number (Grant t p) e = absurd (omega (arith, e))
no_number (Visit t k p) e = absurd (omega (arith, e))
no_number (Starting t p) e = absurd (omega (arith, e))
no_number (Stop t p) e = absurd (omega (arith, e))
no_number (Free t k p) e = absurd (omega (arith, e))
no_number (Pass t k p g) e = absurd (omega (arith, e))
no_number (Land t k p) e = absurd (omega (arith, e))
no_number (Commit t) e = absurd (omega (arith, e))

module _ (laws : Laws) (m m' : Kept) (l : Label) (on : IsEnabled m l) (stands' : Stands m' on.start on.next) where
  first_is : m'.first ≡ m.first
  first_is = sym stands'.shows.head.before ∙ ap suc (changes (plan_actors m.plan.program) m.plan.workers on.state on.next l on.enabled).before ∙ on.stands.shows.head.before

  keeps : (new_cells l.act ≡ 1 → ⊥) → KeepsOwn (on.state.cells (ticket_of l.act)) (on.next.cells (ticket_of l.act)) (act_number l.act)
  keeps apart = own_by (plan_actors m.plan.program) m.plan.workers on.state on.next l.worker l.host l.act on.enabled apart

  -- an admitted ticket had no cell
  not_grown : (i : ℕ) (c : Cell Actor) → m.first + i ≡ ticket_of l.act → slice_get m.cells i ≡ Some c → new_cells l.act ≡ 1 → ⊥
  not_grown i c at there one =
      let new = admit_grows m l on one in
      let within = slice_get_within m.cells i c there in
      omega (arith, new, within, at)

  was : (i : ℕ) (c : Cell Actor) → m.first + i ≡ ticket_of l.act → slice_get m.cells i ≡ Some c → IsCell m.plan.program c (on.state.cells (ticket_of l.act))
  was i c at there = subst (λ n. IsCell m.plan.program c (on.state.cells n)) at (on.stands.shows.cells.each i c there)

  is : (i : ℕ) (c' : Cell Actor) → m.first + i ≡ ticket_of l.act → slice_get m'.cells i ≡ Some c' → IsCell m'.plan.program c' (on.next.cells (ticket_of l.act))
  is i c' at there = subst (λ n. IsCell m'.plan.program c' (on.next.cells n)) (ap (λ f. f + i) first_is ∙ at) (stands'.shows.cells.each i c' there)

  pub mails_kept : KeepsMails m m' l
  mails_kept = record {
    kept = λ i c c' at there there' j low apart stores.
        let x = was i c at there in
        let y = is i c' at there' in
        let k = keeps (not_grown i c at there) in
        let sent = x.stands.sent in
        let same = k.mails (event_as x.desk.event) x.event j (omega (arith, low, sent)) apart in
        same_asked stores (ticket_of l.act) j (mail_in c.outbox.mails j) (mail_in c'.outbox.mails j) (x.desk.mails j) (x.stands.mails j)
        (subst (Carries (mail_in c'.outbox.mails j)) (sym (y.mails j) ∙ same ∙ x.mails j) (y.stands.mails j));
    enter = λ i c c' at there there' j low apart h p.
        let x = was i c at there in
        let y = is i c' at there' in
        let k = keeps (not_grown i c at there) in
        let sent = x.stands.sent in
        let same = k.mails (event_as x.desk.event) x.event j (omega (arith, low, sent)) apart in
        same_enter h p (mail_in c.outbox.mails j) (mail_in c'.outbox.mails j) (x.desk.mails j) (x.stands.mails j)
        (subst (Carries (mail_in c'.outbox.mails j)) (sym (y.mails j) ∙ same ∙ x.mails j) (y.stands.mails j));
    sent = λ i c c' at there there'.
        let x = was i c at there in
        let y = is i c' at there' in
        let more = (keeps (not_grown i c at there)).sent (event_as x.desk.event) (event_as y.desk.event) x.event y.event in
        let a = x.stands.sent in
        let b = y.stands.sent in
        omega (arith, more, a, b);
    number = elim (number_cases (new_cells l.act) 1) [
      | inl one ↦ (let none = no_number l.act one in omega (arith, none))
      | inr d ↦ by_own (keeps (not_same (new_cells l.act) 1 d)).own
    ];
  }
    where
      by_own : (act_number l.act ≡ 0) ⊎ ((x : Mail Fields) × ((on.state.cells (ticket_of l.act)).mails (act_number l.act) ≡ Some x)) → act_number l.act ≤ sent_at m (ticket_of l.act)
      by_own (inl none) = omega (arith, none)
      by_own (inr some) = number_sent laws m on.start on.state on.stands (ticket_of l.act) (act_number l.act) some.0 some.1

-- ---- over each call
pub mails_taken : (laws : Laws) (m m' : Kept) (l : Label) → IsEnabled m l → Takes m m' l → KeepsMails m m' l
mails_taken laws m m' l on takes = mails_kept laws m m' l on (takes on.start on.state on.next on.stands on.enabled)

pub mails_stopped : (laws : Laws) (m m' : Kept) (lease : Lease) (why : Pause) (host : ℕ) → IsStopping m lease why → CanStop m lease why host → Stops m lease why host m' → KeepsMails m m' (stop_of lease host)
mails_stopped laws m m' lease why host on can stops =
    let next = some_is (step (plan_actors m.plan.program) m.plan.workers on.state (stop_of lease host)) (can on.start on.state on.stands on.back) in
    mails_kept laws m m' (stop_of lease host) (record { start = on.start; state = on.state; next = next.0; stands = on.stands; enabled = next.1 }) (stops on.start on.state next.0 on.stands on.back next.1)

pub numbered_stood : (laws : Laws) (m : Kept) → IsStood m → (i : ℕ) (c : Cell Actor) → slice_get m.cells i ≡ Some c → IsNumbered c.outbox
numbered_stood laws m on = numbered_here laws m on.start on.state on.stands
