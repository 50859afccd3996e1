-- What a machine keeps that stands for a state is of a size that can be listed.
use Rattle.std.proofs.Common.{◌≡◌, ◌∙◌, ◌⊎◌, inl, inr, ℕ, ◌+◌, ◌<◌, ◌≤◌, ◌^◌, true, length, is_some, Option, Some, None, refl, sym, ap, subst, arith, length-append}
use Rattle.std.specs.FinMap as table
use Rattle.std.proofs.lemmas.Bool.{cases_lt}
use Rattle.wave_base.specs.declared.start.Start.{Start}
use Rattle.wave_base.specs.declared.script.Line.{Line}
use Rattle.wave_base.specs.Fold.{Head}
use Rattle.commit_order.specs.Commits.{ready_result}
use Rattle.event_cells.specs.declared.outbox.Envelope.{Envelope}
use Rattle.event_cells.specs.Cells.{Carries}
use Rattle.event_cells.specs.Keeps.{mail_in}
use Rattle.wave_states.specs.States as theory
use Rattle.wave_theory.proofs.Basics.{some_not}
use Rattle.code_actor.specs.CodeActors.{Fields}
use Rattle.wave_effects.specs.Heading.{KnownHead}
use Rattle.wave_effects.specs.Machines.{IsCell, Kept, Known, Stands, TheState}
use Rattle.wave_effects.specs.Sized.{IsListable}
use Rattle.wave_effects.proofs.Taking.{Laws, now}

carries_none : (o : Option Envelope) (r : Option (theory.Mail Fields)) → Carries o r → r ≡ None → o ≡ None
carries_none None None h e = refl
carries_none (Some x) None h e = absurd h
carries_none None (Some y) h e = refl
carries_none (Some x) (Some y) h e = absurd (some_not e)

is_none_not : {X : Type 0} (o r : Option X) → o ≡ r → o ≡ None → is_some r ≡ true → ⊥
is_none_not o r e n y = cc

module _ (laws : Laws) (m : Kept) (start : Start) (s : TheState) (stands : Stands m start s) (k : KnownHead m.plan start s) where
  known : Known m.plan start s
  known = now laws m start s stands

  few_tickets : m.first + length m.cells ≤ 2 ^ 32
  few_tickets =
      let h = stands.shows.head in
      let first = k.first in
      let before = h.before in
      let as_many = h.as_many in
      let cells = stands.shows.cells.as_many in
      let all : length s.head.known ≡ length h.lines + length m.head.waiting = ap (λ (x : Head Line). length x.known) h.head ∙ length-append h.lines m.head.waiting in
      let room = k.room in
      omega (arith, first, before, as_many, cells, all, room)

  few_commits : is_some (ready_result m.commits) ≡ true → m.first + length m.settled.results < 2 ^ 32
  few_commits ready = by_place (cases_lt (s.before + s.admitted) t)
    where
      t : ℕ
      t = m.first + length m.settled.results

      few : ℕ → Type 0
      few n = n < 2 ^ 32

      by_place : (s.before + s.admitted < m.first + length m.settled.results) ⊎ (m.first + length m.settled.results ≤ s.before + s.admitted) → m.first + length m.settled.results < 2 ^ 32
      by_place (inl past) =
          let r = stands.shows.results in
          let many = r.as_many in
          let next = r.next in
          let place : m.first + length m.settled.results ≡ m.commits.committed + 1 = omega (arith, many, next) in
          let above : m.commits.committed < m.first + length m.settled.results = omega (arith, place) in
          let here : (s.cells (m.first + length m.settled.results)).result ≡ ready_result m.commits = r.ended (m.first + length m.settled.results) above ∙ ap (table.get m.commits.results) place in
          let none : (s.cells (m.first + length m.settled.results)).result ≡ None = ap (λ (c : theory.Cell _ _ _). c.result) (known.bounds.cells (m.first + length m.settled.results) (λ low high. omega (arith, past, high))) in
          absurd (is_none_not (s.cells (m.first + length m.settled.results)).result (ready_result m.commits) here none ready)
      by_place (inr within) =
          let h = stands.shows.head in
          let before = h.before in
          let count = h.admitted in
          let cells = stands.shows.cells.as_many in
          let all = few_tickets in
          omega (arith, within, before, count, cells, all)

  pub listable : IsListable m
  listable = record {
    few_stores = let many = stands.shows.stores.as_many in let few : m.plan.script.hosts ≤ 8 = stands.fits.script.few_hosts in omega (arith, many, few);
    few_hands = let many = stands.shows.hands.as_many in let few : m.plan.workers ≤ 16 = stands.fits.few_workers in omega (arith, many, few);
    tickets = few_tickets;
    commits = few_commits;
    numbered = λ i c e.
        let is : IsCell m.plan.program c (s.cells (m.first + i)) = stands.shows.cells.each i c e in
        record {
          from_one = carries_none (mail_in c.outbox.mails 0) (is.desk.mails 0) (is.stands.mails 0) (sym (is.mails 0) ∙ known.bounds.from_one (m.first + i));
          below = λ n past. carries_none (mail_in c.outbox.mails n) (is.desk.mails n) (is.stands.mails n) (sym (is.mails n) ∙ known.bounds.mails (m.first + i) n _ is.event (subst (λ j. j < n) (sym is.stands.sent) past));
        };
  }
