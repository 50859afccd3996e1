use Rattle.std.proofs.Common.{◌≡◌, ◌∙◌, ◌+◌, length, map, List, [], ◌∷◌, false, ap, refl, sym, true≢false}
use Rattle.std.specs.List.{filter}
use Rattle.wave_base.specs.declared.path.Path.{Path}
use Rattle.wave_states.specs.States.{Ended}
use Rattle.wave_states.specs.Steps.{after_end}
use Rattle.wave_states.specs.Desks.{nothing_kept, with_status}
use Rattle.event_cells.specs.declared.held.Hold.{Hold}
use Rattle.event_cells.specs.Cells.{held_of, is_over, status_of}
use Rattle.event_cells.specs.inner.Releases.{releases, sent_on}
use Rattle.event_cells.proofs.Desks.{carried_in, gave_up}
use Rattle.event_cells.proofs.Lives.{opened, stands_so}
use Rattle.event_cells.proofs.cell.Cell.end.Goals as goal

nothing : {X : Type 0} (xs : List X) → filter (λ x. false) xs ≡ []
nothing [] = refl
nothing (x ∷ xs) = nothing xs

pub returns-clause-desk : goal.returns-clause-desk
returns-clause-desk g c = λ d h.
    let l = c.deref_mut-live.result.now in
    let live = stands_so l _ d (opened c.self.inside.life c.in-Live.live l c.args.self.now c.self.view_is c.in-Live.is c.deref_mut-live.ensures.value) h in
    let same = c.rest.ensures.same in
    let n = l.outbox.sent in
    let after = λ (holds : List (Path × Hold)). sent_on l.outbox.mails n (releases nothing_kept holds) in
    let r = gave_up nothing_kept l.held.holds l.outbox.mails n (record { event = with_status d.event Ended; mails = d.mails }) live.held live.sent live.mails in
    record {
      actor = λ e. absurd (true≢false (ap is_over (sym same.status) ∙ e));
      held = r.held ∙ ap (map held_of) (nothing l.held.holds ∙ sym c.clear.ensures.holds ∙ sym same.held);
      sent = r.sent ∙ ap (λ holds. n + length (releases nothing_kept holds)) (sym c.as_slice.ensures.holds) ∙ sym c.release.ensures.sent ∙ sym same.sent;
      status = r.status ∙ ap status_of (sym same.status);
      mails = carried_in (after l.held.holds) c.rest.new.self.outbox.mails (after_end d).mails (ap after (sym c.as_slice.ensures.holds) ∙ sym c.release.ensures.mails ∙ sym same.mails) r.mails;
    }
