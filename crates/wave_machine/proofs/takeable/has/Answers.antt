use Rattle.std.proofs.Common.{◌≡◌, ◌∙◌, true, false, List, Some, None, length, map, sym, ap, subst, true≢false}
use Rattle.std.specs.Prelude.{slice_get}
use Rattle.wave_labels.specs.Labels.{act_of}
use Rattle.wave_states.specs.Labels.{Label, ticket_of}
use Rattle.wave_theory.specs.Listed.{IsIn, kind_rank}
use Rattle.wave_theory.proofs.Basics.{none_not, some_same}
use Rattle.wave_machine.specs.declared.ready.Ready.{Ready}
use Rattle.wave_machine.specs.inner.Index.{Parted, by_none, act_number}
use Rattle.wave_machine.proofs.Bridged.{in_place}
use Rattle.wave_machine.proofs.Halves.{place_as, place_found, ready_itself, ready_same}
use Rattle.wave_machine.proofs.takeable.has.Goals as goal

pub returns-in-Some : goal.returns-in-Some
returns-in-Some c = λ order.
    let index = c.args.index.now in
    let ready = c.args.ready.now in
    let at = c.place-at.result in
    let place = place_as index ready at c.kind_rank.result c.ticket_of.result.0 c.act_number.result c.kind_rank.ensures c.ticket_of.ensures c.act_number.ensures c.place-at.ensures.place in (
      λ e. subst (IsIn index) (ready_same c.in-Some.found ready (sym c.eq.ensures ∙ e)) (in_place index at c.in-Some.found (sym c.in-Some.ensures)),
      λ i. c.eq.ensures ∙ ready_itself c.in-Some.found ready (some_same c.in-Some.found ready (c.in-Some.ensures ∙ place_found index ready at order place i)),
    )

pub returns-in-None : goal.returns-in-None
returns-in-None c = λ order.
    let index = c.args.index.now in
    let ready = c.args.ready.now in
    let at = c.place-at.result in
    let place = place_as index ready at c.kind_rank.result c.ticket_of.result.0 c.act_number.result c.kind_rank.ensures c.ticket_of.ensures c.act_number.ensures c.place-at.ensures.place in (
      λ e. absurd (true≢false (sym e)),
      λ i. absurd (none_not (c.in-None.ensures ∙ place_found index ready at order place i)),
    )
