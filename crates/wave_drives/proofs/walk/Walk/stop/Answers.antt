use Rattle.std.proofs.Common.{rules, ◌≡◌, ◌<◌, ◌∙◌, Option, Some, is_some, length, refl, sym, ap, subst}
use Rattle.std.specs.Prelude.{slice_get, slice_set}
use Rattle.std.proofs.lemmas.Option.{slice_get_read}
use Rattle.wave_states.specs.Labels.{Label, Stop}
use Rattle.plan_actors.specs.PlanActors.{plan_actors}
use Rattle.wave_drives.specs.declared.ends.End.{End}
use Rattle.wave_drives.specs.Walks.{IsEnd, Leads}
use Rattle.wave_drives.proofs.Driven.{back_of, has_end, stop_leads, within_ends}
use Rattle.wave_effects.proofs.Stopped.{stopped_by}
use Rattle.wave_drives.proofs.walk.Walk.stop.Goals as goal

pub index_mut-requires : goal.index_mut-requires
index_mut-requires c =
    let l : Label = record { worker = c.args.worker.0; host = c.args.host.0; act = Stop c.args.ticket.0 c.args.path } in
    let within : c.args.worker.0 < length c.args.self.now.ends.items = within_ends c.args.self.now.machine.kept c.args.self.now.ends.items l c.requires in
    search (rules, within)

pub unwrap-lease-requires : goal.unwrap-lease-requires
unwrap-lease-requires c =
    let m = c.args.self.now.machine.kept in
    let w = c.args.worker.0 in
    let ends = c.args.self.now.ends.items in
    let l : Label = record { worker = w; host = c.args.host.0; act = Stop c.args.ticket.0 c.args.path } in
    let on = c.requires in
    let of = stopped_by (plan_actors m.plan.program) m.plan.workers on.state on.next w c.args.host.0 c.args.ticket.0 c.args.path on.enabled in
    let at : slice_get ends w ≡ Some c.index_mut.result.now = slice_get_read ends _ w c.index_mut.result.now refl (within_ends m ends l on) c.index_mut.ensures.value in
    let it : IsEnd m.plan.program w of.hand (Some c.index_mut.result.now) = subst (λ (x : Option (Option End)). IsEnd m.plan.program w of.hand x) at (on.under.ends w of.hand of.there) in
    ap is_some c.replace-end.ensures.value ∙ has_end m.plan.program w of.hand c.index_mut.result.now it

pub stop-requires : goal.stop-requires
stop-requires c =
    let m = c.args.self.now.machine.kept in
    let w = c.args.worker.0 in
    let ends = c.args.self.now.ends.items in
    let l : Label = record { worker = w; host = c.args.host.0; act = Stop c.args.ticket.0 c.args.path } in
    let on = c.requires in
    let end = c.unwrap-lease.result in
    let at : slice_get ends w ≡ Some c.index_mut.result.now = slice_get_read ends _ w c.index_mut.result.now refl (within_ends m ends l on) c.index_mut.ensures.value in
    let there : slice_get ends w ≡ Some (Some end) = at ∙ ap Some (sym c.replace-end.ensures.value ∙ c.unwrap-lease.ensures) in
    record {
      start = on.start;
      state = on.state;
      stands = on.under.stands;
      back = back_of m m ends end w c.args.host.0 0 c.args.ticket.0 c.args.path refl (within_ends m ends l on) there on.start on.state on.next on.under on.enabled;
    }

pub returns-in-Ok-clause-leads : goal.returns-in-Ok-clause-leads
returns-in-Ok-clause-leads c =
    let m = c.args.self.now.machine.kept in
    let m' = c.stop.new.self.kept in
    let w = c.args.worker.0 in
    let ends = c.args.self.now.ends.items in
    let l : Label = record { worker = w; host = c.args.host.0; act = Stop c.args.ticket.0 c.args.path } in
    let on = c.requires in
    let end = c.unwrap-lease.result in
    let at : slice_get ends w ≡ Some c.index_mut.result.now = slice_get_read ends _ w c.index_mut.result.now refl (within_ends m ends l on) c.index_mut.ensures.value in
    let there : slice_get ends w ≡ Some (Some end) = at ∙ ap Some (sym c.replace-end.ensures.value ∙ c.unwrap-lease.ensures) in
    subst (λ (o : Option End). Leads m ends l m' (slice_set ends w o)) (sym c.replace-end.ensures.after)
    (stop_leads m m' ends end w c.args.host.0 c.in-Ok.field-0.host.0 c.args.ticket.0 c.args.path c.stop.ensures.plan (within_ends m ends l on) there c.contexts_have_owners.ensures.one c.contexts_have_owners.ensures.by_owners c.in-Ok.ensures.enabled c.in-Ok.ensures.stops)
