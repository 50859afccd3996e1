use Rattle.std.proofs.Common.{◌≡◌, ◌∙◌, false, Some, sym, ap}
use Rattle.std.specs.Prelude.{option_map}
use Rattle.wave_base.specs.Places.{move_of}
use Rattle.context_queue.specs.Entries.{record_of}
use Rattle.wave_states.specs.States.{holds_as_peek}
use Rattle.wave_states.specs.Steps.{with_body, with_entry}
use Rattle.wave_effects.specs.inner.Leaving.{sent_off}
use Rattle.wave_effects.proofs.Ways.{away_left}
use Rattle.wave_effects.proofs.StoreParts.{at_host}
use Rattle.wave_effects.proofs.leaving.over.Goals as goal

pub returns-in-Some-clause-part : goal.returns-in-Some-clause-part
returns-in-Some-clause-part c = λ d x y en r peek stands at is to left.
    let p = c.args.path.now in
    let h = c.args.host.0 in
    let b = record_of c.args.body in
    let off : holds_as_peek d.event.held p ≡ false = ap (λ l. holds_as_peek l p) stands.held ∙ sym c.if-only_looks.ensures in
    let en' = with_body en (Some b) in
    let column = with_entry x.column h (Some en') in
    let back = c.put_back.ensures.here x.column h en at is in
    away_left c.end-in-Some.new.self c.send_away.new.store p h x y move_of d en b peek r c.in-Some.to.0 (holds_as_peek d.event.held p) (ap (option_map (λ t. t.0)) (sym c.in-Some.is) ∙ to) off left
    (c.end-in-Some.ensures.desk (sent_off d p c.in-Some.to.0 en') (c.send_away.ensures.desk d column h en' stands back (at_host x.column h en')))
    (c.send_away.ensures.here column h en' back (at_host x.column h en'))
