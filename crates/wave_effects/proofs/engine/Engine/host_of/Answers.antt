use Rattle.std.proofs.Common.{rules, ◌≡◌, ◌∙◌, is_some, true, sym, ap}
use Rattle.std.specs.Prelude.{position, option_map}
use Rattle.host_map.specs.Stores.{has}
use Rattle.wave_effects.specs.Keeping.{kept_of}
use Rattle.wave_effects.proofs.Halting.{found}
use Rattle.wave_effects.proofs.Stopping.{mapped_some}
use Rattle.wave_effects.proofs.engine.Engine.host_of.Goals as goal

pub unwrap-requires : goal.unwrap-requires
unwrap-requires c =
    let on = c.requires.1 in
    let found_it = found c.states_are_known.ensures c.segments_are_known.ensures (kept_of c.args.self.now) c.args.lease.now c.requires.0 on.start on.state on.stands on.back in
    let there : is_some c.place_of.result ≡ true = mapped_some (λ h. h.0) c.place_of.result (position (has c.args.lease.now.path) c.args.self.now.stores.items) (c.place_of.ensures ∙ ap (position (has c.args.lease.now.path)) c.as_slice.ensures.value) found_it in
    search (rules, there)

pub returns : goal.returns
returns c = ap (position (has c.args.lease.now.path)) (sym c.as_slice.ensures.value) ∙ sym c.place_of.ensures ∙ ap (option_map (λ h. h.0)) c.unwrap.ensures
