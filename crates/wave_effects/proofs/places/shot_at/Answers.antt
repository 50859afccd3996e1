use Rattle.std.proofs.Common.{◌∙◌, ap, sym, is_some, true≢false}
use Rattle.wave_effects.proofs.places.shot_at.Goals as goal

pub unreachable-requires : goal.unreachable-requires
unreachable-requires c =
    let at = c.entry_at.ensures in
    true≢false (sym (c.requires.home c.args.place.now.host.0 at.store c.args.place.now.path c.entry_at.result.now at.stored at.entry) ∙ ap is_some c.in-None.is)
