use Rattle.std.proofs.Common.{◌∙◌, ap, refl, sym}
use Rattle.std.specs.Option.{option_copied}
use Rattle.std.proofs.lemmas.Option.{slice_get_read, slice_get_within}
use Rattle.wave_effects.proofs.places.entry_at.Goals as goal

pub returns : goal.returns
returns c = record {
  store = c.index-stores-place.result;
  stored = slice_get_read c.args.stores.now _ c.args.place.now.host.0 c.index-stores-place.result refl (slice_get_within c.args.stores.now c.args.place.now.host.0 c.requires.store c.requires.stored) c.index-stores-place.is;
  entry = sym c.entry.ensures ∙ ap option_copied c.unwrap.ensures;
}
