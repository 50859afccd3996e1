-- A map of hosts by paths, as a list of places.
use Rattle.std.proofs.Common.{◌≡◌, List, [], ◌∷◌, map, refl, ap}
use Rattle.std.specs.List.{AllByRecursion}
use Rattle.std.specs.Map.{keys_of}
use Rattle.plan_actors.specs.Finishing.{path_of}
use Rattle.wave_base.specs.declared.finished.Place.{Place}
use Rattle.wave_base.specs.declared.numbers.Host.{Host}
use Rattle.wave_base.specs.declared.path.Path.{Path}
use Rattle.wave_effects.specs.inner.Endings.{placed_at}

pub same_keys : (es : List (Path × Host)) → map path_of (map placed_at es) ≡ keys_of es
same_keys [] = refl
same_keys (e ∷ es) = ap (λ ks. e.0 ∷ ks) (same_keys es)

pub all_mapped : (P : Place → Type 0) (es : List (Path × Host)) → AllByRecursion (λ e. P (placed_at e)) es → AllByRecursion P (map placed_at es)
all_mapped P [] h = tt
all_mapped P (e ∷ es) h = (h.0, all_mapped P es h.1)
