-- What a store says of a context, in a column of the theory.
use Rattle.std.specs.Prelude.{◌≡◌, ℕ, true, false, List, Some, None, is_some}
use Rattle.wave_base.specs.declared.value.Value.{Value}
use Rattle.host_map.specs.declared.store.Found.{Found}
use Rattle.host_map.specs.declared.store.Found.TheVariants.{Here, Gone, Unknown}
use Rattle.host_map.specs.Stores.{mark_of}
use Rattle.wave_states.specs.States as theory

-- the entry is there; or it is not, and the mark is that one, or none
abbrev pub FoundAt : Found → theory.Column (List Value) → ℕ → Type 0
FoundAt Here c host = is_some (c.store host) ≡ true
FoundAt (Gone m) c host = (is_some (c.store host) ≡ false) × (c.gone host ≡ Some (mark_of m))
FoundAt Unknown c host = (is_some (c.store host) ≡ false) × (c.gone host ≡ None)
