-- A store in which a ticket joined the line of a context.
use Rattle.std.specs.Prelude.{◌≡◌, ℕ, Option, Some}
use Rattle.std.specs.Option.{option_or}
use Rattle.std.specs.FinMap as table
use Rattle.wave_base.specs.declared.path.Path.{Path}
use Rattle.wave_states.specs.States as theory
use Rattle.wave_states.specs.Steps.{in_line}
use Rattle.code_actor.specs.CodeActors.{Fields}
use Rattle.context_queue.specs.declared.entry.Entry.{Entry}
use Rattle.context_queue.specs.Entries.{StandsFor}
use Rattle.host_map.specs.Stores.{Stores}

-- the entry that was there, else the one that is born, has the claim in its line, and is the entry there
pub record LinesUp (st st' : Stores) (p : Path) (born : Option Entry) (number : ℕ) (claim : theory.Claim) : Type 0 where
  pub entry : Entry
  pub store : st'.store ≡ table.insert st.store p entry
  pub gone : st'.gone ≡ st.gone
  pub stands : (e : Entry) (en : theory.Entry Fields) → option_or (table.get st.store p) born ≡ Some e → StandsFor e en → StandsFor entry (in_line en number claim)
