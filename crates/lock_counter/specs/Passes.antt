-- What a thread's pass knows before and after its work.
use Rattle.std.specs.Prelude.{◌≡◌, ℕ, ◌++◌, ◌∷◌, [], Bool, true, false, List, Result, Ok, Err, replicate}
use Rattle.wave_base.specs.declared.memory.OutOfMemory.{OutOfMemory}
use Rattle.kept_lock.specs.declared.view.Known.{Known}
use Rattle.kept_lock.specs.History.{StartsWith}
use Rattle.lock_counter.specs.declared.counter.Addition.{Addition}
use Rattle.lock_counter.specs.Counters.{addition}

-- the pass has this number, and has made nothing
abbrev pub IsFresh : Known Addition → ℕ → Type 0
IsFresh pass number = (pass.number ≡ number) × (pass.made ≡ []) × (pass.accounts ≡ [])

-- the pass made these entries more, and is else as it was
pub record Made (before after : Known Addition) (more : List Addition) : Type 0 where
  pub number : after.number ≡ before.number
  pub passes : after.passes ≡ before.passes
  pub accounts : after.accounts ≡ before.accounts
  pub made : after.made ≡ before.made ++ more
  pub seen : StartsWith after.seen before.seen

-- the pass with this number has added this amount so often, and nothing else
abbrev pub HasAdded : Known Addition → ℕ → ℕ → ℕ → Type 0
HasAdded pass number amount times = (pass.number ≡ number) × (pass.made ≡ replicate times (addition number amount)) × (pass.accounts ≡ [])

-- what an attempt to add adds: one entry, or none, where there is no memory or nothing was to be added
abbrev pub entries_told : Addition → Result Bool OutOfMemory → List Addition
entries_told entry (Ok true) = entry ∷ []
entries_told entry (Ok false) = []
entries_told entry (Err e) = []

abbrev pub AddedAsTold : List Addition → Addition → Result Bool OutOfMemory → List Addition → Type 0
AddedAsTold before entry told after = after ≡ before ++ entries_told entry told

abbrev pub MadeAsTold : Known Addition → Known Addition → Addition → Result Bool OutOfMemory → Type 0
MadeAsTold before after entry told = Made before after (entries_told entry told)
