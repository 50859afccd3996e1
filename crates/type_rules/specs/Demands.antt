-- What is asked of a service: a list, in the order of the walk through its text.
use Rattle.std.specs.Prelude.{◌≡◌, ◌≢◌, Bool, List, [], ◌∷◌, Option, Some, None, if◌then◌else◌, Result, Ok, Err}
use Rattle.type_rules.specs.declared.error.TypeError.{TypeError}
use Rattle.type_rules.specs.declared.error.TypeError.TheVariants.{OutOfMemory}
use Rattle.wave_base.specs.Memory.{the_refusal}

-- whether it holds, and what is wrong where it doesn't
pub record Demand : Type 0 where
  pub holds : Bool
  pub wrong : TypeError

abbrev pub ask : Bool → TypeError → Demand
ask holds wrong = record { holds = holds; wrong = wrong }

-- what is wrong at the first demand that doesn't hold
abbrev pub first_wrong : List Demand → Option TypeError
first_wrong [] = None
first_wrong (d ∷ ds) = if d.holds then first_wrong ds else Some d.wrong

-- an error tells want of memory, or what is wrong at the first demand that doesn't hold
abbrev pub Fails : List Demand → TypeError → Type 0
Fails asked e = e ≢ OutOfMemory the_refusal → first_wrong asked ≡ Some e

-- every demand holds, and the answer is right; or the first that doesn't is told
abbrev pub Judges : {A : Type 0} → List Demand → (A → Type 0) → Result A TypeError → Type 0
Judges asked right (Ok a) = (first_wrong asked ≡ None) × right a
Judges asked right (Err e) = Fails asked e
