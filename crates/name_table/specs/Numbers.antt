-- Names with numbers.
use Rattle.std.specs.Prelude.{◌≡◌, ℕ, Bool, List, [], ◌∷◌, ◌++◌, map, Option, Some, None, is_some, if◌then◌else◌, get_or, position, Vec}
use Rattle.std.specs.Global.{Global}
use Rattle.wave_base.specs.Names.{same_bytes}

abbrev pub pairs_of : List (Vec ℕ Global × ℕ) → List (List ℕ × ℕ)
pairs_of entries = map (λ e. (e.0.items, e.1)) entries

-- the first number of a name
abbrev pub first_number : List (List ℕ × ℕ) → List ℕ → Option ℕ
first_number [] name = None
first_number (p ∷ ps) name = if same_bytes p.0 name then Some p.1 else first_number ps name

-- one more number for a name
abbrev pub numbers_with : List (List ℕ × ℕ) → List ℕ → ℕ → List (List ℕ × ℕ)
numbers_with ps name number = if is_some (first_number ps name) then ps else ps ++ (name, number) ∷ []

-- of each name the table tells the place of the first item that has it
abbrev pub TellsFirst : {X : Type 0} → (List ℕ → X → Bool) → List X → List (List ℕ × ℕ) → Type 0
TellsFirst has xs table = (name : List ℕ) → first_number table name ≡ position (has name) xs

-- the same of tables that stand side by side, each for its own number
abbrev pub TellFirst : {X : Type 0} → (ℕ → List ℕ → X → Bool) → List X → List (List (List ℕ × ℕ)) → Type 0
TellFirst has xs tables = (n : ℕ) → TellsFirst (has n) xs (get_or tables n [])
