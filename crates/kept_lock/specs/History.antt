-- Histories: lists of entries, each of which has an owner, the number of the pass that made it.
use Rattle.std.specs.Prelude.{◌≡◌, ℕ, ◌==◌, nat_lt, if◌then◌else◌, List, ◌++◌, length, drop, filter, All}

-- the history begins with what was seen
abbrev pub StartsWith : {E : Type 0} → List E → List E → Type 0
StartsWith {E} history seen = (rest : List E) × (history ≡ seen ++ rest)

-- the entries of one owner, in order
abbrev pub entries_of : {E : Type 0} → (E → ℕ) → ℕ → List E → List E
entries_of owner number history = filter (λ e. owner e == number) history

-- the entries that came after what was seen
abbrev pub later_than : {E : Type 0} → List E → List E → List E
later_than seen history = drop (length seen) history

-- the history is the earlier one followed by entries of this owner alone
abbrev pub Adds : {E : Type 0} → (E → ℕ) → ℕ → List E → List E → Type 0
Adds {E} owner number before after = (more : List E) × (after ≡ before ++ more) × All (λ e. owner e ≡ number) more

-- the longer of two histories, and the first where they are equally long
abbrev pub longer_history : {E : Type 0} → List E → List E → List E
longer_history xs ys = if nat_lt (length xs) (length ys) then ys else xs
