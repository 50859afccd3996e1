-- Policy lines: their forms, and what one is after the lines before it: a policy, or refused with a fault.
use Rattle.std.specs.Prelude.{◌≡◌, ℕ, Bool, true, not, ◌&&◌, ◌==◌, nat_lt, nat_le, if◌then◌else◌, List, [], ◌∷◌, Result, Ok, Err, codes}
use Rattle.wave_base.specs.declared.limits.TheConstants.{EVENT_LINES}
use Rattle.wave_base.specs.declared.policy.Policy.{Policy}
use Rattle.wave_base.specs.declared.policy.Policy.TheVariants as policy
use Rattle.wave_base.specs.Names.{is_digits}
use Rattle.wave_text.specs.Numbers.{number_of}
use Rattle.script_reader.specs.declared.error.Fault.{Fault}
use Rattle.script_reader.specs.declared.error.Fault.TheVariants.{HostRange, TooMany, PolicyLate, CountRange}
use Rattle.script_reader.specs.declared.piece.Piece.{Piece}
use Rattle.script_reader.specs.declared.piece.Piece.TheVariants.{Run}
use Rattle.script_reader.specs.declared.policy_form.PolicyForm.{PolicyForm}
use Rattle.script_reader.specs.declared.policy_form.PolicyForm.TheVariants.{Balance, Drain}
use Rattle.script_reader.specs.Pieces.{ArePieces}

-- ---- lines: balance by n, drain h to g

abbrev pub policy_word : PolicyForm → List ℕ
policy_word (Balance n) = codes "balance"
policy_word (Drain h g) = codes "drain"

-- what stands behind the first word
abbrev pub policy_rest : PolicyForm → List Piece
policy_rest (Balance n) = Run (codes "by") ∷ Run n ∷ []
policy_rest (Drain h g) = Run h ∷ Run (codes "to") ∷ Run g ∷ []

-- numbers are digits
abbrev pub is_policy_form : PolicyForm → Bool
is_policy_form (Balance n) = is_digits n
is_policy_form (Drain h g) = is_digits h && is_digits g

-- the line has that form
pub record HasPolicyForm (line : List ℕ) (form : PolicyForm) : Type 0 where
  pub cut : ArePieces line (Run (policy_word form) ∷ policy_rest form)
  pub form_is : is_policy_form form ≡ true

abbrev pub HasNoPolicyForm : List ℕ → Type 0
HasNoPolicyForm line = (form : PolicyForm) → HasPolicyForm line form → ⊥

-- ---- what is asked for, of so many hosts

-- 1 to 4,000 moves
abbrev pub balance_policy : ℕ → Result Policy Fault
balance_policy n = if nat_le 1 n && nat_le n EVENT_LINES then Ok (policy.Balance n) else Err CountRange

-- two hosts below their count, and not the same one
abbrev pub drain_policy : ℕ → ℕ → ℕ → Result Policy Fault
drain_policy hosts h g = if nat_lt h hosts && (nat_lt g hosts && not (h == g)) then Ok (policy.Drain (record { 0 = h }) (record { 0 = g })) else Err HostRange

abbrev pub policy_of : ℕ → PolicyForm → Result Policy Fault
policy_of hosts (Balance n) = balance_policy (number_of n)
policy_of hosts (Drain h g) = drain_policy hosts (number_of h) (number_of g)

-- ---- the line, where so many hosts and event lines stand before, and perhaps an event line of its batch

-- the first event line of its batch
abbrev pub first_in_batch : Bool → Result Policy Fault → Result Policy Fault
first_in_batch late p = if late then Err PolicyLate else p

-- an event line past the last one that may be is refused before all else that is wrong with it
abbrev pub judged_policy : ℕ → ℕ → Bool → PolicyForm → Result Policy Fault
judged_policy hosts events late form = if nat_lt events EVENT_LINES then first_in_batch late (policy_of hosts form) else Err TooMany
