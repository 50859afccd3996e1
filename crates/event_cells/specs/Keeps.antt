-- What an event holds, and its mails under way, as plain values.
use Rattle.std.specs.Prelude.{ℕ, Bool, true, false, List, [], ◌∷◌, Option, refl}
use Rattle.std.specs.Coded.{Coded, code_by, coded×, coded_ℕ, coded_list}
use Rattle.std.specs.BTreeMap.{is_at}
use Rattle.std.specs.Map.{lookup, remove_entry}
use Rattle.std.specs.Ordering.{nat_cmp}
use Rattle.wave_base.specs.declared.path.Path.{Path}
use Rattle.wave_base.specs.contracts.path.Path as path
use Rattle.wave_base.specs.Paths.{path_cmp}
use Rattle.event_cells.specs.declared.held.Hold.{Hold}
use Rattle.event_cells.specs.contracts.held.Hold as hold
use Rattle.event_cells.specs.declared.outbox.Envelope.{Envelope}
use Rattle.event_cells.specs.contracts.outbox.Envelope as envelope

-- the contexts that are held, and for how many more there is room
pub record Holding : Type 0 where
  pub holds : List (Path × Hold)
  pub room : ℕ

-- how many mails were sent; those under way by their numbers; and for how many more there is room
pub record Sending : Type 0 where
  pub sent : ℕ
  pub mails : List (ℕ × Envelope)
  pub room : ℕ

-- both are stored as their parts
abbrev pub holding_code : Coded Holding
holding_code =
    code_by (List (Path × Hold) × ℕ) (coded× (coded_list (coded× path.the_row.coded hold.the_row.coded)) coded_ℕ) (λ c. (c.holds, c.room)) (λ p. record { holds = p.0; room = p.1 }) (λ _. refl)

abbrev pub sending_code : Coded Sending
sending_code =
    code_by (ℕ × (List (ℕ × Envelope) × ℕ)) (coded× coded_ℕ (coded× (coded_list (coded× coded_ℕ envelope.the_row.coded)) coded_ℕ)) (λ c. (c.sent, (c.mails, c.room)))
    (λ p. record { sent = p.0; mails = p.1.0; room = p.1.1 }) (λ _. refl)

-- how a path is held
abbrev pub hold_in : List (Path × Hold) → Path → Option Hold
hold_in holds p = lookup (is_at (path_cmp p)) holds

-- the mail of a number, and the mails without it
abbrev pub mail_in : List (ℕ × Envelope) → ℕ → Option Envelope
mail_in mails k = lookup (is_at (nat_cmp k)) mails

abbrev pub without_in : List (ℕ × Envelope) → ℕ → List (ℕ × Envelope)
without_in mails k = remove_entry (is_at (nat_cmp k)) mails

-- no mail is under way
abbrev pub is_empty : List (ℕ × Envelope) → Bool
is_empty [] = true
is_empty (m ∷ ms) = false
