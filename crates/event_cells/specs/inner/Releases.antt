-- The Releases that an event sends.
use Rattle.std.specs.Prelude.{ℕ, suc, Bool, false, not, List, [], ◌∷◌, map, Option, Some, None}
use Rattle.std.specs.BTreeMap.{insert_entry}
use Rattle.std.specs.List.{filter}
use Rattle.std.specs.Ordering.{nat_cmp}
use Rattle.wave_base.specs.declared.path.Path.{Path}
use Rattle.wave_base.specs.Paths.{is_above}
use Rattle.migration_core.specs.declared.mail.Letter.TheVariants.{Release}
use Rattle.event_cells.specs.declared.held.Hold.{Hold}
use Rattle.event_cells.specs.declared.outbox.Envelope.{Envelope}

-- what is in the subtree of the context, where there is one
abbrev pub keeps : Option Path → Path → Bool
keeps (Some top) p = is_above top p
keeps None p = false

abbrev pub release_of : Path × Hold → Envelope
release_of x = record { to = x.1.host; path = x.0; letter = Release }

-- a Release for each of these that isn't kept
abbrev pub releases : (Path → Bool) → List (Path × Hold) → List Envelope
releases keep holds = map release_of (filter (λ x. not (keep x.0)) holds)

-- the mails after so many were sent, with these sent too
abbrev pub sent_on : List (ℕ × Envelope) → ℕ → List Envelope → List (ℕ × Envelope)
sent_on mails n [] = mails
sent_on mails n (e ∷ es) = sent_on (insert_entry nat_cmp mails (suc n) e) (suc n) es
