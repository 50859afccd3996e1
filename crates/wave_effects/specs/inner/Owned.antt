-- Who has a context, read off the stores and the mails.
use Rattle.std.specs.Prelude.{◌≡◌, ◌⊎◌, ℕ, List, Option, Some, None, slice_get}
use Rattle.std.specs.BTreeMap.{insert_entry}
use Rattle.wave_base.specs.declared.finished.Place.{Place}
use Rattle.wave_base.specs.declared.numbers.Host.{Host}
use Rattle.wave_base.specs.declared.path.Path.{Path}
use Rattle.wave_base.specs.Paths.{path_cmp}
use Rattle.migration_core.specs.declared.mail.Letter.{Letter}
use Rattle.migration_core.specs.declared.mail.Letter.TheVariants.{Transfer}
use Rattle.event_cells.specs.declared.cell.Cell.{Cell}
use Rattle.event_cells.specs.declared.outbox.Envelope.{Envelope}
use Rattle.event_cells.specs.Keeps.{mail_in}
use Rattle.host_map.specs.Stores.{Stores}
use Rattle.wave_theory.specs.Listed.{IsIn}
use Rattle.wave_effects.specs.declared.actor.Actor.{Actor}
use Rattle.wave_effects.specs.inner.Endings.{IsThere}

-- where a mail brings its context
abbrev pub carried_by : Letter → Place → Option Place
carried_by (Transfer entry) x = Some x
carried_by _ x = None

abbrev pub carried_in : Envelope → Option Place
carried_in e = carried_by e.letter (record { path = e.path; host = e.to })

-- one of these mails brings the context to the host
pub record IsCarried (mails : List (ℕ × Envelope)) (p : Path) (host : Host) : Type 0 where
  pub number : ℕ
  pub envelope : Envelope
  pub mail : mail_in mails number ≡ Some envelope
  pub brings : carried_in envelope ≡ Some (record { path = p; host = host })

-- a mail of one of these cells does
pub record IsSent (cells : List (Cell Actor)) (p : Path) (host : Host) : Type 0 where
  pub place : ℕ
  pub cell : Cell Actor
  pub at : slice_get cells place ≡ Some cell
  pub carried : IsCarried cell.outbox.mails p host

-- a store has the context, or it is on its way
abbrev pub IsKeptAt : List Stores → List (Cell Actor) → Path → Host → Type 0
IsKeptAt stores cells p host = IsThere stores p host ⊎ IsSent cells p host

abbrev pub IsOwnPlace : List Stores → List (Cell Actor) → Place → Type 0
IsOwnPlace stores cells x = IsKeptAt stores cells x.path x.host

-- what was there before, or is carried
abbrev pub IsOldOr : List (Path × Host) → List (ℕ × Envelope) → Path → Host → Type 0
IsOldOr old mails p host = IsIn old (p, host) ⊎ IsCarried mails p host

-- and a place, where there is one
abbrev pub with_place : List (Path × Host) → Option Place → List (Path × Host)
with_place es None = es
with_place es (Some x) = insert_entry path_cmp es x.path x.host
