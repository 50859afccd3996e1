-- What an event holds and sends: a mail goes under its next number, and what it gives up goes by a Release each.
use Rattle.std.specs.Prelude.{ℕ, suc, Bool, false, not, nat_eq, List, [], ◌∷◌, Option, Some}
use Rattle.std.specs.List.{filter}
use Rattle.wave_base.specs.declared.path.Path.{Path}
use Rattle.wave_base.specs.Paths.{path_eq}
use Rattle.wave_states.specs.States.{set, Release, Mail, Status, Hold, Event}

-- an event with its mails under way
pub record Desk (A F : Type 0) : Type 0 where
  pub event : Event A
  pub mails : ℕ → Option (Mail F)

abbrev pub with_held : {A : Type 0} → Event A → List (Path × Hold) → Event A
with_held e held = record { actor = e.actor; held = held; sent = e.sent; status = e.status }

abbrev pub with_status : {A : Type 0} → Event A → Status → Event A
with_status e status = record { actor = e.actor; held = e.held; sent = e.sent; status = status }

abbrev pub kept_of : (Path → Bool) → List (Path × Hold) → List (Path × Hold)
kept_of keep held = filter (λ x. keep x.0) held

abbrev pub left_of : (Path → Bool) → List (Path × Hold) → List (Path × Hold)
left_of keep held = filter (λ x. not (keep x.0)) held

abbrev pub nothing_kept : Path → Bool
nothing_kept p = false

abbrev pub not_at : Path → Path → Bool
not_at p q = not (path_eq p q)

module _ {A F : Type 0} where
  -- a mail of the event, under the next number
  abbrev pub send : Desk A F → Mail F → Desk A F
  send d m = record {
    event = record { actor = d.event.actor; held = d.event.held; sent = suc d.event.sent; status = d.event.status };
    mails = set nat_eq d.mails (suc d.event.sent) (Some m);
  }

  -- a Release for each of these held paths, in their order
  abbrev pub release : List (Path × Hold) → Desk A F → Desk A F
  release [] d = d
  release (x ∷ xs) d = release xs (send d (record { host = x.1.host; path = x.0; letter = Release }))

  -- the event releases all that it holds but for what it keeps
  abbrev pub give_up : (Path → Bool) → Desk A F → Desk A F
  give_up keep d = release (left_of keep d.event.held) (record { event = with_held d.event (kept_of keep d.event.held); mails = d.mails })
