-- What was made for a label before it is taken.
use Rattle.std.specs.Prelude.{length, Option, Some, None}
use Rattle.std.specs.Option.{IsSomeAnd}
use Rattle.wave_base.specs.declared.numbers.Host.{Host}
use Rattle.wave_labels.specs.declared.label.Act.{Act}
use Rattle.wave_labels.specs.declared.label.Act.TheVariants.{Admit, Queue, Grant, Visit, Start as Begin, Stop, Free, Pass, Land, Commit}
use Rattle.wave_labels.specs.declared.label.Label.{Label}
use Rattle.wave_effects.specs.declared.engine.Engine.{Engine}
use Rattle.wave_effects.specs.declared.prepared.Prepared.{Prepared}
use Rattle.wave_effects.specs.Heading.{AreCreated, IsNext, RoomToAdmit, RoomToCommit}
use Rattle.wave_effects.specs.Keeping.{kept_of, RoomToGrant, RoomToLand}
use Rattle.wave_effects.specs.Rooms.{PartToQueue}
use Rattle.wave_effects.specs.Running.{IsCopy}
use Rattle.wave_effects.specs.Taken.{calls_in, cell_in, copy_in, entry_in}

module _ (m : Engine) (host : Host) where
  -- the room and the part that the act asks for at the host
  abbrev pub IsPart : Act → Prepared → Type 0
  IsPart (Admit t) x = IsSomeAnd (cell_in x) (λ c. IsNext (kept_of m) c × RoomToAdmit m)
  IsPart (Queue k p) x = IsSomeAnd (entry_in x) (PartToQueue (kept_of m) host.0 p)
  IsPart (Grant t p) x = RoomToGrant (kept_of m) host.0 t.0 p
  IsPart (Visit k p) x = Unit {0}
  IsPart (Begin t p) x = IsSomeAnd (copy_in x) (IsCopy (kept_of m) host.0 t.0 p)
  IsPart (Stop t p) x = Unit {0}
  IsPart (Free k p) x = Unit {0}
  IsPart (Pass k p g) x = Unit {0}
  IsPart (Land k p) x = RoomToLand (kept_of m) host.0
  IsPart (Commit t) x = IsSomeAnd (calls_in x) (λ calls. AreCreated (kept_of m) calls × RoomToCommit m (length calls))

-- what was made is what the label for which it is reserved asks for
abbrev pub IsPrepared : Engine → Option (Label × Prepared) → Type 0
IsPrepared m None = Unit {0}
IsPrepared m (Some x) = IsPart m x.0.host x.0.act x.1
