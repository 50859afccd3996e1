-- What was made for a label is still what it asks for where nothing is different but rooms, and none is less.
use Rattle.std.proofs.Common.{◌≡◌, ◌∙◌, ℕ, ◌+◌, ◌-◌, ◌<◌, ◌≤◌, List, length, Option, Some, None, sym, ap, subst, arith}
use Rattle.std.specs.Prelude.{map, slice_get, vec_len, vec_capacity}
use Rattle.std.specs.Option.{IsSomeAnd}
use Rattle.std.specs.FinMap as table
use Rattle.wave_base.specs.declared.call.Call.{Call}
use Rattle.wave_base.specs.declared.numbers.Host.{Host}
use Rattle.wave_base.specs.declared.path.Path.{Path}
use Rattle.wave_base.specs.declared.record.Record.{Record}
use Rattle.context_queue.specs.declared.entry.Entry.{Entry}
use Rattle.context_queue.specs.Entries.{StandsFor}
use Rattle.head_tickets.specs.Heads.{Heading, next_line}
use Rattle.host_map.specs.Stores.{Stores}
use Rattle.event_cells.specs.declared.cell.Cell.{Cell}
use Rattle.event_cells.specs.Cells.{held_of}
use Rattle.plan_actors.specs.PlanActors.{plan_actors}
use Rattle.plan_actors.specs.Plans.{Plan}
use Rattle.wave_labels.specs.declared.label.Act.{Act}
use Rattle.wave_labels.specs.declared.label.Act.TheVariants.{Admit, Queue, Grant, Visit, Start, Stop, Free, Pass, Land, Commit}
use Rattle.wave_labels.specs.declared.label.Label.{Label}
use Rattle.wave_states.specs.States.{holds_as_peek}
use Rattle.wave_states.specs.Steps.{new_entry}
use Rattle.wave_effects.specs.declared.actor.Actor.{Actor}
use Rattle.wave_effects.specs.declared.engine.Engine.{Engine}
use Rattle.wave_machine.specs.declared.listed.Listed.{Listed}
use Rattle.wave_effects.specs.declared.prepared.Prepared.{Prepared}
use Rattle.wave_effects.specs.Heading.{AreCreated, IsMade, IsNext, RoomToAdmit, RoomToCommit}
use Rattle.wave_effects.specs.Keeping.{RoomToGrant, RoomToLand, kept_of}
use Rattle.wave_machine.specs.inner.Index.{HasRoom}
use Rattle.wave_machine.specs.inner.Updating.{RoomFor}
use Rattle.wave_effects.specs.Made.{IsPart, IsPrepared}
use Rattle.wave_effects.specs.Rooms.{PartToQueue, RoomInLine}
use Rattle.wave_effects.specs.Running.{IsCopy, copy_of}
use Rattle.wave_effects.specs.Settling.{Settling}
use Rattle.wave_effects.specs.Spare.{IsAsLong, SameButRooms}
use Rattle.wave_effects.specs.Taken.{calls_in, cell_in, copy_in, entry_in}

on_some : {X : Type 0} (o : Option X) (P Q : X → Type 0) → ((x : X) → P x → Q x) → IsSomeAnd o P → IsSomeAnd o Q
on_some None P Q f h = h
on_some (Some x) P Q f h = f x h

line_roomier : (st st' : Stores) (o b : Option Entry) → st.path_room ≤ st'.path_room → RoomInLine st o b → RoomInLine st' o b
line_roomier st st' (Some e) None more h = h
line_roomier st st' None (Some e) more h = (omega (arith, more, h.0), h.1)
line_roomier st st' (Some e) (Some b) more h = h
line_roomier st st' None None more h = h

module _ (m m' : Engine) (same : SameButRooms (kept_of m) (kept_of m')) (long : IsAsLong m m') where
  next_still : (c : Cell Actor) → IsNext (kept_of m) c → IsNext (kept_of m') c
  next_still c h line is =
      let ticket : m.first + m.head.admitted ≡ m'.first + m'.head.admitted = (λ j. sym same.first j + (sym same.head j).admitted) in
      let made : IsMade m.plan.now.program line (m'.first + m'.head.admitted) c = subst (λ n. IsMade m.plan.now.program line n c) ticket (h line (ap next_line (sym same.head) ∙ is)) in
      subst (λ (x : Plan). IsMade x.program line (m'.first + m'.head.admitted) c) (sym same.plan) made

  admit_still : RoomToAdmit m → RoomToAdmit m'
  admit_still h = record { cells = omega (arith, h.cells, long.cells, long.capacity); kinds = subst (λ v. vec_len v < vec_capacity v) (sym long.kinds) h.kinds }

  queue_still : (host : ℕ) (p : Path) (born : Option Entry) → PartToQueue (kept_of m) host p born → PartToQueue (kept_of m') host p born
  queue_still host p born h = record {
    room = λ x is.
        let of = same.stores host x is in
        line_roomier of.stores x (table.get x.store p) born of.room (subst (λ o. RoomInLine of.stores o born) (ap (λ z. table.get z p) (sym of.store)) (h.room of.stores of.there));
    first = λ e is. subst (λ (x : Plan). StandsFor e (new_entry (plan_actors x.program) p)) (sym same.plan) (h.first e is);
  }

  grant_still : (host t : ℕ) (p : Path) → RoomToGrant (kept_of m) host t p → RoomToGrant (kept_of m') host t p
  grant_still host t p h = record {
    held = λ c is.
        let of = same.cells (t - m'.first) c is in
        let had : 1 ≤ of.cell.held.room = h.held of.cell (ap (λ n. slice_get m.cells.items (t - n)) (sym same.first) ∙ of.there) in
        omega (arith, had, of.room);
    peeks = λ x e claim is has waits looks.
        let of = same.stores host x is in
        h.peeks of.stores e claim of.there (ap (λ z. table.get z p) (sym of.store) ∙ has) waits looks;
  }

  copy_still : (host t : ℕ) (p : Path) (copy : Option Record) → IsCopy (kept_of m) host t p copy → IsCopy (kept_of m') host t p copy
  copy_still host t p copy h c x e there here has =
      let of = same.cells (t - m'.first) c there in
      let at = same.stores host x here in
      h of.cell at.stores e (ap (λ n. slice_get m.cells.items (t - n)) (sym same.first) ∙ of.there) at.there (ap (λ z. table.get z p) (sym at.store) ∙ has)
      ∙ ap (λ z. copy_of (holds_as_peek (map held_of z) p) e.body) (sym of.same.held)

  land_still : (host : ℕ) → RoomToLand (kept_of m) host → RoomToLand (kept_of m') host
  land_still host h x is =
      let of = same.stores host x is in
      let had : 1 ≤ of.stores.path_room = h of.stores of.there in
      omega (arith, had, of.room)

  created_still : (calls : List Call) → AreCreated (kept_of m) calls → AreCreated (kept_of m') calls
  created_still calls h r is = h r ((λ j. table.get (sym same.results j) (sym same.committed j + 1)) ∙ is)

  commit_still : (calls : ℕ) → RoomToCommit m calls → RoomToCommit m' calls
  commit_still calls h = record { settled = subst (λ (v : Settling). 1 ≤ v.room) (sym long.settled) h.settled; head = subst (λ (x : Heading). calls ≤ x.room) (sym same.head) h.head }

  part_still : (host : Host) (a : Act) (x : Prepared) → IsPart m host a x → IsPart m' host a x
  part_still host (Admit t) x h = on_some (cell_in x) (λ c. IsNext (kept_of m) c × RoomToAdmit m) (λ c. IsNext (kept_of m') c × RoomToAdmit m') (λ c k. (next_still c k.0, admit_still k.1)) h
  part_still host (Queue k p) x h = on_some (entry_in x) (PartToQueue (kept_of m) host.0 p) (PartToQueue (kept_of m') host.0 p) (queue_still host.0 p) h
  part_still host (Grant t p) x h = grant_still host.0 t.0 p h
  part_still host (Visit k p) x h = h
  part_still host (Start t p) x h = on_some (copy_in x) (IsCopy (kept_of m) host.0 t.0 p) (IsCopy (kept_of m') host.0 t.0 p) (copy_still host.0 t.0 p) h
  part_still host (Stop t p) x h = h
  part_still host (Free k p) x h = h
  part_still host (Pass k p g) x h = h
  part_still host (Land k p) x h = land_still host.0 h
  part_still host (Commit t) x h = on_some (calls_in x) (λ calls. AreCreated (kept_of m) calls × RoomToCommit m (length calls)) (λ calls. AreCreated (kept_of m') calls × RoomToCommit m' (length calls)) (λ calls k. (created_still calls k.0, commit_still (length calls) k.1)) h

  pub prepared_still : (x : Option (Label × Prepared)) → IsPrepared m x → IsPrepared m' x
  prepared_still None h = h
  prepared_still (Some x) h = part_still x.0.host x.0.act x.1 h

-- and the room that a label asks for is still there where each room is
pub room_still : (x y : Listed) → ((more : ℕ) → HasRoom x more → HasRoom y more) → (o : Option (Label × Prepared)) → RoomFor x o → RoomFor y o
room_still x y still None room = tt
room_still x y still (Some p) room = still 0 room
