-- A head's words on small lists, computed.
use Rattle.std.proofs.Common.{◌≡◌, [], ◌∷◌, Some, None, refl}
use Rattle.wave_base.specs.declared.call.Call.{Call}
use Rattle.wave_base.specs.declared.script.Line.TheVariants.{Request, Snapshot}
use Rattle.wave_base.specs.Fold.{next_batch, tickets_of}
use Rattle.head_tickets.specs.Heads.{Heading, head_of, next_ticket, last_known, requests}

abbrev call : Call
call = record { event = 0; args = []; generation = 1 }

-- two lines of the first batch, of which one was admitted
abbrev begun : Heading
begun = record { first = 7; admitted = 1; waiting = Snapshot ∷ []; later = (Snapshot ∷ []) ∷ []; done = 0; room = 0 }

next_is_8 : next_ticket begun ≡ Some (record { 0 = 8 })
next_is_8 = refl

last_is_8 : last_known begun ≡ 8
last_is_8 = refl

-- what the admitted job creates comes after the line that waits
tickets_9_10 : tickets_of 7 (head_of (Request call ∷ []) begun) (requests (call ∷ call ∷ [])) ≡ 9 ∷ 10 ∷ []
tickets_9_10 = refl

-- all is done: the fold's next batch has begun, and here it is to begin
abbrev ended : Heading
ended = record { first = 7; admitted = 2; waiting = []; later = (Snapshot ∷ []) ∷ []; done = 2; room = 0 }

none_next : next_ticket ended ≡ None
none_next = refl

begins_next : (next_batch (head_of (Snapshot ∷ Snapshot ∷ []) ended)).known ≡ Snapshot ∷ Snapshot ∷ Snapshot ∷ []
begins_next = refl
