-- A Stop: what it found, and what the machine stands for after it.
use Rattle.std.proofs.Common.{◌≡◌, ◌≢◌, ◌∙◌, ℕ, ◌+◌, ◌<◌, ◌==◌, ◌&&◌, Bool, true, false, List, [], ◌∷◌, ◌++◌, length, is_some, get_or, Option, Some, None, refl, sym, ap, subst, cond, arith}
use Rattle.std.specs.Prelude.{nat_eq, position, slice_get, slice_set, option_map}
use Rattle.std.specs.FinMap as table
use Rattle.std.proofs.lemmas.Bool.{eqb-true}
use Rattle.std.proofs.lemmas.List.{length-set}
use Rattle.std.proofs.lemmas.List.Quantifiers.{position-Some}
use Rattle.std.proofs.lemmas.Option.{slice_get-get_or}
use Rattle.wave_base.specs.declared.outcome.EventResult.{EventResult}
use Rattle.wave_base.specs.declared.path.Path.{Path}
use Rattle.wave_base.specs.declared.pause.Pause.{Pause}
use Rattle.wave_base.specs.declared.pause.Pause.TheVariants as pause
use Rattle.wave_base.specs.declared.record.Record.{Record}
use Rattle.wave_base.specs.Paths.{path_eq}
use Rattle.wave_base.specs.Places.{move_of}
use Rattle.commit_order.specs.Commits.{Committing}
use Rattle.context_queue.specs.Entries.{record_of}
use Rattle.host_map.specs.Stores.{Stores, IsAt, Matches, has, mark_of}
use Rattle.event_cells.specs.declared.cell.Cell.{Cell}
use Rattle.event_cells.specs.declared.outbox.Envelope.{Envelope}
use Rattle.event_cells.specs.Cells.{StandsFor, with_actor}
use Rattle.code_actor.specs.CodeActors.{Fields, pause_of}
use Rattle.wave_states.specs.Actors.{Actors}
use Rattle.wave_states.specs.Labels as labels
use Rattle.wave_states.specs.Labels.{Label}
use Rattle.wave_states.specs.States as theory
use Rattle.wave_states.specs.States.{Column, Hand, Event, holds_as_peek, set}
use Rattle.wave_states.specs.Steps.{Bench, Part, act_bench, cell_of, desk_back, part_of, segment_of, step, stop, with_bench}
use Rattle.wave_states.specs.Desks.{Desk}
use Rattle.wave_theory.proofs.Basics.{if_some, map_some, none_not, some_same}
use Rattle.wave_theory.proofs.Opened.{Stopping, stopping}
use Rattle.plan_actors.specs.PlanActors.{plan_actors}
use Rattle.plan_actors.specs.Plans.{Plan}
use Rattle.wave_effects.specs.declared.actor.Actor.{Actor}
use Rattle.wave_effects.specs.declared.kept.Out.{Out}
use Rattle.wave_effects.specs.declared.kept.Settled.{Settled}
use Rattle.wave_effects.specs.declared.lease.Lease.{Lease}
use Rattle.wave_effects.specs.Actors.{IsActor, actor_of, peeks_now}
use Rattle.wave_effects.specs.Machines.{TheState, Kept, IsCell, IsOut, Shows, event_as}
use Rattle.wave_effects.specs.Running.{IsBack, Stops, stop_of}
use Rattle.wave_effects.specs.inner.Leaving.{HasLeft, HasMail, Tells, onward, stopped_by}
use Rattle.wave_effects.specs.Spare.{SameButRooms}
use Rattle.wave_effects.proofs.CellParts.{TheCell, ThePart, same_event}
use Rattle.wave_effects.proofs.Leaves.{cell_as, desk_as, part_as, stopped_as, stopped_else, stopped_is}
use Rattle.wave_effects.proofs.Opening.{Left, left_by as left_of}
use Rattle.wave_effects.proofs.Parts.{each_set, each_store}
use Rattle.wave_effects.proofs.Halting.{Segments, no_result}
use Rattle.wave_effects.proofs.Roomy.{keeps}
use Rattle.wave_effects.proofs.Starting.{TheBench, each_hand}
use Rattle.wave_effects.proofs.Taking.{Laws, after}

-- another cell, store and hand, and other results
abbrev pub after_stop : Kept → ℕ → Cell Actor → ℕ → Stores → ℕ → Committing → Kept
after_stop m i c h st w commits = record { plan = m.plan; first = m.first; head = m.head; commits = commits; settled = m.settled; cells = slice_set m.cells i c; stores = slice_set m.stores h st; hands = slice_set m.hands w None }

-- the results with that of a ticket, if it has one
pub record Adds (commits commits' : Committing) (t : ℕ) (result : Option EventResult) : Type 0 where
  pub committed : commits'.committed ≡ commits.committed
  pub results : (u : ℕ) → table.get commits'.results u ≡ set nat_eq (table.get commits.results) t result u

module _ (m : Kept) (s : TheState) (t : ℕ) (p : Path) (w : ℕ) (y : TheBench) (result : Option EventResult) (commits : Committing) where
  abbrev then_state : TheState
  then_state = with_bench s t p w y

  -- a ticket that had no result has this one now, or none; its cell, the stores and the hands are others
  pub ending : (i : ℕ) (c : Cell Actor) (stores : List Stores) (hands : List (Option Out)) → Shows m s → m.first + i ≡ t → IsCell m.plan.program c y.part.cell → y.part.cell.result ≡ result → (s.cells t).result ≡ None → Adds m.commits commits t result
      → length stores ≡ length m.stores → ((h : ℕ) (x : Stores) → slice_get stores h ≡ Some x → (q : Path) → IsAt x q (then_state.columns q) h)
      → length hands ≡ length m.hands → ((v : ℕ) (o : Option Out) → slice_get hands v ≡ Some o → IsOut o (then_state.hands v))
      → Shows (record { plan = m.plan; first = m.first; head = m.head; commits = commits; settled = m.settled; cells = slice_set m.cells i c; stores = stores; hands = hands }) then_state
  ending i c stores hands h at cell is none adds as_many columns as_many_hands each_hand = record {
    head = record { lines = h.head.lines; as_many = h.head.as_many; head = h.head.head; admitted = h.head.admitted; before = h.head.before; first = h.head.first };
    cells = record {
      as_many = length-set m.cells i c ∙ h.cells.as_many;
      each = λ j d e. subst (λ (n : ℕ). IsCell m.plan.program d (set nat_eq s.cells n y.part.cell (m.first + j))) at (each_set (IsCell m.plan.program) m.cells m.first s.cells i c y.part.cell h.cells.each cell j d e);
    };
    results = record {
      as_many = h.results.as_many;
      next = ap (λ n. n + 1) adds.committed ∙ h.results.next;
      settled = λ j x e. still (m.first + j) x (h.results.settled j x e);
      ledger = record { kinds = h.results.ledger.kinds; head = h.results.ledger.head; made = h.results.ledger.made };
      ended = λ u l. now_has u (h.results.ended u (subst (λ n. n < u) adds.committed l)) ∙ sym (adds.results u);
    };
    stores = record { as_many = as_many ∙ h.stores.as_many; each = columns };
    hands = record { as_many = as_many_hands ∙ h.hands.as_many; each = each_hand };
  }
    where
      still : (u : ℕ) (x : Settled) → (s.cells u).result ≡ Some x.result → (then_state.cells u).result ≡ Some x.result
      still u x e = by_test (nat_eq t u) refl
        where
          by_test : (b : Bool) → nat_eq t u ≡ b → (cond b y.part.cell (s.cells u)).result ≡ Some x.result
          by_test true k = absurd (none_not (sym none ∙ ap (λ n. (s.cells n).result) (eqb-true t u k) ∙ e))
          by_test false k = e

      now_has : (u : ℕ) → (s.cells u).result ≡ table.get m.commits.results u → (then_state.cells u).result ≡ set nat_eq (table.get m.commits.results) t result u
      now_has u e = by_test (nat_eq t u)
        where
          by_test : (b : Bool) → (cond b y.part.cell (s.cells u)).result ≡ cond b result (table.get m.commits.results u)
          by_test true = is
          by_test false = e

-- an event that has no result, and a column
abbrev bare : Desk Actor Fields → Column Fields → Part Actor Fields EventResult
bare d c = record { cell = cell_of d None; column = c }

-- what the private calls make of a cell and a store, as a lease's pause asks
pub record Leaves (c c' : Cell Actor) (st st' : Stores) (lease : Lease) (why : Pause) (host : ℕ) (result : Option EventResult) : Type 0 where
  pub part : (d : Desk Actor Fields) (x y : Part Actor Fields EventResult) (en : theory.Entry Fields) → StandsFor c d → IsAt st lease.path x.column host → x.column.store host ≡ Some en → x.cell.result ≡ None
      → stopped_by move_of lease.path host x (with_actor d (Some lease.actor) theory.Travelling) en (record_of lease.body) (peeks_now lease.actor) (pause_of why) (holds_as_peek d.event.held lease.path) ≡ Some y → HasLeft c' st' lease.path host result y
  pub actor : (a : Actor) → c'.actor ≡ Some a → a ≡ lease.actor
  pub store : (q : Path) → q ≢ lease.path → table.get st'.store q ≡ table.get st.store q
  pub gone : (q : Path) → q ≢ lease.path → table.get st'.gone q ≡ table.get st.gone q

-- a Stop empties the hand
module _ {A F R J : Type 0} (sys : Actors A F R J) (host : ℕ) (x : Part A F R) (y : Bench A F R) (t : ℕ) (p : Path) where
  pub record Stopped (g : Hand A F) : Type 0 where
    pub found : stop sys p host g x ≡ Some y.part
    pub hand : y.hand ≡ None

  pub stop_found : (o : Option (Hand A F)) (g : Hand A F) → o ≡ Some g → act_bench sys (labels.Stop t p) host x o ≡ Some y → Stopped g
  stop_found None g e f = absurd (none_not e)
  stop_found (Some k) g e f =
      let i = if_some ((k.ticket == t) && path_eq k.path p) (option_map (λ z. record { part = z; hand = None }) (stop sys p host k x)) y f in
      let n = map_some {X = Part A F R} {Y = Bench A F R} (λ z. record { part = z; hand = None }) (stop sys p host k x) y i.1 in
      record {
        found = ap (λ h. stop sys p host h x) (sym (some_same k g e)) ∙ n.1 ∙ ap (λ (b : Bench A F R). Some b.part) (sym n.2);
        hand = ap (λ (b : Bench A F R). b.hand) n.2;
      }

module _ (m : Kept) (s s' : TheState) (lease : Lease) (why : Pause) (host : ℕ) (h : Shows m s) (back : IsBack m.plan.program s lease why) (taking : step (plan_actors m.plan.program) m.plan.workers s (stop_of lease host) ≡ Some s') where
  abbrev t : ℕ
  t = lease.ticket.0

  abbrev p : Path
  p = lease.path

  abbrev w : ℕ
  w = lease.worker.0

  pub left : Left (plan_actors m.plan.program) m.plan.workers s s' (stop_of lease host)
  left = left_of (plan_actors m.plan.program) m.plan.workers s s' (stop_of lease host) refl taking

  halted : Stopped (plan_actors m.plan.program) host (part_of s t p) left.bench t p back.hand
  halted = stop_found (plan_actors m.plan.program) host (part_of s t p) left.bench t p (s.hands w) back.hand back.there left.found

  pub v : Stopping (plan_actors m.plan.program) t p host back.hand (part_of s t p) left.bench.part
  v = stopping (plan_actors m.plan.program) t p host back.hand (part_of s t p) left.bench.part halted.found

  module _ (i : ℕ) (c : Cell Actor) (at : m.first + i ≡ t) (there : slice_get m.cells i ≡ Some c) (st : Stores) (here : slice_get m.stores host ≡ Some st) (fresh : (s.cells t).result ≡ None) where
    cell_is : IsCell m.plan.program c (s.cells t)
    cell_is = subst (λ n. IsCell m.plan.program c (s.cells n)) at (h.cells.each i c there)

    abbrev d : Desk Actor Fields
    d = cell_is.desk

    same : v.event ≡ event_as cell_is.desk.event
    same = same_event v.event (event_as cell_is.desk.event) (s.cells t).event v.event_is cell_is.event

    -- the Stop, told of the lease
    told : option_map part_as (stopped_by move_of p host (bare d (s.columns p)) (with_actor d (Some lease.actor) theory.Travelling) v.entry (record_of lease.body) (peeks_now lease.actor) (pause_of why) (holds_as_peek d.event.held p)) ≡ Some left.bench.part
    told =
        let sys = plan_actors m.plan.program in
        let g = back.hand in
        let acted = back.run.acted in
        let seg = segment_of sys g in
        let x : ThePart = part_of s t p in
        let x_is : part_as (bare d (s.columns p)) ≡ x = λ j. record { cell = record { event = sym cell_is.event j; mails = λ k. sym (cell_is.mails k) j; result = sym fresh j }; column = s.columns p } in
        let d_is : desk_as (with_actor d (Some lease.actor) theory.Travelling) ≡ desk_back (s.cells t) v.event seg.actor = λ j. record {
          event = record { actor = Some (sym acted.actor.same j); held = (sym same j).held; sent = (sym same j).sent; status = theory.Travelling };
          mails = λ k. sym (cell_is.mails k) j;
        } in
        let r_is : record_of lease.body ≡ record { fields = seg.fields; children = g.body.children } = λ j. record { fields = acted.left j; children = acted.kept j } in
        let looks_is : holds_as_peek d.event.held p ≡ holds_as_peek v.event.held p = λ j. holds_as_peek (sym same j).held p in
        sym (stopped_as move_of p host (bare d (s.columns p)) (with_actor d (Some lease.actor) theory.Travelling) v.entry (record_of lease.body) (peeks_now lease.actor) (pause_of why) (holds_as_peek d.event.held p))
        ∙ (λ j. stopped_by move_of p host (x_is j) (d_is j) v.entry (r_is j) (acted.actor.peeks j) (acted.pause j) (looks_is j))
        ∙ sym (stopped_is sys p host x (desk_back (s.cells t) v.event seg.actor) v.entry g.body.children seg (holds_as_peek v.event.held p))
        ∙ v.gives

    -- what is left, of actors as programs have them
    left_part : (y : Part Actor Fields EventResult) × (stopped_by move_of p host (bare d (s.columns p)) (with_actor d (Some lease.actor) theory.Travelling) v.entry (record_of lease.body) (peeks_now lease.actor) (pause_of why) (holds_as_peek d.event.held p) ≡ Some y) × (left.bench.part ≡ part_as y)
    left_part = map_some part_as (stopped_by move_of p host (bare d (s.columns p)) (with_actor d (Some lease.actor) theory.Travelling) v.entry (record_of lease.body) (peeks_now lease.actor) (pause_of why) (holds_as_peek d.event.held p)) left.bench.part told

    marked : IsActor m.plan.program lease.actor (actor_of lease.actor)
    marked = subst (IsActor m.plan.program lease.actor) back.run.acted.actor.same back.run.acted.actor

    module _ (c' : Cell Actor) (st' : Stores) (result : Option EventResult) (commits : Committing) (leaves : Leaves c c' st st' lease why host result) where
      has_left : HasLeft c' st' p host result left_part.0
      has_left = leaves.part d (bare d (s.columns p)) left_part.0 v.entry cell_is.stands (h.stores.each host st here p) v.entry_is refl left_part.1

      part_cell : left.bench.part.cell ≡ cell_as (cell_of has_left.desk result)
      part_cell = ap (λ (z : ThePart). z.cell) left_part.2 ∙ ap cell_as has_left.cell

      cell_then : IsCell m.plan.program c' left.bench.part.cell
      cell_then = record {
        desk = has_left.desk;
        stands = has_left.stands;
        event = ap (λ (z : TheCell). z.event) part_cell;
        mails = λ k. ap (λ (z : TheCell). z.mails k) part_cell;
        marked = λ a e. subst (λ z. IsActor m.plan.program z (actor_of z)) (sym (leaves.actor a e)) marked;
      }

      columns_then : (g : ℕ) (x : Stores) → slice_get (slice_set m.stores host st') g ≡ Some x → (q : Path) → IsAt x q (set path_eq s.columns p left.bench.part.column q) g
      columns_then =
          let column : left_part.0.column ≡ left.bench.part.column = ap (λ (z : ThePart). z.column) (sym left_part.2) in
          each_store m.stores s.columns host st' p left.bench.part.column h.stores.each (subst (λ z. IsAt st' p z host) column has_left.there)
          (λ q n. record { entry = subst (λ o. Matches o ((s.columns q).store host)) (sym (leaves.store q n)) (h.stores.each host st here q).entry; mark = (h.stores.each host st here q).mark ∙ ap (option_map mark_of) (sym (leaves.gone q n)) })
          (λ g n. subst (λ (z : Column Fields). ((s.columns p).store g ≡ z.store g) × ((s.columns p).gone g ≡ z.gone g)) column
          (stopped_else move_of p host (bare d (s.columns p)) (with_actor d (Some lease.actor) theory.Travelling) v.entry (record_of lease.body) (peeks_now lease.actor) (pause_of why) (holds_as_peek d.event.held p) left_part.0 left_part.1 g n))

      pub stood : Adds m.commits commits t result → Shows (after_stop m i c' host st' w commits) s'
      stood adds =
          subst (Shows (after_stop m i c' host st' w commits)) left.gives
          (ending m s t p w left.bench result commits i c' (slice_set m.stores host st') (slice_set m.hands w None) h at cell_then (ap (λ (z : TheCell). z.result) part_cell) fresh adds (length-set m.stores host st') columns_then (length-set m.hands w None)
          (each_hand m.hands s.hands w None left.bench.hand h.hands.each (subst (IsOut None) (sym halted.hand) tt)))

-- the host that a search found has the context
pub placed_at : (q : Path) (xs : List Stores) (h : ℕ) → position (has q) xs ≡ Some h → (st : Stores) × (slice_get xs h ≡ Some st) × (has q st ≡ true)
placed_at q [] h e = absurd (none_below h (position-Some (has q) [] h nothing e).0)
  where
    nothing : Stores
    nothing = record { store = table.empty; gone = table.empty; path_room = 0; mark_room = 0 }

    none_below : (h : ℕ) → h < 0 → ⊥
    none_below h l = omega (arith, l)
placed_at q (x ∷ xs) h e =
    let f = position-Some (has q) (x ∷ xs) h x e in
    (get_or (x ∷ xs) h x, slice_get-get_or (x ∷ xs) h x f.0, f.1)

-- what `leave` ensures of a lease, whose body has changed since its segment
pub record LeftOf (c c' : Cell Actor) (st st' : Stores) (why : Pause) (host : ℕ) (mail : Option Envelope) (result : Option EventResult) (l : Lease) : Type 0 where
  pub part : (d : Desk Actor Fields) (x y : Part Actor Fields EventResult) (en : theory.Entry Fields) (r : Record) (peek : Bool) → StandsFor c d → IsAt st l.path x.column host → x.column.store host ≡ Some en → x.cell.result ≡ None
      → Tells (onward host l.path (record_of r) d.event.held peek why) r mail l.body
      → stopped_by move_of l.path host x (with_actor d (Some l.actor) theory.Travelling) en (record_of r) peek (pause_of why) (holds_as_peek d.event.held l.path) ≡ Some y → HasLeft c' st' l.path host result y
  pub actor : (a : Actor) → c'.actor ≡ Some a → a ≡ l.actor
  pub store : (q : Path) → q ≢ l.path → table.get st'.store q ≡ table.get st.store q
  pub gone : (q : Path) → q ≢ l.path → table.get st'.gone q ≡ table.get st.gone q

pub leaves_as : (c c' : Cell Actor) (st st' : Stores) (why : Pause) (host : ℕ) (mail : Option Envelope) (result : Option EventResult) (l lease : Lease) → l ≡ record { worker = lease.worker; ticket = lease.ticket; path = lease.path; actor = lease.actor; body = l.body }
    → LeftOf c c' st st' why host mail result l → ((d : Desk Actor Fields) → StandsFor c d → Tells (onward host lease.path (record_of lease.body) d.event.held (peeks_now lease.actor) why) lease.body mail l.body) → Leaves c c' st st' lease why host result
leaves_as c c' st st' why host mail result l lease e f tells =
    let g = subst (LeftOf c c' st st' why host mail result) e f in
    record {
      part = λ d x y en stands at is none left. g.part d x y en lease.body (peeks_now lease.actor) stands at is none (tells d stands) left;
      actor = g.actor;
      store = g.store;
      gone = g.gone;
    }

module _ (m m' : Kept) (same : SameButRooms m m') where
  -- it still has it
  pub still_has : (p : Path) (h : ℕ) (st st' : Stores) → slice_get m.stores h ≡ Some st → has p st ≡ true → slice_get m'.stores h ≡ Some st' → has p st' ≡ true
  still_has p h st st' there e there' =
      let of = same.stores h st' there' in
      let old : of.stores ≡ st = some_same of.stores st (sym of.there ∙ there) in
      ap (λ x. is_some (table.get x p)) of.store ∙ ap (has p) old ∙ e

  pub stops_still : (lease : Lease) (why : Pause) (host : ℕ) (m2 : Kept) → Stops m' lease why host m2 → Stops m lease why host m2
  stops_still lease why host m2 stops start s s' stands back taking =
      stops start s s' (keeps m m' same start s stands) (subst (λ (x : Plan). IsBack x.program s lease why) (sym same.plan) back)
      (subst (λ (x : Plan). step (plan_actors x.program) x.workers s (stop_of lease host) ≡ Some s') (sym same.plan) taking)

module _ (laws : Laws) (segments : Segments) (m : Kept) (lease : Lease) (why : Pause) (host : ℕ) where
  pub stop_taken : (i : ℕ) (c c' : Cell Actor) (st st' : Stores) (result : Option EventResult) (commits : Committing) → m.first + i ≡ lease.ticket.0 → slice_get m.cells i ≡ Some c → slice_get m.stores host ≡ Some st → Leaves c c' st st' lease why host result → Adds m.commits commits lease.ticket.0 result
      → Stops m lease why host (after_stop m i c' host st' lease.worker.0 commits)
  stop_taken i c c' st st' result commits at there here leaves adds start s s' stands back taking =
      record {
        fits = stands.fits;
        begins = stands.begins;
        labels = stands.labels ++ stop_of lease host ∷ [];
        reached = after laws m start s stands (stop_of lease host) s' taking;
        shows = stood m s s' lease why host stands.shows back taking i c at there st here (no_result laws segments m lease why start s stands back) c' st' result commits leaves adds;
      }

-- all but what is over has a mail
pub has_mail : (host : ℕ) (p : Path) (r : Record) (held : List (Path × theory.Hold)) (peek : Bool) (why : Pause) (mail : Option Envelope) (r' : Record) → Tells (onward host p (record_of r) held peek why) r mail r' → HasMail why mail
has_mail host p r held peek (pause.Over x) mail r' h = tt
has_mail host p r held peek (pause.Go s) None r' h = absurd h
has_mail host p r held peek (pause.Go s) (Some e) r' h = refl
has_mail host p r held peek (pause.Down s) None r' h = absurd h
has_mail host p r held peek (pause.Down s) (Some e) r' h = refl
has_mail host p r held peek pause.Back None r' h = absurd h
has_mail host p r held peek pause.Back (Some e) r' h = refl

pub mapped_some : {X Y : Type 0} (f : X → Y) (o : Option X) (r : Option Y) → option_map f o ≡ r → is_some r ≡ true → is_some o ≡ true
mapped_some f None r e h = ap is_some e ∙ h
mapped_some f (Some x) r e h = refl
